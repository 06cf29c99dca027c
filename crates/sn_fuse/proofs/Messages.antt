-- What bytes are is one thing alone.
use Rattle.std.proofs.Common.{◌≡◌, ℕ, ◌^◌, ◌<◌, List, [], ◌∷◌, ◌++◌, length, map, inl, inr, refl, sym, ap, ◌∙◌, subst, length-append, arith}
use Rattle.byteorder.specs.Endian.{little_number}
use Rattle.byteorder.specs.Numbers.{little_number-reads_back}
use Rattle.sn_bytes.specs.Bytes.{number_bytes}
use Rattle.sn_bytes.proofs.Fields.{same_fronts}
use Rattle.sn_fuse.specs.declared.message.Head.{Head}
use Rattle.sn_fuse.specs.declared.message.Decoded.{Decoded}
use Rattle.sn_fuse.specs.declared.message.Decoded.TheVariants.{Short, Unknown, Misspelt, Request}
use Rattle.sn_fuse.specs.declared.opcode.Opcode.{Opcode}
use Rattle.sn_fuse.specs.declared.opcode.Opcode.TheVariants as code
use Rattle.sn_fuse.specs.declared.operation.Op.{Op}
use Rattle.sn_fuse.specs.Body.{Field, Number, Unread, Text, End, Nothing, Data, Pairs, Anything, Ends, Spells}
use Rattle.sn_fuse.specs.Message.{Frames, IsAnswer, IsShort, IsRequest, head_fields, told_length}
use Rattle.sn_fuse.specs.Opcode.{opcode_number}
use Rattle.sn_fuse.specs.Operation.{IsBody, opcode_of, fields_of, end_of}
use Rattle.sn_fuse.proofs.Bodies.{peel_number, peel_unread, peel_text, spelled_size}
use Rattle.sn_fuse.proofs.Forgetting.{same_forgets}
use Rattle.sn_fuse.proofs.Opcodes.{op_from, made_again, at_opcode, number_at, same_opcodes}

-- ---- what a body can be, whatever its values are

data Kind : Type 0 where
  Numeral : (width : ℕ) → Kind
  Gap : (width : ℕ) → Kind
  Word : Kind

abbrev kind_of : Field → Kind
kind_of (Number width value) = Numeral width
kind_of (Unread width) = Gap width
kind_of (Text name) = Word

data EndKind : Type 0 where
  Closed : EndKind
  Whole : EndKind
  Counted : EndKind
  Free : EndKind

abbrev end_kind : End → EndKind
end_kind Nothing = Closed
end_kind (Data bytes) = Whole
end_kind (Pairs forgets) = Counted
end_kind Anything = Free

-- ---- no bytes spell two things of one kind

same_ends : (d e : End) (bytes : List ℕ) → end_kind d ≡ end_kind e → Ends d bytes → Ends e bytes → d ≡ e
same_ends Nothing Nothing bytes k x y = refl
same_ends (Data a) (Data b) bytes k x y = ap Data (sym x ∙ y)
same_ends (Pairs a) (Pairs b) bytes k x y = ap Pairs (same_forgets a b x.0 y.0 (sym x.1 ∙ y.1))
same_ends Anything Anything bytes k x y = refl
same_ends d e bytes k x y = absurd cc

same_spelled : (fs gs : List Field) (d e : End) (bytes : List ℕ) → map kind_of fs ≡ map kind_of gs → end_kind d ≡ end_kind e
    → Spells fs d bytes → Spells gs e bytes → (fs ≡ gs) × (d ≡ e)
same_spelled [] [] d e bytes k l x y = (refl, same_ends d e bytes l x y)
same_spelled [] (g ∷ gs) d e bytes k l x y = absurd cc
same_spelled (f ∷ fs) [] d e bytes k l x y = absurd cc
same_spelled (Number w v ∷ fs) (Number u n ∷ gs) d e bytes k l x y =
    let width : w ≡ u = cc in
    let fits = subst (λ (r : ℕ). n < 256 ^ r) (sym width) y.1.0 in
    let here = peel_number w v n fs d bytes y.0 fits (y.1.1 ∙ ap (λ (r : ℕ). number_bytes r n ++ y.0) (sym width)) x in
    let later = same_spelled fs gs d e y.0 (cc) l here.1 y.2 in
    (rw (width, here.0, later.0) refl, later.1)
same_spelled (Unread w ∷ fs) (Unread u ∷ gs) d e bytes k l x y =
    let width : w ≡ u = cc in
    let here = peel_unread w fs d bytes y.1.0 y.0 (y.1.1 ∙ sym width) y.1.2 x in
    let later = same_spelled fs gs d e y.0 (cc) l here y.2 in
    (rw (width, later.0) refl, later.1)
same_spelled (Text a ∷ fs) (Text b ∷ gs) d e bytes k l x y =
    let here = peel_text a b fs d bytes y.0 y.1.0 y.1.1 x in
    let later = same_spelled fs gs d e y.0 (cc) l here.1 y.2 in
    (rw (here.0, later.0) refl, later.1)
same_spelled (f ∷ fs) (g ∷ gs) d e bytes k l x y = absurd cc

-- ---- the opcode says which kinds are in a body

record SameKinds (a b : Op) : Type 0 where
  fields : map kind_of (fields_of a) ≡ map kind_of (fields_of b)
  end : end_kind (end_of a) ≡ end_kind (end_of b)

kinds_from : (opcode : Opcode) (fields : List Field) (end : End) → SameKinds (op_from opcode fields end) (op_from opcode [] Nothing)
kinds_from code.Lookup fields end = record { fields = refl; end = refl }
kinds_from code.Forget fields end = record { fields = refl; end = refl }
kinds_from code.GetAttr fields end = record { fields = refl; end = refl }
kinds_from code.SetAttr fields end = record { fields = refl; end = refl }
kinds_from code.Symlink fields end = record { fields = refl; end = refl }
kinds_from code.Mknod fields end = record { fields = refl; end = refl }
kinds_from code.Mkdir fields end = record { fields = refl; end = refl }
kinds_from code.Unlink fields end = record { fields = refl; end = refl }
kinds_from code.Rmdir fields end = record { fields = refl; end = refl }
kinds_from code.Rename fields end = record { fields = refl; end = refl }
kinds_from code.Link fields end = record { fields = refl; end = refl }
kinds_from code.Open fields end = record { fields = refl; end = refl }
kinds_from code.Read fields end = record { fields = refl; end = refl }
kinds_from code.Write fields end = record { fields = refl; end = refl }
kinds_from code.Statfs fields end = record { fields = refl; end = refl }
kinds_from code.Release fields end = record { fields = refl; end = refl }
kinds_from code.Fsync fields end = record { fields = refl; end = refl }
kinds_from code.SetXattr fields end = record { fields = refl; end = refl }
kinds_from code.GetXattr fields end = record { fields = refl; end = refl }
kinds_from code.ListXattr fields end = record { fields = refl; end = refl }
kinds_from code.RemoveXattr fields end = record { fields = refl; end = refl }
kinds_from code.Flush fields end = record { fields = refl; end = refl }
kinds_from code.Init fields end = record { fields = refl; end = refl }
kinds_from code.OpenDir fields end = record { fields = refl; end = refl }
kinds_from code.ReadDir fields end = record { fields = refl; end = refl }
kinds_from code.ReleaseDir fields end = record { fields = refl; end = refl }
kinds_from code.FsyncDir fields end = record { fields = refl; end = refl }
kinds_from code.Access fields end = record { fields = refl; end = refl }
kinds_from code.Create fields end = record { fields = refl; end = refl }
kinds_from code.Interrupt fields end = record { fields = refl; end = refl }
kinds_from code.BatchForget fields end = record { fields = refl; end = refl }
kinds_from code.Rename2 fields end = record { fields = refl; end = refl }

same_kinds : (a b : Op) → opcode_of a ≡ opcode_of b → SameKinds a b
same_kinds a b e =
    let P = λ (o : Op). SameKinds o (op_from (opcode_of b) [] Nothing) in
    let one = at_opcode P (opcode_of b) (kinds_from (opcode_of b)) a e in
    let other = at_opcode P (opcode_of b) (kinds_from (opcode_of b)) b refl in
    record { fields = one.fields ∙ sym other.fields; end = one.end ∙ sym other.end }

same_bodies : (a b : Op) (body : List ℕ) → opcode_of a ≡ opcode_of b → IsBody a body → IsBody b body → a ≡ b
same_bodies a b body e x y =
    let kinds = same_kinds a b e in
    let same = same_spelled (fields_of a) (fields_of b) (end_of a) (end_of b) body kinds.fields kinds.end x y in
    sym (made_again a)
    ∙ ap (λ (o : Opcode). op_from o (fields_of a) (end_of a)) e
    ∙ ap (λ (fs : List Field). op_from (opcode_of b) fs (end_of a)) same.0
    ∙ ap (op_from (opcode_of b) (fields_of b)) same.1
    ∙ made_again b

-- ---- heads

head_from : List Field → Head
head_from fields = record { length = number_at 0 fields; opcode = number_at 1 fields; unique = number_at 2 fields; node = number_at 3 fields; user = number_at 4 fields; group = number_at 5 fields; process = number_at 6 fields }

head_again : (head : Head) → head_from (head_fields head) ≡ head
unfolding head_from
head_again head = refl

pub same_frames : (bytes : List ℕ) (h k : Head) (a b : List ℕ) → Frames bytes h a → Frames bytes k b → (h ≡ k) × (a ≡ b)
same_frames bytes h k a b x y =
    let same = same_spelled (head_fields h) (head_fields k) (Data (a ++ x.more)) (Data (b ++ y.more)) bytes refl refl x.spelled y.spelled in
    let head = sym (head_again h) ∙ ap head_from same.0 ∙ head_again k in
    let whole : a ++ x.more ≡ b ++ y.more = cc in
    let length_of = ap (λ (head : Head). head.length) head in
    let long : length a ≡ length b = omega (arith, length_of, x.long, y.long) in
    (head, (same_fronts a b x.more y.more long whole).0)

-- what the first field of a message says is how long it is
pub told : (head : Head) (bytes rest : List ℕ) → head.length < 256 ^ 4 → bytes ≡ number_bytes 4 head.length ++ rest → told_length bytes ≡ head.length
unfolding number_bytes
told head bytes rest fits e = ap (little_number 4) e ∙ little_number-reads_back 4 head.length rest fits

short_framed : {A : Type 0} (bytes : List ℕ) (head : Head) (body : List ℕ) → IsShort bytes → Frames bytes head body → A
short_framed bytes head body short f =
    let size = spelled_size (head_fields head) (Data (body ++ f.more)) bytes f.spelled in
    let rest = ap length size.2 ∙ length-append body f.more in
    let is = told head bytes f.spelled.0 f.spelled.1.0 f.spelled.1.1 in
    absurd (elim short [
      | inl few ↦ omega (arith, size.1, rest)
      | inr other ↦ elim other [
        | inl less ↦ omega (arith, is, f.long)
        | inr over ↦ omega (arith, is, f.long, size.1, rest)
      ]
    ])

-- ---- answers

opcode_of_head : (h k : Head) → h ≡ k → h.opcode ≡ k.opcode
opcode_of_head h k e = ap (λ (head : Head). head.opcode) e

-- one operation has the opcode, and none has it
not_both : {A : Type 0} (bytes : List ℕ) (h k : Head) → IsAnswer bytes (Unknown h) → (body : List ℕ) (opcode : Opcode) → Frames bytes k body → opcode_number opcode ≡ k.opcode → A
not_both bytes h k unknown body opcode f e =
    let same = same_frames bytes k h body unknown.0 f unknown.1 in
    absurd (unknown.2 opcode (e ∙ opcode_of_head k h same.0))

-- the body spells none of its opcode, and spells one
spelt_and_not : {A : Type 0} (bytes : List ℕ) (h k : Head) (op : Op) → IsAnswer bytes (Misspelt h) → IsAnswer bytes (Request k op) → A
spelt_and_not bytes h k op none one =
    let same = same_frames bytes k h one.0 none.0 one.1 none.2 in
    let opcode = same_opcodes (opcode_of op) none.1 (one.2 ∙ opcode_of_head k h same.0 ∙ sym none.3) in
    absurd (none.4 op opcode (subst (IsBody op) same.1 one.3))

pub same_requests : (bytes : List ℕ) (h k : Head) (a b : Op) → IsRequest bytes h a → IsRequest bytes k b → (h ≡ k) × (a ≡ b)
same_requests bytes h k a b x y =
    let same = same_frames bytes h k x.0 y.0 x.1 y.1 in
    let opcode = same_opcodes (opcode_of a) (opcode_of b) (x.2 ∙ opcode_of_head h k same.0 ∙ sym y.2) in
    (same.0, same_bodies a b y.0 opcode (subst (IsBody a) same.1 x.3) y.3)

pub one_answer : (bytes : List ℕ) (a b : Decoded) → IsAnswer bytes a → IsAnswer bytes b → a ≡ b
one_answer bytes Short Short x y = refl
one_answer bytes Short (Unknown k) x y = short_framed bytes k y.0 x y.1
one_answer bytes Short (Misspelt k) x y = short_framed bytes k y.0 x y.2
one_answer bytes Short (Request k b) x y = short_framed bytes k y.0 x y.1
one_answer bytes (Unknown h) Short x y = short_framed bytes h x.0 y x.1
one_answer bytes (Misspelt h) Short x y = short_framed bytes h x.0 y x.2
one_answer bytes (Request h a) Short x y = short_framed bytes h x.0 y x.1
one_answer bytes (Unknown h) (Unknown k) x y = ap Unknown (same_frames bytes h k x.0 y.0 x.1 y.1).0
one_answer bytes (Misspelt h) (Misspelt k) x y = ap Misspelt (same_frames bytes h k x.0 y.0 x.2 y.2).0
one_answer bytes (Unknown h) (Misspelt k) x y = not_both bytes h k x y.0 y.1 y.2 y.3
one_answer bytes (Misspelt h) (Unknown k) x y = not_both bytes k h y x.0 x.1 x.2 x.3
one_answer bytes (Unknown h) (Request k b) x y = not_both bytes h k x y.0 (opcode_of b) y.1 y.2
one_answer bytes (Request h a) (Unknown k) x y = not_both bytes k h y x.0 (opcode_of a) x.1 x.2
one_answer bytes (Misspelt h) (Request k b) x y = spelt_and_not bytes h k b x y
one_answer bytes (Request h a) (Misspelt k) x y = spelt_and_not bytes k h a y x
one_answer bytes (Request h a) (Request k b) x y =
    let same = same_requests bytes h k a b x y in
    rw (same.0, same.1) refl
