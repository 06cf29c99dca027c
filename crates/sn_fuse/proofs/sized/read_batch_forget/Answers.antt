use Rattle.std.proofs.Common.{◌≡◌, ℕ, List, [], ◌∷◌, ◌++◌, ◌∙◌, refl, sym, ap, length, append_assoc, length-append, arith}
use Rattle.sn_bytes.specs.Bytes.{number_bytes}
use Rattle.sn_bytes.proofs.Fields.{IsBytes, length-number_bytes}
use Rattle.sn_fuse.specs.Forgets.{forgets_in}
use Rattle.sn_fuse.specs.Body.{Unread, Pairs}
use Rattle.sn_fuse.specs.Operation.{fields_of}
use Rattle.sn_fuse.specs.declared.operation.Op.TheVariants.{BatchForget}
use Rattle.sn_fuse.proofs.Bodies.{peel_number, peel_unread, spelled_size}
use Rattle.sn_fuse.proofs.Forgetting.{behind_bytes, forgets_size, length-forgets_in, forgets_spelled}
use Rattle.sn_fuse.proofs.sized.read_batch_forget.Goals as goal

pub returns-then-remaining-lt8-clause-none : goal.returns-then-remaining-lt8-clause-none
returns-then-remaining-lt8-clause-none c = λ _ forgets s.
    absurd (omega (arith, ap length c.new-fields.ensures, (spelled_size (fields_of (BatchForget forgets)) (Pairs forgets) c.args.body.now s).1))

pub returns-then-remaining-count-clause-none : goal.returns-then-remaining-count-clause-none
returns-then-remaining-count-clause-none c = λ _ forgets s.
    let count = peel_number 4 (length forgets) c.u32-count.result (Unread 4 ∷ []) (Pairs forgets) c.args.body.now c.u32-count.new.self (omega arith) (sym c.new-fields.ensures ∙ c.u32-count.ensures.read) s in
    let rest = peel_unread 4 [] (Pairs forgets) c.u32-count.new.self c.bytes.result.now c.bytes.new.self c.bytes.ensures.count c.bytes.ensures.read count.1 in
    absurd (omega (arith, count.0, ap length rest.1, forgets_size forgets))

pub returns-clause-found : goal.returns-clause-found
returns-clause-found c =
    let count = c.u32-count.result in
    let bytes = c.bytes.new.self in
    let unread = c.bytes.result.now in
    let same = c.new.ensures ∙ ap (forgets_in count) c.rest.ensures in
    let first : c.args.body.now ≡ number_bytes 4 count ++ c.u32-count.new.self = sym c.new-fields.ensures ∙ c.u32-count.ensures.read in
    let whole : c.args.body.now ≡ (number_bytes 4 count ++ unread) ++ bytes =
    first ∙ ap (λ (r : List ℕ). number_bytes 4 count ++ r) c.bytes.ensures.read ∙ sym (append_assoc (number_bytes 4 count) unread bytes) in
    let front : length (number_bytes 4 count ++ unread) ≡ 8 = omega (arith, length-append (number_bytes 4 count) unread, length-number_bytes 4 count, c.bytes.ensures.count) in
    let are : IsBytes bytes = behind_bytes 8 c.args.body.now (number_bytes 4 count ++ unread) bytes (λ i. omega (arith, c.type_inv.body i)) front whole in
    let spelled = forgets_spelled count bytes are (omega arith) in
    rw (same, length-forgets_in count bytes) (refl, (c.u32-count.new.self, (omega arith, first), (bytes, (unread, c.bytes.ensures.count, c.bytes.ensures.read), spelled)))
