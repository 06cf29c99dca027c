-- The words of a line other than numbers: what is read is spelled so, and what is spelled so is read.
use Rattle.std.proofs.Common.{◌≡◌, ℕ, ◌+◌, ◌-◌, ◌*◌, ◌/◌, ◌%◌, ◌^◌, ◌<◌, ◌≤◌, inl, inr, Bool, true, false, cond, leb, List, [], ◌∷◌, length, map, Option, Some, None, refl, sym, ap, subst, ◌∙◌, lit≤, lit<, arith}
use Rattle.std.specs.Prelude.{◌&&◌, ◌==◌, IfSome, decimal, codes}
use Rattle.std.specs.Char.{is_ascii_graphic}
use Rattle.std.specs.List.{AllByRecursion, join_with_byte, list_all}
use Rattle.std.specs.Str.{bytes_eq}
use Rattle.std.proofs.lemmas.Bool.{eqb-true, leb-true, le-leb}
use Rattle.std.proofs.lemmas.List.{length-map}
use Rattle.std.proofs.lemmas.List.Splits.{join_with_byte-slice_split}
use Rattle.std.proofs.lemmas.Slice.Eq.{bytes_eq-Decides}
use Rattle.sn_model.specs.Chains.{◌>>=◌}
use Rattle.sn_model.proofs.ChainLemmas.{bind_some, some_same}
use Rattle.sn_model.specs.declared.reply.Access.{Access}
use Rattle.sn_model.specs.declared.argument.AclKind.{AclKind}
use Rattle.sn_model.specs.declared.argument.AclKind.TheVariants.{Access as OfAccess, Default as OfDefault}
use Rattle.sn_model.specs.Texts.{access_text}
use Rattle.sn_words.specs.Fields.{parts, octal, id_word, numbers_word, is_word, kind_word}
use Rattle.sn_words.specs.Reading.{octal_digit_of, octal_of, right_of, want_of, kind_named, number_below, numbers_of, groups_of, id_of, word_of}
use Rattle.sn_words.proofs.Options.{chosen, passed, both_true}
use Rattle.sn_words.proofs.Numbers.{number_again, number_takes, numbers_again, numbers_take}
use Rattle.sn_words.proofs.Parts.{some_parts}
use Rattle.sn_words.proofs.Bytes.{Within, Lacks, decimal_within, lacks_outside, parts_join}

-- ---- octal digits

digit_takes : (b d : ℕ) → octal_digit_of b ≡ Some d → (b ≡ 48 + d) × (d < 8)
digit_takes b d e =
    let t = passed (leb 48 b && leb b 55) (Some (b - 48)) d e in
    let p = both_true (leb 48 b) (leb b 55) t.0 in
    let low = leb-true 48 b p.0 in
    let high = leb-true b 55 p.1 in
    let is = some_same (b - 48) d t.1 in
    (omega arith, omega arith)

digit_again : (d : ℕ) → d < 8 → octal_digit_of (48 + d) ≡ Some d
digit_again d lt =
    let low : leb 48 (48 + d) ≡ true = le-leb 48 (48 + d) (omega arith) in
    let high : leb (48 + d) 55 ≡ true = le-leb (48 + d) 55 (omega arith) in
    let back : 48 + d - 48 ≡ d = omega arith in
    rw (low, high, back) refl

abbrev octal_value : ℕ → ℕ → ℕ → ℕ → ℕ
octal_value i j k l = 512 * i + 64 * j + 8 * k + l

octal_digits : (i j k l : ℕ) → i < 8 → j < 8 → k < 8 → l < 8 → octal (octal_value i j k l) ≡ (48 + i) ∷ (48 + j) ∷ (48 + k) ∷ (48 + l) ∷ []
octal_digits i j k l p q r s =
    let a : octal_value i j k l / 512 ≡ i = omega arith in
    let b : octal_value i j k l / 64 % 8 ≡ j = omega arith in
    let c : octal_value i j k l / 8 % 8 ≡ k = omega arith in
    let d : octal_value i j k l % 8 ≡ l = omega arith in
    rw (a, b, c, d) refl

pub octal_takes : (word : List ℕ) (n : ℕ) → octal_of word ≡ Some n → (word ≡ octal n) × (n < 4096)
unfolding octal_of
octal_takes [] n e = absurd cc
octal_takes (a ∷ []) n e = absurd cc
octal_takes (a ∷ b ∷ []) n e = absurd cc
octal_takes (a ∷ b ∷ c ∷ []) n e = absurd cc
octal_takes (a ∷ b ∷ c ∷ d ∷ x ∷ xs) n e = absurd cc
octal_takes (a ∷ b ∷ c ∷ d ∷ []) n e =
    let w = bind_some (octal_digit_of a) (λ i. octal_digit_of b >>= (λ j. octal_digit_of c >>= (λ k. octal_digit_of d >>= (λ l. Some (512 * i + 64 * j + 8 * k + l))))) n e in
    let x = bind_some (octal_digit_of b) (λ j. octal_digit_of c >>= (λ k. octal_digit_of d >>= (λ l. Some (512 * w.0 + 64 * j + 8 * k + l)))) n w.2 in
    let y = bind_some (octal_digit_of c) (λ k. octal_digit_of d >>= (λ l. Some (512 * w.0 + 64 * x.0 + 8 * k + l))) n x.2 in
    let z = bind_some (octal_digit_of d) (λ l. Some (512 * w.0 + 64 * x.0 + 8 * y.0 + l)) n y.2 in
    let value = some_same (octal_value w.0 x.0 y.0 z.0) n z.2 in
    let p = digit_takes a w.0 w.1 in
    let q = digit_takes b x.0 x.1 in
    let r = digit_takes c y.0 y.1 in
    let s = digit_takes d z.0 z.1 in
    octal_from a b c d w.0 x.0 y.0 z.0 n p q r s value
  where
    octal_from : (a b c d i j k l n : ℕ) → (a ≡ 48 + i) × (i < 8) → (b ≡ 48 + j) × (j < 8) → (c ≡ 48 + k) × (k < 8) → (d ≡ 48 + l) × (l < 8)
        → octal_value i j k l ≡ n → (a ∷ b ∷ c ∷ d ∷ [] ≡ octal n) × (n < 4096)
    octal_from a b c d i j k l n p q r s value =
        let digits = octal_digits i j k l p.1 q.1 r.1 s.1 in
        let same : a ∷ b ∷ c ∷ d ∷ [] ≡ (48 + i) ∷ (48 + j) ∷ (48 + k) ∷ (48 + l) ∷ [] = rw (p.0, q.0, r.0, s.0) refl in
        (same ∙ sym digits ∙ ap octal value, omega (arith, value, p.1, q.1, r.1, s.1))

pub octal_again : (n : ℕ) → n < 4096 → octal_of (octal n) ≡ Some n
unfolding octal_of
octal_again n lt =
    let a = digit_again (n / 512) (omega arith) in
    let b = digit_again (n / 64 % 8) (omega arith) in
    let c = digit_again (n / 8 % 8) (omega arith) in
    let d = digit_again (n % 8) (omega arith) in
    let whole : octal_value (n / 512) (n / 64 % 8) (n / 8 % 8) (n % 8) ≡ n = omega arith in
    rw (a, b, c, d, whole) refl

-- ---- rights that are asked, and kinds of ACLs

abbrev pub asked : Bool → Bool → Bool → Access
asked r w x = record { read = r; write = w; execute = x }

letter : ℕ → Bool → ℕ
letter l true = l
letter l false = 45

right_takes : (l b : ℕ) (t : Bool) → right_of l b ≡ Some t → b ≡ letter l t
unfolding letter
right_takes l b t e =
    elim (chosen (b == l) (Some true) (cond (b == 45) (Some false) None) (Some t) e) [
      | inl h ↦ let is : true ≡ t = some_same true t h.1 in subst (λ (s : Bool). b ≡ letter l s) is (eqb-true b l h.0)
      | inr h ↦
          let p = passed (b == 45) (Some false) t h.1 in
          let is : false ≡ t = some_same false t p.1 in
          subst (λ (s : Bool). b ≡ letter l s) is (eqb-true b 45 p.0)
    ]

asked_text : (r w x : Bool) → letter 114 r ∷ letter 119 w ∷ letter 120 x ∷ [] ≡ access_text (asked r w x)
unfolding letter
asked_text true true true = refl
asked_text true true false = refl
asked_text true false true = refl
asked_text true false false = refl
asked_text false true true = refl
asked_text false true false = refl
asked_text false false true = refl
asked_text false false false = refl

letters : (a b c x y z : ℕ) → a ≡ x → b ≡ y → c ≡ z → a ∷ b ∷ c ∷ [] ≡ x ∷ y ∷ z ∷ []
letters a b c x y z p q r = cc

pub want_takes : (word : List ℕ) (want : Access) → want_of word ≡ Some want → word ≡ access_text want
unfolding want_of
want_takes [] want e = absurd cc
want_takes (a ∷ []) want e = absurd cc
want_takes (a ∷ b ∷ []) want e = absurd cc
want_takes (a ∷ b ∷ c ∷ d ∷ more) want e = absurd cc
want_takes (a ∷ b ∷ c ∷ []) want e =
    let r = bind_some (right_of 114 a) (λ r. right_of 119 b >>= (λ w. right_of 120 c >>= (λ x. Some (asked r w x)))) want e in
    let w = bind_some (right_of 119 b) (λ w. right_of 120 c >>= (λ x. Some (asked r.0 w x))) want r.2 in
    let x = bind_some (right_of 120 c) (λ x. Some (asked r.0 w.0 x)) want w.2 in
    let p = right_takes 114 a r.0 r.1 in
    let q = right_takes 119 b w.0 w.1 in
    let s = right_takes 120 c x.0 x.1 in
    letters a b c (letter 114 r.0) (letter 119 w.0) (letter 120 x.0) p q s ∙ asked_text r.0 w.0 x.0 ∙ ap access_text (some_same (asked r.0 w.0 x.0) want x.2)

asked_again : (r w x : Bool) → want_of (access_text (asked r w x)) ≡ Some (asked r w x)
unfolding want_of
asked_again true true true = refl
asked_again true true false = refl
asked_again true false true = refl
asked_again true false false = refl
asked_again false true true = refl
asked_again false true false = refl
asked_again false false true = refl
asked_again false false false = refl

pub want_again : (want : Access) → want_of (access_text want) ≡ Some want
want_again want = asked_again want.read want.write want.execute

asked_graphic : (r w x : Bool) → list_all is_ascii_graphic (access_text (asked r w x)) ≡ true
asked_graphic true true true = refl
asked_graphic true true false = refl
asked_graphic true false true = refl
asked_graphic true false false = refl
asked_graphic false true true = refl
asked_graphic false true false = refl
asked_graphic false false true = refl
asked_graphic false false false = refl

pub want_graphic : (want : Access) → list_all is_ascii_graphic (access_text want) ≡ true
want_graphic want = asked_graphic want.read want.write want.execute

pub kind_takes : (word : List ℕ) (kind : AclKind) → kind_named word ≡ Some kind → word ≡ kind_word kind
unfolding kind_named
kind_takes word kind e =
    elim (chosen (bytes_eq word (codes "a")) (Some OfAccess) (cond (bytes_eq word (codes "d")) (Some OfDefault) None) (Some kind) e) [
      | inl h ↦ (bytes_eq-Decides word (codes "a")).0 h.0 ∙ ap kind_word (some_same OfAccess kind h.1)
      | inr h ↦
          let p = passed (bytes_eq word (codes "d")) (Some OfDefault) kind h.1 in
          (bytes_eq-Decides word (codes "d")).0 p.0 ∙ ap kind_word (some_same OfDefault kind p.1)
    ]

pub kind_again : (kind : AclKind) → kind_named (kind_word kind) ≡ Some kind
unfolding kind_named
kind_again OfAccess = refl
kind_again OfDefault = refl

pub kind_graphic : (kind : AclKind) → list_all is_ascii_graphic (kind_word kind) ≡ true
kind_graphic OfAccess = refl
kind_graphic OfDefault = refl

-- ---- words

pub word_takes : (bytes w : List ℕ) → word_of bytes ≡ Some w → (bytes ≡ w) × (is_word w ≡ true)
word_takes bytes w e =
    let t = passed (is_word bytes) (Some bytes) w e in
    let same = some_same bytes w t.1 in
    (same, ap is_word (sym same) ∙ t.0)

pub word_again : (w : List ℕ) → is_word w ≡ true → word_of w ≡ Some w
word_again w h = rw h refl

-- ---- groups

-- no number is a dash
digit_first : (n : ℕ) → n < 2 ^ 32 → decimal n ≡ 45 ∷ [] → ⊥
digit_first n lt e =
    let w : Within 48 57 (45 ∷ []) = subst (Within 48 57) e (decimal_within n (omega arith)) in
    let low : 48 ≤ 45 = w.0.0 in
    omega arith

pub numbers_lack : (ns : List ℕ) (c : ℕ) → c < 48 → AllByRecursion (λ n. n < 2 ^ 32) ns → AllByRecursion (Lacks c) (map decimal ns)
numbers_lack [] c lt h = tt
numbers_lack (n ∷ ns) c lt h = (lacks_outside 48 57 c (decimal n) (inl lt) (decimal_within n (omega (arith, h.0))), numbers_lack ns c lt h.1)

numbers_cut : (n : ℕ) (ns : List ℕ) → AllByRecursion (λ n. n < 2 ^ 32) (n ∷ ns) → parts 44 (numbers_word (n ∷ ns)) ≡ map decimal (n ∷ ns)
numbers_cut n ns h = parts_join 44 (decimal n) (map decimal ns) (numbers_lack (n ∷ ns) 44 (lit< tt) h)

pub is_false : (b : Bool) → (b ≡ true → ⊥) → b ≡ false
is_false true h = absurd (h refl)
is_false false h = refl

pub groups_again : (ns : List ℕ) → AllByRecursion (λ n. n < 2 ^ 32) ns → length ns ≤ 32 → groups_of (numbers_word ns) ≡ Some ns
unfolding groups_of
groups_again [] h few = refl
groups_again (n ∷ ns) h few =
    let cut = numbers_cut n ns h in
    let other : bytes_eq (numbers_word (n ∷ ns)) (codes "-") ≡ false = is_false (bytes_eq (numbers_word (n ∷ ns)) (codes "-")) (λ e.
    let same : numbers_word (n ∷ ns) ≡ codes "-" = (bytes_eq-Decides (numbers_word (n ∷ ns)) (codes "-")).0 e in
    let lists : map decimal (n ∷ ns) ≡ (45 ∷ []) ∷ [] = sym cut ∙ ap (parts 44) same in
    digit_first n h.0 (heads _ _ _ _ lists)) in
    let room : leb (length (parts 44 (numbers_word (n ∷ ns)))) 32 ≡ true = ap (λ (t : List (List ℕ)). leb (length t) 32) cut ∙ le-leb (length (map decimal (n ∷ ns))) 32 (rw (length-map (n ∷ ns) decimal) few) in
    rw (other, room, cut) (numbers_again (n ∷ ns) h)
  where
    heads : (x y : List ℕ) (xs ys : List (List ℕ)) → x ∷ xs ≡ y ∷ ys → x ≡ y
    heads x y xs ys e = cc

-- parts are never none
parts_first : (c : ℕ) (text : List ℕ) (ns : List ℕ) → parts c text ≡ map decimal ns → (n : ℕ) × (others : List ℕ) × (ns ≡ n ∷ others)
parts_first c text [] e =
    let more : 0 < length (parts c text) = some_parts c text in
    let none : length (parts c text) ≡ 0 = ap length e in
    absurd (omega arith)
parts_first c text (n ∷ ns) e = (n, ns, refl)

pub groups_take : (word ns : List ℕ) → groups_of word ≡ Some ns → (word ≡ numbers_word ns) × AllByRecursion (λ n. n < 2 ^ 32) ns × (length ns ≤ 32)
unfolding groups_of
groups_take word ns e =
    elim (chosen (bytes_eq word (codes "-")) (Some []) (cond (leb (length (parts 44 word)) 32) (numbers_of (parts 44 word)) None) (Some ns) e) [
      | inl dash ↦
          let same : word ≡ codes "-" = (bytes_eq-Decides word (codes "-")).0 dash.0 in
          let none : [] ≡ ns = some_same [] ns dash.1 in
          subst (λ (k : List ℕ). (word ≡ numbers_word k) × AllByRecursion (λ n. n < 2 ^ 32) k × (length k ≤ 32)) none (same, tt, lit≤ tt)
      | inr joined ↦
          let t = passed (leb (length (parts 44 word)) 32) (numbers_of (parts 44 word)) ns joined.1 in
          let few = leb-true (length (parts 44 word)) 32 t.0 in
          let read = numbers_take (parts 44 word) ns t.1 in
          let count : length (parts 44 word) ≡ length ns = ap length read.0 ∙ length-map ns decimal in
          (is_joined word ns read.0, read.1, omega (arith, few, count))
    ]
  where
    is_joined : (word ns : List ℕ) → parts 44 word ≡ map decimal ns → word ≡ numbers_word ns
    is_joined word ns cut =
        let first = parts_first 44 word ns cut in
        let whole : word ≡ join_with_byte 44 (map decimal ns) = sym (join_with_byte-slice_split 44 word) ∙ ap (join_with_byte 44) cut in
        rw first.2 (subst (λ (k : List ℕ). word ≡ join_with_byte 44 (map decimal k)) first.2 whole)

-- ---- users and groups, or none

abbrev IsId : List ℕ → Option ℕ → Type 0
IsId word id = (word ≡ id_word id) × IfSome id (λ n. n < 2 ^ 32)

pub id_takes : (word : List ℕ) (id : Option ℕ) → id_of word ≡ Some id → (word ≡ id_word id) × IfSome id (λ n. n < 2 ^ 32)
unfolding id_of
id_takes word id e =
    elim (chosen (bytes_eq word (codes "-")) (Some None) (number_below (2 ^ 32) word >>= (λ n. Some (Some n))) (Some id) e) [
      | inl dash ↦
          let same : word ≡ codes "-" = (bytes_eq-Decides word (codes "-")).0 dash.0 in
          let none : None ≡ id = some_same None id dash.1 in
          subst (IsId word) none (same, tt)
      | inr more ↦
          let n = bind_some (number_below (2 ^ 32) word) (λ n. Some (Some n)) id more.1 in
          subst (IsId word) (some_same (Some n.0) id n.2) (number_takes (2 ^ 32) n.0 word n.1)
    ]

pub id_again : (id : Option ℕ) → IfSome id (λ n. n < 2 ^ 32) → id_of (id_word id) ≡ Some id
unfolding id_of
id_again None h = refl
id_again (Some n) h =
    let other : bytes_eq (decimal n) (codes "-") ≡ false = is_false (bytes_eq (decimal n) (codes "-")) (λ e. digit_first n h ((bytes_eq-Decides (decimal n) (codes "-")).0 e)) in
    rw (other, number_again (2 ^ 32) n (lit≤ tt) h) refl
