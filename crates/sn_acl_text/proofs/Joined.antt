-- Entries of a text, one after another.
use Rattle.std.proofs.Common.{◌≡◌, ℕ, ◌+◌, ◌*◌, ◌<◌, ◌≤◌, Bool, cond, List, [], ◌∷◌, ◌++◌, length, take, get_or, refl, sym, ap, ◌∙◌, append_assoc, length-append, arith}
use Rattle.std.proofs.lemmas.Bool.{ne_eqb}
use Rattle.std.proofs.lemmas.List.{take_more}
use Rattle.sn_acl.specs.declared.entries.Entry.{Entry}
use Rattle.sn_acl.specs.Rights.{permissions_text}
use Rattle.sn_acl.specs.Text.{qualifier_text}
use Rattle.sn_acl_text.specs.Long.{kind_word, long_entry, long_text, separated}

pub some_entry : (e : Entry) → 0 < length (long_entry e)
some_entry e = omega (arith, length-append (kind_word e.tag ++ 58 ∷ []) (qualifier_text e.tag ++ (58 ∷ permissions_text e.permissions)), length-append (kind_word e.tag) (58 ∷ []))

some_text : (e : Entry) (es : List Entry) → 0 < length (long_text (e ∷ es))
some_text e [] = some_entry e
some_text e (f ∷ es) = omega (arith, length-append (long_entry e) (44 ∷ long_text (f ∷ es)), some_entry e)

after_some : (text : List ℕ) → 0 < length text → separated text ≡ text ++ 44 ∷ []
after_some text some = ap (λ (b : Bool). cond b [] (text ++ 44 ∷ [])) (ne_eqb (length text) 0 (λ none. omega arith))

long_push : (es : List Entry) (e : Entry) → long_text (es ++ e ∷ []) ≡ separated (long_text es) ++ long_entry e
long_push [] e = refl
long_push (x ∷ []) e = sym (ap (λ t. t ++ long_entry e) (after_some (long_entry x) (some_entry x)) ∙ append_assoc (long_entry x) (44 ∷ []) (long_entry e))
long_push (x ∷ y ∷ es) e =
    let rest = long_text (y ∷ es) in
    ap (λ t. long_entry x ++ 44 ∷ t) (long_push (y ∷ es) e ∙ ap (λ t. t ++ long_entry e) (after_some rest (some_text y es)) ∙ append_assoc rest (44 ∷ []) (long_entry e))
    ∙ sym (append_assoc (long_entry x) (44 ∷ rest) (44 ∷ long_entry e))
    ∙ sym (ap (λ t. t ++ long_entry e) (after_some (long_entry x ++ 44 ∷ rest) (some_text x (y ∷ es))) ∙ append_assoc (long_entry x ++ 44 ∷ rest) (44 ∷ []) (long_entry e))

-- one more entry after those so far
pub pushed : (es : List Entry) (i : ℕ) (e : Entry) (so_far comma done : List ℕ) → i < length es → e ≡ get_or es i e
    → so_far ≡ long_text (take i es) → comma ≡ separated so_far → done ≡ comma ++ long_entry e → done ≡ long_text (take (i + 1) es)
pushed es i e so_far comma done within is before separating after =
    after ∙ ap (λ t. t ++ long_entry e) (separating ∙ ap separated before) ∙ sym (long_push (take i es) e) ∙ ap (λ (x : Entry). long_text (take i es ++ x ∷ [])) is ∙ sym (ap long_text (take_more es i e within))

pub separated-length : (text : List ℕ) → length (separated text) ≤ length text + 1
separated-length [] = omega arith
separated-length (b ∷ text) = omega (arith, ap length (after_some (b ∷ text) (omega arith)), length-append (b ∷ text) (44 ∷ []))

pub pushed-length : (e : Entry) (i : ℕ) (so_far comma done : List ℕ) → length so_far ≤ 21 * i
    → comma ≡ separated so_far → done ≡ comma ++ long_entry e → length (long_entry e) ≤ 20 → length done ≤ 21 * (i + 1)
pushed-length e i so_far comma done before separating after short = omega (arith, ap length after, length-append comma (long_entry e), ap length separating, separated-length so_far)
