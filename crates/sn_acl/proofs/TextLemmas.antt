-- Texts of entries, one after another.
use Rattle.std.proofs.Common.{◌≡◌, ℕ, ◌+◌, ◌*◌, ◌<◌, ◌≤◌, length-append, List, [], ◌∷◌, ◌++◌, length, take, get_or, refl, arith, ap, sym, ◌∙◌, append_assoc}
use Rattle.std.proofs.lemmas.List.{take_more, append-nil}
use Rattle.sn_acl.specs.declared.entries.Entry.{Entry}
use Rattle.sn_acl.specs.Text.{entry_text, more_text}

pub more_text-append : (es fs : List Entry) → more_text (es ++ fs) ≡ more_text es ++ more_text fs
more_text-append [] fs = refl
more_text-append (e ∷ es) fs = ap (λ t. 44 ∷ (entry_text e ++ t)) (more_text-append es fs) ∙ ap (λ t. 44 ∷ t) (sym (append_assoc (entry_text e) (more_text es) (more_text fs)))

-- one more entry
pub more_text-more : (es : List Entry) (i : ℕ) (e : Entry) → i < length es → e ≡ get_or es i e
    → more_text (take (i + 1) es) ≡ more_text (take i es) ++ (44 ∷ entry_text e)
more_text-more es i e within is =
    ap more_text (take_more es i e within) ∙ (more_text-append (take i es) (get_or es i e ∷ [])
    ∙ ap (λ t. more_text (take i es) ++ (44 ∷ t)) (append-nil (entry_text (get_or es i e)) ∙ ap entry_text (sym is)))

-- a comma and an entry, after the text so far
pub pushed : (base : List ℕ) (es : List Entry) (i : ℕ) (e : Entry) (so_far comma done : List ℕ) → i < length es → e ≡ get_or es i e
    → so_far ≡ base ++ more_text (take i es) → comma ≡ so_far ++ (44 ∷ []) → done ≡ comma ++ entry_text e
    → done ≡ base ++ more_text (take (i + 1) es)
pushed base es i e so_far comma done within is before behind after =
    rw (after, behind, before, more_text-more es i e within is)
    (append_assoc (base ++ more_text (take i es)) (44 ∷ []) (entry_text e) ∙ append_assoc base (more_text (take i es)) (44 ∷ entry_text e))

pub pushed-length : (base : ℕ) (i : ℕ) (e : Entry) (so_far comma done : List ℕ) → length so_far ≤ base + 17 * i
    → comma ≡ so_far ++ (44 ∷ []) → done ≡ comma ++ entry_text e → length (entry_text e) ≤ 16 → length done ≤ base + 17 * (i + 1)
pushed-length base i e so_far comma done before behind after short =
    omega (arith, ap length behind, ap length after, length-append so_far (44 ∷ []), length-append comma (entry_text e))
