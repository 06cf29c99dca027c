-- The marks of numbers.
use Rattle.std.proofs.Common.{◌≡◌, ◌≢◌, ◌⊎◌, inl, inr, ℕ, zero, suc, ◌<◌, Bool, true, false, ◌||◌, ◌==◌, nat_lt, List, [], ◌∷◌, length, map, get_or, set, replicate, refl, sym, ap, ◌∙◌, arith}
use Rattle.std.specs.Cmp.{nat_cmp_total}
use Rattle.std.proofs.lemmas.Bool.{eq-eqb, eqb-true, false_from_ne_true, ltb-true, ltb-false}
use Rattle.std.proofs.lemmas.List.{get_or-replicate, get_or_past, get_or-set_same, get_or-set_other, length-replicate}
use Rattle.std.proofs.lemmas.Map.Lookups.{exact_unsigned}
use Rattle.sn_model.proofs.MapLemmas.{same_or_apart}
use Rattle.sn_numbers.specs.Marks.{is_kept, is_since, aged, forgotten}
use Rattle.sn_numbers.specs.declared.kept_back.Mark.{Mark}
use Rattle.sn_numbers.specs.declared.kept_back.Mark.TheVariants.{Free, BeforePoint, SincePoint}

pub none_marked : (n k : ℕ) → get_or (replicate n Free) k Free ≡ Free
none_marked n k = told (nat_lt k n) refl
  where
    told : (b : Bool) → nat_lt k n ≡ b → get_or (replicate n Free) k Free ≡ Free
    told true e = get_or-replicate n k Free Free (ltb-true k n e)
    told false e = get_or_past (replicate n Free) k Free (omega (arith, ltb-false k n e, length-replicate n Free))

-- one is set, and a test of it passes there
pub marked_at : (test : Mark → Bool) (marks : List Mark) (number n : ℕ) → test SincePoint ≡ true → number < length marks → test (get_or (set marks number SincePoint) n Free) ≡ (n == number || test (get_or marks n Free))
marked_at test marks number n passes lt = told (same_or_apart nat_cmp_total exact_unsigned n number)
  where
    told : (n ≡ number) ⊎ (n ≢ number) → test (get_or (set marks number SincePoint) n Free) ≡ (n == number || test (get_or marks n Free))
    told (inl q) = ap (λ k. test (get_or (set marks number SincePoint) k Free)) q ∙ ap test (get_or-set_same marks number SincePoint Free lt) ∙ passes ∙ sym (ap (λ b. b || test (get_or marks n Free)) (eq-eqb n number q))
    told (inr q) = ap test (get_or-set_other marks number n SincePoint Free q) ∙ sym (ap (λ b. b || test (get_or marks n Free)) (false_from_ne_true (n == number) (λ e. q (eqb-true n number e))))

-- all are changed
pub changed_at : (f : Mark → Mark) (marks : List Mark) (n : ℕ) → f Free ≡ Free → get_or (map f marks) n Free ≡ f (get_or marks n Free)
changed_at f [] n free = sym free
changed_at f (m ∷ ms) zero free = refl
changed_at f (m ∷ ms) (suc n) free = changed_at f ms n free

pub kept_aged : (m : Mark) → is_kept (aged m) ≡ is_kept m
kept_aged Free = refl
kept_aged BeforePoint = refl
kept_aged SincePoint = refl

pub none_since : (m : Mark) → is_since (aged m) ≡ false
none_since Free = refl
none_since BeforePoint = refl
none_since SincePoint = refl

pub kept_since : (m : Mark) → is_kept (forgotten m) ≡ is_since m
kept_since Free = refl
kept_since BeforePoint = refl
kept_since SincePoint = refl

pub since_since : (m : Mark) → is_since (forgotten m) ≡ is_since m
since_since Free = refl
since_since BeforePoint = refl
since_since SincePoint = refl
