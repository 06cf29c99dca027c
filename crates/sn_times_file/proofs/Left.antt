-- Sections that are left.
use Rattle.std.proofs.Common.{◌≡◌, ℕ, ◌<◌, List, [], ◌∷◌, ◌++◌, length, sym, ap, ◌∙◌, append_assoc, arith}
use Rattle.std.specs.List.{AllByRecursion, flat_map}
use Rattle.std.proofs.lemmas.List.{append-nil}
use Rattle.sn_bytes.proofs.Reading.{AreLeft}
use Rattle.sn_times_file.specs.Kept.{IsNamed, Named, named_bytes}

-- the next section, and those after it
pub record IsNext (all others : List Named) (left : List ℕ) (named : Named) (more : List Named) : Type 0 where
  pub whole : others ≡ (all ++ named ∷ []) ++ more
  pub fits : IsNamed named
  pub each : AllByRecursion IsNamed more
  pub spelled : left ≡ named_bytes named ++ (flat_map named_bytes more ++ [])

pub next_left : (all others : List Named) (left : List ℕ) → 0 < length left → AreLeft IsNamed named_bytes all others left [] → (named : Named) × (more : List Named) × IsNext all others left named more
next_left all others left some ([], whole, each, e) = absurd (omega (arith, ap length e))
next_left all others left some (named ∷ more, whole, each, e) = (
  named,
  more,
  record {
    whole = whole ∙ sym (append_assoc all (named ∷ []) more);
    fits = each.0;
    each = each.1;
    spelled = e ∙ append_assoc (named_bytes named) (flat_map named_bytes more) [];
  },
)

-- where no bytes are left, no sections are
pub none_more : (all others : List Named) (left : List ℕ) → length left ≡ 0 → AreLeft IsNamed named_bytes all others left [] → all ≡ others
none_more all others left none ([], whole, each, e) = sym (whole ∙ append-nil all)
none_more all others left none (named ∷ more, whole, each, e) = absurd (omega (arith, ap length e))
