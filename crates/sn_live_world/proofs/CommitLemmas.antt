-- A change that was made.
use Rattle.std.proofs.Common.{◌≡◌, ◌⊎◌, inl, inr, ℕ, true, Option, None, Some, refl, sym, ap, ◌∙◌, true≢false}
use Rattle.std.specs.FinMap as map
use Rattle.sn_limits.specs.Versions.{limits_written}
use Rattle.sn_limits.specs.declared.kind.Kind.TheVariants.{File}
use Rattle.sn_live.specs.Prepared.{LosesAtMost}
use Rattle.sn_model.specs.Descriptors.{Descriptors, is_held_in}
use Rattle.sn_model.specs.Settling.{OnlyLost, is_held, is_nameless}
use Rattle.sn_model.specs.Tree.{Node}
use Rattle.sn_model.specs.World.{World}
use Rattle.sn_model.specs.Worlds.{IsWorld}
use Rattle.sn_model.proofs.DroppedLemmas.{all_held}
use Rattle.sn_model.proofs.LoseLemmas.{abandoned_is}
use Rattle.sn_model.proofs.MoveLemmas.{is_kind}
use Rattle.sn_model.proofs.SettlingLemmas.{nameless_is}
use Rattle.sn_caller.proofs.CallerLemmas.{is_left_nameless}

-- in a world each file without names is held
held_there : (world : World) (n : ℕ) → IsWorld limits_written world → is_nameless world.live n (map.get world.live.nodes n) ≡ true → is_held world n ≡ true
held_there world n whole e = told (map.get world.live.nodes n) refl
  where
    told : (found : Option Node) → map.get world.live.nodes n ≡ found → is_held world n ≡ true
    told None f = absurd (true≢false (sym e ∙ ap (is_nameless world.live n) f))
    told (Some node) f =
        let is = nameless_is world.live n node (sym (ap (is_nameless world.live n) f) ∙ e) in
        all_held limits_written world whole n (is_kind world.live n node File f is.0) is.1

-- so only what has lost its last name may be abandoned
pub only_lost : (old new : World) (lost : Option ℕ) → new.descriptors ≡ old.descriptors → IsWorld limits_written old → LosesAtMost old.live new.live lost → OnlyLost new lost
only_lost old new lost same whole loses n e = told (loses n (is_left_nameless new n e))
  where
    told : (is_nameless old.live n (map.get old.live.nodes n) ≡ true) ⊎ (lost ≡ Some n) → lost ≡ Some n
    told (inl before) = absurd (true≢false (sym (ap (λ (t : Descriptors). is_held_in t n) same ∙ held_there old n whole before) ∙ (abandoned_is new n e).left))
    told (inr is) = is
