-- What a run of a mount leaves to a crash.
use Rattle.std.proofs.Common.{◌⊎◌, inl, inr, List, [], ◌∷◌, sym, subst}
use Rattle.sn_device.specs.Sectors.{Contents}
use Rattle.sn_device.specs.Disk.{Disk, Always}
use Rattle.sn_device.specs.Crash.{LeavesOnly}
use Rattle.sn_device.proofs.CrashLemmas.{LeavesOnly-start, LeavesOnly-join, LeavesOnly-weaker}
use Rattle.sn_model.specs.Machine.{State}
use Rattle.sn_model.specs.World.{World}
use Rattle.sn_opening.specs.Moments.{ShowsState, ShowsOne, RunsOver, last_state}

two_first : (opens : Contents → World → Type 0) (s next : State) (states : List State) (c : Contents) → ShowsState opens s c ⊎ ShowsState opens next c → ShowsOne opens (s ∷ next ∷ states) c
two_first opens s next states c (inl first) = inl first
two_first opens s next states c (inr second) = inr (inl second)

pub runs_leave : (opens : Contents → World → Type 0) (s : State) (old new : Disk) (states : List State)
    → Always old (λ c. ShowsState opens s c) → RunsOver opens s old states new
    → LeavesOnly old new (λ c. ShowsOne opens (s ∷ states) c) × Always new (λ c. ShowsState opens (last_state s states) c)
runs_leave opens s old new [] here run = subst (λ d. LeavesOnly old d (λ c. ShowsOne opens (s ∷ []) c) × Always d (λ c. ShowsState opens s c)) (sym run)
    (LeavesOnly-start old (λ c. ShowsOne opens (s ∷ []) c) (λ c crash. inl (here c crash)), here)
runs_leave opens s old new (next ∷ states) here run =
    let mid = run.0 in
    let lasts = run.1 in
    let rest = runs_leave opens next mid new states lasts.answered run.2 in (
      LeavesOnly-join old mid new (λ c. ShowsOne opens (s ∷ next ∷ states) c)
          (LeavesOnly-weaker old mid (λ c. ShowsState opens s c ⊎ ShowsState opens next c) (λ c. ShowsOne opens (s ∷ next ∷ states) c) (λ c. two_first opens s next states c) lasts.moments)
          (LeavesOnly-weaker mid new (λ c. ShowsOne opens (next ∷ states) c) (λ c. ShowsOne opens (s ∷ next ∷ states) c) (λ c one. inr one) rest.0),
      rest.1,
    )
