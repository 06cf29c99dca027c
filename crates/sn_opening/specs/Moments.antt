-- What the disk of a mount opens to in the course of events, whatever a crash leaves of it. Which contents open to which world is said by `opens`.
use Rattle.std.specs.Prelude.{◌≡◌, ◌⊎◌, List, [], ◌∷◌}
use Rattle.sn_device.specs.Sectors.{Contents}
use Rattle.sn_device.specs.Disk.{Disk, Always}
use Rattle.sn_device.specs.Crash.{LeavesOnly}
use Rattle.sn_model.specs.Machine.{State, Running, Stopped}
use Rattle.sn_model.specs.Settling.{settle}
use Rattle.sn_model.specs.World.{World}

-- Of a mount that runs, the contents open to its settled world; of one that a failure has stopped, to one of the two worlds that it left.
abbrev pub ShowsState : (Contents → World → Type 0) → State → Contents → Type 0
ShowsState opens (Running w) c = opens c (settle w)
ShowsState opens (Stopped before after) c = opens c before ⊎ opens c after

-- they open to one of these states
abbrev pub ShowsOne : (Contents → World → Type 0) → List State → Contents → Type 0
ShowsOne opens [] c = ⊥
ShowsOne opens (s ∷ states) c = ShowsState opens s c ⊎ ShowsOne opens states c

-- the last state, where the first one was `s`
abbrev pub last_state : State → List State → State
last_state s [] = s
last_state s (next ∷ states) = last_state next states

-- An event leads from a state to the next: a crash at any moment of its course leaves one of the two, and once it is answered the next alone.
pub record LastsOver (opens : Contents → World → Type 0) (s next : State) (old new : Disk) : Type 0 where
  pub moments : LeavesOnly old new (λ c. ShowsState opens s c ⊎ ShowsState opens next c)
  pub answered : Always new (λ c. ShowsState opens next c)

-- Events, one after the other, lead to these states so.
abbrev pub RunsOver : (Contents → World → Type 0) → State → Disk → List State → Disk → Type 0
RunsOver opens s d [] end = end ≡ d
RunsOver opens s d (next ∷ states) end = (mid : Disk) × LastsOver opens s next d mid × RunsOver opens next mid states end
