-- Which number a new node gets from one event to the next, and which numbers are kept back.
use Rattle.std.specs.Prelude.{◌≡◌, ℕ, Bool, true, false, ◌&&◌, ◌||◌, None, Some, is_some, is_none}
use Rattle.std.specs.FinMap as map
use Rattle.sn_limits.specs.Versions.{limits_written}
use Rattle.sn_model.specs.declared.call.Event.{Event}
use Rattle.sn_model.specs.declared.call.Event.TheVariants.{Call, Step, Restart}
use Rattle.sn_model.specs.declared.change.Change.{Change}
use Rattle.sn_model.specs.declared.change.Change.TheVariants.{Make}
use Rattle.sn_model.specs.Settling.{is_held}
use Rattle.sn_model.specs.World.{World}
use Rattle.sn_number_table.specs.Numbers.{next_number}

-- a number that no node had, and that one has now
pub record GivesOut (old new : World) (number : ℕ) : Type 0 where
  pub unused : map.get old.live.nodes number ≡ None
  pub used : is_some (map.get new.live.nodes number) ≡ true

-- a change gives a new node a number that is kept back
abbrev pub gives_kept : Change → (ℕ → Bool) → Bool
gives_kept (Make directory name number kind o) kept = kept number
gives_kept change kept = false

-- a new node has the least number that no node has and that isn't kept back, or where there is no other the least that no node has
abbrev pub TakesNext : World → (ℕ → Bool) → World → Type 0
TakesNext old kept new = (number : ℕ) → GivesOut old new number → next_number limits_written old.live kept ≡ Some number

-- a number whose node is gone
abbrev pub has_gone : World → World → ℕ → Bool
has_gone old new number = is_some (map.get old.live.nodes number) && is_none (map.get new.live.nodes number)

-- a live file that was open was dropped with its last descriptor, by a close or a logout
abbrev pub has_closed : World → World → ℕ → Bool
has_closed old new number = is_held old number && has_gone old new number

-- What is kept back after a call. Where it gives out a number that was kept back, none of those from before is any more.
pub record KeepsBack (old : World) (kept : ℕ → Bool) (new : World) (after : ℕ → Bool) : Type 0 where
  pub goes_on : ((given : ℕ) → GivesOut old new given → kept given ≡ false) → (number : ℕ) → after number ≡ (has_closed old new number || kept number)
  pub begins_anew : (given : ℕ) → GivesOut old new given → kept given ≡ true → (number : ℕ) → after number ≡ has_closed old new number

abbrev pub KeptBy : Event → World → (ℕ → Bool) → World → (ℕ → Bool) → Type 0
KeptBy (Call session c) old kept new after = KeepsBack old kept new after
KeptBy Step old kept new after = (number : ℕ) → after number ≡ kept number
KeptBy Restart old kept new after = (number : ℕ) → after number ≡ false

-- from one event to the next
pub record Numbers (e : Event) (old : World) (kept : ℕ → Bool) (new : World) (after : ℕ → Bool) : Type 0 where
  pub next : TakesNext old kept new
  pub keeps : KeptBy e old kept new after
