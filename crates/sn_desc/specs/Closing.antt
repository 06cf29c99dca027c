-- What a close and a logout report: the live files that no descriptor has any more.
use Rattle.std.specs.Prelude.{◌≡◌, ◌≢◌, ◌↔◌, ℕ, true, false, List, [], ◌∷◌, ◌++◌, Option, None, Some, Result, Ok, AllPairs, Contains}
use Rattle.sn_model.specs.declared.reply.Refusal.{Refusal}
use Rattle.sn_model.specs.Descriptors.{Descriptors, closed, descriptor_at, is_held_in, released}
use Rattle.sn_model.specs.World.{Descriptor}
use Rattle.sn_walk.specs.Chains.{◌>>=◌}

abbrev pub released_if : Descriptors → Option Descriptor → Option ℕ
released_if left None = None
released_if left (Some d) = released left d

-- close: EBADF; else the live file that only this descriptor had
abbrev pub closing : Descriptors → ℕ → ℕ → Result (Option ℕ) Refusal
closing table session fd = descriptor_at table session fd >>= (λ d. Ok (released (closed table session fd) d))

abbrev pub pushed : List ℕ → Option ℕ → List ℕ
pushed numbers None = numbers
pushed numbers (Some number) = numbers ++ number ∷ []

-- the live files that had a descriptor, and have none any more
abbrev pub LostTheLast : Descriptors → Descriptors → ℕ → Type 0
LostTheLast old new number = (is_held_in old number ≡ true) × (is_held_in new number ≡ false)

-- these numbers, each once
pub record AreReleased (old new : Descriptors) (numbers : List ℕ) : Type 0 where
  pub each : (number : ℕ) → Contains numbers number ↔ LostTheLast old new number
  pub once : AllPairs (λ a b. a ≢ b) numbers
