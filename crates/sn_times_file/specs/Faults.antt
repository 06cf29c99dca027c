-- Why times aren't written or read.
use Rattle.std.specs.Prelude.{◌≡◌, ℕ, List, Result, MatchResult}
use Rattle.sn_times_file.specs.declared.fault.Unreadable.{Unreadable}
use Rattle.sn_times_file.specs.declared.fault.Unreadable.TheVariants as unreadable
use Rattle.sn_times_file.specs.declared.fault.Unwritable.{Unwritable}
use Rattle.sn_times_file.specs.declared.fault.Unwritable.TheVariants as unwritable

-- a value that can't be kept is refused for that alone
abbrev pub IsRefused : Type 0 → Unwritable → Type 0
IsRefused Fits unwritable.Memory = Unit {0}
IsRefused Fits other = ¬ Fits

-- this value is read, and these bytes are left, or memory was refused
abbrev pub Reads : {A : Type 0} → Result A Unreadable → List ℕ → A → List ℕ → Type 0
Reads result left value rest = MatchResult result (λ read. (read ≡ value) × (left ≡ rest)) (λ fault. fault ≡ unreadable.Memory)
