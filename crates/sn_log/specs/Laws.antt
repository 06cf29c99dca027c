-- What replay finds where it is known which changes were appended.
use Rattle.std.specs.Prelude.{◌≡◌, ℕ, List, ◌∷◌, ◌++◌}
use Rattle.std.specs.List.{AllByRecursion}
use Rattle.sn_device.specs.Sectors.{Contents}
use Rattle.sn_model.specs.declared.change.Change.{Change as TheChange}
use Rattle.sn_ondisk.specs.LogHalf.{ReplaysTo}
use Rattle.sn_ondisk.specs.OneAnswer.{IsOnDisk}
use Rattle.sn_record.specs.Payload.{IsSpelled}
use Rattle.sn_log.specs.Positions.{LogPosition, base_at, payloads_of, IsBehind}
use Rattle.sn_log.specs.Replaying.{Finds}
use Rattle.sn_log.specs.declared.replay.NextRecord.{NextRecord}
use Rattle.sn_log.specs.declared.replay.NextRecord.TheVariants.{Change, End, Misspelt}

-- after the changes before, what was found is the next of all, or the end where there is none
abbrev pub IsNextOf : List TheChange → List TheChange → NextRecord → Type 0
IsNextOf before changes (Change change) = (after : List TheChange) × (changes ≡ before ++ change ∷ after)
IsNextOf before changes End = changes ≡ before
IsNextOf before changes (Misspelt block) = ⊥

-- Where the records of an epoch are those of some changes, replay finds these one after the other, and then the end. None of them is misspelt.
abbrev pub ReplayFindsTheNext : Type 0
ReplayFindsTheNext = (c : Contents) (at : LogPosition) (before changes : List TheChange) (end : ℕ) (found : NextRecord)
    → IsOnDisk c (base_at at)
    → AllByRecursion IsSpelled before
    → AllByRecursion IsSpelled changes
    → IsBehind at before c
    → ReplaysTo c (base_at at) at.epoch (payloads_of changes) end
    → Finds c at found
    → IsNextOf before changes found
