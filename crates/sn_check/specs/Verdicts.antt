-- When an answer of a check is right.
use Rattle.std.specs.Prelude.{ℕ, List, ◌++◌, Result, Ok, Err, codes, decimal}
use Rattle.sn_device.specs.Sectors.{Contents}
use Rattle.sn_model.specs.declared.fault.MountFault.{MountFault}
use Rattle.sn_model.specs.declared.fault.MountFault.TheVariants.{NotFormatted, Version, NoRoot, Damaged, Memory, Device}
use Rattle.sn_model.specs.Texts.{damage_text}
use Rattle.sn_sound.specs.Verdicts.{HasNoVerdict, IsClean, IsFaulty}
use Rattle.sn_check.specs.declared.verdict.Verdict.{Verdict}
use Rattle.sn_check.specs.declared.verdict.Verdict.TheVariants.{Clean, Fault}

-- The disk is sound, with this many free blocks; or it has the fault, and none of an earlier group.
abbrev pub IsRight : ℕ → Contents → Verdict → Type 0
IsRight sectors c (Clean free) = IsClean sectors c free
IsRight sectors c (Fault damage block) = IsFaulty sectors c damage block

-- Why a disk isn't clean: it has the fault, and none of an earlier group; or there is no verdict.
abbrev pub IsCause : ℕ → Contents → MountFault → Type 0
IsCause sectors c (Damaged damage block) = IsFaulty sectors c damage block
IsCause sectors c cause = HasNoVerdict sectors c cause

-- what a check answers for that
abbrev pub verdict_of : MountFault → Result Verdict MountFault
verdict_of (Damaged damage block) = Ok (Fault damage block)
verdict_of NotFormatted = Err NotFormatted
verdict_of Version = Err Version
verdict_of NoRoot = Err NoRoot
verdict_of Memory = Err Memory
verdict_of Device = Err Device

-- the words of a verdict
abbrev pub verdict_text : Verdict → List ℕ
verdict_text (Clean free) = codes "clean " ++ decimal free
verdict_text (Fault damage block) = codes "fault " ++ damage_text damage ++ codes " " ++ decimal block
