-- How the parts of replies are printed.
use Rattle.std.specs.Prelude.{[], List, ◌++◌, ℕ, if◌then◌else◌, codes, decimal}
use Rattle.std.specs.Option.{option_map_or}
use Rattle.sn_acl.specs.Text.{tag_text}
use Rattle.sn_model.specs.declared.fault.Damage.{Damage}
use Rattle.sn_model.specs.declared.fault.Damage.TheVariants as damage
use Rattle.sn_model.specs.declared.fault.MountFault.{MountFault}
use Rattle.sn_model.specs.declared.fault.MountFault.TheVariants as mount
use Rattle.sn_model.specs.declared.reply.Access.{Access}
use Rattle.sn_model.specs.declared.reply.Denial.{Denial}
use Rattle.sn_model.specs.declared.reply.Errno.{Errno}
use Rattle.sn_model.specs.declared.reply.Errno.TheVariants as errno
use Rattle.sn_model.specs.declared.reply.Progress.{Progress}
use Rattle.sn_model.specs.declared.reply.Progress.TheVariants as progress
use Rattle.sn_model.specs.declared.reply.Refusal.{Refusal}
use Rattle.sn_model.specs.declared.reply.Rule.{Rule}
use Rattle.sn_model.specs.declared.reply.Rule.TheVariants as rule

-- the names of <errno.h>, and ELIMIT and ESTOPPED
abbrev pub errno_name : Errno → List ℕ
errno_name errno.Eacces = codes "EACCES"
errno_name errno.Eperm = codes "EPERM"
errno_name errno.Enoent = codes "ENOENT"
errno_name errno.Enotdir = codes "ENOTDIR"
errno_name errno.Eisdir = codes "EISDIR"
errno_name errno.Eexist = codes "EEXIST"
errno_name errno.Enotempty = codes "ENOTEMPTY"
errno_name errno.Einval = codes "EINVAL"
errno_name errno.Enametoolong = codes "ENAMETOOLONG"
errno_name errno.Erofs = codes "EROFS"
errno_name errno.Exdev = codes "EXDEV"
errno_name errno.Ebusy = codes "EBUSY"
errno_name errno.Emlink = codes "EMLINK"
errno_name errno.Emfile = codes "EMFILE"
errno_name errno.Ebadf = codes "EBADF"
errno_name errno.Efbig = codes "EFBIG"
errno_name errno.Elimit = codes "ELIMIT"
errno_name errno.Enospc = codes "ENOSPC"
errno_name errno.Enomem = codes "ENOMEM"
errno_name errno.Eio = codes "EIO"
errno_name errno.Estopped = codes "ESTOPPED"

abbrev pub rule_text : Rule → List ℕ
rule_text (rule.Entry tag) = tag_text tag
rule_text rule.Sticky = codes "sticky"
rule_text rule.NotOwner = codes "not-owner"
rule_text rule.NotRoot = codes "not-root"
rule_text rule.NotMember = codes "not-member"

abbrev pub access_text : Access → List ℕ
access_text a = (if a.read then codes "r" else codes "-") ++ (if a.write then codes "w" else codes "-") ++ (if a.execute then codes "x" else codes "-")

abbrev pub denial_text : Denial → List ℕ
denial_text d = codes "path " ++ decimal d.path ++ codes " place " ++ decimal d.place
    ++ codes " want " ++ access_text d.want ++ codes " by " ++ rule_text d.rule

abbrev pub refusal_text : Refusal → List ℕ
refusal_text r = errno_name r.errno ++ option_map_or (λ d. codes " " ++ denial_text d) r.denial []

abbrev pub progress_text : Progress → List ℕ
progress_text progress.More = codes "more"
progress_text progress.Done = codes "done"

-- the kinds of damage, as a check reports them
abbrev pub damage_text : Damage → List ℕ
damage_text damage.Root = codes "C1"
damage_text damage.Pointer = codes "C2"
damage_text damage.ReachedTwice = codes "C3"
damage_text damage.MapWord = codes "C4"
damage_text damage.Misspelt = codes "C5"
damage_text damage.Links = codes "C6"
damage_text damage.Log = codes "C7"

abbrev pub mount_fault_text : MountFault → List ℕ
mount_fault_text mount.NotFormatted = codes "M1"
mount_fault_text mount.Version = codes "M2"
mount_fault_text mount.NoRoot = codes "M3"
mount_fault_text (mount.Damaged d block) = codes "M4 " ++ damage_text d ++ codes " " ++ decimal block
mount_fault_text mount.Memory = codes "M5"
mount_fault_text mount.Device = codes "M6"
