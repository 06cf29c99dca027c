-- The line of a reply.
use Rattle.std.specs.Prelude.{ℕ, ◌+◌, Bool, List, ◌∷◌, ◌++◌, codes, decimal, if◌then◌else◌}
use Rattle.std.specs.Option.{option_map_or}
use Rattle.std.specs.List.{flat_map}
use Rattle.sn_acl.specs.Modes.{mode_bits}
use Rattle.sn_acl.specs.Text.{acl_text}
use Rattle.sn_limits.specs.declared.kind.Kind.{Kind}
use Rattle.sn_limits.specs.declared.kind.Kind.TheVariants.{File, Directory}
use Rattle.sn_model.specs.declared.reply.Reply.{Reply}
use Rattle.sn_model.specs.declared.reply.Reply.TheVariants as reply
use Rattle.sn_model.specs.declared.reply.FileStatus.{FileStatus}
use Rattle.sn_model.specs.Texts.{mount_fault_text, progress_text, refusal_text}
use Rattle.sn_words.specs.Fields.{content_word, octal}

abbrev pub kind_name : Kind → List ℕ
kind_name File = codes "f"
kind_name Directory = codes "d"

abbrev pub bit : Bool → ℕ → ℕ
bit set value = if set then value else 0

-- the permission bits with S_ISGID and S_ISVTX
abbrev pub status_mode : FileStatus → ℕ
status_mode s = bit s.set_gid 1024 + bit s.sticky 512 + mode_bits s.mode

-- the number of the object isn't shown
abbrev pub status_line : FileStatus → List ℕ
status_line s = codes "ok " ++ kind_name s.kind ++ codes " " ++ octal (status_mode s) ++ codes " " ++ decimal s.links
    ++ codes " " ++ decimal s.owner ++ codes " " ++ decimal s.group ++ codes " " ++ decimal s.size ++ codes "\n"

abbrev pub names_line : List (List ℕ) → List ℕ
names_line names = codes "ok" ++ flat_map (λ name. 32 ∷ name) names ++ codes "\n"

-- with a dash where there is no ACL
abbrev pub reply_line : Reply → List ℕ
reply_line reply.Done = codes "ok\n"
reply_line (reply.Mode m) = codes "ok " ++ octal (mode_bits m) ++ codes "\n"
reply_line (reply.Number n) = codes "ok " ++ decimal n ++ codes "\n"
reply_line (reply.Content bytes) = codes "ok " ++ content_word bytes ++ codes "\n"
reply_line (reply.Status s) = status_line s
reply_line (reply.Names names) = names_line names
reply_line (reply.Acl acl) = codes "ok " ++ option_map_or acl_text acl (codes "-") ++ codes "\n"
reply_line (reply.Progress p) = codes "ok " ++ progress_text p ++ codes "\n"
reply_line (reply.Refused r) = codes "err " ++ refusal_text r ++ codes "\n"
reply_line (reply.Unmounted f) = codes "fault " ++ mount_fault_text f ++ codes "\n"
