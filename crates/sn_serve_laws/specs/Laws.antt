-- What a SETATTR leaves out.
use Rattle.std.specs.Prelude.{◌≡◌, ◌<◌, ◌^◌, ◌%◌, ℕ, true, List, Ok}
use Rattle.sn_acl.specs.AccessList.{IsValid}
use Rattle.sn_fuse.specs.declared.operation.NewAttributes.{NewAttributes}
use Rattle.sn_fuse_replies.specs.declared.answer.Attributes.{Attributes}
use Rattle.sn_limits.specs.declared.limits.Limits.{Limits}
use Rattle.sn_model.specs.AccessCalls.{chmod_outcome, chown_outcome, id_argument, mode_bits_argument, ownership_at}
use Rattle.sn_model.specs.Calls.{status_of}
use Rattle.sn_model.specs.Outcomes.{does}
use Rattle.sn_model.specs.Tests.{full, live}
use Rattle.sn_model.specs.declared.change.Change.TheVariants.{SetAttributes}
use Rattle.sn_model.specs.declared.session.Session.{Session}
use Rattle.sn_serve_names.specs.Entries.{attributes_of}
use Rattle.sn_serve_setattr.specs.Flags.{has_mode, has_owner, sets_group, sets_user, value_if}
use Rattle.sn_walk.specs.Chains.{◌>>=◌}
use Rattle.sn_walk.specs.Views.{ViewedTrees}
use Rattle.sn_walk.specs.declared.walking.Found.{Found}

-- What a session finds by a path in the live tree, as a mount tells it. Its ACL is valid, and its owner and its group have 32 bits.
pub record IsThere (trees : ViewedTrees) (s : Session) (names : List (List ℕ)) (found : Found) (number : ℕ) (there : Attributes) : Type 0 where
  pub walked : full trees s.cred 1 names ≡ Ok found
  pub is_live : live found.object ≡ Ok number
  pub valid : IsValid found.attributes.acl
  pub owner : found.attributes.owner < 2 ^ 32
  pub group : found.attributes.group < 2 ^ 32
  pub told : there ≡ attributes_of number (status_of number found.attributes)

-- a chmod that is left out would be answered, and would set what is there
abbrev pub ChmodIsLeftOut : Type 0
ChmodIsLeftOut = (limits : Limits) (trees : ViewedTrees) (s : Session) (names : List (List ℕ)) (found : Found) (number : ℕ) (there : Attributes) (new : NewAttributes)
    → IsThere trees s names found number there → has_mode s.cred.uid there new ≡ true
    → (mode_bits_argument (new.mode % 2048) >>= (λ bits. chmod_outcome limits trees s names bits)) ≡ Ok (does limits.inode_charge (SetAttributes number (ownership_at trees found)))

-- and so would a chown
abbrev pub ChownIsLeftOut : Type 0
ChownIsLeftOut = (limits : Limits) (trees : ViewedTrees) (s : Session) (names : List (List ℕ)) (found : Found) (number : ℕ) (there : Attributes) (new : NewAttributes)
    → IsThere trees s names found number there → has_owner s.cred.uid there new ≡ true
    → (id_argument (value_if (sets_user new) new.user) >>= (λ uid. id_argument (value_if (sets_group new) new.group) >>= (λ gid. chown_outcome limits trees s names uid gid)))
    ≡ Ok (does limits.inode_charge (SetAttributes number (ownership_at trees found)))
