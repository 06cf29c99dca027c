-- The calls on names from each of their tests on.
use Rattle.std.proofs.Common.{ℕ, ◌+◌, ◌*◌, cond, List, Some, Result, Ok}
use Rattle.sn_acl.specs.Credential.{Credential}
use Rattle.sn_limits.specs.declared.limits.Limits.{Limits}
use Rattle.sn_walk.specs.declared.object.Object.{Object}
use Rattle.sn_walk.specs.declared.view.Attributes.{Attributes}
use Rattle.sn_walk.specs.declared.walking.Found.{Found}
use Rattle.sn_walk.specs.declared.walking.Walked.{Walked}
use Rattle.sn_walk.specs.Chains.{◌>>=◌}
use Rattle.sn_walk.specs.Objects.{number_of}
use Rattle.sn_walk.specs.Views.{ViewedTrees}
use Rattle.sn_walk.specs.Walks.{found_at}
use Rattle.sn_model.specs.declared.change.Change.TheVariants.{AddLink, Remove, Rename}
use Rattle.sn_model.specs.declared.moving.Moving.{Moving}
use Rattle.sn_model.specs.declared.reply.Errno.TheVariants.{Ebusy}
use Rattle.sn_model.specs.declared.reply.Refusal.{Refusal}
use Rattle.sn_model.specs.declared.reply.Reply.TheVariants.{Done, Names}
use Rattle.sn_model.specs.declared.session.Session.{Session}
use Rattle.sn_model.specs.FileCalls.{no_directory}
use Rattle.sn_model.specs.NameCalls.{empty, gives_way, home_of, is_listable, is_one, may_link, movable, moved_outcome, moving_of, read, room_to_move}
use Rattle.sn_model.specs.Outcomes.{Outcome, does, tells}
use Rattle.sn_model.specs.Seen.{Seen, last_name, parent_of}
use Rattle.sn_model.specs.Tests.{prefix, there, not_present, live, one_tree, granted, writable_parent, sticky}

module _ (limits : Limits) (seen : Seen) (s : Session) (names : List (List ℕ)) where
  abbrev pub rmdir_end : Object × ℕ → Result Outcome Refusal
  rmdir_end at = Ok (does (2 * limits.inode_charge + limits.block_charge) (Remove (number_of at.0) (last_name names)))

  abbrev pub rmdir_empty : Object × ℕ → ℕ → Result Outcome Refusal
  rmdir_empty at number = empty (seen.names.is_empty number) >>= (λ _. rmdir_end at)

  abbrev pub rmdir_sticky : Object × ℕ → Found → ℕ → Attributes → Result Outcome Refusal
  rmdir_sticky at found number parent = sticky s.cred 1 parent found >>= (λ _. rmdir_empty at number)

  abbrev pub rmdir_parent : Object × ℕ → Found → ℕ → Result Outcome Refusal
  rmdir_parent at found number = writable_parent seen.trees s.cred 1 at.1 at.0 >>= (λ parent. rmdir_sticky at found number parent)

  abbrev pub rmdir_live : Object × ℕ → Found → Result Outcome Refusal
  rmdir_live at found = live found.object >>= (λ number. rmdir_parent at found number)

  abbrev pub rmdir_kind : Object × ℕ → Found → Result Outcome Refusal
  rmdir_kind at found = is_listable found >>= (λ _. rmdir_live at found)

  abbrev pub rmdir_there : Walked → Object × ℕ → Result Outcome Refusal
  rmdir_there walked at = there (found_at seen.trees walked) >>= (λ found. rmdir_kind at found)

  abbrev pub rmdir_at : Walked → Result Outcome Refusal
  rmdir_at walked = parent_of Ebusy walked >>= (λ at. rmdir_there walked at)

module _ (limits : Limits) (seen : Seen) (s : Session) (others : List (List ℕ)) where
  abbrev pub link_end : Object × ℕ → ℕ → Result Outcome Refusal
  link_end at number = Ok (does (2 * limits.inode_charge + limits.block_charge) (AddLink (number_of at.0) (last_name others) number))

  abbrev pub link_room : Object × ℕ → ℕ → Result Outcome Refusal
  link_room at number = seen.names.room (number_of at.0) >>= (λ _. link_end at number)

  abbrev pub link_count : Found → ℕ → Object × ℕ → Result Outcome Refusal
  link_count found number at = may_link limits found >>= (λ _. link_room at number)

  abbrev pub link_parent : Found → ℕ → Object × ℕ → Result Outcome Refusal
  link_parent found number at = writable_parent seen.trees s.cred 2 at.1 at.0 >>= (λ _. link_count found number at)

  abbrev pub link_new : Found → Walked → ℕ → Result Outcome Refusal
  link_new found walked number = not_present walked >>= (λ at. link_parent found number at)

  abbrev pub link_live : Found → Walked → Result Outcome Refusal
  link_live found walked = live found.object >>= (λ number. link_new found walked number)

  abbrev pub link_tree : Found → Walked → Result Outcome Refusal
  link_tree found walked = one_tree found.object (home_of walked) >>= (λ _. link_live found walked)

  abbrev pub link_walk : Found → Result Outcome Refusal
  link_walk found = prefix seen.trees s.cred 2 others >>= (λ walked. link_tree found walked)

  abbrev pub link_kind : Found → Result Outcome Refusal
  link_kind found = no_directory found >>= (λ _. link_walk found)

module _ (trees : ViewedTrees) (cred : Credential) (others : List (List ℕ)) where
  abbrev pub moving_end : Found → Object × ℕ → Walked → Object × ℕ → Result Moving Refusal
  moving_end found at other to = Ok (record { old_directory = at.0; old_place = at.1; new_directory = to.0; new_place = to.1; found = found; target = found_at trees other })

  abbrev pub moving_live : Found → Object × ℕ → Walked → Object × ℕ → Result Moving Refusal
  moving_live found at other to = live found.object >>= (λ _. moving_end found at other to)

  abbrev pub moving_tree : Found → Object × ℕ → Walked → Object × ℕ → Result Moving Refusal
  moving_tree found at other to = one_tree at.0 to.0 >>= (λ _. moving_live found at other to)

  abbrev pub moving_to : Found → Object × ℕ → Walked → Result Moving Refusal
  moving_to found at other = parent_of Ebusy other >>= (λ to. moving_tree found at other to)

  abbrev pub moving_walk : Found → Object × ℕ → Result Moving Refusal
  moving_walk found at = prefix trees cred 2 others >>= (λ other. moving_to found at other)

  abbrev pub moving_at : Walked → Found → Result Moving Refusal
  moving_at walked found = parent_of Ebusy walked >>= (λ at. moving_walk found at)

  abbrev pub moving_there : Walked → Result Moving Refusal
  moving_there walked = there (found_at trees walked) >>= (λ found. moving_at walked found)

module _ (limits : Limits) (seen : Seen) (s : Session) (names others : List (List ℕ)) where
  abbrev pub moved_end : Moving → Result Outcome Refusal
  moved_end m = Ok (does (5 * limits.inode_charge + 2 * limits.block_charge) (Rename (number_of m.old_directory) (last_name names) (number_of m.new_directory) (last_name others)))

  abbrev pub moved_room : Moving → Result Outcome Refusal
  moved_room m = room_to_move seen m >>= (λ _. moved_end m)

  abbrev pub moved_way : Moving → Attributes → Result Outcome Refusal
  moved_way m new = gives_way seen s.cred new m.found m.target >>= (λ _. moved_room m)

  abbrev pub moved_sticky : Moving → Attributes → Attributes → Result Outcome Refusal
  moved_sticky m old new = sticky s.cred 1 old m.found >>= (λ _. moved_way m new)

  abbrev pub moved_new : Moving → Attributes → Result Outcome Refusal
  moved_new m old = writable_parent seen.trees s.cred 2 m.new_place m.new_directory >>= (λ new. moved_sticky m old new)

  abbrev pub moved_old : Moving → Result Outcome Refusal
  moved_old m = writable_parent seen.trees s.cred 1 m.old_place m.old_directory >>= (λ old. moved_new m old)

  abbrev pub rename_one : Moving → Result Outcome Refusal
  rename_one m = cond (is_one m.found m.target) (Ok (tells Done)) (moved_outcome limits seen s names others m)

  abbrev pub rename_looked : Result Outcome Refusal
  rename_looked = moving_of seen.trees s.cred names others >>= rename_one

  abbrev pub rename_new : Result Outcome Refusal
  rename_new = movable others >>= (λ _. rename_looked)

module _ (seen : Seen) (s : Session) where
  abbrev pub readdir_end : Found → Result Outcome Refusal
  readdir_end found = Ok (tells (Names (seen.names.listed found.object)))

  abbrev pub readdir_read : Found → Result Outcome Refusal
  readdir_read found = granted s.cred 1 found.place read (Some found.attributes) >>= (λ _. readdir_end found)

  abbrev pub readdir_kind : Found → Result Outcome Refusal
  readdir_kind found = is_listable found >>= (λ _. readdir_read found)
