-- The calls that give a file or a directory its rights.
use Rattle.std.proofs.Common.{◌≡◌, ◌⊎◌, ℕ, Bool, true, false, List, [], ◌∷◌, ⊎_elim, refl, sym, ap, subst}
use Rattle.std.specs.Prelude.{if◌then◌else◌}
use Rattle.sn_acl.specs.Modes.{mode_of, with_mode}
use Rattle.sn_acl.specs.Text.{acl_text}
use Rattle.sn_limits.specs.declared.limits.Limits.{Limits}
use Rattle.sn_model.specs.declared.call.Call.{Call}
use Rattle.sn_model.specs.declared.argument.AclKind.TheVariants.{Access as OfAccess, Default as OfDefault}
use Rattle.sn_model.specs.declared.argument.NewAcl.TheVariants.{Access as NewAccess, Default as NewDefault}
use Rattle.sn_model.specs.Tree.{Node}
use Rattle.sn_model.specs.World.{World}
use Rattle.sn_model.specs.Worlds.{IsWorld}
use Rattle.sn_model.proofs.WorldLemmas.{step_world}
use Rattle.sn_import.specs.Calls.{bits_of, closing_from, default_text, given, granting, granting_new, marked, marking, owned, owning}
use Rattle.sn_import.specs.declared.closing.Closing.TheVariants.{Give}
use Rattle.sn_import.specs.declared.object.Object.{Object}
use Rattle.sn_import.specs.declared.object.Rights.{Rights}
use Rattle.sn_import.specs.declared.object.What.{What}
use Rattle.sn_import.specs.declared.object.What.TheVariants.{File, Directory, Top}
use Rattle.sn_import_calls.specs.Acts.{Act}
use Rattle.sn_import_calls.specs.Carried.{AreMade}
use Rattle.sn_import_laws.specs.Rights.{AreRights, as_directory, as_file, has_bits, with_access, with_bits, with_default, with_owner}
use Rattle.sn_import_laws.specs.Runs.{IsRoots, Runs}
use Rattle.sn_import_laws.specs.Trees.{IsTurned}
use Rattle.sn_import_laws.proofs.Modes.{access_argument, asked_bits, bits_argument, default_argument, own_mode}
use Rattle.sn_import_laws.proofs.Setting.{chmod_put, chown_put, setacl_put, turned, turned_again, turned_as}
use Rattle.sn_import_laws.proofs.Steps.{done, no_refusal, run_first, run_none, still_roots}

-- ---- one call

-- what a first call does, and the calls after it
record After (limits : Limits) (old new : World) (path : List ℕ) (becomes : Node → Node) (what : What) (rest : List Call) : Type 0 where
  between : World
  does : IsTurned old between path becomes
  whole : IsWorld limits between
  roots : IsRoots between
  acts : List Act
  left : AreMade what rest [] acts
  runs : Runs limits between acts new

module _ (limits : Limits) (old new : World) (path : List ℕ) (rights : Rights) (what : What) (rest : List Call) (acts : List Act) (whole : IsWorld limits old) (roots : IsRoots old) where
  owned_first : AreMade what (owning path rights ∷ rest) [] acts → Runs limits old acts new → After limits old new path (with_owner rights) what rest
  owned_first made runs =
      let c = owning path rights in
      let f = run_first limits old new what c rest acts made runs in
      let d = done limits old 0 c f.reply f.between (no_refusal what c f.reply (λ errno. refl) f.fine) f.step in
      let t = turned old f.between path (with_owner rights) (chown_put limits old f.between path rights.user rights.group f.reply whole roots d) in
      record { between = f.between; does = t; whole = step_world limits old f.between 0 c f.reply f.step tt whole; roots = still_roots old f.between t.sessions roots; acts = f.others; left = f.left; runs = f.runs }

  access_first : AreRights rights → AreMade what (granting path rights ∷ rest) [] acts → Runs limits old acts new → After limits old new path (with_access rights) what rest
  access_first are made runs =
      let c = granting path rights in
      let f = run_first limits old new what c rest acts made runs in
      let d = done limits old 0 c f.reply f.between (no_refusal what c f.reply (λ errno. refl) f.fine) f.step in
      let t = turned old f.between path (with_access rights) (setacl_put limits old f.between path OfAccess (acl_text rights.access) (NewAccess rights.access) f.reply whole (access_argument rights.access are.access) d) in
      record { between = f.between; does = t; whole = step_world limits old f.between 0 c f.reply f.step tt whole; roots = still_roots old f.between t.sessions roots; acts = f.others; left = f.left; runs = f.runs }

  default_first : AreRights rights → AreMade what (granting_new path rights ∷ rest) [] acts → Runs limits old acts new → After limits old new path (with_default rights) what rest
  default_first are made runs =
      let c = granting_new path rights in
      let f = run_first limits old new what c rest acts made runs in
      let d = done limits old 0 c f.reply f.between (no_refusal what c f.reply (λ errno. refl) f.fine) f.step in
      let t = turned old f.between path (with_default rights) (setacl_put limits old f.between path OfDefault (default_text rights.default) (NewDefault rights.default) f.reply whole (default_argument rights.default are.default) d) in
      record { between = f.between; does = t; whole = step_world limits old f.between 0 c f.reply f.step tt whole; roots = still_roots old f.between t.sessions roots; acts = f.others; left = f.left; runs = f.runs }

-- chmod sets the mode that the ACL shows
abbrev with_mark : Rights → Node → Node
with_mark rights node = record node { acl = with_mode (mode_of rights.access) node.acl; set_gid = rights.set_gid; sticky = rights.sticky }

marked_first : (limits : Limits) (old new : World) (path : List ℕ) (rights : Rights) (what : What) (rest : List Call) (acts : List Act) → IsWorld limits old → IsRoots old → AreRights rights
    → AreMade what (marking path rights ∷ rest) [] acts → Runs limits old acts new → After limits old new path (with_mark rights) what rest
marked_first limits old new path rights what rest acts whole roots are made runs =
    let c = marking path rights in
    let f = run_first limits old new what c rest acts made runs in
    let d = done limits old 0 c f.reply f.between (no_refusal what c f.reply (λ errno. refl) f.fine) f.step in
    let t = turned old f.between path (with_mark rights) (chmod_put limits old f.between path (bits_of rights) (asked_bits rights) f.reply whole roots (bits_argument rights are.access) d) in
    record { between = f.between; does = t; whole = step_world limits old f.between 0 c f.reply f.step tt whole; roots = still_roots old f.between t.sessions roots; acts = f.others; left = f.left; runs = f.runs }

-- after its ACL was set that is the S bits alone
mark_is : (rights : Rights) (node : Node) → AreRights rights → with_mark rights (with_access rights node) ≡ with_bits rights (with_access rights node)
mark_is rights node are = ap (λ acl. record node { acl = acl; set_gid = rights.set_gid; sticky = rights.sticky }) (own_mode rights.access are.access)

-- no call is left
ended : (limits : Limits) (old middle new : World) (path : List ℕ) (becomes : Node → Node) (what : What) (acts : List Act) → IsTurned old middle path becomes → AreMade what [] [] acts → Runs limits middle acts new → IsTurned old new path becomes
ended limits old middle new path becomes what acts t made runs = subst (λ (w : World). IsTurned old w path becomes) (sym (run_none limits middle new what acts made runs)) t

-- ---- files

abbrev owned_access : Rights → Node → Node
owned_access rights node = with_access rights (with_owner rights node)

file_marked : (limits : Limits) (old middle new : World) (path : List ℕ) (rights : Rights) (what : What) (acts : List Act) → AreRights rights → IsWorld limits middle → IsRoots middle
    → IsTurned old middle path (owned_access rights) → (b : Bool) → AreMade what (if b then marking path rights ∷ [] else []) [] acts → Runs limits middle acts new
    → IsTurned old new path (λ node. if b then with_bits rights (owned_access rights node) else owned_access rights node)
file_marked limits old middle new path rights what acts are whole roots t true made runs =
    let m = marked_first limits middle new path rights what [] acts whole roots are made runs in
    let both = turned_again old middle m.between path (owned_access rights) (with_mark rights) t m.does in
    ended limits old m.between new path (λ node. with_bits rights (owned_access rights node)) what m.acts
    (turned_as old m.between path (λ node. with_mark rights (owned_access rights node)) (λ node. with_bits rights (owned_access rights node)) (λ node. mark_is rights (with_owner rights node) are) both) m.left m.runs
file_marked limits old middle new path rights what acts are whole roots t false made runs = ended limits old middle new path (owned_access rights) what acts t made runs

pub file_given : (limits : Limits) (old new : World) (path : List ℕ) (rights : Rights) (what : What) (acts : List Act) → IsWorld limits old → IsRoots old → AreRights rights
    → AreMade what (given path (File rights)) [] acts → Runs limits old acts new → IsTurned old new path (as_file rights)
file_given limits old new path rights what acts whole roots are made runs =
    let marks = marked path (File rights) in
    let a = owned_first limits old new path rights what (granting path rights ∷ marks) acts whole roots made runs in
    let b = access_first limits a.between new path rights what marks a.acts a.whole a.roots are a.left a.runs in
    file_marked limits old b.between new path rights what b.acts are b.whole b.roots
    (turned_again old a.between b.between path (with_owner rights) (with_access rights) a.does b.does) (has_bits rights) b.left b.runs

pub files_get_rights : (limits : Limits) (old new : World) (object : Object) (rights : Rights) (acts : List Act) → IsWorld limits old → IsRoots old → AreRights rights → object.what ≡ File rights
    → AreMade object.what (closing_from Give object) [] acts → Runs limits old acts new → IsTurned old new object.path (as_file rights)
files_get_rights limits old new object rights acts whole roots are is made runs =
    let Made : What → Type 0 = λ what. AreMade what (given object.path what) [] acts in
    file_given limits old new object.path rights (File rights) acts whole roots are (subst Made is made) runs

-- ---- directories

directory_given : (limits : Limits) (old new : World) (path : List ℕ) (rights : Rights) (what : What) (acts : List Act) → IsWorld limits old → IsRoots old → AreRights rights
    → AreMade what (granting path rights ∷ granting_new path rights ∷ marking path rights ∷ []) [] acts → Runs limits old acts new → IsTurned old new path (as_directory rights)
directory_given limits old new path rights what acts whole roots are made runs =
    let a = access_first limits old new path rights what (granting_new path rights ∷ marking path rights ∷ []) acts whole roots are made runs in
    let b = default_first limits a.between new path rights what (marking path rights ∷ []) a.acts a.whole a.roots are a.left a.runs in
    let c = marked_first limits b.between new path rights what [] b.acts b.whole b.roots are b.left b.runs in
    let both = λ (node : Node). with_default rights (with_access rights node) in
    let all = turned_again old b.between c.between path both (with_mark rights) (turned_again old a.between b.between path (with_access rights) (with_default rights) a.does b.does) c.does in
    ended limits old c.between new path (as_directory rights) what c.acts
    (turned_as old c.between path (λ node. with_mark rights (both node)) (as_directory rights) (λ node. mark_is rights (with_default rights node) are) all) c.left c.runs

pub directories_get_rights : (limits : Limits) (old new : World) (object : Object) (rights : Rights) (acts : List Act) → IsWorld limits old → IsRoots old → AreRights rights
    → (object.what ≡ Directory rights) ⊎ (object.what ≡ Top rights) → AreMade object.what (closing_from Give object) [] acts → Runs limits old acts new → IsTurned old new object.path (as_directory rights)
directories_get_rights limits old new object rights acts whole roots are is made runs =
    let Made : What → Type 0 = λ what. AreMade what (given object.path what) [] acts in
    ⊎_elim
    (λ below. directory_given limits old new object.path rights (Directory rights) acts whole roots are (subst Made below made) runs)
    (λ top. directory_given limits old new object.path rights (Top rights) acts whole roots are (subst Made top made) runs)
    is

pub directory_owned : (limits : Limits) (old new : World) (path : List ℕ) (rights : Rights) (what : What) (acts : List Act) → IsWorld limits old → IsRoots old
    → AreMade what (owning path rights ∷ []) [] acts → Runs limits old acts new → IsTurned old new path (with_owner rights)
directory_owned limits old new path rights what acts whole roots made runs =
    let a = owned_first limits old new path rights what [] acts whole roots made runs in
    ended limits old a.between new path (with_owner rights) what a.acts a.does a.left a.runs

pub directories_get_owners : (limits : Limits) (old new : World) (object : Object) (rights : Rights) (acts : List Act) → IsWorld limits old → IsRoots old
    → (object.what ≡ Directory rights) ⊎ (object.what ≡ Top rights) → AreMade object.what (owned object.path object.what) [] acts → Runs limits old acts new → IsTurned old new object.path (with_owner rights)
directories_get_owners limits old new object rights acts whole roots is made runs =
    let Made : What → Type 0 = λ what. AreMade what (owned object.path what) [] acts in
    ⊎_elim
    (λ below. directory_owned limits old new object.path rights (Directory rights) acts whole roots (subst Made below made) runs)
    (λ top. directory_owned limits old new object.path rights (Top rights) acts whole roots (subst Made top made) runs)
    is
