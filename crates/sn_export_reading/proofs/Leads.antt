-- What a path leads to is one thing, in a tree that is whole.
use Rattle.std.proofs.Common.{◌≡◌, ℕ, Some, Result, Ok, List, sym, ap, subst, ◌∙◌}
use Rattle.sn_limits.specs.Versions.{limits_written}
use Rattle.sn_walk.specs.declared.fault.PathFault.{PathFault}
use Rattle.sn_walk.specs.declared.object.Home.{Home}
use Rattle.sn_walk.specs.declared.object.Home.TheVariants.{Live, Frozen}
use Rattle.sn_walk.specs.declared.walking.Found.{Found}
use Rattle.sn_walk.specs.Paths.{parsed}
use Rattle.sn_model.specs.declared.reply.Refusal.{Refusal}
use Rattle.sn_model.specs.NameTree.{IsTree}
use Rattle.sn_model.specs.Tests.{full}
use Rattle.sn_model.specs.Tree.{Tree}
use Rattle.sn_model.specs.World.{Trees, tree_in, viewed_trees}
use Rattle.sn_export_reading.specs.Serving.{AreFound, LeadsTo, reader}

abbrev pub path_ok : List (List ℕ) → Result (List (List ℕ)) PathFault
path_ok names = Ok names

pub same_names : (a b : List (List ℕ)) → path_ok a ≡ Ok b → a ≡ b
same_names a b e = cc

abbrev found_ok : Found → Result Found Refusal
found_ok f = Ok f

-- a path leads to one thing
pub leads_once : (trees : Trees) (path : List ℕ) (a b : Found) → LeadsTo trees path a → LeadsTo trees path b → a ≡ b
leads_once trees path a b is-a is-b =
    let names : path_ok is-a.names ≡ Ok is-b.names = sym is-a.spelled ∙ is-b.spelled in
    let same = same_names is-a.names is-b.names names in
    let found : found_ok a ≡ Ok b = sym is-a.leads ∙ ap (full (viewed_trees trees) reader 1) same ∙ is-b.leads in
    cc

pub names_once : (trees : Trees) (path : List ℕ) (a : Found) (names : List (List ℕ)) → (is : LeadsTo trees path a) → parsed path ≡ Ok names → is.names ≡ names
names_once trees path a names is e = same_names is.names names (sym is.spelled ∙ e)

pub tree_is_whole : (trees : Trees) (home : Home) (tree : Tree) → AreFound trees → tree_in trees home ≡ Some tree → IsTree limits_written tree
tree_is_whole trees Live tree are e = let same : trees.live ≡ tree = cc in subst (λ (t : Tree). IsTree limits_written t) same are.live
tree_is_whole trees (Frozen name) tree are e = are.frozen name tree e
