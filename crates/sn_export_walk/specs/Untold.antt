-- What an export doesn't tell: a path that leads to no tree, and one below which a name leads nowhere.
use Rattle.std.specs.Prelude.{◌≡◌, ◌⊎◌, ℕ, List}
use Rattle.sn_model.specs.Tree.{Tree}
use Rattle.sn_model.specs.World.{Trees}
use Rattle.sn_walk.specs.declared.object.Home.{Home}
use Rattle.sn_walk.specs.declared.walking.Found.{Found}
use Rattle.sn_walk.specs.Objects.{number_of}
use Rattle.sn_export_walk.specs.Archives.{IsTreeAt}
use Rattle.sn_export_reading.specs.Serving.{LeadsTo}
use Rattle.sn_export_walk.specs.Visiting.{IsNamed}
use Rattle.sn_export_reading.specs.Faults.{LeadsNowhere}

-- what the path leads to, if it leads anywhere, is the directory of snapshots
abbrev pub IsNoTree : Trees → List ℕ → Type 0
IsNoTree trees path = (found : Found) → LeadsTo trees path found → number_of found.object ≡ 1

-- A directory of the tree has a name whose path leads nowhere. Calls take no longer paths than 1,023 bytes.
abbrev pub IsLost : Trees → Home → Tree → Type 0
IsLost trees home tree = (image : List ℕ) × IsNamed trees home tree image × LeadsNowhere trees image

-- a path leads into a tree that has such a name
pub record LosesName (trees : Trees) (path : List ℕ) : Type 0 where
  pub home : Home
  pub tree : Tree
  pub number : ℕ
  pub told : List ℕ
  pub at : IsTreeAt trees path home tree number told
  pub lost : IsLost trees home tree

-- calls tell no tree at the path, or not all of it
abbrev pub IsUntold : Trees → List ℕ → Type 0
IsUntold trees path = IsNoTree trees path ⊎ LosesName trees path
