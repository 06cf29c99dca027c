-- Files without names, and changes that give a name only to what is new, or has one.
use Rattle.std.specs.Prelude.{◌≡◌, ℕ, true, false}
use Rattle.std.specs.FinMap as map
use Rattle.sn_model.specs.declared.change.Change.{Change}
use Rattle.sn_model.specs.declared.change.Change.TheVariants.{Make, AddLink, Remove, Rename, Write, SetSize, SetAttributes}
use Rattle.sn_model.specs.Settling.{is_nameless}
use Rattle.sn_model.specs.Tree.{Tree}

-- No file without names is named by the change, nor replaced by a node that it makes.
abbrev pub GivesNoFirstName : Tree → Change → Type 0
GivesNoFirstName tree (Make directory name number kind o) = is_nameless tree number (map.get tree.nodes number) ≡ false
GivesNoFirstName tree (AddLink directory name number) = is_nameless tree number (map.get tree.nodes number) ≡ false
GivesNoFirstName tree change = Unit {0}

-- Each file without names has none afterwards, too.
abbrev pub StayNameless : Tree → Tree → Type 0
StayNameless tree after = (number : ℕ) → is_nameless tree number (map.get tree.nodes number) ≡ true → is_nameless after number (map.get after.nodes number) ≡ true
