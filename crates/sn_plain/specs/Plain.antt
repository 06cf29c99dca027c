-- The tree that the maps in memory stand for, and what a change of it answers.
use Rattle.std.specs.Prelude.{◌≡◌, Result, Ok, Err, Option, Some, None}
use Rattle.sn_model.specs.Tree.{Tree}
use Rattle.sn_plain.specs.Stored.{tree_with}
use Rattle.sn_plain.specs.declared.fault.ApplyError.{ApplyError}
use Rattle.sn_plain.specs.declared.fault.ApplyError.TheVariants.{CannotApply, Memory}
use Rattle.sn_plain.specs.declared.tree.PlainTree.{PlainTree}

abbrev pub tree_of : PlainTree → Tree
tree_of t = tree_with t.nodes t.links

-- Where it is `Ok`, the new tree is the one that was asked for. Else it is the old one; `CannotApply` says that none was there to ask for.
abbrev pub FailsBy : ApplyError → Option Tree → Tree → Tree → Type 0
FailsBy CannotApply asked old new = (asked ≡ None) × (new ≡ old)
FailsBy Memory asked old new = new ≡ old

abbrev pub Applies : Result (Unit {0}) ApplyError → Option Tree → Tree → Tree → Type 0
Applies (Ok _) asked old new = asked ≡ Some new
Applies (Err e) asked old new = FailsBy e asked old new
