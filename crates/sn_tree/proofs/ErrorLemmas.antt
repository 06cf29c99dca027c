-- Want of memory is no fault of a tree, and no full disk.
use Rattle.std.proofs.Common.{◌≡◌, ◌≢◌, ◌∙◌, refl, sym}
use Rattle.std.specs.Prelude.{Result, Ok, Err}
use Rattle.std.specs.Result.{IsErrAnd}
use Rattle.sn_tree_read.specs.declared.fault.TreeFault.{TreeFault}
use Rattle.sn_tree.specs.declared.fault.PlanFault.{PlanFault}
use Rattle.sn_tree.specs.declared.fault.PlanFault.TheVariants.{Tree, Memory, Full}

fault_same : {X : Type 0} (r : Result X PlanFault) (a b : PlanFault) → r ≡ Err a → r ≡ Err b → a ≡ b
fault_same r a b here there = cc

pub memory_not_tree : {X : Type 0} (r : Result X PlanFault) → IsErrAnd r (λ e. e ≡ Memory) → (fault : TreeFault) → r ≢ Err (Tree fault)
memory_not_tree (Ok x) is fault e = cc
memory_not_tree (Err y) is fault e = let never : Memory ≡ Tree fault = sym is ∙ fault_same (Err y) y (Tree fault) refl e in cc

pub memory_not_full : {X : Type 0} (r : Result X PlanFault) → IsErrAnd r (λ e. e ≡ Memory) → r ≢ Err Full
memory_not_full (Ok x) is e = cc
memory_not_full (Err y) is e = let never : Memory ≡ Full = sym is ∙ fault_same (Err y) y Full refl e in cc
