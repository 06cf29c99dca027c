-- A look-up, and the fault that remains after it.
use Rattle.std.proofs.Common.{◌≡◌, ℕ, Bool, IsTrue, Option, None, Some, Result, Ok, Err, IfErr, refl, sym, subst}
use Rattle.sn_block.specs.declared.fault.ReadFault.TheVariants.{Device, Memory}
use Rattle.sn_device.specs.Disk.{Disk, reads}
use Rattle.sn_device.specs.declared.status.Status.{Status}
use Rattle.sn_layout.specs.declared.root.RootBody.{RootBody}
use Rattle.sn_layout.specs.declared.tree.BlockTree.{BlockTree}
use Rattle.sn_limits.specs.declared.limits.Limits.{Limits}
use Rattle.sn_ondisk.specs.Trees.{store_of}
use Rattle.sn_rooted.specs.Roots.{IsSoundRoot}
use Rattle.sn_tree_read.specs.Counts.{CountsTree}
use Rattle.sn_tree_read.specs.declared.fault.TreeFault.{TreeFault}
use Rattle.sn_tree_read.specs.declared.fault.TreeFault.TheVariants.{Read, Damaged}
use Rattle.sn_rooted_tree.specs.Looks.{Looks, Stands, fault_of}

pub looked : {T : Type 0} (told : Bool) (answer : Result T TreeFault) (old new : Status) → CountsTree answer old new → (IsTrue told → (block : Option ℕ) → answer ≡ Err (Damaged block) → ⊥) → Stands told old new None (fault_of answer)
looked told (Ok x) old new counts never = counts.done
looked told (Err (Read Device)) old new counts never = counts.device refl
looked told (Err (Read Memory)) old new counts never = counts.memory refl
looked told (Err (Damaged block)) old new counts never = (counts.damaged block refl, λ is. never is block refl)

-- after an answer, where there was no fault
pub looks_behind : {T : Type 0} (told : Bool) (old new : Status) (before now : Disk) (root : RootBody) (stood stands : Option TreeFault) (answer : Result T TreeFault) → stood ≡ None → stands ≡ fault_of answer → CountsTree answer old new → (IsTrue told → now ≡ before)
    → (IsTrue told → (block : Option ℕ) → answer ≡ Err (Damaged block) → ⊥) → Looks told old new before now root root stood stands
looks_behind told old new before now root stood stands answer none is counts same never = record {
  same = same;
  root = refl;
  stands = subst (λ (o : Option TreeFault). Stands told old new o stands) (sym none) (subst (λ (o : Option TreeFault). Stands told old new None o) (sym is) (looked told answer old new counts never));
}

-- an answer that asks the device nothing
pub looks_aside : {T : Type 0} (told : Bool) (status : Status) (disk : Disk) (root : RootBody) (stood stands : Option TreeFault) (answer : Result T TreeFault) → stood ≡ None → stands ≡ fault_of answer → IfErr answer (λ f. f ≡ Read Memory) → Looks told status status disk disk root root stood stands
looks_aside told status disk root stood stands answer none is memory = record {
  same = λ here. refl;
  root = refl;
  stands = subst (λ (o : Option TreeFault). Stands told status status o stands) (sym none) (subst (λ (o : Option TreeFault). Stands told status status None o) (sym is) (aside answer memory));
}
  where
    aside : {X : Type 0} (a : Result X TreeFault) → IfErr a (λ f. f ≡ Read Memory) → Stands told status status None (fault_of a)
    aside (Ok x) e = refl
    aside (Err f) e = subst (λ (x : TreeFault). Stands told status status None (Some x)) (sym e) refl

-- the fault that is answered remains
pub stood : {T : Type 0} (answer : Result T TreeFault) (fault : Option TreeFault) → fault ≡ fault_of answer → IfErr answer (λ f. fault ≡ Some f)
stood (Ok x) fault is = tt
stood (Err f) fault is = is

-- a root is sound after a look-up where it was before
pub stays_sound : (told : Bool) (k n : ℕ) (before now : Disk) (limits : Limits) (file : BlockTree) → n ≡ k → (IsTrue told → now ≡ before)
    → (IsTrue told → IsSoundRoot limits k (store_of (reads before)) file) → IsTrue told → IsSoundRoot limits n (store_of (reads now)) file
stays_sound told k n before now limits file sectors same sound is =
    subst (λ (m : ℕ). IsSoundRoot limits m (store_of (reads now)) file) (sym sectors)
    (subst (λ (d : Disk). IsSoundRoot limits k (store_of (reads d)) file) (sym (same is)) (sound is))
