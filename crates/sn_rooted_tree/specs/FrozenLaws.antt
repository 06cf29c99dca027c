-- Look-ups leave the frozen trees, and leave them sound.
use Rattle.std.specs.Prelude.{◌≡◌, Bool, true, false, IsTrue, Option, None, Some, MatchBool}
use Rattle.std.proofs.Common.{sym, ap, subst}
use Rattle.sn_block.specs.declared.fault.ReadFault.TheVariants.{Device, Memory}
use Rattle.sn_device.specs.Disk.{Disk, reads}
use Rattle.sn_device.specs.Status.{has_ended, one_failure}
use Rattle.sn_device.specs.declared.status.Status.{Status}
use Rattle.sn_layout.specs.declared.root.RootBody.{RootBody}
use Rattle.sn_ondisk.specs.Trees.{store_of}
use Rattle.sn_rooted.specs.Roots.{trees_at}
use Rattle.sn_tree_read.specs.declared.fault.TreeFault.{TreeFault}
use Rattle.sn_tree_read.specs.declared.fault.TreeFault.TheVariants.{Read, Damaged}
use Rattle.sn_rooted_tree.specs.Frozen.{AreSoundFrozen}
use Rattle.sn_rooted_tree.specs.Looks.{FailsSo, Looks, Stands}

module _ (told : Bool) (a b : Status) where
  sectors-read : (ended : Bool) → MatchBool ended (b ≡ a) (b ≡ one_failure a) → b.sectors ≡ a.sectors
  sectors-read true same = ap (λ (s : Status). s.sectors) same
  sectors-read false one = ap (λ (s : Status). s.sectors) one

  sectors-failed : (fault : TreeFault) → FailsSo told a b fault → b.sectors ≡ a.sectors
  sectors-failed (Read Device) fails = sectors-read (has_ended a) fails
  sectors-failed (Read Memory) same = ap (λ (s : Status). s.sectors) same
  sectors-failed (Damaged block) fails = ap (λ (s : Status). s.sectors) fails.0

  sectors-stay : (x y : Option TreeFault) → Stands told a b x y → b.sectors ≡ a.sectors
  sectors-stay None None same = ap (λ (s : Status). s.sectors) same
  sectors-stay None (Some fault) fails = sectors-failed fault fails
  sectors-stay (Some fault) y stands = ap (λ (s : Status). s.sectors) stands.1

  module _ (d e : Disk) (r s : RootBody) (x y : Option TreeFault) where
    pub frozen-stay : IsTrue told → Looks told a b d e r s x y → (trees_at (store_of (reads e)) s).frozen ≡ (trees_at (store_of (reads d)) r).frozen
    frozen-stay is looks = λ i. (trees_at (store_of (reads (looks.same is i))) (looks.root i)).frozen

    pub sound-stay : Looks told a b d e r s x y → (IsTrue told → AreSoundFrozen a.sectors (store_of (reads d)) r) → IsTrue told → AreSoundFrozen b.sectors (store_of (reads e)) s
    sound-stay looks sound is =
        subst (AreSoundFrozen b.sectors (store_of (reads e))) (sym looks.root)
        (subst (λ n. AreSoundFrozen n (store_of (reads e)) r) (sym (sectors-stay x y looks.stands))
        (subst (λ disk. AreSoundFrozen a.sectors (store_of (reads disk)) r) (sym (looks.same is)) (sound is)))
