-- One look-up after the other.
use Rattle.std.specs.Prelude.{Bool, Option, None, Some}
use Rattle.std.proofs.Common.{refl, sym, subst, ◌∙◌}
use Rattle.sn_device.specs.Disk.{Disk}
use Rattle.sn_device.specs.declared.status.Status.{Status}
use Rattle.sn_layout.specs.declared.root.RootBody.{RootBody}
use Rattle.sn_tree_read.specs.declared.fault.TreeFault.{TreeFault}
use Rattle.sn_rooted_tree.specs.Looks.{FailsSo, Looks, Stands}

module _ (told : Bool) where
  stands-itself : (status : Status) (fault : Option TreeFault) → Stands told status status fault fault
  stands-itself status None = refl
  stands-itself status (Some fault) = (refl, refl)

  stands-on : (a b c : Status) (x y z : Option TreeFault) → Stands told a b x y → Stands told b c y z → Stands told a c x z
  stands-on a b c None None z p q = subst (λ (s : Status). Stands told s c None z) p q
  stands-on a b c None (Some fault) z p q =
      subst (λ (o : Option TreeFault). Stands told a c None o) (sym q.0)
      (subst (λ (s : Status). FailsSo told a s fault) (sym q.1) p)
  stands-on a b c (Some fault) y z p q =
      let next : Stands told b c (Some fault) z = subst (λ (o : Option TreeFault). Stands told b c o z) p.0 q in
      (next.0, next.1 ∙ p.1)

  pub looks-itself : (status : Status) (disk : Disk) (root : RootBody) (fault : Option TreeFault) → Looks told status status disk disk root root fault fault
  looks-itself status disk root fault = record { same = λ is. refl; root = refl; stands = stands-itself status fault }

  pub looks-on : (a b c : Status) (d e f : Disk) (r s t : RootBody) (x y z : Option TreeFault) → Looks told a b d e r s x y → Looks told b c e f s t y z → Looks told a c d f r t x z
  looks-on a b c d e f r s t x y z first next = record {
    same = λ is. next.same is ∙ first.same is;
    root = next.root ∙ first.root;
    stands = stands-on a b c x y z first.stands next.stands;
  }
