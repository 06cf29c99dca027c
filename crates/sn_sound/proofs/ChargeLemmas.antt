-- Charges, alike on the live tree and on the one that replay makes.
use Rattle.std.proofs.Common.{◌≡◌, ℕ, ◌+◌, ◌*◌, true, Option, Some, None, refl, sym, ap, ◌∙◌}
use Rattle.std.specs.Prelude.{is_some}
use Rattle.std.specs.FinMap as map
use Rattle.sn_limits.specs.declared.limits.Limits.{Limits}
use Rattle.sn_model.specs.declared.change.Change.{Change}
use Rattle.sn_model.specs.declared.change.Change.TheVariants.{Make, AddLink, Remove, Rename, Write, SetSize, SetAttributes}
use Rattle.sn_model.specs.declared.link.Link.{Link}
use Rattle.sn_model.specs.Covers.{Covers}
use Rattle.sn_model.specs.NameTree.{IsHierarchy}
use Rattle.sn_model.specs.Tree.{Node, Tree, link_to}
use Rattle.sn_model.specs.Charges.{charge_for, file_under}

under : (replayed live : Tree) → IsHierarchy live → Covers replayed live → (link : Link) → file_under replayed link ≡ file_under live link
under replayed live h c link = told (map.get live.links link) refl
  where
    alike : (n : ℕ) (x : Option Node) → map.get live.nodes n ≡ x → is_some x ≡ true → map.get replayed.nodes n ≡ map.get live.nodes n
    alike n (Some node) g s = c.kept n node g ∙ sym g
    alike n None g s = absurd cc

    told : (o : Option ℕ) → map.get live.links link ≡ o → file_under replayed link ≡ file_under live link
    told None e = rw (ap (λ links. map.get links link) c.links) (rw e refl)
    told (Some n) e = rw (ap (λ links. map.get links link) c.links) (rw e (rw (alike n (map.get live.nodes n) refl (h.leads link n e)) refl))

pub charged_alike : (limits : Limits) (replayed live : Tree) (change : Change) → IsHierarchy live → Covers replayed live → charge_for limits replayed change ≡ charge_for limits live change
charged_alike limits replayed live (Make directory name number kind o) h c = refl
charged_alike limits replayed live (AddLink directory name number) h c = refl
charged_alike limits replayed live (Remove directory name) h c = ap (λ (n : ℕ). (2 + n) * limits.inode_charge + limits.block_charge) (under replayed live h c (link_to directory name))
charged_alike limits replayed live (Rename old_directory old_name new_directory new_name) h c = refl
charged_alike limits replayed live (Write number offset bytes) h c = refl
charged_alike limits replayed live (SetSize number size) h c = refl
charged_alike limits replayed live (SetAttributes number o) h c = refl
