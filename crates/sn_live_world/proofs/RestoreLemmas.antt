-- A snapshot's tree without its files without names.
use Rattle.std.proofs.Common.{◌≡◌, false, sym, subst}
use Rattle.sn_changed.specs.Changed.{HasChanged}
use Rattle.sn_changed.proofs.ChangedLemmas.{nothing_changed}
use Rattle.sn_limits.specs.declared.limits.Limits.{Limits}
use Rattle.sn_live.specs.Unnamed.{DropsNameless}
use Rattle.sn_model.specs.NameTree.{IsHierarchy}
use Rattle.sn_model.specs.Settling.{settled}
use Rattle.sn_model.specs.Tree.{Tree}
use Rattle.sn_overlay.specs.Layers.{Layer}
use Rattle.sn_overlay.specs.Needs.{AreCharged}
use Rattle.sn_overlay.specs.Overlays.{no_changes}

-- where nothing had changed of a tree, what has changed once they are gone is paid by their charges
pub drops_paid : (root shown : Tree) (old new : Layer) → shown ≡ root → old ≡ no_changes → IsHierarchy shown → DropsNameless shown old new → (limits : Limits) → AreCharged limits → HasChanged limits new root (settled root) 0
drops_paid root shown old new same none whole drops limits charged =
    subst (λ (t : Tree). HasChanged limits new root (settled t) 0) same
    (drops.leads limits root shown 0 (λ _. false) charged whole
    (subst (λ (t : Tree). HasChanged limits old root t 0) (sym same) (subst (λ (l : Layer). HasChanged limits l root root 0) (sym none) (nothing_changed limits root)))
    drops.gone)
