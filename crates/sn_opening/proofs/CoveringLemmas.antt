-- Changes that make a tree which covers the live one.
use Rattle.std.proofs.Common.{◌≡◌, ℕ, Bool, false, List, [], ◌∷◌, ◌++◌, Some, sym, ap, ◌∙◌}
use Rattle.sn_limits.specs.declared.limits.Limits.{Limits}
use Rattle.sn_layout.specs.declared.root.RootBody.{RootBody}
use Rattle.sn_model.specs.declared.change.Change.{Change}
use Rattle.sn_model.specs.Chains.{◌>>=◌}
use Rattle.sn_model.specs.Changes.{apply, apply_all}
use Rattle.sn_model.specs.Settling.{settled, without_nameless}
use Rattle.sn_model.specs.Tree.{Tree}
use Rattle.sn_model.proofs.CoversLemmas.{change_kept}
use Rattle.sn_model.proofs.ListLemmas.{lists_join, covers_itself}
use Rattle.sn_model.proofs.SettlingLemmas.{dropping_kept, settle_alike}
use Rattle.sn_ondisk.specs.Trees.{Store}
use Rattle.sn_image.specs.Image.{image}
use Rattle.sn_opening.specs.Covering.{MakesCover}
use Rattle.sn_opening.specs.Worlds.{StandsFor, found, frozen_of}

pub covers_stand : (s : Store) (root : RootBody) (changes : List Change) (live : Tree) → MakesCover root.limits changes (image s root.inode_file) live
    → StandsFor s root changes (found live (frozen_of s root.snapshots))
covers_stand s root changes live m =
    let alike = settle_alike m.tree live m.covers in
    record { tree = m.tree; applied = m.applied; settles = λ i. record (found live (frozen_of s root.snapshots)) { live = sym alike i } }

pub applied_one : (limits : Limits) (change : Change) (tree after : Tree) → apply limits change tree ≡ Some after → apply_all limits (change ∷ []) tree ≡ Some after
unfolding apply_all
applied_one limits change tree after e = ap (λ o. o >>= (λ t. Some t)) e

pub one_more_covers : (limits : Limits) (changes : List Change) (change : Change) (from live after : Tree) → MakesCover limits changes from live → apply limits change live ≡ Some after
    → MakesCover limits (changes ++ change ∷ []) from after
one_more_covers limits changes change from live after m e =
    let more = change_kept limits change m.tree live after m.covers e in
    record {
      tree = more.0;
      applied = lists_join limits changes (change ∷ []) from ∙ ap (λ o. o >>= apply_all limits (change ∷ [])) m.applied ∙ applied_one limits change m.tree more.0 more.1;
      covers = more.2;
    }

pub dropping_covers : (limits : Limits) (changes : List Change) (from live : Tree) (held : ℕ → Bool) → MakesCover limits changes from live → MakesCover limits changes from (without_nameless held live)
dropping_covers limits changes from live held m = record { tree = m.tree; applied = m.applied; covers = dropping_kept m.tree live held m.covers }

pub replay_covers : (limits : Limits) (changes : List Change) (from tree : Tree) → apply_all limits changes from ≡ Some tree → MakesCover limits changes from (settled tree)
replay_covers limits changes from tree applied = record { tree = tree; applied = applied; covers = dropping_kept tree tree (λ n. false) (covers_itself tree) }
