-- A change, and the table of numbers.
use Rattle.std.proofs.Common.{◌≡◌, ◌≢◌, ◌⊎◌, inl, inr, ℕ, ◌==◌, Bool, true, false, cond, [], Option, Some, None, is_some, sym, ap, subst, ◌∙◌}
use Rattle.std.specs.Cmp.{nat_cmp_total}
use Rattle.std.specs.FinMap as map
use Rattle.std.proofs.lemmas.Map.Lookups.{exact_unsigned}
use Rattle.sn_limits.specs.Versions.{limits_written}
use Rattle.sn_limits.specs.declared.kind.Kind.{Kind}
use Rattle.sn_model.specs.declared.change.Change.{Change}
use Rattle.sn_model.specs.declared.change.Change.TheVariants.{Make, AddLink, Remove, Rename, Write, SetSize, SetAttributes}
use Rattle.sn_model.specs.declared.link.Link.{Link}
use Rattle.sn_model.specs.Changes.{apply, node_with, overwritten, put_node, replaced, resized, take_link}
use Rattle.sn_model.specs.Settling.{is_nameless}
use Rattle.sn_model.specs.Tree.{Node, Tree, link_count, link_to, names_for}
use Rattle.sn_model.proofs.ChainLemmas.{some_same}
use Rattle.sn_model.proofs.KeepLemmas.{directory_kind, other_kind}
use Rattle.sn_model.proofs.MapLemmas.{get_inserted, get_other, same_or_apart}
use Rattle.sn_model.proofs.PartLemmas.{IsRenamed, Renamed, Unlinked, cut_is, file_is, linked_is, made_is, owned_is, removed_is, renamed_is, replaced_is, unlinked_is, written_is}
use Rattle.sn_number_table.specs.Table.{TellsNumbers}
use Rattle.sn_number_table.specs.declared.table.NumberTable.{NumberTable}
use Rattle.sn_live.specs.Nodes.{NotesNodes, exchanging, losing, losing_node, losing_of, node_moves_of}
use Rattle.sn_live.specs.declared.nodes.NodeMoves.TheVariants.{Stay, Name, Unname}

module _ (old new : NumberTable) where
  stayed : (tree : Tree) → new ≡ old → TellsNumbers tree old → TellsNumbers tree new
  stayed tree same tells = subst (TellsNumbers tree) (sym same) tells

  name_or_stay : (number : ℕ) (b : Bool) → NotesNodes (cond b (Name number) Stay) old new → new ≡ old
  name_or_stay number true notes = notes
  name_or_stay number false notes = notes

  unname_or_stay : (number : ℕ) (b : Bool) → NotesNodes (cond b (Unname number) Stay) old new → new ≡ old
  unname_or_stay number true notes = notes
  unname_or_stay number false notes = notes

  -- ---- the numbers that have a node

  -- a node in place of another one
  tells_put : (tree : Tree) (number : ℕ) (node next : Node) → map.get tree.nodes number ≡ Some node → TellsNumbers tree old → TellsNumbers (put_node tree number next) old
  tells_put tree number node next there tells n = tells n ∙ told (same_or_apart nat_cmp_total exact_unsigned n number)
    where
      told : (n ≡ number) ⊎ (n ≢ number) → is_some (map.get tree.nodes n) ≡ is_some (map.get (put_node tree number next).nodes n)
      told (inl same) =
          ap (λ (k : ℕ). is_some (map.get tree.nodes k)) same ∙ ap is_some there
          ∙ sym (ap (λ (k : ℕ). is_some (map.get (put_node tree number next).nodes k)) same ∙ ap is_some (get_inserted nat_cmp_total tree.nodes number next))
      told (inr apart) = sym (ap is_some (get_other nat_cmp_total exact_unsigned tree.nodes number next n apart))

  still_put : (tree after : Tree) (number : ℕ) (node next : Node) → map.get tree.nodes number ≡ Some node → put_node tree number next ≡ after → new ≡ old → TellsNumbers tree old → TellsNumbers after new
  still_put tree after number node next there gives same tells = subst (λ (t : Tree). TellsNumbers t new) gives (stayed (put_node tree number next) same (tells_put tree number node next there tells))

  tells_unlinked : (tree after : Tree) (link : Link) (number : ℕ) (node : Node) → Unlinked tree link number node after → NotesNodes (losing_of number node.kind (link_count node.kind (names_for tree number))) old new → TellsNumbers tree old → TellsNumbers after new
  tells_unlinked tree after link number node (inl p) notes tells =
      let lost = subst (λ (k : Kind). NotesNodes (losing_of number k (link_count k (names_for tree number))) old new) (directory_kind node.kind p.kind) notes in
      subst (λ (t : Tree). TellsNumbers t new) p.gives (lost.tells (take_link tree link) tells)
  tells_unlinked tree after link number node (inr p) notes tells =
      let kept = subst (λ (k : Kind). NotesNodes (losing_of number k (link_count k (names_for tree number))) old new) (other_kind node.kind p.kind) notes in
      subst (λ (t : Tree). TellsNumbers t new) p.gives (stayed tree (unname_or_stay number (names_for tree number == 1) kept) tells)

  tells_lost : (tree after : Tree) (link : Link) (number : ℕ) (node : Node) → map.get tree.nodes number ≡ Some node → Unlinked tree link number node after → NotesNodes (losing tree (Some number)) old new → TellsNumbers tree old → TellsNumbers after new
  tells_lost tree after link number node there un notes tells =
      tells_unlinked tree after link number node un (subst (λ (o : Option Node). NotesNodes (losing_node tree number o) old new) there notes) tells

  tells_replaced : (tree cleared : Tree) (link : Link) (moved : Node) (target : Option ℕ) → replaced tree link moved target ≡ Some cleared → NotesNodes (losing tree target) old new → TellsNumbers tree old → TellsNumbers cleared new
  tells_replaced tree cleared link moved None e notes tells = subst (λ (t : Tree). TellsNumbers t new) (some_same _ _ e) (stayed tree notes tells)
  tells_replaced tree cleared link moved (Some n) e notes tells =
      let p = replaced_is tree link moved n cleared e in
      tells_lost tree cleared link n p.node p.there (unlinked_is tree link n p.node cleared p.gone) notes tells

  tells_renamed : (tree after : Tree) (from to : Link) (p : Renamed limits_written tree from to after) → IsRenamed limits_written tree from to p.number p.node after → NotesNodes (exchanging tree (Some p.number) (map.get tree.links to)) old new
      → TellsNumbers tree old → TellsNumbers after new
  tells_renamed tree after from to p (inl q) notes tells =
      let same = subst (λ (b : Bool). NotesNodes (cond b Stay (losing tree (map.get tree.links to))) old new) q.0 notes in
      subst (λ (t : Tree). TellsNumbers t new) q.1 (stayed tree same tells)
  tells_renamed tree after from to p (inr q) notes tells =
      let m = q.1 in
      let lost = subst (λ (b : Bool). NotesNodes (cond b Stay (losing tree (map.get tree.links to))) old new) q.0 notes in
      subst (λ (t : Tree). TellsNumbers t new) m.gives (tells_replaced tree m.cleared to p.node (map.get tree.links to) m.cleared_is lost tells)

  pub tells_on : (change : Change) (tree after : Tree) → apply limits_written change tree ≡ Some after → NotesNodes (node_moves_of tree change) old new → TellsNumbers tree old → TellsNumbers after new
  tells_on (Make directory name number kind o) tree after e notes tells =
      let p = made_is limits_written tree (link_to directory name) number kind o after e in
      subst (λ (t : Tree). TellsNumbers t new) p.gives (notes.tells tree (node_with kind o []) tells)
  tells_on (AddLink directory name number) tree after e notes tells =
      let p = linked_is limits_written tree (link_to directory name) number after e in
      subst (λ (t : Tree). TellsNumbers t new) p.gives (stayed tree (name_or_stay number (is_nameless tree number (map.get tree.nodes number)) notes) tells)
  tells_on (Remove directory name) tree after e notes tells =
      let link = link_to directory name in
      let p = removed_is tree link after e in
      tells_lost tree after link p.number p.node p.there (unlinked_is tree link p.number p.node after p.gone) (subst (λ (o : Option ℕ). NotesNodes (losing tree o) old new) p.named notes) tells
  tells_on (Rename old_directory old_name new_directory new_name) tree after e notes tells =
      let from = link_to old_directory old_name in
      let to = link_to new_directory new_name in
      let p = renamed_is limits_written tree from to after e in
      tells_renamed tree after from to p p.done (subst (λ (o : Option ℕ). NotesNodes (exchanging tree o (map.get tree.links to)) old new) p.named notes) tells
  tells_on (Write number offset bytes) tree after e notes tells =
      let p = written_is limits_written tree number offset bytes after e in
      still_put tree after number p.node (record p.node { bytes = overwritten p.node.bytes offset bytes }) (file_is tree number p.node p.file).0 p.gives notes tells
  tells_on (SetSize number size) tree after e notes tells =
      let p = cut_is limits_written tree number size after e in
      still_put tree after number p.node (record p.node { bytes = resized p.node.bytes size }) (file_is tree number p.node p.file).0 p.gives notes tells
  tells_on (SetAttributes number o) tree after e notes tells =
      let p = owned_is tree number o after e in
      still_put tree after number p.node (node_with p.node.kind o p.node.bytes) p.there p.gives notes tells
