-- What a change brings is there afterwards.
use Rattle.std.proofs.Common.{◌≡◌, ℕ, true, List, [], length, take, drop, Option, Some, None, refl, sym, ap, subst, ◌∙◌, inl, inr, eqb-true}
use Rattle.std.specs.Prelude.{IsSomeAnd}
use Rattle.std.specs.FinMap as map
use Rattle.std.specs.Cmp.{nat_cmp_total}
use Rattle.std.proofs.Math.Seq.{drop-append_seam, take-append_seam}
use Rattle.sn_limits.specs.declared.kind.Kind.TheVariants.{File}
use Rattle.sn_limits.specs.declared.limits.Limits.{Limits}
use Rattle.sn_model.specs.declared.change.Change.{Change}
use Rattle.sn_model.specs.declared.change.Change.TheVariants.{Make, AddLink, Remove, Rename, Write, SetSize, SetAttributes}
use Rattle.sn_model.specs.declared.link.Link.{Link}
use Rattle.sn_model.specs.Tree.{Node, Tree, link_to}
use Rattle.sn_model.specs.Changes.{node_with, ownership_of, put_node, same_number, resized, overwritten, apply}
use Rattle.sn_model.specs.ChangeLaws.{Brings, HasNode}
use Rattle.sn_model.proofs.LinkLemmas.{links_total}
use Rattle.sn_model.proofs.MapLemmas.{get_inserted}
use Rattle.sn_model.proofs.PartLemmas.{file_is, made_is, linked_is, unlinked_is, removed_is, Renamed, IsRenamed, renamed_is, written_is, cut_is, owned_is}
use Rattle.sn_model.proofs.MoveLemmas.{is_kind}
use Rattle.sn_model.proofs.KeepLemmas.{file_kind, unlinked_clears}
use Rattle.sn_model.proofs.NodeLemmas.{length_resized}

-- what holds of a node that is put at a number
put_has : (tree : Tree) (number : ℕ) (node : Node) (P : Node → Type 0) → P node → HasNode (put_node tree number node) number P
put_has tree number node P h = subst (λ (o : Option Node). IsSomeAnd o P) (sym (get_inserted nat_cmp_total tree.nodes number node)) h

named_same : (number : ℕ) (o : Option ℕ) → same_number number o ≡ true → o ≡ Some number
named_same number None e = cc
named_same number (Some other) e = ap (λ (n : ℕ). Some n) (sym (eqb-true number other e))

-- the bytes that were written, after as many as the offset says
found_written : (bytes : List ℕ) (offset : ℕ) (new : List ℕ) → take (length new) (drop offset (overwritten bytes offset new)) ≡ new
found_written bytes offset new =
    let front = resized bytes offset in
    ap (λ n. take (length new) (drop n (overwritten bytes offset new))) (sym (length_resized bytes offset))
    ∙ ap (take (length new)) (drop-append_seam front _)
    ∙ take-append_seam new _

renamed_brings : (limits : Limits) (tree : Tree) (old new : Link) (after : Tree) (p : Renamed limits tree old new after) → IsRenamed limits tree old new p.number p.node after → IsSomeAnd (map.get tree.links old) (λ number. map.get after.links new ≡ Some number)
renamed_brings limits tree old new after p done = subst (λ (o : Option ℕ). IsSomeAnd o (λ number. map.get after.links new ≡ Some number)) (sym p.named) (told done)
  where
    told : IsRenamed limits tree old new p.number p.node after → map.get after.links new ≡ Some p.number
    told (inl q) = ap (λ (t : Tree). map.get t.links new) (sym q.1) ∙ named_same p.number (map.get tree.links new) q.0
    told (inr q) = ap (λ (t : Tree). map.get t.links new) (sym q.1.gives) ∙ get_inserted links_total (map.remove q.1.cleared.links old) new p.number

pub change_brings : (limits : Limits) (change : Change) (tree after : Tree) → apply limits change tree ≡ Some after → Brings change tree after
change_brings limits (Make directory name number kind o) tree after e =
    let link = link_to directory name in
    let p = made_is limits tree link number kind o after e in
    let x = node_with kind o [] in
    subst (Brings (Make directory name number kind o) tree) p.gives
    (get_inserted links_total tree.links link number, put_has tree number x (λ node. (node.kind ≡ kind) × (ownership_of node ≡ o) × (node.bytes ≡ [])) (refl, refl, refl))
change_brings limits (AddLink directory name number) tree after e =
    let link = link_to directory name in
    let p = linked_is limits tree link number after e in
    let f = file_is tree number p.node p.file in
    subst (Brings (AddLink directory name number) tree) p.gives (get_inserted links_total tree.links link number, is_kind tree number p.node File f.0 (file_kind p.node.kind f.1))
change_brings limits (Remove directory name) tree after e =
    let link = link_to directory name in
    let p = removed_is tree link after e in
    (unlinked_clears tree link p.number p.node after (unlinked_is tree link p.number p.node after p.gone)).absent
change_brings limits (Rename old_directory old_name new_directory new_name) tree after e =
    let p = renamed_is limits tree (link_to old_directory old_name) (link_to new_directory new_name) after e in
    renamed_brings limits tree (link_to old_directory old_name) (link_to new_directory new_name) after p p.done
change_brings limits (Write number offset bytes) tree after e =
    let p = written_is limits tree number offset bytes after e in
    subst (Brings (Write number offset bytes) tree) p.gives (put_has tree number (record p.node { bytes = overwritten p.node.bytes offset bytes }) (λ node. take (length bytes) (drop offset node.bytes) ≡ bytes) (found_written p.node.bytes offset bytes))
change_brings limits (SetSize number size) tree after e =
    let p = cut_is limits tree number size after e in
    subst (Brings (SetSize number size) tree) p.gives (put_has tree number (record p.node { bytes = resized p.node.bytes size }) (λ node. length node.bytes ≡ size) (length_resized p.node.bytes size))
change_brings limits (SetAttributes number o) tree after e =
    let p = owned_is tree number o after e in
    subst (Brings (SetAttributes number o) tree) p.gives (put_has tree number (node_with p.node.kind o p.node.bytes) (λ node. ownership_of node ≡ o) refl)
