-- What holds where a change can be applied.
use Rattle.std.proofs.Common.{◌≡◌, ℕ, ◌+◌, ◌<◌, ◌≤◌, ◌^◌, nat_lt, nat_le, List, length, Option, Some, sym, ap, subst, arith}
use Rattle.std.specs.Prelude.{Result, Ok, Err, IfOk, IfSome}
use Rattle.std.specs.List.{list_all}
use Rattle.std.specs.Option.{option_map}
use Rattle.std.proofs.lemmas.Bool.{ltb-true, leb-true}
use Rattle.sn_limits.specs.declared.limits.Limits.{Limits}
use Rattle.sn_model.specs.declared.link.Link.{Link}
use Rattle.sn_model.specs.Tree.{Node, Tree, link_count, names_for}
use Rattle.sn_model.specs.Changes.{linked, written}
use Rattle.sn_model.proofs.ChainLemmas.{and_left, and_right}
use Rattle.sn_model.proofs.KeepLemmas.{file_kind}
use Rattle.sn_model.proofs.PartLemmas.{linked_is, written_is, file_is}
use Rattle.sn_overlay.specs.Seen.{seen_of, seen_node}
use Rattle.sn_overlay_change.proofs.WriteLemmas.{writes_some}

-- a file that gets one more name has fewer than the limit
pub links_fit : (limits : Limits) (tree after : Tree) (link : Link) (number : ℕ) → limits.links < 2 ^ 16 → linked limits tree link number ≡ Some after → IfSome (seen_node tree number) (λ file. file.links + 1 < 2 ^ 16)
links_fit limits tree after link number most e =
    let p = linked_is limits tree link number after e in
    let is = file_is tree number p.node p.file in
    subst (λ (found : Option Node). IfSome (option_map (seen_of tree number) found) (λ file. file.links + 1 < 2 ^ 16)) (sym is.0)
    (fewer p.node (ap (λ kind. link_count kind (names_for tree number)) (file_kind p.node.kind is.1)) (ltb-true (names_for tree number) limits.links p.room.links))
  where
    fewer : (node : Node) → link_count node.kind (names_for tree number) ≡ names_for tree number → names_for tree number < limits.links → (seen_of tree number node).links + 1 < 2 ^ 16
    fewer node same less = omega arith

-- bytes that are written end before the largest file does
pub bytes_fit : (limits : Limits) (tree after : Tree) (number offset : ℕ) (bytes : List ℕ) → limits.largest_file < 2 ^ 64 → written limits tree number offset bytes ≡ Some after → offset + length bytes < 2 ^ 64
bytes_fit limits tree after number offset bytes most e =
    let p = written_is limits tree number offset bytes after e in
    let less : offset + length bytes ≤ limits.largest_file = leb-true (offset + length bytes) limits.largest_file (and_right (nat_lt 0 (length bytes)) (nat_le (offset + length bytes) limits.largest_file) (and_left _ (list_all (λ b. nat_lt b 256) bytes) p.fits)) in
    omega arith

pub bytes_some : (limits : Limits) (tree after : Tree) (number offset : ℕ) (bytes : List ℕ) → written limits tree number offset bytes ≡ Some after → 0 < length bytes
bytes_some limits tree after number offset bytes e = writes_some limits tree after number offset bytes (written_is limits tree number offset bytes after e)

-- what follows of an answer
pub if_ok : {A E : Type 0} (r : Result A E) (P Q : A → Type 0) → ((x : A) → P x → Q x) → IfOk r P → IfOk r Q
if_ok (Ok x) P Q f h = f x h
if_ok (Err e) P Q f h = h
