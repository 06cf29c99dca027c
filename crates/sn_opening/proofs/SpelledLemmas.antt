-- Changes and their records: payloads spell one list of changes, and a change that can be applied has a payload.
use Rattle.std.proofs.Common.{◌≡◌, ℕ, ◌+◌, ◌<◌, ◌≤◌, ◌^◌, ◌&&◌, ◌||◌, ◌==◌, true, not, List, [], ◌∷◌, ◌++◌, Option, Some, None, is_none, is_some, length, nat_lt, nat_le, refl, sym, ap, ◌∙◌, inl, inr, arith}
use Rattle.std.specs.FinMap as map
use Rattle.std.specs.List.{list_all}
use Rattle.std.proofs.lemmas.Bool.{ltb-true, leb-true}
use Rattle.sn_acl.specs.declared.entries.Entry.{Entry}
use Rattle.sn_acl.specs.AccessList.{is_acl}
use Rattle.sn_acl.proofs.Validity.{valid-from_test}
use Rattle.sn_limits.specs.declared.kind.Kind.{Kind}
use Rattle.sn_limits.specs.declared.kind.Kind.TheVariants.{Directory}
use Rattle.sn_limits.specs.Names.{is_name}
use Rattle.sn_walk.specs.Views.{is_directory, is_hidden_name}
use Rattle.sn_limits.specs.Versions.{limits_written}
use Rattle.sn_limits.proofs.VersionLemmas.{fixed}
use Rattle.sn_model.specs.declared.change.Change.{Change}
use Rattle.sn_model.specs.declared.change.Change.TheVariants.{Make, AddLink, Remove, Rename, Write, SetSize, SetAttributes}
use Rattle.sn_model.specs.declared.link.Link.{Link}
use Rattle.sn_model.specs.declared.change.Ownership.{Ownership}
use Rattle.sn_model.specs.Changes.{apply, directory_at, file_at, is_at_or_below, is_default_acl, is_ownership, made, owned, same_number}
use Rattle.sn_model.specs.NameTree.{IsTree}
use Rattle.sn_model.specs.Tree.{Node, Tree, link_to, names_for}
use Rattle.sn_model.proofs.ChainLemmas.{and_left, and_right}
use Rattle.sn_model.proofs.MoveLemmas.{some_node}
use Rattle.sn_model.proofs.OutcomeLemmas.{IsOfOld}
use Rattle.sn_model.proofs.PartLemmas.{IsRenamed, cut_is, directory_is, file_is, linked_is, made_is, owned_is, removed_is, renamed_is, written_is}
use Rattle.sn_layout_acl.specs.AclBlock.{IsDefault}
use Rattle.sn_record.specs.Payload.{IsOwnership, IsSpelled, payload_bytes}
use Rattle.sn_record.proofs.OneSpelling.{one_spelling}
use Rattle.sn_log.specs.Positions.{payloads_of}
use Rattle.sn_opening.specs.Spelled.{AreSpelled}

-- ---- lists of changes

same_head : {A : Type 0} (a b : A) (xs ys : List A) → a ∷ xs ≡ b ∷ ys → (a ≡ b) × (xs ≡ ys)
same_head a b xs ys e = (cc, cc)

none_is_one : {A : Type 0} (a : A) (xs : List A) → a ∷ xs ≡ [] → ⊥
none_is_one a xs e = cc

-- payloads spell one list of changes
pub spelled_once : (cs ds : List Change) → AreSpelled cs → AreSpelled ds → payloads_of cs ≡ payloads_of ds → cs ≡ ds
spelled_once [] [] fits-c fits-d e = refl
spelled_once [] (d ∷ ds) fits-c fits-d e = absurd (none_is_one (payload_bytes d) (payloads_of ds) (sym e))
spelled_once (c ∷ cs) [] fits-c fits-d e = absurd (none_is_one (payload_bytes c) (payloads_of cs) e)
spelled_once (c ∷ cs) (d ∷ ds) fits-c fits-d e =
    let parts = same_head (payload_bytes c) (payload_bytes d) (payloads_of cs) (payloads_of ds) e in
    let first = one_spelling c d fits-c.0 fits-d.0 parts.0 in
    let rest = spelled_once cs ds fits-c.1 fits-d.1 parts.1 in
    ap (λ x. x ∷ cs) first ∙ ap (λ xs. d ∷ xs) rest

pub spelled_more : (cs : List Change) (change : Change) → AreSpelled cs → IsSpelled change → AreSpelled (cs ++ change ∷ [])
spelled_more [] change fits fit = (fit, tt)
spelled_more (c ∷ cs) change fits fit = (fits.0, spelled_more cs change fits.1 fit)

-- ---- changes that can be applied

default_is : (kind : Kind) (acl : Option (List Entry)) → is_default_acl kind acl ≡ true → IsDefault acl
default_is kind None e = tt
default_is kind (Some entries) e = valid-from_test entries (and_right (is_directory kind) (is_acl entries) e)

ownership_is : (kind : Kind) (o : Ownership) → is_ownership kind o ≡ true → IsOwnership o
ownership_is kind o e =
    let owner = nat_lt o.owner (2 ^ 32) in
    let group = nat_lt o.group (2 ^ 32) in
    let acl = is_acl o.acl in
    let front = and_left (owner && group && acl) (is_default_acl kind o.default_acl) e in
    let numbers = and_left (owner && group) acl front in
    record {
      owner = ltb-true o.owner (2 ^ 32) (and_left owner group numbers);
      group = ltb-true o.group (2 ^ 32) (and_right owner group numbers);
      acl = valid-from_test o.acl (and_right (owner && group) acl front);
      default = default_is kind o.default_acl (and_right (owner && group && acl) (is_default_acl kind o.default_acl) e);
    }

fits_two : (n : ℕ) → n ≤ 65535 → n < 256 ^ 2
fits_two n h = omega arith

pub applied_spelled : (tree after : Tree) (directory : ℕ) (name : List ℕ) (number : ℕ) (kind : Kind) (o : Ownership) → IsTree limits_written tree → made limits_written tree (link_to directory name) number kind o ≡ Some after → IsSpelled (Make directory name number kind o)
applied_spelled tree after directory name number kind o whole e =
    let m = made_is limits_written tree (link_to directory name) number kind o after e in
    let first = nat_lt 2 number in
    let within = nat_le number 65535 in
    let free = is_none (map.get tree.nodes number) || (is_some (file_at tree number) && names_for tree number == 0) in
    let parent = directory_is tree directory m.room.directory m.room.parent in
    let named = is_name name in
    let shown = not (is_hidden_name directory name) in
    let few = leb-true number 65535 (and_right first within (and_left (first && within) free m.free)) in (
      (
        fits_two directory (whole.nodes.nodes directory m.room.directory parent.0).within,
        fits_two number few,
        ownership_is kind o m.owned,
      ),
      and_left named shown (and_left (named && shown) (is_none (map.get tree.links (link_to directory name))) m.vacant),
    )

-- the same of attributes that are set
pub set_spelled : (tree after : Tree) (number : ℕ) (o : Ownership) → IsTree limits_written tree → owned tree number o ≡ Some after → IsSpelled (SetAttributes number o)
set_spelled tree after number o whole e =
    let p = owned_is tree number o after e in
    ((fits_two number (whole.nodes.nodes number p.node p.there).within, ownership_is p.node.kind o p.fits), tt)

-- where a name is, is a directory
directory_fits : (tree : Tree) (link : Link) (number : ℕ) → IsTree limits_written tree → map.get tree.links link ≡ Some number → link.directory < 256 ^ 2
directory_fits tree link number whole named =
    let x = some_node (map.get tree.nodes link.directory) Directory (whole.hierarchy.held link number named) in
    fits_two link.directory (whole.nodes.nodes link.directory x.0 x.1).within

parent_fits : (tree : Tree) (d : ℕ) (node : Node) → IsTree limits_written tree → directory_at tree d ≡ Some node → d < 256 ^ 2
parent_fits tree d node whole e = fits_two d (whole.nodes.nodes d node (directory_is tree d node e).0).within

file_fits : (tree : Tree) (number : ℕ) (node : Node) → IsTree limits_written tree → file_at tree number ≡ Some node → number < 256 ^ 2
file_fits tree number node whole e = fits_two number (whole.nodes.nodes number node (file_is tree number node e).0).within

fits_eight : (n : ℕ) → n ≤ limits_written.largest_file → n < 256 ^ 8
fits_eight n h = omega (arith, h, (fixed limits_written.version limits_written refl).files)

one_number : (number : ℕ) (o : Option ℕ) → same_number number o ≡ true → (m : ℕ) × (o ≡ Some m)
one_number number None e = cc
one_number number (Some m) e = (m, refl)

renamed_spelled : (tree after : Tree) (old new : Link) (number : ℕ) (node : Node) → IsTree limits_written tree → IsRenamed limits_written tree old new number node after → (new.directory < 256 ^ 2) × (is_name new.name ≡ true)
renamed_spelled tree after old new number node whole (inl q) =
    let m = one_number number (map.get tree.links new) q.0 in
    (directory_fits tree new m.0 whole m.1, whole.nodes.names new m.0 m.1)
renamed_spelled tree after old new number node whole (inr q) = (
  parent_fits tree new.directory q.1.directory whole q.1.parent,
  and_left (is_name new.name) (not (is_hidden_name new.directory new.name)) (and_left _ (not (is_directory node.kind && is_at_or_below tree number new.directory)) q.1.name),
)

-- the same of each change of nodes that are there
pub old_spelled : (tree after : Tree) (c : Change) → IsTree limits_written tree → IsOfOld c → apply limits_written c tree ≡ Some after → IsSpelled c
old_spelled tree after (Make directory name number kind o) whole old e = absurd old
old_spelled tree after (AddLink directory name number) whole old e =
    let link = link_to directory name in
    let p = linked_is limits_written tree link number after e in (
      (parent_fits tree directory p.room.directory whole p.room.parent, file_fits tree number p.node whole p.file),
      and_left (is_name name) (not (is_hidden_name directory name)) (and_left _ (is_none (map.get tree.links link)) p.vacant),
    )
old_spelled tree after (Remove directory name) whole old e =
    let link = link_to directory name in
    let p = removed_is tree link after e in
    (directory_fits tree link p.number whole p.named, whole.nodes.names link p.number p.named)
old_spelled tree after (Rename old_directory old_name new_directory new_name) whole old e =
    let from = link_to old_directory old_name in
    let to = link_to new_directory new_name in
    let p = renamed_is limits_written tree from to after e in
    let t = renamed_spelled tree after from to p.number p.node whole p.done in
    ((directory_fits tree from p.number whole p.named, t.0), (whole.nodes.names from p.number p.named, t.1))
old_spelled tree after (Write number offset bytes) whole old e =
    let p = written_is limits_written tree number offset bytes after e in
    let front = and_left (nat_lt 0 (length bytes) && nat_le (offset + length bytes) limits_written.largest_file) (list_all (λ b. nat_lt b 256) bytes) p.fits in
    let some = ltb-true 0 (length bytes) (and_left (nat_lt 0 (length bytes)) (nat_le (offset + length bytes) limits_written.largest_file) front) in
    let few = leb-true (offset + length bytes) limits_written.largest_file (and_right (nat_lt 0 (length bytes)) (nat_le (offset + length bytes) limits_written.largest_file) front) in
    ((file_fits tree number p.node whole p.file, fits_eight offset (omega (arith, few))), (omega (arith, some), old))
old_spelled tree after (SetSize number size) whole old e =
    let p = cut_is limits_written tree number size after e in
    ((file_fits tree number p.node whole p.file, fits_eight size (leb-true size limits_written.largest_file p.fits)), tt)
old_spelled tree after (SetAttributes number o) whole old e = set_spelled tree after number o whole e
