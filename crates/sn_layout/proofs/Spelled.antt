-- What is spelled alike is one value: of trees of blocks, of snapshots and of root bodies.
use Rattle.std.proofs.Common.{◌≡◌, ℕ, ◌-◌, ◌*◌, List, [], ◌∷◌, ◌++◌, length, get_or, drop, refl, sym, ◌∙◌, ap, arith, append_assoc}
use Rattle.std.specs.List.{AllByRecursion}
use Rattle.sn_limits.specs.Versions.{limits_of}
use Rattle.sn_layout.specs.declared.root.Head.{Head}
use Rattle.sn_layout.specs.declared.root.RootBody.{RootBody}
use Rattle.sn_layout.specs.declared.snapshot.Snapshot.{Snapshot}
use Rattle.sn_layout.specs.declared.tree.BlockTree.{BlockTree}
use Rattle.sn_bytes.specs.Bytes.{number_bytes, numbers_bytes, zeros}
use Rattle.sn_layout.specs.BlockTree.{IsBlockTree, tree_bytes}
use Rattle.sn_layout.specs.RootBody.{IsHead, IsRootBody, head_of, head_bytes, head_widths, head_numbers, root_body_bytes}
use Rattle.sn_layout.specs.Snapshot.{IsSnapshot, name_bytes, snapshot_bytes, snapshots_bytes}
use Rattle.sn_bytes.proofs.Fields.{some_some, same_fronts, same_numbers, same_lists, length-zeros}
use Rattle.sn_bytes.proofs.Records.{same_records}
use Rattle.sn_layout.proofs.Roots.{head_fits, head_flat, head_numbers_fit}

pub same_trees : (t u : BlockTree) (a b : List ℕ) → IsBlockTree t → IsBlockTree u → tree_bytes t ++ a ≡ tree_bytes u ++ b → (t ≡ u) × (a ≡ b)
same_trees t u a b fits-t fits-u e =
    let flat = sym (append_assoc (number_bytes 8 t.size) (numbers_bytes 4 t.pointers) a) ∙ e ∙ append_assoc (number_bytes 8 u.size) (numbers_bytes 4 u.pointers) b in
    let size = same_numbers 8 t.size u.size (numbers_bytes 4 t.pointers ++ a) (numbers_bytes 4 u.pointers ++ b) fits-t.size fits-u.size flat in
    let pointers = same_lists 4 t.pointers u.pointers a b (fits-t.pointers.count ∙ sym fits-u.pointers.count) fits-t.pointers.fit fits-u.pointers.fit size.1 in
    (rw (size.0, pointers.0) refl, pointers.1)

-- names in their room
same_names : (x y a b : List ℕ) → name_bytes x ++ a ≡ name_bytes y ++ b → (x ≡ y) × (a ≡ b)
same_names x y a b e =
    let blank-x = zeros (38 - length x) in
    let blank-y = zeros (38 - length y) in
    let flat : length x ∷ (x ++ (blank-x ++ a)) ≡ length y ∷ (y ++ (blank-y ++ b)) = sym (append_assoc (length x ∷ x) blank-x a) ∙ e ∙ append_assoc (length y ∷ y) blank-y b in
    let long : length x ≡ length y = ap (λ (bytes : List ℕ). get_or bytes 0 0) flat in
    let name = same_fronts x y (blank-x ++ a) (blank-y ++ b) long (ap (drop 1) flat) in
    let blank = same_fronts blank-x blank-y a b (length-zeros (38 - length x) ∙ ap (λ (n : ℕ). 38 - n) long ∙ sym (length-zeros (38 - length y))) name.1 in
    (name.0, blank.1)

pub same_snapshot : (s r : Snapshot) (a b : List ℕ) → IsSnapshot s → IsSnapshot r → snapshot_bytes s ++ a ≡ snapshot_bytes r ++ b → (s ≡ r) × (a ≡ b)
same_snapshot s r a b fits-s fits-r e =
    let flat = sym (append_assoc (s.bit ∷ name_bytes s.name) (tree_bytes s.tree) a) ∙ e ∙ append_assoc (r.bit ∷ name_bytes r.name) (tree_bytes r.tree) b in
    let bit : s.bit ≡ r.bit = ap (λ (bytes : List ℕ). get_or bytes 0 0) flat in
    let name = same_names s.name r.name (tree_bytes s.tree ++ a) (tree_bytes r.tree ++ b) (ap (drop 1) flat) in
    let tree = same_trees s.tree r.tree a b fits-s.tree fits-r.tree name.1 in
    (rw (bit, name.0, tree.0) refl, tree.1)

pub same_snapshots : (ss rs : List Snapshot) (a b : List ℕ) → length ss ≡ length rs → AllByRecursion IsSnapshot ss → AllByRecursion IsSnapshot rs → snapshots_bytes ss ++ a ≡ snapshots_bytes rs ++ b → ss ≡ rs
same_snapshots [] [] a b len fits-s fits-r e = refl
same_snapshots [] (r ∷ rs) a b len fits-s fits-r e = absurd (omega arith)
same_snapshots (s ∷ ss) [] a b len fits-s fits-r e = absurd (omega arith)
same_snapshots (s ∷ ss) (r ∷ rs) a b len fits-s fits-r e =
    let flat = sym (append_assoc (snapshot_bytes s) (snapshots_bytes ss) a) ∙ e ∙ append_assoc (snapshot_bytes r) (snapshots_bytes rs) b in
    let first = same_snapshot s r (snapshots_bytes ss ++ a) (snapshots_bytes rs ++ b) fits-s.0 fits-r.0 flat in
    rw (first.0, same_snapshots ss rs a b (omega arith) fits-s.1 fits-r.1 first.1) refl

same_heads : (h k : Head) (a b : List ℕ) → IsHead h → IsHead k → head_bytes h ++ a ≡ head_bytes k ++ b → (h ≡ k) × (a ≡ b)
same_heads h k a b fits-h fits-k e =
    let flat = sym (head_flat h a) ∙ e ∙ head_flat k b in
    let numbers = same_records head_widths (head_numbers h) (head_numbers k) (tree_bytes h.inode_file ++ (zeros 520 ++ a)) (tree_bytes k.inode_file ++ (zeros 520 ++ b)) (head_numbers_fit h fits-h) (head_numbers_fit k fits-k) flat in
    let tree = same_trees h.inode_file k.inode_file (zeros 520 ++ a) (zeros 520 ++ b) fits-h.inode_file fits-k.inode_file numbers.1 in
    let version = ap (λ (xs : List ℕ). get_or xs 0 0) numbers.0 in
    let generation = ap (λ (xs : List ℕ). get_or xs 2 0) numbers.0 in
    let epoch = ap (λ (xs : List ℕ). get_or xs 3 0) numbers.0 in
    let count = ap (λ (xs : List ℕ). get_or xs 4 0) numbers.0 in
    (rw (version, generation, epoch, count, tree.0) refl, (same_fronts (zeros 520) (zeros 520) a b refl tree.1).1)

-- a block spells one root body at most
pub same_root_bodies : (x y : RootBody) → IsRootBody x → IsRootBody y → root_body_bytes x ≡ root_body_bytes y → x ≡ y
same_root_bodies x y fits-x fits-y e =
    let rest-x = zeros (3472 - 112 * length x.snapshots) in
    let rest-y = zeros (3472 - 112 * length y.snapshots) in
    let flat = sym (append_assoc (head_bytes (head_of x)) (snapshots_bytes x.snapshots) rest-x) ∙ e ∙ append_assoc (head_bytes (head_of y)) (snapshots_bytes y.snapshots) rest-y in
    let heads = same_heads (head_of x) (head_of y) (snapshots_bytes x.snapshots ++ rest-x) (snapshots_bytes y.snapshots ++ rest-y) (head_fits x fits-x) (head_fits y fits-y) flat in
    let version = ap (λ (h : Head). h.version) heads.0 in
    let generation = ap (λ (h : Head). h.generation) heads.0 in
    let epoch = ap (λ (h : Head). h.epoch) heads.0 in
    let inode_file = ap (λ (h : Head). h.inode_file) heads.0 in
    let snapshots = same_snapshots x.snapshots y.snapshots rest-x rest-y (ap (λ (h : Head). h.count) heads.0) fits-x.snapshots.each fits-y.snapshots.each heads.1 in
    let limits = some_some (limits_of y.limits.version) x.limits y.limits (ap limits_of (sym version) ∙ fits-x.version) fits-y.version in
    rw (limits, generation, epoch, inode_file, snapshots) refl
