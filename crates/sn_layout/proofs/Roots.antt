-- What a root body's head says of the bytes after it.
use Rattle.std.proofs.Common.{◌≡◌, ℕ, ◌-◌, ◌*◌, ◌≤◌, Bool, true, false, ◌&&◌, List, ◌++◌, length, Option, Some, refl, sym, ap, ◌∙◌, append_assoc, arith}
use Rattle.std.specs.Prelude.{nat_le}
use Rattle.std.proofs.lemmas.Bool.{leb-true}
use Rattle.sn_layout.specs.declared.root.Head.{Head}
use Rattle.sn_layout.specs.declared.root.HeadNumbers.{HeadNumbers}
use Rattle.sn_layout.specs.declared.root.RootBody.{RootBody}
use Rattle.sn_layout.specs.BlockTree.{tree_bytes}
use Rattle.sn_bytes.specs.Bytes.{zeros}
use Rattle.sn_bytes.specs.Records.{numbers_then, AreOfWidths}
use Rattle.sn_limits.proofs.VersionLemmas.{fixed}
use Rattle.sn_layout.specs.Snapshot.{snapshots_bytes, are_rising, are_within, are_distinct}
use Rattle.sn_layout.specs.RootBody.{IsHead, IsRootBody, head_of, head_bytes, head_widths, head_numbers, listed, root_body_bytes}
use Rattle.sn_bytes.proofs.Records.{same_records, zero_number}

-- ---- the head

-- the numbers, and after them the tree and zeros
pub head_flat : (h : Head) (rest : List ℕ) → head_bytes h ++ rest ≡ numbers_then head_widths (head_numbers h) (tree_bytes h.inode_file ++ (zeros 520 ++ rest))
head_flat h rest = rw (zero_number 4) (simp append_assoc)

pub head_numbers_fit : (h : Head) → IsHead h → AreOfWidths head_widths (head_numbers h)
head_numbers_fit h fits = (fits.version, (omega arith, (fits.generation, (fits.epoch, (fits.count, (omega arith, tt))))))

-- what was read of a head that is spelled
pub head_spelled : (h : Head) (n : HeadNumbers) (old left rest : List ℕ) → AreOfWidths head_widths (listed n) → old ≡ numbers_then head_widths (listed n) left → IsHead h → old ≡ head_bytes h ++ rest
    → (listed n ≡ head_numbers h) × (left ≡ tree_bytes h.inode_file ++ (zeros 520 ++ rest))
head_spelled h n old left rest fits read head e = same_records head_widths (listed n) (head_numbers h) left (tree_bytes h.inode_file ++ (zeros 520 ++ rest)) fits (head_numbers_fit h head) (sym read ∙ e ∙ head_flat h rest)

-- ---- the limits of a version

both : (a b : Bool) → (a && b) ≡ true → (a ≡ true) × (b ≡ true)
both true b e = (refl, e)
both false b e = absurd cc

pub few : (body : RootBody) → IsRootBody body → length body.snapshots ≤ 31
few body fits =
    let most = (fixed body.limits.version body.limits fits.version).snapshots in
    let list = body.snapshots in
    let most-is = body.limits.snapshots in
    let third = both (nat_le (length list) most-is && are_rising 0 list && are_within body.limits.largest_bit list) (are_distinct list) fits.snapshots.held in
    let second = both (nat_le (length list) most-is && are_rising 0 list) (are_within body.limits.largest_bit list) third.0 in
    let first = both (nat_le (length list) most-is) (are_rising 0 list) second.0 in
    let count = leb-true (length body.snapshots) body.limits.snapshots first.0 in
    omega arith

pub head_fits : (body : RootBody) → IsRootBody body → IsHead (head_of body)
head_fits body fits =
    let version = (fixed body.limits.version body.limits fits.version).version in
    let count = few body fits in
    record {
      version = omega arith;
      generation = omega (arith, fits.generation.most);
      epoch = omega (arith, fits.epoch.most);
      count = omega arith;
      inode_file = fits.inode_file;
    }

-- a block that spells a body is read as its head, and then come its snapshots
pub head_read : (body : RootBody) (block reader left : List ℕ) (read : Option Head)
    → ((head : Head) (rest : List ℕ) → IsHead head → reader ≡ head_bytes head ++ rest → (read ≡ Some head) × (left ≡ rest))
    → IsRootBody body → reader ≡ block → block ≡ root_body_bytes body
    → (read ≡ Some (head_of body)) × (left ≡ snapshots_bytes body.snapshots ++ zeros (3472 - 112 * length body.snapshots))
head_read body block reader left read only fits same e =
    only (head_of body) (snapshots_bytes body.snapshots ++ zeros (3472 - 112 * length body.snapshots)) (head_fits body fits)
    (same ∙ e ∙ append_assoc (head_bytes (head_of body)) (snapshots_bytes body.snapshots) (zeros (3472 - 112 * length body.snapshots)))

-- what was read part by part is the body's spelling
pub body_is : (body : RootBody) (head : Head) (block left : List ℕ) → head_of body ≡ head → block ≡ head_bytes head ++ left → left ≡ snapshots_bytes body.snapshots ++ zeros (3472 - 112 * length body.snapshots) → block ≡ root_body_bytes body
body_is body head block left same first second =
    first
    ∙ ap (λ (h : Head). head_bytes h ++ left) (sym same)
    ∙ ap (λ (r : List ℕ). head_bytes (head_of body) ++ r) second
    ∙ sym (append_assoc (head_bytes (head_of body)) (snapshots_bytes body.snapshots) (zeros (3472 - 112 * length body.snapshots)))
