-- What is read of gates and bodies.
use Rattle.std.proofs.Common.{◌≡◌, ◌≢◌, ℕ, suc, ◌+◌, ◌*◌, ◌-◌, ◌^◌, ◌<◌, ◌≤◌, true, false, List, ◌++◌, length, take, drop, Option, None, Some, is_some, refl, ◌∙◌, ap, arith, append_assoc}
use Rattle.std.proofs.lemmas.List.{drop_at, take_at}
use Rattle.byteorder.specs.Endian.{little_number}
use Rattle.byteorder.specs.Numbers.{little_number-reads_back}
use Rattle.sn_device.specs.Sectors.{Contents, AreSectors, sector_at}
use Rattle.sn_limits.specs.Versions.{limits_of}
use Rattle.sn_layout.specs.Bytes.{number_bytes, zeros}
use Rattle.sn_layout.specs.Geometry.{gate_sector}
use Rattle.sn_layout.specs.RootBody.{root_body_bytes}
use Rattle.sn_layout.specs.declared.gate.Gate.TheVariants.{Open}
use Rattle.sn_layout.specs.declared.geometry.Slot.{Slot}
use Rattle.sn_layout.specs.declared.root.RootBody.{RootBody}
use Rattle.sn_limits.proofs.VersionLemmas.{fixed}
use Rattle.sn_ondisk.specs.Blocks.{bytes_at, block_at}
use Rattle.sn_ondisk.specs.Gates.{IsOpen}
use Rattle.sn_ondisk.specs.Roots.{body_block, HasRoot}
use Rattle.sn_ondisk.proofs.BlockLemmas.{bytes_at-more, length-bytes_at, gate_read}
use Rattle.sn_root.specs.Slots.{gate_in, version_at}

-- the version in front of some bytes
pub version_read : (bytes rest : List ℕ) (version : ℕ) → version < 256 ^ 4 → bytes ≡ number_bytes 4 version ++ rest → little_number 4 bytes ≡ version
unfolding number_bytes
version_read bytes rest version fits is = ap (λ (b : List ℕ). little_number 4 b) is ∙ little_number-reads_back 4 version rest fits

pub none_of : {X : Type 0} (o : Option X) → is_some o ≡ false → o ≡ None
none_of None none = refl
none_of (Some x) none = absurd cc

pub some_of : {X : Type 0} (o : Option X) → is_some o ≡ true → o ≢ None
some_of None some is = absurd cc
some_of (Some x) some is = absurd cc

-- these bytes precede the others
Front : List ℕ → List ℕ → Type 0
Front first bytes = (rest : List ℕ) × (bytes ≡ first ++ rest)

front_more : (first a b : List ℕ) → Front first a → Front first (a ++ b)
unfolding Front
front_more first a b front = (front.0 ++ b, ap (λ (xs : List ℕ). xs ++ b) front.1 ∙ append_assoc first front.0 b)

root_front : (root : RootBody) → Front (number_bytes 4 root.limits.version) (root_body_bytes root)
unfolding Front
root_front root =
    let version = number_bytes 4 root.limits.version in
    front_more version _ _ (front_more version _ _ (front_more version _ _ (front_more version _ _ (front_more version _ _ (front_more version _ _ (front_more version _ _ (front_more version _ _ (zeros 4, refl))))))))

-- a root body is of a version that is read
pub root_known : (c : Contents) (slot : Slot) (root : RootBody) → HasRoot c slot root → limits_of (version_at c slot) ≢ None
unfolding Front
root_known c slot root body none =
    let small : root.limits.version < 256 ^ 4 = omega (arith, (fixed root.limits.version root.limits body.fits.version).version) in
    let front = root_front root in
    let is : version_at c slot ≡ root.limits.version = version_read (block_at c (body_block slot)) front.0 root.limits.version small (body.bytes ∙ front.1) in
    let same : limits_of (version_at c slot) ≡ Some root.limits = ap limits_of is ∙ body.fits.version in
    cc

-- a sector of a block, among its bytes
pub sector_read : (c : Contents) (block i : ℕ) → AreSectors c → 8 * block + 8 ≤ length c → i < 8 → take 512 (drop (512 * i) (block_at c block)) ≡ sector_at c (8 * block + i)
unfolding bytes_at
sector_read c block i whole room low =
    let count : 8 ≡ i + suc (7 - i) = omega arith in
    let front = bytes_at c (8 * block) i in
    let rest = bytes_at c (8 * block + i + 1) (7 - i) in
    let parts : block_at c block ≡ front ++ (sector_at c (8 * block + i) ++ rest) = ap (λ n. bytes_at c (8 * block) n) count ∙ bytes_at-more c (8 * block) i (suc (7 - i)) in
    let before : length front ≡ 512 * i = length-bytes_at c (8 * block) i whole (omega arith) in
    ap (λ (b : List ℕ). take 512 (drop (512 * i) b)) parts
    ∙ ap (λ (b : List ℕ). take 512 b) (drop_at front (sector_at c (8 * block + i) ++ rest) (512 * i) before)
    ∙ take_at (sector_at c (8 * block + i)) rest 512 (whole (8 * block + i) (omega arith)).size

-- a gate that is read as open is open
pub is_open : (c : Contents) (slot : Slot) → gate_in c slot ≡ Open → IsOpen c (gate_sector slot)
is_open c slot read = (gate_read c (gate_sector slot)).1 read

pub open_in : (c : Contents) (slot : Slot) → IsOpen c (gate_sector slot) → gate_in c slot ≡ Open
open_in c slot opened = (gate_read c (gate_sector slot)).0 opened
