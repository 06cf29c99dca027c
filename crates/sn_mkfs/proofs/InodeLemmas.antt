-- The one block of a fresh inode file, record by record.
use Rattle.std.proofs.Common.{◌≡◌, ◌≢◌, ⊎_elim, ℕ, ◌+◌, ◌-◌, ◌*◌, ◌/◌, ◌%◌, ◌<◌, ◌≤◌, ◌&&◌, Bool, true, false, if◌then◌else◌, List, ◌++◌, length, take, drop, replicate, Some, None, refl, sym, ap, ◌∙◌, arith, append_assoc, length-append}
use Rattle.std.specs.Prelude.{nat_le, nat_lt, slice_index}
use Rattle.std.proofs.lemmas.Bool.{cases_eq, cases_lt, leb-true, ltb-true, ne_eqb}
use Rattle.std.proofs.lemmas.List.{get_or-replicate, get_or_past, length-replicate, take-append-drop, take-append-le, drop-append-le, take-replicate, drop-replicate, take_at, drop_at, drop-drop}
use Rattle.sn_limits.specs.Versions.{limits_written}
use Rattle.sn_layout.specs.Bytes.{Puts, number_bytes, zeros}
use Rattle.sn_layout.specs.Geometry.{start_of}
use Rattle.sn_layout.specs.declared.geometry.Area.TheVariants.{Data}
use Rattle.sn_layout.proofs.Fields.{length-zeros}
use Rattle.sn_layout_node.specs.Inode.{IsInode, inode_bytes}
use Rattle.sn_layout_node.specs.declared.inode.Inode.{Inode}
use Rattle.sn_ondisk.specs.Trees.{Store, named_by, entry, data_block}
use Rattle.sn_image.specs.Inodes.{inode_of, is_number, record_at, inode_at}
use Rattle.sn_image.proofs.DecodeLemmas.{inode_read, unused_read}
use Rattle.sn_mkfs.specs.Fresh.{inode_file, inode_block, root_directory}

pub zero_at : (k i : ℕ) → slice_index (replicate k 0) i ≡ 0
zero_at k i = ⊎_elim (λ (within : i < k). get_or-replicate k i 0 0 within) (λ (past : k ≤ i). get_or_past (replicate k 0) i 0 (omega (arith, length-replicate {A = ℕ} k 0, past))) (cases_lt i k)

-- ---- the root directory

pub directory_fits : IsInode limits_written root_directory
directory_fits = record {
  objects = record { owner = omega arith; group = omega arith; other = omega arith };
  links = refl;
  owner = omega arith;
  group = omega arith;
  acl_block = omega arith;
  content = (record { size = omega arith; pointers = record { count = refl; fit = search arith } }, refl, refl);
}

pub long_directory : length (inode_bytes root_directory) ≡ 128
unfolding number_bytes zeros
long_directory = refl

-- ---- the block

-- zeros at the front of bytes, and all zeros
early : (total m k : ℕ) (rest : List ℕ) → m + k ≤ total → take k (drop m (zeros total ++ rest)) ≡ zeros k
unfolding zeros
early total m k rest within =
    ap (take k) (drop-append-le m (replicate total 0) rest (omega (arith, within, length-replicate {A = ℕ} total 0)) ∙ ap (λ (z : List ℕ). z ++ rest) (drop-replicate m total 0))
    ∙ take-append-le k (replicate (total - m) 0) rest (omega (arith, within, length-replicate {A = ℕ} (total - m) 0))
    ∙ take-replicate k (total - m) 0 (omega (arith, within))

part : (total m k : ℕ) → m + k ≤ total → take k (drop m (zeros total)) ≡ zeros k
unfolding zeros
part total m k within = ap (take k) (drop-replicate m total 0) ∙ take-replicate k (total - m) 0 (omega (arith, within))

pub reserved_bytes : (number : ℕ) → number < 2 → take 128 (drop (128 * number) inode_block) ≡ zeros 128
unfolding inode_block
reserved_bytes number low =
    ap (λ (b : List ℕ). take 128 (drop (128 * number) b)) (append_assoc (zeros 256) (inode_bytes root_directory) (zeros 3712))
    ∙ early 256 (128 * number) 128 (inode_bytes root_directory ++ zeros 3712) (omega (arith, low))

pub directory_bytes : take 128 (drop 256 inode_block) ≡ inode_bytes root_directory
unfolding inode_block
directory_bytes =
    ap (λ (b : List ℕ). take 128 (drop 256 b)) (append_assoc (zeros 256) (inode_bytes root_directory) (zeros 3712))
    ∙ ap (take 128) (drop_at (zeros 256) (inode_bytes root_directory ++ zeros 3712) 256 (length-zeros 256))
    ∙ take_at (inode_bytes root_directory) (zeros 3712) 128 long_directory

pub unused_bytes : (number : ℕ) → 3 ≤ number → number < 32 → take 128 (drop (128 * number) inode_block) ≡ zeros 128
unfolding inode_block
unused_bytes number least most =
    let front = zeros 256 ++ inode_bytes root_directory in
    let long : length front ≡ 384 = omega (arith, length-append (zeros 256) (inode_bytes root_directory), length-zeros 256, long_directory) in
    let count : 384 + (128 * number - 384) ≡ 128 * number = omega (arith, least) in
    let parts : drop (128 * number) (front ++ zeros 3712) ≡ drop (128 * number - 384) (zeros 3712) =
    sym (drop-drop (128 * number - 384) 384 (front ++ zeros 3712) ∙ ap (λ (m : ℕ). drop m (front ++ zeros 3712)) count)
    ∙ ap (drop (128 * number - 384)) (drop_at front (zeros 3712) 384 long) in
    ap (take 128) parts ∙ part 3712 (128 * number - 384) 128 (omega (arith, most))

-- bytes put in their place among zeros
put_among : (total at next : ℕ) (new bytes : List ℕ) → at ≤ total → Puts (replicate total 0) new at next bytes → new ≡ (zeros at ++ bytes) ++ zeros (total - next)
unfolding zeros
put_among total at next new bytes within puts =
    sym (take-append-drop next new)
    ∙ ap (λ (front : List ℕ). front ++ drop next new) (puts.front ∙ ap (λ (z : List ℕ). z ++ bytes) (take-replicate at total 0 within))
    ∙ ap (λ (back : List ℕ). (replicate at 0 ++ bytes) ++ back) (puts.back next (omega arith) ∙ drop-replicate next total 0)

pub record_put : (new : List ℕ) (next : ℕ) → Puts (replicate 4096 0) new 256 next (inode_bytes root_directory) → new ≡ inode_block
unfolding inode_block
record_put new next puts =
    let left : 4096 - next ≡ 3712 = omega (arith, puts.moved, long_directory) in
    put_among 4096 256 next new (inode_bytes root_directory) (omega arith) puts
    ∙ ap (λ (k : ℕ). (zeros 256 ++ inode_bytes root_directory) ++ zeros k) left

-- ---- the inode file

module _ (n : ℕ) (s : Store) (here : s (start_of n Data) ≡ inode_block) where
  first_block : data_block s (inode_file n) 0 ≡ inode_block
  unfolding data_block named_by entry
  first_block = ap (λ (b : Bool). if b then zeros 4096 else s (start_of n Data)) (ne_eqb (start_of n Data) 0 (λ z. absurd (omega (arith, z)))) ∙ here

  record_is : (number : ℕ) → number < 32 → record_at s (inode_file n) number ≡ take 128 (drop (128 * number) inode_block)
  unfolding record_at
  record_is number low =
      let block : number / 32 ≡ 0 = omega (arith, low) in
      let place : number % 32 ≡ number = omega (arith, low) in
      ap (λ (k : ℕ). take 128 (drop (128 * k) (data_block s (inode_file n) (number / 32)))) place
      ∙ ap (λ (k : ℕ). take 128 (drop (128 * number) (data_block s (inode_file n) k))) block
      ∙ ap (λ (b : List ℕ). take 128 (drop (128 * number) b)) first_block

  pub reserved_record : (number : ℕ) → number < 2 → record_at s (inode_file n) number ≡ zeros 128
  reserved_record number low = record_is number (omega (arith, low)) ∙ reserved_bytes number low

  pub directory_record : record_at s (inode_file n) 2 ≡ inode_bytes root_directory
  directory_record = record_is 2 (omega arith) ∙ directory_bytes

  pub unused_record : (number : ℕ) → 3 ≤ number → number < 32 → record_at s (inode_file n) number ≡ zeros 128
  unused_record number least most = record_is number most ∙ unused_bytes number least most

  pub directory_inode : inode_at s (inode_file n) 2 ≡ Some root_directory
  unfolding inode_at
  directory_inode = ap inode_of directory_record ∙ inode_read limits_written root_directory directory_fits

  -- no other number is used
  pub no_inode : (number : ℕ) → number ≢ 2 → inode_at s (inode_file n) number ≡ None
  unfolding inode_at
  no_inode number other = told (is_number (inode_file n) number) refl
    where
      first : (a b : Bool) → (a && b) ≡ true → (a ≡ true) × (b ≡ true)
      first true b h = (refl, h)
      first false b h = absurd cc

      told : (b : Bool) → is_number (inode_file n) number ≡ b → (if b then inode_of (record_at s (inode_file n) number) else None) ≡ None
      told false e = refl
      told true e =
          let parts = first (nat_le 2 number) (nat_lt number (4096 / 128)) e in
          let most = ltb-true number (4096 / 128) parts.1 in
          let above : 3 ≤ number = ⊎_elim (λ (same : number ≡ 2). absurd (other same)) (λ (apart : number ≡ 2 → ⊥). omega (arith, apart, leb-true 2 number parts.0)) (cases_eq number 2) in
          ap inode_of (unused_record number above (omega (arith, most))) ∙ unused_read

  -- so a number that has an inode is the root's
  pub only_inode : (number : ℕ) (inode : Inode) → inode_at s (inode_file n) number ≡ Some inode → (number ≡ 2) × (inode ≡ root_directory)
  only_inode number inode e = ⊎_elim
      (λ (same : number ≡ 2).
      let is : Some inode ≡ Some root_directory = sym e ∙ ap (inode_at s (inode_file n)) same ∙ directory_inode in
      (same, cc))
      (λ (apart : number ≡ 2 → ⊥). let never : None ≡ Some inode = sym (no_inode number apart) ∙ e in cc)
      (cases_eq number 2)
