-- The inode file with other inodes.
use Rattle.std.proofs.Common.{◌≡◌, ◌≢◌, ◌⊎◌, inl, inr, ℕ, zero, suc, ◌+◌, ◌-◌, ◌*◌, ◌/◌, ◌%◌, ◌<◌, ◌≤◌, ◌==◌, ◌&&◌, Bool, true, false, if◌then◌else◌, List, [], ◌∷◌, ◌++◌, length, map, max, Option, None, Result, Ok, Err, IfOk, Contains, slice_index, refl, sym, ap, subst, ◌∙◌, arith, length-append}
use Rattle.std.specs.Prelude.{All, nat_le, nat_lt}
use Rattle.std.specs.List.{AllZip, AllByRecursion}
use Rattle.std.specs.List.Sorted.{IsStrictlyIncreasing}
use Rattle.std.proofs.Math.Nat.{mul-le-mul_right}
use Rattle.std.proofs.lemmas.Bool.{cases_lt, le-leb, leb-true, lt-ltb, ltb-true, eq-eqb, ne_eqb}
use Rattle.std.proofs.lemmas.List.{map-append, length-map}
use Rattle.std.proofs.lemmas.List.Sums.{sum_by-cons}
use Rattle.std.proofs.lemmas.List.Elements.{recursion_from_All, All-map, All-weaker, All-contains, All-from_get_or}
use Rattle.sn_limits.specs.declared.limits.Limits.{Limits}
use Rattle.sn_layout.specs.Bytes.{zeros}
use Rattle.sn_layout.specs.Pointers.{levels_of}
use Rattle.sn_layout.specs.declared.tree.BlockTree.{BlockTree}
use Rattle.sn_layout_node.specs.Inode.{IsRecord, record_bytes}
use Rattle.sn_layout_node.specs.declared.inode.Inode.{Inode}
use Rattle.sn_layout_node.specs.declared.inode.InodeRecord.{InodeRecord}
use Rattle.sn_layout_node.specs.declared.inode.InodeRecord.TheVariants.{Unused, Used}
use Rattle.sn_ondisk.specs.TreeLaws.{SameIn}
use Rattle.sn_ondisk.specs.Trees.{Store, data_block, tree_reach}
use Rattle.sn_ondisk.proofs.TreeLemmas.{trees_depend, levels_room, levels_least}
use Rattle.sn_image.specs.Inodes.{is_number, inode_of, record_at, inode_at}
use Rattle.sn_image.specs.Reach.{block_reach}
use Rattle.sn_image.specs.Sound.{SpellsRecord, EndsAtSize, IsInodeFile}
use Rattle.sn_image.proofs.DecodeLemmas.{inode_read, unused_read}
use Rattle.sn_tree.specs.Dirty.{block_after}
use Rattle.sn_tree.specs.Drafts.{Draft, numbers_of, grown}
use Rattle.sn_tree.specs.Laws.{EndsBy}
use Rattle.sn_ondisk.specs.Counts.{times}
use Rattle.sn_tree.specs.Plans.{Holds}
use Rattle.sn_tree.specs.Replanned.{IsReplanned, IsPlanned}
use Rattle.sn_tree.specs.declared.fault.PlanFault.{PlanFault}
use Rattle.sn_tree.specs.declared.new_block.DirtyBlock.{DirtyBlock}
use Rattle.sn_tree.specs.declared.new_block.NewBlock.{NewBlock}
use Rattle.sn_ondisk.proofs.CountLemmas.{times-append}
use Rattle.sn_tree.proofs.LawLemmas.{cut_end}
use Rattle.sn_tree.proofs.StepLemmas.{grown-grown, grown-none}
use Rattle.sn_inode.specs.Changes.{numbers_in, acl_pointer, acl_times, IsChange, IsChanged, IsWith}
use Rattle.sn_inode.specs.Stored.{IsStored, AreSettled, ArePatched, inode_in, record_in, bytes_after, stored_times}
use Rattle.sn_inode.specs.declared.changes.InodeChange.{InodeChange}
use Rattle.sn_inode.specs.declared.changes.StoredRecord.{StoredRecord}
use Rattle.sn_inode.proofs.BlockLemmas.{kept_here, none_here, rising_to}
use Rattle.sn_inode.proofs.RecordLemmas.{zeros_in}
use Rattle.sn_inode.proofs.SettledLemmas.{holds_front, holds_back}

-- ---- the numbers of records, which rise

abbrev pub Later : ℕ → List StoredRecord → Type 0
Later number xs = AllByRecursion (λ (x : StoredRecord). number < x.number) xs

-- each number is below those after it
abbrev pub Rise : List StoredRecord → Type 0
Rise [] = Unit {0}
Rise (x ∷ xs) = Later x.number xs × Rise xs

later_weaker : (a b : ℕ) (xs : List StoredRecord) → a ≤ b → Later b xs → Later a xs
later_weaker a b [] le later = tt
later_weaker a b (x ∷ xs) le later = (omega (arith, le, later.0), later_weaker a b xs le later.1)

rest_rises : (n : ℕ) (ns : List ℕ) → IsStrictlyIncreasing (n ∷ ns) → IsStrictlyIncreasing ns
rest_rises n ns inc k within =
    let at : suc k + 1 ≡ suc (k + 1) = omega arith in
    subst (λ (m : ℕ). slice_index ns k < slice_index (n ∷ ns) m) at (inc (suc k) (omega (arith, within)))

later_first : (x : StoredRecord) (xs : List StoredRecord) → IsStrictlyIncreasing (map (λ (y : StoredRecord). y.number) (x ∷ xs)) → Later x.number xs
later_first x [] inc = tt
later_first x (y ∷ xs) inc =
    let next : x.number < y.number = inc 0 (omega arith) in
    (next, later_weaker x.number y.number xs (omega (arith, next)) (later_first y xs (rest_rises x.number (map (λ (z : StoredRecord). z.number) (y ∷ xs)) inc)))

pub all_rise : (xs : List StoredRecord) → IsStrictlyIncreasing (map (λ (y : StoredRecord). y.number) xs) → Rise xs
all_rise [] inc = tt
all_rise (x ∷ xs) inc = (later_first x xs inc, all_rise xs (rest_rises x.number (map (λ (z : StoredRecord). z.number) xs) inc))

-- ---- the bytes of a record after others were stored

abbrev Others : ℕ → List StoredRecord → Type 0
Others number xs = AllByRecursion (λ (x : StoredRecord). x.number ≢ number) xs

later_others : (number : ℕ) (xs : List StoredRecord) → Later number xs → Others number xs
later_others number [] later = tt
later_others number (x ∷ xs) later = ((λ same. omega (arith, same, later.0)), later_others number xs later.1)

pub bytes_others : (xs : List StoredRecord) (number : ℕ) (old : List ℕ) → Others number xs → bytes_after xs number old ≡ old
unfolding bytes_after
bytes_others [] number old others = refl
bytes_others (x ∷ xs) number old others =
    ap (λ (b : Bool). bytes_after xs number (if b then record_bytes x.record else old)) (ne_eqb x.number number others.0) ∙ bytes_others xs number old others.1

abbrev HasBytes : List StoredRecord → StoredRecord → Type 0
HasBytes stored x = (old : List ℕ) → bytes_after stored x.number old ≡ record_bytes x.record

bytes_behind : (x : StoredRecord) (xs ys : List StoredRecord) → AllByRecursion (HasBytes xs) ys → AllByRecursion (HasBytes (x ∷ xs)) ys
unfolding bytes_after
bytes_behind x xs [] each = tt
bytes_behind x xs (y ∷ ys) each = ((λ old. each.0 (if x.number == y.number then record_bytes x.record else old)), bytes_behind x xs ys each.1)

pub bytes_each : (xs : List StoredRecord) → Rise xs → AllByRecursion (HasBytes xs) xs
unfolding bytes_after
bytes_each [] rise = tt
bytes_each (x ∷ xs) rise = (
  (λ old. ap (λ (b : Bool). bytes_after xs x.number (if b then record_bytes x.record else old)) (eq-eqb x.number x.number refl) ∙ bytes_others xs x.number (record_bytes x.record) (later_others x.number xs rise.0)),
  bytes_behind x xs xs (bytes_each xs rise.1),
)

pub bytes_spelled : (limits : Limits) (xs : List StoredRecord) (number : ℕ) (old : List ℕ) → AllByRecursion (λ (x : StoredRecord). IsRecord limits x.record) xs → SpellsRecord limits old → SpellsRecord limits (bytes_after xs number old)
unfolding bytes_after
bytes_spelled limits [] number old fits spelled = spelled
bytes_spelled limits (x ∷ xs) number old fits spelled = bytes_spelled limits xs number (if x.number == number then record_bytes x.record else old) fits.1 (either (x.number == number))
  where
    either : (b : Bool) → SpellsRecord limits (if b then record_bytes x.record else old)
    either true = (x.record, fits.0, refl)
    either false = spelled

pub record_read : (limits : Limits) (r : InodeRecord) → IsRecord limits r → inode_of (record_bytes r) ≡ inode_in r
record_read limits Unused fits = unused_read
record_read limits (Used inode) fits = inode_read limits inode fits

none_has : (xs : List StoredRecord) (number : ℕ) → ¬ Contains (map (λ (x : StoredRecord). x.number) xs) number → Others number xs
none_has [] number not = tt
none_has (x ∷ xs) number not = (
  (λ same. not (0, omega arith, same)),
  none_has xs number (λ (k, within, is). not (suc k, omega (arith, within), is)),
)

of_numbers : (P : ℕ → Type 0) (xs : List StoredRecord) → AllByRecursion P (map (λ (x : StoredRecord). x.number) xs) → AllByRecursion (λ (x : StoredRecord). P x.number) xs
of_numbers P [] each = tt
of_numbers P (x ∷ xs) each = (each.0, of_numbers P xs each.1)

each_of : (P Q R S : StoredRecord → Type 0) (xs : List StoredRecord) → ((x : StoredRecord) → P x → Q x → R x → S x) → AllByRecursion P xs → AllByRecursion Q xs → AllByRecursion R xs → AllByRecursion S xs
each_of P Q R S [] step ps qs rs = tt
each_of P Q R S (x ∷ xs) step ps qs rs = (step x ps.0 qs.0 rs.0, each_of P Q R S xs step ps.1 qs.1 rs.1)

zip_changes : (R : InodeChange → StoredRecord → Type 0) (Q : StoredRecord → Type 0) (P : InodeChange → Type 0) (cs : List InodeChange) (xs : List StoredRecord)
    → ((c : InodeChange) (x : StoredRecord) → R c x → Q x → P c) → AllZip R cs xs → AllByRecursion Q xs → AllByRecursion P cs
zip_changes R Q P [] [] step zip each = tt
zip_changes R Q P [] (x ∷ xs) step zip each = absurd zip
zip_changes R Q P (c ∷ cs) [] step zip each = absurd zip
zip_changes R Q P (c ∷ cs) (x ∷ xs) step zip each = (step c x zip.0 each.0, zip_changes R Q P cs xs step zip.1 each.1)

-- ---- the new file

-- few levels
pub few_levels : (size : ℕ) → size ≤ 8388608 → levels_of size ≤ 1
few_levels size small = told (cases_lt 1 (levels_of size))
  where
    told : (1 < levels_of size) ⊎ (levels_of size ≤ 1) → levels_of size ≤ 1
    told (inl more) = let large = levels_least size 1 more in absurd (omega (arith, small, large))
    told (inr few) = few

-- the paths to so many records at most, and one more
pub few_paths : (size dirty many : ℕ) → size ≤ 8388608 → dirty ≤ many → (levels_of size + 1) * (dirty + 1) ≤ 2 * (many + 1)
few_paths size dirty many most few = told (levels_of size) (few_levels size most)
  where
    told : (levels : ℕ) → levels ≤ 1 → (levels + 1) * (dirty + 1) ≤ 2 * (many + 1)
    told zero low = omega (arith, few)
    told (suc zero) low = omega (arith, few)
    told (suc (suc levels)) low = absurd (omega (arith, low))

module _ (limits : Limits) (s : Store) (old new : BlockTree) (changes : List InodeChange) (stored : List StoredRecord) (keep : ℕ) (dirty : List DirtyBlock)
    (keep_is : keep ≡ old.size / 4096) (whole : old.size % 4096 ≡ 0) (larger : old.size ≤ new.size) (new_whole : new.size % 4096 ≡ 0) (small : new.size ≤ 8388608)
    (valid : AllByRecursion (λ (x : StoredRecord). IsRecord limits x.record) stored)
    (rise : Rise stored)
    (numbers : map (λ (x : StoredRecord). x.number) stored ≡ numbers_in changes)
    (within : AllByRecursion (λ (n : ℕ). (2 ≤ n) × (n < new.size / 128)) (numbers_in changes))
    (below : AllByRecursion (λ (d : DirtyBlock). 4096 * d.index < new.size) dirty)
    (patched : ArePatched (data_block s old) keep stored dirty)
    (added : List NewBlock) (released : List ℕ) (planned : IsReplanned s old new keep dirty added released) where
  module _ (r : Store) (same : SameIn (tree_reach s old) s r) (holds : Holds r added) where
    -- the bytes of a record that the new file has
    new_record : (n : ℕ) → n < new.size / 128 → record_at r new n ≡ bytes_after stored n (record_in (n % 32) (block_after keep [] (n / 32) (data_block s old (n / 32))))
    unfolding record_at
    new_record n under =
        let room = levels_room new.size (omega (arith, small)) in
        ap (record_in (n % 32)) (planned.content r same holds (n / 32) (omega (arith, under, room))) ∙ patched n

    -- a record that was there, and one that wasn't
    was_there : (n : ℕ) → n < old.size / 128 → record_in (n % 32) (block_after keep [] (n / 32) (data_block s old (n / 32))) ≡ record_at s old n
    unfolding record_at
    was_there n under = ap (record_in (n % 32)) (kept_here keep (n / 32) (data_block s old (n / 32)) (omega (arith, under, keep_is, whole)))

    was_none : (n : ℕ) → old.size / 128 ≤ n → record_in (n % 32) (block_after keep [] (n / 32) (data_block s old (n / 32))) ≡ zeros 128
    was_none n past = ap (record_in (n % 32)) (none_here keep (n / 32) (data_block s old (n / 32)) (omega (arith, past, keep_is, whole))) ∙ zeros_in (n % 32) (omega arith)

    number_in : (tree : BlockTree) (n : ℕ) → 2 ≤ n → n < tree.size / 128 → is_number tree n ≡ true
    number_in tree n least under = ap (λ (b : Bool). b && nat_lt n (tree.size / 128)) (le-leb 2 n least) ∙ lt-ltb n (tree.size / 128) under

    -- the inode of a number that the file has
    inode_there : (t : Store) (tree : BlockTree) (n : ℕ) → 2 ≤ n → n < tree.size / 128 → inode_at t tree n ≡ inode_of (record_at t tree n)
    unfolding inode_at
    inode_there t tree n least under = ap (λ (b : Bool). if b then inode_of (record_at t tree n) else None) (number_in tree n least under)

    inode_none : (t : Store) (tree : BlockTree) (n : ℕ) → (2 ≤ n → n < tree.size / 128 → ⊥) → inode_at t tree n ≡ None
    unfolding inode_at
    inode_none t tree n not = told (nat_le 2 n) (nat_lt n (tree.size / 128)) refl refl
      where
        told : (a b : Bool) → nat_le 2 n ≡ a → nat_lt n (tree.size / 128) ≡ b → (if (a && b) then inode_of (record_at t tree n) else None) ≡ None
        told true true first second = absurd (not (leb-true 2 n first) (ltb-true n (tree.size / 128) second))
        told true false first second = refl
        told false b first second = refl

    abbrev HasInode : StoredRecord → Type 0
    HasInode x = inode_at r new x.number ≡ inode_in x.record

    has_inodes : AllByRecursion HasInode stored
    has_inodes =
        each_of (HasBytes stored) (λ (x : StoredRecord). IsRecord limits x.record) (λ (x : StoredRecord). (2 ≤ x.number) × (x.number < new.size / 128)) HasInode stored
        (λ x bytes fits bounds. inode_there r new x.number bounds.0 bounds.1 ∙ ap inode_of (new_record x.number bounds.1 ∙ bytes (record_in (x.number % 32) (block_after keep [] (x.number / 32) (data_block s old (x.number / 32))))) ∙ record_read limits x.record fits)
        (bytes_each stored rise) valid
        (of_numbers (λ (n : ℕ). (2 ≤ n) × (n < new.size / 128)) stored (subst (AllByRecursion (λ (n : ℕ). (2 ≤ n) × (n < new.size / 128))) (sym numbers) within))

    pub now_changed : AllZip (IsStored r s old) changes stored
        → AllByRecursion (λ (change : InodeChange). IsChanged r (inode_at s old change.number) change.record (inode_at r new change.number)) changes
    now_changed zip =
        zip_changes (IsStored r s old) HasInode (λ (change : InodeChange). IsChanged r (inode_at s old change.number) change.record (inode_at r new change.number)) changes stored
        (λ c x is inode. subst (λ (o : Option Inode). IsChanged r (inode_at s old c.number) c.record o) (sym (ap (inode_at r new) (sym is.number) ∙ inode)) is.changed)
        zip has_inodes

    module _ (number : ℕ) (not : ¬ Contains (numbers_in changes) number) where
      other : bytes_after stored number (record_in (number % 32) (block_after keep [] (number / 32) (data_block s old (number / 32)))) ≡ record_in (number % 32) (block_after keep [] (number / 32) (data_block s old (number / 32)))
      other = bytes_others stored number (record_in (number % 32) (block_after keep [] (number / 32) (data_block s old (number / 32)))) (none_has stored number (subst (λ (ns : List ℕ). ¬ Contains ns number) (sym numbers) not))

      pub record_stays : number < old.size / 128 → record_at r new number ≡ record_at s old number
      record_stays had = new_record number (omega (arith, had, larger)) ∙ other ∙ was_there number had

      pub record_unused : old.size / 128 ≤ number → number < new.size / 128 → record_at r new number ≡ zeros 128
      record_unused past has = new_record number has ∙ other ∙ was_none number past

    pub others_stay : (number : ℕ) → ¬ Contains (numbers_in changes) number → inode_at r new number ≡ inode_at s old number
    others_stay number not = told (cases_lt number 2) (cases_lt number (old.size / 128)) (cases_lt number (new.size / 128))
      where
        told : (number < 2) ⊎ (2 ≤ number) → (number < old.size / 128) ⊎ (old.size / 128 ≤ number) → (number < new.size / 128) ⊎ (new.size / 128 ≤ number) → inode_at r new number ≡ inode_at s old number
        told (inl reserved) b d = inode_none r new number (λ least _. omega (arith, least, reserved)) ∙ sym (inode_none s old number (λ least _. omega (arith, least, reserved)))
        told (inr least) (inl had) d =
            let has : number < new.size / 128 = omega (arith, had, larger) in
            inode_there r new number least has ∙ ap inode_of (record_stays number not had) ∙ sym (inode_there s old number least had)
        told (inr least) (inr past) (inl has) =
            inode_there r new number least has ∙ ap inode_of (record_unused number not past has) ∙ unused_read ∙ sym (inode_none s old number (λ _ under. omega (arith, under, past)))
        told (inr least) (inr past) (inr end) = inode_none r new number (λ _ under. omega (arith, under, end)) ∙ sym (inode_none s old number (λ _ under. omega (arith, under, past)))

    pub all_spelled : ((number : ℕ) → number < old.size / 128 → SpellsRecord limits (record_at s old number)) → (number : ℕ) → number < new.size / 128 → SpellsRecord limits (record_at r new number)
    all_spelled before number under =
        subst (SpellsRecord limits) (sym (new_record number under))
        (bytes_spelled limits stored number (record_in (number % 32) (block_after keep [] (number / 32) (data_block s old (number / 32)))) valid (told (cases_lt number (old.size / 128))))
      where
        told : (number < old.size / 128) ⊎ (old.size / 128 ≤ number) → SpellsRecord limits (record_in (number % 32) (block_after keep [] (number / 32) (data_block s old (number / 32))))
        told (inl had) = subst (SpellsRecord limits) (sym (was_there number had)) (before number had)
        told (inr past) = (Unused, tt, was_none number past)

    counted : (block : ℕ) (cs : List InodeChange) (xs : List StoredRecord) → AllZip (IsStored r s old) cs xs → AllByRecursion HasInode xs → acl_times r new block cs ≡ stored_times block xs
    counted block [] [] zip each = refl
    counted block [] (x ∷ xs) zip each = absurd zip
    counted block (c ∷ cs) [] zip each = absurd zip
    counted block (c ∷ cs) (x ∷ xs) zip each =
        let rest = counted block cs xs zip.1 each.1 in
        let first : times block (block_reach (acl_pointer (inode_at r new c.number))) ≡ times block (block_reach (acl_pointer (inode_in x.record))) =
        ap (λ (o : Option Inode). times block (block_reach (acl_pointer o))) (ap (inode_at r new) (sym zip.0.number) ∙ each.0) in
        let now : acl_times r new block (c ∷ cs) ≡ times block (block_reach (acl_pointer (inode_at r new c.number))) + acl_times r new block cs = sum_by-cons (λ (change : InodeChange). times block (block_reach (acl_pointer (inode_at r new change.number)))) c cs in
        let is : stored_times block (x ∷ xs) ≡ times block (block_reach (acl_pointer (inode_in x.record))) + stored_times block xs = sum_by-cons (λ (y : StoredRecord). times block (block_reach (acl_pointer (inode_in y.record)))) x xs in
        omega (arith, rest, first, now, is)

    pub now_reached : (block : ℕ) → block ≢ 0 → AllZip (IsStored r s old) changes stored → (acls : List NewBlock) (gone : List ℕ)
        → stored_times block stored + times block gone ≡ acl_times s old block changes + times block (numbers_of acls)
        → times block (tree_reach r new) + acl_times r new block changes + times block (gone ++ released) ≡ times block (tree_reach s old) + acl_times s old block changes + times block (numbers_of (acls ++ added))
    now_reached block some zip acls gone balance =
        let both = times-append block gone released in
        let news : times block (numbers_of (acls ++ added)) ≡ times block (numbers_of acls) + times block (numbers_of added) =
        ap (times block) (map-append (λ (b : NewBlock). b.number) acls added) ∙ times-append block (numbers_of acls) (numbers_of added) in
        omega (arith, both, news, balance, planned.reach r same holds block some, counted block changes stored zip has_inodes)

    ends_by : (ds : List DirtyBlock) → AllByRecursion (λ (d : DirtyBlock). 4096 * d.index < new.size) ds → AllByRecursion (EndsBy new.size) ds
    ends_by [] each = tt
    ends_by (d ∷ ds) each = (record { begins = each.0; past = λ k less past. absurd (omega (arith, less, past, each.0, new_whole)) }, ends_by ds each.1)

    pub now_ends : EndsAtSize r new
    now_ends = planned.ends r same holds (cut_end s old new.size keep dirty (omega (arith, keep_is, larger)) (ends_by dirty below))

-- ---- the whole

pub with_some : (Told : Type 0) (limits : Limits) (s : Store) (old new : BlockTree) (changes : List InodeChange) (stored : List StoredRecord) (keep : ℕ) (dirty : List DirtyBlock) (before between after : Draft)
    → keep ≡ old.size / 4096 → old.size % 4096 ≡ 0 → old.size ≤ new.size → new.size % 4096 ≡ 0 → new.size ≤ 8388608
    → AllByRecursion (λ (x : StoredRecord). IsRecord limits x.record) stored → Rise stored
    → AllByRecursion (λ (n : ℕ). (2 ≤ n) × (n < new.size / 128)) (numbers_in changes)
    → AllByRecursion (λ (d : DirtyBlock). 4096 * d.index < new.size) dirty
    → length dirty ≤ length changes → changes ≢ []
    → (Told → ArePatched (data_block s old) keep stored dirty)
    → AreSettled Told s old changes stored before between → IsPlanned Told s old new keep dirty between after
    → IsWith Told limits s old new changes before after
with_some Told limits s old new changes stored keep dirty before between after keep_is whole larger new_whole small valid rise within below few some patched settled planned = record {
  added = settled.added ++ planned.added;
  released = settled.released ++ planned.released;
  grew = planned.grew ∙ ap (λ (draft : Draft). grown draft planned.added planned.released) settled.grew ∙ grown-grown before settled.added planned.added settled.released planned.released;
  few =
      let levels = few_levels new.size small in
      let wide : (levels_of new.size + 1) * (length dirty + 1) ≤ 2 * (length dirty + 1) = mul-le-mul_right (length dirty + 1) (omega (arith, levels)) in
      omega (arith, wide, few, planned.few, settled.few, length-append settled.added planned.added);
  none = λ none. absurd (some none);
  changes_inodes = λ told.
      let plans = planned.plans told in
      let front = λ (r : Store) (holds : Holds r (settled.added ++ planned.added)). holds_front r settled.added planned.added holds in
      let back = λ (r : Store) (holds : Holds r (settled.added ++ planned.added)). holds_back r settled.added planned.added holds in
      record {
        changed = λ r same holds.
            now_changed limits s old new changes stored keep dirty keep_is whole larger new_whole small valid rise settled.numbers within below (patched told) planned.added planned.released plans r same (back r holds) (settled.each told r (front r holds));
        others = λ r same holds.
            others_stay limits s old new changes stored keep dirty keep_is whole larger new_whole small valid rise settled.numbers within below (patched told) planned.added planned.released plans r same (back r holds);
        stays = λ r same holds.
            record_stays limits s old new changes stored keep dirty keep_is whole larger new_whole small valid rise settled.numbers within below (patched told) planned.added planned.released plans r same (back r holds);
        unused = λ r same holds.
            record_unused limits s old new changes stored keep dirty keep_is whole larger new_whole small valid rise settled.numbers within below (patched told) planned.added planned.released plans r same (back r holds);
        spelled = λ r same holds.
            all_spelled limits s old new changes stored keep dirty keep_is whole larger new_whole small valid rise settled.numbers within below (patched told) planned.added planned.released plans r same (back r holds);
        reach = λ r same holds block some_block.
            now_reached limits s old new changes stored keep dirty keep_is whole larger new_whole small valid rise settled.numbers within below (patched told) planned.added planned.released plans r same (back r holds) block some_block
            (settled.each told r (front r holds)) settled.added settled.released (settled.count told block);
        ends = λ _ r same holds.
            now_ends limits s old new changes stored keep dirty keep_is whole larger new_whole small valid rise settled.numbers within below (patched told) planned.added planned.released plans r same (back r holds);
      };
}

-- no change
module _ (s r : Store) (tree : BlockTree) (same : SameIn (tree_reach s tree) s r) where
  same_record : (n : ℕ) → record_at r tree n ≡ record_at s tree n
  unfolding record_at
  same_record n = ap (record_in (n % 32)) ((trees_depend s r tree same).blocks (n / 32))

  same_inode : (n : ℕ) → inode_at r tree n ≡ inode_at s tree n
  unfolding inode_at
  same_inode n = ap (λ (bytes : List ℕ). if is_number tree n then inode_of bytes else None) (same_record n)

pub with_none : (Told : Type 0) (limits : Limits) (s : Store) (tree : BlockTree) (changes : List InodeChange) (draft : Draft) → changes ≡ [] → IsWith Told limits s tree tree changes draft draft
with_none Told limits s tree [] draft none = record {
  added = [];
  released = [];
  grew = grown-none draft;
  few = omega arith;
  none = λ _. (refl, refl);
  changes_inodes = λ told. record {
    changed = λ r same holds. tt;
    others = λ r same holds number not. same_inode s r tree same number;
    stays = λ r same holds number not under. same_record s r tree same number;
    unused = λ r same holds number not past under. absurd (omega (arith, past, under));
    spelled = λ r same holds spelled number under. subst (SpellsRecord limits) (sym (same_record s r tree same number)) (spelled number under);
    reach = λ r same holds block some.
        let reached : times block (tree_reach r tree) ≡ times block (tree_reach s tree) = ap (times block) (trees_depend s r tree same).reach in
        omega (arith, reached);
    ends = λ some. absurd (some refl);
  };
}
with_none Told limits s tree (c ∷ cs) draft none = absurd cc

-- ---- of a plan

planned_as : (Told : Type 0) (s t : Store) (old new : BlockTree) (keep : ℕ) (dirty : List DirtyBlock) (between after : Draft) → (Told → t ≡ s) → IsPlanned Told t old new keep dirty between after → IsPlanned Told s old new keep dirty between after
planned_as Told s t old new keep dirty between after same planned = record {
  added = planned.added;
  released = planned.released;
  grew = planned.grew;
  few = planned.few;
  plans = λ told. subst (λ (u : Store). IsReplanned u old new keep dirty planned.added planned.released) (same told) (planned.plans told);
}

pub empty_list : (changes : List InodeChange) → length changes ≡ 0 → changes ≡ []
empty_list [] none = refl
empty_list (c ∷ cs) none = absurd (omega (arith, none))

pub numbers_least : (limits : Limits) (changes : List InodeChange) → All (IsChange limits) changes → All (λ (n : ℕ). 2 ≤ n) (numbers_in changes)
numbers_least limits changes each = All-map (λ (n : ℕ). 2 ≤ n) (λ (c : InodeChange). c.number) changes (All-weaker (IsChange limits) (λ (c : InodeChange). 2 ≤ c.number) (λ c is. is.least) changes each)

pub numbers_most : (limits : Limits) (changes : List InodeChange) → All (IsChange limits) changes → All (λ (n : ℕ). n ≤ limits.largest_number) (numbers_in changes)
numbers_most limits changes each = All-map (λ (n : ℕ). n ≤ limits.largest_number) (λ (c : InodeChange). c.number) changes (All-weaker (IsChange limits) (λ (c : InodeChange). c.number ≤ limits.largest_number) (λ c is. is.most) changes each)

-- the number of a record that the file has
pub has_number : (limits : Limits) (file : BlockTree) (changes : List InodeChange) (number : ℕ) → file.size % 4096 ≡ 0 → All (IsChange limits) changes → Contains (numbers_in changes) number → number / 32 < file.size / 4096 → is_number file number ≡ true
has_number limits file changes number whole each among under =
    let least : 2 ≤ number = All-contains (λ (n : ℕ). 2 ≤ n) (numbers_in changes) number (numbers_least limits changes each) among in
    ap (λ (b : Bool). b && nat_lt number (file.size / 128)) (le-leb 2 number least) ∙ lt-ltb number (file.size / 128) (omega (arith, whole, under))

module _ (Told : Type 0) (limits : Limits) (s t : Store) (old : BlockTree) (changes : List InodeChange) (stored : List StoredRecord) (keep size : ℕ) (dirty : List DirtyBlock) (before between after : Draft)
    (keep_is : keep ≡ old.size / 4096) (file : IsInodeFile limits old) (size_is : size ≡ max old.size (4096 * (slice_index (numbers_in changes) (length changes - 1) / 32 + 1))) (small : size ≤ 8388608)
    (each : All (IsChange limits) changes) (inc : IsStrictlyIncreasing (numbers_in changes)) (some : changes ≢ []) (there : 0 < length changes) where
  all_within : AllByRecursion (λ (n : ℕ). (2 ≤ n) × (n < size / 128)) (numbers_in changes)
  all_within =
      recursion_from_All (λ (n : ℕ). (2 ≤ n) × (n < size / 128)) (numbers_in changes)
      (All-from_get_or (λ (n : ℕ). (2 ≤ n) × (n < size / 128)) (numbers_in changes) 0 (λ k under.
      let long = length-map changes (λ (c : InodeChange). c.number) in
      let least = numbers_least limits changes each k 0 under in
      let most = rising_to (numbers_in changes) inc k (length changes - 1) (omega (arith, under, long)) (omega (arith, there, long)) in
      let room : 4096 * (slice_index (numbers_in changes) (length changes - 1) / 32 + 1) ≤ size = omega (arith, size_is) in
      (least, omega (arith, most, room))))

  pub all_below : (i : ℕ) → i + 1 ≡ length changes → map (λ (x : StoredRecord). x.number) stored ≡ numbers_in changes
      → All (λ (d : DirtyBlock). d.index ≤ slice_index (map (λ (x : StoredRecord). x.number) stored) i / 32) dirty → AllByRecursion (λ (d : DirtyBlock). 4096 * d.index < size) dirty
  all_below i at numbers below =
      let last_one : i ≡ length changes - 1 = omega (arith, at) in
      let named : slice_index (map (λ (x : StoredRecord). x.number) stored) i ≡ slice_index (numbers_in changes) (length changes - 1) = ap (λ (ns : List ℕ). slice_index ns i) numbers ∙ ap (slice_index (numbers_in changes)) last_one in
      let room : 4096 * (slice_index (numbers_in changes) (length changes - 1) / 32 + 1) ≤ size = omega (arith, size_is) in
      recursion_from_All (λ (d : DirtyBlock). 4096 * d.index < size) dirty
      (All-weaker (λ (d : DirtyBlock). d.index ≤ slice_index (map (λ (x : StoredRecord). x.number) stored) i / 32) (λ (d : DirtyBlock). 4096 * d.index < size) (λ d le. omega (arith, le, named, room)) dirty below)

  pub with_result : (result : Result BlockTree PlanFault) → (Told → t ≡ s)
      → All (λ (x : StoredRecord). IsRecord limits x.record) stored
      → ((i : ℕ) → i + 1 ≡ length stored → All (λ (d : DirtyBlock). d.index ≤ slice_index (map (λ (x : StoredRecord). x.number) stored) i / 32) dirty)
      → length dirty ≤ length stored
      → (Told → ArePatched (data_block s old) keep stored dirty)
      → AreSettled Told s old changes stored before between
      → IfOk result (λ (new : BlockTree). new.size ≡ size)
      → IfOk result (λ (new : BlockTree). IsPlanned Told t old new keep dirty between after)
      → IfOk result (λ (new : BlockTree). IsWith Told limits s old new changes before after)
  with_result (Err fault) same valid below few patched settled sized planned = tt
  with_result (Ok new) same valid below few patched settled sized planned =
      let long : length stored ≡ length changes = sym (length-map stored (λ (x : StoredRecord). x.number)) ∙ ap (λ (ns : List ℕ). length ns) settled.numbers ∙ length-map changes (λ (c : InodeChange). c.number) in
      let whole : size % 4096 ≡ 0 = omega (arith, size_is, file.whole) in
      with_some Told limits s old new changes stored keep dirty before between after keep_is file.whole (omega (arith, sized, size_is)) (omega (arith, sized, whole)) (omega (arith, sized, small))
      (recursion_from_All (λ (x : StoredRecord). IsRecord limits x.record) stored valid)
      (all_rise stored (subst IsStrictlyIncreasing (sym settled.numbers) inc))
      (subst (λ (n : ℕ). AllByRecursion (λ (m : ℕ). (2 ≤ m) × (m < n / 128)) (numbers_in changes)) (sym sized) all_within)
      (subst (λ (n : ℕ). AllByRecursion (λ (d : DirtyBlock). 4096 * d.index < n) dirty) (sym sized) (all_below (length changes - 1) (omega (arith, there)) settled.numbers (below (length changes - 1) (omega (arith, there, long)))))
      (omega (arith, few, long)) some patched settled (planned_as Told s t old new keep dirty between after same planned)

  pub file_result : (result : Result BlockTree PlanFault) → (limits.largest_number + 1) % 32 ≡ 0 → IfOk result (λ (new : BlockTree). new.size ≡ size) → IfOk result (λ (new : BlockTree). IsInodeFile limits new)
  file_result (Err fault) full sized = tt
  file_result (Ok new) full sized =
      let long = length-map changes (λ (c : InodeChange). c.number) in
      let most : slice_index (numbers_in changes) (length changes - 1) ≤ limits.largest_number = numbers_most limits changes each (length changes - 1) 0 (omega (arith, there, long)) in
      record {
        least = omega (arith, sized, size_is, file.least);
        most = omega (arith, sized, size_is, file.most, most, full);
        whole = omega (arith, sized, size_is, file.whole);
      }
