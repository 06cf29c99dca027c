-- The bits of the block map, as they are put.
use Rattle.std.proofs.Common.{◌≡◌, ◌≢◌, ⊎_elim, ℕ, ◌+◌, ◌<◌, ◌≤◌, List, [], ◌∷◌, ◌++◌, length, get_or, refl, sym, ap, subst, ◌∙◌, arith}
use Rattle.std.specs.Prelude.{All, Contains, slice_index}
use Rattle.std.specs.Int.{bit_at}
use Rattle.std.proofs.lemmas.Bool.{cases_eq, cases_lt}
use Rattle.std.proofs.lemmas.List.Elements.{All-nil, All-cons, All-head, All-tail, All-get_or, Contains-append_left, Contains-append_right, Contains-append_cases}
use Rattle.sn_device.proofs.SectorLemmas.{Contains-first, Contains-cases}
use Rattle.sn_image.proofs.ListLemmas.{none_in}
use Rattle.sn_map.specs.Bits.{PutsBit}
use Rattle.sn_ondisk.specs.Counts.{times}
use Rattle.sn_ondisk.proofs.CountLemmas.{among_times, times_among}
use Rattle.sn_tree.specs.Drafts.{numbers_of}
use Rattle.sn_tree.specs.declared.new_block.NewBlock.{NewBlock}
use Rattle.sn_cp_build.specs.Bits.{TellsBit, TellsBlocks, PutsBits, MakesUp, BitsFollow}
use Rattle.sn_cp_build.specs.Edits.{EditsBits, TakesBase, base_bit}
use Rattle.sn_cp_build.specs.declared.edits.SnapshotEdit.{SnapshotEdit}
use Rattle.sn_cp_build.proofs.EditLemmas.{edited_before}

pub puts_none : (bit : ℕ) (words : List ℕ) → PutsBits bit [] words words
puts_none bit words = record {
  as_many = refl;
  put = λ block among. none_in block among;
  others = λ block k other. refl;
  elsewhere = λ block apart. refl;
}

-- one block more
module _ (bit : ℕ) (xs : List ℕ) (x : ℕ) (a b c : List ℕ) (first : PutsBits bit xs a b) (step : PutsBit x 0 bit b c) where
  last : Contains (xs ++ x ∷ []) x
  last = Contains-append_right xs (x ∷ []) x (Contains-first x [])

  earlier : (block : ℕ) → block ≢ x → Contains (xs ++ x ∷ []) block → Contains xs block
  earlier block other among = ⊎_elim
      (λ (in_first : Contains xs block). in_first)
      (λ (in_last : Contains (x ∷ []) block). ⊎_elim (λ (same : block ≡ x). absurd (other same)) (λ (none : Contains [] block). none_in block none) (Contains-cases x [] block in_last))
      (Contains-append_cases xs (x ∷ []) block among)

  put_more : (block : ℕ) → Contains (xs ++ x ∷ []) block → bit_at (slice_index c block) 0 ≡ bit
  put_more block among = ⊎_elim
      (λ (same : block ≡ x). ap (λ (k : ℕ). bit_at (slice_index c k) 0) same ∙ step.put)
      (λ (other : block ≢ x). ap (λ (word : ℕ). bit_at word 0) (step.elsewhere block other) ∙ first.put block (earlier block other among))
      (cases_eq block x)

  others_more : (block k : ℕ) → k ≢ 0 → bit_at (slice_index c block) k ≡ bit_at (slice_index a block) k
  others_more block k apart = ⊎_elim
      (λ (same : block ≡ x). ap (λ (i : ℕ). bit_at (slice_index c i) k) same ∙ step.others k apart ∙ sym (ap (λ (i : ℕ). bit_at (slice_index b i) k) same))
      (λ (other : block ≢ x). ap (λ (word : ℕ). bit_at word k) (step.elsewhere block other))
      (cases_eq block x)
      ∙ first.others block k apart

  elsewhere_more : (block : ℕ) → ¬ Contains (xs ++ x ∷ []) block → slice_index c block ≡ slice_index a block
  elsewhere_more block apart =
      step.elsewhere block (λ same. apart (subst (Contains (xs ++ x ∷ [])) (sym same) last))
      ∙ first.elsewhere block (λ among. apart (Contains-append_left xs (x ∷ []) block among))

  pub puts_more : PutsBits bit (xs ++ x ∷ []) a c
  puts_more = record {
    as_many = step.as_many ∙ first.as_many;
    put = put_more;
    others = others_more;
    elsewhere = elsewhere_more;
  }

-- ---- all of them

module _ (was is added released old middle new : List ℕ) (makes : MakesUp was is added released) (set : PutsBits 1 added old middle) (unset : PutsBits 0 released middle new) (tells : TellsBlocks old was) where
  no_one : (n : ℕ) → n ≡ 0 → n ≡ 1 → ⊥
  no_one n zero one = omega (arith, zero, one)

  -- it is kept, and stays what it was or was put
  kept : (block : ℕ) → times block released ≡ 0 → slice_index new block ≡ slice_index middle block
  kept block none = unset.elsewhere block (λ among. omega (arith, none, among_times block released among))

  stays : (block : ℕ) → times block added ≡ 0 → slice_index middle block ≡ slice_index old block
  stays block none = set.elsewhere block (λ among. omega (arith, none, among_times block added among))

  is_set : (block : ℕ) → Contains is block → bit_at (slice_index new block) 0 ≡ 1
  is_set block among =
      let some = among_times block is among in
      let is_block : block ≢ 0 = λ zero. omega (arith, some, ap (λ (b : ℕ). times b is) zero, makes.no_zero) in
      let none : times block released ≡ 0 = omega (arith, makes.sum block is_block, makes.once block, some) in
      ap (λ (word : ℕ). bit_at word 0) (kept block none) ∙ ⊎_elim
      (λ (newly : 0 < times block added). set.put block (times_among block added newly))
      (λ (not : times block added ≤ 0).
      let not_added : times block added ≡ 0 = omega (arith, not) in
      let before : 0 < times block was = omega (arith, makes.sum block is_block, not_added, some) in
      ap (λ (word : ℕ). bit_at word 0) (stays block not_added) ∙ (tells block).1 (times_among block was before))
      (cases_lt 0 (times block added))

  -- what is set and wasn't released was reached before, or was added
  known : (block : ℕ) → times block released ≡ 0 → bit_at (slice_index new block) 0 ≡ 1 → 0 < times block was + times block added
  known block none one = ⊎_elim
      (λ (newly : 0 < times block added). omega (arith, newly))
      (λ (never : times block added ≤ 0).
      let not_added : times block added ≡ 0 = omega (arith, never) in
      let before = among_times block was ((tells block).0 (sym (ap (λ (word : ℕ). bit_at word 0) (kept block none ∙ stays block not_added)) ∙ one)) in
      omega (arith, before))
      (cases_lt 0 (times block added))

  was_reached : (block : ℕ) → bit_at (slice_index new block) 0 ≡ 1 → Contains is block
  was_reached block one = ⊎_elim
      (λ (gone : 0 < times block released). absurd (no_one (bit_at (slice_index new block) 0) (unset.put block (times_among block released gone)) one))
      (λ (not : times block released ≤ 0).
      let none : times block released ≡ 0 = omega (arith, not) in
      let some = known block none one in
      let is_block : block ≢ 0 = λ zero. omega (arith, some, ap (λ (b : ℕ). times b was) zero, ap (λ (b : ℕ). times b added) zero, makes.no_zero) in
      times_among block is (omega (arith, makes.sum block is_block, none, some)))
      (cases_lt 0 (times block released))

  pub tells_new : TellsBlocks new is
  tells_new block = (was_reached block, is_set block)

-- the bit that a build begins from is bit 0 of what it begins from
based : (e : SnapshotEdit) (old base was : List ℕ) → TakesBase e old base → TellsBit (base_bit e) old was → TellsBlocks base was
based e old base was takes tells block = ((λ one. (tells block).0 (sym (takes.live block) ∙ one)), (λ among. takes.live block ∙ (tells block).1 among))

pub bits_follow : (added released old base middle put new : List ℕ) (e : SnapshotEdit) → TakesBase e old base → PutsBits 1 added base middle → PutsBits 0 released middle put → EditsBits e put new → BitsFollow added released e old new
bits_follow added released old base middle put new e takes set unset edits = record {
  as_many = edits.as_many ∙ unset.as_many ∙ set.as_many ∙ takes.as_many;
  snapshots = edited_before e old put new (λ block k other. unset.others block k other ∙ set.others block k other ∙ takes.others block k other) edits.snapshots;
  tells = λ was is makes tells block.
      let told = tells_new was is added released base middle put makes set unset (based e old base was takes tells) block in
      (λ one. told.0 (sym (edits.live block) ∙ one), λ among. edits.live block ∙ told.1 among);
}

-- a block of a list has what all have
pub number_within : (n : ℕ) (added : List NewBlock) (k : ℕ) (block : NewBlock) → k < length added → block ≡ get_or added k block → All (λ (b : ℕ). b < n) (numbers_of added) → block.number < n
number_within n added k block within is all =
    subst (λ (b : NewBlock). b.number < n) (sym is) (All-get_or (λ (b : NewBlock). b.number < n) added k block within (of_numbers added all))
  where
    of_numbers : (bs : List NewBlock) → All (λ (b : ℕ). b < n) (numbers_of bs) → All (λ (b : NewBlock). b.number < n) bs
    of_numbers [] h = All-nil (λ (b : NewBlock). b.number < n)
    of_numbers (b ∷ bs) h = All-cons (λ (b : NewBlock). b.number < n) b bs (All-head (λ (x : ℕ). x < n) b.number (numbers_of bs) h) (of_numbers bs (All-tail (λ (x : ℕ). x < n) b.number (numbers_of bs) h))
