-- A tree whose sixteen pointers were planned.
use Rattle.std.proofs.Common.{◌≡◌, ◌≢◌, ⊎_elim, ℕ, zero, suc, ◌+◌, ◌-◌, ◌*◌, ◌/◌, ◌<◌, ◌≤◌, ◌==◌, Bool, true, false, List, [], ◌∷◌, length, get_or, refl, sym, ap, ◌∙◌, arith, if◌then◌else◌, Option}
use Rattle.std.specs.Prelude.{◌^◌, All}
use Rattle.std.specs.List.{AllByRecursion}
use Rattle.std.proofs.lemmas.Bool.{cases_lt, eqb-true, eqb-false, lt-ltb}
use Rattle.std.proofs.lemmas.List.{get_or-map, get_or-replicate, get_or_past}
use Rattle.std.proofs.lemmas.List.Elements.{All-nil, All-cons}
use Rattle.sn_layout.specs.Bytes.{zeros}
use Rattle.sn_layout.specs.Pointers.{levels_of}
use Rattle.sn_layout.specs.declared.tree.BlockTree.{BlockTree}
use Rattle.sn_ondisk.specs.Trees.{Store, entry, pointers_at, all_pointers, data_block, tree_reach}
use Rattle.sn_ondisk.specs.TreeLaws.{SameIn}
use Rattle.sn_ondisk.proofs.TreeLemmas.{but_holes-has, entry-level}
use Rattle.sn_tree.specs.Dirty.{after, block_wanted, block_after, blocks_wanted}
use Rattle.sn_tree.specs.Fronts.{data_or}
use Rattle.sn_ondisk.specs.Counts.{times}
use Rattle.sn_tree.specs.Plans.{DataBlocks, Holds, SameAmong, named_or, contents, PlansTo}
use Rattle.sn_tree.specs.Steps.{LeadsOutsideAt}
use Rattle.sn_tree.specs.Replanned.{IsReplanned}
use Rattle.sn_tree.specs.declared.new_block.NewBlock.{NewBlock}
use Rattle.sn_tree.specs.declared.new_block.DirtyBlock.{DirtyBlock}
use Rattle.sn_ondisk.proofs.CountLemmas.{times_among, times-reach, length-pointers_at}
use Rattle.sn_tree.proofs.DirtyLemmas.{after-first, named-hole, named-there, named-by}

blocks_wanted-at : (hole : List ℕ) (keep base : ℕ) (ds : List DirtyBlock) (xs : List (List ℕ)) (i : ℕ) → i < length xs → get_or (blocks_wanted hole keep ds base xs) i [] ≡ block_wanted hole keep ds (base + i) (get_or xs i [])
unfolding blocks_wanted
blocks_wanted-at hole keep base ds [] i within = absurd (omega (arith, within))
blocks_wanted-at hole keep base ds (x ∷ xs) zero within = let here : base ≡ base + 0 = omega arith in ap (λ (n : ℕ). block_wanted hole keep ds n x) here
blocks_wanted-at hole keep base ds (x ∷ xs) (suc i) within =
    let there : base + 1 + i ≡ base + suc i = omega arith in
    blocks_wanted-at hole keep (base + 1) ds xs i (omega (arith, within)) ∙ ap (λ (n : ℕ). block_wanted hole keep ds n (get_or xs i [])) there

-- not every list is the same
one_list : (xs : List ℕ) → ((ys : List ℕ) → ys ≡ xs) → ⊥
one_list xs all = let same : length {A = ℕ} [] ≡ length {A = ℕ} (0 ∷ []) = ap (λ (l : List ℕ). length l) (all [] ∙ sym (all (0 ∷ []))) in omega (arith, same)

-- what is to be a hole is one, whatever a hole is read as
wanted_hole : (keep : ℕ) (ds : List DirtyBlock) (i p : ℕ) (s : Store) → ((hole : List ℕ) → hole ≡ block_wanted hole keep ds i (named_or hole s p)) → All (λ (d : DirtyBlock). d.index ≢ i) ds × (i < keep → p ≡ 0)
unfolding block_wanted
wanted_hole keep [] i p s each = (All-nil (λ (d : DirtyBlock). d.index ≢ i), told (p == 0) refl)
  where
    told : (b : Bool) → (p == 0) ≡ b → i < keep → p ≡ 0
    told true is low = eqb-true p 0 is
    told false is low = absurd (one_list (s p) (λ hole. each hole ∙ ap (λ (b : Bool). if b then named_or hole s p else hole) (lt-ltb i keep low) ∙ named-there hole s p (eqb-false p 0 is)))
wanted_hole keep (d ∷ ds) i p s each = told (d.index == i) refl (λ same. wanted_hole keep ds i p s same)
  where
    told : (b : Bool) → (d.index == i) ≡ b → (((hole : List ℕ) → hole ≡ block_wanted hole keep ds i (named_or hole s p)) → All (λ (d : DirtyBlock). d.index ≢ i) ds × (i < keep → p ≡ 0))
        → All (λ (d : DirtyBlock). d.index ≢ i) (d ∷ ds) × (i < keep → p ≡ 0)
    told true is later = absurd (one_list d.bytes.value (λ hole. each hole ∙ ap (λ (b : Bool). if b then d.bytes.value else block_wanted hole keep ds i (named_or hole s p)) is))
    told false is later =
        let rest = later (λ hole. each hole ∙ ap (λ (b : Bool). if b then d.bytes.value else block_wanted hole keep ds i (named_or hole s p)) is) in
        (All-cons (λ (d : DirtyBlock). d.index ≢ i) d ds (eqb-false d.index i is) rest.0, rest.1)

module _ (s : Store) (tree : BlockTree) where
  same-among : (r : Store) → SameIn (tree_reach s tree) s r → SameAmong s r (all_pointers s (levels_of tree.size) tree.pointers)
  unfolding tree_reach
  same-among r same block some there = same block (but_holes-has (all_pointers s (levels_of tree.size) tree.pointers) block some (times_among block (all_pointers s (levels_of tree.size) tree.pointers) there))

  -- a hole reads as zeros
  data-is : (i : ℕ) → data_block s tree i ≡ data_or (zeros 4096) s tree i
  unfolding data_block
  data-is i = sym (named-by s (entry s (levels_of tree.size) tree.pointers i))

  pub data-at : (hole : List ℕ) (depth : ℕ) → depth ≡ levels_of tree.size → length tree.pointers ≡ 16 → (i : ℕ) → i < 16 * 1024 ^ depth → data_or hole s tree i ≡ get_or (contents s depth tree.pointers hole) i []
  data-at hole depth is count i within =
      let many : length (pointers_at s depth tree.pointers) ≡ 16 * 1024 ^ depth = length-pointers_at s depth tree.pointers ∙ ap (λ n. n * 1024 ^ depth) count in
      ap (λ (d : ℕ). named_or hole s (entry s d tree.pointers i)) (sym is)
      ∙ ap (named_or hole s) (entry-level s depth tree.pointers i)
      ∙ sym (get_or-map (named_or hole s) (pointers_at s depth tree.pointers) i 0 [] (omega (arith, within, many)))

  -- past them
  pub hole-past : (hole : List ℕ) → length tree.pointers ≡ 16 → (i : ℕ) → 16 * 1024 ^ levels_of tree.size ≤ i → data_or hole s tree i ≡ hole
  hole-past hole count i past =
      let depth = levels_of tree.size in
      let many : length (pointers_at s depth tree.pointers) ≡ 16 * 1024 ^ depth = length-pointers_at s depth tree.pointers ∙ ap (λ n. n * 1024 ^ depth) count in
      named-hole hole s (entry s depth tree.pointers i) (entry-level s depth tree.pointers i ∙ get_or_past (pointers_at s depth tree.pointers) i 0 (omega (arith, past, many)))

-- ---- the end of a tree

none_past : (size : ℕ) (ds : List DirtyBlock) → AllByRecursion (λ (d : DirtyBlock). 4096 * d.index < size) ds → after ((size + 4095) / 4096) ds ≡ []
unfolding after
none_past size [] begins = refl
none_past size (d ∷ ds) begins = let first : 4096 * d.index < size = begins.0 in after-first ((size + 4095) / 4096) d ds (omega (arith, first)) ∙ none_past size ds begins.1

zeros-at : (k : ℕ) → k < 4096 → get_or (zeros 4096) k 0 ≡ 0
unfolding zeros
zeros-at k within = get_or-replicate 4096 k 0 0 within

past_end : (size i width : ℕ) → size ≤ i * (4096 * width) → (size + 4095) / 4096 ≤ 0 + i * width
past_end size i width far = let joined : i * (4096 * width) ≡ 4096 * (i * width) = omega arith in omega (arith, far, joined)

module _ (s : Store) (old new : BlockTree) (keep : ℕ) (ds : List DirtyBlock) (was : List ℕ) (had : DataBlocks) (added : List NewBlock) (released : List ℕ) where
  pub replanned : length new.pointers ≡ 16 → ((hole : List ℕ) → length (had hole) ≡ 16 * 1024 ^ levels_of new.size)
      → ((block : ℕ) → block ≢ 0 → times block was ≡ times block (all_pointers s (levels_of old.size) old.pointers))
      → ((hole : List ℕ) (i : ℕ) → i < 16 * 1024 ^ levels_of new.size → get_or (had hole) i [] ≡ data_or hole s old i)
      → PlansTo s was had (levels_of new.size) 0 keep ds new.pointers added released → IsReplanned s old new keep ds added released
  replanned of_new many count is plan = record {
    content = blocks;
    holes = λ r same held i within none.
        let told = wanted_hole keep ds i (entry s (levels_of old.size) old.pointers i) s
        (λ hole. sym (named-hole hole r (entry r (levels_of new.size) new.pointers i) none) ∙ wanted hole r same held i within) in
        record { clean = told.0; was = told.1 };
    reach = λ r same held block some.
        let planned = plan.reach r (among r same) held block some in
        let new_reach = times-reach r new block some in
        let old_reach = times-reach s old block some in
        omega (arith, planned, new_reach, old_reach, count block some);
    ends = λ r same held aimed. record {
      pointers = λ level i within far.
          entry-level r level new.pointers i
          ∙ plan.ends r (among r same) held ((new.size + 4095) / 4096) (let low : 4096 * keep < new.size + 4096 = aimed.stays in omega (arith, low)) (none_past new.size ds aimed.begins) level i within (past_end new.size i (1024 ^ (levels_of new.size - level)) far);
      bytes = λ i k inside far. ⊎_elim
          (λ (within : i < 16 * 1024 ^ levels_of new.size). ap (λ (x : List ℕ). get_or x k 0) (blocks r same held i within) ∙ aimed.past i k inside far)
          (λ (past : 16 * 1024 ^ levels_of new.size ≤ i). ap (λ (x : List ℕ). get_or x k 0) (data-is r new i ∙ hole-past r new (zeros 4096) of_new i past) ∙ zeros-at k inside)
          (cases_lt i (16 * 1024 ^ levels_of new.size));
    };
  }
    where
      among : (r : Store) → SameIn (tree_reach s old) s r → SameAmong s r was
      among r same block some there = same-among s old r same block some (omega (arith, there, count block some))

      wanted : (hole : List ℕ) (r : Store) → SameIn (tree_reach s old) s r → Holds r added → (i : ℕ) → i < 16 * 1024 ^ levels_of new.size → data_or hole r new i ≡ block_wanted hole keep ds i (data_or hole s old i)
      wanted hole r same held i within =
          data-at r new hole (levels_of new.size) refl of_new i within
          ∙ ap (λ (xs : List (List ℕ)). get_or xs i []) (plan.content hole r (among r same) held)
          ∙ blocks_wanted-at hole keep 0 ds (had hole) i (omega (arith, within, many hole))
          ∙ ap (λ (n : ℕ). block_wanted hole keep ds n (get_or (had hole) i [])) (let at : 0 + i ≡ i = omega arith in at)
          ∙ ap (block_wanted hole keep ds i) (is hole i within)

      blocks : (r : Store) → SameIn (tree_reach s old) s r → Holds r added → (i : ℕ) → i < 16 * 1024 ^ levels_of new.size → data_block r new i ≡ block_after keep ds i (data_block s old i)
      blocks r same held i within = data-is r new i ∙ wanted (zeros 4096) r same held i within ∙ ap (block_after keep ds i) (sym (data-is s old i))

-- ---- a plan of a tree

pub tree_outside : {at : Option ℕ} (s : Store) (tree : BlockTree) (sectors : ℕ) → LeadsOutsideAt sectors (all_pointers s (levels_of tree.size) tree.pointers) at → LeadsOutsideAt sectors (tree_reach s tree) at
tree_outside s tree sectors leads = record {
  block = leads.block;
  some = leads.some;
  among = omega (arith, leads.among, times-reach s tree leads.block leads.some);
  outside = leads.outside;
  met = leads.met;
}
