-- Contents whose bytes are in the inode, move out of it, or are cut back to it.
use Rattle.std.proofs.Common.{◌≡◌, ◌≢◌, ℕ, zero, suc, ◌+◌, ◌-◌, ◌*◌, ◌/◌, ◌<◌, ◌≤◌, ◌&&◌, ◌==◌, Bool, true, false, List, [], ◌∷◌, ◌++◌, length, take, get_or, slice_index, replicate, Contains, Bor, refl, sym, ap, subst, ◌∙◌, arith, if◌then◌else◌}
use Rattle.std.specs.Prelude.{◌^◌, nat_lt, is_some, Option, Some, None, IfSome, IsNone, IfOk, Result, Ok, Err}
use Rattle.std.proofs.Math.Nat.{mul-le-mul_left}
use Rattle.std.proofs.lemmas.Bool.{lt-ltb, le-ltb, eq-eqb, eqb-true, ne_eqb}
use Rattle.std.proofs.lemmas.List.{nil_from_length}
use Rattle.sn_layout.specs.Bytes.{zeros}
use Rattle.sn_layout.specs.Pointers.{levels_of}
use Rattle.sn_layout.specs.declared.tree.BlockTree.{BlockTree}
use Rattle.sn_layout_node.specs.declared.content.Content.{Content}
use Rattle.sn_layout_node.specs.declared.content.Content.TheVariants.{Inline, Tree}
use Rattle.sn_ondisk.specs.Trees.{Store, entry, pointers_at, all_pointers, named_by, data_block, tree_reach}
use Rattle.sn_ondisk.specs.TreeLaws.{SameIn}
use Rattle.sn_ondisk.proofs.TreeLemmas.{entry-level, reach_has, reach_has_none}
use Rattle.sn_tree_read.specs.Paths.{lies_on, path_lies_on, block_lies_on, block_named, pointer_met, block_met}
use Rattle.sn_tree_read.proofs.PointerLemmas.{met_last}
use Rattle.sn_content.specs.Contents.{inline_block, content_block, holes_of, IsBuilt, IsContentPlanned, IsContentReplanned, IsMovedOut, IsReleased}
use Rattle.sn_tree.specs.Dirty.{IsFrom, after, block_wanted, block_after}
use Rattle.sn_tree.specs.Drafts.{Draft}
use Rattle.sn_tree.specs.Fronts.{IsCut}
use Rattle.sn_ondisk.specs.Counts.{times}
use Rattle.sn_tree.specs.Plans.{contents, straddles, most_added, PlansTo}
use Rattle.sn_tree.specs.Replanned.{EndsAt, IsPlanned, IsReplanned}
use Rattle.sn_tree.specs.Steps.{LeadsOutsideAt, Planned}
use Rattle.sn_tree.specs.declared.fault.PlanFault.{PlanFault}
use Rattle.sn_tree.specs.declared.new_block.DirtyBlock.{DirtyBlock}
use Rattle.sn_ondisk.proofs.CountLemmas.{among_times, times-reach}
use Rattle.sn_tree.proofs.PlanLemmas.{length-contents}
use Rattle.sn_tree.proofs.DirtyLemmas.{block_wanted-dirty, block_wanted-clean, block_wanted-cut, block_wanted-any, AreHoles-replicate, AreHoles-at}
use Rattle.sn_tree.proofs.EndLemmas.{hole_at, times-holes}
use Rattle.sn_tree.proofs.FaultLemmas.{no_hole}
use Rattle.sn_tree.proofs.FrontLemmas.{straddles-none}
use Rattle.sn_tree.proofs.ReplannedLemmas.{data-at, replanned}

-- ---- a block that isn't on the device

at_among : (ps : List ℕ) (i : ℕ) → slice_index ps i ≢ 0 → Contains ps (slice_index ps i)
at_among [] i some = absurd (some refl)
at_among (p ∷ ps) zero some = (0, omega arith, refl)
at_among (p ∷ ps) (suc i) some = let w = at_among ps i some in (suc w.0, omega (arith, w.1), w.2)

module _ (sectors : ℕ) (s : Store) (tree : BlockTree) where
  pointer_off : (level i pointer : ℕ) → level ≤ levels_of tree.size → pointer ≡ entry s level tree.pointers i → lies_on sectors pointer ≡ false → LeadsOutsideAt sectors (tree_reach s tree) (block_named pointer)
  pointer_off level i pointer within at off =
      let some : pointer ≢ 0 = no_hole sectors pointer off in
      let is : pointer ≡ slice_index (pointers_at s level tree.pointers) i = at ∙ entry-level s level tree.pointers i in
      let among : Contains (pointers_at s level tree.pointers) pointer = subst (Contains (pointers_at s level tree.pointers)) (sym is) (at_among (pointers_at s level tree.pointers) i (λ none. some (is ∙ none))) in
      record {
        block = pointer;
        some = some;
        among = among_times pointer (tree_reach s tree) (reach_has s tree level pointer within some among);
        outside = off;
        met = refl;
      }

  abbrev OffAt : ℕ → ℕ → Type 0
  OffAt level i = LeadsOutsideAt sectors (tree_reach s tree) (block_named (pointer_met sectors s level tree.pointers i))

  -- where a pointer or one above it names a block that isn't there, so does the last one on the way
  path_off : (level i : ℕ) → level ≤ levels_of tree.size → (path_lies_on sectors s level tree.pointers i && lies_on sectors (entry s level tree.pointers i)) ≡ false → OffAt level i
  unfolding path_lies_on pointer_met
  path_off zero i within off = pointer_off zero i (entry s zero tree.pointers i) within refl off
  path_off (suc level) i within off = either (λ is. path_off level (i / 1024) (omega (arith, within)) is) (path_lies_on sectors s (suc level) tree.pointers i) refl
    where
      either : (path_lies_on sectors s (suc level) tree.pointers i ≡ false → OffAt level (i / 1024)) → (b : Bool) → path_lies_on sectors s (suc level) tree.pointers i ≡ b → OffAt (suc level) i
      either above true is =
          let met : pointer_met sectors s (suc level) tree.pointers i ≡ entry s (suc level) tree.pointers i = met_last sectors s (suc level) tree.pointers i is in
          pointer_off (suc level) i (pointer_met sectors s (suc level) tree.pointers i) within met (ap (lies_on sectors) met ∙ sym (ap (λ (b : Bool). b && lies_on sectors (entry s (suc level) tree.pointers i)) is) ∙ off)
      either above false is = subst (λ (p : ℕ). LeadsOutsideAt sectors (tree_reach s tree) (block_named p)) (sym (ap (λ (b : Bool). if b then entry s (suc level) tree.pointers i else pointer_met sectors s level tree.pointers (i / 1024)) is)) (above is)

  pub block_off : {at : Option ℕ} (i : ℕ) → (block_lies_on sectors s tree i ≡ false) × (at ≡ block_met sectors s tree i) → LeadsOutsideAt sectors (tree_reach s tree) at
  block_off i off = subst (LeadsOutsideAt sectors (tree_reach s tree)) (sym off.1) (path_off (levels_of tree.size) i (omega arith) off.0)

-- ---- the first data block

pub first_dirty : (ds : List DirtyBlock) (d : DirtyBlock) → 0 < length ds → d ≡ get_or ds 0 d → d.index ≡ 0 → (keep : ℕ) (old : List ℕ) → block_after keep ds 0 old ≡ d.bytes.value
first_dirty [] d some is first keep old = absurd (omega (arith, some))
first_dirty (x ∷ xs) d some is first keep old =
    let here : x.index ≡ 0 = ap (λ (y : DirtyBlock). y.index) (sym is) ∙ first in
    ap (λ (i : ℕ). block_after keep (x ∷ xs) i old) (sym here) ∙ block_wanted-dirty (zeros 4096) keep x xs old ∙ ap (λ (y : DirtyBlock). y.bytes.value) (sym is)

pub first_cut : (ds : List DirtyBlock) (keep : ℕ) (old : List ℕ) → keep ≡ 0 → IsFrom 1 ds → block_after keep ds 0 old ≡ zeros 4096
first_cut ds keep old none rise = block_wanted-cut (zeros 4096) keep 0 ds old rise (omega (arith, none))

pub first_kept : (ds : List DirtyBlock) (keep : ℕ) (old : List ℕ) → keep ≢ 0 → IsFrom 1 ds → block_after keep ds 0 old ≡ old
first_kept ds keep old some rise =
    let under : 0 < keep = omega (arith, some) in
    block_wanted-clean (zeros 4096) keep 0 ds old rise ∙ ap (λ (b : Bool). if b then old else zeros 4096) (lt-ltb 0 keep under)

-- ---- bytes that leave the inode

pub nothing_in : (bytes : List ℕ) (is : Bool) → is ≡ (length bytes == 0) → is ≡ true → bytes ≡ []
nothing_in bytes is answer holds = nil_from_length bytes (let none : length bytes ≡ 0 = eqb-true (length bytes) 0 (sym answer ∙ holds) in omega (arith, none))

pub none_there : {X : Type 0} (o : Option X) (is : Bool) → is ≡ is_some o → is ≡ false → IsNone o
none_there None is answer fails = refl
none_there (Some x) is answer fails = absurd cc

none_kept : (i : ℕ) (ds : List DirtyBlock) (a b : List ℕ) → block_after 0 ds i a ≡ block_after 0 ds i b
unfolding block_wanted
none_kept i [] a b = told (nat_lt i 0) (le-ltb i 0 (omega arith))
  where
    told : (c : Bool) → c ≡ false → (if c then a else zeros 4096) ≡ (if c then b else zeros 4096)
    told true is = absurd cc
    told false is = refl
none_kept i (d ∷ ds) a b = ap (λ (x : List ℕ). if d.index == i then d.bytes.value else x) (none_kept i ds a b)

module _ (bytes : List ℕ) (keep : ℕ) (ds : List DirtyBlock) (rise : IsFrom 0 ds) where
  stayed : ((i : ℕ) → block_after 0 ds i (zeros 4096) ≡ block_after keep ds i (inline_block bytes i)) → IsMovedOut bytes keep ds ds
  stayed same = record {
    rise = rise;
    few = omega arith;
    blocks = same;
    begins = λ size some all. all;
  }

  pub none_moved : keep ≡ 0 → IsMovedOut bytes keep ds ds
  none_moved none = stayed (λ i. none_kept i ds (zeros 4096) (inline_block bytes i) ∙ ap (λ (k : ℕ). block_after k ds i (inline_block bytes i)) (sym none))

  pub nothing_moved : bytes ≡ [] → IsMovedOut bytes keep ds ds
  nothing_moved empty = stayed (λ i. block_wanted-any (zeros 4096) 0 keep i ds (zeros 4096) refl ∙ ap (block_after keep ds i) (sym (hole i)))
    where
      hole : (i : ℕ) → inline_block bytes i ≡ zeros 4096
      hole i = ap (λ (b : List ℕ). inline_block b i) empty ∙ either (i == 0)
        where
          either : (b : Bool) → (if b then [] ++ zeros (4096 - 0) else zeros 4096) ≡ zeros 4096
          either true = refl
          either false = refl

  behind : (i : ℕ) → i ≢ 0 → inline_block bytes i ≡ zeros 4096
  behind i some = ap (λ (b : Bool). if b then bytes ++ zeros (4096 - length bytes) else zeros 4096) (ne_eqb i 0 some)

  later : (i : ℕ) → i ≢ 0 → block_after 0 ds i (zeros 4096) ≡ block_after keep ds i (inline_block bytes i)
  later i some = block_wanted-any (zeros 4096) 0 keep i ds (zeros 4096) refl ∙ ap (block_after keep ds i) (sym (behind i some))

  written_over : (block : List ℕ) → ((k : ℕ) (old : List ℕ) → block_after k ds 0 old ≡ block) → IsMovedOut bytes keep ds ds
  written_over block first = stayed each
    where
      each : (i : ℕ) → block_after 0 ds i (zeros 4096) ≡ block_after keep ds i (inline_block bytes i)
      each zero = first 0 (zeros 4096) ∙ sym (first keep (inline_block bytes 0))
      each (suc i) = later (suc i) (λ is. absurd (omega (arith, is)))

  pub first_written : (block : Option (Bor (List ℕ))) (is : Bool) → IfSome block (λ (b : Bor (List ℕ)). (k : ℕ) (old : List ℕ) → block_after k ds 0 old ≡ b.now) → is ≡ is_some block → is ≡ true → IsMovedOut bytes keep ds ds
  first_written None is first answer some = absurd cc
  first_written (Some b) is first answer some = written_over b.now first

  pub moved_out : keep ≢ 0 → IsFrom 1 ds → (d : DirtyBlock) → d.index ≡ 0 → d.bytes.value ≡ bytes ++ zeros (4096 - length bytes) → IsMovedOut bytes keep ds (d ∷ ds)
  unfolding block_wanted
  moved_out some clean d first is = record {
    rise = (omega arith, subst (λ (i : ℕ). IsFrom (i + 1) ds) (sym first) clean);
    few = omega arith;
    blocks = each;
    begins = λ size more all. (omega (arith, first, more), all);
  }
    where
      next : (i : ℕ) → (d.index == suc i) ≡ false → block_after 0 (d ∷ ds) (suc i) (zeros 4096) ≡ block_after keep ds (suc i) (inline_block bytes (suc i))
      next i other = ap (λ (b : Bool). if b then d.bytes.value else block_after 0 ds (suc i) (zeros 4096)) other ∙ later (suc i) (λ is. absurd (omega (arith, is)))

      each : (i : ℕ) → block_after 0 (d ∷ ds) i (zeros 4096) ≡ block_after keep ds i (inline_block bytes i)
      each zero =
          ap (λ (i : ℕ). block_after 0 (d ∷ ds) i (zeros 4096)) (sym first) ∙ block_wanted-dirty (zeros 4096) 0 d ds (zeros 4096) ∙ is
          ∙ sym (first_kept ds keep (inline_block bytes 0) some clean)
      each (suc i) = next i (ne_eqb d.index (suc i) (λ same. absurd (omega (arith, first, same))))

-- ---- a tree of dirty blocks alone

module _ (Told : Type 0) (s : Store) (old new : BlockTree) (keep : ℕ) (ds left : List DirtyBlock) (before behind : Draft) where
  tree_plans : (end : ℕ) → levels_of new.size ≡ levels_of old.size → length old.pointers ≡ 16 → length new.pointers ≡ 16
      → (step : Planned Told s (all_pointers s (levels_of old.size) old.pointers) (contents s (levels_of old.size) old.pointers) (levels_of old.size) 0 end keep ds left new.pointers before behind)
      → Told → IsReplanned s old new keep ds step.added step.released
  tree_plans end levels of_old of_new step told = replanned s old new keep ds (all_pointers s (levels_of old.size) old.pointers) (contents s (levels_of old.size) old.pointers) step.added step.released of_new
      (λ hole. length-contents hole s (levels_of old.size) old.pointers ∙ ap (λ n. n * 1024 ^ levels_of old.size) of_old ∙ ap (λ n. 16 * 1024 ^ n) (sym levels))
      (λ block some. refl)
      (λ hole i within. sym (data-at s old hole (levels_of old.size) refl of_old i (subst (λ (n : ℕ). i < 16 * 1024 ^ n) levels within)))
      (subst (λ (n : ℕ). PlansTo s (all_pointers s (levels_of old.size) old.pointers) (contents s (levels_of old.size) old.pointers) n 0 keep ds new.pointers step.added step.released) (sym levels) (step.plans told))

named-zeros : (s : Store) (p : ℕ) → p ≡ 0 → named_by s p ≡ zeros 4096
unfolding named_by
named-zeros s p none = ap (λ (b : Bool). if b then zeros 4096 else s p) (eq-eqb p 0 none)

module _ (s : Store) (size : ℕ) where
  holes_times : (block : ℕ) → block ≢ 0 → times block (tree_reach s (holes_of size)) ≡ 0
  holes_times block some = times-reach s (holes_of size) block some ∙ times-holes s block (levels_of size) (replicate 16 0) (AreHoles-replicate 16) some

  holes_none : (r : Store) → SameIn (tree_reach s (holes_of size)) s r
  holes_none r block among = absurd (omega (arith, among_times block (tree_reach s (holes_of size)) among, holes_times block (reach_has_none s (holes_of size) block among)))

  holes_data : (i : ℕ) → data_block s (holes_of size) i ≡ zeros 4096
  unfolding data_block
  holes_data i =
      let depth = levels_of size in
      named-zeros s (entry s depth (replicate 16 0) i) (entry-level s depth (replicate 16 0) i ∙ hole_at (pointers_at s depth (replicate 16 0)) i (AreHoles-at s depth (replicate 16 0) (AreHoles-replicate 16)))

pub most_added-bare : (depth b e : ℕ) (ds : List DirtyBlock) → most_added depth b e 0 ds ≤ (depth + 1) * length ds
most_added-bare depth b e ds =
    let x = length ds - length (after e ds) in
    let large : (depth + 1) * x ≤ (depth + 1) * length ds = mul-le-mul_left (depth + 1) (let few : x ≤ length ds = omega arith in few) in
    summed depth x (straddles b e 0) (length ds) large (straddles-none b e)
  where
    summed : (depth x y n : ℕ) → (depth + 1) * x ≤ (depth + 1) * n → y ≡ 0 → (depth + 1) * x + depth * y ≤ (depth + 1) * n
    summed depth x y n large none = let gone : depth * y ≡ 0 = ap (λ n. depth * n) none ∙ omega arith in omega (arith, large, gone)

module _ (Told : Type 0) (s : Store) (new : BlockTree) (ds : List DirtyBlock) (before behind : Draft) where
  pub new_built : (end : ℕ) (left : List DirtyBlock) → length new.pointers ≡ 16
      → Planned Told s (all_pointers s (levels_of new.size) (replicate 16 0)) (contents s (levels_of new.size) (replicate 16 0)) (levels_of new.size) 0 end 0 ds left new.pointers before behind
      → IsBuilt Told s new ds before behind
  new_built end left count step = record {
    added = step.added;
    released = step.released;
    grew = step.grew;
    few = omega (arith, step.few, most_added-bare (levels_of new.size) 0 end ds);
    plans = tree_plans Told s (holes_of new.size) new 0 ds left before behind end refl refl count step;
  }

  pub moved_planned : (bytes : List ℕ) (keep : ℕ) (old : List DirtyBlock) → 64 < new.size → IsMovedOut bytes keep old ds → IsBuilt Told s new ds before behind → IsContentPlanned Told s (Inline bytes) (Tree new) keep old before behind
  moved_planned bytes keep old more out built = record {
    added = built.added;
    released = built.released;
    grew = built.grew;
    few = omega (arith, built.few, mul-le-mul_left (levels_of new.size + 1) out.few);
    form = more;
    plans = λ told. replanned (built.plans told);
  }
    where
      bare : (i : ℕ) → block_after 0 ds i (data_block s (holes_of new.size) i) ≡ block_after keep old i (inline_block bytes i)
      bare i = ap (block_after 0 ds i) (holes_data s new.size i) ∙ out.blocks i

      ended : EndsAt (content_block s (Inline bytes)) new.size keep old → EndsAt (data_block s (holes_of new.size)) new.size 0 ds
      ended wanted = record {
        stays = omega arith;
        begins = out.begins new.size (omega (arith, more)) wanted.begins;
        past = λ i k within far. ap (λ (x : List ℕ). get_or x k 0) (bare i) ∙ wanted.past i k within far;
      }

      replanned : IsReplanned s (holes_of new.size) new 0 ds built.added built.released → IsContentReplanned s (Inline bytes) (Tree new) keep old built.added built.released
      replanned plan = record {
        blocks = λ r same held i within. plan.content r (holes_none s new.size r) held i within ∙ bare i;
        reach = λ r same held block some. let counted = plan.reach r (holes_none s new.size r) held block some in omega (arith, counted, holes_times s new.size block some);
        ends = λ r same held wanted. plan.ends r (holes_none s new.size r) held (ended wanted);
      }

-- ---- the other ways

pub cut_released : (Told : Type 0) (s : Store) (tree : BlockTree) (depth : ℕ) (pointers : List ℕ) (before behind : Draft) → depth ≡ levels_of tree.size → pointers ≡ tree.pointers → IsCut Told s depth pointers before behind
    → IsReleased Told s (Tree tree) before behind
cut_released Told s tree depth pointers before behind all are step = record {
  released = step.released;
  grew = step.grew;
  all = λ told block some.
      step.all told block some
      ∙ ap (λ (d : ℕ). times block (all_pointers s d pointers)) all
      ∙ ap (λ (ps : List ℕ). times block (all_pointers s (levels_of tree.size) ps)) are
      ∙ sym (times-reach s tree block some);
}

module _ (Told : Type 0) (s : Store) (keep : ℕ) (ds : List DirtyBlock) (before behind : Draft) where
  pub inline_planned : (old : Content) (size : ℕ) (bytes : List ℕ) → size ≤ 64 → length bytes ≡ size → (Told → bytes ≡ take size (block_after keep ds 0 (content_block s old 0))) → IsReleased Told s old before behind
      → IsContentPlanned Told s old (Inline bytes) keep ds before behind
  inline_planned old size bytes few count is gone = record {
    added = [];
    released = gone.released;
    grew = gone.grew;
    few = omega arith;
    form = omega (arith, few, count);
    plans = λ told. record {
      blocks = λ r same held. is told ∙ ap (λ (n : ℕ). take n (block_after keep ds 0 (content_block s old 0))) (sym count);
      reach = λ r same held block some. let all = gone.all told block some in omega (arith, all);
      ends = λ r same held wanted. tt;
    };
  }

  pub tree_content_planned : (old new : BlockTree) → 64 < new.size → IsPlanned Told s old new keep ds before behind → IsContentPlanned Told s (Tree old) (Tree new) keep ds before behind
  tree_content_planned old new more step = record {
    added = step.added;
    released = step.released;
    grew = step.grew;
    few = step.few;
    form = more;
    plans = λ told. let plan = step.plans told in record {
      blocks = plan.content;
      reach = plan.reach;
      ends = plan.ends;
    };
  }

module _ (Told : Type 0) (s : Store) (before behind : Draft) where
  pub moved_result : (result : Result BlockTree PlanFault) (size : ℕ) (bytes : List ℕ) (keep : ℕ) (old ds : List DirtyBlock) → 64 < size → IsMovedOut bytes keep old ds
      → IfOk result (λ (new : BlockTree). new.size ≡ size) → IfOk result (λ (new : BlockTree). IsBuilt Told s new ds before behind)
      → IfOk result (λ (new : BlockTree). IsContentPlanned Told s (Inline bytes) (Tree new) keep old before behind)
  moved_result (Err fault) size bytes keep old ds more out sized built = tt
  moved_result (Ok new) size bytes keep old ds more out sized built = moved_planned Told s new ds before behind bytes keep old (omega (arith, more, sized)) out built
