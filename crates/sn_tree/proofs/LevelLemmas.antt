-- Pointers that are cut off, and a tree whose pointers are at another height.
use Rattle.std.proofs.Common.{◌≡◌, ◌≢◌, ℕ, suc, ◌+◌, ◌-◌, ◌*◌, ◌<◌, List, [], ◌∷◌, ◌++◌, length, get_or, take, drop, refl, sym, ap, subst, ◌∙◌, arith, Option}
use Rattle.std.specs.Prelude.{◌^◌, slice_index}
use Rattle.std.specs.List.{flat_map}
use Rattle.std.proofs.Math.Nat.{pow-succ'}
use Rattle.std.proofs.lemmas.List.{append-nil, append_assoc, take-append-drop, length-take-le, nil_from_length, get_or-map, get_or_append_left}
use Rattle.std.proofs.lemmas.List.Elements.{All-nil}
use Rattle.sn_alloc.specs.Taking.{free_data}
use Rattle.sn_image.specs.Reach.{block_reach}
use Rattle.sn_layout.specs.Pointers.{levels_of}
use Rattle.sn_layout.specs.declared.tree.BlockTree.{BlockTree}
use Rattle.sn_ondisk.specs.Trees.{Store, below, pointers_at, all_pointers}
use Rattle.sn_ondisk.proofs.TreeLemmas.{entry-level}
use Rattle.sn_tree.specs.Drafts.{Draft, grown, numbers_of}
use Rattle.sn_tree.specs.Dirty.{after}
use Rattle.sn_ondisk.specs.Counts.{times}
use Rattle.sn_tree.specs.Plans.{Holds, SameAmong, named_or, contents, PlansTo, straddles, most_added}
use Rattle.sn_tree.specs.Steps.{Planned, LeadsOutsideAt}
use Rattle.sn_tree.specs.Replanned.{IsPlanned}
use Rattle.sn_tree.specs.Fronts.{Aim, data_or, PlannedFront, IsCut, IsLowered, IsFirstOf}
use Rattle.sn_tree.specs.declared.new_block.NewBlock.{NewBlock}
use Rattle.sn_tree.specs.declared.new_block.DirtyBlock.{DirtyBlock}
use Rattle.sn_ondisk.proofs.CountLemmas.{times-append, times-all_append, times-down, pointers_at-append, pointers_at-down, length-pointers_at}
use Rattle.sn_tree.proofs.SpanLemmas.{times-block_reach}
use Rattle.sn_tree.proofs.DirtyLemmas.{after-nil}
use Rattle.sn_tree.proofs.EndLemmas.{times-holes}
use Rattle.sn_tree.proofs.PlanLemmas.{length-contents}
use Rattle.sn_tree.proofs.FrontLemmas.{most_added-front, front_most-whole, straddles-none}
use Rattle.sn_tree.proofs.ReplannedLemmas.{replanned}
use Rattle.sn_tree.proofs.StepLemmas.{grown-grown, grown-none}

-- ---- what is cut off

pub none_added : (depth end : ℕ) → most_added depth 0 end 0 [] ≡ 0
none_added depth end = told depth (length (after end [])) (straddles 0 end 0) (straddles-none 0 end)
  where
    told : (depth x y : ℕ) → y ≡ 0 → (depth + 1) * (0 - x) + depth * y ≡ 0
    told depth x y none =
        let left : (depth + 1) * (0 - x) ≡ (depth + 1) * 0 = ap (λ n. (depth + 1) * n) (let gone : 0 - x ≡ 0 = omega arith in gone) in
        let right : depth * y ≡ depth * 0 = ap (λ n. depth * n) none in
        omega (arith, left, right)

pub cut_off : (Told : Type 0) (s : Store) (depth end : ℕ) (pointers new : List ℕ) (left : List DirtyBlock) (old draft : Draft)
    → Planned Told s (all_pointers s depth pointers) (contents s depth pointers) depth 0 end 0 [] left new old draft → IsCut Told s depth pointers old draft
cut_off Told s depth end pointers new left old draft step = record {
  released = step.released;
  grew = step.grew ∙ ap (λ (added : List NewBlock). grown old added step.released) none;
  all = λ told block some.
      let plans = step.plans told in
      let held : Holds s step.added = subst (λ (added : List NewBlock). Holds s added) (sym none) (All-nil (λ (block : NewBlock). s block.number ≡ block.bytes.value)) in
      let counted = plans.reach s (λ b other there. refl) held block some in
      let holes = times-holes s block depth new (step.cut (omega arith) (after_nil end)) some in
      let fresh = ap (λ (added : List NewBlock). times block (numbers_of added)) none in
      omega (arith, counted, holes, fresh);
}
  where
    none : step.added ≡ []
    none = nil_from_length step.added (omega (arith, step.few, none_added depth end))

    after_nil : (end : ℕ) → length {A = DirtyBlock} (after end []) ≡ length {A = DirtyBlock} []
    after_nil end = ap (λ (l : List DirtyBlock). length l) (after-nil end)

-- ---- one level less

module _ (Told : Type 0) (s : Store) (depth p : ℕ) (rest below_p : List ℕ) (is : Told → below_p ≡ below s p) (many : length below_p ≡ 1024) where
  lower_count : (beside behind : List ℕ) → Told → ((block : ℕ) → block ≢ 0 → times block beside ≡ times block (all_pointers s (suc depth) rest)) → ((block : ℕ) → block ≢ 0 → times block behind ≡ times block (all_pointers s depth (drop 16 below_p)))
      → (block : ℕ) → block ≢ 0 → times block (all_pointers s (suc depth) (p ∷ rest)) ≡ times block (all_pointers s depth (take 16 below_p)) + times block ((beside ++ behind) ++ block_reach p)
  lower_count beside behind told of_rest of_behind block some =
      let split = times-all_append s block (suc depth) (p ∷ []) rest in
      let down = times-down s block depth p ∙ ap (λ (qs : List ℕ). times block (p ∷ []) + times block (all_pointers s depth qs)) (sym (is told)) in
      let parts = ap (λ (qs : List ℕ). times block (all_pointers s depth qs)) (sym (take-append-drop 16 below_p)) ∙ times-all_append s block depth (take 16 below_p) (drop 16 below_p) in
      let lists = times-append block (beside ++ behind) (block_reach p) in
      let both = times-append block beside behind in
      let one = times-block_reach block p some in
      omega (arith, split, down, parts, lists, both, one, of_rest block some, of_behind block some)

  lower_first : Told → (i : ℕ) → i < 16 * 1024 ^ depth → slice_index (pointers_at s depth (take 16 below_p)) i ≡ slice_index (pointers_at s (suc depth) (p ∷ rest)) i
  lower_first told i within =
      let few : length (take 16 below_p) ≡ 16 = length-take-le 16 below_p (omega (arith, many)) in
      let wide : length (pointers_at s depth (take 16 below_p)) ≡ 16 * 1024 ^ depth = length-pointers_at s depth (take 16 below_p) ∙ ap (λ n. n * 1024 ^ depth) few in
      let others = drop 16 below_p ++ flat_map (below s) rest in
      let joined : flat_map (below s) (p ∷ rest) ≡ take 16 below_p ++ others =
      ap (λ (qs : List ℕ). qs ++ flat_map (below s) rest) (sym (is told) ∙ sym (take-append-drop 16 below_p)) ∙ append_assoc (take 16 below_p) (drop 16 below_p) (flat_map (below s) rest) in
      sym (ap (λ (qs : List ℕ). get_or qs i 0) (pointers_at-down s depth (p ∷ rest) ∙ ap (pointers_at s depth) joined ∙ pointers_at-append s depth (take 16 below_p) others)
      ∙ get_or_append_left (pointers_at s depth (take 16 below_p)) (pointers_at s depth others) 0 i (omega (arith, within, wide)))

  pub lowered_to : (t r : Store) (old between mid new : Draft) → (Told → t ≡ s) → (Told → r ≡ s) → IsCut Told t (suc depth) rest old between → IsCut Told r depth (drop 16 below_p) between mid → new ≡ grown mid [] (block_reach p)
      → IsLowered Told s depth (p ∷ rest) (take 16 below_p) old new
  lowered_to t r old between mid new same_t same_r beside behind grew = record {
    released = (beside.released ++ behind.released) ++ block_reach p;
    grew = grew ∙ ap (λ (d : Draft). grown d [] (block_reach p)) (behind.grew ∙ ap (λ (d : Draft). grown d [] behind.released) beside.grew ∙ grown-grown old [] [] beside.released behind.released)
        ∙ grown-grown old [] [] (beside.released ++ behind.released) (block_reach p);
    count = λ told. lower_count beside.released behind.released told
        (λ block some. beside.all told block some ∙ ap (λ (q : Store). times block (all_pointers q (suc depth) rest)) (same_t told))
        (λ block some. behind.all told block some ∙ ap (λ (q : Store). times block (all_pointers q depth (drop 16 below_p))) (same_r told));
    first = lower_first;
  }

-- a block that is read on the way is one that the pointers reach
pub outside_beside : {at : Option ℕ} (s : Store) (above p : ℕ) (rest : List ℕ) (sectors : ℕ) → LeadsOutsideAt sectors (all_pointers s above rest) at → LeadsOutsideAt sectors (all_pointers s above (p ∷ rest)) at
outside_beside s above p rest sectors leads = record {
  block = leads.block;
  some = leads.some;
  among = omega (arith, leads.among, times-all_append s leads.block above (p ∷ []) rest);
  outside = leads.outside;
  met = leads.met;
}

pub outside_behind : {at : Option ℕ} (s : Store) (depth p : ℕ) (rest below_p : List ℕ) → below_p ≡ below s p → (sectors : ℕ) → LeadsOutsideAt sectors (all_pointers s depth (drop 16 below_p)) at → LeadsOutsideAt sectors (all_pointers s (suc depth) (p ∷ rest)) at
outside_behind s depth p rest below_p is sectors leads =
    let block = leads.block in
    let split = times-all_append s block (suc depth) (p ∷ []) rest in
    let down = times-down s block depth p ∙ ap (λ (qs : List ℕ). times block (p ∷ []) + times block (all_pointers s depth qs)) (sym is) in
    let parts = ap (λ (qs : List ℕ). times block (all_pointers s depth qs)) (sym (take-append-drop 16 below_p)) ∙ times-all_append s block depth (take 16 below_p) (drop 16 below_p) in
    record {
      block = block;
      some = leads.some;
      among = omega (arith, leads.among, split, down, parts);
      outside = leads.outside;
      met = leads.met;
    }

-- ---- the pointers of a tree, at a height

pub first_begun : (Told : Type 0) (s : Store) (tree : BlockTree) (draft : Draft) → IsFirstOf Told s tree (levels_of tree.size) tree.pointers draft draft
first_begun Told s tree draft = record {
  released = [];
  grew = grown-none draft;
  count = λ told block some. omega arith;
  first = λ told i within. sym (entry-level s (levels_of tree.size) tree.pointers i);
}

pub first_lowered : (Told : Type 0) (s t : Store) (tree : BlockTree) (depth above : ℕ) (pointers new : List ℕ) (old between draft : Draft) → above ≡ suc depth → (Told → t ≡ s)
    → IsFirstOf Told s tree above pointers old between → IsLowered Told t depth pointers new between draft → IsFirstOf Told s tree depth new old draft
first_lowered Told s t tree depth above pointers new old between draft up same first step = record {
  released = first.released ++ step.released;
  grew = step.grew ∙ ap (λ (d : Draft). grown d [] step.released) first.grew ∙ grown-grown old [] [] first.released step.released;
  count = λ told block some.
      let upper = first.count told block some in
      let here = step.count told block some in
      let store = ap (λ (q : Store). times block (all_pointers q (suc depth) pointers)) (same told) in
      let store_new = ap (λ (q : Store). times block (all_pointers q depth new)) (same told) in
      let height = ap (λ (d : ℕ). times block (all_pointers s d pointers)) up in
      let lists = times-append block first.released step.released in
      omega (arith, upper, here, store, store_new, height, lists);
  first = λ told i within.
      let wide : 1024 ^ above ≡ 1024 * 1024 ^ depth = ap (λ (d : ℕ). 1024 ^ d) up ∙ pow-succ' 1024 depth in
      ap (λ (q : Store). get_or (pointers_at q depth new) i 0) (sym (same told))
      ∙ step.first told i within
      ∙ ap (λ (q : Store). get_or (pointers_at q (suc depth) pointers) i 0) (same told)
      ∙ ap (λ (d : ℕ). get_or (pointers_at s d pointers) i 0) (sym up)
      ∙ first.first told i (omega (arith, within, wide));
}

pub first_outside : {at : Option ℕ} (Told : Type 0) (s : Store) (tree : BlockTree) (depth sectors : ℕ) (pointers : List ℕ) (old draft : Draft) → IsFirstOf Told s tree depth pointers old draft → Told
    → LeadsOutsideAt sectors (all_pointers s depth pointers) at → LeadsOutsideAt sectors (all_pointers s (levels_of tree.size) tree.pointers) at
first_outside Told s tree depth sectors pointers old draft first told leads = record {
  block = leads.block;
  some = leads.some;
  among = omega (arith, leads.among, first.count told leads.block leads.some);
  outside = leads.outside;
  met = leads.met;
}

-- no block is left
pub first_full : (Told : Type 0) (s : Store) (tree : BlockTree) (depth most : ℕ) (pointers : List ℕ) (old draft : Draft) → IsFirstOf Told s tree depth pointers old draft
    → free_data draft.words draft.first < length draft.added + most → free_data old.words old.first < length old.added + most
first_full Told s tree depth most pointers old draft first none =
    let free : free_data draft.words draft.first ≡ free_data old.words old.first = ap (λ (d : Draft). free_data d.words d.first) first.grew in
    let more : length draft.added ≡ length old.added = ap (λ (d : Draft). length d.added) first.grew ∙ ap (λ (added : List NewBlock). length added) (append-nil old.added) in
    omega (arith, none, free, more)

-- ---- a tree as it is planned

module _ (s : Store) (tree : BlockTree) (keep : ℕ) (ds : List DirtyBlock) (draft : Draft) where
  abbrev pub aim : Aim
  aim = record {
    store = s;
    was = all_pointers s (levels_of tree.size) tree.pointers;
    old = λ hole i. data_or hole s tree i;
    keep = keep;
    dirty = ds;
    draft = draft;
  }

  module _ (Told : Type 0) where
    pub front_begun : (depth end : ℕ) (pointers new : List ℕ) (left : List DirtyBlock) (between behind : Draft) → length pointers ≡ 16 → end ≡ 16 * 1024 ^ depth → IsFirstOf Told s tree depth pointers draft between
        → Planned Told s (all_pointers s depth pointers) (contents s depth pointers) depth 0 end keep ds left new between behind → PlannedFront Told aim depth end left new behind
    front_begun depth end pointers new left between behind count ends first step = record {
      added = step.added;
      released = first.released ++ step.released;
      grew = step.grew ∙ ap (λ (d : Draft). grown d step.added step.released) first.grew ∙ grown-grown draft [] step.added first.released step.released;
      few = omega (arith, step.few, most_added-front depth 0 end keep ds);
      rest = step.rest;
      plans = λ told. record {
        had = contents s depth pointers;
        all = all;
        same = λ hole i within.
            get_or-map (named_or hole s) (pointers_at s depth pointers) i 0 [] (omega (arith, within, wide, ends))
            ∙ ap (named_or hole s) (first.first told i (omega (arith, within, ends)));
        plans = with_gone told;
      };
    }
      where
        wide : length (pointers_at s depth pointers) ≡ 16 * 1024 ^ depth
        wide = length-pointers_at s depth pointers ∙ ap (λ n. n * 1024 ^ depth) count

        all : (hole : List ℕ) → length (contents s depth pointers hole) ≡ end
        all hole = length-contents hole s depth pointers ∙ ap (λ n. n * 1024 ^ depth) count ∙ sym ends

        with_gone : Told → PlansTo s (all_pointers s (levels_of tree.size) tree.pointers) (contents s depth pointers) depth 0 keep ds new step.added (first.released ++ step.released)
        with_gone told =
            let plans = step.plans told in
            let fewer : (r : Store) → SameAmong s r (all_pointers s (levels_of tree.size) tree.pointers) → SameAmong s r (all_pointers s depth pointers) =
            (λ r same block some there. same block some (omega (arith, there, first.count told block some))) in
            record {
              content = λ hole r same held. plans.content hole r (fewer r same) held;
              reach = λ r same held block some.
                  let counted = plans.reach r (fewer r same) held block some in
                  let all_of = first.count told block some in
                  let lists = times-append block first.released step.released in
                  omega (arith, counted, all_of, lists);
              ends = λ r same held end low none. plans.ends r (fewer r same) held end low none;
            }

    pub front_planned : (new : BlockTree) (left : List DirtyBlock) (behind : Draft) → length new.pointers ≡ 16 → PlannedFront Told aim (levels_of new.size) (16 * 1024 ^ levels_of new.size) left new.pointers behind
        → IsPlanned Told s tree new keep ds draft behind
    front_planned new left behind count front = record {
      added = front.added;
      released = front.released;
      grew = front.grew;
      few = omega (arith, front.few, front_most-whole (levels_of new.size) (16 * 1024 ^ levels_of new.size) (levels_of new.size) ds (omega arith));
      plans = λ told. let plans = front.plans told in
          replanned s tree new keep ds (all_pointers s (levels_of tree.size) tree.pointers) plans.had front.added front.released count plans.all (λ block some. refl) plans.same plans.plans;
    }
