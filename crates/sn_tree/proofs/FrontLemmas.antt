-- The first pointers of a tree, with holes beside and after them, and a level above.
use Rattle.std.proofs.Common.{◌≡◌, ◌≢◌, inl, inr, ⊎_elim, ℕ, zero, suc, ◌+◌, ◌-◌, ◌*◌, ◌<◌, ◌≤◌, ◌&&◌, Bool, List, [], ◌∷◌, ◌++◌, length, get_or, replicate, refl, sym, ap, subst, ◌∙◌, arith, if◌then◌else◌, Option}
use Rattle.std.specs.Prelude.{◌^◌, nat_lt}
use Rattle.std.specs.List.{AllByRecursion}
use Rattle.std.proofs.Math.Nat.{mul-le-mul_left, mul-le-mul_right}
use Rattle.std.proofs.lemmas.Bool.{cases_lt, le-ltb}
use Rattle.std.proofs.lemmas.List.{append-nil, length-append, get_or_append_left, get_or-append_right}
use Rattle.sn_alloc.specs.Taking.{free_data}
use Rattle.sn_ondisk.specs.Trees.{Store, all_pointers}
use Rattle.sn_tree_read.proofs.PointerLemmas.{below_read}
use Rattle.sn_tree.specs.Drafts.{Draft, grown}
use Rattle.sn_tree.specs.Dirty.{after, blocks_wanted}
use Rattle.sn_ondisk.specs.Counts.{times}
use Rattle.sn_tree.specs.Plans.{DataBlocks, SameAmong, contents, PlansTo, straddles, most_added}
use Rattle.sn_tree.specs.Steps.{AreHoles, Planned, IsReplaced, LeadsOutsideAt}
use Rattle.sn_tree.specs.Fronts.{Aim, AreHolesFrom, front_most, PlansFront, PlannedFront}
use Rattle.sn_tree.specs.declared.new_block.NewBlock.{NewBlock}
use Rattle.sn_tree.specs.declared.new_block.DirtyBlock.{DirtyBlock}
use Rattle.sn_tree.proofs.DirtyLemmas.{straddles-once, after-after, after-empty, length-after, blocks_wanted-after, blocks_wanted-any, contents-holes}
use Rattle.sn_tree.proofs.EndLemmas.{times-holes}
use Rattle.sn_tree.proofs.PlanLemmas.{length-contents, plans_joined, plans_put, plans_dropped}
use Rattle.sn_tree.proofs.StepLemmas.{grown-grown, grown-none, holes-list}

-- ---- how many blocks are added

pub straddles-none : (b e : ℕ) → straddles b e 0 ≡ 0
straddles-none b e = ap (λ (c : Bool). if c && nat_lt 0 e then 1 else 0) (le-ltb b 0 (omega arith))

pub most_added-front : (depth b e keep : ℕ) (ds : List DirtyBlock) → most_added depth b e keep ds ≤ front_most depth e ds
most_added-front depth b e keep ds =
    let y = straddles b e keep in
    let small : depth * y ≤ depth * 1 = mul-le-mul_left depth (straddles-once b e keep) in
    summed depth ((depth + 1) * (length ds - length (after e ds))) (depth * y) small
  where
    summed : (depth x y : ℕ) → y ≤ depth * 1 → x + y ≤ x + depth
    summed depth x y small = omega (arith, small)

front_most-joined : (depth next end : ℕ) (ds : List DirtyBlock) → next ≤ end → front_most depth next ds + most_added depth next end 0 (after next ds) ≤ front_most depth end ds
front_most-joined depth next end ds within =
    let x = length ds - length (after next ds) in
    let y = length (after next ds) - length (after end (after next ds)) in
    let z = length ds - length (after end ds) in
    let same : length (after end (after next ds)) ≡ length (after end ds) = ap (λ (l : List DirtyBlock). length l) (after-after next end ds within) in
    let sums : x + y ≤ z = omega (arith, same, length-after next ds, length-after end (after next ds)) in
    let large : (depth + 1) * (x + y) ≤ (depth + 1) * z = mul-le-mul_left (depth + 1) sums in
    summed depth x y z (straddles next end 0) large (straddles-none next end)
  where
    summed : (depth x y z u : ℕ) → (depth + 1) * (x + y) ≤ (depth + 1) * z → u ≡ 0 → ((depth + 1) * x + depth) + ((depth + 1) * y + depth * u) ≤ (depth + 1) * z + depth
    summed depth x y z u large none = let gone : depth * u ≡ 0 = ap (λ n. depth * n) none ∙ omega arith in omega (arith, large, gone)

pub front_most-later : (depth next end : ℕ) (ds : List DirtyBlock) → next ≤ end → front_most depth next ds ≤ front_most depth end ds
front_most-later depth next end ds within = omega (arith, front_most-joined depth next end ds within)

pub front_most-up : (depth end : ℕ) (ds : List DirtyBlock) → front_most depth end ds + 1 ≤ front_most (suc depth) end ds
front_most-up depth end ds = told depth (length ds - length (after end ds))
  where
    told : (depth x : ℕ) → (depth + 1) * x + depth + 1 ≤ (suc depth + 1) * x + suc depth
    told depth x = omega arith

pub front_most-raised : (depth above next end : ℕ) (ds : List DirtyBlock) → above ≡ suc depth → next ≤ end → front_most depth next ds + 1 ≤ front_most above end ds
front_most-raised depth above next end ds up within =
    subst (λ (d : ℕ). front_most depth next ds + 1 ≤ front_most d end ds) (sym up)
    (omega (arith, front_most-up depth next ds, front_most-joined (suc depth) next end ds within))

pub front_most-whole : (depth end levels : ℕ) (ds : List DirtyBlock) → depth ≤ levels → front_most depth end ds ≤ (levels + 1) * (length ds + 1)
front_most-whole depth end levels ds within =
    let x = length ds - length (after end ds) in
    let n = length ds in
    let few : (depth + 1) * x ≤ (depth + 1) * n = mul-le-mul_left (depth + 1) (let less : x ≤ n = omega arith in less) in
    let wide : (depth + 1) * (n + 1) ≤ (levels + 1) * (n + 1) = mul-le-mul_right (n + 1) (let less : depth + 1 ≤ levels + 1 = omega (arith, within) in less) in
    summed depth x n ((levels + 1) * (n + 1)) few wide
  where
    summed : (depth x n m : ℕ) → (depth + 1) * x ≤ (depth + 1) * n → (depth + 1) * (n + 1) ≤ m → (depth + 1) * x + depth ≤ m
    summed depth x n m few wide = omega (arith, few, wide)

-- ---- holes after what was planned

holes_in : (hole : List ℕ) (xs : List (List ℕ)) (j : ℕ) → AllByRecursion (λ (x : List ℕ). x ≡ hole) xs → j < length xs → get_or xs j [] ≡ hole
holes_in hole [] j all within = absurd (omega (arith, within))
holes_in hole (x ∷ xs) zero all within = all.0
holes_in hole (x ∷ xs) (suc j) all within = holes_in hole xs j all.1 (omega (arith, within))

plan_anywhere : (t s : Store) (was : List ℕ) (had : DataBlocks) (depth base keep : ℕ) (ds : List DirtyBlock) (new : List ℕ) (a : List NewBlock) (x : List ℕ) → ((block : ℕ) → block ≢ 0 → times block was ≡ 0)
    → ((hole : List ℕ) → AllByRecursion (λ (bytes : List ℕ). bytes ≡ hole) (had hole)) → PlansTo t was had depth base 0 ds new a x → PlansTo s [] had depth base keep ds new a x
plan_anywhere t s was had depth base keep ds new a x none empty plan = record {
  content = λ hole r same held. plan.content hole r (free r) held ∙ blocks_wanted-any hole 0 keep base ds (had hole) (empty hole);
  reach = λ r same held block some. let planned = plan.reach r (free r) held block some in let gone = none block some in omega (arith, planned, gone);
  ends = λ r same held end low left. plan.ends r (free r) held end (omega arith) left;
}
  where
    free : (r : Store) → SameAmong t r was
    free r block some there = absurd (omega (arith, there, none block some))

module _ (Told : Type 0) (aim : Aim) where
  pub front_behind : (t : Store) (depth next end : ℕ) (holes news more : List ℕ) (mid left : List DirtyBlock) (between draft : Draft) → end ≡ next + length holes * 1024 ^ depth → AreHoles holes → AreHolesFrom next aim.old
      → PlannedFront Told aim depth next mid news between
      → Planned Told t (all_pointers t depth holes) (contents t depth holes) depth next end 0 mid left more between draft
      → PlannedFront Told aim depth end left (news ++ more) draft
  front_behind t depth next end holes news more mid left between draft ends none bare front back =
      let within : next ≤ end = omega (arith, ends) in
      let second : length back.added ≤ most_added depth next end 0 (after next aim.dirty) = subst (λ (l : List DirtyBlock). length back.added ≤ most_added depth next end 0 l) front.rest back.few in
      record {
        added = front.added ++ back.added;
        released = front.released ++ back.released;
        grew = back.grew ∙ ap (λ (d : Draft). grown d back.added back.released) front.grew ∙ grown-grown aim.draft front.added back.added front.released back.released;
        few = omega (arith, length-append front.added back.added, front.few, second, front_most-joined depth next end aim.dirty within);
        rest = back.rest ∙ ap (after end) front.rest ∙ after-after next end aim.dirty within;
        plans = λ told. behind (front.plans told) (back.plans told);
      }
    where
      empty : (hole : List ℕ) → AllByRecursion (λ (x : List ℕ). x ≡ hole) (contents t depth holes hole)
      empty hole = contents-holes hole t depth holes none

      behind : PlansFront aim depth next news front.added front.released → PlansTo t (all_pointers t depth holes) (contents t depth holes) depth next 0 mid more back.added back.released
          → PlansFront aim depth end (news ++ more) (front.added ++ back.added) (front.released ++ back.released)
      behind old plan =
          let xs = contents t depth holes in
          let width : (hole : List ℕ) → length (xs hole) ≡ length holes * 1024 ^ depth = (λ hole. length-contents hole t depth holes) in
          record {
            had = λ hole. old.had hole ++ xs hole;
            all = λ hole. omega (arith, length-append (old.had hole) (xs hole), old.all hole, width hole, ends);
            same = λ hole i inside. ⊎_elim
                (λ (here : i < next). get_or_append_left (old.had hole) (xs hole) [] i (omega (arith, here, old.all hole)) ∙ old.same hole i here)
                (λ (there : next ≤ i). get_or-append_right (old.had hole) (xs hole) next i [] (old.all hole) there ∙ holes_in hole (xs hole) (i - next) (empty hole) (omega (arith, inside, there, width hole, ends)) ∙ sym (bare hole i there))
                (cases_lt i next);
            plans = plans_joined aim.store depth 0 aim.keep aim.dirty aim.was aim.was [] (λ hole. old.had hole ++ xs hole) old.had xs news more front.added back.added front.released back.released mid next
                (λ block. let both : times block aim.was ≡ times block aim.was + times block [] = omega arith in both) (λ hole. refl) (λ hole. omega (arith, old.all hole))
                (λ hole olds. ap (λ (l : List DirtyBlock). blocks_wanted hole aim.keep l next olds) front.rest ∙ blocks_wanted-after hole aim.keep next next aim.dirty olds (omega arith))
                (λ bound gone. ap (after bound) front.rest ∙ after-empty next bound aim.dirty gone)
                old.plans
                (plan_anywhere t aim.store (all_pointers t depth holes) xs depth next aim.keep mid more back.added back.released (λ block some. times-holes t block depth holes none some) empty plan);
          }

  -- no block is left for them
  pub front_full_behind : (depth next end : ℕ) (news : List ℕ) (mid : List DirtyBlock) (between : Draft) → next ≤ end → PlannedFront Told aim depth next mid news between
      → free_data between.words between.first < length between.added + most_added depth next end 0 mid → free_data aim.draft.words aim.draft.first < length aim.draft.added + front_most depth end aim.dirty
  front_full_behind depth next end news mid between within front none =
      let free : free_data between.words between.first ≡ free_data aim.draft.words aim.draft.first = ap (λ (d : Draft). free_data d.words d.first) front.grew in
      let more : length between.added ≡ length aim.draft.added + length front.added = ap (λ (d : Draft). length d.added) front.grew ∙ length-append aim.draft.added front.added in
      let behind : most_added depth next end 0 mid ≡ most_added depth next end 0 (after next aim.dirty) = ap (λ (l : List DirtyBlock). most_added depth next end 0 l) front.rest in
      omega (arith, none, free, more, front.few, behind, front_most-joined depth next end aim.dirty within)

  -- ---- one level more

  pub front_up : (depth end : ℕ) (left : List DirtyBlock) (news : List ℕ) (between draft : Draft) (n : ℕ) → PlannedFront Told aim depth end left news between → IsReplaced between draft 0 news n
      → PlannedFront Told aim (suc depth) end left (n ∷ []) draft
  front_up depth end left news between draft n front (are, inl dropped) =
      subst (λ (m : ℕ). PlannedFront Told aim (suc depth) end left (m ∷ []) draft) (sym dropped.1) (record {
        added = front.added;
        released = front.released ++ [];
        grew = dropped.2 ∙ sym (grown-none between) ∙ front.grew ∙ ap (λ (x : List ℕ). grown aim.draft front.added x) (sym (append-nil front.released));
        few = omega (arith, front.few, front_most-up depth end aim.dirty);
        rest = front.rest;
        plans = λ told. dropped_plans (front.plans told);
      })
    where
      dropped_plans : PlansFront aim depth end news front.added front.released → PlansFront aim (suc depth) end (0 ∷ []) front.added (front.released ++ [])
      dropped_plans old = record {
        had = old.had;
        all = old.all;
        same = old.same;
        plans = plans_dropped aim.store aim.was old.had depth 0 aim.keep aim.dirty news front.added front.released old.plans aim.was [] (λ block some. let both : times block aim.was ≡ times block aim.was + times block [] = omega arith in both)
            (holes-list news dropped.0 ∙ ap (λ k. replicate k 0) are.count);
      }
  front_up depth end left news between draft n front (are, inr (filled, put)) =
      subst (λ (m : ℕ). PlannedFront Told aim (suc depth) end left (m ∷ []) draft) put.number_is (record {
        added = front.added ++ put.block ∷ [];
        released = front.released ++ [];
        grew = put.grew ∙ ap (λ (d : Draft). grown d (put.block ∷ []) []) front.grew ∙ grown-grown aim.draft front.added (put.block ∷ []) front.released [];
        few = omega (arith, length-append front.added (put.block ∷ []), front.few, front_most-up depth end aim.dirty);
        rest = front.rest;
        plans = λ told. put_plans (front.plans told);
      })
    where
      put_plans : PlansFront aim depth end news front.added front.released → PlansFront aim (suc depth) end (put.block.number ∷ []) (front.added ++ put.block ∷ []) (front.released ++ [])
      put_plans old = record {
        had = old.had;
        all = old.all;
        same = old.same;
        plans = plans_put aim.store aim.was old.had depth 0 aim.keep aim.dirty news front.added front.released old.plans aim.was [] (λ block some. let both : times block aim.was ≡ times block aim.was + times block [] = omega arith in both)
            put.block put.some filled (λ r held. below_read r put.block.number news put.some are (held ∙ put.bytes_are));
      }

  pub front_full_above : (depth end : ℕ) (news : List ℕ) (left : List DirtyBlock) (between : Draft) → PlannedFront Told aim depth end left news between
      → free_data between.words between.first ≤ length between.added → free_data aim.draft.words aim.draft.first < length aim.draft.added + front_most (suc depth) end aim.dirty
  front_full_above depth end news left between front none =
      let free : free_data between.words between.first ≡ free_data aim.draft.words aim.draft.first = ap (λ (d : Draft). free_data d.words d.first) front.grew in
      let more : length between.added ≡ length aim.draft.added + length front.added = ap (λ (d : Draft). length d.added) front.grew ∙ length-append aim.draft.added front.added in
      omega (arith, none, free, more, front.few, front_most-up depth end aim.dirty)

-- ---- holes lead nowhere

pub no_outside : {at : Option ℕ} (sectors : ℕ) (s : Store) (depth : ℕ) (holes : List ℕ) → AreHoles holes → ¬ LeadsOutsideAt sectors (all_pointers s depth holes) at
no_outside sectors s depth holes none leads = let gone = times-holes s leads.block depth holes none leads.some in let there = leads.among in omega (arith, gone, there)
