-- Plans of pointers: of one, of lists that are joined, of one level more.
use Rattle.std.proofs.Common.{◌≡◌, ◌≢◌, ℕ, suc, ◌+◌, ◌*◌, ◌<◌, ◌≤◌, ◌==◌, Bool, true, false, List, [], ◌∷◌, ◌++◌, length, replicate, map, refl, sym, ap, subst, ◌∙◌, arith, if◌then◌else◌}
use Rattle.std.specs.Prelude.{◌^◌, All}
use Rattle.std.proofs.lemmas.Bool.{eqb-false}
use Rattle.std.proofs.lemmas.List.{map-append, length-map}
use Rattle.std.proofs.lemmas.List.Elements.{All-nil, All-cons, All-head, All-tail}
use Rattle.sn_device.proofs.SectorLemmas.{Contains-first, Contains-more}
use Rattle.sn_image.specs.Reach.{block_reach}
use Rattle.sn_ondisk.specs.Blocks.{numbers_in}
use Rattle.sn_ondisk.specs.Trees.{Store, below, pointers_at, all_pointers}
use Rattle.sn_ondisk.proofs.TreeLemmas.{Agree, pointers-same, all_pointers-same, of_level}
use Rattle.sn_tree.specs.Drafts.{numbers_of}
use Rattle.sn_tree.specs.Dirty.{IsFrom, after, block_wanted, blocks_wanted}
use Rattle.sn_ondisk.specs.Counts.{times}
use Rattle.sn_tree.specs.Plans.{DataBlocks, Holds, SameAmong, named_or, contents, EndsBefore, PlansTo, Plans}
use Rattle.sn_tree.specs.Steps.{AreHoles}
use Rattle.sn_tree.specs.declared.new_block.NewBlock.{NewBlock}
use Rattle.sn_tree.specs.declared.new_block.DirtyBlock.{DirtyBlock}
use Rattle.sn_ondisk.proofs.CountLemmas.{times-append, times-same, times-other, among_times, times-all_append, times-down, pointers-down, pointers_at-append, length-pointers_at}
use Rattle.sn_tree.proofs.SpanLemmas.{times-block_reach}
use Rattle.sn_tree.proofs.DirtyLemmas.{blocks_wanted-append, length-blocks_wanted, block_wanted-cut, blocks_wanted-kept, blocks_wanted-holes, named-hole, named-there, contents-holes}
use Rattle.sn_tree.proofs.EndLemmas.{ends_kept, ends_holes, ends_joined, ends_leaf, ends_up, ends_all}

-- ---- lists of new blocks

All-front : {X : Type 0} (P : X → Type 0) (xs ys : List X) → All P (xs ++ ys) → All P xs
All-front P [] ys all = All-nil P
All-front P (x ∷ xs) ys all = All-cons P x xs (All-head P x (xs ++ ys) all) (All-front P xs ys (All-tail P x (xs ++ ys) all))

All-back : {X : Type 0} (P : X → Type 0) (xs ys : List X) → All P (xs ++ ys) → All P ys
All-back P [] ys all = all
All-back P (x ∷ xs) ys all = All-back P xs ys (All-tail P x (xs ++ ys) all)

-- ---- stores that agree

module _ (s r : Store) where
  named-same : (hole : List ℕ) (p : ℕ) → ((p == 0) ≡ false → r p ≡ s p) → named_or hole r p ≡ named_or hole s p
  unfolding named_or
  named-same hole p agree = either (p == 0) refl
    where
      either : (b : Bool) → (p == 0) ≡ b → (if b then hole else r p) ≡ (if b then hole else s p)
      either true is = refl
      either false is = agree is

  map-same : (hole : List ℕ) (ps : List ℕ) → Agree s r ps → map (named_or hole r) ps ≡ map (named_or hole s) ps
  map-same hole [] agree = refl
  map-same hole (p ∷ ps) agree =
      ap (λ (x : List ℕ). x ∷ map (named_or hole r) ps) (named-same hole p (agree p (Contains-first p ps)))
      ∙ ap (λ (xs : List (List ℕ)). named_or hole s p ∷ xs) (map-same hole ps (λ q among. agree q (Contains-more p ps q among)))

  agreed : (depth : ℕ) (ps : List ℕ) → SameAmong s r (all_pointers s depth ps) → Agree s r (all_pointers s depth ps)
  agreed depth ps same p among some = same p (eqb-false p 0 some) (among_times p (all_pointers s depth ps) among)

  contents-same : (hole : List ℕ) (depth : ℕ) (ps : List ℕ) → SameAmong s r (all_pointers s depth ps) → contents r depth ps hole ≡ contents s depth ps hole
  contents-same hole depth ps same =
      let agree = agreed depth ps same in
      ap (map (named_or hole r)) (pointers-same s r depth ps agree) ∙ map-same hole (pointers_at s depth ps) (of_level s r depth ps agree)

contents-append : (hole : List ℕ) (s : Store) (depth : ℕ) (ps qs : List ℕ) → contents s depth (ps ++ qs) hole ≡ contents s depth ps hole ++ contents s depth qs hole
contents-append hole s depth ps qs = ap (map (named_or hole s)) (pointers_at-append s depth ps qs) ∙ map-append (named_or hole s) (pointers_at s depth ps) (pointers_at s depth qs)

contents-down : (s : Store) (depth p : ℕ) → contents s (suc depth) (p ∷ []) ≡ contents s depth (below s p)
contents-down s depth p = let below_them : List ℕ → DataBlocks = (λ ps hole. map (named_or hole s) ps) in ap below_them (pointers-down s depth p)

pub length-contents : (hole : List ℕ) (s : Store) (depth : ℕ) (ps : List ℕ) → length (contents s depth ps hole) ≡ length ps * 1024 ^ depth
length-contents hole s depth ps = length-map (pointers_at s depth ps) (named_or hole s) ∙ length-pointers_at s depth ps

numbers_of-append : (a b : List NewBlock) → numbers_of (a ++ b) ≡ numbers_of a ++ numbers_of b
numbers_of-append a b = map-append (λ (block : NewBlock). block.number) a b

-- ---- pointers that stay

module _ (s : Store) (depth base keep : ℕ) (ds : List DirtyBlock) where
  pub plan_stays : (ps : List ℕ) → ((hole : List ℕ) → blocks_wanted hole keep ds base (contents s depth ps hole) ≡ contents s depth ps hole) → ((r : Store) (end : ℕ) → keep ≤ end → EndsBefore r depth base end ps) → Plans s depth base keep ds ps ps [] []
  plan_stays ps stay past = record {
    content = λ hole r same held. contents-same s r hole depth ps same ∙ sym (stay hole);
    reach = λ r same held block some. ap (λ (xs : List ℕ). times block xs + times block []) (all_pointers-same s r depth ps (agreed s r depth ps same));
    ends = λ r same held end low none. past r end low;
  }

  pub plan_kept : (ps : List ℕ) (end : ℕ) → end ≡ base + length ps * 1024 ^ depth → IsFrom end ds → end ≤ keep → Plans s depth base keep ds ps ps [] []
  plan_kept ps end is rise within =
      let there : (hole : List ℕ) → end ≡ base + length (contents s depth ps hole) = (λ hole. is ∙ ap (λ n. base + n) (sym (length-contents hole s depth ps))) in
      plan_stays ps (λ hole. blocks_wanted-kept hole keep base ds (contents s depth ps hole) (subst (λ (n : ℕ). IsFrom n ds) (there hole) rise) (subst (λ (n : ℕ). n ≤ keep) (there hole) within))
      (λ r bound low. ends_kept r depth base bound ps (omega (arith, is, within, low)))

  pub plan_holes : (ps : List ℕ) (end : ℕ) → end ≡ base + length ps * 1024 ^ depth → IsFrom end ds → AreHoles ps → Plans s depth base keep ds ps ps [] []
  plan_holes ps end is rise holes =
      let there : (hole : List ℕ) → end ≡ base + length (contents s depth ps hole) = (λ hole. is ∙ ap (λ n. base + n) (sym (length-contents hole s depth ps))) in
      plan_stays ps (λ hole. blocks_wanted-holes hole keep base ds (contents s depth ps hole) (subst (λ (n : ℕ). IsFrom n ds) (there hole) rise) (contents-holes hole s depth ps holes))
      (λ r bound low. ends_holes r depth base bound ps holes)

-- ---- lists that are joined

module _ (s : Store) (depth base keep : ℕ) (ds : List DirtyBlock) where
  pub plans_joined : (was was1 was2 : List ℕ) (had had1 had2 : DataBlocks) (news more : List ℕ) (a b : List NewBlock) (x y : List ℕ) (later : List DirtyBlock) (next : ℕ)
      → ((block : ℕ) → times block was ≡ times block was1 + times block was2) → ((hole : List ℕ) → had hole ≡ had1 hole ++ had2 hole) → ((hole : List ℕ) → next ≡ base + length (had1 hole))
      → ((hole : List ℕ) (olds : List (List ℕ)) → blocks_wanted hole keep later next olds ≡ blocks_wanted hole keep ds next olds) → ((end : ℕ) → after end ds ≡ [] → after end later ≡ [])
      → PlansTo s was1 had1 depth base keep ds news a x → PlansTo s was2 had2 depth next keep later more b y → PlansTo s was had depth base keep ds (news ++ more) (a ++ b) (x ++ y)
  plans_joined was was1 was2 had had1 had2 news more a b x y later next count parts is same_after used front back = record {
    content = λ hole r same held.
        let left = front.content hole r (λ block some there. same block some (omega (arith, there, count block))) (All-front (λ (block : NewBlock). r block.number ≡ block.bytes.value) a b held) in
        let right = back.content hole r (λ block some there. same block some (omega (arith, there, count block))) (All-back (λ (block : NewBlock). r block.number ≡ block.bytes.value) a b held) in
        contents-append hole r depth news more
        ∙ ap (λ (z : List (List ℕ)). z ++ contents r depth more hole) left
        ∙ ap (λ (z : List (List ℕ)). blocks_wanted hole keep ds base (had1 hole) ++ z) (right ∙ same_after hole (had2 hole) ∙ ap (λ (n : ℕ). blocks_wanted hole keep ds n (had2 hole)) (is hole))
        ∙ sym (ap (blocks_wanted hole keep ds base) (parts hole) ∙ blocks_wanted-append hole keep base ds (had1 hole) (had2 hole));
    reach = λ r same held block some.
        let left = front.reach r (λ other some there. same other some (omega (arith, there, count other))) (All-front (λ (block : NewBlock). r block.number ≡ block.bytes.value) a b held) block some in
        let right = back.reach r (λ other some there. same other some (omega (arith, there, count other))) (All-back (λ (block : NewBlock). r block.number ≡ block.bytes.value) a b held) block some in
        let news_are = times-all_append r block depth news more in
        let gone = times-append block x y in
        let numbers = ap (times block) (numbers_of-append a b) ∙ times-append block (numbers_of a) (numbers_of b) in
        omega (arith, left, right, news_are, count block, gone, numbers);
    ends = λ r same held end low none.
        let of_front = All-front (λ (block : NewBlock). r block.number ≡ block.bytes.value) a b held in
        let of_back = All-back (λ (block : NewBlock). r block.number ≡ block.bytes.value) a b held in
        let among : SameAmong s r was1 = (λ block some there. same block some (omega (arith, there, count block))) in
        let behind : SameAmong s r was2 = (λ block some there. same block some (omega (arith, there, count block))) in
        let long : length (had1 []) ≡ length news * 1024 ^ depth = sym (length-blocks_wanted [] keep base ds (had1 [])) ∙ ap (λ (xs : List (List ℕ)). length xs) (sym (front.content [] r among of_front)) ∙ length-contents [] r depth news in
        ends_joined r depth base next end news more (is [] ∙ ap (λ n. base + n) long) (front.ends r among of_front end low none) (back.ends r behind of_back end low (used end none));
  }

  pub plan_joined : (ps qs news more : List ℕ) (a b : List NewBlock) (x y : List ℕ) (later : List DirtyBlock) (next : ℕ) → next ≡ base + length ps * 1024 ^ depth
      → ((hole : List ℕ) (olds : List (List ℕ)) → blocks_wanted hole keep later next olds ≡ blocks_wanted hole keep ds next olds) → ((end : ℕ) → after end ds ≡ [] → after end later ≡ [])
      → Plans s depth base keep ds ps news a x → Plans s depth next keep later qs more b y → Plans s depth base keep ds (ps ++ qs) (news ++ more) (a ++ b) (x ++ y)
  plan_joined ps qs news more a b x y later next is same_after used front back =
      plans_joined (all_pointers s depth (ps ++ qs)) (all_pointers s depth ps) (all_pointers s depth qs) (contents s depth (ps ++ qs)) (contents s depth ps) (contents s depth qs) news more a b x y later next
      (λ block. times-all_append s block depth ps qs) (λ hole. contents-append hole s depth ps qs) (λ hole. is ∙ ap (λ n. base + n) (sym (length-contents hole s depth ps))) same_after used front back

-- ---- one data block

module _ (s : Store) (base keep : ℕ) (ds : List DirtyBlock) (p : ℕ) where
  plan_leaf : (n : ℕ) (added : List NewBlock) → ((hole : List ℕ) (r : Store) → Holds r added → named_or hole r n ≡ block_wanted hole keep ds base (named_or hole s p))
      → ((block : ℕ) → block ≢ 0 → times block (n ∷ []) ≡ times block (numbers_of added)) → ((end : ℕ) → after end ds ≡ [] → end ≤ base → n ≡ 0)
      → Plans s 0 base keep ds (p ∷ []) (n ∷ []) added (block_reach p)
  unfolding pointers_at all_pointers blocks_wanted
  plan_leaf n added bytes numbers top = record {
    content = λ hole r same held. ap (λ (x : List ℕ). x ∷ []) (bytes hole r held);
    reach = λ r same held block some. omega (arith, numbers block some, times-block_reach block p some);
    ends = λ r same held end low none. ends_leaf r base end n (top end none);
  }

  pub plan_written : (block : NewBlock) → block.number ≢ 0 → ((hole : List ℕ) → block.bytes.value ≡ block_wanted hole keep ds base (named_or hole s p)) → ((end : ℕ) → after end ds ≡ [] → base < end)
      → Plans s 0 base keep ds (p ∷ []) (block.number ∷ []) (block ∷ []) (block_reach p)
  plan_written block some bytes used = plan_leaf block.number (block ∷ [])
      (λ hole r held. named-there hole r block.number some ∙ All-head (λ (block : NewBlock). r block.number ≡ block.bytes.value) block [] held ∙ bytes hole)
      (λ other _. refl)
      (λ end none past. absurd (omega (arith, past, used end none)))

  pub plan_cut : keep ≤ base → IsFrom (base + 1) ds → Plans s 0 base keep ds (p ∷ []) (0 ∷ []) [] (block_reach p)
  plan_cut cut rise = plan_leaf 0 []
      (λ hole r held. named-hole hole r 0 refl ∙ sym (block_wanted-cut hole keep base ds (named_or hole s p) rise cut))
      (λ other some. times-other other 0 (λ same. some (sym same)))
      (λ end none past. refl)

-- ---- one level more

pub below-none : (r : Store) → below r 0 ≡ replicate 1024 0
unfolding below
below-none r = refl

module _ (s : Store) (was : List ℕ) (had : DataBlocks) (depth base keep : ℕ) (ds : List DirtyBlock) (news : List ℕ) (a : List NewBlock) (x : List ℕ) (plan : PlansTo s was had depth base keep ds news a x) where
  module _ (all gone : List ℕ) (count : (block : ℕ) → block ≢ 0 → times block all ≡ times block was + times block gone) where
    plans_up : (n : ℕ) (added : List NewBlock) → ((r : Store) → Holds r added → Holds r a) → ((r : Store) → Holds r added → below r n ≡ news)
        → ((block : ℕ) → block ≢ 0 → times block (numbers_of added) ≡ times block (numbers_of a) + times block (n ∷ []))
        → ((r : Store) → SameAmong s r all → Holds r added → (end : ℕ) → keep ≤ end → after end ds ≡ [] → end ≤ base → n ≡ 0)
        → PlansTo s all had (suc depth) base keep ds (n ∷ []) added (x ++ gone)
    plans_up n added front is numbers top = record {
      content = λ hole r same held.
          ap (λ (blocks : DataBlocks). blocks hole) (contents-down r depth n)
          ∙ ap (λ (ps : List ℕ). contents r depth ps hole) (is r held)
          ∙ plan.content hole r (λ block some there. same block some (omega (arith, there, count block some))) (front r held);
      reach = λ r same held block some.
          let lower = plan.reach r (λ other some there. same other some (omega (arith, there, count other some))) (front r held) block some in
          let new = times-down r block depth n ∙ ap (λ (ps : List ℕ). times block (n ∷ []) + times block (all_pointers r depth ps)) (is r held) in
          let left = times-append block x gone in
          omega (arith, lower, new, count block some, left, numbers block some);
      ends = λ r same held end low none.
          ends_up r depth base end n news (is r held) (top r same held end low none)
          (plan.ends r (λ block some there. same block some (omega (arith, there, count block some))) (front r held) end low none);
    }

    pub plans_put : (block : NewBlock) → block.number ≢ 0 → ¬ AreHoles news → ((r : Store) → r block.number ≡ block.bytes.value → below r block.number ≡ news)
        → PlansTo s all had (suc depth) base keep ds (block.number ∷ []) (a ++ block ∷ []) (x ++ gone)
    plans_put block some filled is = plans_up block.number (a ++ block ∷ [])
        (λ r held. All-front (λ (block : NewBlock). r block.number ≡ block.bytes.value) a (block ∷ []) held)
        (λ r held. is r (All-head (λ (block : NewBlock). r block.number ≡ block.bytes.value) block [] (All-back (λ (block : NewBlock). r block.number ≡ block.bytes.value) a (block ∷ []) held)))
        (λ other _. ap (times other) (numbers_of-append a (block ∷ [])) ∙ times-append other (numbers_of a) (block.number ∷ []))
        (λ r same held end low none past. absurd (filled (ends_all r depth base end news past
        (plan.ends r (λ other some there. same other some (omega (arith, there, count other some))) (All-front (λ (block : NewBlock). r block.number ≡ block.bytes.value) a (block ∷ []) held) end low none))))

    pub plans_dropped : news ≡ replicate 1024 0 → PlansTo s all had (suc depth) base keep ds (0 ∷ []) a (x ++ gone)
    plans_dropped none = plans_up 0 a (λ r held. held) (λ r held. below-none r ∙ sym none)
        (λ block some. omega (arith, times-other block 0 (λ same. some (sym same))))
        (λ r same held end low left past. refl)

module _ (s : Store) (depth base keep : ℕ) (ds : List DirtyBlock) (p : ℕ) (news : List ℕ) (a : List NewBlock) (x : List ℕ) (plan : Plans s depth base keep ds (below s p) news a x) where
  counted : (block : ℕ) → block ≢ 0 → times block (all_pointers s (suc depth) (p ∷ [])) ≡ times block (all_pointers s depth (below s p)) + times block (block_reach p)
  counted block some = omega (arith, times-down s block depth p, times-block_reach block p some)

  to_upper : (new : List ℕ) (added : List NewBlock) (y : List ℕ) → PlansTo s (all_pointers s (suc depth) (p ∷ [])) (contents s depth (below s p)) (suc depth) base keep ds new added y → Plans s (suc depth) base keep ds (p ∷ []) new added y
  to_upper new added y plans = subst (λ (had : DataBlocks). PlansTo s (all_pointers s (suc depth) (p ∷ [])) had (suc depth) base keep ds new added y) (sym (contents-down s depth p)) plans

  pub plan_put : (block : NewBlock) → block.number ≢ 0 → ¬ AreHoles news → ((r : Store) → r block.number ≡ block.bytes.value → below r block.number ≡ news)
      → Plans s (suc depth) base keep ds (p ∷ []) (block.number ∷ []) (a ++ block ∷ []) (x ++ block_reach p)
  plan_put block some filled is = to_upper (block.number ∷ []) (a ++ block ∷ []) (x ++ block_reach p)
      (plans_put s (all_pointers s depth (below s p)) (contents s depth (below s p)) depth base keep ds news a x plan (all_pointers s (suc depth) (p ∷ [])) (block_reach p) counted block some filled is)

  pub plan_dropped : news ≡ replicate 1024 0 → Plans s (suc depth) base keep ds (p ∷ []) (0 ∷ []) a (x ++ block_reach p)
  plan_dropped none = to_upper (0 ∷ []) a (x ++ block_reach p)
      (plans_dropped s (all_pointers s depth (below s p)) (contents s depth (below s p)) depth base keep ds news a x plan (all_pointers s (suc depth) (p ∷ [])) (block_reach p) counted none)

-- ---- an indirect block below which nothing changes

below-agree : (s r : Store) (p : ℕ) → (p ≢ 0 → r p ≡ s p) → below r p ≡ below s p
unfolding below
below-agree s r p agree = either (p == 0) refl
  where
    either : (b : Bool) → (p == 0) ≡ b → (if b then replicate 1024 0 else numbers_in 1024 (r p)) ≡ (if b then replicate 1024 0 else numbers_in 1024 (s p))
    either true is = refl
    either false is = ap (numbers_in 1024) (agree (eqb-false p 0 is))

module _ (s : Store) (depth base keep : ℕ) (ds : List DirtyBlock) (p : ℕ) where
  same_below : (r : Store) → SameAmong s r (all_pointers s (suc depth) (p ∷ [])) → below r p ≡ below s p
  same_below r same = below-agree s r p (λ some. same p some (omega (arith, times-down s p depth p, times-same p)))

  pub plan_unchanged : base < keep → Plans s depth base keep ds (below s p) (below s p) [] [] → Plans s (suc depth) base keep ds (p ∷ []) (p ∷ []) [] []
  plan_unchanged low plan = record {
    content = λ hole r same held.
        ap (λ (blocks : DataBlocks). blocks hole) (contents-down r depth p)
        ∙ ap (λ (ps : List ℕ). contents r depth ps hole) (same_below r same)
        ∙ plan.content hole r (fewer r same) held
        ∙ ap (λ (blocks : DataBlocks). blocks_wanted hole keep ds base (blocks hole)) (sym (contents-down s depth p));
    reach = λ r same held block some.
        let lower = plan.reach r (fewer r same) held block some in
        let new = times-down r block depth p ∙ ap (λ (ps : List ℕ). times block (p ∷ []) + times block (all_pointers r depth ps)) (same_below r same) in
        omega (arith, lower, new, times-down s block depth p);
    ends = λ r same held end high none. ends_up r depth base end p (below s p) (same_below r same) (λ past. absurd (omega (arith, low, high, past))) (plan.ends r (fewer r same) held end high none);
  }
    where
      fewer : (r : Store) → SameAmong s r (all_pointers s (suc depth) (p ∷ [])) → SameAmong s r (all_pointers s depth (below s p))
      fewer r same block some there = same block some (omega (arith, there, times-down s block depth p))

-- ---- no pointers

none_wanted : (hole : List ℕ) (keep base : ℕ) (ds : List DirtyBlock) → blocks_wanted hole keep ds base [] ≡ []
unfolding blocks_wanted
none_wanted hole keep base ds = refl

pub plan_nothing : (s : Store) (depth base keep : ℕ) (ds : List DirtyBlock) → Plans s depth base keep ds [] [] [] []
plan_nothing s depth base keep ds = plan_stays s depth base keep ds [] (λ hole. none hole (contents s depth [] hole) (length-contents hole s depth [])) (λ r bound low. ends_holes r depth base bound [] tt)
  where
    none : (hole : List ℕ) (xs : List (List ℕ)) → length xs ≡ 0 * 1024 ^ depth → blocks_wanted hole keep ds base xs ≡ xs
    none hole [] e = none_wanted hole keep base ds
    none hole (x ∷ xs) e = absurd (omega (arith, e))
