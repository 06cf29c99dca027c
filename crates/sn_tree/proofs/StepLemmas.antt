-- Steps of a plan: of one pointer, of pointers one after the other, of one level more.
use Rattle.std.proofs.Common.{◌≡◌, ◌≢◌, ◌⊎◌, inl, inr, ⊎_elim, ℕ, suc, ◌+◌, ◌-◌, ◌*◌, ◌<◌, ◌≤◌, List, [], ◌∷◌, ◌++◌, length, replicate, refl, sym, ap, subst, ◌∙◌, arith, append_assoc}
use Rattle.std.specs.Prelude.{◌^◌, Result, Ok, Err, IfOk, Option, Some, None, IfSome, IfNone, IsNone, IsSome}
use Rattle.std.proofs.lemmas.Bool.{cases_lt}
use Rattle.std.proofs.lemmas.List.{append-nil, length-append, nil_from_length}
use Rattle.sn_alloc.specs.Taking.{free_data}
use Rattle.sn_image.specs.Reach.{block_reach}
use Rattle.sn_layout_node.specs.Indirect.{ArePointers, pointers_bytes}
use Rattle.sn_ondisk.specs.Trees.{Store, below, all_pointers}
use Rattle.sn_tree_read.proofs.PointerLemmas.{below_read}
use Rattle.sn_tree.specs.Drafts.{Draft, grown, IsFresh}
use Rattle.sn_tree.specs.Dirty.{IsFrom, after, block_wanted, blocks_wanted}
use Rattle.sn_tree.specs.Plans.{DataBlocks, named_or, contents, PlansTo, Plans, straddles, most_added}
use Rattle.sn_tree.specs.Steps.{AreHoles, Planned, IsPut, IsReplaced}
use Rattle.sn_tree.specs.declared.fault.PlanFault.{PlanFault}
use Rattle.sn_tree.specs.declared.new_block.NewBlock.{NewBlock}
use Rattle.sn_tree.specs.declared.new_block.DirtyBlock.{DirtyBlock}
use Rattle.sn_tree.proofs.DirtyLemmas.{IsFrom-weaker, after-none, after-first, after-after, after-empty, first_before, length-after, AreHoles-append, blocks_wanted-after, block_wanted-dirty, most_added-joined, most_added-up, most_added-one, straddled}
use Rattle.sn_tree.proofs.PlanLemmas.{plan_kept, plan_holes, plan_joined, plan_written, plan_cut, plan_put, plan_dropped, plan_unchanged, plan_nothing}

pub grown-grown : (draft : Draft) (a b : List NewBlock) (x y : List ℕ) → grown (grown draft a x) b y ≡ grown draft (a ++ b) (x ++ y)
grown-grown draft a b x y =
    ap (λ (added : List NewBlock). record draft { added = added; released = (draft.released ++ x) ++ y }) (append_assoc draft.added a b)
    ∙ ap (λ (released : List ℕ). record draft { added = draft.added ++ (a ++ b); released = released }) (append_assoc draft.released x y)

pub grown-none : (draft : Draft) → draft ≡ grown draft [] []
grown-none draft = sym (ap (λ (added : List NewBlock). record draft { added = added; released = draft.released ++ [] }) (append-nil draft.added)
    ∙ ap (λ (released : List ℕ). record draft { released = released }) (append-nil draft.released))

-- a block of pointers that was put
pub put_replaced : (result : Result ℕ PlanFault) (old mid new : Draft) (p : ℕ) (ps : List ℕ) (block : ℕ → NewBlock) → ((n : ℕ) → (block n).number ≡ n) → ((n : ℕ) → (block n).bytes.value ≡ pointers_bytes ps) → ArePointers ps → ¬ AreHoles ps
    → mid ≡ grown old [] (block_reach p) → IfOk result (IsFresh mid) → IfOk result (λ n. new ≡ grown mid (block n ∷ []) []) → IfOk result (IsReplaced old new p ps)
put_replaced (Err fault) old mid new p ps block number bytes are filled released fresh put = tt
put_replaced (Ok n) old mid new p ps block number bytes are filled released fresh put = (
  are,
  inr (
    filled,
    record {
      block = block n;
      number_is = number n;
      some = λ none. fresh.some (sym (number n) ∙ none);
      bytes_are = bytes n;
      grew = put ∙ ap (λ (draft : Draft). grown draft (block n ∷ []) []) released ∙ grown-grown old [] (block n ∷ []) (block_reach p) [] ∙ ap (grown old (block n ∷ [])) (append-nil (block_reach p));
    },
  ),
)

module _ (Told : Type 0) (s : Store) (keep : ℕ) where
  -- nothing to plan
  pub planned_none : (depth base : ℕ) (ds : List DirtyBlock) (draft : Draft) → IsFrom base ds → Planned Told s (all_pointers s depth []) (contents s depth []) depth base base keep ds ds [] draft draft
  planned_none depth base ds draft rise = record {
    added = [];
    released = [];
    grew = grown-none draft;
    few = omega arith;
    rest = sym (after-none base ds rise);
    cut = λ _ _. tt;
    plans = λ _. plan_nothing s depth base keep ds;
  }

  -- a pointer that stays
  pub planned_stays : (depth base end p : ℕ) (ds : List DirtyBlock) (draft : Draft) → end ≡ base + 1024 ^ depth → base < end → IsFrom end ds → (end ≤ keep) ⊎ (p ≡ 0)
      → Planned Told s (all_pointers s depth (p ∷ [])) (contents s depth (p ∷ [])) depth base end keep ds ds (p ∷ []) draft draft
  planned_stays depth base end p ds draft is some rise why = record {
    added = [];
    released = [];
    grew = grown-none draft;
    few = omega arith;
    rest = sym (after-none end ds rise);
    cut = λ low _. ⊎_elim (λ (within : end ≤ keep). absurd (omega (arith, low, within, some))) (λ (hole : p ≡ 0). (hole, tt)) why;
    plans = λ _. ⊎_elim
        (λ (within : end ≤ keep). plan_kept s depth base keep ds (p ∷ []) end one rise within)
        (λ (hole : p ≡ 0). plan_holes s depth base keep ds (p ∷ []) end one rise (hole, tt))
        why;
  }
    where
      one : end ≡ base + 1 * 1024 ^ depth
      one = is ∙ omega arith

  -- a data block that is cut off
  pub planned_cut : (base end p : ℕ) (ds : List DirtyBlock) (old new : Draft) → end ≡ base + 1 → IsFrom end ds → keep < end → new ≡ grown old [] (block_reach p)
      → Planned Told s (all_pointers s 0 (p ∷ [])) (contents s 0 (p ∷ [])) 0 base end keep ds ds (0 ∷ []) old new
  planned_cut base end p ds old new is rise cut grew = record {
    added = [];
    released = block_reach p;
    grew = grew;
    few = omega arith;
    rest = sym (after-none end ds rise);
    cut = λ _ _. (refl, tt);
    plans = λ _. plan_cut s base keep ds p (omega (arith, is, cut)) (subst (λ (n : ℕ). IsFrom n ds) is rise);
  }

  -- a data block that is written
  pub planned_written : (base end p : ℕ) (d : DirtyBlock) (ds : List DirtyBlock) (block : NewBlock) (old new : Draft) → end ≡ base + 1 → IsFrom base (d ∷ ds) → d.index < end
      → block.number ≢ 0 → block.bytes.value ≡ d.bytes.value → new ≡ grown old (block ∷ []) (block_reach p)
      → Planned Told s (all_pointers s 0 (p ∷ [])) (contents s 0 (p ∷ [])) 0 base end keep (d ∷ ds) ds (block.number ∷ []) old new
  planned_written base end p d ds block old new is rise low some bytes grew =
      let here : d.index ≡ base = omega (arith, rise.0, low, is) in
      let left : after end (d ∷ ds) ≡ ds = after-first end d ds low ∙ after-none end ds (IsFrom-weaker (d.index + 1) end ds (omega (arith, here, is)) rise.1) in
      let count : length (after end (d ∷ ds)) ≡ length ds = ap (λ (l : List DirtyBlock). length l) left in
      record {
        added = block ∷ [];
        released = block_reach p;
        grew = grew;
        few = omega (arith, count);
        rest = sym left;
        cut = λ _ same. absurd (omega (arith, same, count));
        plans = λ _. plan_written s base keep (d ∷ ds) p block some (λ hole. bytes ∙ sym (block_wanted-dirty hole keep d ds (named_or hole s p)) ∙ ap (λ (i : ℕ). block_wanted hole keep (d ∷ ds) i (named_or hole s p)) here)
            (λ bound none. omega (arith, first_before bound d ds none, here));
      }

  -- pointers one after the other
  pub planned_joined : (depth base next end : ℕ) (ps qs news more : List ℕ) (ds mid left : List DirtyBlock) (old between new : Draft)
      → next ≡ base + length ps * 1024 ^ depth → next ≤ end
      → Planned Told s (all_pointers s depth ps) (contents s depth ps) depth base next keep ds mid news old between
      → Planned Told s (all_pointers s depth qs) (contents s depth qs) depth next end keep mid left more between new
      → Planned Told s (all_pointers s depth (ps ++ qs)) (contents s depth (ps ++ qs)) depth base end keep ds left (news ++ more) old new
  planned_joined depth base next end ps qs news more ds mid left old between new is within front back =
      let behind : after end mid ≡ after end ds = ap (after end) front.rest ∙ after-after next end ds within in
      let mid_length : length mid ≡ length (after next ds) = ap (λ (l : List DirtyBlock). length l) front.rest in
      let end_length : length (after end mid) ≡ length (after end ds) = ap (λ (l : List DirtyBlock). length l) behind in
      let low : base ≤ next = omega (arith, is) in
      let second : length back.added ≤ most_added depth next end keep (after next ds) = subst (λ (l : List DirtyBlock). length back.added ≤ most_added depth next end keep l) front.rest back.few in
      record {
        added = front.added ++ back.added;
        released = front.released ++ back.released;
        grew = back.grew ∙ ap (λ (draft : Draft). grown draft back.added back.released) front.grew ∙ grown-grown old front.added back.added front.released back.released;
        few = omega (arith, length-append front.added back.added, front.few, second, most_added-joined depth base next end keep ds low within);
        rest = back.rest ∙ behind;
        cut = λ cut same. AreHoles-append news more
            (front.cut cut (omega (arith, same, length-after next ds, length-after end mid, mid_length, end_length)))
            (back.cut (omega (arith, cut, low)) (omega (arith, same, length-after next ds, length-after end mid, mid_length, end_length)));
        plans = λ told. plan_joined s depth base keep ds ps qs news more front.added back.added front.released back.released mid next is
            (λ hole olds. ap (λ (l : List DirtyBlock). blocks_wanted hole keep l next olds) front.rest ∙ blocks_wanted-after hole keep next next ds olds (omega arith))
            (λ bound none. ap (after bound) front.rest ∙ after-empty next bound ds none)
            (front.plans told) (back.plans told);
      }

  -- the pointers of an indirect block, all of them holes
  pub planned_dropped : (depth base end p : ℕ) (ds left : List DirtyBlock) (news : List ℕ) (old between new : Draft) → news ≡ replicate 1024 0
      → Planned Told s (all_pointers s depth (below s p)) (contents s depth (below s p)) depth base end keep ds left news old between
      → new ≡ grown between [] (block_reach p)
      → Planned Told s (all_pointers s (suc depth) (p ∷ [])) (contents s (suc depth) (p ∷ [])) (suc depth) base end keep ds left (0 ∷ []) old new
  planned_dropped depth base end p ds left news old between new none step grew = record {
    added = step.added;
    released = step.released ++ block_reach p;
    grew = grew ∙ ap (λ (draft : Draft). grown draft [] (block_reach p)) step.grew ∙ grown-grown old step.added [] step.released (block_reach p) ∙ ap (λ (added : List NewBlock). grown old added (step.released ++ block_reach p)) (append-nil step.added);
    few = omega (arith, step.few, most_added-up depth base end keep ds);
    rest = step.rest;
    cut = λ _ _. (refl, tt);
    plans = λ told. plan_dropped s depth base keep ds p news step.added step.released (step.plans told) none;
  }

  -- why an indirect block is written: a dirty block is below it, or the end of what stays
  pub a_path : (depth base end : ℕ) (ds : List DirtyBlock) (news : List ℕ) → (keep ≤ base → length (after end ds) ≡ length ds → AreHoles news) → ¬ AreHoles news
      → (length (after end ds) ≡ length ds → keep < end) → most_added depth base end keep ds + 1 ≤ most_added (suc depth) base end keep ds
  a_path depth base end ds news cut filled touched = most_added-one depth base end keep ds (reached (cases_lt (length (after end ds)) (length ds)) (cases_lt base keep))
    where
      reached : (length (after end ds) < length ds) ⊎ (length ds ≤ length (after end ds)) → (base < keep) ⊎ (keep ≤ base) → 1 ≤ (length ds - length (after end ds)) + straddles base end keep
      reached (inl used) low = omega (arith, used)
      reached (inr none) (inl low) =
          let same : length (after end ds) ≡ length ds = omega (arith, none, length-after end ds) in
          omega (arith, straddled base end keep low (touched same))
      reached (inr none) (inr past) =
          let same : length (after end ds) ≡ length ds = omega (arith, none, length-after end ds) in
          absurd (filled (cut past same))

  -- the pointers of an indirect block that is written
  pub planned_put : (depth base end p : ℕ) (ds left : List DirtyBlock) (news : List ℕ) (block : NewBlock) (old between new : Draft) → ¬ AreHoles news
      → (length (after end ds) ≡ length ds → keep < end)
      → Planned Told s (all_pointers s depth (below s p)) (contents s depth (below s p)) depth base end keep ds left news old between
      → block.number ≢ 0 → ((r : Store) → r block.number ≡ block.bytes.value → below r block.number ≡ news)
      → new ≡ grown between (block ∷ []) (block_reach p)
      → Planned Told s (all_pointers s (suc depth) (p ∷ [])) (contents s (suc depth) (p ∷ [])) (suc depth) base end keep ds left (block.number ∷ []) old new
  planned_put depth base end p ds left news block old between new filled touched step some is grew = record {
    added = step.added ++ block ∷ [];
    released = step.released ++ block_reach p;
    grew = grew ∙ ap (λ (draft : Draft). grown draft (block ∷ []) (block_reach p)) step.grew ∙ grown-grown old step.added (block ∷ []) step.released (block_reach p);
    few = omega (arith, length-append step.added (block ∷ []), step.few, a_path depth base end ds news step.cut filled touched);
    rest = step.rest;
    cut = λ low same. absurd (filled (step.cut low same));
    plans = λ told. plan_put s depth base keep ds p news step.added step.released (step.plans told) block some filled is;
  }

-- ---- what the calls of one step result in

pub holes-list : (ps : List ℕ) → AreHoles ps → ps ≡ replicate (length ps) 0
holes-list [] holes = refl
holes-list (p ∷ ps) holes = ap (λ (q : ℕ). q ∷ ps) holes.0 ∙ ap (λ (qs : List ℕ). 0 ∷ qs) (holes-list ps holes.1)

module _ (Told : Type 0) (s : Store) (keep : ℕ) (base end p : ℕ) (ds left : List DirtyBlock) (old new : Draft) where
  -- a data block, which was dirty or is cut off
  pub planned_leaf : (result : Result ℕ PlanFault) (dirty : Option DirtyBlock) → end ≡ base + 1 → IsFrom base ds
      → IfSome dirty (λ (d : DirtyBlock). (ds ≡ d ∷ left) × (d.index < end)) → IfNone dirty (left ≡ ds) → IfNone dirty ((least : ℕ) → IsFrom least ds → IsFrom end ds)
      → (length (after end ds) ≡ length ds → keep < end)
      → (IsNone dirty → IfOk result (λ n. (n ≡ 0) × (new ≡ grown old [] (block_reach p)))) → IfSome dirty (λ (d : DirtyBlock). IfOk result (λ n. IsPut old new p n d.bytes.value))
      → IfOk result (λ n. Planned Told s (all_pointers s 0 (p ∷ [])) (contents s 0 (p ∷ [])) 0 base end keep ds left (n ∷ []) old new)
  planned_leaf (Err fault) dirty is rise there same clean touched cut put = tt
  planned_leaf (Ok n) None is rise there same clean touched cut put =
      let from_end : IsFrom end ds = clean base rise in
      let low : keep < end = touched (ap (λ (l : List DirtyBlock). length l) (after-none end ds from_end)) in
      let w = cut refl in
      subst (λ (m : ℕ). Planned Told s (all_pointers s 0 (p ∷ [])) (contents s 0 (p ∷ [])) 0 base end keep ds left (m ∷ []) old new) (sym w.0)
      (subst (λ (l : List DirtyBlock). Planned Told s (all_pointers s 0 (p ∷ [])) (contents s 0 (p ∷ [])) 0 base end keep ds l (0 ∷ []) old new) (sym same)
      (planned_cut Told s keep base end p ds old new is from_end low w.1))
  planned_leaf (Ok n) (Some d) is rise there same clean touched cut put =
      let rises : IsFrom base (d ∷ left) = subst (IsFrom base) there.0 rise in
      subst (λ (m : ℕ). Planned Told s (all_pointers s 0 (p ∷ [])) (contents s 0 (p ∷ [])) 0 base end keep ds left (m ∷ []) old new) put.number_is
      (subst (λ (l : List DirtyBlock). Planned Told s (all_pointers s 0 (p ∷ [])) (contents s 0 (p ∷ [])) 0 base end keep l left (put.block.number ∷ []) old new) (sym there.0)
      (planned_written Told s keep base end p d left put.block old new is rises there.1 put.some put.bytes_are put.grew))

  -- an indirect block, whose pointers were planned
  pub planned_above : (depth : ℕ) (result : Result ℕ PlanFault) (news : List ℕ) (between : Draft) → (length (after end ds) ≡ length ds → keep < end)
      → Planned Told s (all_pointers s depth (below s p)) (contents s depth (below s p)) depth base end keep ds left news old between
      → IfOk result (IsReplaced between new p news)
      → IfOk result (λ n. Planned Told s (all_pointers s (suc depth) (p ∷ [])) (contents s (suc depth) (p ∷ [])) (suc depth) base end keep ds left (n ∷ []) old new)
  planned_above depth (Err fault) news between touched step replaced = tt
  planned_above depth (Ok n) news between touched step (are, inl dropped) =
      let none : news ≡ replicate 1024 0 = holes-list news dropped.0 ∙ ap (λ k. replicate k 0) are.count in
      subst (λ (m : ℕ). Planned Told s (all_pointers s (suc depth) (p ∷ [])) (contents s (suc depth) (p ∷ [])) (suc depth) base end keep ds left (m ∷ []) old new) (sym dropped.1)
      (planned_dropped Told s keep depth base end p ds left news old between new none step dropped.2)
  planned_above depth (Ok n) news between touched step (are, inr (filled, put)) =
      subst (λ (m : ℕ). Planned Told s (all_pointers s (suc depth) (p ∷ [])) (contents s (suc depth) (p ∷ [])) (suc depth) base end keep ds left (m ∷ []) old new) put.number_is
      (planned_put Told s keep depth base end p ds left news put.block old between new filled touched step put.some
      (λ r held. below_read r put.block.number news put.some are (held ∙ put.bytes_are)) put.grew)

-- ---- where nothing is added and nothing released

none_grown : (d : Draft) (a : List NewBlock) (x : List ℕ) → length a ≡ 0 → length x ≡ 0 → grown d a x ≡ d
none_grown d a x no_added no_released =
    ap (λ (added : List NewBlock). grown d added x) (nil_from_length a (omega (arith, no_added)))
    ∙ ap (λ (released : List ℕ). grown d [] released) (nil_from_length x (omega (arith, no_released)))
    ∙ sym (grown-none d)

pub added-grown : (d : Draft) (a : List NewBlock) (x : List ℕ) → length (grown d a x).added ≡ length d.added + length a
added-grown d a x = length-append d.added a

pub released-grown : (d : Draft) (a : List NewBlock) (x : List ℕ) → length (grown d a x).released ≡ length d.released + length x
released-grown d a x = length-append d.released x

-- two steps that each change nothing
pub nothing_grown : (old between new : Draft) (a b : List NewBlock) (x y : List ℕ) → between ≡ grown old a x → new ≡ grown between b y → length new.added ≡ length old.added → length new.released ≡ length old.released → (between ≡ old) × (new ≡ between)
nothing_grown old between new a b x y first second added released =
    let added1 = ap (λ (d : Draft). length d.added) first ∙ added-grown old a x in
    let added2 = ap (λ (d : Draft). length d.added) second ∙ added-grown between b y in
    let released1 = ap (λ (d : Draft). length d.released) first ∙ released-grown old a x in
    let released2 = ap (λ (d : Draft). length d.released) second ∙ released-grown between b y in (
      first ∙ none_grown old a x (omega (arith, added, added1, added2)) (omega (arith, released, released1, released2)),
      second ∙ none_grown between b y (omega (arith, added, added1, added2)) (omega (arith, released, released1, released2)),
    )

-- the block of an indirect block below which nothing changes stays
pub planned_unchanged : (Told : Type 0) (s : Store) (keep depth base end p : ℕ) (ds left : List DirtyBlock) (news : List ℕ) (old new : Draft) → base < keep → length new.added ≡ length old.added → length new.released ≡ length old.released
    → (new ≡ old → Told → news ≡ below s p) → Planned Told s (all_pointers s depth (below s p)) (contents s depth (below s p)) depth base end keep ds left news old new
    → Planned Told s (all_pointers s (suc depth) (p ∷ [])) (contents s (suc depth) (p ∷ [])) (suc depth) base end keep ds left (p ∷ []) old new
planned_unchanged Told s keep depth base end p ds left news old new low added released same step =
    let of_added : length step.added ≡ 0 = omega (arith, added, ap (λ (d : Draft). length d.added) step.grew, added-grown old step.added step.released) in
    let of_released : length step.released ≡ 0 = omega (arith, released, ap (λ (d : Draft). length d.released) step.grew, released-grown old step.added step.released) in
    let still : new ≡ old = step.grew ∙ none_grown old step.added step.released of_added of_released in
    record {
      added = [];
      released = [];
      grew = still ∙ grown-none old;
      few = omega arith;
      rest = step.rest;
      cut = λ past _. absurd (omega (arith, low, past));
      plans = λ told. plan_unchanged s depth base keep ds p low
          (subst (λ (ps : List ℕ). Plans s depth base keep ds (below s p) ps [] []) (same still told)
          (subst (λ (x : List ℕ). Plans s depth base keep ds (below s p) news [] x) (nil_from_length step.released (omega (arith, of_released)))
          (subst (λ (a : List NewBlock). Plans s depth base keep ds (below s p) news a step.released) (nil_from_length step.added (omega (arith, of_added))) (step.plans told))));
    }

-- the same over another store, which is no other where the device tells its bytes
pub planned_as : (Told : Type 0) (s r : Store) (was is : List ℕ) (had has : DataBlocks) (depth base end keep : ℕ) (ds left : List DirtyBlock) (new : List ℕ) (old between : Draft)
    → ((added : List NewBlock) (released : List ℕ) → Told → PlansTo s was had depth base keep ds new added released → PlansTo r is has depth base keep ds new added released)
    → Planned Told s was had depth base end keep ds left new old between → Planned Told r is has depth base end keep ds left new old between
planned_as Told s r was is had has depth base end keep ds left new old between change step = record {
  added = step.added;
  released = step.released;
  grew = step.grew;
  few = step.few;
  rest = step.rest;
  cut = step.cut;
  plans = λ told. change step.added step.released told (step.plans told);
}

-- the pointers below one, read from it
pub planned_under : (Told : Type 0) (s r : Store) (keep depth base end finish p : ℕ) (ps news : List ℕ) (ds left : List DirtyBlock) (old between : Draft) → (Told → r ≡ s) → (Told → ps ≡ below s p) → finish ≡ end
    → Planned Told r (all_pointers r depth ps) (contents r depth ps) depth base finish keep ds left news old between
    → Planned Told s (all_pointers s depth (below s p)) (contents s depth (below s p)) depth base end keep ds left news old between
planned_under Told s r keep depth base end finish p ps news ds left old between store pointers ends step =
    subst (λ (n : ℕ). Planned Told s (all_pointers s depth (below s p)) (contents s depth (below s p)) depth base n keep ds left news old between) ends
    (planned_as Told r s (all_pointers r depth ps) (all_pointers s depth (below s p)) (contents r depth ps) (contents s depth (below s p)) depth base finish keep ds left news old between
    (λ added released told plans.
    subst (λ (qs : List ℕ). PlansTo s (all_pointers s depth qs) (contents s depth qs) depth base keep ds news added released) (pointers told)
    (subst (λ (q : Store). PlansTo q (all_pointers q depth ps) (contents q depth ps) depth base keep ds news added released) (store told) plans))
    step)

-- a pointer to an indirect block, whose pointers were read from it, planned, and replaced
pub planned_indirect : (Told : Type 0) (s r : Store) (keep up base end finish p : ℕ) (ps news : List ℕ) (ds left : List DirtyBlock) (old between new : Draft) (result : Result ℕ PlanFault) → up ≢ 0 → (Told → r ≡ s) → (Told → ps ≡ below s p) → finish ≡ end
    → (length (after end ds) ≡ length ds → keep < end)
    → Planned Told r (all_pointers r (up - 1) ps) (contents r (up - 1) ps) (up - 1) base finish keep ds left news old between
    → IfOk result (IsReplaced between new p news)
    → IfOk result (λ n. Planned Told s (all_pointers s up (p ∷ [])) (contents s up (p ∷ [])) up base end keep ds left (n ∷ []) old new)
planned_indirect Told s r keep up base end finish p ps news ds left old between new result some store pointers ends touched step replaced =
    let next : suc (up - 1) ≡ up = omega (arith, some) in
    subst (λ (d : ℕ). IfOk result (λ n. Planned Told s (all_pointers s d (p ∷ [])) (contents s d (p ∷ [])) d base end keep ds left (n ∷ []) old new)) next
    (planned_above Told s keep base end p ds left old new (up - 1) result news between touched (planned_under Told s r keep (up - 1) base end finish p ps news ds left old between store pointers ends step) replaced)

-- the same over a store that the device still tells
pub planned_still : (Told : Type 0) (s r : Store) (keep depth base end : ℕ) (ps news : List ℕ) (ds left : List DirtyBlock) (old between : Draft) → (Told → r ≡ s)
    → Planned Told r (all_pointers r depth ps) (contents r depth ps) depth base end keep ds left news old between
    → Planned Told s (all_pointers s depth ps) (contents s depth ps) depth base end keep ds left news old between
planned_still Told s r keep depth base end ps news ds left old between store step =
    planned_as Told r s (all_pointers r depth ps) (all_pointers s depth ps) (contents r depth ps) (contents s depth ps) depth base end keep ds left news old between
    (λ added released told plans. subst (λ (q : Store). PlansTo q (all_pointers q depth ps) (contents q depth ps) depth base keep ds news added released) (store told) plans)
    step

-- a dirty block takes a block
pub leaf_full : (dirty : Option DirtyBlock) (base end keep : ℕ) (ds left : List DirtyBlock) (free count : ℕ) → IsSome dirty → IfSome dirty (λ (d : DirtyBlock). (ds ≡ d ∷ left) × (d.index < end)) → free ≤ count
    → free < count + most_added 0 base end keep ds
leaf_full None base end keep ds left free count some there none = absurd cc
leaf_full (Some d) base end keep ds left free count some there none =
    let first : after end (d ∷ left) ≡ after end left = after-first end d left there.1 in
    let fewer : length (after end ds) ≤ length left = subst (λ (l : List DirtyBlock). length (after end l) ≤ length left) (sym there.0) (omega (arith, ap (λ (l : List DirtyBlock). length l) first, length-after end left)) in
    let many : length ds ≡ length (d ∷ left) = ap (λ (l : List DirtyBlock). length l) there.0 in
    omega (arith, none, fewer, many)

-- ---- no block is left

module _ (Told : Type 0) (s : Store) (was : List ℕ) (had : DataBlocks) (depth base next keep : ℕ) (ds left : List DirtyBlock) (new : List ℕ) (old between : Draft) (step : Planned Told s was had depth base next keep ds left new old between) where
  free-same : free_data between.words between.first ≡ free_data old.words old.first
  free-same = ap (λ (draft : Draft). free_data draft.words draft.first) step.grew

  added-more : length between.added ≡ length old.added + length step.added
  added-more = ap (λ (draft : Draft). length draft.added) step.grew ∙ length-append old.added step.added

  -- for the indirect block above
  pub too_full_above : ¬ AreHoles new → (length (after next ds) ≡ length ds → keep < next) → free_data between.words between.first ≤ length between.added
      → free_data old.words old.first < length old.added + most_added (suc depth) base next keep ds
  too_full_above filled touched none = omega (arith, none, free-same, added-more, step.few, a_path Told s keep depth base next ds new step.cut filled touched)

  -- for what comes after
  pub too_full_behind : (end last : ℕ) → base ≤ next → next ≤ end → end ≤ last → free_data between.words between.first < length between.added + most_added depth next end keep left
      → free_data old.words old.first < length old.added + most_added depth base last keep ds
  too_full_behind end last low within inside none =
      let behind : most_added depth next end keep left ≡ most_added depth next end keep (after next ds) = ap (λ (l : List DirtyBlock). most_added depth next end keep l) step.rest in
      omega (arith, none, free-same, added-more, step.few, behind, most_added-joined depth base next end keep ds low within, most_added-joined depth base end last keep ds (omega (arith, low, within)) inside)

-- for an indirect block, whose pointers were planned
pub too_full_indirect : (Told : Type 0) (s : Store) (keep up base end last : ℕ) (ps news : List ℕ) (ds left : List DirtyBlock) (old between : Draft) → up ≢ 0 → last ≡ end → (length (after end ds) ≡ length ds → keep < end)
    → Planned Told s (all_pointers s (up - 1) ps) (contents s (up - 1) ps) (up - 1) base last keep ds left news old between
    → ¬ AreHoles news → free_data between.words between.first ≤ length between.added
    → free_data old.words old.first < length old.added + most_added up base end keep ds
too_full_indirect Told s keep up base end last ps news ds left old between some ends touched step filled none =
    let next : suc (up - 1) ≡ up = omega (arith, some) in
    let above : length (after last ds) ≡ length ds → keep < last = subst (λ (n : ℕ). length (after n ds) ≡ length ds → keep < n) (sym ends) touched in
    subst (λ (n : ℕ). free_data old.words old.first < length old.added + most_added up base n keep ds) ends
    (subst (λ (d : ℕ). free_data old.words old.first < length old.added + most_added d base last keep ds) next
    (too_full_above Told s (all_pointers s (up - 1) ps) (contents s (up - 1) ps) (up - 1) base last keep ds left news old between step filled above none))
