-- From the blocks that are wanted to the tree that is planned.
use Rattle.std.proofs.Common.{◌≡◌, ◌≢◌, ⊎_elim, ℕ, ◌+◌, ◌*◌, ◌/◌, ◌<◌, ◌≤◌, ◌==◌, if◌then◌else◌, List, [], ◌∷◌, ◌++◌, Some, length, refl, sym, ap, subst, ◌∙◌, arith}
use Rattle.std.specs.Prelude.{Contains, Result, IfOk, Ok, Err}
use Rattle.std.specs.List.{AllByRecursion}
use Rattle.std.proofs.Math.Nat.{mul-le-mul_left}
use Rattle.std.proofs.lemmas.Bool.{cases_lt}
use Rattle.sn_layout.specs.Pointers.{levels_of}
use Rattle.sn_layout.specs.declared.tree.BlockTree.{BlockTree}
use Rattle.sn_layout_node.specs.Directory.{Link, AreLinks, IsDirectoryBlock, Spells}
use Rattle.sn_layout_node.specs.declared.content.Content.TheVariants.{Tree}
use Rattle.sn_ondisk.specs.Trees.{Store, data_block, tree_reach}
use Rattle.sn_ondisk.specs.TreeLaws.{SameIn}
use Rattle.sn_ondisk.proofs.TreeLemmas.{levels_room}
use Rattle.sn_image.specs.Names.{names_in, names_of}
use Rattle.sn_image.proofs.DecodeLemmas.{directory_read}
use Rattle.std.proofs.lemmas.List.Elements.{All-pop}
use Rattle.sn_tree.specs.declared.fault.PlanFault.{PlanFault}
use Rattle.sn_tree.specs.Drafts.{Draft}
use Rattle.sn_tree.specs.Dirty.{block_after}
use Rattle.sn_tree.specs.Laws.{EndsBy}
use Rattle.sn_tree.specs.Plans.{Holds}
use Rattle.sn_tree.specs.Replanned.{IsReplanned, IsPlanned}
use Rattle.sn_tree.specs.Steps.{IsTooFull}
use Rattle.sn_tree.specs.declared.new_block.NewBlock.{NewBlock}
use Rattle.sn_tree.specs.declared.new_block.DirtyBlock.{DirtyBlock}
use Rattle.sn_tree.proofs.LawLemmas.{grown_end}
use Rattle.sn_image.specs.Sound.{AreOnce}
use Rattle.sn_dir_change.specs.Changes.{ArePuts, IsChanged, first_block, needed_changes}
use Rattle.sn_dir_change.specs.UnderWay.{IsUnderWay}
use Rattle.sn_dir_change.specs.Through.{AreAllDirty, HaveNames, HaveNoRoom, names_to, AreDirty, IsPushed, IsThrough, IsFilled, IsWanted}
use Rattle.sn_dir_change.specs.Planned.{HasRoom, HasChanged, IsDirectoryPlanned, IsSizeWith, IsTooFullFor}
use Rattle.sn_dir_change.specs.declared.name_change.NameChange.{NameChange}
use Rattle.sn_dir_change.proofs.FillLemmas.{filled_begun, filled_changed}
use Rattle.sn_dir_change.proofs.SizeLemmas.{size_with, spelled_after}
use Rattle.sn_dir_change.proofs.ThroughLemmas.{dirty_more, dirty_none, flat-same, names_from-begin, names_to-pushed, through_as}

-- ---- the beginning

pub through_begun : (Told : Type 0) (s : Store) (tree : BlockTree) (changes standing waiting : List NameChange) (bound : ℕ) → length standing + length waiting ≤ bound → ArePuts waiting
    → (Told → AreOnce (names_of s (Tree tree)) → IsUnderWay changes standing waiting [] (names_of s (Tree tree)) (names_of s (Tree tree))) → IsThrough Told s tree changes bound 0 [] standing waiting
through_begun Told s tree changes standing waiting bound few puts way = record {
  blocks = dirty_none 0;
  few = omega (arith, few);
  puts = puts;
  full = λ told j low c there fits. omega (arith, low);
  way = λ told once. subst (λ (ls : List Link). IsUnderWay changes standing waiting [] ls (names_of s (Tree tree))) (sym (names_from-begin s tree)) (way told once);
}

-- ---- what is wanted

pub wanted_is : (Told : Type 0) (s : Store) (tree : BlockTree) (changes : List NameChange) (bound keep count : ℕ) (ds : List DirtyBlock) → HasRoom tree (length changes) → bound ≤ length changes → (Told → bound ≤ needed_changes (names_of s (Tree tree)) changes)
    → keep ≡ tree.size / 4096 → IsFilled Told s tree changes bound count ds [] → IsWanted Told s tree changes (count * 4096) keep ds
wanted_is Told s tree changes bound keep count ds room few needed keep_is filled =
    let whole : count * 4096 / 4096 ≡ count = omega arith in
    record {
      blocks = subst (λ (n : ℕ). AreDirty n ds) (sym whole) filled.blocks;
      few = omega (arith, filled.few, few);
      needed = λ told. omega (arith, filled.few, needed told);
      keep_is = keep_is;
      whole = omega arith;
      least = omega (arith, filled.least, room.whole);
      most = omega (arith, filled.most, room.whole);
      behind = subst (λ (n : ℕ). AreAllDirty (tree.size / 4096) n ds) (sym whole) filled.behind;
      fit = λ told. subst (λ (n : ℕ). HaveNoRoom s tree n ds) (sym whole) (filled.fit told);
      some = λ j low high later. (subst (λ (n : ℕ). HaveNames s tree n ds) (sym whole) filled.some) j low high;
      names = λ told once. subst (λ (n : ℕ). IsChanged changes (names_of s (Tree tree)) (names_to s tree ds n)) (sym whole) (filled_changed Told s tree changes bound count ds filled told once);
    }

no_dirty : (ds : List DirtyBlock) → AllByRecursion (λ (d : DirtyBlock). d.index < 0) ds → ds ≡ []
no_dirty [] all = refl
no_dirty (d ∷ ds) all = let low : d.index < 0 = all.0 in absurd (omega (arith, low))

-- a first block, of no names
pub first_wanted : (Told : Type 0) (s : Store) (tree : BlockTree) (changes : List NameChange) (size keep : ℕ) (ds new : List DirtyBlock) (bytes : List ℕ) → 0 < length changes → size ≡ 0 → IsPushed 0 bytes ds new → Spells bytes []
    → IsWanted Told s tree changes size keep ds → IsWanted Told s tree changes 4096 keep new
first_wanted Told s tree changes size keep ds new bytes some none_yet pushed spells is_wanted =
    let wanted = subst (λ (n : ℕ). IsWanted Told s tree changes n keep ds) none_yet is_wanted in
    let d = pushed.block in
    let none : ds ≡ [] = no_dirty ds wanted.blocks.before in
    let is : new ≡ d ∷ [] = pushed.last ∙ ap (λ (l : List DirtyBlock). l ++ d ∷ []) none in
    let empty : tree.size ≡ 0 = omega (arith, wanted.least) in
    let one : first_block tree ≡ 1 = ap (λ (n : ℕ). if n == 0 then 1 else 0) empty in
    let no_names : names_in d.bytes.value ≡ [] = ap (λ (b : List ℕ). names_in b) pushed.bytes_are ∙ directory_read bytes [] spells in
    let names_are : names_to s tree (d ∷ []) 1 ≡ [] = names_to-pushed s tree [] d 0 pushed.index_is (dirty_none 0) ∙ no_names in
    subst (λ (l : List DirtyBlock). IsWanted Told s tree changes 4096 keep l) (sym is) (record {
      blocks = dirty_more 0 [] d pushed.index_is (subst IsDirectoryBlock (sym pushed.bytes_are) ([], spells)) (dirty_none 0);
      few = omega (arith, some);
      needed = λ told. omega (arith, one);
      keep_is = wanted.keep_is;
      whole = omega arith;
      least = omega (arith, empty);
      most = omega arith;
      behind = λ i low high clean. let parts = All-pop (λ (e : DirtyBlock). e.index ≢ i) (d ∷ []) [] (Some d) refl clean in parts.1 (omega (arith, pushed.index_is, high));
      fit = λ told i j link less past within has fits. omega (arith, less, within);
      some = λ j low high later. absurd (omega (arith, high, later));
      names = λ told once. subst (λ (ls : List Link). IsChanged changes (names_of s (Tree tree)) ls) (sym names_are) (subst (λ (l : List DirtyBlock). IsChanged changes (names_of s (Tree tree)) (names_to s tree l 0)) none (wanted.names told once));
    })

-- ---- the tree of it

all_end : (size : ℕ) (ds : List DirtyBlock) → AllByRecursion (λ (d : DirtyBlock). d.index < size / 4096) ds → AllByRecursion (EndsBy size) ds
all_end size [] all = tt
all_end size (d ∷ ds) all =
    let low : d.index < size / 4096 = all.0 in
    (record { begins = omega (arith, low); past = λ k within far. absurd (omega (arith, low, within, far)) }, all_end size ds all.1)

module _ (Told : Type 0) (s : Store) (tree new : BlockTree) (changes : List NameChange) (size keep : ℕ) (ds : List DirtyBlock) (sized : new.size ≡ size) (room : HasRoom tree (length changes)) (wanted : IsWanted Told s tree changes size keep ds) where
  small : new.size ≤ 70368744177664
  small = omega (arith, sized, room.most, wanted.most, wanted.few)

  module _ (added : List NewBlock) (released : List ℕ) (plan : IsReplanned s tree new keep ds added released) (r : Store) (same : SameIn (tree_reach s tree) s r) (held : Holds r added) where
    blocks_are : (i : ℕ) → 4096 * i + 4096 ≤ new.size → data_block r new i ≡ block_after (tree.size / 4096) ds i (data_block s tree i)
    blocks_are i within =
        let most = levels_room new.size small in
        plan.content r same held i (omega (arith, within, most)) ∙ ap (λ (k : ℕ). block_after k ds i (data_block s tree i)) wanted.keep_is

    names_are : names_of r (Tree new) ≡ names_to s tree ds (size / 4096)
    names_are =
        flat-same (λ (i : ℕ). names_in (data_block r new i)) (λ (i : ℕ). names_in (block_after (tree.size / 4096) ds i (data_block s tree i))) 0 (new.size / 4096)
        (λ i low high. ap (λ (b : List ℕ). names_in b) (blocks_are i (omega (arith, high))))
        ∙ ap (λ (n : ℕ). names_to s tree ds (n / 4096)) sized

    pub has_changed : Told → AreOnce (names_of s (Tree tree)) → HasChanged s r tree new changes
    has_changed told once = record {
      names = subst (λ (ls : List Link). IsChanged changes (names_of s (Tree tree)) ls) (sym names_are) (wanted.names told once);
      fit = λ i j link less past within has fits.
          let first : 4096 * i + 4096 ≤ new.size = omega (arith, less, within, sized, wanted.whole) in
          let second : 4096 * j + 4096 ≤ new.size = omega (arith, within, sized, wanted.whole) in
          wanted.fit told i j link less (omega (arith, past)) (omega (arith, second, sized))
          (subst (λ (b : List ℕ). Contains (names_in b) link) (blocks_are j second) has)
          (subst (λ (b : List ℕ). AreLinks (names_in b ++ link ∷ [])) (blocks_are i first) fits);
      spelled = λ before i within.
          let full : 4096 * i + 4096 ≤ new.size = omega (arith, within, sized, wanted.whole) in
          subst IsDirectoryBlock (sym (blocks_are i full)) (spelled_after (tree.size / 4096) i ds (data_block s tree i) wanted.blocks.spelled (λ low. before i (omega (arith, low))));
      no_hole = λ before i within none.
          let full : 4096 * i + 4096 ≤ new.size = omega (arith, within, sized, wanted.whole) in
          let most = levels_room new.size small in
          let hole = plan.holes r same held i (omega (arith, full, most)) none in
          ⊎_elim
          (λ (old : i < tree.size / 4096). before i (omega (arith, old)) (hole.was (omega (arith, old, wanted.keep_is))))
          (λ (behind : tree.size / 4096 ≤ i). wanted.behind i behind (omega (arith, full, sized)) hole.clean)
          (cases_lt i (tree.size / 4096));
      ends = λ before. plan.ends r same held (grown_end s tree new.size keep ds before (omega (arith, sized, wanted.least)) (omega (arith, wanted.keep_is, sized, wanted.least))
          (subst (λ (n : ℕ). AllByRecursion (EndsBy n) ds) (sym sized) (all_end size ds wanted.blocks.before)));
    }

  pub planned_is : (t : Store) (old_draft new_draft : Draft) → (0 < length changes → 0 < size) → (Told → t ≡ s) → IsPlanned Told t tree new keep ds old_draft new_draft → IsDirectoryPlanned Told s tree new changes old_draft new_draft
  planned_is t old_draft new_draft first still plan =
      let here : Told → IsReplanned s tree new keep ds plan.added plan.released = (λ told. subst (λ (q : Store). IsReplanned q tree new keep ds plan.added plan.released) (still told) (plan.plans told)) in
      record {
        dirty = ds;
        added = plan.added;
        released = plan.released;
        grew = plan.grew;
        few = plan.few;
        one_each = wanted.few;
        needed = wanted.needed;
        first = λ some. omega (arith, sized, first some);
        most = omega (arith, sized, wanted.most);
        sized = subst (λ (n : ℕ). IsSizeWith Told s tree changes n) (sym sized) (size_with Told s tree changes size keep ds wanted);
        plans = λ told. subst (λ (k : ℕ). IsReplanned s tree new k ds plan.added plan.released) wanted.keep_is (here told);
        changed = λ told once r same held. has_changed plan.added plan.released (here told) r same held told once;
      }

-- ---- how many blocks may be taken

-- dirty blocks that a plan takes
pub begin_before : (size : ℕ) (ds : List DirtyBlock) → AllByRecursion (λ (d : DirtyBlock). d.index < size / 4096) ds → AllByRecursion (λ (d : DirtyBlock). 4096 * d.index < size) ds
begin_before size [] all = tt
begin_before size (d ∷ ds) all = let low : d.index < size / 4096 = all.0 in (omega (arith, low), begin_before size ds all.1)

pub too_full : {T : Type 0} (Told : Type 0) (s : Store) (tree : BlockTree) (changes : List NameChange) (size keep : ℕ) (ds : List DirtyBlock) (result : Result T PlanFault) (draft : Draft) → IsWanted Told s tree changes size keep ds
    → IsTooFull result draft ((levels_of size + 1) * (length ds + 1)) → IsTooFullFor Told s tree changes result draft
too_full Told s tree changes size keep ds result draft wanted full is =
    let more : length ds + 1 ≤ length changes + 1 = omega (arith, wanted.few) in
    let most : (levels_of size + 1) * (length ds + 1) ≤ (levels_of size + 1) * (length changes + 1) = mul-le-mul_left (levels_of size + 1) more in
    (size, size_with Told s tree changes size keep ds wanted, omega (arith, full is, most))

-- ---- all blocks were gone through

pub gone_through : (Told : Type 0) (s r : Store) (tree : BlockTree) (changes standing waiting standing' waiting' : List NameChange) (bound : ℕ) (ds : List DirtyBlock) → (Told → r ≡ s) → length standing + length waiting ≤ bound → ArePuts waiting
    → (Told → AreOnce (names_of s (Tree tree)) → IsUnderWay changes standing waiting [] (names_of s (Tree tree)) (names_of s (Tree tree)))
    → (IsThrough Told r tree changes bound 0 [] standing waiting → IsThrough Told r tree changes bound (tree.size / 4096) ds standing' waiting')
    → IsThrough Told s tree changes bound (tree.size / 4096) ds standing' waiting'
gone_through Told s r tree changes standing waiting standing' waiting' bound ds same few puts way pass =
    through_as Told s r tree changes bound (tree.size / 4096) ds standing' waiting' same
    (pass (through_as Told r s tree changes bound 0 [] standing waiting (λ told. sym (same told)) (through_begun Told s tree changes standing waiting bound few puts way)))

pub planned_result : (Told : Type 0) (s : Store) (tree : BlockTree) (changes : List NameChange) (size keep : ℕ) (ds : List DirtyBlock) (t : Store) (old_draft new_draft : Draft) (result : Result BlockTree PlanFault)
    → HasRoom tree (length changes) → IsWanted Told s tree changes size keep ds → (0 < length changes → 0 < size) → (Told → t ≡ s) → IfOk result (λ new. new.size ≡ size) → IfOk result (λ new. IsPlanned Told t tree new keep ds old_draft new_draft)
    → IfOk result (λ new. IsDirectoryPlanned Told s tree new changes old_draft new_draft)
planned_result Told s tree changes size keep ds t old_draft new_draft (Err fault) room wanted first same sized plan = tt
planned_result Told s tree changes size keep ds t old_draft new_draft (Ok new) room wanted first same sized plan = planned_is Told s tree new changes size keep ds sized room wanted t old_draft new_draft first same plan

-- and the new blocks can be filled
pub ready_to_fill : (Told : Type 0) (s r : Store) (tree : BlockTree) (changes standing waiting standing' waiting' : List NameChange) (bound : ℕ) (ds : List DirtyBlock) (keep : ℕ) → keep ≡ tree.size / 4096 → (Told → r ≡ s) → length standing + length waiting ≤ bound → ArePuts waiting
    → (Told → AreOnce (names_of s (Tree tree)) → IsUnderWay changes standing waiting [] (names_of s (Tree tree)) (names_of s (Tree tree)))
    → (IsThrough Told r tree changes bound 0 [] standing waiting → IsThrough Told r tree changes bound (tree.size / 4096) ds standing' waiting')
    → IsFilled Told s tree changes bound keep ds waiting'
ready_to_fill Told s r tree changes standing waiting standing' waiting' bound ds keep is same few puts way pass =
    subst (λ (n : ℕ). IsFilled Told s tree changes bound n ds waiting') (sym is)
    (filled_begun Told s tree changes bound ds standing' waiting' (gone_through Told s r tree changes standing waiting standing' waiting' bound ds same few puts way pass))
