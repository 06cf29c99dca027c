-- The names of a directory's blocks, some of them changed.
use Rattle.std.proofs.Common.{◌≡◌, ⊎_elim, ◌≢◌, ℕ, zero, suc, ◌+◌, ◌-◌, ◌/◌, ◌<◌, ◌≤◌, ◌==◌, Bool, if◌then◌else◌, List, [], ◌∷◌, ◌++◌, append_assoc, append-nil, length, flat_map, Option, None, refl, sym, ap, subst, ◌∙◌, arith}
use Rattle.std.specs.Prelude.{Contains, nat_lt}
use Rattle.std.specs.List.{range_with_len, AllByRecursion}
use Rattle.std.proofs.lemmas.Bool.{cases_lt, ne_eqb, eq-eqb, lt-ltb}
use Rattle.std.proofs.lemmas.List.{length-append}
use Rattle.std.proofs.lemmas.List.Concat.{flat_map-append}
use Rattle.std.proofs.lemmas.List.Elements.{All-contains}
use Rattle.sn_layout.specs.Bytes.{zeros}
use Rattle.sn_layout.specs.declared.tree.BlockTree.{BlockTree}
use Rattle.sn_layout_node.specs.Directory.{Link, IsDirectoryBlock, number_of}
use Rattle.sn_layout_node.specs.declared.content.Content.TheVariants.{Tree}
use Rattle.sn_ondisk.specs.Trees.{Store, data_block}
use Rattle.sn_image.specs.Names.{names_in, names_of}
use Rattle.sn_tree.specs.Dirty.{IsFrom, block_wanted, block_after}
use Rattle.sn_tree.specs.declared.new_block.DirtyBlock.{DirtyBlock}
use Rattle.sn_dir.proofs.NameLemmas.{range-more}
use Rattle.sn_image.specs.Sound.{AreOnce}
use Rattle.sn_dir_change.specs.UnderWay.{AreFull, AreGone, IsUnderWay}
use Rattle.sn_dir_change.specs.Through.{block_now, names_to, names_from, AreDirty, IsPushed, IsThrough}
use Rattle.sn_dir_change.specs.declared.name_change.NameChange.{NameChange}
use Rattle.sn_dir_change.proofs.NameLemmas.{or_else, number-append}
use Rattle.sn_dir_change.proofs.WayLemmas.{all_from}

-- ---- lists over ranges

module _ {X : Type 0} where
  pub flat-more : (f : ℕ → List X) (i : ℕ) → flat_map f (range_with_len 0 (i + 1)) ≡ flat_map f (range_with_len 0 i) ++ f i
  flat-more f i =
      let next : i + 1 ≡ suc i = omega arith in
      let last : 0 + i ≡ i = omega arith in
      ap (λ (n : ℕ). flat_map f (range_with_len 0 n)) next
      ∙ ap (λ (xs : List ℕ). flat_map f xs) (range-more 0 i ∙ ap (λ (k : ℕ). range_with_len 0 i ++ k ∷ []) last)
      ∙ flat_map-append f (range_with_len 0 i) (i ∷ [])
      ∙ ap (λ (xs : List X). flat_map f (range_with_len 0 i) ++ xs) (append-nil (f i))

  pub flat-same : (f g : ℕ → List X) (a n : ℕ) → ((j : ℕ) → a ≤ j → j < a + n → f j ≡ g j) → flat_map f (range_with_len a n) ≡ flat_map g (range_with_len a n)
  flat-same f g a zero same = refl
  flat-same f g a (suc n) same =
      ap (λ (xs : List X). xs ++ flat_map f (range_with_len (a + 1) n)) (same a (omega arith) (omega arith))
      ∙ ap (λ (xs : List X). g a ++ xs) (flat-same f g (a + 1) n (λ j low high. same j (omega (arith, low)) (omega (arith, high))))

-- ---- one changed block more

pub block-beside : (keep : ℕ) (ds : List DirtyBlock) (d : DirtyBlock) (i : ℕ) (old : List ℕ) → d.index ≢ i → block_after keep (ds ++ d ∷ []) i old ≡ block_after keep ds i old
unfolding block_wanted
block-beside keep [] d i old other = ap (λ (b : Bool). if b then d.bytes.value else (if nat_lt i keep then old else zeros 4096)) (ne_eqb d.index i other)
block-beside keep (e ∷ ds) d i old other = ap (λ (x : List ℕ). if e.index == i then e.bytes.value else x) (block-beside keep ds d i old other)

-- a block that isn't among those changed
pub block-untouched : (keep : ℕ) (ds : List DirtyBlock) (i end : ℕ) (old : List ℕ) → end ≤ i → AllByRecursion (λ (d : DirtyBlock). d.index < end) ds → block_after keep ds i old ≡ block_after keep [] i old
unfolding block_wanted
block-untouched keep [] i end old past all = refl
block-untouched keep (e ∷ ds) i end old past all =
    let low : e.index < end = all.0 in
    ap (λ (b : Bool). if b then e.bytes.value else block_after keep ds i old) (ne_eqb e.index i (λ same. omega (arith, low, past, same)))
    ∙ block-untouched keep ds i end old past all.1

pub block-kept : (keep i : ℕ) (old : List ℕ) → i < keep → block_after keep [] i old ≡ old
unfolding block_wanted
block-kept keep i old within = ap (λ (b : Bool). if b then old else zeros 4096) (lt-ltb i keep within)

pub block-pushed : (keep : ℕ) (ds : List DirtyBlock) (d : DirtyBlock) (end : ℕ) (old : List ℕ) → end ≤ d.index → AllByRecursion (λ (e : DirtyBlock). e.index < end) ds → block_after keep (ds ++ d ∷ []) d.index old ≡ d.bytes.value
unfolding block_wanted
block-pushed keep [] d end old past all = ap (λ (b : Bool). if b then d.bytes.value else (if nat_lt d.index keep then old else zeros 4096)) (eq-eqb d.index d.index refl)
block-pushed keep (e ∷ ds) d end old past all =
    let low : e.index < end = all.0 in
    ap (λ (b : Bool). if b then e.bytes.value else block_after keep (ds ++ d ∷ []) d.index old) (ne_eqb e.index d.index (λ same. omega (arith, low, past, same)))
    ∙ block-pushed keep ds d end old past all.1

rise_more : (least i : ℕ) (ds : List DirtyBlock) (d : DirtyBlock) → IsFrom least ds → AllByRecursion (λ (e : DirtyBlock). e.index < i) ds → least ≤ i → i ≤ d.index → IsFrom least (ds ++ d ∷ [])
rise_more least i [] d rise before low past = (omega (arith, low, past), tt)
rise_more least i (e ∷ ds) d rise before low past = let here : e.index < i = before.0 in (rise.0, rise_more (e.index + 1) i ds d rise.1 before.1 (omega (arith, here)) past)

all_more : (P : DirtyBlock → Type 0) (ds : List DirtyBlock) (d : DirtyBlock) → AllByRecursion P ds → P d → AllByRecursion P (ds ++ d ∷ [])
all_more P [] d all is = (is, tt)
all_more P (e ∷ ds) d all is = (all.0, all_more P ds d all.1 is)

weaker : (i n : ℕ) (ds : List DirtyBlock) → i ≤ n → AllByRecursion (λ (e : DirtyBlock). e.index < i) ds → AllByRecursion (λ (e : DirtyBlock). e.index < n) ds
weaker i n [] le all = tt
weaker i n (e ∷ ds) le all = let here : e.index < i = all.0 in (omega (arith, here, le), weaker i n ds le all.1)

pub dirty_none : (i : ℕ) → AreDirty i []
dirty_none i = record { rise = tt; before = tt; spelled = tt }

pub dirty_later : (i n : ℕ) (ds : List DirtyBlock) → i ≤ n → AreDirty i ds → AreDirty n ds
dirty_later i n ds le dirty = record { rise = dirty.rise; before = weaker i n ds le dirty.before; spelled = dirty.spelled }

pub dirty_more : (i : ℕ) (ds : List DirtyBlock) (d : DirtyBlock) → d.index ≡ i → IsDirectoryBlock d.bytes.value → AreDirty i ds → AreDirty (i + 1) (ds ++ d ∷ [])
dirty_more i ds d is spelled dirty = record {
  rise = rise_more 0 i ds d dirty.rise dirty.before (omega arith) (omega (arith, is));
  before = all_more (λ (e : DirtyBlock). e.index < i + 1) ds d (weaker i (i + 1) ds (omega arith) dirty.before) (omega (arith, is));
  spelled = all_more (λ (e : DirtyBlock). IsDirectoryBlock e.bytes.value) ds d dirty.spelled spelled;
}

-- ---- the names of the blocks up to one

module _ (s : Store) (tree : BlockTree) where
  abbrev keep : ℕ
  keep = tree.size / 4096

  pub names_to-more : (ds : List DirtyBlock) (i : ℕ) → names_to s tree ds (i + 1) ≡ names_to s tree ds i ++ names_in (block_now s tree ds i)
  names_to-more ds i = flat-more (λ (j : ℕ). names_in (block_now s tree ds j)) i

  -- a block that stays
  pub names_to-kept : (ds : List DirtyBlock) (i : ℕ) → i < keep → AreDirty i ds → names_to s tree ds (i + 1) ≡ names_to s tree ds i ++ names_in (data_block s tree i)
  names_to-kept ds i within dirty =
      names_to-more ds i
      ∙ ap (λ (b : List ℕ). names_to s tree ds i ++ names_in b) (block-untouched keep ds i i (data_block s tree i) (omega arith) dirty.before ∙ block-kept keep i (data_block s tree i) within)

  -- one that is changed
  pub names_to-pushed : (ds : List DirtyBlock) (d : DirtyBlock) (i : ℕ) → d.index ≡ i → AreDirty i ds → names_to s tree (ds ++ d ∷ []) (i + 1) ≡ names_to s tree ds i ++ names_in d.bytes.value
  names_to-pushed ds d i is dirty =
      names_to-more (ds ++ d ∷ []) i
      ∙ ap (λ (ls : List Link). ls ++ names_in (block_now s tree (ds ++ d ∷ []) i))
      (flat-same (λ (j : ℕ). names_in (block_now s tree (ds ++ d ∷ []) j)) (λ (j : ℕ). names_in (block_now s tree ds j)) 0 i
      (λ j low high. ap (λ (b : List ℕ). names_in b) (block-beside keep ds d j (data_block s tree j) (λ same. omega (arith, high, same, is)))))
      ∙ ap (λ (b : List ℕ). names_to s tree ds i ++ names_in b)
      (subst (λ (n : ℕ). block_after keep (ds ++ d ∷ []) n (data_block s tree n) ≡ d.bytes.value) is (block-pushed keep ds d i (data_block s tree d.index) (omega (arith, is)) dirty.before))

  pub names_from-first : (i : ℕ) → i < keep → names_from s tree i ≡ names_in (data_block s tree i) ++ names_from s tree (i + 1)
  names_from-first i within =
      let count : keep - i ≡ suc (keep - (i + 1)) = omega (arith, within) in
      ap (λ (n : ℕ). flat_map (λ (j : ℕ). names_in (data_block s tree j)) (range_with_len i n)) count

  pub names_from-end : names_from s tree keep ≡ []
  names_from-end = let none : keep - keep ≡ 0 = omega arith in ap (λ (n : ℕ). flat_map (λ (j : ℕ). names_in (data_block s tree j)) (range_with_len keep n)) none

  pub names_from-begin : names_from s tree 0 ≡ names_of s (Tree tree)
  names_from-begin = let all : keep - 0 ≡ keep = omega arith in ap (λ (n : ℕ). flat_map (λ (j : ℕ). names_in (data_block s tree j)) (range_with_len 0 n)) all

-- ---- a block that was gone through

pub gone_both : (changes : List NameChange) (front here : List Link) → AreGone changes front → AreGone changes here → AreGone changes (front ++ here)
unfolding or_else
gone_both changes front here first second =
    all_from (λ (c : NameChange). number_of c.name.now (front ++ here) ≡ None) changes (λ c there.
    number-append c.name.now front here
    ∙ ap (λ (o : Option ℕ). or_else o (number_of c.name.now here)) (All-contains (λ (c : NameChange). number_of c.name.now front ≡ None) changes c first there)
    ∙ All-contains (λ (c : NameChange). number_of c.name.now here ≡ None) changes c second there)

pub passed_way : (changes standing waiting : List NameChange) (front here names old : List Link) → AreGone standing here → IsUnderWay changes standing waiting front names old → IsUnderWay changes standing waiting (front ++ here) names old
passed_way changes standing waiting front here names old gone way = record {
  listed = way.listed;
  others = way.others;
  once = way.once;
  apart = way.apart;
  stand = way.stand;
  behind = gone_both standing front here way.behind gone;
  stand_apart = way.stand_apart;
  stand_listed = way.stand_listed;
  wait = way.wait;
  wait_apart = way.wait_apart;
  wait_listed = way.wait_listed;
}

-- ---- one block more

module _ (Told : Type 0) (s : Store) (tree : BlockTree) (changes : List NameChange) (bound i : ℕ) (ds : List DirtyBlock) (standing waiting standing' waiting' : List NameChange) (bytes : List ℕ) (is : Told → bytes ≡ data_block s tree i)
    (within : i < tree.size / 4096) (through : IsThrough Told s tree changes bound i ds standing waiting) where
  entered : Told → AreOnce (names_of s (Tree tree)) → IsUnderWay changes standing waiting (names_to s tree ds i) (names_to s tree ds i ++ names_in bytes ++ names_from s tree (i + 1)) (names_of s (Tree tree))
  entered told once =
      let front = names_to s tree ds i in
      let rest = names_from s tree (i + 1) in
      subst (λ (b : List ℕ). IsUnderWay changes standing waiting front (front ++ names_in b ++ rest) (names_of s (Tree tree))) (sym (is told))
      (subst (λ (ls : List Link). IsUnderWay changes standing waiting front ls (names_of s (Tree tree)))
      (ap (λ (ls : List Link). front ++ ls) (names_from-first s tree i within) ∙ sym (append_assoc front (names_in (data_block s tree i)) rest))
      (through.way told once))

  module _ (new : List ℕ) (here : Told → AreFull waiting' (names_in new)) (listed : (c : NameChange) → Contains waiting' c → Contains waiting c) (step : Told → (front back old : List Link) → IsUnderWay changes standing waiting front (front ++ names_in bytes ++ back) old → IsUnderWay changes standing' waiting' front (front ++ names_in new ++ back) old × AreGone standing' (names_in new)) where
    fewer_full : (links : List Link) → AreFull waiting links → AreFull waiting' links
    fewer_full links full c there = full c (listed c there)

    left_behind : (front' : List Link) → front' ≡ names_to s tree ds i ++ names_in new → Told → AreOnce (names_of s (Tree tree))
        → IsUnderWay changes standing' waiting' front' (front' ++ names_from s tree (i + 1)) (names_of s (Tree tree))
    left_behind front' made told once =
        let front = names_to s tree ds i in
        let rest = names_from s tree (i + 1) in
        let moved = step told front rest (names_of s (Tree tree)) (entered told once) in
        subst (λ (ls : List Link). IsUnderWay changes standing' waiting' ls (ls ++ rest) (names_of s (Tree tree))) (sym made)
        (passed_way changes standing' waiting' front (names_in new) (front ++ names_in new ++ rest) (names_of s (Tree tree)) moved.1 moved.0)

    pub through_pushed : (ds' : List DirtyBlock) → IsPushed i new ds ds' → IsDirectoryBlock new → length standing' + length waiting' < length standing + length waiting → IsThrough Told s tree changes bound (i + 1) ds' standing' waiting'
    through_pushed ds' pushed spelled fewer =
        let d = pushed.block in
        subst (λ (l : List DirtyBlock). IsThrough Told s tree changes bound (i + 1) l standing' waiting') (sym pushed.last) (record {
          blocks = dirty_more i ds d pushed.index_is (subst IsDirectoryBlock (sym pushed.bytes_are) spelled) through.blocks;
          few = omega (arith, through.few, fewer, length-append ds (d ∷ []));
          puts = λ c there. through.puts c (listed c there);
          full = λ told j low. ⊎_elim
              (λ (before : j < i). subst (λ (b : List ℕ). AreFull waiting' (names_in b)) (sym (block-beside (tree.size / 4096) ds d j (data_block s tree j) (λ same. omega (arith, before, same, pushed.index_is)))) (fewer_full (names_in (block_now s tree ds j)) (through.full told j before)))
              (λ (last : i ≤ j).
              let at : d.index ≡ j = omega (arith, last, low, pushed.index_is) in
              let is_now : block_now s tree (ds ++ d ∷ []) j ≡ new = subst (λ (n : ℕ). block_after (tree.size / 4096) (ds ++ d ∷ []) n (data_block s tree n) ≡ d.bytes.value) at (block-pushed (tree.size / 4096) ds d i (data_block s tree d.index) (omega (arith, pushed.index_is)) through.blocks.before) ∙ pushed.bytes_are in
              subst (λ (b : List ℕ). AreFull waiting' (names_in b)) (sym is_now) (here told))
              (cases_lt j i);
          way = left_behind (names_to s tree (ds ++ d ∷ []) (i + 1)) (names_to-pushed s tree ds d i pushed.index_is through.blocks ∙ ap (λ (b : List ℕ). names_to s tree ds i ++ names_in b) pushed.bytes_are);
        })

    pub through_kept : new ≡ bytes → length standing' + length waiting' ≤ length standing + length waiting → IsThrough Told s tree changes bound (i + 1) ds standing' waiting'
    through_kept same fewer = record {
      blocks = dirty_later i (i + 1) ds (omega arith) through.blocks;
      few = omega (arith, through.few, fewer);
      puts = λ c there. through.puts c (listed c there);
      full = λ told j low. ⊎_elim
          (λ (before : j < i). fewer_full (names_in (block_now s tree ds j)) (through.full told j before))
          (λ (last : i ≤ j).
          let at : i ≡ j = omega (arith, last, low) in
          let is_now : block_now s tree ds i ≡ new = block-untouched (tree.size / 4096) ds i i (data_block s tree i) (omega arith) through.blocks.before ∙ block-kept (tree.size / 4096) i (data_block s tree i) within ∙ sym (same ∙ is told) in
          subst (λ (n : ℕ). AreFull waiting' (names_in (block_now s tree ds n))) at (subst (λ (b : List ℕ). AreFull waiting' (names_in b)) (sym is_now) (here told)))
          (cases_lt j i);
      way = λ told once. left_behind (names_to s tree ds (i + 1)) (names_to-kept s tree ds i within through.blocks ∙ ap (λ (b : List ℕ). names_to s tree ds i ++ names_in b) (sym (same ∙ is told))) told once;
    }

-- nothing is left to be done
pub none_gone : (changes : List NameChange) (links : List Link) → length changes ≡ 0 → AreGone changes links
none_gone changes links none k d within = absurd (omega (arith, within, none))

pub none_full : (waiting : List NameChange) (links : List Link) → length waiting ≡ 0 → AreFull waiting links
none_full waiting links none c (k, within, is) fits = omega (arith, within, none)

-- the same over a store that the device still tells
pub through_as : (Told : Type 0) (s r : Store) (tree : BlockTree) (changes : List NameChange) (bound i : ℕ) (ds : List DirtyBlock) (standing waiting : List NameChange) → (Told → r ≡ s) → IsThrough Told r tree changes bound i ds standing waiting → IsThrough Told s tree changes bound i ds standing waiting
through_as Told s r tree changes bound i ds standing waiting same through = record {
  blocks = through.blocks;
  few = through.few;
  puts = through.puts;
  full = λ told. subst (λ (q : Store). (j : ℕ) → j < i → AreFull waiting (names_in (block_now q tree ds j))) (same told) (through.full told);
  way = λ told. subst (λ (q : Store). AreOnce (names_of q (Tree tree)) → IsUnderWay changes standing waiting (names_to q tree ds i) (names_to q tree ds i ++ names_from q tree i) (names_of q (Tree tree))) (same told) (through.way told);
}
