-- Blocks after the old ones.
use Rattle.std.proofs.Common.{◌≡◌, ◌≢◌, ◌⊎◌, inl, inr, ⊎_elim, ℕ, ◌+◌, ◌/◌, ◌<◌, ◌≤◌, ◌&&◌, true, false, List, [], ◌∷◌, ◌++◌, append-nil, length, Option, Some, None, refl, sym, ap, subst, ◌∙◌, arith}
use Rattle.std.specs.Prelude.{Contains, IfSome, is_some}
use Rattle.std.proofs.lemmas.Bool.{cases_lt, and_parts, leb-true}
use Rattle.std.proofs.lemmas.List.{length-append}
use Rattle.std.proofs.lemmas.List.Elements.{All-contains, All-pop, Contains-append_left, Contains-push}
use Rattle.sn_limits.specs.Names.{is_name_spelled, has_name_length}
use Rattle.sn_layout.specs.declared.tree.BlockTree.{BlockTree}
use Rattle.sn_layout_node.specs.Directory.{Link, IsLink, AreLinks, IsDirectoryBlock, number_of}
use Rattle.sn_layout_node.specs.declared.content.Content.TheVariants.{Tree}
use Rattle.sn_layout_node.proofs.Links.{length-links}
use Rattle.sn_ondisk.specs.Trees.{Store, data_block}
use Rattle.sn_tree.specs.Dirty.{block_after}
use Rattle.sn_dir_change.proofs.ChangeLemmas.{cases_there, first_there}
use Rattle.sn_image.specs.Names.{names_in, names_of}
use Rattle.sn_tree.specs.declared.new_block.DirtyBlock.{DirtyBlock}
use Rattle.sn_image.specs.Sound.{AreOnce}
use Rattle.sn_dir_change.specs.Changes.{IsChanged, IsChange, numbered, link_for}
use Rattle.sn_dir_change.specs.UnderWay.{AreFull, IsLinkFrom, IsUnderWay}
use Rattle.sn_dir_change.specs.Through.{block_now, names_to, IsPushed, IsThrough, IsFilled}
use Rattle.sn_dir_change.specs.declared.name_change.NameChange.{NameChange}
use Rattle.sn_dir_change.proofs.ThroughLemmas.{block-beside, block-pushed, dirty_more, names_to-pushed, names_from-end, passed_way, none_gone}
use Rattle.sn_dir_change.proofs.WayLemmas.{all_from, put_set, put_way}

-- ---- a name alone has room

name_most : (name : List ℕ) → (is_name_spelled name && has_name_length name) ≡ true → length name ≤ 255
name_most name is = let parts = and_parts (is_name_spelled name) (has_name_length name) is in leb-true (length name) 255 parts.1

alone : (name : List ℕ) (number : Option ℕ) → IfSome number (λ n. IsLink (record { number = n; name = name })) → AreLinks (numbered name number)
alone name None is = record { each = tt; room = omega arith }
alone name (Some n) is =
    let link : Link = record { number = n; name = name } in
    record { each = (is, tt); room = omega (arith, length-links link [], name_most name is.name) }

pub change_alone : (change : NameChange) → IsChange change → AreLinks (link_for change)
change_alone change is = alone change.name.now change.number is

-- a change that puts a name leaves a link
pub put_some : (name : List ℕ) (number : Option ℕ) → is_some number ≡ true → 0 < length (numbered name number)
put_some name None some = absurd cc
put_some name (Some n) some = omega arith

-- ---- the first name of a new block

pub first_put : (changes waiting : List NameChange) (change : NameChange) (names old new : List Link) → IsUnderWay changes [] (waiting ++ change ∷ []) names names old → new ≡ [] ++ link_for change
    → IsUnderWay changes [] waiting names (names ++ new ++ []) old
first_put changes waiting change names old new way made =
    let whole : names ≡ names ++ [] ++ [] = sym (append-nil (names ++ []) ∙ append-nil names) in
    let here = subst (λ (ls : List Link). IsUnderWay changes [] (waiting ++ change ∷ []) names ls old) whole way in
    let none = All-contains (λ (c : NameChange). number_of c.name.now (names ++ [] ++ []) ≡ None) (waiting ++ change ∷ []) change here.wait (Contains-push waiting change) in
    let set = put_set names [] change.name.now change.number [] here.once none in
    subst (λ (ls : List Link). IsUnderWay changes [] waiting names (names ++ ls ++ []) old) (sym made)
    (subst (λ (xs : List NameChange). IsUnderWay changes [] xs names (names ++ ([] ++ link_for change) ++ []) old) (append-nil waiting)
    (put_way changes [] names (names ++ [] ++ []) (names ++ ([] ++ link_for change) ++ []) old waiting [] change here set))

-- the block is one of those gone through
pub block_filled : (changes waiting : List NameChange) (names here old : List Link) → IsUnderWay changes [] waiting names (names ++ here ++ []) old → IsUnderWay changes [] waiting (names ++ here) (names ++ here) old
block_filled changes waiting names here old way =
    passed_way changes [] waiting names here (names ++ here) old (none_gone [] here refl)
    (subst (λ (ls : List Link). IsUnderWay changes [] waiting names ls old) (append-nil (names ++ here)) way)

-- ---- room

only_link : (name : List ℕ) (number : Option ℕ) (link : Link) → Contains (numbered name number) link → numbered name number ≡ link ∷ []
only_link name None link (k, within, is) = absurd (omega (arith, within))
only_link name (Some n) link there = ⊎_elim
    (λ (same : link ≡ record { number = n; name = name }). ap (λ (l : Link). l ∷ []) (sym same))
    (λ (none : Contains [] link). absurd (omega (arith, none.1)))
    (cases_there (record { number = n; name = name }) [] link there)

-- a name of those that waited has no room
no_room : (waiting : List NameChange) (links : List Link) (link : Link) → IsLinkFrom waiting [] link → AreFull waiting links → AreLinks (links ++ link ∷ []) → ⊥
no_room waiting links link (inl none) full fits = omega (arith, none.1)
no_room waiting links link (inr (c, there, has)) full fits =
    full c there (subst (λ (ls : List Link). AreLinks (links ++ ls)) (sym (only_link c.name.now c.number link has)) fits)

-- what is in a new block waited
pub first_from : (waiting : List NameChange) (change : NameChange) (first new : List Link) → first ≡ [] ++ link_for change → ((link : Link) → Contains new link → IsLinkFrom waiting first link)
    → (link : Link) → Contains new link → IsLinkFrom (waiting ++ change ∷ []) [] link
first_from waiting change first new made from link has = ⊎_elim
    (λ (old : Contains first link). inr (change, Contains-push waiting change, subst (λ (ls : List Link). Contains ls link) made old))
    (λ (later : (c : NameChange) × Contains waiting c × Contains (link_for c) link). inr (later.0, Contains-append_left waiting (change ∷ []) later.0 later.1, later.2))
    (from link has)

-- ---- all blocks

-- a list of some names has one
first_of : (links : List Link) → 0 < length links → (link : Link) × Contains links link
first_of [] some = absurd (omega (arith, some))
first_of (link ∷ links) some = (link, first_there link links)

module _ (Told : Type 0) (s : Store) (tree : BlockTree) (changes : List NameChange) (bound : ℕ) where
  -- a name that is there was found
  pub filled_begun : (ds : List DirtyBlock) (standing waiting : List NameChange) → IsThrough Told s tree changes bound (tree.size / 4096) ds standing waiting → IsFilled Told s tree changes bound (tree.size / 4096) ds waiting
  filled_begun ds standing waiting through = record {
    blocks = through.blocks;
    few = omega (arith, through.few);
    least = omega arith;
    most = omega arith;
    behind = λ i low high clean. omega (arith, low, high);
    puts = through.puts;
    full = through.full;
    fit = λ told i j link less past within has fits. omega (arith, past, within);
    some = λ j low high. absurd (omega (arith, low, high));
    way = λ told once. all_found (subst (λ (ls : List Link). IsUnderWay changes standing waiting (names_to s tree ds (tree.size / 4096)) ls (names_of s (Tree tree)))
        (ap (λ (ls : List Link). names_to s tree ds (tree.size / 4096) ++ ls) (names_from-end s tree) ∙ append-nil (names_to s tree ds (tree.size / 4096)))
        (through.way told once));
  }
    where
      all_found : {names old : List Link} → IsUnderWay changes standing waiting names names old → IsUnderWay changes [] waiting names names old
      all_found {names} {old} way = record {
        listed = λ c there. ⊎_elim
            (λ (stands : Contains standing c).
            let gone = All-contains (λ (c : NameChange). number_of c.name.now names ≡ None) standing c way.behind stands in
            absurd (let clash : true ≡ false = sym (way.stand c stands) ∙ ap (λ (o : Option ℕ). is_some o) gone in cc))
            (λ (other : Contains waiting c ⊎ (number_of c.name.now names ≡ c.number)). inr other)
            (way.listed c there);
        others = way.others;
        once = way.once;
        apart = way.apart;
        stand = λ c (k, within, is). absurd (omega (arith, within));
        behind = none_gone [] names refl;
        stand_apart = λ name. omega arith;
        stand_listed = λ c (k, within, is). absurd (omega (arith, within));
        wait = way.wait;
        wait_apart = way.wait_apart;
        wait_listed = way.wait_listed;
      }

  pub filled_more : (count : ℕ) (ds ds' : List DirtyBlock) (before waiting waiting' : List NameChange) (change : NameChange) (new : List ℕ) → before ≡ waiting ++ change ∷ [] → length waiting' ≤ length waiting
      → ((c : NameChange) → Contains waiting' c → Contains waiting c) → ((link : Link) → Contains (names_in new) link → IsLinkFrom (waiting ++ change ∷ []) [] link)
      → AreFull waiting' (names_in new) → (is_some change.number ≡ true → 0 < length (names_in new)) → IsPushed count new ds ds' → IsDirectoryBlock new
      → ((names old : List Link) → IsUnderWay changes [] (waiting ++ change ∷ []) names names old → IsUnderWay changes [] waiting' (names ++ names_in new) (names ++ names_in new) old)
      → IsFilled Told s tree changes bound count ds before → IsFilled Told s tree changes bound (count + 1) ds' waiting'
  filled_more count ds ds' before waiting waiting' change new was fewer listed from shut some pushed spelled step filled =
      let d = pushed.block in
      let beside : (i : ℕ) → i < count → block_now s tree (ds ++ d ∷ []) i ≡ block_now s tree ds i = (λ i low. block-beside (tree.size / 4096) ds d i (data_block s tree i) (λ same. omega (arith, low, same, pushed.index_is))) in
      let is_new : block_now s tree (ds ++ d ∷ []) count ≡ new = subst (λ (n : ℕ). block_after (tree.size / 4096) (ds ++ d ∷ []) n (data_block s tree n) ≡ d.bytes.value) pushed.index_is (block-pushed (tree.size / 4096) ds d count (data_block s tree d.index) (omega (arith, pushed.index_is)) filled.blocks.before) ∙ pushed.bytes_are in
      let size : length before ≡ length waiting + 1 = ap (λ (xs : List NameChange). length xs) was ∙ length-append waiting (change ∷ []) in
      subst (λ (l : List DirtyBlock). IsFilled Told s tree changes bound (count + 1) l waiting') (sym pushed.last) (record {
        blocks = dirty_more count ds d pushed.index_is (subst IsDirectoryBlock (sym pushed.bytes_are) spelled) filled.blocks;
        few = omega (arith, filled.few, size, fewer, length-append ds (d ∷ []));
        least = omega (arith, filled.least);
        most = omega (arith, filled.most, length-append ds (d ∷ []));
        behind = λ i low high clean.
            let parts = All-pop (λ (e : DirtyBlock). e.index ≢ i) (ds ++ d ∷ []) ds (Some d) refl clean in
            ⊎_elim
            (λ (old : i < count). filled.behind i low old parts.0)
            (λ (last : count ≤ i). parts.1 (omega (arith, pushed.index_is, last, high)))
            (cases_lt i count);
        puts = λ c there. filled.puts c (subst (λ (xs : List NameChange). Contains xs c) (sym was) (Contains-append_left waiting (change ∷ []) c (listed c there)));
        full = λ told j low. ⊎_elim
            (λ (old : j < count). λ c there.
            let of_before : Contains before c = subst (λ (xs : List NameChange). Contains xs c) (sym was) (Contains-append_left waiting (change ∷ []) c (listed c there)) in
            subst (λ (b : List ℕ). AreLinks (names_in b ++ link_for c) → ⊥) (sym (beside j old)) (filled.full told j old c of_before))
            (λ (last : count ≤ j).
            let at : count ≡ j = omega (arith, last, low) in
            subst (λ (n : ℕ). AreFull waiting' (names_in (block_now s tree (ds ++ d ∷ []) n))) at (subst (λ (b : List ℕ). AreFull waiting' (names_in b)) (sym is_new) shut))
            (cases_lt j count);
        some = λ j low high. ⊎_elim
            (λ (old : j < count). subst (λ (b : List ℕ). (link : Link) × Contains (names_in b) link) (sym (beside j old)) (filled.some j low old))
            (λ (last : count ≤ j).
            let at : count ≡ j = omega (arith, last, high) in
            let put : is_some change.number ≡ true = filled.puts change (subst (λ (xs : List NameChange). Contains xs change) (sym was) (Contains-push waiting change)) in
            subst (λ (n : ℕ). (link : Link) × Contains (names_in (block_now s tree (ds ++ d ∷ []) n)) link) at (subst (λ (b : List ℕ). (link : Link) × Contains (names_in b) link) (sym is_new) (first_of (names_in new) (some put))))
            (cases_lt j count);
        fit = λ told i j link less past within.
            let low : i < count = omega (arith, less, within) in
            subst (λ (b : List ℕ). Contains (names_in (block_now s tree (ds ++ d ∷ []) j)) link → AreLinks (names_in b ++ link ∷ []) → ⊥) (sym (beside i low)) (⊎_elim
            (λ (old : j < count). subst (λ (b : List ℕ). Contains (names_in b) link → AreLinks (names_in (block_now s tree ds i) ++ link ∷ []) → ⊥) (sym (beside j old)) (filled.fit told i j link less past old))
            (λ (last : count ≤ j).
            let at : count ≡ j = omega (arith, last, within) in
            subst (λ (n : ℕ). Contains (names_in (block_now s tree (ds ++ d ∷ []) n)) link → AreLinks (names_in (block_now s tree ds i) ++ link ∷ []) → ⊥) at
            (λ has. no_room (waiting ++ change ∷ []) (names_in (block_now s tree ds i)) link (from link (subst (λ (b : List ℕ). Contains (names_in b) link) is_new has))
            (λ c there. filled.full told i low c (subst (λ (xs : List NameChange). Contains xs c) (sym was) there))))
            (cases_lt j count));
        way = λ told once.
            let here = subst (λ (xs : List NameChange). IsUnderWay changes [] xs (names_to s tree ds count) (names_to s tree ds count) (names_of s (Tree tree))) was (filled.way told once) in
            let made = names_to-pushed s tree ds d count pushed.index_is filled.blocks ∙ ap (λ (b : List ℕ). names_to s tree ds count ++ names_in b) pushed.bytes_are in
            subst (λ (ls : List Link). IsUnderWay changes [] waiting' ls ls (names_of s (Tree tree))) (sym made) (step (names_to s tree ds count) (names_of s (Tree tree)) here);
      })

  -- nothing waits any more
  pub filled_changed : (count : ℕ) (ds : List DirtyBlock) → IsFilled Told s tree changes bound count ds [] → Told → AreOnce (names_of s (Tree tree)) → IsChanged changes (names_of s (Tree tree)) (names_to s tree ds count)
  filled_changed count ds filled told once =
      let way = filled.way told once in
      let names = names_to s tree ds count in
      record {
        made = all_from (λ (c : NameChange). number_of c.name.now names ≡ c.number) changes (λ c there. ⊎_elim
            (λ (none : Contains {X = NameChange} [] c). absurd (omega (arith, none.1)))
            (λ (other : Contains {X = NameChange} [] c ⊎ (number_of c.name.now names ≡ c.number)). ⊎_elim (λ (none : Contains {X = NameChange} [] c). absurd (omega (arith, none.1))) (λ (made : number_of c.name.now names ≡ c.number). made) other)
            (way.listed c there));
        others = way.others;
        once = way.once;
      }
