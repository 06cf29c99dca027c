-- Names of blocks that are full, and the size that a directory gets.
use Rattle.std.proofs.Common.{◌≡◌, ◌≢◌, ◌⊎◌, inl, inr, ⊎_elim, ℕ, zero, suc, ◌+◌, ◌-◌, ◌*◌, ◌/◌, ◌<◌, ◌≤◌, ◌==◌, ◌&&◌, Bool, true, false, if◌then◌else◌, List, [], ◌∷◌, ◌++◌, append-nil, length, length-append, flat_map, Option, Some, None, refl, sym, ap, subst, ◌∙◌, arith}
use Rattle.std.specs.Prelude.{All, Contains, is_some, nat_lt}
use Rattle.std.specs.List.{range_with_len, AllByRecursion}
use Rattle.std.specs.Str.{bytes_eq}
use Rattle.std.proofs.lemmas.Bool.{cases_lt, ltb-true, and_parts, leb-true}
use Rattle.std.proofs.lemmas.List.Concat.{flat_map-append}
use Rattle.std.proofs.lemmas.List.Elements.{All-contains, All-from_recursion, All-cons, All-nil}
use Rattle.sn_limits.specs.Names.{is_name_spelled, has_name_length}
use Rattle.sn_limits.specs.Versions.{limits_of}
use Rattle.sn_limits.proofs.VersionLemmas.{fixed}
use Rattle.sn_limits.specs.declared.limits.Limits.{Limits}
use Rattle.sn_layout.specs.Bytes.{zeros}
use Rattle.sn_layout.specs.declared.tree.BlockTree.{BlockTree}
use Rattle.sn_layout_node.specs.Directory.{Link, IsLink, AreLinks, IsDirectoryBlock, link_bytes, links_bytes, number_of, without}
use Rattle.sn_layout_node.specs.declared.content.Content.TheVariants.{Tree}
use Rattle.sn_layout_node.proofs.Links.{length-link}
use Rattle.sn_ondisk.specs.Trees.{Store, data_block}
use Rattle.sn_image.specs.Names.{names_in, names_of}
use Rattle.sn_image.specs.Sound.{AreOnce}
use Rattle.sn_image.proofs.DecodeLemmas.{directory_read}
use Rattle.sn_tree.specs.Dirty.{block_wanted, block_after}
use Rattle.sn_tree.specs.declared.new_block.DirtyBlock.{DirtyBlock}
use Rattle.sn_dir_change.specs.Changes.{IsChanged, times_named}
use Rattle.sn_dir_change.specs.Planned.{AreSpelled, IsSizeWith}
use Rattle.sn_dir_change.specs.Through.{block_now, names_to, IsWanted}
use Rattle.sn_dir_change.specs.declared.name_change.NameChange.{NameChange}
use Rattle.sn_dir_change.proofs.NameLemmas.{same_name, other_name, cases_name, times-first, times-rest, none-times, number-first, number-rest, number-without, times-kept, times-without}
use Rattle.sn_dir_change.proofs.ChangeLemmas.{first_there, more_there}
use Rattle.sn_dir_change.proofs.ThroughLemmas.{flat-more}

-- ---- blocks that spell names

no_names : IsDirectoryBlock (zeros 4096)
no_names = ([], record { fit = record { each = tt; room = omega arith }; bytes = refl })

pub spelled_after : (keep i : ℕ) (ds : List DirtyBlock) (old : List ℕ) → AllByRecursion (λ (d : DirtyBlock). IsDirectoryBlock d.bytes.value) ds → (i < keep → IsDirectoryBlock old) → IsDirectoryBlock (block_after keep ds i old)
unfolding block_wanted
spelled_after keep i [] old all before = either (nat_lt i keep) refl
  where
    either : (b : Bool) → nat_lt i keep ≡ b → IsDirectoryBlock (if b then old else zeros 4096)
    either true is = before (ltb-true i keep is)
    either false is = no_names
spelled_after keep i (d ∷ ds) old all before = either (d.index == i) (spelled_after keep i ds old all.1 before)
  where
    either : (b : Bool) → IsDirectoryBlock (block_after keep ds i old) → IsDirectoryBlock (if b then d.bytes.value else block_after keep ds i old)
    either true later = all.0
    either false later = later

links_in : (block : List ℕ) → IsDirectoryBlock block → AllByRecursion IsLink (names_in block)
links_in block (links, spells) = subst (λ (ls : List Link). AllByRecursion IsLink ls) (sym (directory_read block links spells)) spells.fit.each

-- ---- the bytes of names

name_most : (name : List ℕ) → (is_name_spelled name && has_name_length name) ≡ true → length name ≤ 255
name_most name is = let parts = and_parts (is_name_spelled name) (has_name_length name) is in leb-true (length name) 255 parts.1

short : (link : Link) → IsLink link → length (link_bytes link) ≤ 258
short link is = omega (arith, length-link link, name_most link.name is.name)

links_short : (links : List Link) → AllByRecursion IsLink links → length (links_bytes links) ≤ 258 * length links
links_short [] all = omega arith
links_short (l ∷ ls) all = omega (arith, length-append (link_bytes l) (links_bytes ls), short l all.0, links_short ls all.1)

all_push : (links : List Link) (link : Link) → AllByRecursion IsLink links → IsLink link → AllByRecursion IsLink (links ++ link ∷ [])
all_push [] link all is = (is, tt)
all_push (l ∷ ls) link all is = (all.0, all_push ls link all.1 is)

-- where a name has no room, there are many bytes
no_room_bytes : (links : List Link) (link : Link) → AllByRecursion IsLink links → IsLink link → (AreLinks (links ++ link ∷ []) → ⊥) → 3839 ≤ length (links_bytes links)
no_room_bytes links link all is full = ⊎_elim
    (λ (few : length (links_bytes links) < 3839). absurd (full (record {
      each = all_push links link all is;
      room =
          let joined : length (links_bytes (links ++ link ∷ [])) ≡ length (links_bytes links) + length (links_bytes (link ∷ [])) = ap (λ (bytes : List ℕ). length bytes) (flat_map-append link_bytes links (link ∷ [])) ∙ length-append (links_bytes links) (links_bytes (link ∷ [])) in
          let alone : length (links_bytes (link ∷ [])) ≡ length (link_bytes link) = ap (λ (bytes : List ℕ). length bytes) (append-nil (link_bytes link)) in
          omega (arith, few, joined, alone, short link is);
    })))
    (λ (many : 3839 ≤ length (links_bytes links)). many)
    (cases_lt (length (links_bytes links)) 3839)

-- blocks with many bytes have many names
full_names : (f : ℕ → List Link) (n : ℕ) → ((i : ℕ) → i < n → AllByRecursion IsLink (f i) × (3839 ≤ length (links_bytes (f i)))) → 3839 * n ≤ 258 * length (flat_map f (range_with_len 0 n))
full_names f zero each = omega arith
full_names f (suc n) each =
    let last = each n (omega arith) in
    let before = full_names f n (λ i low. each i (omega (arith, low))) in
    let next : n + 1 ≡ suc n = omega arith in
    let joined : flat_map f (range_with_len 0 (suc n)) ≡ flat_map f (range_with_len 0 n) ++ f n = subst (λ (m : ℕ). flat_map f (range_with_len 0 m) ≡ flat_map f (range_with_len 0 n) ++ f n) next (flat-more f n) in
    let size : length (flat_map f (range_with_len 0 (suc n))) ≡ length (flat_map f (range_with_len 0 n)) + length (f n) = ap (λ (ls : List Link). length ls) joined ∙ length-append (flat_map f (range_with_len 0 n)) (f n) in
    omega (arith, before, size, last.1, links_short (f n) last.0)

-- ---- directories that are one map

once_rest : (link : Link) (links : List Link) → AreOnce (link ∷ links) → AreOnce links
once_rest link links once name = ⊎_elim
    (λ (same : bytes_eq link.name name ≡ true). omega (arith, once name, times-first name link links same))
    (λ (other : bytes_eq link.name name ≡ false). omega (arith, once name, times-rest name link links other))
    (cases_bool (bytes_eq link.name name))
  where
    cases_bool : (b : Bool) → (b ≡ true) ⊎ (b ≡ false)
    cases_bool true = inl refl
    cases_bool false = inr refl

length-without : (name : List ℕ) (links : List Link) → is_some (number_of name links) ≡ true → length (without name links) + 1 ≡ length links
length-without name [] some = absurd cc
length-without name (link ∷ links) some = either (λ more. length-without name links more) (bytes_eq link.name name) refl
  where
    either : (is_some (number_of name links) ≡ true → length (without name links) + 1 ≡ length links) → (b : Bool) → bytes_eq link.name name ≡ b → length (without name (link ∷ links)) + 1 ≡ length (link ∷ links)
    either again true same = let first : without name (link ∷ links) ≡ links = rw same refl in omega (arith, ap (λ (ls : List Link). length ls) first)
    either again false other =
        let rest : without name (link ∷ links) ≡ link ∷ without name links = rw other refl in
        let later = again (ap (λ (o : Option ℕ). is_some o) (sym (number-rest name link links other)) ∙ some) in
        omega (arith, ap (λ (ls : List Link). length ls) rest, later)

once_without : (name : List ℕ) (links : List Link) → AreOnce links → is_some (number_of name links) ≡ true → AreOnce (without name links)
once_without name links once some other = ⊎_elim
    (λ (same : other ≡ name). subst (λ (n : List ℕ). times_named n (without name links) ≤ 1) (sym same) (omega (arith, once name, times-without name links some)))
    (λ (apart : other ≢ name). omega (arith, once other, times-kept name other apart links))
    (cases_name other name)

pub no_more : (xs ys : List Link) → AreOnce xs → AreOnce ys → ((name : List ℕ) → number_of name xs ≡ number_of name ys) → length xs ≤ length ys
no_more [] ys once_x once_y same = omega arith
no_more (x ∷ xs) ys once_x once_y same =
    let name = x.name in
    let own = same_name name name refl in
    let there : number_of name ys ≡ Some x.number = sym (same name) ∙ number-first name x xs own in
    let some : is_some (number_of name ys) ≡ true = ap (λ (o : Option ℕ). is_some o) there in
    let rest = no_more xs (without name ys) (once_rest x xs once_x) (once_without name ys once_y some) (λ other. ⊎_elim
    (λ (is : other ≡ name).
    let no_x : number_of name xs ≡ None = none-times name xs (omega (arith, once_x name, times-first name x xs own)) in
    let no_y : number_of name (without name ys) ≡ None = none-times name (without name ys) (omega (arith, once_y name, times-without name ys some)) in
    subst (λ (n : List ℕ). number_of n xs ≡ number_of n (without name ys)) (sym is) (no_x ∙ sym no_y))
    (λ (apart : other ≢ name).
    sym (number-rest other x xs (other_name x.name other (λ is. apart (sym is)))) ∙ same other ∙ sym (number-without name other apart ys))
    (cases_name other name)) in
    omega (arith, rest, length-without name ys some)

named_or_not : (changes : List NameChange) (name : List ℕ) → ((c : NameChange) × Contains changes c × (c.name.now ≡ name)) ⊎ All (λ (c : NameChange). c.name.now ≢ name) changes
named_or_not [] name = inr (All-nil (λ (c : NameChange). c.name.now ≢ name))
named_or_not (c ∷ cs) name = ⊎_elim
    (λ (same : c.name.now ≡ name). inl (c, first_there c cs, same))
    (λ (other : c.name.now ≢ name). ⊎_elim
    (λ (later : (d : NameChange) × Contains cs d × (d.name.now ≡ name)). inl (later.0, more_there c cs later.0 later.1, later.2))
    (λ (none : All (λ (d : NameChange). d.name.now ≢ name) cs). inr (All-cons (λ (d : NameChange). d.name.now ≢ name) c cs other none))
    (named_or_not cs name))
    (cases_name c.name.now name)

-- two lists that the changes lead to are one map
changed_alike : (changes : List NameChange) (old xs ys : List Link) → IsChanged changes old xs → IsChanged changes old ys → (name : List ℕ) → number_of name xs ≡ number_of name ys
changed_alike changes old xs ys one two name = ⊎_elim
    (λ (named : (c : NameChange) × Contains changes c × (c.name.now ≡ name)).
    let left = All-contains (λ (c : NameChange). number_of c.name.now xs ≡ c.number) changes named.0 one.made named.1 in
    let right = All-contains (λ (c : NameChange). number_of c.name.now ys ≡ c.number) changes named.0 two.made named.1 in
    subst (λ (n : List ℕ). number_of n xs ≡ number_of n ys) named.2 (left ∙ sym right))
    (λ (none : All (λ (c : NameChange). c.name.now ≢ name) changes). one.others name none ∙ sym (two.others name none))
    (named_or_not changes name)

-- ---- the size

module _ (Told : Type 0) (s : Store) (tree : BlockTree) (changes : List NameChange) (size keep : ℕ) (ds : List DirtyBlock) (wanted : IsWanted Told s tree changes size keep ds) where
  abbrev count : ℕ
  count = size / 4096

  spelled_now : AreSpelled s tree → (i : ℕ) → IsDirectoryBlock (block_now s tree ds i)
  spelled_now spelled i = spelled_after (tree.size / 4096) i ds (data_block s tree i) wanted.blocks.spelled (λ low. spelled i (omega (arith, low)))

  -- each block but the last is full
  full_block : Told → AreSpelled s tree → tree.size < size → (i : ℕ) → i < count - 1 → AllByRecursion IsLink (names_in (block_now s tree ds i)) × (3839 ≤ length (links_bytes (names_in (block_now s tree ds i))))
  full_block told spelled grows i low =
      let last = count - 1 in
      let behind : tree.size / 4096 ≤ last = omega (arith, grows, wanted.whole, wanted.least) in
      let within : last < count = omega (arith, low) in
      let there = wanted.some last behind within (omega (arith, low)) in
      let here = links_in (block_now s tree ds i) (spelled_now spelled i) in
      let later = links_in (block_now s tree ds last) (spelled_now spelled last) in
      let is = All-contains IsLink (names_in (block_now s tree ds last)) there.0 (All-from_recursion IsLink (names_in (block_now s tree ds last)) later) there.1 in
      (here, no_room_bytes (names_in (block_now s tree ds i)) there.0 here is (wanted.fit told i last there.0 low behind within there.1))

  pub size_with : IsSizeWith Told s tree changes size
  size_with = record {
    whole = wanted.whole;
    least = wanted.least;
    most = omega (arith, wanted.most, wanted.few);
    few = λ told once spelled grows names changed.
        let most : 3839 * (count - 1) ≤ 258 * length (names_to s tree ds (count - 1)) = full_names (λ (i : ℕ). names_in (block_now s tree ds i)) (count - 1) (full_block told spelled grows) in
        let made = wanted.names told once in
        let all : length (names_to s tree ds count) ≤ length names = no_more (names_to s tree ds count) names made.once changed.once (changed_alike changes (names_of s (Tree tree)) (names_to s tree ds count) names made changed) in
        let next : (count - 1) + 1 ≡ count = omega (arith, grows, wanted.whole) in
        let joined : names_to s tree ds count ≡ names_to s tree ds (count - 1) ++ names_in (block_now s tree ds (count - 1)) = subst (λ (n : ℕ). names_to s tree ds n ≡ names_to s tree ds (count - 1) ++ names_in (block_now s tree ds (count - 1))) next (flat-more (λ (i : ℕ). names_in (block_now s tree ds i)) (count - 1)) in
        let more : length (names_to s tree ds count) ≡ length (names_to s tree ds (count - 1)) + length (names_in (block_now s tree ds (count - 1))) = ap (λ (ls : List Link). length ls) joined ∙ length-append (names_to s tree ds (count - 1)) (names_in (block_now s tree ds (count - 1))) in
        omega (arith, most, all, more);
  }

-- ---- in a version

pub grown_fit : (Told : Type 0) (s : Store) (tree : BlockTree) (changes : List NameChange) (size version : ℕ) (limits : Limits) (names : List Link) → limits_of version ≡ Some limits
    → IsSizeWith Told s tree changes size → Told → AreOnce (names_of s (Tree tree)) → AreSpelled s tree → tree.size ≤ limits.largest_file
    → IsChanged changes (names_of s (Tree tree)) names → length names ≤ limits.names → size ≤ limits.largest_file
grown_fit Told s tree changes size version limits names is sized told once spelled small changed few =
    let its = fixed version limits is in
    let largest = its.least in
    let most = its.names in
    ⊎_elim
    (λ (grows : tree.size < size). omega (arith, sized.few told once spelled grows names changed, sized.whole, few, most, largest))
    (λ (stays : size ≤ tree.size). omega (arith, stays, small))
    (cases_lt tree.size size)
