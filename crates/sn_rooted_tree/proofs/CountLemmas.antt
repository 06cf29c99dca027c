-- The names of a root's tree, counted directory by directory.
use Rattle.std.proofs.Common.{◌≡◌, ◌≢◌, ◌⊎◌, inl, inr, ⊎_elim, ℕ, zero, suc, ◌+◌, ◌-◌, ◌^◌, ◌<◌, ◌≤◌, ◌==◌, Bool, IsTrue, true, false, cond, min, List, [], ◌∷◌, length, get_or, replicate, filter, map, Some, Contains, refl, sym, ap, subst, ◌∙◌, arith, eq-eqb, eqb-true}
use Rattle.std.specs.declared.cmp.Ordering.{Ordering}
use Rattle.std.specs.declared.cmp.Ordering.TheVariants.{Less, Equal, Greater}
use Rattle.std.specs.Cmp.{nat_cmp_total}
use Rattle.std.specs.FinMap as fin
use Rattle.std.specs.FinMap.Entries.{find}
use Rattle.std.specs.Ordering.{is_eq}
use Rattle.std.proofs.lemmas.Bool.{cases_lt, false_from_ne_true, true≢false}
use Rattle.std.proofs.lemmas.List.{get_or_default, get_or_past, get_or-replicate, length-map, length-replicate}
use Rattle.std.proofs.lemmas.List.Sums.{length-filter}
use Rattle.std.proofs.lemmas.Map.Lookups.{exact_unsigned}
use Rattle.sn_dir.specs.declared.listings.ListedName.{ListedName}
use Rattle.sn_device.specs.Disk.{Disk, reads}
use Rattle.sn_device.specs.declared.status.Status.{Status}
use Rattle.sn_directories.specs.Told.{SetsNames, SetsParent, TellsDirectories, counted_at, nothing_counted}
use Rattle.sn_directories.specs.declared.table.Counted.{Counted}
use Rattle.sn_limits.specs.declared.kind.Kind.TheVariants.{Directory}
use Rattle.sn_image.specs.Image.{image}
use Rattle.sn_layout.specs.declared.tree.BlockTree.{BlockTree}
use Rattle.sn_limits.specs.declared.limits.Limits.{Limits}
use Rattle.sn_limits.specs.Versions.{limits_written}
use Rattle.sn_model.specs.declared.link.Link.{Link}
use Rattle.sn_model.specs.NameTree.{HasKind, IsTree}
use Rattle.sn_model.specs.Seen.{names_of}
use Rattle.sn_model.specs.Tree.{Node, Tree, link_cmp, link_to, names_in}
use Rattle.sn_model.proofs.ChainLemmas.{some_same}
use Rattle.sn_model.proofs.CountLemmas.{count_none}
use Rattle.sn_model.proofs.LinkLemmas.{exact_links, links_total}
use Rattle.sn_model.proofs.MapLemmas.{same_or_apart}
use Rattle.sn_model.proofs.MoveLemmas.{some_node}
use Rattle.sn_ondisk.specs.Trees.{store_of}
use Rattle.sn_rooted.specs.Roots.{IsSoundRoot}
use Rattle.sn_rooted_tree.proofs.LookLemmas.{stays_sound}
use Rattle.sn_rooted_tree.specs.Counting.{AreCounted, HasName, IsAmong, NotesNames}

-- ---- the names of a directory

abbrev names_under : ℕ → List (Link × ℕ) → List (List ℕ)
names_under d es = map (λ (e : Link × ℕ). e.0.name) (filter (λ (e : Link × ℕ). e.0.directory == d) es)

pub later : {X : Type 0} (x y : X) (xs : List X) → Contains xs x → Contains (y ∷ xs) x
later x y xs (k, within, is) = (suc k, omega (arith, within), is)

-- what is found has its name among those of its directory
name_listed : (es : List (Link × ℕ)) (q : Link) (n d : ℕ) → find link_cmp q es ≡ Some n → q.directory ≡ d → Contains (names_under d es) q.name
name_listed [] q n d e same = cc e
name_listed (e ∷ es) q n d found same = by_order (link_cmp q e.0) refl found (λ later_found. name_listed es q n d later_found same)
  where
    kept : (b : Bool) → (e.0.directory == d) ≡ b → Contains (names_under d es) q.name → Contains (map (λ (x : Link × ℕ). x.0.name) (cond b (e ∷ filter (λ (x : Link × ℕ). x.0.directory == d) es) (filter (λ (x : Link × ℕ). x.0.directory == d) es))) q.name
    kept true t rest = later q.name e.0.name (names_under d es) rest
    kept false t rest = rest

    first : (b : Bool) → (e.0.directory == d) ≡ b → q ≡ e.0 → Contains (map (λ (x : Link × ℕ). x.0.name) (cond b (e ∷ filter (λ (x : Link × ℕ). x.0.directory == d) es) (filter (λ (x : Link × ℕ). x.0.directory == d) es))) q.name
    first true t is = (0, omega arith, ap (λ (l : Link). l.name) (sym is))
    first false t is = absurd (true≢false (sym (eq-eqb e.0.directory d (ap (λ (l : Link). l.directory) (sym is) ∙ same)) ∙ t))

    by_order : (o : Ordering) → link_cmp q e.0 ≡ o → cond (is_eq o) (Some e.1) (find link_cmp q es) ≡ Some n → (find link_cmp q es ≡ Some n → Contains (names_under d es) q.name) → Contains (names_under d (e ∷ es)) q.name
    by_order Less t f rest = kept (e.0.directory == d) refl (rest f)
    by_order Equal t f rest = first (e.0.directory == d) refl (exact_links q e.0 t)
    by_order Greater t f rest = kept (e.0.directory == d) refl (rest f)

-- a listed name with these bytes
listed_name : (names : List ListedName) (name : List ℕ) → Contains (map (λ (listed : ListedName). listed.name) names) name → (listed : ListedName) × Contains names listed × (listed.name ≡ name)
listed_name [] name (k, within, is) = absurd (omega (arith, within))
listed_name (x ∷ xs) name (zero, within, is) = (x, (0, omega arith, refl), is)
listed_name (x ∷ xs) name (suc k, within, is) =
    let rest = listed_name xs name (k, omega (arith, within), is) in
    (rest.0, later rest.0 x xs rest.1, rest.2)

-- ---- one directory more

module _ (tree : Tree) (d : ℕ) (names : List ListedName) (listed : map (λ (x : ListedName). x.name) names ≡ names_of tree d) (numbers : (x : ListedName) → Contains names x → fin.get tree.links (link_to d x.name) ≡ Some x.number) where
  pub count_is : length names ≡ names_in tree d
  count_is = sym (length-map names (λ (x : ListedName). x.name)) ∙ ap length listed ∙ length-map (filter (λ (e : Link × ℕ). e.0.directory == d) (fin.entries tree.links)) (λ (e : Link × ℕ). e.0.name) ∙ length-filter (λ (e : Link × ℕ). e.0.directory == d) (fin.entries tree.links)

  among : (link : Link) (number : ℕ) → link.directory ≡ d → fin.get tree.links link ≡ Some number → IsAmong names number
  among link number same e =
      let found = listed_name names link.name (subst (λ (ns : List (List ℕ)). Contains ns link.name) (sym listed) (name_listed (fin.entries tree.links) link number d (sym (fin.get-entries tree.links link) ∙ e) same)) in
      let named : link_to d found.0.name ≡ link = (λ i. record { directory = sym same i; name = found.2 i }) in
      (found.0, found.1, some_same _ _ (sym (numbers found.0 found.1) ∙ ap (fin.get tree.links) named ∙ e))

  pub one_more : (old mid new : List Counted) (count : ℕ) → count ≡ min (length names) (2 ^ 32 - 1) → names_in tree d ≤ 65535 → AreCounted tree d old → SetsNames d count old mid → NotesNames d names mid new → AreCounted tree (d + 1) new
  one_more old mid new count is few before sets notes = record {
    names = names_are;
    none_later = λ n behind. notes.kept n ∙ sets.others n (λ (same : n ≡ d). omega (arith, same, behind)) ∙ before.none_later n (omega (arith, behind));
    parents = parents_are;
  }
    where
      names_are : (n : ℕ) → n < d + 1 → (counted_at new n).names ≡ names_in tree n
      names_are n below = notes.kept n ∙ told (same_or_apart nat_cmp_total exact_unsigned n d)
        where
          told : (n ≡ d) ⊎ (n ≢ d) → (counted_at mid n).names ≡ names_in tree n
          told (inl same) = ap (λ k. (counted_at mid k).names) same ∙ sets.here ∙ (let long : count ≡ names_in tree d = omega (arith, is, few, count_is) in long) ∙ ap (names_in tree) (sym same)
          told (inr apart) = sets.others n apart ∙ before.names n (omega (arith, below, apart))

      parents_are : (link : Link) (number : ℕ) → link.directory < d + 1 → fin.get tree.links link ≡ Some number → HasName tree (counted_at new number).parent number
      parents_are link number below e = told (same_or_apart nat_cmp_total exact_unsigned link.directory d) (notes.others number)
        where
          told : (link.directory ≡ d) ⊎ (link.directory ≢ d) → ((counted_at new number).parent ≡ (counted_at mid number).parent) ⊎ (IsAmong names number × ((counted_at new number).parent ≡ d)) → HasName tree (counted_at new number).parent number
          told (inl same) o = (link, e, same ∙ sym (notes.among number (among link number same e)))
          told (inr apart) (inl stays) =
              let was = before.parents link number (omega (arith, below, apart)) e in
              (was.0, was.1, was.2 ∙ sym (stays ∙ sets.parents number))
          told (inr apart) (inr here) =
              let x = here.0.0 in
              (link_to d x.name, numbers x here.0.1 ∙ ap (λ (k : ℕ). Some k) here.0.2, sym here.1)

-- ---- the names of one directory are noted

-- those before a place are
pub record IsNoting (d : ℕ) (names : List ListedName) (i : ℕ) (old now : List Counted) : Type 0 where
  pub among : (k : ℕ) (other : ListedName) → k < i → (counted_at now (get_or names k other).number).parent ≡ d
  pub others : (n : ℕ) → ((counted_at now n).parent ≡ (counted_at old n).parent) ⊎ (IsAmong names n × ((counted_at now n).parent ≡ d))
  pub names_stay : (n : ℕ) → (counted_at now n).names ≡ (counted_at old n).names

module _ (d : ℕ) (names : List ListedName) (old : List Counted) where
  pub noting_none : IsNoting d names 0 old old
  noting_none = record { among = λ k other below. absurd (omega (arith, below)); others = λ n. inl refl; names_stay = λ n. refl }

  module _ (i : ℕ) (now next : List Counted) (x : ListedName) (within : i < length names) (is : x ≡ get_or names i x) (noting : IsNoting d names i old now) (sets : SetsParent x.number d now next) where
    pub noting_more : IsNoting d names (i + 1) old next
    noting_more = record { among = among_more; others = others_more; names_stay = λ n. sets.names n ∙ noting.names_stay n }
      where
        among_more : (k : ℕ) (other : ListedName) → k < i + 1 → (counted_at next (get_or names k other).number).parent ≡ d
        among_more k other below = told (same_or_apart nat_cmp_total exact_unsigned (get_or names k other).number x.number) (same_or_apart nat_cmp_total exact_unsigned k i)
          where
            told : ((get_or names k other).number ≡ x.number) ⊎ ((get_or names k other).number ≢ x.number) → (k ≡ i) ⊎ (k ≢ i) → (counted_at next (get_or names k other).number).parent ≡ d
            told (inl same) at = ap (λ n. (counted_at next n).parent) same ∙ sets.here
            told (inr apart) (inl at) =
                let here : get_or names k other ≡ x = ap (λ j. get_or names j other) at ∙ get_or_default names i other x within ∙ sym is in
                absurd (apart (ap (λ (l : ListedName). l.number) here))
            told (inr apart) (inr earlier) = sets.others (get_or names k other).number apart ∙ noting.among k other (omega (arith, below, earlier))

        others_more : (n : ℕ) → ((counted_at next n).parent ≡ (counted_at old n).parent) ⊎ (IsAmong names n × ((counted_at next n).parent ≡ d))
        others_more n = told (same_or_apart nat_cmp_total exact_unsigned n x.number) (noting.others n)
          where
            told : (n ≡ x.number) ⊎ (n ≢ x.number) → ((counted_at now n).parent ≡ (counted_at old n).parent) ⊎ (IsAmong names n × ((counted_at now n).parent ≡ d)) → ((counted_at next n).parent ≡ (counted_at old n).parent) ⊎ (IsAmong names n × ((counted_at next n).parent ≡ d))
            told (inl same) o = inr ((x, (i, within, sym is), sym same), ap (λ k. (counted_at next k).parent) same ∙ sets.here)
            told (inr apart) (inl stays) = inl (sets.others n apart ∙ stays)
            told (inr apart) (inr here) = inr (here.0, sets.others n apart ∙ here.1)

  pub noted : (i : ℕ) (now : List Counted) → length names ≤ i → IsNoting d names i old now → NotesNames d names old now
  noted i now all noting = record {
    among = λ n found.
        let k = found.1.0 in
        ap (λ (m : ℕ). (counted_at now m).parent) (sym found.2)
        ∙ ap (λ (l : ListedName). (counted_at now l.number).parent) (sym found.1.2)
        ∙ noting.among k found.0 (omega (arith, found.1.1, all));
    others = noting.others;
    kept = noting.names_stay;
  }

-- ---- all of them

nothing_at : (n d : ℕ) → counted_at (replicate n nothing_counted) d ≡ nothing_counted
nothing_at n d = ⊎_elim
    (λ (below : d < n). get_or-replicate n d nothing_counted nothing_counted below)
    (λ (behind : n ≤ d). get_or_past (replicate n nothing_counted) d nothing_counted (omega (arith, behind, length-replicate n nothing_counted)))
    (cases_lt d n)

pub none_counted : (tree : Tree) (n : ℕ) (rows : List Counted) → rows ≡ replicate n nothing_counted → AreCounted tree 0 rows
none_counted tree n rows is = record {
  names = λ d below. absurd (omega (arith, below));
  none_later = λ d behind. ap (λ (them : List Counted). (counted_at them d).names) is ∙ ap (λ (c : Counted). c.names) (nothing_at n d);
  parents = λ link number below e. absurd (omega (arith, below));
}

-- where each node has a number below an end
module _ (tree : Tree) (whole : IsTree limits_written tree) (end : ℕ) (within : (number : ℕ) (node : Node) → fin.get tree.nodes number ≡ Some node → number < end) where
  low : (link : Link) (number : ℕ) → fin.get tree.links link ≡ Some number → link.directory < end
  low link number e =
      let found = some_node _ Directory (whole.hierarchy.held link number e) in
      within link.directory found.0 found.1

  none_high : (d : ℕ) → end ≤ d → names_in tree d ≡ 0
  none_high d high = count_none links_total exact_links (λ (e : Link × ℕ). e.0.directory == d) tree.links (λ q v e. false_from_ne_true (q.directory == d) (λ t. absurd (let same : q.directory ≡ d = eqb-true q.directory d t in omega (arith, same, high, low q v e))))

  pub all_counted : (rows : List Counted) → AreCounted tree end rows → TellsDirectories tree rows
  all_counted rows counted = record { names = names; parents = parents }
    where
      names : (d : ℕ) → (counted_at rows d).names ≡ names_in tree d
      names d = told (cases_lt d end)
        where
          told : (d < end) ⊎ (end ≤ d) → (counted_at rows d).names ≡ names_in tree d
          told (inl below) = counted.names d below
          told (inr high) = counted.none_later d high ∙ sym (none_high d high)

      parents : (link : Link) (number : ℕ) → fin.get tree.links link ≡ Some number → HasKind tree number Directory → (counted_at rows number).parent ≡ link.directory
      parents link number e kind =
          let has = counted.parents link number (low link number e) e in
          sym has.2 ∙ ap (λ (l : Link). l.directory) (whole.hierarchy.once has.0 link number kind has.1 e)

-- ---- on a device that is as it was

pub counted_on : (told : Bool) (old new : Status) (before now : Disk) (limits : Limits) (file : BlockTree) (k : ℕ) (rows next : List Counted) → new ≡ old → (IsTrue told → now ≡ before) → IsTrue told → IsSoundRoot limits old.sectors (store_of (reads before)) file
    → AreCounted (image (store_of (reads before)) file) k rows
    → (IsSoundRoot limits new.sectors (store_of (reads now)) file → AreCounted (image (store_of (reads now)) file) k rows → AreCounted (image (store_of (reads now)) file) (k + 1) next)
    → AreCounted (image (store_of (reads before)) file) (k + 1) next
counted_on told old new before now limits file k rows next status same is root counted step =
    subst (λ (d : Disk). AreCounted (image (store_of (reads d)) file) (k + 1) next) (same is)
    (step (stays_sound told old.sectors new.sectors before now limits file (ap (λ (s : Status). s.sectors) status) same (λ here. root) is)
    (subst (λ (d : Disk). AreCounted (image (store_of (reads d)) file) k rows) (sym (same is)) counted))
