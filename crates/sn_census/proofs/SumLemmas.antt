-- The names in all directories, one directory after the other.
use Rattle.std.proofs.Common.{◌≡◌, ◌⊎◌, inl, inr, ⊎_elim, ℕ, zero, suc, ◌+◌, ◌-◌, ◌/◌, ◌<◌, ◌≤◌, ◌==◌, Bool, true, false, cond, List, [], ◌∷◌, ◌++◌, Option, None, Some, Contains, count_by, sum_by, refl, sym, ap, subst, ◌∙◌, arith}
use Rattle.std.specs.List.{range_with_len}
use Rattle.std.proofs.lemmas.Bool.{cases_lt, eqb-true}
use Rattle.std.proofs.lemmas.List.Sums.{sum_by-cons, sum_by_push}
use Rattle.sn_layout.specs.declared.tree.BlockTree.{BlockTree}
use Rattle.sn_layout_node.specs.Directory.{Link}
use Rattle.sn_layout_node.specs.declared.content.Content.TheVariants.{Tree}
use Rattle.sn_layout_node.specs.declared.inode.Inode.{Inode}
use Rattle.sn_ondisk.specs.Trees.{Store, data_block}
use Rattle.sn_image.specs.Inodes.{inode_at}
use Rattle.sn_image.specs.Names.{names_at, names_in, names_of, names_under}
use Rattle.sn_image.specs.Reach.{numbers}
use Rattle.sn_image.specs.Sound.{name_count}
use Rattle.sn_dir.specs.Blocks.{names_before}
use Rattle.sn_dir.proofs.NameLemmas.{range-more, before-more, before-front}
use Rattle.sn_census.specs.Counts.{AreCounted, Counts, HasName, HasRoom, IsOf, kind_of, links_under, names_below, times_in}
use Rattle.sn_census.specs.Rows.{AreLoaded, AreUnused, row_at, row_of}
use Rattle.sn_census.specs.declared.table.Row.{Row}
use Rattle.sn_census.proofs.CountLemmas.{times_append}
use Rattle.sn_census.proofs.RowLemmas.{no_inode}

-- what is counted is there
pub count_some : {A : Type 0} (p : A → Bool) (xs : List A) → 0 < count_by p xs → (x : A) × Contains xs x × (p x ≡ true)
count_some p [] some = absurd (omega (arith, some))
count_some {A} p (x ∷ xs) some = told (p x) refl (count_some p xs)
  where
    told : (b : Bool) → p x ≡ b → (0 < count_by p xs → (y : A) × Contains xs y × (p y ≡ true)) → (y : A) × Contains (x ∷ xs) y × (p y ≡ true)
    told true is later = (x, (0, omega arith, refl), is)
    told false is later =
        let w = later (omega (arith, some, sum_by-cons (λ (y : A). cond (p y) 1 0) x xs, ap {B = ℕ} (λ (b : Bool). cond b 1 0) is)) in
        (w.0, (suc w.1.0, omega (arith, w.1.1), w.1.2), w.2)

pub name_among : (number : ℕ) (names : List Link) → 0 < times_in number names → (name : Link) × Contains names name × (name.number ≡ number)
name_among number names some = let w = count_some (λ (l : Link). l.number == number) names some in (w.0, w.1, eqb-true w.0.number number w.2)

module _ (s : Store) (inodes : BlockTree) where
  abbrev in_directory : ℕ → ℕ → ℕ
  in_directory number directory = times_in number (names_at s inodes directory)

  -- ---- sums

  pub below_more : (end number : ℕ) → 2 ≤ end → names_below s inodes (end + 1) number ≡ names_below s inodes end number + times_in number (names_at s inodes end)
  below_more end number least =
      let next : end + 1 - 2 ≡ suc (end - 2) = omega (arith, least) in
      let last : 2 + (end - 2) ≡ end = omega (arith, least) in
      ap (λ (n : ℕ). sum_by (in_directory number) (range_with_len 2 n)) next
      ∙ ap (λ (xs : List ℕ). sum_by (in_directory number) xs) (range-more 2 (end - 2) ∙ ap (λ (k : ℕ). range_with_len 2 (end - 2) ++ k ∷ []) last)
      ∙ sum_by_push (in_directory number) (range_with_len 2 (end - 2)) end

  further : (end more number : ℕ) → 2 ≤ end → names_below s inodes end number ≤ names_below s inodes (end + more) number
  further end zero number least = omega (arith, ap (λ (n : ℕ). names_below s inodes n number) (here end))
    where
      here : (n : ℕ) → n + 0 ≡ n
      here n = omega arith
  further end (suc more) number least =
      let next : end + suc more ≡ end + more + 1 = omega arith in
      omega (arith, further end more number least, ap (λ (n : ℕ). names_below s inodes n number) next, below_more (end + more) number (omega (arith, least)))

  pub below_less : (end all number : ℕ) → 2 ≤ end → end ≤ all → names_below s inodes end number ≤ names_below s inodes all number
  below_less end all number least most =
      let there : end + (all - end) ≡ all = omega (arith, most) in
      omega (arith, further end (all - end) number least, ap (λ (n : ℕ). names_below s inodes n number) there)

  pub below_all : (number : ℕ) → name_count s inodes number ≡ names_below s inodes (inodes.size / 128) number
  unfolding numbers
  below_all number = refl

  -- ---- names of a number

  pub none_at : (number : ℕ) → inode_at s inodes number ≡ None → names_at s inodes number ≡ []
  unfolding names_at
  none_at number none = ap (names_under s) none

  -- ---- before names are counted

  row_is : (o : Option Inode) (number : ℕ) → ((row_of number o).kind ≡ kind_of o) × ((row_of number o).links ≡ links_under number o) × ((row_of number o).names ≡ 0) × ((row_of number o).climb ≡ 0)
  row_is None number = (refl, refl, refl, refl)
  row_is (Some inode) number = (refl, refl, refl, refl)

  pub counted_begun : (end : ℕ) (rows : List Row) → inodes.size / 128 ≤ end → AreLoaded s inodes end rows → AreUnused end rows → AreCounted s inodes 2 rows
  counted_begun end rows most loaded unused number =
      let row : row_at rows number ≡ row_of number (inode_at s inodes number) = ⊎_elim
      (λ (under : number < end). loaded number under)
      (λ (over : end ≤ number). unused number over ∙ ap (λ (o : Option Inode). row_of number o) (sym (no_inode s inodes number (omega (arith, most, over)))))
      (cases_lt number end) in
      let w = row_is (inode_at s inodes number) number in
      let names : (row_at rows number).names ≡ 0 = ap (λ (r : Row). r.names) row ∙ w.2 in
      record {
        of = record { kind = ap (λ (r : Row). r.kind) row ∙ w.0; links = ap (λ (r : Row). r.links) row ∙ w.1 };
        names = names;
        few = omega (arith, names);
        parent = λ some. absurd (omega (arith, names, some));
        climb = ap (λ (r : Row). r.climb) row ∙ w.3;
      }

  -- ---- a directory more

  counts_of : (directory number : ℕ) (names : List Link) (old new : List Row) → Counts directory names old new → IsOf s inodes number (row_at old number) → IsOf s inodes number (row_at new number)
  counts_of directory number names old new counts of = record { kind = (counts number).kind ∙ of.kind; links = (counts number).links ∙ of.links }

  pub counted_more : (end : ℕ) (old new : List Row) → 2 ≤ end → AreCounted s inodes end old → Counts end (names_at s inodes end) old new → AreCounted s inodes (end + 1) new
  counted_more end old new least counted counts number = record {
    of = counts_of end number (names_at s inodes end) old new counts (counted number).of;
    names = omega (arith, (counts number).names, (counted number).names, below_more end number least);
    few = (counts number).few (counted number).few;
    parent = λ some. told some (counts number).parent;
    climb = (counts number).climb ∙ (counted number).climb;
  }
    where
      told : 0 < (row_at new number).names
          → ((times_in number (names_at s inodes end) ≡ 0) × ((row_at new number).parent ≡ (row_at old number).parent)) ⊎ ((0 < times_in number (names_at s inodes end)) × ((row_at new number).parent ≡ end))
          → HasName s inodes (row_at new number).parent number
      told some (inl (none, stays)) = subst (λ (d : ℕ). HasName s inodes d number) (sym stays) ((counted number).parent (omega (arith, some, none, (counts number).names)))
      told some (inr (here, is)) = subst (λ (d : ℕ). HasName s inodes d number) (sym is) (name_among number (names_at s inodes end) here)

  pub room_next : (end : ℕ) (rows : List Row) → 2 ≤ end → end < inodes.size / 128 → AreCounted s inodes end rows → HasRoom s inodes (names_at s inodes end) rows
  room_next end rows least within counted = record {
    of = λ number. (counted number).of;
    room = λ number. omega (arith, (counted number).names, below_more end number least, below_less (end + 1) (inodes.size / 128) number (omega (arith, least)) (omega (arith, within)), below_all number);
  }

  pub counted_all : (end : ℕ) (rows : List Row) → end ≡ inodes.size / 128 → AreCounted s inodes end rows → AreCounted s inodes (inodes.size / 128) rows
  counted_all end rows all counted = subst (λ (n : ℕ). AreCounted s inodes n rows) all counted

  -- ---- a block more

  module _ (directory : ℕ) (tree : BlockTree) (i : ℕ) (old new : List Row) (counts : Counts directory (names_before s tree i) old new) where
    pub room_block : i < tree.size / 4096 → HasRoom s inodes (names_of s (Tree tree)) old → HasRoom s inodes (names_in (data_block s tree i)) new
    room_block within room =
        let w = before-front s tree (i + 1) (tree.size / 4096) (omega (arith, within)) in
        record {
          of = λ number. counts_of directory number (names_before s tree i) old new counts (room.of number);
          room = λ number. omega (
            arith,
            room.room number,
            (counts number).names,
            ap (λ (xs : List Link). times_in number xs) (before-more s tree i),
            times_append number (names_before s tree i) (names_in (data_block s tree i)),
            ap (λ (xs : List Link). times_in number xs) w.1,
            times_append number (names_before s tree (i + 1)) w.0,
          );
        }
