-- The rows of a census.
use Rattle.std.proofs.Common.{◌≡◌, ◌≢◌, ⊎_elim, ℕ, ◌+◌, ◌-◌, ◌/◌, ◌<◌, ◌≤◌, List, ◌++◌, drop, length, replicate, Option, None, Some, sym, ap, ◌∙◌, arith, refl, subst}
use Rattle.std.specs.Prelude.{slice_set}
use Rattle.std.proofs.lemmas.Bool.{cases_eq, cases_lt}
use Rattle.std.proofs.lemmas.List.{get_or_append_left, get_or-append_right, get_or-drop, get_or_past, get_or-replicate, get_or-set_other, get_or-set_same, length-replicate}
use Rattle.sn_limits.specs.declared.kind.Kind.{Kind}
use Rattle.sn_limits.specs.declared.kind.Kind.TheVariants.{Directory}
use Rattle.sn_layout.specs.declared.tree.BlockTree.{BlockTree}
use Rattle.sn_layout_node.specs.declared.inode.Inode.{Inode}
use Rattle.sn_ondisk.specs.Trees.{Store}
use Rattle.sn_image.specs.Inodes.{inode_at}
use Rattle.sn_image.proofs.PointLemmas.{used_in, in_numbers}
use Rattle.sn_census.specs.Climbs.{KeepsRow, KeepsRows}
use Rattle.sn_census.specs.Rows.{AreLoaded, AreUnused, Sets, row_at, row_of, unused_row}
use Rattle.sn_census.specs.declared.table.Row.{Row}

pub row_same : (row : Row) → KeepsRow row row
row_same row = record { kind = refl; names = refl; parent = refl }

pub kept_joined : (a b c : Row) → KeepsRow a b → KeepsRow b c → KeepsRow a c
kept_joined a b c first second = record { kind = second.kind ∙ first.kind; names = second.names ∙ first.names; parent = second.parent ∙ first.parent }

pub rows_kept : (number : ℕ) (row : Row) (old new : List Row) → Sets number row old new → KeepsRow (row_at old number) row → KeepsRows old new
rows_kept number row old new put kept n = ⊎_elim
    (λ (same : n ≡ number). subst (λ (k : ℕ). KeepsRow (row_at old k) (row_at new k)) (sym same) (subst (KeepsRow (row_at old number)) (sym put.here) kept))
    (λ (other : n ≢ number). subst (KeepsRow (row_at old n)) (sym (put.others n other)) (row_same (row_at old n)))
    (cases_eq n number)

pub sets_row : (rows : List Row) (number : ℕ) (row : Row) → number < length rows → Sets number row rows (slice_set rows number row)
sets_row rows number row within = record {
  here = get_or-set_same rows number row unused_row within;
  others = λ n apart. get_or-set_other rows number n row unused_row apart;
}

-- ---- rows of unused numbers

pub unused_full : (row : Row) → row ≡ unused_row → row.names ≡ row.links
unused_full row is = ap (λ (r : Row). r.names) is ∙ sym (ap (λ (r : Row). r.links) is)

pub unused_kind : (row : Row) → row ≡ unused_row → row.kind ≡ Some Directory → ⊥
unused_kind row is kind = never Directory (sym (ap (λ (r : Row). r.kind) is) ∙ kind)
  where
    never : (k : Kind) → None ≡ Some k → ⊥
    never k same = cc

-- after a row that was set they stay so
pub unused_behind : (begin number end : ℕ) (row : Row) (old new : List Row) → Sets number row old new → begin ≤ end → number < end → AreUnused begin old → AreUnused end new
unused_behind begin number end row old new put least below unused n behind = put.others n (λ (same : n ≡ number). omega (arith, same, below, behind)) ∙ unused n (omega (arith, least, behind))

unused_at : (count n : ℕ) → row_at (replicate count unused_row) n ≡ unused_row
unused_at count n = ⊎_elim
    (λ (below : n < count). get_or-replicate count n unused_row unused_row below)
    (λ (behind : count ≤ n). get_or_past (replicate count unused_row) n unused_row (omega (arith, behind, length-replicate count unused_row)))
    (cases_lt n count)

pub unused_none : (count : ℕ) (rows : List Row) → rows ≡ replicate count unused_row → AreUnused 0 rows
unused_none count rows is n least = ap (λ (them : List Row). row_at them n) is ∙ unused_at count n

-- those before are made so
pub unused_all : (begin : ℕ) (rows : List Row) → AreUnused begin rows → AreUnused 0 (replicate begin unused_row ++ drop begin rows)
unused_all begin rows unused n least = ⊎_elim
    (λ (below : n < begin). get_or_append_left (replicate begin unused_row) (drop begin rows) unused_row n (omega (arith, below, size)) ∙ unused_at begin n)
    (λ (behind : begin ≤ n). get_or-append_right (replicate begin unused_row) (drop begin rows) begin n unused_row size behind ∙ get_or-drop begin rows (n - begin) unused_row ∙ unused (begin + (n - begin)) (omega (arith, behind)))
    (cases_lt n begin)
  where
    size : length (replicate begin unused_row) ≡ begin
    size = length-replicate begin unused_row

-- ---- rows that are loaded

module _ (s : Store) (inodes : BlockTree) where
  -- a number that the inode file has no record for has no inode
  pub no_inode : (number : ℕ) → inodes.size / 128 ≤ number → inode_at s inodes number ≡ None
  no_inode number past = told (inode_at s inodes number) refl
    where
      told : (o : Option Inode) → inode_at s inodes number ≡ o → inode_at s inodes number ≡ None
      told None e = e
      told (Some inode) e = absurd (omega (arith, past, (in_numbers inodes number (used_in s inodes number inode e)).1))

  pub loaded_none : (rows : List Row) → AreLoaded s inodes 0 rows
  loaded_none rows number within = absurd (omega (arith, within))

  pub loaded_more : (n : ℕ) (old new : List Row) → AreLoaded s inodes n old → Sets n (row_of n (inode_at s inodes n)) old new → AreLoaded s inodes (n + 1) new
  loaded_more n old new loaded put number within = ⊎_elim
      (λ (same : number ≡ n). ap (λ (k : ℕ). row_at new k) same ∙ put.here ∙ ap (λ (k : ℕ). row_of k (inode_at s inodes k)) (sym same))
      (λ (other : number ≢ n). put.others number other ∙ loaded number (omega (arith, within, other)))
      (cases_eq number n)
