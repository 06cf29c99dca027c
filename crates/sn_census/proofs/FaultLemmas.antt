-- What the census reports is so.
use Rattle.std.proofs.Common.{◌≡◌, ◌≢◌, ⊎_elim, ℕ, ◌<◌, ◌≤◌, Bool, if◌then◌else◌, List, Option, None, Some, Ok, Err, Result, OnOk, Contains, refl, sym, ap, subst, ◌∙◌, arith}
use Rattle.std.proofs.lemmas.Bool.{cases_eq, eq-eqb, ne_eqb}
use Rattle.sn_block.specs.declared.fault.ReadFault.{ReadFault}
use Rattle.sn_layout.specs.declared.tree.BlockTree.{BlockTree}
use Rattle.sn_layout_node.specs.Directory.{Link}
use Rattle.sn_layout_node.specs.declared.inode.Inode.{Inode}
use Rattle.sn_limits.specs.declared.kind.Kind.{Kind}
use Rattle.sn_model.specs.declared.fault.Damage.{Damage}
use Rattle.sn_ondisk.specs.Trees.{Store}
use Rattle.sn_image.specs.Inodes.{inode_at}
use Rattle.sn_image.specs.Sound.{name_count}
use Rattle.sn_sound.specs.Faults.{IsLinkFault, IsNameIn, leads, named_root, counted, record_block}
use Rattle.sn_marks.specs.declared.fault.CheckFault.{CheckFault}
use Rattle.sn_marks.specs.declared.fault.CheckFault.TheVariants as check
use Rattle.sn_census.specs.Counts.{HasRoom, HasSpare, IsOf, blamed, kind_of, links_under}
use Rattle.sn_census.specs.Faults.{IsAt, at, StandsInLinks}
use Rattle.sn_census.specs.Rows.{links_of, row_at}
use Rattle.sn_census.specs.declared.table.Row.{Row}

-- ---- readers

-- what is reported at a block isn't a block that isn't read
pub never_read : {T : Type 0} (damage : Damage) (block : ℕ) (fault : CheckFault) (result : Result T CheckFault) → result ≡ Err fault → fault ≡ check.Damaged damage block → (read : ReadFault) → result ≢ Err (check.Read read)
never_read damage block fault result here told read is = absurd cc

-- an answer that is never `Ok`
pub never_ok : (P : Type 0) {T : Type 0} (result : Result T CheckFault) → OnOk result ⊥ → OnOk result P
never_ok P (Ok x) never = absurd never
never_ok P (Err fault) never = tt

-- ---- links

pub links_are : (number : ℕ) (inode : Inode) → number ≢ 2 → links_of number inode ≡ inode.links
links_are number inode other = ap (λ (b : Bool). if b then 0 else inode.links) (ne_eqb number 2 other)

pub none_of : (number : ℕ) (inode : Inode) → number ≡ 2 → links_of number inode ≡ 0
none_of number inode same = ap (λ (b : Bool). if b then 0 else inode.links) (eq-eqb number 2 same)

module _ (s : Store) (inodes : BlockTree) (body : ℕ) where
  pub at_stands : (place : ℕ) (damage : Damage) (block : ℕ) → IsLinkFault s inodes body place → IsAt place damage block → StandsInLinks s inodes body damage block
  at_stands place _ _ stands at = stands

  -- a number that has more names than it is to have
  over : (number : ℕ) (inode : Inode) → inode_at s inodes number ≡ Some inode → links_of number inode < name_count s inodes number → IsLinkFault s inodes body (record_block s inodes body number)
  over number inode is more = ⊎_elim
      (λ (same : number ≡ 2). subst (λ (n : ℕ). IsLinkFault s inodes body (record_block s inodes body n)) (sym same)
      (named_root (λ none. omega (arith, none, more, ap (λ (n : ℕ). name_count s inodes n) same))))
      (λ (other : number ≢ 2). counted number inode other is (λ same. omega (arith, more, same, links_are number inode other)))
      (cases_eq number 2)

  -- its name in the block of a pointer is a fault
  pub spare_stands : (names : List Link) (number pointer directory : ℕ) (old new : List Row) → HasRoom s inodes names old → HasSpare names number old new
      → ((name : Link) → Contains names name → IsNameIn s inodes directory name pointer)
      → IsLinkFault s inodes body (blamed s inodes body pointer number (row_at new number).kind)
  spare_stands names number pointer directory old new room spare named = told (inode_at s inodes number) refl
    where
      more : (row_at old number).links < name_count s inodes number
      more = omega (arith, spare.more, room.room number)

      told : (o : Option Inode) → inode_at s inodes number ≡ o → IsLinkFault s inodes body (blamed s inodes body pointer number (row_at new number).kind)
      told None none =
          let kind : (row_at new number).kind ≡ None = spare.kind ∙ (room.of number).kind ∙ ap kind_of none in
          subst (λ (k : Option Kind). IsLinkFault s inodes body (blamed s inodes body pointer number k)) (sym kind)
          (leads directory spare.name pointer (named spare.name spare.among) (ap (inode_at s inodes) spare.is ∙ none))
      told (Some inode) is =
          let kind : (row_at new number).kind ≡ Some inode.kind = spare.kind ∙ (room.of number).kind ∙ ap kind_of is in
          let links : (row_at old number).links ≡ links_of number inode = (room.of number).links ∙ ap (links_under number) is in
          subst (λ (k : Option Kind). IsLinkFault s inodes body (blamed s inodes body pointer number k)) (sym kind)
          (over number inode is (omega (arith, more, links)))

  -- a number that has fewer is one
  pub lacking_stands : (number : ℕ) (row : Row) → IsOf s inodes number row → row.names ≡ name_count s inodes number → row.names ≤ row.links → row.names ≢ row.links
      → IsLinkFault s inodes body (record_block s inodes body number)
  lacking_stands number row of names few apart = told (inode_at s inodes number) refl
    where
      less : row.names < row.links
      less = omega (arith, few, apart)

      told : (o : Option Inode) → inode_at s inodes number ≡ o → IsLinkFault s inodes body (record_block s inodes body number)
      told None none = absurd (omega (arith, less, of.links ∙ ap (links_under number) none))
      told (Some inode) is =
          let links : row.links ≡ links_of number inode = of.links ∙ ap (links_under number) is in
          ⊎_elim
          (λ (same : number ≡ 2). absurd (omega (arith, less, links, none_of number inode same)))
          (λ (other : number ≢ 2). counted number inode other is (λ alike. omega (arith, alike, names, less, links, links_are number inode other)))
          (cases_eq number 2)
