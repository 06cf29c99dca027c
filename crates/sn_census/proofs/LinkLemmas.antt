-- When a root whose names are counted is linked.
use Rattle.std.proofs.Common.{◌≡◌, ◌≢◌, ⊎_elim, ℕ, ◌/◌, ◌<◌, ◌≤◌, List, Option, None, Some, Contains, refl, sym, ap, subst, ◌∙◌, arith}
use Rattle.std.specs.Prelude.{is_some, true}
use Rattle.std.proofs.lemmas.Bool.{cases_eq}
use Rattle.sn_limits.specs.declared.kind.Kind.{Kind}
use Rattle.sn_limits.specs.declared.kind.Kind.TheVariants.{Directory}
use Rattle.sn_limits.specs.declared.limits.Limits.{Limits}
use Rattle.sn_layout.specs.declared.tree.BlockTree.{BlockTree}
use Rattle.sn_layout_node.specs.Directory.{Link}
use Rattle.sn_layout_node.specs.declared.inode.Inode.{Inode}
use Rattle.sn_model.specs.declared.link.Link.{Link as TreeLink}
use Rattle.sn_ondisk.specs.Trees.{Store}
use Rattle.sn_image.specs.Inodes.{inode_at}
use Rattle.sn_image.specs.Names.{names_at}
use Rattle.sn_image.specs.Sound.{IsLinked, IsReached, root, below, name_count}
use Rattle.sn_image.proofs.PointLemmas.{used_in, in_numbers}
use Rattle.sn_image.proofs.SoundNameLemmas.{counted, counted_twice, named_directory, one_link}
use Rattle.sn_sound.specs.Faults.{IsLinkFault, apart, record_block}
use Rattle.sn_census.specs.Climbs.{KeepsRows, LeadsUp, parents_of}
use Rattle.sn_census.specs.Climbs as climb
use Rattle.sn_census.specs.Counts.{AreCounted, HasFound, HasName, kind_of, links_under}
use Rattle.sn_census.specs.Roots.{IsReadable}
use Rattle.sn_census.specs.Rows.{links_of, row_at}
use Rattle.sn_census.specs.declared.table.Row.{Row}
use Rattle.sn_census.proofs.FaultLemmas.{links_are, none_of}
use Rattle.sn_census.proofs.SumLemmas.{below_all}

module _ (limits : Limits) (sectors : ℕ) (s : Store) (inodes : BlockTree) (readable : IsReadable limits sectors s inodes) (rows : List Row) (all : AreCounted s inodes (inodes.size / 128) rows) where
  pub names_are : (number : ℕ) → (row_at rows number).names ≡ name_count s inodes number
  names_are number = (all number).names ∙ sym (below_all s inodes number)

  named : (directory : ℕ) (name : Link) → Contains (names_at s inodes directory) name → 0 < (row_at rows name.number).names
  named directory name among = omega (arith, counted s inodes directory name among, names_are name.number)

  links : (number : ℕ) (inode : Inode) → inode_at s inodes number ≡ Some inode → (row_at rows number).links ≡ links_of number inode
  links number inode is = (all number).of.links ∙ ap (links_under number) is

  numbered : (number : ℕ) (inode : Inode) → inode_at s inodes number ≡ Some inode → (2 ≤ number) × (number < 65536)
  numbered number inode is = let w = in_numbers inodes number (used_in s inodes number inode is) in (w.0, omega (arith, w.1, readable.most))

  single : (number : ℕ) (inode : Inode) → inode_at s inodes number ≡ Some inode → inode.kind ≡ Directory → inode.links ≡ 1
  single number inode is kind = one_link inode.kind inode.links kind (readable.valid number inode is).links

  -- the directory of a directory's name is its parent
  parent_is : (directory : ℕ) (name : Link) (inode : Inode) → Contains (names_at s inodes directory) name → inode_at s inodes name.number ≡ Some inode → inode.kind ≡ Directory → parents_of rows name.number ≡ directory
  parent_is directory name inode among is kind = ⊎_elim
      (λ (same : parents_of rows name.number ≡ directory). same)
      (λ (other : parents_of rows name.number ≢ directory). absurd (omega (arith, twice other, names_are name.number, few)))
      (cases_eq (parents_of rows name.number) directory)
    where
      few : (row_at rows name.number).names ≤ 1
      few = ⊎_elim
          (λ (same : name.number ≡ 2). omega (arith, (all name.number).few, links name.number inode is, none_of name.number inode same))
          (λ (other : name.number ≢ 2). omega (arith, (all name.number).few, links name.number inode is, links_are name.number inode other, single name.number inode is kind))
          (cases_eq name.number 2)

      twice : parents_of rows name.number ≢ directory → 2 ≤ name_count s inodes name.number
      twice other =
          let w = (all name.number).parent (named directory name among) in
          let more : 2 ≤ name_count s inodes w.0.number = counted_twice s inodes (parents_of rows name.number) directory w.0 name w.2
          (λ is. other (ap (λ (l : TreeLink). l.directory) is)) w.1 among in
          omega (arith, more, ap (λ (n : ℕ). name_count s inodes n) w.2)

  -- what was found is kept
  pub found : (new : List Row) → KeepsRows rows new → HasFound s inodes new
  found new kept = record {
    names = λ number. (kept number).names ∙ names_are number;
    parents = λ number some. subst (λ (d : ℕ). HasName s inodes d number) (sym (kept number).parent) ((all number).parent (omega (arith, some, names_are number)));
  }

  -- ---- ways up and ways down

  pub up_reached : (number : ℕ) → LeadsUp (parents_of rows) number → ((n : ℕ) → n < 65536 → (row_at rows n).names ≡ (row_at rows n).links)
      → (inode : Inode) → inode_at s inodes number ≡ Some inode → inode.kind ≡ Directory → IsReached s inodes number
  up_reached _ climb.root full inode is kind = root
  up_reached _ (climb.below number up) full inode is kind = ⊎_elim
      (λ (same : number ≡ 2). subst (IsReached s inodes) (sym same) root)
      (λ (other : number ≢ 2).
      let some : 0 < (row_at rows number).names = omega (arith, full number (numbered number inode is).1, links number inode is, links_are number inode other, single number inode is kind) in
      let w = (all number).parent some in
      let d = named_directory s inodes (parents_of rows number) w.0 w.1 in
      subst (IsReached s inodes) w.2 (below (parents_of rows number) w.0 (up_reached (parents_of rows number) up full d.0 d.1 d.2) w.1))
      (cases_eq number 2)

  reached_up : (number : ℕ) → IsReached s inodes number → (inode : Inode) → inode_at s inodes number ≡ Some inode → inode.kind ≡ Directory → LeadsUp (parents_of rows) number
  reached_up _ root inode is kind = climb.root
  reached_up _ (below directory name above among) inode is kind =
      let d = named_directory s inodes directory name among in
      climb.below name.number (subst (LeadsUp (parents_of rows)) (sym (parent_is directory name inode among is kind)) (reached_up directory above d.0 d.1 d.2))

  -- ---- what there is

  pub apart_stands : (body number : ℕ) → (row_at rows number).kind ≡ Some Directory → (LeadsUp (parents_of rows) number → ⊥) → IsLinkFault s inodes body (record_block s inodes body number)
  apart_stands body number kind never_up = told (inode_at s inodes number) refl
    where
      one : (x y : Kind) → Some x ≡ Some y → x ≡ y
      one x y same = cc

      never : (k : Kind) → None ≡ Some k → ⊥
      never k same = cc

      told : (o : Option Inode) → inode_at s inodes number ≡ o → IsLinkFault s inodes body (record_block s inodes body number)
      told None none = absurd (never Directory (sym (ap kind_of none) ∙ sym (all number).of.kind ∙ kind))
      told (Some inode) is =
          let of : inode.kind ≡ Directory = one inode.kind Directory (sym (ap kind_of is) ∙ sym (all number).of.kind ∙ kind) in
          apart number inode is of (λ reached. never_up (reached_up number reached inode is of))

  -- ---- what is linked

  pub linked : ((n : ℕ) → n < 65536 → (row_at rows n).names ≡ (row_at rows n).links)
      → ((n : ℕ) → 2 < n → n < 65536 → (row_at rows n).kind ≡ Some Directory → LeadsUp (parents_of rows) n) → IsLinked s inodes
  linked full up = record {
    leads = λ directory name among. used (inode_at s inodes name.number) name.number refl (named directory name among);
    unnamed = unnamed (inode_at s inodes 2) refl;
    counted = λ number inode other is. sym (names_are number) ∙ full number (numbered number inode is).1 ∙ links number inode is ∙ links_are number inode other;
    reached = λ number inode is kind. ⊎_elim
        (λ (same : number ≡ 2). subst (IsReached s inodes) (sym same) root)
        (λ (other : number ≢ 2). up_reached number
        (up number (omega (arith, other, (numbered number inode is).0)) (numbered number inode is).1 ((all number).of.kind ∙ ap kind_of is ∙ ap (λ (k : Kind). Some k) kind)) full inode is kind)
        (cases_eq number 2);
  }
    where
      used : (o : Option Inode) (number : ℕ) → inode_at s inodes number ≡ o → 0 < (row_at rows number).names → is_some (inode_at s inodes number) ≡ true
      used None number none some = absurd (omega (arith, some, (all number).few, (all number).of.links ∙ ap (links_under number) none))
      used (Some inode) number is some = ap (λ (o : Option Inode). is_some o) is

      unnamed : (o : Option Inode) → inode_at s inodes 2 ≡ o → name_count s inodes 2 ≡ 0
      unnamed None none = omega (arith, names_are 2, (all 2).few, (all 2).of.links ∙ ap (links_under 2) none)
      unnamed (Some inode) is = omega (arith, names_are 2, (all 2).few, links 2 inode is, none_of 2 inode refl)
