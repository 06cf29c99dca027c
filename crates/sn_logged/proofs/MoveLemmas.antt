-- A change, and what it does to the names of directories.
use Rattle.std.proofs.Common.{◌≡◌, ◌≢◌, ◌⊎◌, inl, inr, ℕ, List, [], ◌<◌, ◌==◌, ◌&&◌, ◌||◌, nat_lt, nat_le, Bool, true, false, cond, Option, Some, None, IsSomeAnd, is_none, is_some, refl, sym, ap, subst, ◌∙◌, eq-eqb, eqb-true}
use Rattle.std.specs.Cmp.{nat_cmp_total}
use Rattle.std.specs.FinMap as map
use Rattle.std.proofs.lemmas.Bool.{ltb-true, true≢false}
use Rattle.std.proofs.lemmas.Map.Lookups.{exact_unsigned}
use Rattle.sn_limits.specs.declared.kind.Kind.{Kind}
use Rattle.sn_limits.specs.declared.kind.Kind.TheVariants.{File, Directory}
use Rattle.sn_limits.specs.Versions.{limits_written}
use Rattle.sn_model.specs.declared.change.Change.{Change}
use Rattle.sn_model.specs.declared.change.Change.TheVariants.{Make, AddLink, Remove, Rename, Write, SetSize, SetAttributes}
use Rattle.sn_model.specs.declared.change.Ownership.{Ownership}
use Rattle.sn_model.specs.declared.link.Link.{Link}
use Rattle.sn_model.specs.Changes.{apply, file_at, is_file, is_free_number, node_with, put_link, put_node, replaced, same_number, take_link, take_node}
use Rattle.sn_model.specs.NameTree.{HasKind, IsHierarchy, IsTree}
use Rattle.sn_model.specs.Tree.{Node, Tree, link_to, names_for, names_in}
use Rattle.sn_model.proofs.ChainLemmas.{and_right, some_same}
use Rattle.sn_model.proofs.KeepLemmas.{IsCleared, none_is, replaced_clears, vacant_absent}
use Rattle.sn_model.proofs.LinkLemmas.{exact_links, links_total}
use Rattle.sn_model.proofs.MapLemmas.{get_inserted, get_left, get_other, get_was, same_or_apart}
use Rattle.sn_model.proofs.MoveLemmas.{some_node}
use Rattle.sn_model.proofs.NameLemmas.{is_unnamed, no_names_for}
use Rattle.sn_model.proofs.PartLemmas.{IsRenamed, Moved, Renamed, Unlinked, cut_is, file_is, linked_is, made_is, owned_is, removed_is, renamed_is, replaced_is, unlinked_is, written_is}
use Rattle.sn_directories.specs.Told.{TellsDirectories}
use Rattle.sn_directories.specs.declared.table.Counted.{Counted}
use Rattle.sn_directories.proofs.TellLemmas.{renoded}
use Rattle.sn_logged.specs.Moves.{moves_of, moving}
use Rattle.sn_logged.specs.declared.moving.NameMoves.TheVariants.{Stay, Gain, Lose, Move}

abbrev Rows : Type 0
Rows = List Counted

-- what the table's calls do
abbrev pub Gains : Rows → Rows → ℕ → ℕ → Type 0
Gains old new directory number = (tree : Tree) (link : Link) → TellsDirectories tree old → link.directory ≡ directory → map.get tree.links link ≡ None
    → names_in tree directory < 65535 → (HasKind tree number Directory → names_for tree number ≡ 0) → TellsDirectories (put_link tree link number) new

abbrev pub Loses : Rows → Rows → ℕ → Type 0
Loses old new directory = (tree : Tree) (link : Link) (number : ℕ) → TellsDirectories tree old → link.directory ≡ directory → map.get tree.links link ≡ Some number → TellsDirectories (take_link tree link) new

-- a free number has no names
free_unnamed : (tree : Tree) (number : ℕ) → IsHierarchy tree → is_free_number limits_written tree number ≡ true → names_for tree number ≡ 0
free_unnamed tree number h e = told (is_none (map.get tree.nodes number)) refl (and_right (nat_lt 2 number && nat_le number limits_written.largest_number) _ e)
  where
    told : (b : Bool) → is_none (map.get tree.nodes number) ≡ b → (is_none (map.get tree.nodes number) || (is_some (file_at tree number) && names_for tree number == 0)) ≡ true → names_for tree number ≡ 0
    told true f g = no_names_for tree number (λ link k. true≢false (sym (h.leads link number k) ∙ ap is_some (none_is _ f)))
    told false f g = eqb-true (names_for tree number) 0 (and_right (is_some (file_at tree number)) _ (sym (ap (λ b. b || (is_some (file_at tree number) && names_for tree number == 0)) f) ∙ g))

-- ---- nodes that change

-- a node that is put where no name leads to it, or in place of one of its kind
node_put : (tree : Tree) (number : ℕ) (node : Node) (rows : Rows) → ((link : Link) → map.get tree.links link ≡ Some number → node.kind ≡ Directory → HasKind tree number Directory) → TellsDirectories tree rows → TellsDirectories (put_node tree number node) rows
node_put tree number node rows alike tells = renoded tree (put_node tree number node) rows refl (λ link n e kind. told link n e kind (same_or_apart nat_cmp_total exact_unsigned n number)) tells
  where
    told : (link : Link) (n : ℕ) → map.get tree.links link ≡ Some n → HasKind (put_node tree number node) n Directory → (n ≡ number) ⊎ (n ≢ number) → HasKind tree n Directory
    told link n e kind (inl same) =
        let found = some_node (map.get (put_node tree number node).nodes n) Directory kind in
        let is : found.0 ≡ node = some_same _ _ (sym found.1 ∙ ap (map.get (put_node tree number node).nodes) same ∙ get_put) in
        subst (λ (k : ℕ). HasKind tree k Directory) (sym same) (alike link (e ∙ ap (λ (k : ℕ). Some k) same) (ap (λ (x : Node). x.kind) (sym is) ∙ found.2))
      where
        get_put : map.get (put_node tree number node).nodes number ≡ Some node
        get_put = get_inserted nat_cmp_total tree.nodes number node
    told link n e kind (inr apart) = subst (λ (o : Option Node). IsSomeAnd o (λ x. x.kind ≡ Directory)) (get_other nat_cmp_total exact_unsigned tree.nodes number node n apart) kind

-- a node that is removed
node_gone : (tree : Tree) (number : ℕ) (rows : Rows) → TellsDirectories tree rows → TellsDirectories (take_node tree number) rows
node_gone tree number rows tells = renoded tree (take_node tree number) rows refl (λ link n e kind. was n kind) tells
  where
    was : (n : ℕ) → HasKind (take_node tree number) n Directory → HasKind tree n Directory
    was n kind =
        let found = some_node (map.get (take_node tree number).nodes n) Directory kind in
        let there = (get_was nat_cmp_total exact_unsigned tree.nodes number n found.0 found.1).1 in
        subst (λ (o : Option Node). IsSomeAnd o (λ x. x.kind ≡ Directory)) (sym there) found.2

-- a node of its kind
same_kind_put : (tree : Tree) (number : ℕ) (node next : Node) (rows : Rows) → map.get tree.nodes number ≡ Some node → next.kind ≡ node.kind → TellsDirectories tree rows → TellsDirectories (put_node tree number next) rows
same_kind_put tree number node next rows there same tells = node_put tree number next rows (λ link e kind. subst (λ (o : Option Node). IsSomeAnd o (λ x. x.kind ≡ Directory)) (sym there) (sym same ∙ kind)) tells

unlinked_told : (tree : Tree) (link : Link) (number : ℕ) (node : Node) (after : Tree) (rows : Rows) → Unlinked tree link number node after → TellsDirectories (take_link tree link) rows → TellsDirectories after rows
unlinked_told tree link number node after rows (inl p) tells = subst (λ (t : Tree). TellsDirectories t rows) p.gives (node_gone (take_link tree link) number rows tells)
unlinked_told tree link number node after rows (inr p) tells = subst (λ (t : Tree). TellsDirectories t rows) p.gives tells

no_file_directory : (kind : Kind) → is_file kind ≡ true → kind ≡ Directory → ⊥
no_file_directory File e f = cc f
no_file_directory Directory e f = cc e

file_no_directory : (tree : Tree) (number : ℕ) (node : Node) → map.get tree.nodes number ≡ Some node → is_file node.kind ≡ true → HasKind tree number Directory → ⊥
file_no_directory tree number node there file kind = no_file_directory node.kind file (subst (λ (o : Option Node). IsSomeAnd o (λ x. x.kind ≡ Directory)) there kind)

-- ---- what two of them have in common

lose_same : (a b : ℕ) → Lose a ≡ Lose b → a ≡ b
lose_same a b e = cc e

move_from : (a b n c d m : ℕ) (r s : Bool) → Move a b n r ≡ Move c d m s → a ≡ c
move_from a b n c d m r s e = cc e

move_to : (a b n c d m : ℕ) (r s : Bool) → Move a b n r ≡ Move c d m s → b ≡ d
move_to a b n c d m r s e = cc e

move_number : (a b n c d m : ℕ) (r s : Bool) → Move a b n r ≡ Move c d m s → n ≡ m
move_number a b n c d m r s e = cc e

move_replaces : (a b n c d m : ℕ) (r s : Bool) → Move a b n r ≡ Move c d m s → r ≡ s
move_replaces a b n c d m r s e = cc e

gain_stay : (a b : ℕ) → Gain a b ≡ Stay → ⊥
gain_stay a b e = cc e

gain_move : (a b c d m : ℕ) (s : Bool) → Gain a b ≡ Move c d m s → ⊥
gain_move a b c d m s e = cc e

gain_lose : (a b c : ℕ) → Gain a b ≡ Lose c → ⊥
gain_lose a b c e = cc e

lose_stay : (a : ℕ) → Lose a ≡ Stay → ⊥
lose_stay a e = cc e

lose_move : (a c d m : ℕ) (s : Bool) → Lose a ≡ Move c d m s → ⊥
lose_move a c d m s e = cc e

-- ---- a gain

first : (a b c d : ℕ) → Gain a b ≡ Gain c d → a ≡ c
first a b c d e = cc e

second : (a b c d : ℕ) → Gain a b ≡ Gain c d → b ≡ d
second a b c d e = cc e

module _ (tree after : Tree) (whole : IsTree limits_written tree) (old new : Rows) (tells : TellsDirectories tree old) where
  made_told : (d n : ℕ) (name : List ℕ) (kind : Kind) (o : Ownership) → Gains old new d n → apply limits_written (Make d name n kind o) tree ≡ Some after → TellsDirectories after new
  made_told d n name kind o gains e =
      let link = link_to d name in
      let p = made_is limits_written tree link n kind o after e in
      let none = free_unnamed tree n whole.hierarchy p.free in
      let base = put_node tree n (node_with kind o []) in
      let anew = node_put tree n (node_with kind o []) old (λ l f k. absurd (is_unnamed tree n none l f)) tells in
      subst (λ (t : Tree). TellsDirectories t new) p.gives (gains base link anew refl (vacant_absent tree link p.vacant) (ltb-true _ 65535 p.room.names) (λ k. none))

  linked_told : (d n : ℕ) (name : List ℕ) → Gains old new d n → apply limits_written (AddLink d name n) tree ≡ Some after → TellsDirectories after new
  linked_told d n name gains e =
      let link = link_to d name in
      let p = linked_is limits_written tree link n after e in
      let file = file_is tree n p.node p.file in
      subst (λ (t : Tree). TellsDirectories t new) p.gives (gains tree link tells refl (vacant_absent tree link p.vacant) (ltb-true _ 65535 p.room.names) (λ k. absurd (file_no_directory tree n p.node file.0 file.1 k)))

  pub gained : (directory number : ℕ) (change : Change) → Gains old new directory number → Gain directory number ≡ moves_of tree change → apply limits_written change tree ≡ Some after → TellsDirectories after new
  gained directory number (Make d name n kind o) gains is e = made_told d n name kind o (subst (λ k. Gains old new d k) (second directory number d n is) (subst (λ k. Gains old new k number) (first directory number d n is) gains)) e
  gained directory number (AddLink d name n) gains is e = linked_told d n name (subst (λ k. Gains old new d k) (second directory number d n is) (subst (λ k. Gains old new k number) (first directory number d n is) gains)) e
  gained directory number (Remove d name) gains is e = absurd (gain_lose directory number d is)
  gained directory number (Rename a x b y) gains is e = absurd (never (map.get tree.links (link_to a x)) (map.get tree.links (link_to b y)) is)
    where
      never : (o p : Option ℕ) → Gain directory number ≡ moving o p a b → ⊥
      never None p f = gain_stay directory number f
      never (Some n) None f = gain_move directory number a b n false f
      never (Some n) (Some m) f = told (m == n) f
        where
          told : (t : Bool) → Gain directory number ≡ cond t Stay (Move a b n true) → ⊥
          told true g = gain_stay directory number g
          told false g = gain_move directory number a b n true g
  gained directory number (Write n offset bytes) gains is e = absurd (gain_stay directory number is)
  gained directory number (SetSize n size) gains is e = absurd (gain_stay directory number is)
  gained directory number (SetAttributes n o) gains is e = absurd (gain_stay directory number is)

  -- ---- a loss

  removed_told : (d : ℕ) (name : List ℕ) → Loses old new d → apply limits_written (Remove d name) tree ≡ Some after → TellsDirectories after new
  removed_told d name loses e =
      let link = link_to d name in
      let p = removed_is tree link after e in
      unlinked_told tree link p.number p.node after new (unlinked_is tree link p.number p.node after p.gone) (loses tree link p.number tells refl p.named)

  pub lost : (directory : ℕ) (change : Change) → Loses old new directory → Lose directory ≡ moves_of tree change → apply limits_written change tree ≡ Some after → TellsDirectories after new
  lost directory (Make d name n kind o) loses is e = absurd (gain_lose d n directory (sym is))
  lost directory (AddLink d name n) loses is e = absurd (gain_lose d n directory (sym is))
  lost directory (Remove d name) loses is e = removed_told d name (subst (λ k. Loses old new k) (lose_same directory d is) loses) e
  lost directory (Rename a x b y) loses is e = absurd (never (map.get tree.links (link_to a x)) (map.get tree.links (link_to b y)) is)
    where
      never : (o p : Option ℕ) → Lose directory ≡ moving o p a b → ⊥
      never None p f = lose_stay directory f
      never (Some n) None f = lose_move directory a b n false f
      never (Some n) (Some m) f = told (m == n) f
        where
          told : (t : Bool) → Lose directory ≡ cond t Stay (Move a b n true) → ⊥
          told true g = lose_stay directory g
          told false g = lose_move directory a b n true g
  lost directory (Write n offset bytes) loses is e = absurd (lose_stay directory is)
  lost directory (SetSize n size) loses is e = absurd (lose_stay directory is)
  lost directory (SetAttributes n o) loses is e = absurd (lose_stay directory is)

-- ---- what leaves the names

turned : (a b : ℕ) (t : Bool) → (a == b) ≡ t → (b == a) ≡ t
turned a b true e = eq-eqb b a (sym (eqb-true a b e))
turned a b false e = told (b == a) refl
  where
    told : (u : Bool) → (b == a) ≡ u → u ≡ false
    told false f = refl
    told true f = absurd (true≢false (sym (eq-eqb a b (sym (eqb-true b a f))) ∙ e))

stay_move : (a b n : ℕ) (r : Bool) → Stay ≡ Move a b n r → ⊥
stay_move a b n r e = cc e

-- a rename of two names of one object, and none other, moves nothing
one_object : (number : ℕ) (o : Option ℕ) (a b : ℕ) → same_number number o ≡ false → Stay ≡ moving (Some number) o a b → ⊥
one_object number None a b f g = stay_move a b number false g
one_object number (Some m) a b f g = stay_move a b number true (g ∙ ap (λ (t : Bool). cond t Stay (Move a b number true)) (turned number m false f))

other_object : (number : ℕ) (o : Option ℕ) (a b from to n : ℕ) (r : Bool) → same_number number o ≡ true → Move from to n r ≡ moving (Some number) o a b → ⊥
other_object number None a b from to n r f g = true≢false (sym f)
other_object number (Some m) a b from to n r f g = stay_move from to n r (sym (g ∙ ap (λ (t : Bool). cond t Stay (Move a b number true)) (turned number m true f)))

module _ (tree after : Tree) (rows : Rows) (tells : TellsDirectories tree rows) where
  stayed_renaming : (old new : Link) (p : Renamed limits_written tree old new after) → Stay ≡ moving (Some p.number) (map.get tree.links new) old.directory new.directory → TellsDirectories after rows
  stayed_renaming old new p is = told p.done
    where
      told : IsRenamed limits_written tree old new p.number p.node after → TellsDirectories after rows
      told (inl same) = subst (λ (t : Tree). TellsDirectories t rows) same.1 tells
      told (inr moves) = absurd (one_object p.number (map.get tree.links new) old.directory new.directory moves.0 is)

  pub stayed : (change : Change) → Stay ≡ moves_of tree change → apply limits_written change tree ≡ Some after → TellsDirectories after rows
  stayed (Make d name n kind o) is e = absurd (gain_stay d n (sym is))
  stayed (AddLink d name n) is e = absurd (gain_stay d n (sym is))
  stayed (Remove d name) is e = absurd (lose_stay d (sym is))
  stayed (Rename a x b y) is e =
      let p = renamed_is limits_written tree (link_to a x) (link_to b y) after e in
      stayed_renaming (link_to a x) (link_to b y) p (is ∙ ap (λ (o : Option ℕ). moving o (map.get tree.links (link_to b y)) a b) p.named)
  stayed (Write n offset bytes) is e =
      let p = written_is limits_written tree n offset bytes after e in
      let file = file_is tree n p.node p.file in
      subst (λ (t : Tree). TellsDirectories t rows) p.gives (same_kind_put tree n p.node _ rows file.0 refl tells)
  stayed (SetSize n size) is e =
      let p = cut_is limits_written tree n size after e in
      let file = file_is tree n p.node p.file in
      subst (λ (t : Tree). TellsDirectories t rows) p.gives (same_kind_put tree n p.node _ rows file.0 refl tells)
  stayed (SetAttributes n o) is e =
      let p = owned_is tree n o after e in
      subst (λ (t : Tree). TellsDirectories t rows) p.gives (same_kind_put tree n p.node _ rows p.there refl tells)

-- ---- a move

-- what has the new name is gone from it, and the table says so
record IsReplaced (tree : Tree) (old new : Link) (number : ℕ) (rows : Rows) (cleared : Tree) : Type 0 where
  clears : IsCleared tree cleared new
  kinds : HasKind cleared number Directory → HasKind tree number Directory
  told : TellsDirectories cleared rows

module _ (tree after : Tree) (whole : IsTree limits_written tree) (old new : Link) (number : ℕ) (node : Node) (named : map.get tree.links old ≡ Some number) (apart : same_number number (map.get tree.links new) ≡ false) (m : Moved limits_written tree old new number node after) where
  -- the names differ, since one is another's
  old_new : old ≢ new
  old_new same = true≢false (sym (ap (same_number number) (ap (map.get tree.links) (sym same) ∙ named) ∙ eq-eqb number number refl) ∙ apart)

  abbrev without : Tree
  without = take_link m.cleared old

  module _ (mid two end : Rows) (is : IsReplaced tree old new number mid m.cleared) (loses : Loses mid two old.directory) (gains : Gains two end new.directory number) where
    still : map.get m.cleared.links old ≡ Some number
    still = is.clears.stays old old_new ∙ named

    lost_old : TellsDirectories without two
    lost_old = loses m.cleared old number is.told refl still

    absent : map.get without.links new ≡ None
    absent = get_left links_total exact_links m.cleared.links old new (λ same. old_new (sym same)) ∙ is.clears.absent

    one_name : HasKind without number Directory → names_for without number ≡ 0
    one_name kind = no_names_for without number (λ link e.
        let was = get_was links_total exact_links m.cleared.links old link number e in
        was.0 (whole.hierarchy.once link old number (is.kinds kind) (is.clears.was link number was.1) named))

    put : TellsDirectories after end
    put = subst (λ (t : Tree). TellsDirectories t end) m.gives (gains without new lost_old refl absent (ltb-true _ 65535 m.room.names) one_name)

  -- nothing has the new name
  none_replaced : (rows : Rows) → map.get tree.links new ≡ None → TellsDirectories tree rows → IsReplaced tree old new number rows m.cleared
  none_replaced rows none tells =
      let same : tree ≡ m.cleared = some_same _ _ (ap (replaced tree new node) (sym none) ∙ m.cleared_is) in
      record {
        clears = replaced_clears tree new node None m.cleared none (ap (replaced tree new node) (sym none) ∙ m.cleared_is);
        kinds = λ kind. subst (λ (t : Tree). HasKind t number Directory) (sym same) kind;
        told = subst (λ (t : Tree). TellsDirectories t rows) same tells;
      }

  -- what has it loses it
  some_replaced : (rows : Rows) (target : ℕ) → map.get tree.links new ≡ Some target → TellsDirectories (take_link tree new) rows → IsReplaced tree old new number rows m.cleared
  some_replaced rows target has tells =
      let gone = ap (replaced tree new node) (sym has) ∙ m.cleared_is in
      let p = replaced_is tree new node target m.cleared gone in
      let un = unlinked_is tree new target p.node m.cleared p.gone in
      record {
        clears = replaced_clears tree new node (Some target) m.cleared has gone;
        kinds = kinds_of p.node un;
        told = unlinked_told tree new target p.node m.cleared rows un tells;
      }
    where
      kinds_of : (x : Node) → Unlinked tree new target x m.cleared → HasKind m.cleared number Directory → HasKind tree number Directory
      kinds_of x (inl q) kind =
          let there : HasKind (take_node (take_link tree new) target) number Directory = subst (λ (t : Tree). HasKind t number Directory) (sym q.gives) kind in
          let found = some_node (map.get (take_node (take_link tree new) target).nodes number) Directory there in
          subst (λ (o : Option Node). IsSomeAnd o (λ y. y.kind ≡ Directory)) (sym (get_was nat_cmp_total exact_unsigned tree.nodes target number found.0 found.1).1) found.2
      kinds_of x (inr q) kind = subst (λ (t : Tree). HasKind t number Directory) (sym q.gives) kind

-- what the table's calls make of a move
module _ (tree after : Tree) (whole : IsTree limits_written tree) (one mid two end : Rows) (tells : TellsDirectories tree one) (from to number : ℕ) (replaces : Bool)
    (loses_if : (t : Tree) (link : Link) (n : ℕ) → replaces ≡ true → TellsDirectories t one → link.directory ≡ to → map.get t.links link ≡ Some n → TellsDirectories (take_link t link) mid) (keeps : replaces ≡ false → mid ≡ one)
    (loses : Loses mid two from) (gains : Gains two end to number) where
  by_target : (old new : Link) (n : ℕ) (node : Node) (target : Option ℕ) → map.get tree.links new ≡ target → map.get tree.links old ≡ Some n → same_number n (map.get tree.links new) ≡ false → Moved limits_written tree old new n node after
      → Move from to number replaces ≡ moving (Some n) target old.directory new.directory → TellsDirectories after end
  by_target old new n node None has named apart m is =
      let a = old.directory in
      let b = new.directory in
      put tree after whole old new n node named apart m mid two end
      (none_replaced tree after whole old new n node named apart m mid has (subst (λ (r : Rows). TellsDirectories tree r) (sym (keeps (move_replaces from to number a b n replaces false is))) tells))
      (subst (λ k. Loses mid two k) (move_from from to number a b n replaces false is) loses)
      (subst (λ k. Gains two end k n) (move_to from to number a b n replaces false is) (subst (λ k. Gains two end to k) (move_number from to number a b n replaces false is) gains))
  by_target old new n node (Some t) has named apart m is = by_same (t == n) is
    where
      by_same : (u : Bool) → Move from to number replaces ≡ cond u Stay (Move old.directory new.directory n true) → TellsDirectories after end
      by_same true f = absurd (stay_move from to number replaces (sym f))
      by_same false f =
          put tree after whole old new n node named apart m mid two end
          (some_replaced tree after whole old new n node named apart m mid t has (loses_if tree new t (move_replaces from to number old.directory new.directory n replaces true f) tells (sym (move_to from to number old.directory new.directory n replaces true f)) has))
          (subst (λ k. Loses mid two k) (move_from from to number old.directory new.directory n replaces true f) loses)
          (subst (λ k. Gains two end k n) (move_to from to number old.directory new.directory n replaces true f) (subst (λ k. Gains two end to k) (move_number from to number old.directory new.directory n replaces true f) gains))

  moved_renaming : (old new : Link) (p : Renamed limits_written tree old new after) → Move from to number replaces ≡ moving (Some p.number) (map.get tree.links new) old.directory new.directory → TellsDirectories after end
  moved_renaming old new p is = told p.done
    where
      told : IsRenamed limits_written tree old new p.number p.node after → TellsDirectories after end
      told (inl same) = absurd (other_object p.number (map.get tree.links new) old.directory new.directory from to number replaces same.0 is)
      told (inr moves) = by_target old new p.number p.node (map.get tree.links new) refl p.named moves.0 moves.1 is

  pub moved_told : (change : Change) → Move from to number replaces ≡ moves_of tree change → apply limits_written change tree ≡ Some after → TellsDirectories after end
  moved_told (Make d name n kind o) is e = absurd (gain_move d n from to number replaces (sym is))
  moved_told (AddLink d name n) is e = absurd (gain_move d n from to number replaces (sym is))
  moved_told (Remove d name) is e = absurd (lose_move d from to number replaces (sym is))
  moved_told (Rename a x b y) is e =
      let p = renamed_is limits_written tree (link_to a x) (link_to b y) after e in
      moved_renaming (link_to a x) (link_to b y) p (is ∙ ap (λ (o : Option ℕ). moving o (map.get tree.links (link_to b y)) a b) p.named)
  moved_told (Write n offset bytes) is e = absurd (stay_move from to number replaces (sym is))
  moved_told (SetSize n size) is e = absurd (stay_move from to number replaces (sym is))
  moved_told (SetAttributes n o) is e = absurd (stay_move from to number replaces (sym is))
