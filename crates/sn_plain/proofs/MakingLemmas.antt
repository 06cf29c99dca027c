-- A change that can be applied, over what is stored.
use Rattle.std.proofs.Common.{◌≡◌, ◌≢◌, inl, inr, ℕ, ◌≤◌, true, false, ◌&&◌, ◌||◌, ◌==◌, not, nat_lt, nat_le, Option, Some, None, is_some, refl, sym, ap, ◌∙◌, arith}
use Rattle.std.specs.Prelude.{is_none}
use Rattle.std.specs.Option.{option_map}
use Rattle.std.specs.Cmp.{nat_cmp_total}
use Rattle.std.specs.FinMap as map
use Rattle.std.proofs.lemmas.Bool.{true≢false, eqb-true}
use Rattle.std.proofs.lemmas.Map.Lookups.{exact_unsigned}
use Rattle.sn_limits.specs.declared.kind.Kind.{Kind}
use Rattle.sn_limits.specs.declared.kind.Kind.TheVariants as kind
use Rattle.sn_limits.specs.Names.{is_name}
use Rattle.sn_walk.specs.Views.{is_directory, is_hidden_name}
use Rattle.sn_limits.specs.declared.limits.Limits.{Limits}
use Rattle.sn_model.specs.declared.change.Ownership.{Ownership}
use Rattle.sn_model.specs.declared.link.Link.{Link}
use Rattle.sn_model.specs.Tree.{Node, Tree, names_in, names_for}
use Rattle.sn_model.specs.Changes.{is_file, file_at, directory_at, is_vacant, is_free_number, put_link, take_link, take_node, removed, unlinked}
use Rattle.sn_model.proofs.ChainLemmas.{and_left, and_right}
use Rattle.sn_model.proofs.MapLemmas.{get_inserted, get_other, get_was}
use Rattle.sn_model.proofs.LinkLemmas.{links_total, exact_links}
use Rattle.sn_model.proofs.NameLemmas.{no_names_for, names_in_fewer}
use Rattle.sn_model.specs.NameTree.{HasKind, IsHierarchy, IsTree}
use Rattle.sn_model.proofs.PartLemmas.{file_is, is_file_at, directory_is, Made, Linked, Removed, DirectoryGone, Unlinked, removed_is, unlinked_is}
use Rattle.sn_model.proofs.MoveLemmas.{is_kind}
use Rattle.sn_model.proofs.SettlingLemmas.{nameless_is}
use Rattle.sn_model.specs.Settling.{is_nameless}
use Rattle.sn_nodes.specs.declared.nodes.StoredNode.{StoredNode}
use Rattle.sn_nodes.specs.Stored.{node_of, counts_of, IsFresh, Recounts, recount, more_at}
use Rattle.sn_plain.specs.Stored.{IsCounted}
use Rattle.sn_plain.proofs.CountedLemmas.{Stored, nothing, after_use, counted_link, counted_node, counted_use}

pub some_of : {A : Type 0} (o : Option A) → is_some o ≡ true → (x : A) × (o ≡ Some x)
some_of None e = absurd (true≢false (sym e))
some_of (Some x) e = (x, refl)

pub none_of : {A : Type 0} (o : Option A) → is_some o ≡ false → o ≡ None
none_of None e = refl
none_of (Some x) e = absurd (true≢false e)

is_none_of : {A : Type 0} (o : Option A) → is_none o ≡ true → o ≡ None
is_none_of None e = refl
is_none_of (Some x) e = absurd (true≢false (sym e))

pub is_file_kind : (k : Kind) → is_file k ≡ true → k ≡ kind.File
is_file_kind kind.File e = refl
is_file_kind kind.Directory e = absurd (true≢false (sym e))

pub is_directory_kind : (k : Kind) → is_directory k ≡ true → k ≡ kind.Directory
is_directory_kind kind.Directory e = refl
is_directory_kind kind.File e = absurd (true≢false (sym e))

-- the stored node of a node
pub stored_there : (o : Option StoredNode) (n : Node) → option_map node_of o ≡ Some n → (s : StoredNode) × (o ≡ Some s) × (node_of s ≡ n)
stored_there None n e = cc
stored_there (Some s) n e = (s, refl, cc)

-- a name that isn't there
pub vacant_absent : (tree : Tree) (link : Link) → is_vacant tree link ≡ true → map.get tree.links link ≡ None
vacant_absent tree link e = is_none_of (map.get tree.links link) (and_right (is_name link.name && not (is_hidden_name link.directory link.name)) (is_none (map.get tree.links link)) e)

module _ (stored : Stored) (tree : Tree) (first : ℕ) (see : (k : ℕ) → map.get tree.nodes k ≡ option_map node_of (map.get stored k)) (h : IsCounted stored tree first) where
  -- the directory of a name
  pub directory_there : (number : ℕ) (node : Node) → directory_at tree number ≡ Some node → (s : StoredNode) × (map.get stored number ≡ Some s) × (s.kind ≡ kind.Directory)
  directory_there number node e =
      let d = directory_is tree number node e in
      let s = stored_there (map.get stored number) node (sym (see number) ∙ d.0) in
      (s.0, s.1, is_directory_kind s.0.kind (ap (λ (n : Node). is_directory n.kind) s.2 ∙ d.1))

  pub file_there : (number : ℕ) (node : Node) → file_at tree number ≡ Some node → (s : StoredNode) × (map.get stored number ≡ Some s) × (node_of s ≡ node) × (s.kind ≡ kind.File)
  file_there number node e =
      let d = file_is tree number node e in
      let s = stored_there (map.get stored number) node (sym (see number) ∙ d.0) in
      (s.0, s.1, s.2, is_file_kind s.0.kind (ap (λ (n : Node). is_file n.kind) s.2 ∙ d.1))

  -- a number that a new node can get
  pub record Free (number : ℕ) : Type 0 where
    pub names : names_in tree number ≡ 0
    pub links : names_for tree number ≡ 0
    pub apart : (d : StoredNode) → map.get stored number ≡ Some d → d.kind ≡ kind.Directory → ⊥

  pub free_is : (limits : Limits) (number : ℕ) → is_free_number limits tree number ≡ true → Free number
  free_is limits number e = told (map.get stored number) refl
    where
      told : (o : Option StoredNode) → map.get stored number ≡ o → Free number
      told None g = record { names = h.no_names number g; links = h.no_links number g; apart = λ d f _. nothing d (sym g ∙ f) }
      told (Some s) g =
          let there : map.get tree.nodes number ≡ Some (node_of s) = see number ∙ ap (option_map node_of) g in
          let either = and_right (nat_lt 2 number && nat_le number limits.largest_number) (is_none (map.get tree.nodes number) || (is_some (file_at tree number) && (names_for tree number == 0))) e in
          let both : (is_some (file_at tree number) && (names_for tree number == 0)) ≡ true = ap (λ (o : Option Node). is_none o || (is_some (file_at tree number) && (names_for tree number == 0))) (sym there) ∙ either in
          let f = some_of (file_at tree number) (and_left (is_some (file_at tree number)) (names_for tree number == 0) both) in
          let t = file_there number f.0 f.1 in
          record {
            names = h.files number t.0 t.1 t.3;
            links = eqb-true (names_for tree number) 0 (and_right (is_some (file_at tree number)) (names_for tree number == 0) both);
            apart = λ d k is. let same : Some d ≡ Some t.0 = sym k ∙ t.1 in let q : d ≡ t.0 = cc in let never : kind.Directory ≡ kind.File = sym is ∙ ap (λ (x : StoredNode). x.kind) q ∙ t.3 in cc;
          }

  -- a new node and its name
  module _ (limits : Limits) (link : Link) (number : ℕ) (k : Kind) (o : Ownership) (after : Tree) (m : Made limits tree link number k o after) (s : StoredNode) (fresh : IsFresh s) where
    free : Free number
    free = free_is limits number m.free

    parent : (d : StoredNode) × (map.get stored link.directory ≡ Some d) × (d.kind ≡ kind.Directory)
    parent = directory_there link.directory m.room.directory m.room.parent

    apart : link.directory ≢ number
    apart same = free.apart parent.0 (ap (map.get stored) (sym same) ∙ parent.1) parent.2

    still : map.get (map.insert stored number s) link.directory ≡ Some parent.0
    still = get_other nat_cmp_total exact_unsigned stored number s link.directory apart ∙ parent.1

    pub names_made : (counts_of (map.get (map.insert stored number s) link.directory)).names ≡ names_in tree link.directory
    names_made = ap (λ (x : Option StoredNode). (counts_of x).names) still ∙ h.names link.directory parent.0 parent.1

    pub links_made : (counts_of (map.get (map.insert stored number s) number)).links ≡ 0
    links_made = ap (λ (x : Option StoredNode). (counts_of x).links) (get_inserted nat_cmp_total stored number s) ∙ fresh.1

    pub counted_made : (stored' : Stored) → s.counts.parent ≡ link.directory → Recounts (more_at link.directory) (more_at number) (map.insert stored number s) stored' → IsCounted stored' (put_link tree link number) (after_use first number)
    counted_made stored' below r =
        let there = ap is_some (r number ∙ ap (option_map (recount (more_at link.directory number) (more_at number number))) (get_inserted nat_cmp_total stored number s)) in
        counted_use stored' (put_link tree link number) first number there
        (counted_link (map.insert stored number s) stored' tree first link number parent.0 s r (vacant_absent tree link m.vacant) still parent.2 (get_inserted nat_cmp_total stored number s) (λ _. below)
        (counted_node stored tree first number s free.names free.links fresh.0 fresh.1 h))

-- what is kept of any number
pub names_kept : (stored : Stored) (tree : Tree) (first : ℕ) → IsCounted stored tree first → (k : ℕ) → (counts_of (map.get stored k)).names ≡ names_in tree k
names_kept stored tree first h k = told (map.get stored k) refl
  where
    told : (o : Option StoredNode) → map.get stored k ≡ o → (counts_of o).names ≡ names_in tree k
    told None e = sym (h.no_names k e)
    told (Some s) e = h.names k s e

pub links_kept : (stored : Stored) (tree : Tree) (first : ℕ) → IsCounted stored tree first → (k : ℕ) → (counts_of (map.get stored k)).links ≡ names_for tree k
links_kept stored tree first h k = told (map.get stored k) refl
  where
    told : (o : Option StoredNode) → map.get stored k ≡ o → (counts_of o).links ≡ names_for tree k
    told None e = sym (h.no_links k e)
    told (Some s) e = h.links k s e

-- one more name of a file
pub counted_linked : (limits : Limits) (stored stored' : Stored) (tree : Tree) (first : ℕ) → ((k : ℕ) → map.get tree.nodes k ≡ option_map node_of (map.get stored k)) → IsCounted stored tree first → (link : Link) (number : ℕ) (after : Tree) → Linked limits tree link number after → Recounts (more_at link.directory) (more_at number) stored stored' → IsCounted stored' (put_link tree link number) first
counted_linked limits stored stored' tree first see h link number after m r =
    let d = directory_there stored tree first see h link.directory m.room.directory m.room.parent in
    let f = file_there stored tree first see h number m.node m.file in
    counted_link stored stored' tree first link number d.0 f.0 r (vacant_absent tree link m.vacant) d.1 d.2 f.1 (λ k. let never : kind.Directory ≡ kind.File = sym k ∙ f.3 in absurd cc) h

-- a directory that loses its only name has none
pub only_name : (tree : Tree) (link : Link) (number : ℕ) → IsHierarchy tree → HasKind tree number kind.Directory → map.get tree.links link ≡ Some number → names_for (take_link tree link) number ≡ 0
only_name tree link number h k e = no_names_for (take_link tree link) number (λ l f. let w = get_was links_total exact_links tree.links link l number f in w.0 (h.once l link number k w.1 e))

-- a name that can be taken away
module _ (limits : Limits) (tree : Tree) (link : Link) (number : ℕ) (whole : IsTree limits tree) (there : map.get tree.links link ≡ Some number) (can : is_some (removed tree link) ≡ true) where
  after : (t : Tree) × (removed tree link ≡ Some t)
  after = some_of (removed tree link) can

  parts : Removed tree link after.0
  parts = removed_is tree link after.0 after.1

  same : parts.number ≡ number
  same = let both : Some parts.number ≡ Some number = sym parts.named ∙ there in cc

  node_there : map.get tree.nodes number ≡ Some parts.node
  node_there = ap (map.get tree.nodes) (sym same) ∙ parts.there

  gone : Unlinked tree link number parts.node after.0
  gone = unlinked_is tree link number parts.node after.0 (ap (λ (n : ℕ). unlinked tree link n parts.node) (sym same) ∙ parts.gone)

  is_file_there : is_some (file_at tree number) ≡ true → is_file parts.node.kind ≡ true
  is_file_there e =
      let f = some_of (file_at tree number) e in
      let w = file_is tree number f.0 f.1 in
      let both : Some parts.node ≡ Some f.0 = sym node_there ∙ w.0 in
      let q : parts.node ≡ f.0 = cc in
      ap (λ (n : Node). is_file n.kind) q ∙ w.1

  not_both : (k : Kind) → is_file k ≡ true → is_directory k ≡ true → ⊥
  not_both kind.File e f = true≢false (sym f)
  not_both kind.Directory e f = true≢false (sym e)

  either_kind : (k : Kind) → is_directory k ≡ false → is_file k ≡ true
  either_kind kind.File e = refl
  either_kind kind.Directory e = absurd (true≢false e)

  pub file_removed : is_some (file_at tree number) ≡ true → removed tree link ≡ Some (take_link tree link)
  file_removed e = told gone
    where
      told : Unlinked tree link number parts.node after.0 → removed tree link ≡ Some (take_link tree link)
      told (inl d) = absurd (not_both parts.node.kind (is_file_there e) d.kind)
      told (inr n) = after.1 ∙ ap (λ (t : Tree). Some t) (sym n.gives)

  directory_gone : is_some (file_at tree number) ≡ false → DirectoryGone tree link number parts.node after.0
  directory_gone e = told gone
    where
      told : Unlinked tree link number parts.node after.0 → DirectoryGone tree link number parts.node after.0
      told (inl d) = d
      told (inr n) = absurd (true≢false (sym (ap is_some (is_file_at tree number parts.node node_there (either_kind parts.node.kind n.kind))) ∙ e))

  pub directory_removed : is_some (file_at tree number) ≡ false → removed tree link ≡ Some (take_node (take_link tree link) number)
  directory_removed e = after.1 ∙ ap (λ (t : Tree). Some t) (sym (directory_gone e).gives)

  pub no_names_left : is_some (file_at tree number) ≡ false → names_in (take_link tree link) number ≡ 0
  no_names_left e = let empty = eqb-true (names_in tree number) 0 (directory_gone e).empty in let fewer = names_in_fewer tree link number in omega (arith, empty, fewer)

  pub no_links_left : is_some (file_at tree number) ≡ false → names_for (take_link tree link) number ≡ 0
  no_links_left e = only_name tree link number whole.hierarchy (is_kind tree number parts.node kind.Directory node_there (is_directory_kind parts.node.kind (directory_gone e).kind)) there

  pub number_low : 2 ≤ number
  number_low = (whole.nodes.nodes number parts.node node_there).first

-- a file that no name stands for
module _ (stored : Stored) (tree : Tree) (first : ℕ) (see : (k : ℕ) → map.get tree.nodes k ≡ option_map node_of (map.get stored k)) (h : IsCounted stored tree first) (number : ℕ) (is : is_nameless tree number (map.get tree.nodes number) ≡ true) where
  nameless_node : (s : StoredNode) × (map.get stored number ≡ Some s) × (s.kind ≡ kind.File) × (names_for tree number ≡ 0)
  nameless_node = told (map.get stored number) refl
    where
      told : (o : Option StoredNode) → map.get stored number ≡ o → (s : StoredNode) × (map.get stored number ≡ Some s) × (s.kind ≡ kind.File) × (names_for tree number ≡ 0)
      told None e = absurd (true≢false (sym is ∙ ap (is_nameless tree number) (see number ∙ ap (option_map node_of) e)))
      told (Some s) e = let w = nameless_is tree number (node_of s) (ap (is_nameless tree number) (sym (see number ∙ ap (option_map node_of) e)) ∙ is) in (s, e, w.0, w.1)

  pub nameless_names : names_in tree number ≡ 0
  nameless_names = let w = nameless_node in h.files number w.0 w.1 w.2

  pub nameless_links : names_for tree number ≡ 0
  nameless_links = let w = nameless_node in w.3
