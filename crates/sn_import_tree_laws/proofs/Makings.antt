-- A new directory, a new file or a hard link takes an import of a tree one name on.
use Rattle.std.proofs.Common.{◌≡◌, ◌≢◌, ◌⊎◌, ℕ, ◌==◌, Bool, true, false, cond, List, [], ◌∷◌, ◌++◌, length, take, take_all, le_refl, Option, Some, None, is_some, inl, inr, refl, sym, ap, subst, ◌∙◌, eqb-true, eq-eqb}
use Rattle.std.specs.Prelude.{IsSomeAnd}
use Rattle.std.specs.FinMap as map
use Rattle.sn_limits.specs.declared.kind.Kind.{Kind}
use Rattle.sn_limits.specs.declared.kind.Kind.TheVariants.{Directory, File}
use Rattle.sn_limits.specs.declared.limits.Limits.{Limits}
use Rattle.sn_walk.specs.declared.object.Home.TheVariants.{Live}
use Rattle.sn_walk.specs.declared.object.Object.{Object as Thing}
use Rattle.sn_walk.specs.declared.object.Object.TheVariants as object
use Rattle.sn_walk.specs.Objects.{root}
use Rattle.sn_model.specs.declared.link.Link.{Link}
use Rattle.sn_model.specs.Denials.{led_to}
use Rattle.sn_model.specs.NameTree.{HasKind, IsNode}
use Rattle.sn_model.specs.Tests.{path_argument}
use Rattle.sn_model.specs.Tree.{Node, Tree, link_to}
use Rattle.sn_model.specs.World.{World}
use Rattle.sn_model.specs.Worlds.{IsWorld}
use Rattle.sn_model.proofs.DecisionLemmas.{same_ok}
use Rattle.sn_export.specs.Archives.{Visit, first_visit}
use Rattle.sn_archive_laws.specs.Objects.{path_below, rights_of}
use Rattle.sn_archive_laws.specs.Trees.{Leads}
use Rattle.sn_import_laws.specs.Contents.{IsOther}
use Rattle.sn_import_laws.specs.Files.{IsMadeFile, file_node}
use Rattle.sn_import_laws.specs.Names.{IsNewDirectory, IsNewLink}
use Rattle.sn_import_laws.proofs.Vacant.{no_thing}
use Rattle.sn_import_laws.proofs.Opening.{LeadsStill, trees_in}
use Rattle.sn_import_tree_laws.proofs.Ahead.{IsAhead}
use Rattle.sn_import_tree_laws.proofs.Children.{Next, children_of, link_of}
use Rattle.sn_import_tree_laws.proofs.Cycles.{no_cycle}
use Rattle.sn_import_tree_laws.proofs.Growth.{Grows, HasHalf, IsNamed, Learns, Numbers, link_was, no_directory, one_value, some_none}
use Rattle.sn_import_tree_laws.proofs.Places.{led_below}
use Rattle.sn_import_tree_laws.proofs.State.{IsGiven, IsNew, IsThrough, grows, leads_new, nowhere, path_at, still, went_on}
use Rattle.sn_import_tree_laws.proofs.Visits.{names_on, visit_of}

abbrev some_thing : ℕ → Option Thing
some_thing n = Some (object.Node Live n)

-- ---- numbers that are learnt

abbrev pub put : Numbers → ℕ → ℕ → Numbers
put to m number a = cond (a == m) (Some number) (to a)

put_is : (now : Tree) (to : Numbers) (m number : ℕ) → to m ≡ None → map.get now.nodes number ≡ None → Learns now to (put to m number) m number
put_is now to m number unknown unused = record {
  still = λ a b e. still a b e (a == m) refl;
  is = λ a b e. is a b (a == m) refl e;
  here = ap (λ (t : Bool). cond t (Some number) (to m)) (eq-eqb m m refl);
}
  where
    still : (a b : ℕ) → to a ≡ Some b → (t : Bool) → (a == m) ≡ t → put to m number a ≡ Some b
    still a b e true k = absurd (some_none (to a) b e (ap to (eqb-true a m k) ∙ unknown))
    still a b e false k = ap (λ (t : Bool). cond t (Some number) (to a)) k ∙ e

    is : (a b : ℕ) (t : Bool) → (a == m) ≡ t → cond t (Some number) (to a) ≡ Some b → ((a ≡ m) × (b ≡ number) × (map.get now.nodes number ≡ None)) ⊎ (to a ≡ Some b)
    is a b true k e = let some : Some number ≡ Some b = e in let same : number ≡ b = cc in inl (eqb-true a m k, sym same, unused)
    is a b false k e = inr e

same_is : (now : Tree) (to : Numbers) (m number : ℕ) → to m ≡ Some number → Learns now to to m number
same_is now to m number known = record { still = λ a b e. e; is = λ a b e. inr e; here = known }

-- ---- what a law says is new

kept_apart : (now : Tree) (number n : ℕ) → map.get now.nodes number ≡ None → is_some (map.get now.nodes n) ≡ true → n ≢ number
kept_apart now number n unused there same = told (map.get now.nodes n) there (ap (map.get now.nodes) same ∙ unused)
  where
    told : (o : Option Node) → is_some o ≡ true → o ≡ None → ⊥
    told None e f = cc e
    told (Some x) e f = cc f

new_directory : (now new : World) (path : List ℕ) (node : Node) → (n : IsNewDirectory now new path (rights_of node)) → IsNew now new path n.number n.node
new_directory now new path node n = record {
  link = n.name.link;
  at = n.name.at;
  named = n.name.named;
  absent = n.name.absent;
  links = n.name.links;
  nodes = λ k there. n.nodes k (kept_apart now.live n.number k n.unused there);
  around = record { frozen = n.name.frozen; sessions = n.name.sessions; descriptors = λ session fd apart. (λ i. map.get (n.name.descriptors i) (session, fd)) };
}

new_file : (now new : World) (path : List ℕ) (node : Node) → (m : IsMadeFile now new path node) → IsNew now new path m.file.number node
new_file now new path node m =
    let n = m.file in
    record {
      link = n.link;
      at = n.at;
      named = n.named;
      absent = n.absent;
      links = n.links;
      nodes = λ k there. n.nodes k (kept_apart now.live n.number k n.unused there);
      around = record { frozen = n.frozen; sessions = n.sessions; descriptors = λ session fd apart. n.descriptors session fd (other_session session fd apart) };
    }
  where
    other_session : (session fd : ℕ) → session ≢ 0 → IsOther session fd m.fd
    other_session session fd apart same = apart (ap (λ (p : ℕ × ℕ). p.0) same)

new_link : (now new : World) (target path : List ℕ) → (n : IsNewLink now new target path) → IsNew now new path n.number n.node
new_link now new target path n = record {
  link = n.name.link;
  at = n.name.at;
  named = n.name.named;
  absent = n.name.absent;
  links = n.name.links;
  nodes = λ k there. (λ i. map.get (n.nodes i) k);
  around = record { frozen = n.name.frozen; sessions = n.name.sessions; descriptors = λ session fd apart. (λ i. map.get (n.name.descriptors i) (session, fd)) };
}

-- ---- the next name

-- how far it is after this name
pub record IsFurther (limits : Limits) (one : Tree) (top : ℕ) (ns : List (List ℕ)) (old now new : World) (place : ℕ) (to : Numbers) (next : Next) (others : List Next) (seen : List Visit) : Type 0 where
  pub learnt : Numbers
  pub still : (k b : ℕ) → to k ≡ Some b → learnt k ≡ Some b
  pub number : ℕ
  pub here : learnt next.number ≡ Some number
  pub is : (k b : ℕ) → learnt k ≡ Some b → ((k ≡ next.number) × (b ≡ number)) ⊎ (to k ≡ Some b)
  pub leads : LeadsStill (trees_in now) (trees_in new)
  pub led : Leads new.live place (names_on next) number
  pub through : IsThrough limits one top ns old new place learnt (children_of one (names_on next) next.number ++ others) (seen ++ visit_of next ∷ [])

module _ (bounds limits : Limits) (one : Tree) (top : ℕ) (into : List ℕ) (ns : List (List ℕ)) (old : World) (place : ℕ) (given : IsGiven bounds one top into ns old place) (now : World) (to : Numbers) (next : Next) (others : List Next)
    (seen : List Visit) (t : IsThrough limits one top ns old now place to (next ∷ others) seen) (x : Node) (in_one : map.get one.nodes next.number ≡ Some x) where
  abbrev a : IsAhead one top place now.live to next
  a = t.reached.all.0

  abbrev path : List ℕ
  path = path_below into (names_on next)

  abbrev Further : World → Type 0
  Further new = IsFurther limits one top ns old now new place to next others seen

  has_kind : (kind : Kind) → x.kind ≡ kind → HasKind one next.number kind
  has_kind kind is = subst (λ (o : Option Node). IsSomeAnd o (λ n. n.kind ≡ kind)) (sym in_one) is

  further_is : (new : World) (learnt : Numbers) (number : ℕ) (node : Node) → IsNew now new path number node → IsWorld limits new → Learns now.live to learnt next.number number
      → IsThrough limits one top ns old new place learnt (children_of one (names_on next) next.number ++ others) (seen ++ visit_of next ∷ []) → Further new
  further_is new learnt number node n whole l through = record {
    learnt = learnt;
    still = l.still;
    number = number;
    here = l.here;
    is = λ k b e. less k b (l.is k b e);
    leads = still bounds limits one top into ns old place given now to next others seen t new number node n whole;
    led = leads_new bounds limits one top into ns old place given now to next others seen t new number node n whole;
    through = through;
  }
    where
      less : (k b : ℕ) → ((k ≡ next.number) × (b ≡ number) × (map.get now.live.nodes number ≡ None)) ⊎ (to k ≡ Some b) → ((k ≡ next.number) × (b ≡ number)) ⊎ (to k ≡ Some b)
      less k b (inl h) = inl (h.0, h.1)
      less k b (inr h) = inr h

  -- ---- a directory

  module _ (is : x.kind ≡ Directory) where
    -- it has one name, which isn't made yet
    unknown : to next.number ≡ None
    unknown = told (to next.number) refl
      where
        never : (c : ℕ) → (next.number ≡ top) ⊎ IsNamed one now.live to next.number c → ⊥
        never c (inl same) = no_cycle one top next.directory next.names next.name given.tree_is.hierarchy given.directory a.leads (a.named ∙ ap (λ (n : ℕ). Some n) same)
        never c (inr h) =
            let one_link : link_to h.a h.name ≡ link_of next = given.tree_is.hierarchy.once (link_to h.a h.name) (link_of next) next.number (has_kind Directory is) h.was a.named in
            let from : h.a ≡ next.directory = ap (λ (l : Link). l.directory) one_link in
            let text : h.name ≡ next.name = ap (λ (l : Link). l.name) one_link in
            let at : h.b ≡ a.b = one_value (to h.a) h.b a.b h.parent (ap to from ∙ a.parent) in
            some_none (map.get now.live.links (link_to h.b h.name)) c h.is ((λ i. map.get now.live.links (link_to (at i) (text i))) ∙ a.room)

        told : (o : Option ℕ) → to next.number ≡ o → to next.number ≡ None
        told None e = e
        told (Some c) e = absurd (never c (t.reached.partly.came next.number c e))

    half_directory : (new : World) → (n : IsNewDirectory now new path (rights_of x)) → IsNode bounds next.number x → HasHalf one new.live next.number n.number
    half_directory new n node = record {
      x = x;
      y = n.node;
      in_one = in_one;
      in_now = n.name.at.there;
      half = record { kind = n.kind ∙ sym is; owner = n.owner; group = n.group; bytes = n.bytes ∙ sym (node.of_directory is); file = λ file. absurd (no_file x.kind is file) };
    }
      where
        no_file : (k : Kind) → k ≡ Directory → k ≡ File → ⊥
        no_file File e f = cc e
        no_file Directory e f = cc f

    empty : (new : World) → (n : IsNewDirectory now new path (rights_of x)) → IsWorld limits new → (m : ℕ) (name : List ℕ) → map.get new.live.links (link_to n.number name) ≡ None
    empty new n whole m name = told (map.get new.live.links (link_to n.number name)) refl
      where
        g : Grows now.live new.live (link_to a.b next.name) n.number
        g = grows bounds limits one top into ns old place given now to next others seen t new n.number n.node (new_directory now new path x n) whole

        never : (z : ℕ) → ((link_to n.number name ≡ link_to a.b next.name) × (z ≡ n.number)) ⊎ (map.get now.live.links (link_to n.number name) ≡ Some z) → ⊥
        never z (inl h) =
            let same : n.number ≡ a.b = ap (λ (l : Link). l.directory) h.0 in
            let there = t.reached.partly.half next.directory a.b a.parent in
            some_none (map.get now.live.nodes a.b) there.y there.in_now (ap (map.get now.live.nodes) (sym same) ∙ n.unused)
        never z (inr h) = no_directory now.live n.number z name t.whole.live.hierarchy n.unused h

        told : (o : Option ℕ) → map.get new.live.links (link_to n.number name) ≡ o → map.get new.live.links (link_to n.number name) ≡ None
        told None e = e
        told (Some z) e = absurd (never z (link_was now.live new.live (link_to a.b next.name) (link_to n.number name) n.number z g e))

    pub directory_further : (new : World) → IsNewDirectory now new path (rights_of x) → IsWorld limits new → Further new
    directory_further new n whole =
        let made = new_directory now new path x n in
        let l = put_is now.live to next.number n.number unknown n.unused in
        let node = given.tree_is.nodes.nodes next.number x in_one in
        further_is new (put to next.number n.number) n.number n.node made whole l
        (went_on bounds limits one top into ns old place given now to next others seen t new n.number n.node made whole (put to next.number n.number) l (half_directory new n node)
        (λ m name e. empty new n whole m name)
        (λ other k same. some_none (to other.directory) k.b k.parent (ap to same ∙ unknown)))

  -- ---- a file

  module _ (is : x.kind ≡ File) where
    -- no name is below it
    no_names : (n : ℕ) (name : List ℕ) → map.get one.links (link_to next.number name) ≡ Some n → ⊥
    no_names n name e = never x.kind is (subst (λ (o : Option Node). IsSomeAnd o (λ y. y.kind ≡ Directory)) in_one (given.tree_is.hierarchy.held (link_to next.number name) n e))
      where
        never : (k : Kind) → k ≡ File → k ≡ Directory → ⊥
        never File e f = cc f
        never Directory e f = cc e

    elsewhere : (other : Next) → IsAhead one top place now.live to other → other.directory ≢ next.number
    elsewhere other k same = no_names other.number other.name (ap (λ (n : ℕ). map.get one.links (link_to n other.name)) (sym same) ∙ k.named)

    same_node : IsNode bounds next.number x → file_node (rights_of x) (take (length x.bytes) x.bytes) ≡ x
    same_node node =
        let all : take (length x.bytes) x.bytes ≡ x.bytes = take_all (length x.bytes) x.bytes (le_refl (length x.bytes)) in
        let kind : File ≡ x.kind = sym is in
        let default = sym (node.of_file is) in
        (λ i. record { kind = kind i; owner = x.owner; group = x.group; set_gid = x.set_gid; sticky = x.sticky; acl = x.acl; default_acl = default i; bytes = all i })

    pub file_further : (new : World) → IsMadeFile now new path (file_node (rights_of x) (take (length x.bytes) x.bytes)) → IsWorld limits new → first_visit next.number seen ≡ None → Further new
    file_further new m whole first =
        let node = given.tree_is.nodes.nodes next.number x in_one in
        let y = file_node (rights_of x) (take (length x.bytes) x.bytes) in
        let made = new_file now new path y m in
        let l = put_is now.live to next.number m.file.number (unmet (to next.number) refl) m.file.unused in
        further_is new (put to next.number m.file.number) m.file.number y made whole l
        (went_on bounds limits one top into ns old place given now to next others seen t new m.file.number y made whole (put to next.number m.file.number) l
        (record { x = x; y = x; in_one = in_one; in_now = m.file.at.there ∙ ap (λ (z : Node). Some z) (same_node node); half = record { kind = refl; owner = refl; group = refl; bytes = refl; file = λ _. refl } })
        (λ n name e. absurd (no_names n name e))
        elsewhere)
      where
        unmet : (o : Option ℕ) → to next.number ≡ o → to next.number ≡ None
        unmet None e = e
        unmet (Some c) e = absurd (t.met next.number c e first)

    -- a further name of a file that was made
    pub link_further : (new : World) (firsts : List (List ℕ)) (c : ℕ) → IsNewLink now new (path_below into firsts) path → IsWorld limits new → Leads one top firsts next.number → Leads now.live place firsts c → to next.number ≡ Some c → Further new
    link_further new firsts c n whole leads led at =
        let made = new_link now new (path_below into firsts) path n in
        let number : n.number ≡ c = number_is firsts leads led n in
        let here : to next.number ≡ Some n.number = at ∙ ap (λ (k : ℕ). Some k) (sym number) in
        let l = same_is now.live to next.number n.number here in
        let h = t.reached.partly.half next.number n.number here in
        further_is new to n.number n.node made whole l
        (went_on bounds limits one top into ns old place given now to next others seen t new n.number n.node made whole to l
        (record { x = h.x; y = h.y; in_one = h.in_one; in_now = (λ i. map.get (n.nodes i) n.number) ∙ h.in_now; half = h.half })
        (λ k name e. absurd (no_names k name e))
        elsewhere)
      where
        no_top : next.number ≡ top → ⊥
        no_top same = never x.kind is (subst (λ (o : Option Node). IsSomeAnd o (λ y. y.kind ≡ Directory)) (ap (map.get one.nodes) (sym same) ∙ in_one) given.directory)
          where
            never : (k : Kind) → k ≡ File → k ≡ Directory → ⊥
            never File e f = cc f
            never Directory e f = cc e

        one_number : (k j : ℕ) → some_thing k ≡ some_thing j → k ≡ j
        one_number k j e = let same : object.Node Live k ≡ object.Node Live j = cc in cc same

        number_is : (names : List (List ℕ)) → Leads one top names next.number → Leads now.live place names c → (n : IsNewLink now new (path_below into names) path) → n.number ≡ c
        number_is [] same led_there n = absurd (no_top same)
        number_is (first ∷ names) leads_there led_there n =
            let spelled = path_at bounds limits one top into ns old place given first names next.number leads_there in
            let same : n.was.names ≡ ns ++ first ∷ names = same_ok n.was.names (ns ++ first ∷ names) (sym n.was.spelled ∙ spelled) in
            one_number n.number c (sym n.was.led ∙ ap (led_to (trees_in now) root) same ∙ led_below limits now ns place t.whole.live.nodes t.led (first ∷ names) c led_there)

    -- its path isn't that of the first name
    pub other_path : (firsts : List (List ℕ)) (c : ℕ) → Leads one top firsts next.number → Leads now.live place firsts c → path_below into firsts ≢ path
    other_path [] c same led e = never x.kind is (subst (λ (o : Option Node). IsSomeAnd o (λ y. y.kind ≡ Directory)) (ap (map.get one.nodes) (sym same) ∙ in_one) given.directory)
      where
        never : (k : Kind) → k ≡ File → k ≡ Directory → ⊥
        never File p q = cc q
        never Directory p q = cc p
    other_path (first ∷ names) c leads led e =
        let absent = nowhere bounds limits one top into ns old place given now to next others seen t in
        let spelled = path_at bounds limits one top into ns old place given first names next.number leads in
        let same : absent.names ≡ ns ++ first ∷ names = same_ok absent.names (ns ++ first ∷ names) (sym absent.spelled ∙ ap path_argument (sym e) ∙ spelled) in
        no_thing (led_to (trees_in now) root (ns ++ first ∷ names)) (object.Node Live c) (led_below limits now ns place t.whole.live.nodes t.led (first ∷ names) c led)
        (ap (led_to (trees_in now) root) (sym same) ∙ absent.led)
