-- After all entries the directories get their rights, and then a tree has all that the other has.
use Rattle.std.proofs.Common.{◌≡◌, ◌≢◌, ◌⊎◌, ℕ, List, [], ◌∷◌, ◌++◌, Option, Some, None, inl, inr, refl, sym, ap, subst, ◌∙◌, append-nil}
use Rattle.std.specs.Bool.{MatchBool}
use Rattle.std.specs.List.{AllByRecursion}
use Rattle.std.specs.List.Sorted.{IsPermutation}
use Rattle.std.specs.FinMap as map
use Rattle.std.specs.Cmp.{nat_cmp_total}
use Rattle.std.proofs.lemmas.List.Elements.{All-from_recursion, recursion_from_All}
use Rattle.std.proofs.lemmas.List.Sorted.{All-permutation, IsPermutation-sym}
use Rattle.std.proofs.lemmas.Map.Lookups.{exact_unsigned}
use Rattle.sn_limits.specs.declared.kind.Kind.{Kind}
use Rattle.sn_limits.specs.declared.kind.Kind.TheVariants.{Directory, File}
use Rattle.sn_limits.specs.declared.limits.Limits.{Limits}
use Rattle.sn_walk.specs.declared.object.Home.TheVariants.{Live}
use Rattle.sn_walk.specs.declared.object.Object.{Object as Thing}
use Rattle.sn_walk.specs.declared.object.Object.TheVariants as object
use Rattle.sn_walk.specs.Objects.{root}
use Rattle.sn_model.specs.Denials.{led_to}
use Rattle.sn_model.specs.NameTree.{IsTree}
use Rattle.sn_model.specs.Tree.{Node, Tree}
use Rattle.sn_model.specs.World.{World}
use Rattle.sn_model.specs.Worlds.{IsCall, IsWorld}
use Rattle.sn_model.proofs.DecisionLemmas.{same_ok}
use Rattle.sn_model.proofs.MapLemmas.{same_or_apart}
use Rattle.sn_import.specs.Calls.{closing_from, given}
use Rattle.sn_import.specs.declared.closing.Closing.TheVariants.{Give}
use Rattle.sn_import.specs.declared.object.Object.{Object}
use Rattle.sn_import.specs.declared.object.What.{What}
use Rattle.sn_import.specs.declared.object.What.TheVariants as what
use Rattle.sn_import_calls.specs.Acts.{Act}
use Rattle.sn_import_calls.specs.Carried.{AreMade}
use Rattle.sn_import_run.specs.Imports.{AreGranted, IsGranted, is_over, stop_told}
use Rattle.sn_import_calls.specs.declared.stop.Stop.{Stop}
use Rattle.sn_archive_laws.specs.Objects.{rights_of}
use Rattle.sn_import_laws.specs.Rights.{as_directory, has_bits}
use Rattle.sn_import_laws.specs.Runs.{IsRoots, Runs}
use Rattle.sn_import_laws.specs.Trees.{IsTurned}
use Rattle.sn_import_laws.proofs.Rights.{directories_get_rights}
use Rattle.sn_import_laws.proofs.Steps.{led_same, runs_split, still_roots}
use Rattle.sn_import_laws.proofs.Opening.{trees_in}
use Rattle.sn_import_tree_laws.specs.Reports.{AreCalled}
use Rattle.sn_import_tree_laws.proofs.Acts.{all_marked, called_parts, made_along}
use Rattle.sn_import_tree_laws.proofs.Entries.{AreOwed, IsAmong, IsOwed, IsOwing}
use Rattle.sn_import_tree_laws.proofs.Growth.{HasHalf, IsHalf, Numbers, one_value}

-- ---- lists

all_moved : (P : Object → Type 0) (xs ys : List Object) → IsPermutation xs ys → AllByRecursion P xs → AllByRecursion P ys
all_moved P xs ys moved all = recursion_from_All P ys (All-permutation P xs ys moved (All-from_recursion P xs all))

among_all : (P Q : Object → Type 0) (xs : List Object) → IsAmong P xs → AllByRecursion Q xs → (x : Object) × P x × Q x
among_all P Q [] among all = absurd among
among_all P Q (x ∷ xs) (inl h) all = (x, h, all.0)
among_all P Q (x ∷ xs) (inr h) all = among_all P Q xs h all.1

-- ---- one directory

abbrev some_thing : ℕ → Option Thing
some_thing n = Some (object.Node Live n)

one_number : (a b : ℕ) → some_thing a ≡ some_thing b → a ≡ b
one_number a b e = let same : object.Node Live a ≡ object.Node Live b = cc in cc same

all_given : (path : List ℕ) (w : What) → AllByRecursion IsCall (given path w)
all_given path (what.File rights) = (tt, (tt, all_marked path rights (has_bits rights)))
all_given path (what.Directory rights) = (tt, (tt, (tt, tt)))
all_given path (what.Top rights) = (tt, (tt, (tt, tt)))
all_given path (what.HardLink old) = tt

-- a directory that gets its rights has all
whole_directory : (x y : Node) → IsHalf x y → as_directory (rights_of x) y ≡ x
whole_directory x y half = λ i. record {
  kind = half.kind i;
  owner = half.owner i;
  group = half.group i;
  set_gid = x.set_gid;
  sticky = x.sticky;
  acl = x.acl;
  default_acl = x.default_acl;
  bytes = half.bytes i;
}

module _ (bounds limits : Limits) (one : Tree) (first : World) (to : Numbers) (tree_is : IsTree bounds one) (apart : (a b c : ℕ) → to a ≡ Some c → to b ≡ Some c → a ≡ b) where
  -- the node of a number is as that of the other tree
  abbrev pub IsFull : World → ℕ → ℕ → Type 0
  IsFull now a b = map.get now.live.nodes b ≡ map.get one.nodes a

  -- while directories get their rights
  pub record IsGranting (now : World) : Type 0 where
    pub whole : IsWorld limits now
    pub roots : IsRoots now
    pub links : now.live.links ≡ first.live.links
    pub frozen : now.frozen ≡ first.frozen
    pub sessions : now.sessions ≡ first.sessions
    pub descriptors : now.descriptors ≡ first.descriptors
    pub half : (a b : ℕ) → to a ≡ Some b → HasHalf one now.live a b
    pub nodes : (n : ℕ) → ((a : ℕ) → to a ≡ Some n → ⊥) → map.get now.live.nodes n ≡ map.get first.live.nodes n

  -- the directory of an object has its rights
  abbrev pub IsSet : World → Object → Type 0
  IsSet now o = (a b : ℕ) → IsOwed one first to o a b → IsFull now a b

  pub record IsSoFar (now new : World) (order : List Object) : Type 0 where
    pub granting : IsGranting new
    pub stays : (a b : ℕ) → to a ≡ Some b → IsFull now a b → IsFull new a b
    pub set : AllByRecursion (IsSet new) order

  module _ (now new : World) (g : IsGranting now) (o : Object) (a b : ℕ) (w : IsOwed one first to o a b) (acts : List Act) (made : AreMade o.what (closing_from Give o) [] acts) (runs : Runs limits now acts new) where
    turned : IsTurned now new o.path (as_directory (rights_of w.x))
    turned =
        let node = tree_is.nodes.nodes a w.x w.in_one in
        directories_get_rights limits now new o (rights_of w.x) acts g.whole g.roots (record { access = node.acl; default = node.default_acl }) w.is made runs

    number_is : turned.number ≡ b
    number_is =
        let t = turned in
        let names : t.at.names ≡ w.names = same_ok t.at.names w.names (sym t.at.spelled ∙ w.spelled) in
        one_number t.number b (sym t.at.led ∙ led_same first now root t.at.names g.links g.frozen ∙ ap (led_to (trees_in first) root) names ∙ w.led)

    full : IsFull new a b
    full =
        let t = turned in
        let h = g.half a b w.to_is in
        let x_is : h.x ≡ w.x = one_value (map.get one.nodes a) h.x w.x h.in_one w.in_one in
        let y_is : t.node ≡ h.y = one_value (map.get now.live.nodes b) t.node h.y (ap (map.get now.live.nodes) (sym number_is) ∙ t.at.there) h.in_now in
        ap (map.get new.live.nodes) (sym number_is) ∙ t.turns.made
        ∙ ap (λ (y : Node). Some (as_directory (rights_of w.x) y)) y_is
        ∙ ap (λ (y : Node). Some y) (whole_directory w.x h.y (subst (λ (x : Node). IsHalf x h.y) x_is h.half))
        ∙ sym w.in_one

    kept : (n : ℕ) → n ≢ b → map.get new.live.nodes n ≡ map.get now.live.nodes n
    kept n other = let t = turned in t.turns.nodes n (λ same. other (same ∙ number_is))

    -- what has all keeps it
    stays_full : (k c : ℕ) → to k ≡ Some c → IsFull now k c → IsFull new k c
    stays_full k c e f = told (same_or_apart nat_cmp_total exact_unsigned c b)
      where
        told : (c ≡ b) ⊎ (c ≢ b) → IsFull new k c
        told (inl same) =
            let from : k ≡ a = apart k a b (e ∙ ap (λ (n : ℕ). Some n) same) w.to_is in
            ap (map.get new.live.nodes) same ∙ full ∙ ap (map.get one.nodes) (sym from)
        told (inr other) = kept c other ∙ f

    still_half : (k c : ℕ) → to k ≡ Some c → HasHalf one new.live k c
    still_half k c e = told (same_or_apart nat_cmp_total exact_unsigned c b)
      where
        told : (c ≡ b) ⊎ (c ≢ b) → HasHalf one new.live k c
        told (inl same) =
            let from : k ≡ a = apart k a b (e ∙ ap (λ (n : ℕ). Some n) same) w.to_is in
            record {
              x = w.x;
              y = w.x;
              in_one = ap (map.get one.nodes) from ∙ w.in_one;
              in_now = ap (map.get new.live.nodes) same ∙ full ∙ w.in_one;
              half = record { kind = refl; owner = refl; group = refl; bytes = refl; file = λ _. refl };
            }
        told (inr other) = let h = g.half k c e in record { x = h.x; y = h.y; in_one = h.in_one; in_now = kept c other ∙ h.in_now; half = h.half }

    -- the object has one directory
    set_here : IsSet new o
    set_here k c v =
        let names : v.names ≡ w.names = same_ok v.names w.names (sym v.spelled ∙ w.spelled) in
        let same : c ≡ b = one_number c b (sym v.led ∙ ap (led_to (trees_in first) root) names ∙ w.led) in
        let from : k ≡ a = apart k a b (v.to_is ∙ ap (λ (n : ℕ). Some n) same) w.to_is in
        ap (map.get new.live.nodes) same ∙ full ∙ ap (map.get one.nodes) (sym from)

    on : IsGranting new
    on = let t = turned in record {
      whole = made_along limits now new o.what (closing_from Give o) acts (all_given o.path o.what) made g.whole runs;
      roots = still_roots now new t.sessions g.roots;
      links = t.turns.links ∙ g.links;
      frozen = t.frozen ∙ g.frozen;
      sessions = t.sessions ∙ g.sessions;
      descriptors = t.descriptors ∙ g.descriptors;
      half = still_half;
      nodes = λ n none. kept n (λ same. none a (w.to_is ∙ ap (λ (k : ℕ). Some k) (sym same))) ∙ g.nodes n none;
    }

  -- ---- all directories

  no_stop : (o : Object) (acts more : List Act) (stop : Option Stop) → AreCalled ((acts ++ stop_told o stop) ++ more) → (stop ≡ None) × AreCalled more
  no_stop o acts more None called = (refl, (called_parts (acts ++ []) more called).1)
  no_stop o acts more (Some stop) called = absurd ((called_parts acts (stop_told o (Some stop)) (called_parts (acts ++ stop_told o (Some stop)) more called).0).1.0)

  pub all_granted : (order : List Object) (now new : World) (acts : List Act) → IsGranting now → AllByRecursion (IsOwing one first to) order → AreGranted order acts → AreCalled acts → Runs limits now acts new → IsSoFar now new order
  all_granted [] now new acts g owed granted called runs =
      let same : new ≡ now = subst (λ (xs : List Act). Runs limits now xs new) granted runs in
      record { granting = subst IsGranting (sym same) g; stays = λ a b e f. ap (λ (w : World). map.get w.live.nodes b) same ∙ f; set = tt }
  all_granted (o ∷ order) now new acts g owed granted called runs =
      let own = granted.0 in
      let more = granted.1 in
      let n = no_stop o own more granted.2 (subst AreCalled granted.3 called) in
      let made : AreMade o.what (closing_from Give o) [] own = subst (λ (s : Option Stop). IsGranted o own s) n.0 granted.4 in
      let rest = subst (λ (s : Option Stop). MatchBool (is_over s) (more ≡ []) (AreGranted order more)) n.0 granted.5 in
      let acts_are : acts ≡ (own ++ []) ++ more = granted.3 ∙ ap (λ (s : Option Stop). (own ++ stop_told o s) ++ more) n.0 in
      let r = runs_split limits now new (own ++ []) more (subst (λ (xs : List Act). Runs limits now xs new) acts_are runs) in
      let ran : Runs limits now own r.0 = subst (λ (xs : List Act). Runs limits now xs r.0) (append-nil own) r.1 in
      let w = owed.0 in
      let next = on now r.0 g o w.0 w.1 w.2 own made ran in
      let s = all_granted order r.0 new more next owed.1 rest n.1 r.2 in
      record {
        granting = s.granting;
        stays = λ a b e f. s.stays a b e (stays_full now r.0 g o w.0 w.1 w.2 own made ran a b e f);
        set = (λ a b v. s.stays a b v.to_is (set_here now r.0 g o w.0 w.1 w.2 own made ran a b v), s.set);
      }

  -- then each node is as in the other tree
  pub all_full : (now : World) (directories order : List Object) → AreOwed one first to directories → IsPermutation directories order → IsSoFar first now order → (a b : ℕ) → to a ≡ Some b → IsFull now a b
  all_full now directories order owed moved s a b e =
      let h = s.granting.half a b e in
      told h h.x.kind refl
    where
      told : (h : HasHalf one now.live a b) → (k : Kind) → h.x.kind ≡ k → IsFull now a b
      told h File is = h.in_now ∙ ap (λ (y : Node). Some y) (h.half.file is) ∙ sym h.in_one
      told h Directory is =
          let all = all_moved (IsSet now) order directories (IsPermutation-sym directories order moved) s.set in
          let found = among_all (λ o. IsOwed one first to o a b) (IsSet now) directories (owed.all a b h.x e h.in_one is) all in
          found.2 a b found.1

  pub owed_moved : (directories order : List Object) → AreOwed one first to directories → IsPermutation directories order → AllByRecursion (IsOwing one first to) order
  owed_moved directories order owed moved = all_moved (IsOwing one first to) directories order moved owed.each
