-- What is seen of the tree in memory, and what was decided over it.
use Rattle.std.proofs.Common.{◌≡◌, ℕ, false, List, [], ◌∷◌, length, map as list_map, Option, is_some, refl, sym, ap, ◌∙◌, arith}
use Rattle.std.specs.Option.{option_and_then}
use Rattle.std.specs.Ordering.{nat_cmp}
use Rattle.std.specs.Cmp.Lexicographic.{slice_cmp}
use Rattle.std.specs.FinMap as fin
use Rattle.sn_walk.specs.declared.object.Home.{Home}
use Rattle.sn_walk.specs.declared.object.Home.TheVariants.{Frozen}
use Rattle.sn_walk.specs.Views.{nothing}
use Rattle.sn_limits.specs.Versions.{limits_written}
use Rattle.sn_model.specs.declared.call.Call.{Call}
use Rattle.sn_model.specs.FileCalls.{bytes_of}
use Rattle.sn_model.specs.Seen.{names_if, seen_names}
use Rattle.sn_model.specs.Settling.{nameless_if}
use Rattle.sn_model.specs.Tests.{has_room}
use Rattle.sn_model.specs.Tree.{Tree}
use Rattle.sn_model.specs.World.{World, tree_in, viewed_if, viewed_trees}
use Rattle.sn_desc.specs.Sessions.{in_use_of}
use Rattle.sn_numbers.specs.declared.numbered.NumberedTree.{NumberedTree}
use Rattle.sn_numbers.specs.Live.{live_of}
use Rattle.sn_core_decide_rules.specs.declared.fault.CallError.{CallError}
use Rattle.sn_core_decide_rules.specs.declared.fault.CallError.TheVariants.{Refused, Memory, View}
use Rattle.sn_core_decide_rules.specs.Decided as calls
use Rattle.sn_core_decide_rules.specs.Shown.{Shows, bytes_in}
use Rattle.sn_plain_world.specs.declared.view.PlainView.{PlainView}
use Rattle.sn_plain_world.specs.declared.world.PlainWorld.{PlainWorld}
use Rattle.sn_plain_world.specs.Plain.{plain_trees, world_of}
use Rattle.sn_plain_world.specs.Served.{HasNone, as_error}

-- nothing is seen of a frozen tree
pub none_frozen : (tree : Tree) (home : Home) (name : List ℕ) → home ≡ Frozen name → viewed_if (tree_in (plain_trees tree) home) ≡ nothing
none_frozen tree home name e = ap (λ (h : Home). viewed_if (tree_in (plain_trees tree) h)) e ∙ ap viewed_if (fin.get-empty (slice_cmp nat_cmp) name)

pub no_snapshot : (tree : Tree) (name : List ℕ) → fin.contains_key (plain_trees tree).frozen name ≡ false
no_snapshot tree name = ap is_some (fin.get-empty (slice_cmp nat_cmp) name)

-- and no bytes of a file in one
pub frozen_bytes : (tree : Tree) (number : ℕ) (home : Home) (name : List ℕ) → home ≡ Frozen name → bytes_of (option_and_then (λ (t : Tree). fin.get t.nodes number) (tree_in (plain_trees tree) home)) ≡ []
frozen_bytes tree number home name e =
    ap (λ (h : Home). bytes_of (option_and_then (λ (t : Tree). fin.get t.nodes number) (tree_in (plain_trees tree) h))) e
    ∙ ap (λ (o : Option Tree). bytes_of (option_and_then (λ (t : Tree). fin.get t.nodes number) o)) (fin.get-empty (slice_cmp nat_cmp) name)

-- and no names of a directory in one
pub frozen_names : (tree : Tree) (number : ℕ) (home : Home) (name : List ℕ) → home ≡ Frozen name → names_if (tree_in (plain_trees tree) home) number ≡ []
frozen_names tree number home name e =
    ap (λ (h : Home). names_if (tree_in (plain_trees tree) h) number) e
    ∙ ap (λ (o : Option Tree). names_if o number) (fin.get-empty (slice_cmp nat_cmp) name)

-- and no file without a name of one
pub no_nameless : (tree : Tree) (name : List ℕ) → nameless_if (fin.get (plain_trees tree).frozen name) ≡ 0
no_nameless tree name = ap nameless_if (fin.get-empty (slice_cmp nat_cmp) name)

-- and none of a snapshot
no_items : {A : Type 0} (xs : List A) → length xs ≡ 0 → xs ≡ []
no_items [] e = refl
no_items (x ∷ xs) e = absurd (omega (arith, e))

pub no_keys : (tree : Tree) → fin.keys (plain_trees tree).frozen ≡ []
no_keys tree = ap (list_map (λ (e : List ℕ × Tree). e.0)) (no_items (fin.entries (plain_trees tree).frozen) (sym (fin.len-entries (plain_trees tree).frozen) ∙ fin.len-empty (slice_cmp nat_cmp) Tree))

-- what is shown of the tree in memory, with the sessions, is the world
pub plain_shows : (w : PlainWorld) (v : PlainView) → v.tree.now ≡ w.tree → Shows (world_of w) (in_use_of w.sessions) (viewed_trees (plain_trees (live_of v.tree.now))) (has_room limits_written (live_of v.tree.now)) (seen_names limits_written (plain_trees (live_of v.tree.now))) (bytes_in (plain_trees (live_of v.tree.now)))
plain_shows w v e = record {
  sessions_are = refl;
  descriptors_are = refl;
  trees_are = ap (λ (t : NumberedTree). viewed_trees (plain_trees (live_of t))) e;
  room_is = ap (λ (t : NumberedTree). has_room limits_written (live_of t)) e;
  names_are = ap (λ (t : NumberedTree). seen_names limits_written (plain_trees (live_of t))) e;
  bytes_are = ap (λ (t : NumberedTree). bytes_in (plain_trees (live_of t))) e;
}

-- and why a call has no outcome over it
pub none_plain : {F : Type 0} (world : World) (session : ℕ) (c : Call) (e : CallError F) → calls.HasNone e world session c → HasNone (as_error e) world session c
none_plain world session c (Refused r) h = h
none_plain world session c Memory h = h
none_plain world session c (View f) h = h
