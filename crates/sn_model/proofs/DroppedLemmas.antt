-- Worlds without the files that have no name and that nobody has open.
use Rattle.std.proofs.Common.{◌≡◌, ℕ, ◌≤◌, Bool, true, false, not, cond, ◌||◌, List, Option, Some, None, length, refl, sym, ap, ◌∙◌}
use Rattle.std.specs.Prelude.{IsSomeAnd, IsTrue}
use Rattle.std.specs.Cmp.{nat_cmp_total}
use Rattle.std.specs.FinMap as map
use Rattle.std.specs.List.{AllByRecursion}
use Rattle.std.proofs.lemmas.Map.Lookups.{exact_unsigned}
use Rattle.sn_limits.specs.declared.kind.Kind.TheVariants.{File}
use Rattle.sn_limits.specs.declared.limits.Limits.{Limits}
use Rattle.sn_limits.specs.SnapshotName.{is_snapshot_name}
use Rattle.sn_walk.specs.declared.object.Home.{Home}
use Rattle.sn_walk.specs.declared.object.Home.TheVariants.{Live, Frozen}
use Rattle.sn_model.specs.Descriptors.{is_held_in}
use Rattle.sn_model.specs.NameTree.{HasKind, IsTree}
use Rattle.sn_model.specs.Settling.{dropped, is_held, is_nameless, without_nameless}
use Rattle.sn_model.specs.Tree.{Node, Tree, names_for}
use Rattle.sn_model.specs.World.{Descriptor, World, tree_in, trees_of}
use Rattle.sn_model.specs.Worlds.{IsOpenFile, IsSession, IsWorld}
use Rattle.sn_model.proofs.DropLemmas.{dropping_tree, without_was}
use Rattle.sn_model.proofs.HeldLemmas.{held_at, held_by}
use Rattle.sn_model.proofs.MoveLemmas.{is_kind, kind_at, some_node}
use Rattle.sn_model.proofs.SettlingLemmas.{get_without, nameless_file, nameless_is}

-- a world, but that nobody may hold a file without a name
pub record IsUndropped (limits : Limits) (world : World) : Type 0 where
  pub live : IsTree limits world.live
  pub frozen : (name : List ℕ) (tree : Tree) → map.get world.frozen name ≡ Some tree → IsTree limits tree
  pub snapshot_names : (name : List ℕ) (tree : Tree) → map.get world.frozen name ≡ Some tree → IsTrue (is_snapshot_name name)
  pub few_snapshots : map.len world.frozen ≤ limits.snapshots
  pub count : length world.sessions ≡ 64
  pub callers : AllByRecursion IsSession world.sessions
  pub open_files : (session fd : ℕ) (d : Descriptor) → map.get world.descriptors (session, fd) ≡ Some d → IsOpenFile limits world session fd d

-- a file that is held stays
kept : (held : ℕ → Bool) (tree : Tree) (n : ℕ) → held n ≡ true → map.get (without_nameless held tree).nodes n ≡ map.get tree.nodes n
kept held tree n h = get_without held tree n ∙ told (is_nameless tree n (map.get tree.nodes n))
  where
    told : (b : Bool) → cond (not b || held n) (map.get tree.nodes n) None ≡ map.get tree.nodes n
    told true = ap (λ b. cond b (map.get tree.nodes n) None) h
    told false = refl

-- a file without a name that has stayed is held
was_held : (held : ℕ → Bool) (tree : Tree) (n : ℕ) → HasKind (without_nameless held tree) n File → names_for tree n ≡ 0 → held n ≡ true
was_held held tree n k z =
    let s = some_node _ File k in
    let was = without_was held tree n s.0 s.1 in
    told s.0 (held n) (sym (get_without held tree n ∙ ap (λ (o : Option Node). cond (not (is_nameless tree n o) || held n) o None) was ∙ ap (λ b. cond (not b || held n) (Some s.0) None) (nameless_file tree n s.0 s.2 z)) ∙ s.1)
  where
    told : (x : Node) (b : Bool) → cond b (Some x) None ≡ Some x → b ≡ true
    told x true e = refl
    told x false e = cc

module _ (limits : Limits) (world : World) where
  file_left : (session fd : ℕ) (d : Descriptor) → map.get world.descriptors (session, fd) ≡ Some d → (home : Home) → d.home ≡ home → IsSomeAnd (tree_in (trees_of world) home) (λ tree. HasKind tree d.number File) → IsSomeAnd (tree_in (trees_of (dropped world)) home) (λ tree. HasKind tree d.number File)
  file_left session fd d e Live is h = kind_at _ _ File (kept (is_held world) world.live d.number (held_at world.descriptors d.number session fd d e is refl)) h
  file_left session fd d e (Frozen name) is h = h

  -- what nobody holds goes, and then it is a world
  pub dropped_world : IsUndropped limits world → IsWorld limits (dropped world)
  dropped_world w = record {
    live = dropping_tree limits world.live (is_held world) w.live;
    frozen = w.frozen;
    snapshot_names = w.snapshot_names;
    few_snapshots = w.few_snapshots;
    count = w.count;
    callers = w.callers;
    open_files = λ i fd d e. let f = w.open_files i fd d e in record {
      caller = f.caller;
      number = f.number;
      file = file_left i fd d e d.home refl f.file;
      offset = f.offset;
      live = f.live;
    };
    held = λ n k z. held_by world.descriptors n (was_held (is_held world) world.live n k z);
  }

  -- somebody has each live file without a name
  abbrev pub AllHeld : Type 0
  AllHeld = (n : ℕ) → HasKind world.live n File → names_for world.live n ≡ 0 → is_held world n ≡ true

  pub all_held : IsWorld limits world → AllHeld
  all_held w n k z = let h = w.held n k z in holder h.0 h.1 (map.get world.descriptors (h.0, h.1)) refl h.2
    where
      holder : (session fd : ℕ) (o : Option Descriptor) → map.get world.descriptors (session, fd) ≡ o → IsSomeAnd o (λ d. (d.home ≡ Live) × (d.number ≡ n)) → is_held_in world.descriptors n ≡ true
      holder session fd None e h = absurd h
      holder session fd (Some d) e h = held_at world.descriptors n session fd d e h.0 h.1

  -- then nothing goes
  pub dropped_same : AllHeld → dropped world ≡ world
  dropped_same held = λ i. record world { live = record world.live { nodes = nodes i } }
    where
      stays : (n : ℕ) (x : Node) → map.get world.live.nodes n ≡ Some x → (b : Bool) → is_nameless world.live n (Some x) ≡ b → cond (not b || is_held world n) (Some x) None ≡ Some x
      stays n x e false t = refl
      stays n x e true t = let is = nameless_is world.live n x t in ap (λ b. cond b (Some x) None) (held n (is_kind world.live n x File e is.0) is.1)

      nothing : Option Node
      nothing = None

      none : (b : Bool) → cond b nothing nothing ≡ nothing
      none true = refl
      none false = refl

      told : (n : ℕ) (o : Option Node) → map.get world.live.nodes n ≡ o → cond (not (is_nameless world.live n o) || is_held world n) o None ≡ o
      told n None e = none (not (is_nameless world.live n None) || is_held world n)
      told n (Some x) e = stays n x e (is_nameless world.live n (Some x)) refl

      nodes : (dropped world).live.nodes ≡ world.live.nodes
      nodes = map.same_map nat_cmp_total exact_unsigned _ _ (λ n. get_without (is_held world) world.live n ∙ told n (map.get world.live.nodes n) refl)
