-- Files that are dropped one after the other.
use Rattle.std.proofs.Common.{◌≡◌, ◌≢◌, ◌⊎◌, inl, inr, ℕ, suc, ◌+◌, ◌<◌, ◌≤◌, length, slice_index_or, take, Bool, true, false, ◌&&◌, ◌||◌, ◌==◌, cond, List, [], ◌∷◌, ◌++◌, Option, Some, None, is_none, is_some, Contains, append-nil, refl, sym, ap, subst, ◌∙◌, arith, true≢false}
use Rattle.std.specs.FinMap as map
use Rattle.std.proofs.Math.Seq.{take-suc}
use Rattle.std.proofs.lemmas.List.Elements.{Contains-append_left, Contains-push, Contains-push_cases}
use Rattle.std.proofs.lemmas.List.Sums.{fold-append}
use Rattle.sn_changed.specs.Dropped.{TellsGone, with_drops}
use Rattle.sn_changed.specs.declared.dropped.DroppedFile.{DroppedFile}
use Rattle.sn_caller.specs.Numbering.{has_gone}
use Rattle.sn_caller.specs.Told.{told_if, told_lost}
use Rattle.sn_caller.proofs.NumberLemmas.{abandoned_there, gone_by, kept_more}
use Rattle.sn_caller.proofs.ToldLemmas.{tells_if}
use Rattle.sn_live.specs.Live as live
use Rattle.sn_live.specs.declared.live.LiveTree.{LiveTree}
use Rattle.sn_live_world.specs.Dropping.{DropsClosed, DropsIf, DropsLost}
use Rattle.sn_live_world.specs.World.{IsOver, changes_of, kept_of, kept_since_of, tree_over, world_over}
use Rattle.sn_live_world.specs.declared.world.LiveWorld.{LiveWorld}
use Rattle.sn_model.specs.Settling.{dropped, is_abandoned}
use Rattle.sn_model.specs.Tree.{Node, Tree}
use Rattle.sn_model.specs.World.{World}
use Rattle.sn_model.proofs.LoseLemmas.{dropped_once, still_abandoned}
use Rattle.sn_overlay.specs.Layers.{Layer}
use Rattle.sn_overlay.specs.Merges.{merge}
use Rattle.sn_overlay.specs.Overlays.{gone}

-- ---- room

-- room for this many drops is room for fewer
pub fewer_drops : (it : LiveTree) (more fewer : ℕ) → fewer ≤ more → live.HasDrops it more → live.HasDrops it fewer
fewer_drops it more fewer less has = record { nodes = omega (arith, less, has.nodes); names = has.names; blocks = has.blocks }

-- ---- what changed

drops_on : (layer : Layer) (files more : List DroppedFile) → with_drops layer (files ++ more) ≡ with_drops (with_drops layer files) more
drops_on layer files more = fold-append (λ (older : Layer) (file : DroppedFile). merge older (gone file.number file.by_close)) layer files more

told_behind : (world : World) (number : ℕ) (by_close : Bool) (files : List DroppedFile) → files ++ told_if world number by_close [] ≡ told_if world number by_close files
told_behind world number by_close files = told (is_abandoned world number)
  where
    told : (b : Bool) → files ++ cond b ([] ++ (record { number = number; by_close = by_close }) ∷ []) [] ≡ cond b (files ++ (record { number = number; by_close = by_close }) ∷ []) files
    told true = refl
    told false = append-nil files

pub if_behind : (first mid last : Layer) (world : World) (number : ℕ) (by_close : Bool) (files : List DroppedFile) → mid ≡ with_drops first files → last ≡ with_drops mid (told_if world number by_close []) → last ≡ with_drops first (told_if world number by_close files)
if_behind first mid last world number by_close files before then =
    then ∙ ap (λ (layer : Layer). with_drops layer (told_if world number by_close [])) before
    ∙ sym (drops_on first files (told_if world number by_close []))
    ∙ ap (with_drops first) (told_behind world number by_close files)

pub lost_behind : (first mid last : Layer) (world : World) (lost : Option ℕ) (files : List DroppedFile) → mid ≡ with_drops first files → last ≡ with_drops mid (told_lost world lost []) → last ≡ with_drops first (told_lost world lost files)
lost_behind first mid last world None files before then = then ∙ before
lost_behind first mid last world (Some number) files before then = if_behind first mid last world number false files before then

-- ---- one after the other

pub take_next : (numbers : List ℕ) (index : ℕ) → index < length numbers → take (index + 1) numbers ≡ take index numbers ++ slice_index_or numbers index 0 ∷ []
take_next numbers index within =
    let same : index + 1 ≡ suc index = omega arith in
    ap (λ (k : ℕ). take k numbers) same ∙ take-suc numbers index 0 within

no_one : (number : ℕ) → Contains [] number → ⊥
no_one number c = absurd (omega (arith, c.1))

none_gone : (o : Option Node) → (is_some o && is_none o) ≡ false
none_gone None = refl
none_gone (Some x) = refl

tells_none : (tree : Tree) → TellsGone tree tree []
tells_none tree = record {
  each = λ n. (λ c. absurd (no_one n c), λ e. absurd (true≢false (sym e ∙ none_gone (map.get tree.nodes n))));
  once = λ i j d low high. absurd (omega (arith, high));
}

-- nothing was looked at yet
pub none_closed : (w : LiveWorld) (below : Tree) → IsOver w below → DropsClosed [] w w below
none_closed w below over = record {
  over = over;
  world = refl;
  left = λ n e. (e, no_one n);
  went = λ n e. absurd (true≢false (sym e ∙ gone n));
  files = [];
  told = tells_none (tree_over w below);
  changes = refl;
  kept = λ n. sym (ap (λ (b : Bool). b || kept_of w n) (gone n));
  since = λ n. sym (ap (λ (b : Bool). b || kept_since_of w n) (gone n));
}
  where
    gone : (n : ℕ) → has_gone (world_over w below) (world_over w below) n ≡ false
    gone n = none_gone (map.get (tree_over w below).nodes n)

module _ (numbers : List ℕ) (number : ℕ) (old mid new : LiveWorld) (below : Tree) (so_far : DropsClosed numbers old mid below) (next : DropsIf number true mid new below) where
  abbrev start : World
  start = world_over old below

  abbrev between : World
  between = world_over mid below

  still : (n : ℕ) → is_abandoned (world_over new below) n ≡ true → (is_abandoned between n ≡ true) × (n ≢ number)
  still n e = still_abandoned between number n (ap (λ (w : World). is_abandoned w n) (sym next.world) ∙ e)

  was : is_abandoned between number ≡ true → is_abandoned start number ≡ true
  was e = (so_far.left number e).0

  went : (n : ℕ) → has_gone start (world_over new below) n ≡ true → Contains (numbers ++ number ∷ []) n
  went n e = told (gone_by start between number n (ap (λ (w : World). has_gone start w n) (sym next.world) ∙ e))
    where
      told : (has_gone start between n ≡ true) ⊎ (n ≡ number) → Contains (numbers ++ number ∷ []) n
      told (inl before) = Contains-append_left numbers (number ∷ []) n (so_far.went n before)
      told (inr same) = subst (λ (k : ℕ). Contains (numbers ++ number ∷ []) k) (sym same) (Contains-push numbers number)

  kept_on : (first before after : ℕ → Bool) → ((n : ℕ) → before n ≡ (has_gone start between n || first n)) → ((n : ℕ) → after n ≡ ((is_abandoned between number && n == number) || before n)) → (n : ℕ) → after n ≡ (has_gone start (world_over new below) n || first n)
  kept_on first before after by more n = kept_more start between number first before after was by more n ∙ sym (ap (λ (w : World). has_gone start w n || first n) next.world)

  pub one_closed : DropsClosed (numbers ++ number ∷ []) old new below
  one_closed = record {
    over = next.over;
    world = ap dropped next.world ∙ dropped_once between number ∙ so_far.world;
    left = λ n e. ((so_far.left n (still n e).0).0, λ c. apart n e (Contains-push_cases numbers number n c));
    went = went;
    files = told_if between number true so_far.files;
    told = subst (λ (w : World). TellsGone start.live w.live (told_if between number true so_far.files)) (sym next.world)
        (tells_if start between number true so_far.files (λ e. abandoned_there start number (was e)) so_far.told);
    changes = if_behind (changes_of old) (changes_of mid) (changes_of new) between number true so_far.files so_far.changes next.changes;
    kept = kept_on (kept_of old) (kept_of mid) (kept_of new) so_far.kept next.kept;
    since = kept_on (kept_since_of old) (kept_since_of mid) (kept_since_of new) so_far.since next.since;
  }
    where
      apart : (n : ℕ) → is_abandoned (world_over new below) n ≡ true → Contains numbers n ⊎ (number ≡ n) → ⊥
      apart n e (inl c) = (so_far.left n (still n e).0).1 c
      apart n e (inr same) = (still n e).1 (sym same)

-- ---- the one that lost its name

pub one_lost : (number : ℕ) (old new : LiveWorld) (below : Tree) → DropsIf number false old new below → DropsLost (Some number) old new below
one_lost number old new below next = record { over = next.over; world = next.world; changes = next.changes; kept = next.kept; since = next.since }
