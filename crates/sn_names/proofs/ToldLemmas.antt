-- What is known of blocks: how long it's true, and what follows from it.
use Rattle.std.proofs.Common.{◌≡◌, ◌≢◌, inl, inr, ℕ, zero, suc, ◌/◌, ◌%◌, ◌<◌, ◌≤◌, ◌==◌, Bool, true, false, List, Option, Some, None, length, get_or, slice_index, replicate, if◌then◌else◌, refl, sym, ap, subst, ◌∙◌, arith}
use Rattle.std.specs.List.{Contains}
use Rattle.std.proofs.lemmas.Bool.{eqb-false, cases_lt, ltb-true}
use Rattle.std.proofs.lemmas.List.{get_or_past}
use Rattle.std.proofs.lemmas.List.Elements.{Contains-get_or}
use Rattle.sn_layout.specs.Pointers.{levels_of}
use Rattle.sn_layout.specs.declared.tree.BlockTree.{BlockTree}
use Rattle.sn_layout_node.specs.Directory.{Link}
use Rattle.sn_ondisk.specs.Blocks.{numbers_in}
use Rattle.sn_ondisk.specs.Trees.{Store, below, entry}
use Rattle.sn_names.specs.Prints.{print_of, entry_at}
use Rattle.sn_names.specs.Rooms.{room_is_below}
use Rattle.sn_names.specs.Told.{Knows, IsTold, IsSeen, LacksName, IsUnwanted, links_before}

-- what is at an index of a list, unless it's 0
pub among : (xs : List ℕ) (i : ℕ) → slice_index xs i ≢ 0 → Contains xs (slice_index xs i)
among xs i some = elim (cases_lt i (length xs)) [
  | inl within ↦ Contains-get_or xs i 0 within
  | inr past ↦ absurd (some (get_or_past xs i 0 past))
]

-- ---- blocks that stay

choose : (b : Bool) (x y z : List ℕ) → (b ≡ false → y ≡ z) → (if b then x else y) ≡ (if b then x else z)
choose true x y z h = refl
choose false x y z h = h refl

below_stays : (s r : Store) (p : ℕ) → (p ≢ 0 → r p ≡ s p) → below r p ≡ below s p
unfolding below
below_stays s r p same = choose (p == 0) (replicate 1024 0) (numbers_in 1024 (r p)) (numbers_in 1024 (s p)) (λ other. ap (numbers_in 1024) (same (eqb-false p 0 other)))

entry_stays : (s r : Store) (levels : ℕ) (pointers : List ℕ) (i : ℕ) → levels ≤ 1 → ((b : ℕ) → b ≢ 0 → Contains pointers b → r b ≡ s b) → entry r levels pointers i ≡ entry s levels pointers i
unfolding entry
entry_stays s r zero pointers i few same = refl
entry_stays s r (suc zero) pointers i few same =
    ap (λ (ps : List ℕ). slice_index ps (i % 1024)) (below_stays s r (slice_index pointers (i / 1024)) (λ some. same _ some (among pointers (i / 1024) some)))
entry_stays s r (suc (suc levels)) pointers i few same = absurd (omega arith)

pub stays : (sectors : ℕ) (s r : Store) (tree : BlockTree) (numbers : List ℕ) (rooms : List (Option ℕ)) (entries : List ℕ) → levels_of tree.size ≤ 1
    → IsTold sectors s tree numbers rooms entries → ((b : ℕ) → b ≢ 0 → Contains tree.pointers b → r b ≡ s b) → ((b : ℕ) → b ≢ 0 → Contains numbers b → r b ≡ s b)
    → IsTold sectors r tree numbers rooms entries
stays sectors s r tree numbers rooms entries level t above below = record {
  placed = λ i some. let p = t.placed i some in record {
    place = entry_stays s r (levels_of tree.size) tree.pointers i level above ∙ p.place;
    lies = p.lies;
    above = p.above;
  };
  somewhere = t.somewhere;
  known = λ i room is. let some = t.somewhere i room is in
      subst (Knows entries i room) (sym (below (slice_index numbers i) some (among numbers i some))) (t.known i room is);
}

-- ---- what follows

some_of : (o : Option ℕ) → o ≢ None → (room : ℕ) × (o ≡ Some room)
some_of None other = absurd (other refl)
some_of (Some room) other = (room, refl)

below_of : (o : Option ℕ) (least : ℕ) → room_is_below least o ≡ true → (room : ℕ) × (o ≡ Some room) × (room < least)
below_of None least is = absurd cc
below_of (Some room) least is = (room, refl, ltb-true room least is)

module _ (sectors : ℕ) (s : Store) (tree : BlockTree) (numbers : List ℕ) (rooms : List (Option ℕ)) (entries : List ℕ) (level : levels_of tree.size ≤ 1) (t : IsTold sectors s tree numbers rooms entries) (i : ℕ) where
  seen : (room : ℕ) → get_or rooms i None ≡ Some room → (P : List Link → Type 0) → P (links_before room (s (slice_index numbers i))) → IsSeen sectors s tree i P
  seen room is P so = record {
    level = level;
    number = slice_index numbers i;
    no_hole = t.somewhere i room is;
    placed = t.placed i (t.somewhere i room is);
    links = links_before room (s (slice_index numbers i));
    spelled = (t.known i room is).spelled;
    true_of = so;
  }

  pub seen_without : (name : List ℕ) (print : ℕ) → print_of name ≡ print → get_or rooms i None ≢ None → (Contains entries (entry_at print i) → ⊥) → IsSeen sectors s tree i (LacksName name)
  seen_without name print is known none =
      let room = some_of (get_or rooms i None) known in
      seen room.0 room.1 (LacksName name) ((t.known i room.0 room.1).listed name (subst (λ (p : ℕ). Contains entries (entry_at p i) → ⊥) (sym is) none))

  pub seen_unwanted : (prints : List ℕ) (least : ℕ) → room_is_below least (get_or rooms i None) ≡ true → ((p : ℕ) → Contains prints p → Contains entries (entry_at p i) → ⊥) → IsSeen sectors s tree i (IsUnwanted prints least)
  seen_unwanted prints least is none =
      let room = below_of (get_or rooms i None) least is in
      let k = t.known i room.0 room.1 in
      seen room.0 room.1 (IsUnwanted prints least) (record {
        lacks = λ name has. k.listed name (none (print_of name) has);
        room = let left = k.left in let small : room.0 < least = room.2 in omega arith;
      })
