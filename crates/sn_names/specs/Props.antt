-- What indexes of names say is one fact, of which there is one proof at most, as a ghost field asks.
use Rattle.std.specs.Prelude.{◌≡◌, ◌≢◌, ℕ, ◌+◌, ◌*◌, ◌-◌, ◌/◌, ◌^◌, ◌<◌, ◌≤◌, List, length, Contains, Option, Some, None, slice_index, slice_index_or}
use Rattle.std.specs.List.{AllByRecursion, AllByRecursion-prop as all_prop}
use Rattle.std.proofs.Props.{props}
use mathlib.Core.Bool.{Bool-set}
use mathlib.Core.HLevel.{Π_prop}
use Rattle.sn_layout.specs.Pointers.{levels_of}
use Rattle.sn_layout.specs.declared.tree.BlockTree.{BlockTree}
use Rattle.sn_layout_node.specs.Directory.{Link, IsLink, AreLinks, Spells, links_bytes, directory_bytes, number_of}
use Rattle.sn_ondisk.specs.Trees.{Store, entry}
use Rattle.sn_names.specs.Prints.{entry_for}
use Rattle.sn_names.specs.Told.{IsPlaced, Knows, IsTold, links_before}
use Rattle.sn_names.specs.Indexes.{AllTell}
use Rattle.sn_names.specs.declared.indexes.NameIndexes.{NameIndexes}

IsLink-prop : (link : Link) → IsProp (IsLink link)
IsLink-prop link x y =
    let least_prop : IsProp (2 ≤ link.number) = Prim.hlevel props in
    let most_prop : IsProp (link.number < 256 ^ 2) = Prim.hlevel props in
    λ k. record { least = least_prop x.least y.least k; most = most_prop x.most y.most k; name = Bool-set _ _ x.name y.name k }

AllByRecursion-prop : (links : List Link) → IsProp (AllByRecursion IsLink links)
AllByRecursion-prop links = all_prop IsLink IsLink-prop links

AreLinks-prop : (links : List Link) → IsProp (AreLinks links)
AreLinks-prop links x y =
    let room_prop : IsProp (length (links_bytes links) ≤ 4096) = Prim.hlevel props in
    λ k. record { each = AllByRecursion-prop links x.each y.each k; room = room_prop x.room y.room k }

Spells-prop : (block : List ℕ) (links : List Link) → IsProp (Spells block links)
Spells-prop block links x y =
    let bytes_prop : IsProp (block ≡ directory_bytes links) = Prim.hlevel props in
    λ k. record { fit = AreLinks-prop links x.fit y.fit k; bytes = bytes_prop x.bytes y.bytes k }

IsPlaced-prop : (sectors : ℕ) (s : Store) (tree : BlockTree) (i number : ℕ) → IsProp (IsPlaced sectors s tree i number)
IsPlaced-prop sectors s tree i number x y =
    let place_prop : IsProp (entry s (levels_of tree.size) tree.pointers i ≡ number) = Prim.hlevel props in
    let lies_prop : IsProp (8 * number + 8 ≤ sectors) = Prim.hlevel props in
    let above_prop : IsProp (levels_of tree.size ≢ 0 → 8 * slice_index tree.pointers (i / 1024) + 8 ≤ sectors) = Prim.hlevel props in
    λ k. record { place = place_prop x.place y.place k; lies = lies_prop x.lies y.lies k; above = above_prop x.above y.above k }

Knows-prop : (entries : List ℕ) (i room : ℕ) (block : List ℕ) → IsProp (Knows entries i room block)
Knows-prop entries i room block x y =
    let left_prop : IsProp (4096 - length (links_bytes (links_before room block)) ≡ room) = Prim.hlevel props in
    let listed_prop : IsProp ((name : List ℕ) → (Contains entries (entry_for name i) → ⊥) → number_of name (links_before room block) ≡ None) = Prim.hlevel props in
    λ k. record { spelled = Spells-prop block (links_before room block) x.spelled y.spelled k; left = left_prop x.left y.left k; listed = listed_prop x.listed y.listed k }

IsTold-prop : (sectors : ℕ) (s : Store) (tree : BlockTree) (numbers : List ℕ) (rooms : List (Option ℕ)) (entries : List ℕ) → IsProp (IsTold sectors s tree numbers rooms entries)
IsTold-prop sectors s tree numbers rooms entries x y =
    let placed_prop : IsProp ((i : ℕ) → slice_index numbers i ≢ 0 → IsPlaced sectors s tree i (slice_index numbers i)) = Π_prop (λ i. Π_prop (λ some. IsPlaced-prop sectors s tree i (slice_index numbers i))) in
    let somewhere_prop : IsProp ((i room : ℕ) → slice_index_or rooms i None ≡ Some room → slice_index numbers i ≢ 0) = Prim.hlevel props in
    let known_prop : IsProp ((i room : ℕ) → slice_index_or rooms i None ≡ Some room → Knows entries i room (s (slice_index numbers i))) = Π_prop (λ i. Π_prop (λ room. Π_prop (λ is. Knows-prop entries i room (s (slice_index numbers i))))) in
    λ k. record { placed = placed_prop x.placed y.placed k; somewhere = somewhere_prop x.somewhere y.somewhere k; known = known_prop x.known y.known k }

pub told-prop : {T : Type 0} (sectors : ℕ) (s : Store) (it : NameIndexes) → IsProp (T → AllTell sectors s it)
told-prop sectors s it = Π_prop (λ told. Π_prop (λ k. Π_prop (λ d. Π_prop (λ within. IsTold-prop _ _ _ _ _ _))))
