-- Blocks that changes can't touch.
use Rattle.std.proofs.Common.{◌≡◌, ℕ, ◌+◌, ◌-◌, ◌/◌, ◌<◌, ◌≤◌, suc, zero, List, length, None, refl, subst, arith}
use Rattle.std.specs.Prelude.{Contains}
use Rattle.sn_layout.specs.declared.tree.BlockTree.{BlockTree}
use Rattle.sn_layout_node.specs.Directory.{Link, links_bytes, number_of}
use Rattle.sn_ondisk.specs.Trees.{Store, data_block}
use Rattle.sn_names.specs.Told.{IsSeen, IsUnwanted}
use Rattle.sn_image.specs.Names.{names_in}
use Rattle.sn_dir.proofs.SeenLemmas.{seen_names}
use Rattle.sn_tree.specs.declared.new_block.DirtyBlock.{DirtyBlock}
use Rattle.sn_dir_change.specs.Changes.{ArePuts}
use Rattle.sn_dir_change.specs.Filter.{Covers}
use Rattle.sn_dir_change.specs.Through.{IsThrough}
use Rattle.sn_dir_change.specs.UnderWay.{AreFull, AreGone}
use Rattle.sn_dir_change.specs.declared.name_change.NameChange.{NameChange}
use Rattle.sn_dir_change.proofs.BlockLemmas.{no_room}
use Rattle.sn_dir_change.proofs.ThroughLemmas.{through_kept}
use Rattle.sn_dir_change.proofs.WayLemmas.{all_from}

module _ (prints : List ℕ) (least : ℕ) (standing waiting : List NameChange) (covers : Covers prints least standing waiting) (links : List Link) (unwanted : IsUnwanted prints least links) where
  unwanted_gone : AreGone standing links
  unwanted_gone = all_from (λ (c : NameChange). number_of c.name.now links ≡ None) standing (λ c there. unwanted.lacks c.name.now (covers.prints_there c there))

  unwanted_full : ArePuts waiting → AreFull waiting links
  unwanted_full puts c there fits =
      no_room links (4096 - length (links_bytes links)) c (omega arith) (puts c there, omega (arith, unwanted.room, covers.least_bytes c there)) fits

module _ (Told : Type 0) (sectors : ℕ) (s : Store) (tree : BlockTree) (changes : List NameChange) (bound : ℕ) (ds : List DirtyBlock) (standing waiting : List NameChange) (prints : List ℕ) (least : ℕ) (covers : Covers prints least standing waiting) where
  through_one : (i : ℕ) → i < tree.size / 4096 → (Told → IsSeen sectors s tree i (IsUnwanted prints least))
      → IsThrough Told s tree changes bound i ds standing waiting → IsThrough Told s tree changes bound (i + 1) ds standing waiting
  through_one i within seen through =
      let block = data_block s tree i in
      let unwanted : Told → IsUnwanted prints least (names_in block) = (λ told. seen_names sectors s tree i (IsUnwanted prints least) (seen told)) in
      through_kept Told s tree changes bound i ds standing waiting standing waiting block (λ told. refl) within through
      block (λ told. unwanted_full prints least standing waiting covers (names_in block) (unwanted told) through.puts) (λ c there. there)
      (λ told front back old way. (way, unwanted_gone prints least standing waiting covers (names_in block) (unwanted told))) refl (omega arith)

  through_so_many : (n i : ℕ) → i + n ≤ tree.size / 4096 → (Told → (j : ℕ) → i ≤ j → j < i + n → IsSeen sectors s tree j (IsUnwanted prints least))
      → IsThrough Told s tree changes bound i ds standing waiting → IsThrough Told s tree changes bound (i + n) ds standing waiting
  through_so_many zero i within seen through = let none : i ≡ i + 0 = omega arith in subst (λ (k : ℕ). IsThrough Told s tree changes bound k ds standing waiting) none through
  through_so_many (suc n) i within seen through =
      let next : i + 1 + n ≡ i + suc n = omega arith in
      subst (λ (k : ℕ). IsThrough Told s tree changes bound k ds standing waiting) next
      (through_so_many n (i + 1) (omega (arith, within)) (λ told j low high. seen told j (omega (arith, low)) (omega (arith, high)))
      (through_one i (omega (arith, within)) (λ told. seen told i (omega arith) (omega arith)) through))

  -- blocks that are passed over are gone through, and nothing is to be done in them
  pub through_passed : (from i : ℕ) → from ≤ i → i ≤ tree.size / 4096 → (Told → (j : ℕ) → from ≤ j → j < i → IsSeen sectors s tree j (IsUnwanted prints least))
      → IsThrough Told s tree changes bound from ds standing waiting → IsThrough Told s tree changes bound i ds standing waiting
  through_passed from i behind within seen through =
      let all : from + (i - from) ≡ i = omega (arith, behind) in
      subst (λ (k : ℕ). IsThrough Told s tree changes bound k ds standing waiting) all
      (through_so_many (i - from) from (omega (arith, behind, within)) (λ told j low high. seen told j low (omega (arith, high, behind))) through)

-- the changes that are left of those
pub covers_fewer : (prints : List ℕ) (least : ℕ) (standing waiting standing' waiting' : List NameChange) → ((c : NameChange) → Contains standing' c → Contains standing c) → ((c : NameChange) → Contains waiting' c → Contains waiting c)
    → Covers prints least standing waiting → Covers prints least standing' waiting'
covers_fewer prints least standing waiting standing' waiting' stand wait covers = record {
  prints_there = λ c there. covers.prints_there c (stand c there);
  least_bytes = λ c there. covers.least_bytes c (wait c there);
}
