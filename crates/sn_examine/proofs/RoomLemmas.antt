-- What is free by the words of a map.
use Rattle.std.proofs.Common.{◌≡◌, inl, inr, ℕ, ◌+◌, ◌-◌, ◌*◌, ◌/◌, ◌^◌, ◌<◌, ◌≤◌, ◌==◌, min, nat_le, Bool, true, false, List, ◌++◌, drop, take, length, count_by, slice_index, refl, sym, ap, ◌∙◌, append-nil, arith, leb-true, leb-false}
use Rattle.std.specs.List.{range_with_len}
use Rattle.std.proofs.lemmas.List.{length-drop, length-take, take-append-drop}
use Rattle.std.proofs.Math.ListN.{drop_of_length-le}
use Rattle.std.proofs.Math.Seq.{take-add}
use Rattle.std.proofs.lemmas.Slice.{take-put_mid}
use borrow.Rule.Slice.PartMut.{put_mid}
use Rattle.sn_device.specs.Sectors.{AreSectors, Contents}
use Rattle.sn_layout.specs.declared.geometry.Area.TheVariants.{Data, MapCopy}
use Rattle.sn_layout.specs.declared.geometry.Slot.{Slot}
use Rattle.sn_layout.specs.declared.root.RootBody.{RootBody}
use Rattle.sn_layout.specs.Bytes.{AreNumbers}
use Rattle.sn_layout.specs.MapCopy.{map_block_bytes}
use Rattle.sn_layout.specs.Geometry.{end_of, start_of}
use Rattle.sn_image.proofs.PieceLemmas.{all_drop, all_take}
use Rattle.sn_ondisk.specs.Blocks.{block_at}
use Rattle.sn_ondisk.specs.MapLaws.{words_of_block}
use Rattle.sn_ondisk.proofs.MapBlockLemmas.{map_blocks_spelled}
use Rattle.sn_map.specs.Free.{is_free_word}
use Rattle.sn_ondisk.specs.MapCopy.{HasMap}
use Rattle.sn_ondisk.specs.Trees.{store_of}
use Rattle.sn_sound.proofs.FreeLemmas.{free_counted, words_counted}
use Rattle.sn_block.specs.declared.fault.ReadFault.{ReadFault}
use Rattle.sn_block.specs.declared.fault.ReadFault.TheVariants as read
use Rattle.sn_examine.specs.Failing.{read_fault}
use Rattle.sn_examine.specs.Refusing.{TellsFree}
use Rattle.sn_examine.specs.Rooms.{IsNoDamage}

-- words that are those of any map that the copy is spelled with show what is free
pub tells_free : (n : ℕ) (c : Contents) (slot : Slot) (root : RootBody) (words : List ℕ) (free : ℕ) → length words ≡ n → start_of n Data ≤ n → ((all : List ℕ) → HasMap n c slot all → words ≡ all)
    → free ≡ count_by is_free_word (drop (start_of n Data) words) → TellsFree n c slot root free
tells_free n c slot root words free long within only is all has sound =
    is ∙ words_counted is_free_word words (start_of n Data) n long within
    ∙ ap (λ (ws : List ℕ). count_by (λ block. slice_index ws block == 0) (range_with_len (start_of n Data) (n - start_of n Data))) (only all has)
    ∙ sym (free_counted n (store_of c) root (slice_index all) sound)

-- of some words the first ones are those of each map that the copy is spelled with
abbrev pub AreRead : ℕ → Contents → Slot → ℕ → List ℕ → Type 0
AreRead n c slot at words = (all : List ℕ) → HasMap n c slot all → take at words ≡ take at all

take_all : (n : ℕ) (xs : List ℕ) → length xs ≤ n → take n xs ≡ xs
take_all n xs within = sym (append-nil (take n xs)) ∙ ap (λ (r : List ℕ). take n xs ++ r) (sym (drop_of_length-le xs within)) ∙ take-append-drop n xs

-- the words of the next block
next_words : (all : List ℕ) (at end : ℕ) → at ≤ length all → end ≡ min (length all) (at + 1024) → take end all ≡ take at all ++ take 1024 (drop at all)
next_words all at end within is = told (nat_le (at + 1024) (length all)) refl
  where
    told : (b : Bool) → nat_le (at + 1024) (length all) ≡ b → take end all ≡ take at all ++ take 1024 (drop at all)
    told true e = ap (λ (n : ℕ). take n all) (omega (arith, is, leb-true (at + 1024) (length all) e)) ∙ take-add at 1024 all
    told false e =
        let short = leb-false (at + 1024) (length all) e in
        take_all end all (omega (arith, is, short)) ∙ sym (take_all (at + 1024) all (omega (arith, short))) ∙ take-add at 1024 all

-- a block that is read adds its words
pub next_read : (n : ℕ) (c : Contents) (slot : Slot) (words part : List ℕ) (at end : ℕ) → AreSectors c → 8 * end_of n (MapCopy slot) ≤ length c → length words ≡ n → at < n → 1024 * (at / 1024) ≡ at → end ≡ min n (at + 1024) → length part ≡ end - at
    → ((all : List ℕ) → length all ≡ end - at → AreNumbers 4 all → block_at c (start_of n (MapCopy slot) + at / 1024) ≡ map_block_bytes all → part ≡ all)
    → AreRead n c slot at words → AreRead n c slot end (put_mid at (end - at) words part)
next_read n c slot words part at end sectors room long inside whole is part_long only before all has =
    take-put_mid at (end - at) words part end (omega (arith, part_long, is, inside)) (omega (arith, inside, long))
    ∙ (λ i. before all has i ++ part_is i)
    ∙ sym (next_words all at end (omega (arith, inside, has.count)) (is ∙ ap (λ (m : ℕ). min m (at + 1024)) (sym has.count)))
  where
    block : words_of_block (at / 1024) all ≡ take 1024 (drop at all)
    block = ap (λ (k : ℕ). take 1024 (drop k all)) whole

    here : block_at c (start_of n (MapCopy slot) + at / 1024) ≡ map_block_bytes (take 1024 (drop at all))
    here = map_blocks_spelled n c slot all sectors room has (at / 1024) (omega (arith, inside, whole)) ∙ ap map_block_bytes block

    part_is : part ≡ take 1024 (drop at all)
    part_is =
        only (take 1024 (drop at all)) (omega (arith, length-take 1024 (drop at all), length-drop at all, has.count, is, inside))
        (all_take (λ number. number < 256 ^ 4) 1024 (drop at all) (all_drop (λ number. number < 256 ^ 4) at all has.fits)) here

-- a read that fails reports no damage
pub read_is_none : (f : ReadFault) → IsNoDamage (read_fault f)
read_is_none read.Device = inr refl
read_is_none read.Memory = inl refl
