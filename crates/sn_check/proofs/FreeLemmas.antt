-- What is free by a map that was compared with its copy.
use Rattle.std.proofs.Common.{◌≡◌, ℕ, ◌≤◌, List, drop, length, slice_index, count_by, sym, subst, ◌∙◌}
use Rattle.sn_device.specs.Sectors.{Contents}
use Rattle.sn_layout.specs.declared.geometry.Area.TheVariants.{Data}
use Rattle.sn_layout.specs.declared.geometry.Slot.{Slot}
use Rattle.sn_layout.specs.declared.root.RootBody.{RootBody}
use Rattle.sn_layout.specs.Geometry.{start_of}
use Rattle.sn_map.specs.Free.{is_free_word}
use Rattle.sn_ondisk.specs.MapCopy.{map_word}
use Rattle.sn_ondisk.specs.Trees.{store_of}
use Rattle.sn_sound.specs.Maps.{IsSetOfRoots, IsSoundRoot, free_blocks, rooted_in}
use Rattle.sn_sound.proofs.FreeLemmas.{free_counted, words_counted}
use Rattle.sn_check_roots.specs.Words.{HasWords}

-- words that are those of the copy describe the roots too
words_tell : (n : ℕ) (c : Contents) (slot : Slot) (root : RootBody) (words : List ℕ) → IsSoundRoot n (store_of c) root (map_word n c slot) → HasWords n c slot words → IsSoundRoot n (store_of c) root (slice_index words)
words_tell n c slot root words sound has = record { roots = sound.roots; map = λ block within. subst (IsSetOfRoots (store_of c) (rooted_in root) block) (has block within) (sound.map block within) }

pub free_is : (n : ℕ) (c : Contents) (slot : Slot) (root : RootBody) (words : List ℕ) (free : ℕ) → IsSoundRoot n (store_of c) root (map_word n c slot) → HasWords n c slot words → length words ≡ n → start_of n Data ≤ n
    → free ≡ count_by is_free_word (drop (start_of n Data) words) → free ≡ free_blocks n (store_of c) root
free_is n c slot root words free sound has long within is =
    is ∙ words_counted is_free_word words (start_of n Data) n long within ∙ sym (free_counted n (store_of c) root (slice_index words) (words_tell n c slot root words sound has))
