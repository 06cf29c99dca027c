-- What an image of a world and a disk without a fault have to do with each other.
use Rattle.std.proofs.Common.{◌≡◌, ⊎_elim, ℕ, zero, suc, ◌+◌, ◌-◌, ◌*◌, ◌^◌, ◌<◌, ◌≤◌, List, [], ◌∷◌, ◌++◌, length, replicate, take, drop, slice_index, Option, Some, refl, sym, ap, subst, ◌∙◌, append-nil, arith}
use Rattle.std.specs.Int.{w32, trailing_zeros}
use Rattle.std.proofs.lemmas.Bool.{cases_lt}
use Rattle.std.proofs.lemmas.List.{drop_all, ext_get_or, get_or_append_left, get_or-append_right, get_or-drop, get_or_past, get_or-replicate, length-drop, length-replicate, length-take, take-append-drop}
use Rattle.std.proofs.lemmas.Nat.Bits.{bit_at-trailing_zeros}
use Rattle.byteorder.specs.Endian.{little_number}
use Rattle.sn_device.specs.Sectors.{AreSectors, Contents, sector_at}
use Rattle.sn_layout.specs.Bytes.{AreNumbers, numbers_bytes}
use Rattle.sn_layout.proofs.Fields.{IsBytes}
use Rattle.sn_layout.specs.declared.geometry.Area.TheVariants.{MapCopy}
use Rattle.sn_layout.specs.declared.geometry.Slot.{Slot}
use Rattle.sn_layout.specs.declared.geometry.Slot.TheVariants.{A, B}
use Rattle.sn_layout.specs.declared.root.RootBody.{RootBody}
use Rattle.sn_layout.specs.Geometry.{map_blocks, start_of}
use Rattle.sn_layout_node.specs.Indirect.{numbers_of}
use Rattle.sn_layout_node.proofs.Numbers.{numbers_fit, numbers_read}
use Rattle.sn_model.specs.Chains.{◌>>=◌}
use Rattle.sn_model.specs.Changes.{apply_all}
use Rattle.sn_model.specs.Tree.{Tree}
use Rattle.sn_model.specs.World.{World}
use Rattle.sn_model.proofs.ListLemmas.{lists_join}
use Rattle.sn_ondisk.specs.Blocks.{bytes_at, numbers_in}
use Rattle.sn_ondisk.specs.MapCopy.{HasMap, map_bytes, map_words}
use Rattle.sn_ondisk.specs.Trees.{Store, store_of}
use Rattle.sn_ondisk.proofs.BlockLemmas.{length-bytes_at, length-numbers_in}
use Rattle.sn_ondisk.proofs.MapLemmas.{map_word-spelled}
use Rattle.sn_image.specs.Image.{image}
use Rattle.sn_image.proofs.PieceLemmas.{all_take}
use Rattle.sn_sound.specs.Disks.{IsOfDevice, IsSoundDisk}
use Rattle.sn_sound.specs.Logs.{HasSoundLog}
use Rattle.sn_sound.specs.Maps.{IsReachedBy, IsSetOfRoots, Rooted, free_blocks, rooted_in}
use Rattle.sn_opening.proofs.OpeningLemmas.{replayed_in_turn}
use Rattle.sn_sound.proofs.DiskLemmas.{is_disk, world_of}
use Rattle.sn_held.specs.Images.{IsImage}
use Rattle.sn_examine.specs.Laws.{IsSomeClean}
use Rattle.sn_examine.proofs.FindLemmas.{halves, image_newer, image_older, recovers_after, recovers_before}

-- ---- the bytes of a map

numbers_alike : (n : ℕ) (bytes : List ℕ) → numbers_of n bytes ≡ numbers_in n bytes
unfolding numbers_of numbers_in
numbers_alike zero bytes = refl
numbers_alike (suc n) bytes = ap (λ (ns : List ℕ). little_number 4 bytes ∷ ns) (numbers_alike n (drop 4 bytes))

-- numbers spell the bytes that they were read from
numbers_spell : (n : ℕ) (bytes : List ℕ) → length bytes ≡ 4 * n → IsBytes bytes → numbers_bytes 4 (numbers_in n bytes) ≡ bytes
numbers_spell n bytes long fit =
    let none : drop (4 * n) bytes ≡ [] = drop_all (4 * n) bytes (omega (arith, long)) in
    ap (numbers_bytes 4) (sym (numbers_alike n bytes))
    ∙ sym (append-nil (numbers_bytes 4 (numbers_of n bytes)))
    ∙ ap (λ (r : List ℕ). numbers_bytes 4 (numbers_of n bytes) ++ r) (sym none)
    ∙ sym (numbers_read n bytes (omega (arith, long)) fit)

-- what is in sectors are bytes
sectors_fit : (c : Contents) (at n : ℕ) → AreSectors c → at + n ≤ length c → IsBytes (bytes_at c at n)
unfolding bytes_at
sectors_fit c at zero whole room i = subst (λ (b : ℕ). b < 256) (sym (get_or_past {X = ℕ} [] i 0 (omega arith))) (omega arith)
sectors_fit c at (suc n) whole room i = ⊎_elim
    (λ (left : i < length (sector_at c at)). subst (λ (b : ℕ). b < 256) (sym (get_or_append_left (sector_at c at) (bytes_at c (at + 1) n) 0 i left)) ((whole at (omega (arith, room))).bytes_fit i))
    (λ (right : length (sector_at c at) ≤ i).
    subst (λ (b : ℕ). b < 256) (sym (get_or-append_right (sector_at c at) (bytes_at c (at + 1) n) (length (sector_at c at)) i 0 refl right))
    (sectors_fit c (at + 1) n whole (omega (arith, room)) (i - length (sector_at c at))))
    (cases_lt i (length (sector_at c at)))

-- a block that no root reaches has the word 0
zero_word : (s : Store) (all : List Rooted) (block word : ℕ) → IsSetOfRoots s all block word → ((k : ℕ) → IsReachedBy s all block k → ⊥) → word ≡ 0
zero_word s all block zero set none = refl
zero_word s all block (suc w) set none =
    let low = bit_at-trailing_zeros w32 (suc w) (omega arith) set.fits in
    absurd (none (trailing_zeros w32 (suc w)) ((set.bits (trailing_zeros w32 (suc w))).0 low.1))

-- a copy of the map is on the disk
copy_within : (n : ℕ) (slot : Slot) → 256 ≤ n → start_of n (MapCopy slot) + map_blocks n ≤ n
copy_within n A least = omega (arith, least)
copy_within n B least = omega (arith, least)

-- ---- a disk without a fault is an image

module _ (sectors : ℕ) (c : Contents) (n : ℕ) (slot : Slot) (root : RootBody) (device : IsOfDevice sectors c) (sound : IsSoundDisk sectors c n slot root) where
  abbrev all : List ℕ
  all = map_words n c slot

  abbrev bytes : List ℕ
  bytes = map_bytes n c slot

  room : 8 * start_of n (MapCopy slot) + 8 * map_blocks n ≤ length c
  room = omega (arith, copy_within n slot sound.formatted.size.least, sound.formatted.room, device.count)

  bytes_long : length bytes ≡ 4 * (1024 * map_blocks n)
  bytes_long = let long = length-bytes_at c (8 * start_of n (MapCopy slot)) (8 * map_blocks n) device.whole room in omega (arith, long)

  bytes_fit : IsBytes bytes
  bytes_fit = sectors_fit c (8 * start_of n (MapCopy slot)) (8 * map_blocks n) device.whole room

  long : length all ≡ 1024 * map_blocks n
  unfolding map_words
  long = length-numbers_in (1024 * map_blocks n) bytes

  spelled : numbers_bytes 4 all ≡ bytes
  unfolding map_words
  spelled = numbers_spell (1024 * map_blocks n) bytes bytes_long bytes_fit

  all_fit : AreNumbers 4 all
  unfolding map_words
  all_fit = subst (AreNumbers 4) (numbers_alike (1024 * map_blocks n) bytes) (numbers_fit (1024 * map_blocks n) bytes bytes_fit)

  -- no root reaches what is past the disk
  none_past : (block : ℕ) → n ≤ block → block < 1024 * map_blocks n → slice_index all block ≡ 0
  none_past block past within =
      zero_word (store_of c) (rooted_in root) block (slice_index all block) (sound.roots.map block within)
      (λ k r. let below = ((sound.roots.roots (record { bit = k; inodes = r.inodes }) r.among).placed.within block r.reached).below in absurd (omega (arith, past, below)))

  past : drop n all ≡ replicate (1024 * map_blocks n - n) 0
  past =
      let count : length (drop n all) ≡ 1024 * map_blocks n - n = omega (arith, length-drop n all, long) in
      ext_get_or 0 (drop n all) (replicate (1024 * map_blocks n - n) 0) (count ∙ sym (length-replicate {A = ℕ} (1024 * map_blocks n - n) 0))
      (λ i within. get_or-drop n all i 0 ∙ none_past (n + i) (omega arith) (omega (arith, within, count)) ∙ sym (get_or-replicate (1024 * map_blocks n - n) i 0 0 (omega (arith, within, count))))

  has_map : HasMap n c slot (take n all)
  has_map = record {
    count = omega (arith, length-take n all, long);
    fits = all_take (λ number. number < 256 ^ 4) n all all_fit;
    bytes = sym spelled ∙ ap (numbers_bytes 4) (sym (take-append-drop n all) ∙ ap (λ (r : List ℕ). take n all ++ r) past);
  }

  sound_image : IsImage c (world_of sectors c n slot root sound)
  sound_image =
      let log = sound.log in
      let img = image (store_of c) root.inode_file in
      let applied : apply_all root.limits (log.older ++ log.newer) img ≡ Some log.tree =
      lists_join root.limits log.older log.newer img ∙ ap (λ (o : Option Tree). o >>= apply_all root.limits log.newer) log.has_older.applied ∙ log.has_newer.applied in
      record {
        blocks = n;
        disk = is_disk sectors c n slot root device sound;
        spelled = sound.formatted.spelled;
        opens = record {
          slot = slot;
          root = root;
          older = log.older;
          newer = log.newer;
          older_spelled = log.has_older.spelled;
          newer_spelled = log.has_newer.spelled;
          shown = record { newest = sound.newest; has_older = log.has_older.records; has_newer = log.has_newer.records };
          stands = replayed_in_turn (store_of c) root log.older log.newer log.middle log.tree log.has_older.applied log.has_newer.applied;
        };
        words = take n all;
        map = has_map;
        sound = record {
          roots = sound.roots.roots;
          map = λ block within. subst (IsSetOfRoots (store_of c) (rooted_in root) block) (map_word-spelled n c slot (take n all) has_map block) (sound.roots.map block within);
        };
        none_later = log.none_later;
        fits = log.fits;
        age = λ recovers. log.age (recovers_after root root.limits (log.older ++ log.newer) img log.tree applied recovers);
      }

pub clean_image : (sectors : ℕ) (c : Contents) → IsOfDevice sectors c → IsSomeClean sectors c → (world : World) × IsImage c world
clean_image sectors c device (free, clean) = (world_of sectors c clean.blocks clean.slot clean.root clean.sound, sound_image sectors c clean.blocks clean.slot clean.root device clean.sound)

-- ---- an image has no fault

module _ (sectors : ℕ) (c : Contents) (w : World) (device : IsOfDevice sectors c) (im : IsImage c w) where
  abbrev img_root : RootBody
  img_root = im.opens.root

  abbrev img : Tree
  img = image (store_of c) im.opens.root.inode_file

  image_log : HasSoundLog im.blocks c im.opens.root (free_blocks im.blocks (store_of c) im.opens.root)
  image_log = record {
    older = im.opens.older;
    newer = im.opens.newer;
    middle = (halves c w im).0;
    tree = im.opens.stands.tree;
    has_older = image_older c w im;
    has_newer = image_newer c w im;
    none_later = im.none_later;
    fits = im.fits;
    age = λ recovers. im.age (recovers_before img_root img_root.limits (im.opens.older ++ im.opens.newer) img im.opens.stands.tree im.opens.stands.applied recovers);
  }

  image_sound : IsSoundDisk sectors c im.blocks im.opens.slot im.opens.root
  image_sound = record {
    formatted = record { size = im.disk.size; spelled = im.spelled; room = omega (arith, im.disk.long, device.count) };
    newest = im.opens.shown.newest;
    roots = record {
      roots = im.sound.roots;
      map = λ block within. subst (IsSetOfRoots (store_of c) (rooted_in img_root) block) (sym (map_word-spelled im.blocks c im.opens.slot im.words im.map block)) (im.sound.map block within);
    };
    log = image_log;
  }

pub image_clean : (sectors : ℕ) (c : Contents) (world : World) → IsOfDevice sectors c → IsImage c world → IsSomeClean sectors c
image_clean sectors c world device im = (
  free_blocks im.blocks (store_of c) im.opens.root,
  record { blocks = im.blocks; slot = im.opens.slot; root = im.opens.root; sound = image_sound sectors c world device im; free_is = refl },
)
