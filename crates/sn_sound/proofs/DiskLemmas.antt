-- A fault makes a disk unsound, and a sound one opens to a world.
use Rattle.std.proofs.Common.{◌≡◌, inl, inr, ℕ, ◌+◌, List, ◌∷◌, ◌++◌, Option, Some, None, refl, sym, ap, subst, ◌∙◌, arith}
use Rattle.sn_device.specs.Sectors.{Contents}
use Rattle.sn_limits.specs.declared.limits.Limits.{Limits}
use Rattle.sn_layout.specs.declared.geometry.Slot.{Slot}
use Rattle.sn_layout.specs.Bytes.{number_bytes, zeros}
use Rattle.sn_layout.specs.Superblock.{magic, superblock_bytes}
use Rattle.sn_layout.proofs.Fields.{same_fronts, same_numbers}
use Rattle.sn_layout.specs.declared.root.RootBody.{RootBody}
use Rattle.sn_model.specs.declared.change.Change.{Change}
use Rattle.sn_model.specs.declared.fault.Damage.{Damage}
use Rattle.sn_model.specs.declared.fault.Damage.TheVariants.{Root, Pointer, ReachedTwice, MapWord, Misspelt, Links, Log}
use Rattle.sn_model.specs.Chains.{◌>>=◌}
use Rattle.sn_model.specs.Changes.{apply, apply_all}
use Rattle.sn_model.specs.Tree.{Tree}
use Rattle.sn_model.specs.World.{World}
use Rattle.sn_model.proofs.ChainLemmas.{some_same}
use Rattle.sn_model.proofs.ListLemmas.{lists_join}
use Rattle.sn_record.proofs.OneSpelling.{one_spelling}
use Rattle.sn_ondisk.specs.LogHalf.{ReplaysTo, base_of}
use Rattle.sn_ondisk.specs.OneAnswer.{IsOnDisk}
use Rattle.sn_ondisk.specs.Roots.{body_block}
use Rattle.sn_ondisk.specs.Trees.{store_of}
use Rattle.sn_ondisk.proofs.OneLemmas.{replay_is_one}
use Rattle.sn_image.specs.Image.{image}
use Rattle.sn_log.specs.Positions.{base_at, payloads_of}
use Rattle.sn_log.specs.declared.replay.NextRecord.TheVariants as found
use Rattle.sn_log.proofs.LawLemmas.{replay-finds}
use Rattle.sn_opening.specs.Opens.{IsDisk, Opens}
use Rattle.sn_opening.specs.Worlds.{frozen_of}
use Rattle.sn_opening.specs.Worlds as worlds
use Rattle.sn_opening.proofs.OpeningLemmas.{half_lies, opens_to_one, replayed_in_turn}
use Rattle.sn_opening.proofs.SpelledLemmas.{spelled_once}
use Rattle.sn_sound.specs.Charges.{Fits}
use Rattle.sn_sound.specs.Disks.{IsFormatted, IsImageOf, IsOfDevice, IsSoundDisk, IsSoundImage}
use Rattle.sn_sound.specs.Logs.{AreReplayed, BreaksAt, IsBad, IsLogFault, IsToRecover, HasSoundLog, older, newer, later, charges, age}
use Rattle.sn_sound.specs.Maps.{free_blocks}
use Rattle.sn_sound.specs.Verdicts.{Stands}
use Rattle.sn_sound.proofs.SoundLemmas.{root_clean}

-- ---- the log

-- the records of an epoch spell one list of changes, which make one tree
pub record AreOne (changes others : List Change) (tree other : Tree) : Type 0 where
  pub lists : changes ≡ others
  pub trees : tree ≡ other

pub replayed_once : (c : Contents) (limits : Limits) (from : Tree) (n epoch : ℕ) (changes others : List Change) (tree other : Tree) → IsOnDisk c (base_of n epoch)
    → AreReplayed c limits from n epoch changes tree → AreReplayed c limits from n epoch others other → AreOne changes others tree other
replayed_once c limits from n epoch changes others tree other on_disk a b =
    let payloads = (replay_is_one c (base_of n epoch) epoch on_disk a.records.0 b.records.0 (payloads_of changes) (payloads_of others) a.records.1 b.records.1).0 in
    let same = spelled_once changes others a.spelled b.spelled payloads in
    record { lists = same; trees = some_same tree other (sym a.applied ∙ ap (λ cs. apply_all limits cs from) same ∙ b.applied) }

-- replay meets nothing bad where all the records are made
pub never_breaks : (c : Contents) (limits : Limits) (from : Tree) (n epoch block : ℕ) (changes : List Change) (tree : Tree) → IsOnDisk c (base_of n epoch)
    → AreReplayed c limits from n epoch changes tree → BreaksAt c limits from n epoch block → ⊥
unfolding apply_all
never_breaks c limits from n epoch block changes tree on_disk all b = meets b.bad
  where
    base_is : base_of n epoch ≡ base_at b.at
    base_is = ap (λ m. base_of m epoch) (sym b.blocks) ∙ ap (λ e. base_of b.at.blocks e) (sym b.of_epoch)

    records_here : ReplaysTo c (base_at b.at) b.at.epoch (payloads_of changes) all.records.0
    records_here = subst (λ (e : ℕ). ReplaysTo c (base_at b.at) e (payloads_of changes) all.records.0) (sym b.of_epoch)
        (subst (λ (base : ℕ). ReplaysTo c base epoch (payloads_of changes) all.records.0) base_is all.records.1)

    here : IsOnDisk c (base_at b.at)
    here = subst (IsOnDisk c) base_is on_disk

    -- a change that fails makes the whole list fail
    fails : (change : Change) (after : List Change) → changes ≡ b.changes ++ change ∷ after → apply limits change b.tree ≡ None → ⊥
    fails change after parts none =
        let whole : apply_all limits changes from ≡ None =
        ap (λ cs. apply_all limits cs from) parts
        ∙ lists_join limits b.changes (change ∷ after) from
        ∙ ap (λ (o : Option Tree). o >>= apply_all limits (change ∷ after)) b.applied
        ∙ ap (λ (o : Option Tree). o >>= apply_all limits after) none in
        let never : None ≡ Some tree = sym whole ∙ all.applied in
        cc

    meets : IsBad c limits b.tree b.at block → ⊥
    meets (inl misspelt) = replay-finds one_spelling c b.at b.changes changes all.records.0 (found.Misspelt block) here b.spelled all.spelled b.behind records_here misspelt
    meets (inr (change, finds, none, is)) =
        let next = replay-finds one_spelling c b.at b.changes changes all.records.0 (found.Change change) here b.spelled all.spelled b.behind records_here finds in
        fails change next.0 next.1 none

pub log_clean : (n : ℕ) (c : Contents) (root : RootBody) (free : ℕ) → IsDisk n c → HasSoundLog n c root free → (block : ℕ) → IsLogFault n c root free block → ⊥
log_clean n c root free disk log _ (older block breaks) =
    never_breaks c root.limits (image (store_of c) root.inode_file) n root.epoch block log.older log.middle (half_lies n root.epoch c disk) log.has_older breaks
log_clean n c root free disk log _ (newer block changes tree first breaks) =
    let one = replayed_once c root.limits (image (store_of c) root.inode_file) n root.epoch changes log.older tree log.middle (half_lies n root.epoch c disk) first log.has_older in
    never_breaks c root.limits log.middle n (root.epoch + 1) block log.newer log.tree (half_lies n (root.epoch + 1) c disk) log.has_newer
    (subst (λ (t : Tree). BreaksAt c root.limits t n (root.epoch + 1) block) one.trees breaks)
log_clean n c root free disk log _ (later epoch wrong) = wrong (log.none_later epoch)
log_clean n c root free disk log _ (charges first second middle tree has_first has_second wrong) =
    let one = replayed_once c root.limits (image (store_of c) root.inode_file) n root.epoch log.older first log.middle middle (half_lies n root.epoch c disk) log.has_older has_first in
    let two = replayed_once c root.limits middle n (root.epoch + 1) log.newer second log.tree tree (half_lies n (root.epoch + 1) c disk)
    (subst (λ (t : Tree). AreReplayed c root.limits t n (root.epoch + 1) log.newer log.tree) one.trees log.has_newer) has_second in
    wrong (subst (λ (cs : List Change). Fits root.limits cs (image (store_of c) root.inode_file) free) (λ i. one.lists i ++ two.lists i) log.fits)
log_clean n c root free disk log _ (age first second middle tree has_first has_second recovers wrong) =
    let one = replayed_once c root.limits (image (store_of c) root.inode_file) n root.epoch first log.older middle log.middle (half_lies n root.epoch c disk) has_first log.has_older in
    let two = replayed_once c root.limits log.middle n (root.epoch + 1) second log.newer tree log.tree (half_lies n (root.epoch + 1) c disk)
    (subst (λ (t : Tree). AreReplayed c root.limits t n (root.epoch + 1) second tree) one.trees has_second) log.has_newer in
    let both : first ++ second ≡ log.older ++ log.newer = λ i. one.lists i ++ two.lists i in
    wrong (log.age (subst (λ (t : Tree). IsToRecover root (log.older ++ log.newer) t) two.trees (subst (λ (cs : List Change). IsToRecover root cs tree) both recovers)))

-- ---- the whole disk

pub is_disk : (sectors : ℕ) (c : Contents) (n : ℕ) (slot : Slot) (root : RootBody) → IsOfDevice sectors c → IsSoundDisk sectors c n slot root → IsDisk n c
is_disk sectors c n slot root device sound = record {
  size = sound.formatted.size;
  whole = device.whole;
  long = omega (arith, sound.formatted.room, device.count);
}

pub disk_clean : (sectors : ℕ) (c : Contents) (n : ℕ) (slot : Slot) (root : RootBody) (damage : Damage) (block : ℕ) → IsOfDevice sectors c → IsSoundDisk sectors c n slot root → Stands n c slot root damage block → ⊥
disk_clean sectors c n slot root Root block device sound stands = stands
disk_clean sectors c n slot root Pointer block device sound (r, among, fault) = (root_clean root.limits n (store_of c) r.inodes (body_block slot) block (sound.roots.roots r among)).pointer fault
disk_clean sectors c n slot root ReachedTwice block device sound (r, among, fault) = (root_clean root.limits n (store_of c) r.inodes (body_block slot) block (sound.roots.roots r among)).twice fault
disk_clean sectors c n slot root Misspelt block device sound (r, among, fault) = (root_clean root.limits n (store_of c) r.inodes (body_block slot) block (sound.roots.roots r among)).spelling fault
disk_clean sectors c n slot root MapWord block device sound (within, wrong) = wrong (sound.roots.map block within)
disk_clean sectors c n slot root Links block device sound (r, among, fault) = (root_clean root.limits n (store_of c) r.inodes (body_block slot) block (sound.roots.roots r among)).links fault
disk_clean sectors c n slot root Log block device sound fault =
    log_clean n c root (free_blocks n (store_of c) root) (is_disk sectors c n slot root device sound) sound.log block fault

-- ---- what it opens to

-- the world of a sound disk
abbrev pub world_of : (sectors : ℕ) (c : Contents) (n : ℕ) (slot : Slot) (root : RootBody) → IsSoundDisk sectors c n slot root → World
world_of sectors c n slot root sound = worlds.found sound.log.tree (frozen_of (store_of c) root.snapshots)

pub opens_to_its_world : (sectors : ℕ) (c : Contents) (n : ℕ) (slot : Slot) (root : RootBody) (sound : IsSoundDisk sectors c n slot root) → Opens n c (world_of sectors c n slot root sound)
opens_to_its_world sectors c n slot root sound =
    let log = sound.log in
    record {
      slot = slot;
      root = root;
      older = log.older;
      newer = log.newer;
      older_spelled = log.has_older.spelled;
      newer_spelled = log.has_newer.spelled;
      shown = record { newest = sound.newest; has_older = log.has_older.records; has_newer = log.has_newer.records };
      stands = replayed_in_turn (store_of c) root log.older log.newer log.middle log.tree log.has_older.applied log.has_newer.applied;
    }

pub sound_opens : (sectors : ℕ) (c : Contents) (n : ℕ) (slot : Slot) (root : RootBody) → IsSoundDisk sectors c n slot root → (world : World) × Opens n c world
sound_opens sectors c n slot root sound = (world_of sectors c n slot root sound, opens_to_its_world sectors c n slot root sound)

pub image_holds : (sectors : ℕ) (c : Contents) → IsSoundImage sectors c → (world : World) × IsImageOf world sectors c
image_holds sectors c image =
    let w = sound_opens sectors c image.blocks image.slot image.root image.sound in
    (w.0, record { image = image; opens = w.1 })

-- a disk is formatted for one number of blocks
pub one_size : (sectors : ℕ) (c : Contents) (n m : ℕ) → IsFormatted sectors c n → IsFormatted sectors c m → n ≡ m
one_size sectors c n m a b =
    let bytes : superblock_bytes (record { geometry = n }) ≡ superblock_bytes (record { geometry = m }) = sym a.spelled ∙ b.spelled in
    let rest = (same_fronts magic magic (number_bytes 4 n ++ zeros 4084) (number_bytes 4 m ++ zeros 4084) refl bytes).1 in
    (same_numbers 4 n m (zeros 4084) (zeros 4084) (omega (arith, a.size.most)) (omega (arith, b.size.most)) rest).0

pub one_world : (world other : World) (sectors : ℕ) (c : Contents) → IsOfDevice sectors c → IsImageOf world sectors c → IsImageOf other sectors c → world ≡ other
one_world world other sectors c device a b =
    let size = one_size sectors c a.image.blocks b.image.blocks a.image.sound.formatted b.image.sound.formatted in
    opens_to_one b.image.blocks c world other (is_disk sectors c b.image.blocks b.image.slot b.image.root device b.image.sound) (subst (λ (n : ℕ). Opens n c world) size a.opens) b.opens
