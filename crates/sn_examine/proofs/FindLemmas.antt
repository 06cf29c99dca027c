-- What a mount finds on an image, and why it finds none elsewhere.
use Rattle.std.proofs.Common.{◌≡◌, ◌≢◌, inl, inr, ⊎_elim, ℕ, ◌+◌, ◌*◌, ◌<◌, ◌≤◌, Bool, true, false, List, [], ◌∷◌, ◌++◌, length, slice_index, Option, Some, None, refl, sym, ap, subst, ◌∙◌, arith, leb-false, length-append}
use Rattle.std.proofs.lemmas.List.{nil_from_length}
use Rattle.sn_device.specs.Sectors.{Contents}
use Rattle.sn_limits.specs.declared.limits.Limits.{Limits}
use Rattle.sn_layout.specs.declared.geometry.Slot.{Slot}
use Rattle.sn_layout.specs.declared.root.RootBody.{RootBody}
use Rattle.sn_model.specs.declared.fault.Damage.{Damage}
use Rattle.sn_model.specs.declared.fault.Damage.TheVariants.{Log}
use Rattle.sn_model.specs.declared.fault.MountFault.{MountFault}
use Rattle.sn_model.specs.declared.fault.MountFault.TheVariants as fault
use Rattle.sn_model.specs.declared.change.Change.{Change}
use Rattle.sn_model.specs.Chains.{◌>>=◌}
use Rattle.sn_model.specs.Changes.{apply_all}
use Rattle.sn_model.specs.Tree.{Tree}
use Rattle.sn_model.specs.World.{World}
use Rattle.sn_changed.specs.Changed.{HasChanged}
use Rattle.sn_changed.proofs.ChangedLemmas.{nothing_changed}
use Rattle.sn_model.proofs.ListLemmas.{lists_join}
use Rattle.sn_ondisk.specs.LogHalf.{HasNoLater, Replays as ReplaysPayloads, base_of}
use Rattle.sn_ondisk.specs.Roots.{IsNewest}
use Rattle.sn_ondisk.specs.Trees.{store_of}
use Rattle.sn_ondisk.proofs.OneRootLemmas.{newest_is_one}
use Rattle.sn_log.specs.Positions.{LogPosition, payloads_of}
use Rattle.sn_image.specs.Image.{image}
use Rattle.sn_opening.proofs.OpeningLemmas.{half_lies}
use Rattle.sn_sound.specs.Disks.{IsFormatted}
use Rattle.sn_sound.specs.Logs.{AreReplayed, BreaksAt, HasAgeLeft, IsLogFault, IsToRecover, age as without_age, half_block, charges as overcharged, later, newer, older}
use Rattle.sn_ondisk.specs.MapCopy.{HasMap}
use Rattle.sn_sound.specs.Maps.{IsSoundRoot, free_blocks}
use Rattle.sn_sound.proofs.DiskLemmas.{never_breaks, one_size, replayed_once}
use Rattle.sn_held.specs.Held.{Kept}
use Rattle.sn_held.specs.Images.{IsImage}
use Rattle.sn_model.specs.Settling.{nameless_in}
use Rattle.sn_overlay.specs.Overlays.{no_changes}
use Rattle.sn_held.specs.Rooms.{RoomCounts, is_covered, mounted}
use Rattle.sn_sound.specs.Charges.{Fits, charges_from}
use Rattle.sn_held.proofs.RoomLemmas.{charges_join}
use Rattle.sn_examine.specs.Ages.{IsAged, TellsByNumbers, TellsRecovery}
use Rattle.sn_examine.specs.Replaying.{LeadsOn}
use Rattle.sn_examine.specs.Rooms.{FindsRoom, IsUncovered}
use Rattle.sn_examine.specs.Both.{BothBreak, BreaksBoth, HasBoth, Replays, in_newer, in_older}
use Rattle.sn_examine.specs.Examining.{SomeIsLater}
use Rattle.sn_examine.specs.Finding.{HasFound, HasRoot}
use Rattle.sn_examine.specs.Refusing.{HasLogFault, IsNoImage, Refuses, TellsFree}

-- ---- the same root

-- An image has the size and the newest root that are found.
pub record IsSameRoot (c : Contents) (n : ℕ) (slot : Slot) (root : RootBody) (w : World) (im : IsImage c w) : Type 0 where
  pub blocks : im.blocks ≡ n
  pub slots : im.opens.slot ≡ slot
  pub roots : im.opens.root ≡ root

pub same_root : (sectors : ℕ) (c : Contents) (n : ℕ) (slot : Slot) (root : RootBody) (w : World) (im : IsImage c w) → length c ≡ sectors → IsFormatted sectors c n → IsNewest c slot root → IsSameRoot c n slot root w im
same_root sectors c n slot root w im count formatted newest =
    let one = newest_is_one c im.opens.slot slot im.opens.root root im.opens.shown.newest newest in
    record {
      blocks = one_size sectors c im.blocks n (record { size = im.disk.size; spelled = im.spelled; room = subst (λ (m : ℕ). 8 * im.blocks ≤ m) count im.disk.long }) formatted;
      slots = one.0;
      roots = one.1;
    }

-- ---- records that are made

-- the records of an epoch up to a position, as those that a log has
pub are_replayed : (limits : Limits) (c : Contents) (from : Tree) (n epoch : ℕ) (at : LogPosition) (tree : Tree) (charges : ℕ) (r : Replays limits c from n epoch at tree charges) → AreReplayed c limits from n epoch r.all.replayed.changes tree
are_replayed limits c from n epoch at tree charges r = record {
  spelled = r.all.replayed.spelled;
  records =
      subst (λ (e : ℕ). ReplaysPayloads c (base_of n e) e (payloads_of r.all.replayed.changes)) r.of_epoch
      (subst (λ (m : ℕ). ReplaysPayloads c (base_of m at.epoch) at.epoch (payloads_of r.all.replayed.changes)) r.blocks
      (at.place, record { leads = r.all.replayed.behind.leads; stops = r.all.stops }));
  applied = r.all.replayed.applied;
}

-- one that can't be replayed is a fault of the log, whatever is free
pub breaks_log : (c : Contents) (n : ℕ) (root : RootBody) (free block : ℕ) → BreaksBoth root.limits c (image (store_of c) root.inode_file) n root.epoch block → IsLogFault n c root free block
breaks_log c n root free block (in_older b) = older block b
breaks_log c n root free block (in_newer at middle charges first b) =
    newer block first.all.replayed.changes middle (are_replayed root.limits c (image (store_of c) root.inode_file) n root.epoch at middle charges first) b

-- changes that are made one after the other have a tree between them
split_made : (first : Option Tree) (second : Tree → Option Tree) (tree : Tree) → (first >>= second) ≡ Some tree → (middle : Tree) × (first ≡ Some middle) × (second middle ≡ Some tree)
split_made (Some middle) second tree e = (middle, refl, e)
split_made None second tree e = never e
  where
    never : {A : Type 0} → None ≡ Some tree → A
    never e = cc

module _ (c : Contents) (w : World) (im : IsImage c w) where
  abbrev limits : Limits
  limits = im.opens.root.limits

  abbrev from : Tree
  from = image (store_of c) im.opens.root.inode_file

  pub halves : (middle : Tree) × (apply_all limits im.opens.older from ≡ Some middle) × (apply_all limits im.opens.newer middle ≡ Some im.opens.stands.tree)
  halves = split_made (apply_all limits im.opens.older from) (apply_all limits im.opens.newer) im.opens.stands.tree (sym (lists_join limits im.opens.older im.opens.newer from) ∙ im.opens.stands.applied)

  pub image_older : AreReplayed c limits from im.blocks im.opens.root.epoch im.opens.older halves.0
  image_older = record { spelled = im.opens.older_spelled; records = im.opens.shown.has_older; applied = halves.1 }

  pub image_newer : AreReplayed c limits halves.0 im.blocks (im.opens.root.epoch + 1) im.opens.newer im.opens.stands.tree
  image_newer = record { spelled = im.opens.newer_spelled; records = im.opens.shown.has_newer; applied = halves.2 }

  -- nothing breaks the log of an image
  pub image_breaks : (block : ℕ) → BreaksBoth limits c from im.blocks im.opens.root.epoch block → ⊥
  image_breaks block (in_older b) =
      never_breaks c limits from im.blocks im.opens.root.epoch block im.opens.older halves.0 (half_lies im.blocks im.opens.root.epoch c im.disk) image_older b
  image_breaks block (in_newer at middle charges first b) =
      let one = replayed_once c limits from im.blocks im.opens.root.epoch first.all.replayed.changes im.opens.older middle halves.0 (half_lies im.blocks im.opens.root.epoch c im.disk)
      (are_replayed limits c from im.blocks im.opens.root.epoch at middle charges first) image_older in
      never_breaks c limits halves.0 im.blocks (im.opens.root.epoch + 1) block im.opens.newer im.opens.stands.tree (half_lies im.blocks (im.opens.root.epoch + 1) c im.disk) image_newer
      (subst (λ (t : Tree). BreaksAt c limits t im.blocks (im.opens.root.epoch + 1) block) one.trees b)

-- what all records that were replayed make of the tree
pub both_applied : (limits : Limits) (c : Contents) (from : Tree) (n epoch : ℕ) (at : LogPosition) (tree : Tree) (charges : ℕ) (both : HasBoth limits c from n epoch at tree charges)
    → apply_all limits (both.has_older.all.replayed.changes ++ both.has_newer.all.replayed.changes) from ≡ Some tree
both_applied limits c from n epoch at tree charges both =
    let first = both.has_older.all.replayed.changes in
    let second = both.has_newer.all.replayed.changes in
    lists_join limits first second from ∙ ap (λ (o : Option Tree). o >>= apply_all limits second) both.has_older.all.replayed.applied ∙ both.has_newer.all.replayed.applied

-- and what they are charged
pub charges_are : (limits : Limits) (c : Contents) (from : Tree) (n epoch : ℕ) (at : LogPosition) (tree : Tree) (charges : ℕ) (both : HasBoth limits c from n epoch at tree charges)
    → charges ≡ charges_from limits (both.has_older.all.replayed.changes ++ both.has_newer.all.replayed.changes) from
charges_are limits c from n epoch at tree charges both =
    omega (
      arith,
      both.charged,
      both.has_older.all.replayed.charged,
      both.has_newer.all.replayed.charged,
      charges_join limits both.has_older.all.replayed.changes both.has_newer.all.replayed.changes from both.middle both.has_older.all.replayed.applied,
    )

module _ (c : Contents) (w : World) (im : IsImage c w) where
  -- the records are those of the image, and so is what they are charged
  pub image_changes : (at : LogPosition) (tree : Tree) (charges : ℕ) (both : HasBoth im.opens.root.limits c (image (store_of c) im.opens.root.inode_file) im.blocks im.opens.root.epoch at tree charges)
      → both.has_older.all.replayed.changes ++ both.has_newer.all.replayed.changes ≡ im.opens.older ++ im.opens.newer
  image_changes at tree charges both =
      let limits = im.opens.root.limits in
      let img = image (store_of c) im.opens.root.inode_file in
      let epoch = im.opens.root.epoch in
      let first = both.has_older.all.replayed.changes in
      let second = both.has_newer.all.replayed.changes in
      let one = replayed_once c limits img im.blocks epoch first im.opens.older both.middle (halves c w im).0 (half_lies im.blocks epoch c im.disk)
      (are_replayed limits c img im.blocks epoch both.older both.middle both.first both.has_older) (image_older c w im) in
      let two = replayed_once c limits (halves c w im).0 im.blocks (epoch + 1) second im.opens.newer tree im.opens.stands.tree (half_lies im.blocks (epoch + 1) c im.disk)
      (subst (λ (t : Tree). AreReplayed c limits t im.blocks (epoch + 1) second tree) one.trees (are_replayed limits c both.middle im.blocks (epoch + 1) both.newer tree both.second both.has_newer)) (image_newer c w im) in
      λ i. one.lists i ++ two.lists i

  pub image_charges : (at : LogPosition) (tree : Tree) (charges : ℕ) → HasBoth im.opens.root.limits c (image (store_of c) im.opens.root.inode_file) im.blocks im.opens.root.epoch at tree charges
      → charges ≡ charges_from im.opens.root.limits (im.opens.older ++ im.opens.newer) (image (store_of c) im.opens.root.inode_file)
  image_charges at tree charges both =
      let limits = im.opens.root.limits in
      let img = image (store_of c) im.opens.root.inode_file in
      charges_are limits c img im.blocks im.opens.root.epoch at tree charges both ∙ ap (λ (xs : List Change). charges_from limits xs img) (image_changes at tree charges both)

-- ---- whether something is to recover

module _ (limits : Limits) (c : Contents) (from : Tree) (n epoch : ℕ) (at : LogPosition) (tree : Tree) (charges : ℕ) (both : HasBoth limits c from n epoch at tree charges) where
  abbrev older_ones : List Change
  older_ones = both.has_older.all.replayed.changes

  abbrev newer_ones : List Change
  newer_ones = both.has_newer.all.replayed.changes

  some_logged : older_ones ++ newer_ones ≡ [] → at.count ≡ 0
  some_logged nil =
      let none : length older_ones + length newer_ones ≡ 0 = sym (length-append older_ones newer_ones) ∙ ap length nil in
      let first = both.has_older.all.replayed.behind.count in
      let second = both.has_newer.all.replayed.behind.count in
      ⊎_elim
      (λ (i : (both.newer.count ≡ 0) × (at ≡ both.older)). let same : at.count ≡ both.older.count = ap (λ (p : LogPosition). p.count) i.1 in omega (arith, none, first, same))
      (λ (i : at ≡ both.newer). let same : at.count ≡ both.newer.count = ap (λ (p : LogPosition). p.count) i in omega (arith, none, second, same))
      both.is

  none_logged : at.count ≡ 0 → older_ones ++ newer_ones ≡ []
  none_logged nothing =
      let none = both.none nothing in
      λ i. nil_from_length older_ones (sym both.has_older.all.replayed.behind.count ∙ none.0) i ++ nil_from_length newer_ones (sym both.has_newer.all.replayed.behind.count ∙ none.1) i

  -- the position counts none exactly where none is logged, so that it shows whether something is to recover
  pub tells_recovery : (recovers : Bool) (root : RootBody) (logged dropped : ℕ) → logged ≡ at.count → dropped ≡ nameless_in from → TellsByNumbers recovers root logged dropped → TellsRecovery recovers root (older_ones ++ newer_ones) from
  tells_recovery recovers root logged dropped count is tells = tells (older_ones ++ newer_ones) from (λ none. none_logged (sym count ∙ none), λ nil. count ∙ some_logged nil) is

-- what is to recover before the records is so after them, and the other way round
pub recovers_after : (root : RootBody) (limits : Limits) (changes : List Change) (from tree : Tree) → apply_all limits changes from ≡ Some tree → IsToRecover root changes from → IsToRecover root changes tree
unfolding apply_all
recovers_after root limits [] from tree e (inl other) = inl other
recovers_after root limits [] from tree e (inr (inl some)) = inr (inl some)
recovers_after root limits [] from tree e (inr (inr left)) = let same : from ≡ tree = cc in inr (inr (subst (λ (t : Tree). nameless_in t ≢ 0) same left))
recovers_after root limits (change ∷ changes) from tree e recovers = inr (inl (λ nil. never nil))
  where
    never : change ∷ changes ≡ [] → ⊥
    never nil = cc

pub recovers_before : (root : RootBody) (limits : Limits) (changes : List Change) (from tree : Tree) → apply_all limits changes from ≡ Some tree → IsToRecover root changes tree → IsToRecover root changes from
unfolding apply_all
recovers_before root limits [] from tree e (inl other) = inl other
recovers_before root limits [] from tree e (inr (inl some)) = inr (inl some)
recovers_before root limits [] from tree e (inr (inr left)) = let same : from ≡ tree = cc in inr (inr (subst (λ (t : Tree). nameless_in t ≢ 0) (sym same) left))
recovers_before root limits (change ∷ changes) from tree e recovers = inr (inl (λ nil. never nil))
  where
    never : change ∷ changes ≡ [] → ⊥
    never nil = cc

-- so it is under another spelling of the root
recovers_at : (c : Contents) (at : LogPosition) (tree : Tree) (charges n m : ℕ) (root other : RootBody) → m ≡ n → other ≡ root → (both : HasBoth root.limits c (image (store_of c) root.inode_file) n root.epoch at tree charges)
    → IsToRecover root (both.has_older.all.replayed.changes ++ both.has_newer.all.replayed.changes) (image (store_of c) root.inode_file)
    → (b : HasBoth other.limits c (image (store_of c) other.inode_file) m other.epoch at tree charges) × IsToRecover other (b.has_older.all.replayed.changes ++ b.has_newer.all.replayed.changes) (image (store_of c) other.inode_file)
recovers_at c at tree charges n m root other in_n is both recovers =
    subst (λ (k : ℕ). (b : HasBoth other.limits c (image (store_of c) other.inode_file) k other.epoch at tree charges) × IsToRecover other (b.has_older.all.replayed.changes ++ b.has_newer.all.replayed.changes) (image (store_of c) other.inode_file)) (sym in_n)
    (subst (λ (r : RootBody). (b : HasBoth r.limits c (image (store_of c) r.inode_file) n r.epoch at tree charges) × IsToRecover r (b.has_older.all.replayed.changes ++ b.has_newer.all.replayed.changes) (image (store_of c) r.inode_file)) (sym is) (both, recovers))

-- all that is found
pub has_found : (sectors : ℕ) (c : Contents) (n : ℕ) (k : Kept) (at : LogPosition) (tree : Tree) (room : RoomCounts) (recovers : Bool) (charges logged dropped : ℕ) → at.blocks ≡ n → HasRoot sectors c n k.slot k.root → ((words : List ℕ) → HasMap n c k.slot words → k.words ≡ words)
    → HasBoth k.root.limits c (image (store_of c) k.root.inode_file) n k.root.epoch at tree charges → LeadsOn k.root.limits no_changes (image (store_of c) k.root.inode_file) 0 k.changed tree charges → FindsRoom n c k.slot k.root charges dropped room
    → logged ≡ at.count → dropped ≡ nameless_in (image (store_of c) k.root.inode_file) → TellsByNumbers recovers k.root logged dropped → (recovers ≡ true → HasAgeLeft k.root)
    → HasFound sectors c k at tree room recovers
has_found sectors c n k at tree room recovers charges logged dropped in_n roots words both leads finds count is tells age =
    let limits = k.root.limits in
    let img = image (store_of c) k.root.inode_file in
    let here = subst (λ (m : ℕ). HasBoth limits c img m k.root.epoch at tree charges) (sym in_n) both in
    let start : HasChanged limits no_changes img img (0 + 0) = nothing_changed limits img in
    let sum : 0 + charges ≡ charges = omega arith in
    record {
      roots = subst (λ (m : ℕ). HasRoot sectors c m k.slot k.root) (sym in_n) roots;
      words = subst (λ (m : ℕ). (words : List ℕ) → HasMap m c k.slot words → k.words ≡ words) (sym in_n) words;
      charges = charges;
      both = here;
      changed = subst (HasChanged limits k.changed img tree) sum (leads img 0 start);
      finds = subst (λ (d : ℕ). FindsRoom at.blocks c k.slot k.root charges d room) is (subst (λ (m : ℕ). FindsRoom m c k.slot k.root charges dropped room) (sym in_n) finds);
      recovery = tells_recovery limits c img at.blocks k.root.epoch at tree charges here recovers k.root logged dropped count is tells;
      age = age;
    }

-- ---- refusals

-- charges that aren't covered are more than is free
uncovered_is : (limits : Limits) (free charges dropped : ℕ) → is_covered limits (mounted free charges dropped) ≡ false → free < charges + limits.inode_charge * dropped
uncovered_is limits free charges dropped is = leb-false (charges + limits.inode_charge * dropped) free is

never_fits : (free charges parked own most : ℕ) → free < charges + parked → charges ≡ own → own + parked ≤ most → free ≡ most → ⊥
never_fits free charges parked own most over is fits same = absurd (omega (arith, over, is, fits, same))

module _ (sectors : ℕ) (c : Contents) (n : ℕ) (slot : Slot) (root : RootBody) (count : length c ≡ sectors) where
  -- a damage of the log
  log_refuses : (damage : Damage) (block : ℕ) → damage ≡ Log → IsNoImage c → HasLogFault sectors c block → Refuses (fault.Damaged damage block) sectors c
  log_refuses damage block is none has = subst (λ (d : Damage). Refuses (fault.Damaged d block) sectors c) (sym is) ((has.blocks, has.formatted), (none, has))

  pub later_refuses : (f : MountFault) → IsFormatted sectors c n → IsNewest c slot root → SomeIsLater f c n (root.epoch + 1) → Refuses f sectors c
  later_refuses (fault.Damaged damage block) formatted newest is =
      log_refuses damage block is.0
      (λ w im.
      let same = same_root sectors c n slot root w im count formatted newest in
      is.1.1 (subst (λ (r : RootBody). HasNoLater c (base_of n is.1.0) (r.epoch + 1)) same.roots (subst (λ (m : ℕ). HasNoLater c (base_of m is.1.0) (im.opens.root.epoch + 1)) same.blocks (im.none_later is.1.0))))
      (record { blocks = n; formatted = formatted; slot = slot; root = root; newest = newest; free = free_blocks n (store_of c) root; told = λ words has sound. refl; is = subst (IsLogFault n c root (free_blocks n (store_of c) root)) (sym is.1.2) (later is.1.0 is.1.1) })
  later_refuses fault.NotFormatted formatted newest is = absurd is
  later_refuses fault.Version formatted newest is = absurd is
  later_refuses fault.NoRoot formatted newest is = absurd is
  later_refuses fault.Memory formatted newest is = tt
  later_refuses fault.Device formatted newest is = tt

  -- a record that can't be replayed
  pub both_refuses : (f : MountFault) → IsFormatted sectors c n → IsNewest c slot root → BothBreak root.limits f c (image (store_of c) root.inode_file) n root.epoch → Refuses f sectors c
  both_refuses (fault.Damaged damage block) formatted newest is =
      log_refuses damage block is.0
      (λ w im.
      let same = same_root sectors c n slot root w im count formatted newest in
      image_breaks c w im block
      (subst (λ (m : ℕ). BreaksBoth im.opens.root.limits c (image (store_of c) im.opens.root.inode_file) m im.opens.root.epoch block) (sym same.blocks)
      (subst (λ (r : RootBody). BreaksBoth r.limits c (image (store_of c) r.inode_file) n r.epoch block) (sym same.roots) is.1)))
      (record { blocks = n; formatted = formatted; slot = slot; root = root; newest = newest; free = free_blocks n (store_of c) root; told = λ words has sound. refl; is = breaks_log c n root (free_blocks n (store_of c) root) block is.1 })
  both_refuses fault.NotFormatted formatted newest is = absurd is
  both_refuses fault.Version formatted newest is = absurd is
  both_refuses fault.NoRoot formatted newest is = absurd is
  both_refuses fault.Memory formatted newest is = tt
  both_refuses fault.Device formatted newest is = tt

  -- charges that aren't covered by what is free
  uncovered_never : (at : LogPosition) (tree : Tree) (charges free : ℕ) → IsFormatted sectors c n → IsNewest c slot root → HasBoth root.limits c (image (store_of c) root.inode_file) n root.epoch at tree charges → TellsFree n c slot root free
      → is_covered root.limits (mounted free charges (nameless_in (image (store_of c) root.inode_file))) ≡ false → IsNoImage c
  uncovered_never at tree charges free formatted newest both told uncovered w im =
      let same = same_root sectors c n slot root w im count formatted newest in
      let logged = im.opens.older ++ im.opens.newer in
      let img = image (store_of c) root.inode_file in
      let here = subst (λ (m : ℕ). HasBoth im.opens.root.limits c (image (store_of c) im.opens.root.inode_file) m im.opens.root.epoch at tree charges) (sym same.blocks)
      (subst (λ (r : RootBody). HasBoth r.limits c (image (store_of c) r.inode_file) n r.epoch at tree charges) (sym same.roots) both) in
      let charged = subst (λ (r : RootBody). charges ≡ charges_from r.limits logged (image (store_of c) r.inode_file)) same.roots (image_charges c w im at tree charges here) in
      let fits = subst (λ (r : RootBody). Fits r.limits logged (image (store_of c) r.inode_file) (free_blocks n (store_of c) r)) same.roots
      (subst (λ (m : ℕ). Fits im.opens.root.limits logged (image (store_of c) im.opens.root.inode_file) (free_blocks m (store_of c) im.opens.root)) same.blocks im.fits) in
      let map = subst (λ (r : Slot). HasMap n c r im.words) same.slots (subst (λ (m : ℕ). HasMap m c im.opens.slot im.words) same.blocks im.map) in
      let sound = subst (λ (r : RootBody). IsSoundRoot n (store_of c) r (slice_index im.words)) same.roots (subst (λ (m : ℕ). IsSoundRoot m (store_of c) im.opens.root (slice_index im.words)) same.blocks im.sound) in
      never_fits free charges (root.limits.inode_charge * nameless_in img) (charges_from root.limits logged img) (free_blocks n (store_of c) root)
      (uncovered_is root.limits free charges (nameless_in img) uncovered) charged fits (told im.words map sound)

  uncovered_fault : (at : LogPosition) (tree : Tree) (charges free block : ℕ) → HasBoth root.limits c (image (store_of c) root.inode_file) n root.epoch at tree charges
      → is_covered root.limits (mounted free charges (nameless_in (image (store_of c) root.inode_file))) ≡ false → block ≡ half_block n root.epoch → IsLogFault n c root free block
  uncovered_fault at tree charges free block both uncovered is =
      let img = image (store_of c) root.inode_file in
      let first = both.has_older.all.replayed.changes in
      let second = both.has_newer.all.replayed.changes in
      subst (IsLogFault n c root free) (sym is)
      (overcharged first second both.middle tree (are_replayed root.limits c img n root.epoch both.older both.middle both.first both.has_older) (are_replayed root.limits c both.middle n (root.epoch + 1) both.newer tree both.second both.has_newer)
      (λ fits. never_fits free charges (root.limits.inode_charge * nameless_in img) (charges_from root.limits (first ++ second) img) free
      (uncovered_is root.limits free charges (nameless_in img) uncovered) (charges_are root.limits c img n root.epoch at tree charges both) fits refl))

  pub uncovered_refuses : (f : MountFault) (at : LogPosition) (tree : Tree) (charges : ℕ) → IsFormatted sectors c n → IsNewest c slot root → HasBoth root.limits c (image (store_of c) root.inode_file) n root.epoch at tree charges
      → IsUncovered f n c slot root charges (nameless_in (image (store_of c) root.inode_file)) → Refuses f sectors c
  uncovered_refuses (fault.Damaged damage block) at tree charges formatted newest both is =
      log_refuses damage block is.0 (uncovered_never at tree charges is.1.free formatted newest both is.1.told is.1.uncovered)
      (record { blocks = n; formatted = formatted; slot = slot; root = root; newest = newest; free = is.1.free; told = is.1.told; is = uncovered_fault at tree charges is.1.free block both is.1.uncovered is.1.is })
  uncovered_refuses fault.NotFormatted at tree charges formatted newest both is = absurd is
  uncovered_refuses fault.Version at tree charges formatted newest both is = absurd is
  uncovered_refuses fault.NoRoot at tree charges formatted newest both is = absurd is
  uncovered_refuses fault.Memory at tree charges formatted newest both is = tt
  uncovered_refuses fault.Device at tree charges formatted newest both is = tt

  -- an age that isn't left
  aged_never : (at : LogPosition) (tree : Tree) (charges : ℕ) (both : HasBoth root.limits c (image (store_of c) root.inode_file) n root.epoch at tree charges) → IsFormatted sectors c n → IsNewest c slot root
      → IsToRecover root (both.has_older.all.replayed.changes ++ both.has_newer.all.replayed.changes) (image (store_of c) root.inode_file) → (HasAgeLeft root → ⊥) → IsNoImage c
  aged_never at tree charges both formatted newest recovers aged w im =
      let same = same_root sectors c n slot root w im count formatted newest in
      let here = recovers_at c at tree charges n im.blocks root im.opens.root same.blocks same.roots both recovers in
      aged (subst HasAgeLeft same.roots (im.age (subst (λ (xs : List Change). IsToRecover im.opens.root xs (image (store_of c) im.opens.root.inode_file)) (image_changes c w im at tree charges here.0) here.1)))

  aged_fault : (at : LogPosition) (tree : Tree) (charges block : ℕ) (both : HasBoth root.limits c (image (store_of c) root.inode_file) n root.epoch at tree charges)
      → IsToRecover root (both.has_older.all.replayed.changes ++ both.has_newer.all.replayed.changes) (image (store_of c) root.inode_file) → (HasAgeLeft root → ⊥) → block ≡ half_block n root.epoch → IsLogFault n c root (free_blocks n (store_of c) root) block
  aged_fault at tree charges block both recovers aged is =
      let limits = root.limits in
      let img = image (store_of c) root.inode_file in
      let first = both.has_older.all.replayed.changes in
      let second = both.has_newer.all.replayed.changes in
      subst (IsLogFault n c root (free_blocks n (store_of c) root)) (sym is)
      (without_age first second both.middle tree (are_replayed limits c img n root.epoch both.older both.middle both.first both.has_older) (are_replayed limits c both.middle n (root.epoch + 1) both.newer tree both.second both.has_newer)
      (recovers_after root limits (first ++ second) img tree (both_applied limits c img n root.epoch at tree charges both) recovers) aged)

  pub aged_refuses : (f : MountFault) (at : LogPosition) (tree : Tree) (charges : ℕ) (both : HasBoth root.limits c (image (store_of c) root.inode_file) n root.epoch at tree charges) (recovers : Bool) → IsFormatted sectors c n → IsNewest c slot root
      → TellsRecovery recovers root (both.has_older.all.replayed.changes ++ both.has_newer.all.replayed.changes) (image (store_of c) root.inode_file) → IsAged f n root recovers → Refuses f sectors c
  aged_refuses (fault.Damaged damage block) at tree charges both recovers formatted newest tells is =
      let some = subst (λ (b : Bool). TellsRecovery b root (both.has_older.all.replayed.changes ++ both.has_newer.all.replayed.changes) (image (store_of c) root.inode_file)) is.1 tells in
      log_refuses damage block is.0 (aged_never at tree charges both formatted newest some is.2)
      (record { blocks = n; formatted = formatted; slot = slot; root = root; newest = newest; free = free_blocks n (store_of c) root; told = λ words has sound. refl; is = aged_fault at tree charges block both some is.2 is.3 })
  aged_refuses fault.NotFormatted at tree charges both recovers formatted newest tells is = absurd is
  aged_refuses fault.Version at tree charges both recovers formatted newest tells is = absurd is
  aged_refuses fault.NoRoot at tree charges both recovers formatted newest tells is = absurd is
  aged_refuses fault.Memory at tree charges both recovers formatted newest tells is = absurd is
  aged_refuses fault.Device at tree charges both recovers formatted newest tells is = absurd is
