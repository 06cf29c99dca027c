-- What a check finds of the log, and what is wrong with it.
use Rattle.std.proofs.Common.{◌≡◌, ℕ, ◌+◌, ◌*◌, ◌<◌, ◌≤◌, Bool, true, false, List, ◌++◌, Some, refl, sym, subst, arith, leb-true, leb-false}
use Rattle.sn_device.specs.Sectors.{Contents}
use Rattle.sn_limits.specs.declared.limits.Limits.{Limits}
use Rattle.sn_layout.specs.declared.root.RootBody.{RootBody}
use Rattle.sn_model.specs.declared.change.Change.{Change}
use Rattle.sn_model.specs.declared.fault.MountFault.{MountFault}
use Rattle.sn_model.specs.declared.fault.MountFault.TheVariants as fault
use Rattle.sn_model.specs.Changes.{apply_all}
use Rattle.sn_model.specs.Tree.{Tree}
use Rattle.sn_ondisk.specs.LogHalf.{HasNoLater, base_of}
use Rattle.sn_ondisk.specs.Trees.{store_of}
use Rattle.sn_log.specs.Positions.{LogPosition}
use Rattle.sn_image.specs.Image.{image}
use Rattle.sn_model.specs.Settling.{nameless_in}
use Rattle.sn_held.specs.Rooms.{is_covered, mounted}
use Rattle.sn_sound.specs.Charges.{Fits, charges_from}
use Rattle.sn_sound.specs.Logs.{HasAgeLeft, HasSoundLog, IsLogFault, IsToRecover, age, charges as overcharged, later}
use Rattle.sn_examine.specs.Ages.{IsAged, TellsByNumbers, TellsRecovery}
use Rattle.sn_examine.specs.Both.{BothBreak, HasBoth}
use Rattle.sn_examine.specs.Examining.{SomeIsLater}
use Rattle.sn_examine.proofs.FindLemmas.{are_replayed, both_applied, breaks_log, charges_are, recovers_after, recovers_before, tells_recovery}
use Rattle.sn_check.specs.Faults.{IsDamageOf}
use Rattle.sn_check.specs.Logs.{HasLogged, IsOfLog, IsOver}

-- ---- what is to recover

tells_after : (recovers : Bool) (root : RootBody) (limits : Limits) (changes : List Change) (from tree : Tree) → apply_all limits changes from ≡ Some tree → TellsRecovery recovers root changes from → TellsRecovery recovers root changes tree
tells_after true root limits changes from tree e tells = recovers_after root limits changes from tree e tells
tells_after false root limits changes from tree e tells = λ some. tells (recovers_before root limits changes from tree e some)

left_for : (recovers : Bool) (root : RootBody) (changes : List Change) (tree : Tree) → TellsRecovery recovers root changes tree → (recovers ≡ true → HasAgeLeft root) → IsToRecover root changes tree → HasAgeLeft root
left_for true root changes tree tells left some = left refl
left_for false root changes tree tells left some = absurd (tells some)

-- ---- what is logged

pub has_logged : (n : ℕ) (c : Contents) (root : RootBody) (at : LogPosition) (tree : Tree) (charges logged dropped : ℕ) (recovers : Bool) → HasBoth root.limits c (image (store_of c) root.inode_file) n root.epoch at tree charges
    → logged ≡ at.count → dropped ≡ nameless_in (image (store_of c) root.inode_file) → TellsByNumbers recovers root logged dropped → HasLogged n c root charges dropped recovers
has_logged n c root at tree charges logged dropped recovers both count nameless tells =
    let limits = root.limits in
    let img = image (store_of c) root.inode_file in
    let first = both.has_older.all.replayed.changes in
    let second = both.has_newer.all.replayed.changes in
    record {
      older = first;
      newer = second;
      middle = both.middle;
      tree = tree;
      has_older = are_replayed limits c img n root.epoch both.older both.middle both.first both.has_older;
      has_newer = are_replayed limits c both.middle n (root.epoch + 1) both.newer tree both.second both.has_newer;
      charged = charges_are limits c img n root.epoch at tree charges both;
      nameless = nameless;
      recovery = tells_after recovers root limits (first ++ second) img tree (both_applied limits c img n root.epoch at tree charges both) (tells_recovery limits c img n root.epoch at tree charges both recovers root logged dropped count nameless tells);
    }

-- ---- faults

pub both_tells : (f : MountFault) (n : ℕ) (c : Contents) (root : RootBody) (free : ℕ) → BothBreak root.limits f c (image (store_of c) root.inode_file) n root.epoch → IsDamageOf (IsOfLog n c root free) f
both_tells (fault.Damaged damage block) n c root free is = (is.0, breaks_log c n root free block is.1)
both_tells fault.NotFormatted n c root free is = is
both_tells fault.Version n c root free is = is
both_tells fault.NoRoot n c root free is = is
both_tells fault.Memory n c root free is = tt
both_tells fault.Device n c root free is = tt

pub later_tells : (f : MountFault) (n : ℕ) (c : Contents) (root : RootBody) (free : ℕ) → SomeIsLater f c n (root.epoch + 1) → IsDamageOf (IsOfLog n c root free) f
later_tells (fault.Damaged damage block) n c root free is = (is.0, subst (IsLogFault n c root free) (sym is.1.2) (later is.1.0 is.1.1))
later_tells fault.NotFormatted n c root free is = is
later_tells fault.Version n c root free is = is
later_tells fault.NoRoot n c root free is = is
later_tells fault.Memory n c root free is = tt
later_tells fault.Device n c root free is = tt

never_both : (n most : ℕ) → most < n → n ≤ most → ⊥
never_both n most over within = absurd (omega (arith, over, within))

module _ (n : ℕ) (c : Contents) (root : RootBody) (charges dropped : ℕ) (recovers : Bool) (log : HasLogged n c root charges dropped recovers) where
  abbrev img : Tree
  img = image (store_of c) root.inode_file

  abbrev changes : List Change
  changes = log.older ++ log.newer

  log_fits : (free : ℕ) → is_covered root.limits (mounted free charges dropped) ≡ true → Fits root.limits changes img free
  log_fits free covered =
      subst (λ (k : ℕ). charges_from root.limits changes img + root.limits.inode_charge * k ≤ free) log.nameless
      (subst (λ (k : ℕ). k + root.limits.inode_charge * dropped ≤ free) log.charged (leb-true (charges + root.limits.inode_charge * dropped) free covered))

  log_over : (free : ℕ) → is_covered root.limits (mounted free charges dropped) ≡ false → Fits root.limits changes img free → ⊥
  log_over free uncovered it =
      let own = subst (λ (k : ℕ). charges_from root.limits changes img + root.limits.inode_charge * k ≤ free) (sym log.nameless) it in
      let most = subst (λ (k : ℕ). k + root.limits.inode_charge * dropped ≤ free) (sym log.charged) own in
      never_both (charges + root.limits.inode_charge * dropped) free (leb-false (charges + root.limits.inode_charge * dropped) free uncovered) most

  pub log_sound : (free : ℕ) → ((epoch : ℕ) → HasNoLater c (base_of n epoch) (root.epoch + 1)) → is_covered root.limits (mounted free charges dropped) ≡ true → (recovers ≡ true → HasAgeLeft root) → HasSoundLog n c root free
  log_sound free none_later covered left = record {
    older = log.older;
    newer = log.newer;
    middle = log.middle;
    tree = log.tree;
    has_older = log.has_older;
    has_newer = log.has_newer;
    none_later = none_later;
    fits = log_fits free covered;
    age = left_for recovers root changes log.tree log.recovery left;
  }

  pub over_tells : (f : MountFault) (free : ℕ) → IsOver f n root free charges dropped → IsDamageOf (IsOfLog n c root free) f
  over_tells (fault.Damaged damage block) free is = (
    is.0,
    subst (IsLogFault n c root free) (sym is.2) (overcharged log.older log.newer log.middle log.tree log.has_older log.has_newer (log_over free is.1)),
  )
  over_tells fault.NotFormatted free is = is
  over_tells fault.Version free is = is
  over_tells fault.NoRoot free is = is
  over_tells fault.Memory free is = tt
  over_tells fault.Device free is = tt

  pub aged_tells : (f : MountFault) (free : ℕ) → IsAged f n root recovers → IsDamageOf (IsOfLog n c root free) f
  aged_tells (fault.Damaged damage block) free is = (
    is.0,
    subst (IsLogFault n c root free) (sym is.3) (age log.older log.newer log.middle log.tree log.has_older log.has_newer (subst (λ (b : Bool). TellsRecovery b root changes log.tree) is.1 log.recovery) is.2),
  )
  aged_tells fault.NotFormatted free is = is
  aged_tells fault.Version free is = is
  aged_tells fault.NoRoot free is = is
  aged_tells fault.Memory free is = tt
  aged_tells fault.Device free is = tt
