-- What replay has made of a tree, record by record.
use Rattle.std.proofs.Common.{◌≡◌, inl, inr, ℕ, ◌+◌, ◌/◌, Bool, true, false, [], ◌∷◌, ◌++◌, Some, None, Result, Ok, Err, MatchBool, refl, sym, ap, subst, ◌∙◌, arith}
use Rattle.sn_device.specs.Sectors.{Contents}
use Rattle.sn_device.specs.declared.status.Status.{Status}
use Rattle.sn_device.specs.Status.{has_ended}
use Rattle.sn_block.proofs.CountLemmas.{later-same}
use Rattle.sn_block.specs.Counts.{CountsRead}
use Rattle.sn_block.specs.declared.fault.ReadFault.{ReadFault}
use Rattle.sn_block.specs.declared.fault.ReadFault.TheVariants as read
use Rattle.sn_limits.specs.declared.limits.Limits.{Limits}
use Rattle.sn_model.specs.declared.change.Change.{Change as TheChange}
use Rattle.sn_changed.specs.Changed.{HasChanged}
use Rattle.sn_changed.specs.Laws.{ChangesMerge}
use Rattle.sn_overlay.specs.Layers.{Layer}
use Rattle.sn_overlay.specs.Merges.{merge}
use Rattle.sn_overlay.specs.Needs.{AreCharged}
use Rattle.sn_overlay_change.specs.ChangeLayers.{layer_of_change}
use Rattle.sn_model.specs.NameTree.{IsHierarchy}
use Rattle.sn_model.specs.Chains.{◌>>=◌}
use Rattle.sn_model.specs.Changes.{apply, apply_all}
use Rattle.sn_model.specs.Tree.{Tree}
use Rattle.sn_model.proofs.ListLemmas.{lists_join}
use Rattle.sn_log.specs.Positions.{LogPosition, IsBehind, base_at, behind, first_of}
use Rattle.sn_log.specs.Replaying.{Finds}
use Rattle.sn_log.specs.declared.replay.NextRecord.TheVariants.{Change, Misspelt}
use Rattle.sn_opening.proofs.CoveringLemmas.{applied_one}
use Rattle.sn_opening.proofs.SpelledLemmas.{spelled_more}
use Rattle.sn_sound.specs.Charges.{charges_from}
use Rattle.sn_sound.specs.Logs.{BreaksAt}
use Rattle.sn_model.specs.Charges.{charge_for}
use Rattle.sn_held.proofs.RoomLemmas.{charges_join, one_charge}
use Rattle.sn_examine.specs.Failing.{HasFailed, IsSoOf, WritesNothing, read_fault}
use Rattle.sn_examine.specs.Replaying.{HasReplayed, LeadsOn}

-- at the first place of an epoch nothing is replayed yet
pub starts : (limits : Limits) (c : Contents) (from : Tree) (n epoch : ℕ) → HasReplayed limits c from (first_of n epoch) from 0
unfolding apply_all charges_from
starts limits c from n epoch = record { changes = []; spelled = tt; behind = record { count = refl; leads = refl }; applied = refl; charged = refl }

-- one more
pub replayed_more : (limits : Limits) (c : Contents) (from : Tree) (at : LogPosition) (tree : Tree) (charges : ℕ) (change : TheChange) (after : Tree) (done : HasReplayed limits c from at tree charges) → Finds c at (Change change) → apply limits change tree ≡ Some after
    → IsBehind (behind at change) (done.changes ++ change ∷ []) c → HasReplayed limits c from (behind at change) after (charges + charge_for limits tree change)
replayed_more limits c from at tree charges change after done finds e is = record {
  changes = done.changes ++ change ∷ [];
  spelled = spelled_more done.changes change done.spelled finds.1;
  behind = is;
  applied = lists_join limits done.changes (change ∷ []) from ∙ ap (λ x. x >>= apply_all limits (change ∷ [])) done.applied ∙ applied_one limits change tree after e;
  charged =
      ap (λ (k : ℕ). k + charge_for limits tree change) done.charged
      ∙ sym (charges_join limits done.changes (change ∷ []) from tree done.applied ∙ ap (λ (k : ℕ). charges_from limits done.changes from + k) (one_charge limits tree change));
}

-- a record that is misspelt
pub misspelt_breaks : (limits : Limits) (c : Contents) (from : Tree) (at : LogPosition) (tree : Tree) (charges block : ℕ) → HasReplayed limits c from at tree charges → Finds c at (Misspelt block) → BreaksAt c limits from at.blocks at.epoch block
misspelt_breaks limits c from at tree charges block done finds = record {
  at = at;
  blocks = refl;
  of_epoch = refl;
  changes = done.changes;
  tree = tree;
  spelled = done.spelled;
  behind = done.behind;
  applied = done.applied;
  bad = inl finds;
}

-- a change that can't be made
pub inapplicable_breaks : (limits : Limits) (c : Contents) (from : Tree) (at : LogPosition) (tree : Tree) (charges : ℕ) (change : TheChange) (block : ℕ) → HasReplayed limits c from at tree charges → Finds c at (Change change) → apply limits change tree ≡ None
    → block ≡ (base_at at + at.place) / 8 → BreaksAt c limits from at.blocks at.epoch block
inapplicable_breaks limits c from at tree charges change block done finds none is = record {
  at = at;
  blocks = refl;
  of_epoch = refl;
  changes = done.changes;
  tree = tree;
  spelled = done.spelled;
  behind = done.behind;
  applied = done.applied;
  bad = inr (change, finds, none, is);
}

-- ---- beside what changed

-- with one more record what changed leads on
pub changes_lead : ChangesMerge → (limits : Limits) → AreCharged limits → (layer next : Layer) (tree after : Tree) (charges charge : ℕ) (change : TheChange) → IsHierarchy tree → apply limits change tree ≡ Some after → next ≡ merge layer (layer_of_change tree change) → charge ≡ charge_for limits tree change
    → LeadsOn limits layer tree charges next after (charges + charge)
changes_lead merges limits pays layer next tree after charges charge change whole e is charged root before has =
    let sum : before + charges + charge_for limits tree change ≡ before + (charges + charge) = omega (arith, charged) in
    subst (λ (l : Layer). HasChanged limits l root after (before + (charges + charge))) (sym is)
    (subst (HasChanged limits (merge layer (layer_of_change tree change)) root after) sum
    (merges limits layer root tree after (before + charges) change pays whole has e))

-- ---- reads

pub failed_read : (b : Bool) (old new : Status) → has_ended old ≡ b → MatchBool b (new ≡ old) (new ≡ record old { failures = old.failures + 1 }) → HasFailed old new
failed_read true old new e same = inr (ap has_ended same ∙ e)
failed_read false old new e more = inl (let rose : new.failures ≡ old.failures + 1 = ap (λ (s : Status). s.failures) more in omega (arith, rose))

pub read_failed : {T : Type 0} (result : Result T ReadFault) (f : ReadFault) (old new : Status) → CountsRead result old new → result ≡ Err f → IsSoOf (read_fault f) old new
read_failed result read.Device old new counts e = failed_read (has_ended old) old new refl (counts.device e)
read_failed result read.Memory old new counts e = ap (λ (s : Status). s.failures) (counts.memory e)

pub idle : (old new : Status) → new ≡ old → WritesNothing old new
idle old new same = record { later = later-same old new same; writes = ap (λ (s : Status). s.writes) same; syncs = ap (λ (s : Status). s.syncs) same }

pub fails_reading : (b : Bool) (old new : Status) → MatchBool b (new ≡ old) (new ≡ record old { failures = old.failures + 1 }) → WritesNothing old new
fails_reading true old new same = idle old new same
fails_reading false old new more = record {
  later = record {
    sectors = ap (λ (s : Status). s.sectors) more;
    failures = (let rose : new.failures ≡ old.failures + 1 = ap (λ (s : Status). s.failures) more in omega (arith, rose));
    writes = (let same : new.writes ≡ old.writes = ap (λ (s : Status). s.writes) more in omega (arith, same));
    syncs = (let same : new.syncs ≡ old.syncs = ap (λ (s : Status). s.syncs) more in omega (arith, same));
    spent = λ is. ap (λ (s : Status). s.is_spent) more ∙ is;
  };
  writes = ap (λ (s : Status). s.writes) more;
  syncs = ap (λ (s : Status). s.syncs) more;
}

-- a read writes nothing
pub reads_only : {T : Type 0} (result : Result T ReadFault) (old new : Status) → CountsRead result old new → WritesNothing old new
reads_only (Ok x) old new counts = idle old new counts.done
reads_only (Err read.Device) old new counts = fails_reading (has_ended old) old new (counts.device refl)
reads_only (Err read.Memory) old new counts = idle old new (counts.memory refl)
