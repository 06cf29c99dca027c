use Rattle.std.proofs.Common.{◌≡◌, ℕ, false, [], count_by, refl, sym, ap, subst, ◌∙◌}
use Rattle.std.specs.declared.cmp.Ordering.{Ordering}
use Rattle.std.specs.FinMap as fin
use Rattle.std.proofs.lemmas.List.{nil_from_length}
use Rattle.sn_changed.specs.Changed.{HasChanged}
use Rattle.sn_desc.specs.Holders.{is_live}
use Rattle.sn_desc.specs.InUse.{live_in}
use Rattle.sn_live.specs.Live.{shown_of}
use Rattle.sn_live_world.specs.World.{descriptors_of}
use Rattle.sn_model.specs.Descriptors.{Descriptors}
use Rattle.sn_model.specs.Settling.{settled}
use Rattle.sn_model.specs.Tree.{Tree}
use Rattle.sn_model.specs.World.{Descriptor, new_world}
use Rattle.sn_overlay.specs.Layers.{Layer}
use Rattle.sn_mount.proofs.settling.settle.Goals as goal

pub returns-in-Ok-over-clause-changed : goal.returns-in-Ok-over-clause-changed
returns-in-Ok-over-clause-changed c below live =
    let shown = shown_of c.args.found.live below in
    let drops = c.in-Ok.ensures.changed below live in
    record {
      slot = refl;
      root = refl;
      words = refl;
      changed = λ limits root charged paid has.
          subst (λ (layer : Layer). HasChanged limits layer root (settled shown) charged) (sym c.in-Ok-over.ensures.changes)
          (drops.leads limits root shown charged (λ _. false) paid live.shown.whole.hierarchy has drops.gone);
    }

pub returns-in-Ok-over-clause-over : goal.returns-in-Ok-over-clause-over
returns-in-Ok-over-clause-over c below live = c.in-Ok-over.ensures.over below (c.in-Ok.ensures.live below live)

pub returns-in-Ok-over-clause-world : goal.returns-in-Ok-over-clause-world
returns-in-Ok-over-clause-world c below live = c.in-Ok-over.ensures.world below ∙ ap (λ (t : Tree). record new_world { live = t }) (c.in-Ok.ensures.shown below live)

-- nothing is open where there is no descriptor
no_entries : {K : Type 0} (R : K → K → Ordering) (X : Type 0) → fin.entries (fin.empty {X = X} {R = R}) ≡ []
no_entries R X = nil_from_length (fin.entries (fin.empty {X = X} {R = R})) (sym (fin.len-entries (fin.empty {X = X} {R = R})) ∙ fin.len-empty R X)

none_open : (table : Descriptors) → table ≡ fin.empty → live_in table ≡ 0
none_open table none = ap live_in none ∙ ap (count_by (λ (e : (ℕ × ℕ) × Descriptor). is_live e.1.home)) (no_entries _ Descriptor)

pub returns-in-Ok-over-clause-open : goal.returns-in-Ok-over-clause-open
returns-in-Ok-over-clause-open c = none_open (descriptors_of c.in-Ok-over.world) c.in-Ok-over.ensures.descriptors
