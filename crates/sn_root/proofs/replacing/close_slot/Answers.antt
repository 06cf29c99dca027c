use Rattle.std.proofs.Common.{◌∙◌}
use Rattle.sn_root.proofs.ReplacingLemmas.{KeepsRoot-closing, KeepsRoot-nowhere}
use Rattle.sn_root.proofs.replacing.close_slot.Goals as goal

pub returns-in-Open-clause-root : goal.returns-in-Open-clause-root
returns-in-Open-clause-root g c told =
    KeepsRoot-closing c.args.slot _ _ (g.met.D.Device.whole _ told) (λ d now. c.requires.gate told d now ∙ c.in-Open.is) (c.write_gate.ensures.disk told).touched

pub returns-in-Closed-clause-root : goal.returns-in-Closed-clause-root
returns-in-Closed-clause-root g c told =
    KeepsRoot-nowhere c.args.slot _ _ (g.met.D.Device.whole _ told) (c.sync.ensures.disk told).touched
