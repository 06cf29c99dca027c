use Rattle.std.proofs.Common.{ap, ◌∙◌}
use Rattle.sn_overlay.specs.Overlays.{layer_of, names_of}
use Rattle.sn_overlay.proofs.OverlayLemmas.{names_of-put}
use Rattle.sn_overlay.proofs.overlay.Overlay.set_name.Goals as goal

pub returns-clause-layer : goal.returns-clause-layer
returns-clause-layer c = ap (λ names. record (layer_of c.args.self.now) { names = names }) (ap names_of c.insert.ensures.entries ∙ names_of-put c.args.self.now.names.entries.items c.args.link c.args.number)
