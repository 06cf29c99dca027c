use Rattle.std.proofs.Common.{sym, ◌∙◌}
use Rattle.sn_overlay.proofs.OverlayLemmas.{get-names_of}
use Rattle.sn_overlay.proofs.overlay.Overlay.name.Goals as goal

pub returns : goal.returns
returns c = c.copied.ensures ∙ c.get.ensures ∙ sym (get-names_of c.args.self.now.names.entries.items c.args.link.now)
