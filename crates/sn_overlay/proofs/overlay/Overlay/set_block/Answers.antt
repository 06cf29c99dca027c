use Rattle.std.proofs.Common.{ap, ◌∙◌}
use Rattle.sn_overlay.specs.Overlays.{layer_of, blocks_of}
use Rattle.sn_overlay.proofs.OverlayLemmas.{blocks_of-put}
use Rattle.sn_overlay.proofs.overlay.Overlay.set_block.Goals as goal

pub returns-clause-layer : goal.returns-clause-layer
returns-clause-layer c = ap (λ blocks. record (layer_of c.args.self.now) { blocks = blocks }) (ap blocks_of c.insert.ensures.entries ∙ blocks_of-put c.args.self.now.blocks.entries.items c.args.file_block c.args.block)
