use Rattle.std.proofs.Common.{◌*◌, refl, ap, ◌∙◌}
use Rattle.sn_layout.specs.MapCopy.{map_block_bytes}
use Rattle.sn_cp.proofs.StepLemmas.{range_is_words}
use Rattle.sn_cp.proofs.steps.map_block.Goals as goal

pub returns : goal.returns
returns c = c.put_map_words.ensures ∙ ap map_block_bytes (range_is_words c.args.words.now c.args.k (1024 * c.args.k) c.min-end.result refl c.min-end.ensures c.requires)
