use Rattle.std.proofs.Common.{◌≡◌, ℕ, List, Option, OnOk, sym, ap, subst, ◌∙◌}
use Rattle.std.specs.FinMap as map
use Rattle.std.specs.Option.{option_copied}
use Rattle.sn_overlay.specs.declared.node.NodeChange.{NodeChange}
use Rattle.sn_overlay.specs.Layers.{through}
use Rattle.sn_overlay.specs.Overlays.{layer_of}
use Rattle.sn_overlay.specs.Seen.{seen_block, block_shown}
use Rattle.sn_overlay.proofs.SeenLemmas.{seen_block-through}
use Rattle.sn_overlay.proofs.through.ThroughBelow.read_block.Goals as goal

pub returns-then-shows_block-clause-found : goal.returns-then-shows_block-clause-found
returns-then-shows_block-clause-found g c told =
    let layer = layer_of c.args.self.now.overlay.now in
    let tree = g.B.Below.shows c.args.self.now.below.now in
    let file_block = c.args.file_block in
    sym (seen_block-through layer tree file_block (c.requires.1 told)
    ∙ ap (λ (change : Option NodeChange). block_shown change (map.get layer.blocks file_block) file_block.index (seen_block tree file_block)) (sym c.node-change.ensures)
    ∙ ap (λ (written : Option (List ℕ)). block_shown (option_copied c.node-change.result) written file_block.index (seen_block tree file_block)) (sym c.block-written.ensures)
    ∙ c.shows_block.ensures.shown c.if-shows_block.true (seen_block tree file_block))

pub returns-clause-found : goal.returns-clause-found
returns-clause-found g c told =
    let layer = layer_of c.args.self.now.overlay.now in
    let tree = g.B.Below.shows c.args.self.now.below.now in
    let file_block = c.args.file_block in
    let same : seen_block tree file_block ≡ seen_block (through layer tree) file_block = sym (seen_block-through layer tree file_block (c.requires.1 told)
    ∙ ap (λ (change : Option NodeChange). block_shown change (map.get layer.blocks file_block) file_block.index (seen_block tree file_block)) (sym c.node-change.ensures)
    ∙ ap (λ (written : Option (List ℕ)). block_shown (option_copied c.node-change.result) written file_block.index (seen_block tree file_block)) (sym c.block-written.ensures)
    ∙ c.shows_block.ensures.below c.if-shows_block.false (seen_block tree file_block)) in
    subst (λ (bytes : List ℕ). OnOk c.read_block.result (c.read_block.new.block ≡ bytes)) same (c.read_block.ensures.found told)
