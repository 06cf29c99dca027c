use Rattle.std.proofs.Common.{ℕ, List, Some, sym, ap, ◌∙◌}
use Rattle.std.specs.declared.boxed.Box.{Box}
use Rattle.std.specs.Global.{Global}
use Rattle.std.specs.Option.{option_map}
use Rattle.sn_overlay.proofs.OverlayLemmas.{get-blocks_of}
use Rattle.sn_overlay.proofs.overlay.Overlay.block.Goals as goal

pub returns-in-Some : goal.returns-in-Some
returns-in-Some c = ap (λ bytes. Some bytes) c.deref.ensures
    ∙ ap (option_map (λ (b : Box (List ℕ) Global). b.value)) c.in-Some.ensures
    ∙ sym (get-blocks_of c.args.self.now.blocks.entries.items c.args.file_block)

pub returns-in-None : goal.returns-in-None
returns-in-None c = ap (option_map (λ (b : Box (List ℕ) Global). b.value)) c.in-None.ensures
    ∙ sym (get-blocks_of c.args.self.now.blocks.entries.items c.args.file_block)
