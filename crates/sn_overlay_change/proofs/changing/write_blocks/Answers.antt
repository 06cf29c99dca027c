use Rattle.std.proofs.Common.{◌≡◌, ◌+◌, ◌/◌, refl, sym, ap, ◌∙◌, arith}
use Rattle.std.specs.FinMap as map
use Rattle.sn_model.specs.Tree.{Tree}
use Rattle.sn_model.specs.Changes.{overwritten}
use Rattle.sn_overlay_change.specs.ChangeLayers.{with_blocks}
use Rattle.sn_overlay.specs.Keys.{file_block_at}
use Rattle.sn_overlay.specs.Layers.{bytes_of}
use Rattle.sn_overlay.specs.Overlays.{layer_of, with_block}
use Rattle.sn_overlay.specs.Pieces.{piece}
use Rattle.sn_overlay_change.proofs.WriteLemmas.{blocks_none, blocks_next}
use Rattle.sn_overlay_change.proofs.changing.write_blocks.Goals as goal

pub loop-i-init : goal.loop-i-init
loop-i-init g c = record {
  kept = c.requires.holds;
  follows = g.met.B.Below.follows_itself _;
  same = λ told. refl;
  layer = λ told. sym (blocks_none _ _ _ _);
  room = record { nodes = omega (arith, c.requires.room.nodes); names = omega (arith, c.requires.room.names); blocks = omega (arith, c.requires.room.blocks) };
}

pub loop-i-preserved : goal.loop-i-preserved
loop-i-preserved g c =
    let tree = g.B.Below.shows c.args.below.now in
    let first = c.args.offset / 4096 in
    let number = c.args.number in
    let new = λ (t : Tree). overwritten (bytes_of (map.get t.nodes number)) c.args.offset c.args.bytes.now in
    record {
      kept = c.written_block.ensures.left.0;
      follows = g.met.B.Below.follows_on _ _ _ c.loop-i.invariant.follows c.written_block.ensures.left.1;
      same = λ told. c.written_block.ensures.left.2 told ∙ c.loop-i.invariant.same told;
      layer = λ told.
          c.set_block.ensures.layer
          ∙ ap (λ layer. with_block layer (file_block_at number (first + c.loop-i.i)) c.in_ok-block.block.value) (c.loop-i.invariant.layer told)
          ∙ ap (λ bytes. with_block (with_blocks (layer_of c.args.overlay.now) number (piece 4096 (new tree)) first c.loop-i.i) (file_block_at number (first + c.loop-i.i)) bytes)
          (c.in_ok-block.ensures.block told ∙ ap (λ t. piece 4096 (new t) (first + c.loop-i.i)) (c.loop-i.invariant.same told))
          ∙ sym (blocks_next (layer_of c.args.overlay.now) number (piece 4096 (new tree)) first c.loop-i.i);
      room = record {
        nodes = omega (arith, c.loop-i.invariant.room.nodes, c.set_block.ensures.taken.nodes);
        names = omega (arith, c.loop-i.invariant.room.names, c.set_block.ensures.taken.names);
        blocks = omega (arith, c.loop-i.invariant.room.blocks, c.set_block.ensures.taken.blocks);
      };
    }

pub returns-clause-layer : goal.returns-clause-layer
returns-clause-layer g c told =
    let all : c.loop-i.i ≡ c.args.count = omega arith in
    let tree = g.B.Below.shows c.args.below.now in
    c.loop-i.invariant.layer told
    ∙ ap (with_blocks (layer_of c.args.overlay.now) c.args.number (piece 4096 (overwritten (bytes_of (map.get tree.nodes c.args.number)) c.args.offset c.args.bytes.now)) (c.args.offset / 4096)) all
