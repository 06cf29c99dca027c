use Rattle.std.proofs.Common.{◌≡◌, List, [], map, refl, sym, ap, ◌∙◌, arith, Err}
use Rattle.sn_device.specs.Disk.{Disk, reads}
use Rattle.sn_block.specs.Lending.{device_of}
use Rattle.sn_layout_node.specs.Directory.{Link}
use Rattle.sn_ondisk.specs.Trees.{store_of, data_block}
use Rattle.sn_image.specs.Names.{names_in}
use Rattle.sn_dir.specs.Blocks.{names_before}
use Rattle.sn_dir.proofs.NameLemmas.{before-more}
use Rattle.sn_dir_change.specs.Standing.{change_of, seen, seen_too}
use Rattle.sn_dir_change.specs.declared.standing.Sought.{Sought}
use Rattle.sn_dir_change.proofs.ReadingLemmas.{damaged_here}
use Rattle.sn_dir_change.proofs.StandingLemmas.{seen-more, listed-seen, length-listed, given-back}
use Rattle.sn_dir_change.proofs.standing.seek_in_turn.Goals as goal

pub loop-i-init : goal.loop-i-init
loop-i-init g c = record {
  status = refl;
  same = λ told. refl;
  sought = λ told. c.in_ok-sought.ensures;
  listed = ap (λ (xs : List Sought). map change_of xs) c.in_ok-sought.ensures ∙ listed-seen [] c.args.changes.now;
}

pub loop-i-preserved : goal.loop-i-preserved
loop-i-preserved g c =
    let new = c.note_block.new.list in
    let old = c.loop-i.sought.items in
    let listed : map change_of new ≡ map change_of old = c.in_ok-note_block.ensures.listed ∙ ap (λ (xs : List Sought). map change_of xs) c.deref_mut.ensures.value in
    let size = length-listed new old listed in
    let is = given-back c.loop-i.sought.len new old (omega (arith, size, c.deref_mut.ensures.len)) size in
    record {
      status = c.in_ok-note_block.ensures.counts.done ∙ c.loop-i.invariant.status;
      same = λ told. c.note_block.ensures.same told ∙ c.loop-i.invariant.same told;
      sought = λ told.
          let s = store_of (reads (g.D.Device.disk (device_of c.args.blocks.now))) in
          let tree = c.args.tree.now in
          let i = c.loop-i.i in
          let changes = c.args.changes.now in
          let here = names_in (data_block s tree i) in
          is
          ∙ c.in_ok-note_block.ensures.sought told
          ∙ ap (λ (d : Disk). map (seen_too (names_in (data_block (store_of (reads d)) tree i))) c.deref_mut.result.now) (c.loop-i.invariant.same told)
          ∙ ap (λ (xs : List Sought). map (seen_too here) xs) (c.deref_mut.ensures.value ∙ c.loop-i.invariant.sought told)
          ∙ seen-more (names_before s tree i) here changes
          ∙ ap (λ (links : List Link). map (seen links) changes) (sym (before-more s tree i));
      listed = ap (λ (xs : List Sought). map change_of xs) is ∙ listed ∙ c.loop-i.invariant.listed;
    }

pub returns-in_err-note_block-clause-damaged : goal.returns-in_err-note_block-clause-damaged
returns-in_err-note_block-clause-damaged g c told block is =
    damaged_here _ _ c.from_residual-in_err-note_block.ensures.1 is c.args.tree.now c.loop-i.i _ _ _ _ c.loop-i.invariant.status (c.loop-i.invariant.same told) (omega (arith, c.block_count-i-end.ensures.value))
    (λ at fault. c.in_err-note_block.ensures.damaged told at (ap (λ f. Err f) fault))
