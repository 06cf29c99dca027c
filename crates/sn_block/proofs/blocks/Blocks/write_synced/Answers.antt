use Rattle.std.proofs.Common.{◌∙◌}
use Rattle.sn_device.specs.Sectors.{Single}
use Rattle.sn_block.proofs.EffectLemmas.{OnOk-always, Touches-settled}
use Rattle.sn_block.proofs.blocks.Blocks.write_synced.Goals as goal

pub returns-clause-disk : goal.returns-clause-disk
returns-clause-disk g c told =
    let wrote = c.in_ok-write_sector.ensures.disk told in
    let synced = c.sync.ensures.disk told in
    record {
      touched = Touches-settled (Single c.args.at) _ _ _ wrote.touched synced.touched;
      done = OnOk-always c.sync.result (synced.same ∙ wrote.done);
      synced = synced.synced;
    }
