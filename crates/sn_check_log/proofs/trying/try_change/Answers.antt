use Rattle.std.proofs.Common.{rules}
use Rattle.sn_block.specs.Lending.{device_of}
use Rattle.sn_check_log.proofs.TryLemmas.{looked_only}
use Rattle.sn_check_log.proofs.trying.try_change.Goals as goal

pub returns-in-Some-clause-reads : goal.returns-in-Some-clause-reads
returns-in-Some-clause-reads g c =
    let below = c.try_over-made.new.below in
    let h = looked_only g.D.Device.tells_bytes (g.D.Device.status (device_of c.args.blocks.now)) (g.D.Device.status (device_of below.blocks.now)) below.fault c.try_over-made.ensures.follows.0.stands in
    search (rules, h)
