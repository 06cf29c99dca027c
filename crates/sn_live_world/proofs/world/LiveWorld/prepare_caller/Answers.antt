use Rattle.sn_desc.specs.InUse.{live_in}
use Rattle.sn_live_world.specs.World.{descriptors_of}
use Rattle.sn_live_world.proofs.world.LiveWorld.prepare_caller.Goals as goal

pub returns-in-Opens-clause-keeps : goal.returns-in-Opens-clause-keeps
returns-in-Opens-clause-keeps c = c.prepare_file.ensures.keeps (live_in (descriptors_of c.args.self.now)) c.requires
