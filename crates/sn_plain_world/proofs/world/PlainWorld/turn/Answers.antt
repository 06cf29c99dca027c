use Rattle.sn_plain_world.specs.Plain.{room_of, world_of}
use Rattle.sn_caller.proofs.CallerLemmas.{can_room}
use Rattle.sn_plain_world.proofs.world.PlainWorld.turn.Goals as goal

pub turn-requires : goal.turn-requires
turn-requires c = can_room (world_of c.args.self.now).descriptors (room_of c.args.self.now) c.args.session c.args.caller c.requires.opens

pub returns-clause-released : goal.returns-clause-released
returns-clause-released c = c.turn.ensures.released (world_of c.args.self.now)

pub returns-clause-held : goal.returns-clause-held
returns-clause-held c = c.turn.ensures.held (world_of c.args.self.now)
