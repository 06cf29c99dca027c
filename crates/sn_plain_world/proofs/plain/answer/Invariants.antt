use Rattle.std.proofs.Common.{◌≡◌, ◌≤◌, length, take, vec_len, vec_capacity}
use Rattle.sn_limits.specs.Versions.{limits_written}
use Rattle.sn_model.specs.Worlds.{IsWorld}
use Rattle.sn_plain_world.specs.PlainRuns.{PlainRun}
use Rattle.sn_plain_world.specs.Plain.{numbered_of, world_of}
use Rattle.sn_plain_world.proofs.plain.answer.Given as goal

-- the replies so far answer the events so far
abbrev pub invariant-loop-event : goal.invariant-loop-event
invariant-loop-event l = record {
  run : PlainRun (numbered_of l.fn.world) (take l.event-index l.events) l.replies.items (numbered_of l.world);
  whole : IsWorld limits_written (world_of l.world);
  count : vec_len l.replies ≡ l.event-index;
  room : length l.events ≤ vec_capacity l.replies;
}
