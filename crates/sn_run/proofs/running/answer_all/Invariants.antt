use Rattle.std.proofs.Common.{◌≡◌, ◌≤◌, length, take, vec_len, vec_capacity}
use Rattle.std.specs.Prelude.{IsTrue}
use Rattle.sn_run.specs.Runs.{AnswersAll}
use Rattle.sn_run.specs.Servers.{IsServer, is_stopped, standing}
use Rattle.sn_run.proofs.running.answer_all.Given as goal

-- the replies so far answer the events so far
abbrev pub invariant-loop-event : goal.invariant-loop-event
invariant-loop-event g l = record {
  answered : IsTrue g.D.Device.tells_bytes → AnswersAll (take l.event-index l.events) l.replies.items (standing l.fn.server) (is_stopped l.fn.server) (standing l.server) (is_stopped l.server);
  sound : IsServer l.server;
  count : vec_len l.replies ≡ l.event-index;
  room : length l.events ≤ vec_capacity l.replies;
}
