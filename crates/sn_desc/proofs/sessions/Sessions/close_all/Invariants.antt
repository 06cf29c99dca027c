use Rattle.std.proofs.Common.{◌≡◌, ◌+◌, ◌≤◌, ℕ, true}
use Rattle.arrayvec.specs.ArrayVec.{array_vec_len}
use Rattle.sn_model.specs.Descriptors.{is_held_in}
use Rattle.sn_desc.specs.Closing.{AreReleased}
use Rattle.sn_desc.specs.InUse.{live_in}
use Rattle.sn_desc.specs.Sessions.{in_use_of}
use Rattle.sn_desc.proofs.LogoutLemmas.{closed_below}
use Rattle.sn_desc.proofs.sessions.Sessions.close_all.Given as goal

-- so many are closed
abbrev pub invariant-loop-fd : goal.invariant-loop-fd
invariant-loop-fd l = record {
  in_use : in_use_of l.self ≡ record (in_use_of l.fn.self) { descriptors = closed_below (in_use_of l.fn.self).descriptors l.session l.fd; room = (in_use_of l.self).room };
  released : AreReleased (in_use_of l.fn.self).descriptors (in_use_of l.self).descriptors l.released.items;
  was_held : (number : ℕ) → is_held_in (in_use_of l.self).descriptors number ≡ true → is_held_in (in_use_of l.fn.self).descriptors number ≡ true;
  few : array_vec_len l.released ≤ l.fd;
  live : array_vec_len l.released + live_in (in_use_of l.self).descriptors ≤ live_in (in_use_of l.fn.self).descriptors;
  room : (in_use_of l.fn.self).room ≤ (in_use_of l.self).room;
}
