use Rattle.std.proofs.Common.{ap, sym, ◌∙◌}
use Rattle.sn_model.specs.Descriptors.{closed}
use Rattle.sn_desc.specs.Closing.{released_if}
use Rattle.sn_desc.specs.InUse.{descriptors_in}
use Rattle.sn_desc.specs.OpenFiles.{files_of, room_of}
use Rattle.sn_desc.proofs.HeldLemmas.{released_is}
use Rattle.sn_desc.proofs.SessionLemmas.{absent, closed_none, closes, there}
use Rattle.sn_desc.proofs.sessions.Sessions.close_if_open.Goals as goal

pub returns-in_err-seat_of-clause-in_use : goal.returns-in_err-seat_of-clause-in_use
returns-in_err-seat_of-clause-in_use c =
    let s = c.args.self.now in
    let none = absent (files_of s.files) c.args.session c.args.fd s.files.counted.seats (sym c.in_err-seat_of.ensures) in
    let same = closed_none (descriptors_in (files_of s.files)) c.args.session c.args.fd none in
    λ i. record { sessions = s.sessions.items; descriptors = same i; room = room_of s.files }

pub returns-in_err-seat_of-clause-released : goal.returns-in_err-seat_of-clause-released
returns-in_err-seat_of-clause-released c =
    let s = c.args.self.now in
    c.from_residual.ensures ∙ sym (ap (released_if (closed (descriptors_in (files_of s.files)) c.args.session c.args.fd)) (absent (files_of s.files) c.args.session c.args.fd s.files.counted.seats (sym c.in_err-seat_of.ensures)))

pub returns-clause-in_use : goal.returns-clause-in_use
returns-clause-in_use c =
    let s = c.args.self.now in
    let same = ap descriptors_in c.close.ensures.files ∙ closes (files_of s.files) c.args.session c.args.fd s.files.counted.seats _ (sym c.in_ok-seat_of.ensures) in
    λ i. record { sessions = s.sessions.items; descriptors = same i; room = room_of c.close.new.self }

pub returns-clause-released : goal.returns-clause-released
returns-clause-released c =
    let s = c.args.self.now in
    let same = ap descriptors_in c.close.ensures.files ∙ closes (files_of s.files) c.args.session c.args.fd s.files.counted.seats _ (sym c.in_ok-seat_of.ensures) in
    let was = sym (there (files_of s.files) c.args.session c.args.fd s.files.counted.seats _ (sym c.in_ok-seat_of.ensures)) in
    c.close.ensures.released ∙ released_is (files_of c.close.new.self) _ ∙ (λ i. released_if (same i) (was i))
