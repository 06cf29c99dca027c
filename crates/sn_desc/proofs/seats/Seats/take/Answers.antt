use Rattle.std.proofs.Common.{refl, sym}
use Rattle.sn_desc.proofs.KeyLemmas.{still_none, take_files, take_seated}
use Rattle.sn_desc.proofs.seats.Seats.take.Goals as goal

pub returns-in_err-key-clause-files : goal.returns-in_err-key-clause-files
returns-in_err-key-clause-files c = still_none c.args.self.now.files c.args.self.now.keys.items c.args.seat (sym c.in_err-key.ensures)

pub invariant_of-self : goal.invariant_of-self
invariant_of-self c =
    let old = c.args.self.now in
    record { seated = take_seated old.files c.try_remove.new.self old.keys.items c.args.seat c.in_ok-key.key _ old.seated c.try_remove.ensures.updates refl (sym c.in_ok-key.ensures) }

pub returns-clause-files : goal.returns-clause-files
returns-clause-files c =
    let old = c.args.self.now in
    take_files old.files c.try_remove.new.self old.keys.items c.args.seat c.in_ok-key.key _ old.seated c.try_remove.ensures.updates refl (sym c.in_ok-key.ensures)
