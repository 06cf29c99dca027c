use Rattle.std.proofs.Common.{refl, arith}
use Rattle.std.proofs.lemmas.List.{length-map}
use Rattle.sn_desc.specs.Seats.{file_under}
use Rattle.sn_desc.proofs.KeyLemmas.{put_files, put_seated}
use Rattle.sn_desc.proofs.seats.Seats.put.Goals as goal

pub invariant_of-self : goal.invariant_of-self
invariant_of-self c =
    let old = c.args.self.now in
    record { seated = put_seated old.files c.insert_reserved-key.new.self old.keys.items c.args.seat c.insert_reserved-key.result _ old.seated c.insert_reserved-key.ensures.updates c.args.file refl c.insert_reserved-key.ensures.was_vacant (omega (arith, c.requires.within, length-map old.keys.items (file_under old.files))) }

pub returns-clause-files : goal.returns-clause-files
returns-clause-files c =
    let old = c.args.self.now in
    put_files old.files c.insert_reserved-key.new.self old.keys.items c.args.seat c.insert_reserved-key.result _ old.seated c.insert_reserved-key.ensures.updates c.args.file refl c.insert_reserved-key.ensures.was_vacant
