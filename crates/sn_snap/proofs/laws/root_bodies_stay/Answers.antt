use Rattle.sn_snap.proofs.HeldLemmas.{body_with, body_without}
use Rattle.sn_snap.proofs.laws.root_bodies_stay.Goals as goal

pub returns-clause-with : goal.returns-clause-with
returns-clause-with c = body_with

pub returns-clause-without : goal.returns-clause-without
returns-clause-without c = body_without
