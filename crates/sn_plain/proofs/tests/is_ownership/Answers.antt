use Rattle.std.proofs.Common.{◌∙◌, arith}
use Rattle.sn_plain.proofs.OwnershipLemmas.{owned_none, owned_some}
use Rattle.sn_plain.proofs.tests.is_ownership.Goals as goal

pub returns-in-None : goal.returns-in-None
returns-in-None c = owned_none c.args.kind c.args.ownership.now (omega arith) (omega arith) c.entries-access.ensures.valid c.in-None.is

pub returns-in-Some : goal.returns-in-Some
returns-in-Some c = c.is_directory.ensures ∙ owned_some c.args.kind c.args.ownership.now (omega arith) (omega arith) c.entries-access.ensures.valid c.in-Some.acl c.entries-default.ensures.valid c.in-Some.is
