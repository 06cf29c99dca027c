use Rattle.std.proofs.Common.{sym}
use Rattle.sn_record.proofs.Parts.{join_parts}
use Rattle.sn_record.proofs.ownership.parts_of.Goals as goal

pub returns-clause-objects : goal.returns-clause-objects
returns-clause-objects c = sym (join_parts c.args.acl.now c.of-parts.result.access c.of-parts.result.objects c.as_slice.ensures.valid c.of-parts.ensures).0

pub returns-clause-access : goal.returns-clause-access
returns-clause-access c = sym (join_parts c.args.acl.now c.of-parts.result.access c.of-parts.result.objects c.as_slice.ensures.valid c.of-parts.ensures).1
