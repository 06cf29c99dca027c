use Rattle.std.proofs.Common.{◌∙◌, List, sym, ap}
use Rattle.sn_acl.specs.declared.entries.Entry.{Entry}
use Rattle.sn_acl.specs.declared.modes.Mode.{Mode}
use Rattle.sn_layout_acl.specs.AclBlock.{joined}
use Rattle.sn_record.specs.Payload.{objects_of}
use Rattle.sn_record.proofs.Parts.{join_parts, parts_join}
use Rattle.sn_record.proofs.ownership.joined.Goals as goal

pub returns-clause-objects : goal.returns-clause-objects
returns-clause-objects c = (join_parts c.join.result c.args.access.now c.args.objects c.as_slice.ensures.valid c.join.ensures).0

pub returns-clause-access : goal.returns-clause-access
returns-clause-access c = (join_parts c.join.result c.args.access.now c.args.objects c.as_slice.ensures.valid c.join.ensures).1

pub returns-clause-only : goal.returns-clause-only
returns-clause-only c = λ acl v objects access.
    c.join.ensures ∙ ap (λ (m : Mode). joined m c.args.access.now) objects ∙ ap (λ (named : List Entry). joined (objects_of acl) named) access ∙ sym (parts_join acl v)
