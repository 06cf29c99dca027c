use Rattle.std.proofs.Common.{refl}
use Rattle.sn_inode.proofs.SettledLemmas.{settled_one}
use Rattle.sn_inode.proofs.acl_changes.settled.Goals as goal

pub returns-clause-settled : goal.returns-clause-settled
returns-clause-settled g c =
    settled_one _ _ c.args.file.now c.args.change.now _ c.in_ok-old.old c.args.build.now c.new_record.new.build refl c.in_ok-old.ensures.inode c.in_ok-record.ensures.placed

pub returns-clause-valid : goal.returns-clause-valid
returns-clause-valid g c = c.in_ok-record.ensures.valid c.args.limits.now c.requires.new
