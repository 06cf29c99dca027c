use Rattle.sn_acl.proofs.Lists.{length-valid}
use Rattle.sn_acl.proofs.list.Acl.copy.Goals as goal

pub kept-requires : goal.kept-requires
kept-requires c = rw c.entries.ensures.value (length-valid c.args.self.now c.entries.ensures.valid)
