use Rattle.std.proofs.Common.{sym}
use Rattle.sn_names.proofs.ShareLemmas.{shares_past}
use Rattle.sn_names.proofs.share.shares.Goals as goal

pub returns-then-i-numbers-clause-value : goal.returns-then-i-numbers-clause-value
returns-then-i-numbers-clause-value c = sym (shares_past c.args.numbers.now c.args.other.now.numbers.items c.args.other.now.rooms.items c.args.i c.if-i-numbers.true)
