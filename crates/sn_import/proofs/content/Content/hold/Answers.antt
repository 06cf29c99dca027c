use Rattle.sn_import.proofs.Pieces.{writes_held}
use Rattle.sn_import.proofs.content.Content.hold.Goals as goal

pub returns-clause-same : goal.returns-clause-same
returns-clause-same c = λ rest. writes_held c.args.self.now c.append.new.self c.args.bytes.now rest c.requires c.in_ok-append.ensures.more
