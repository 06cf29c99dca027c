use Rattle.std.proofs.Common.{arith}
use Rattle.sn_bytes.proofs.Fields.{too_few}
use Rattle.sn_bytes.proofs.reader.Reader.try_u16.Goals as goal

pub returns-then-remaining-lt2-clause-only : goal.returns-then-remaining-lt2-clause-only
returns-then-remaining-lt2-clause-only c = λ number rest fits e. too_few 2 number c.args.self.now rest (omega arith) e
