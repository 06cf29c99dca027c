use Rattle.std.proofs.Common.{[], ap, length, arith}
use Rattle.sn_fuse.specs.Body.{Nothing}
use Rattle.sn_fuse.proofs.Bodies.{peel_text}
use Rattle.sn_fuse.proofs.name.read_last_name.Goals as goal

pub returns-then-remaining-gt0-clause-none : goal.returns-then-remaining-gt0-clause-none
returns-then-remaining-gt0-clause-none c = λ _ name s.
    let read = c.in_ok-name.ensures.found in
    let rest = peel_text name c.in_ok-name.name [] Nothing c.args.reader.now c.read_name.new.reader read.0 read.1 s in
    absurd (omega (arith, ap length rest.1))
