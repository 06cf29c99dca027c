use Rattle.std.proofs.Common.{◌≤◌, ap, arith}
use Rattle.sn_directories.specs.declared.table.Counted.{Counted}
use Rattle.sn_directories.proofs.WayLemmas.{at_root, at_top, ended, goes_up, starts}
use Rattle.sn_directories.proofs.table.Directories.is_at_or_below.Goals as goal

pub loop-step-init : goal.loop-step-init
loop-step-init c tree whole tells kind = starts tree whole _ tells c.args.top c.args.directory kind

pub loop-step-preserved : goal.loop-step-preserved
loop-step-preserved c tree whole tells kind =
    goes_up tree whole _ tells c.args.top c.args.directory c.loop-step.current c.loop-step.step (c.loop-step.invariant tree whole tells kind) c.if-current-top.false c.if-current-eq-ROOT_NUMBER.false c.get-current.result.parent (ap (λ (x : Counted). x.parent) c.get-current.ensures)

pub returns-then-current-top : goal.returns-then-current-top
returns-then-current-top c tree whole tells kind =
    at_top tree whole _ tells c.args.top c.args.directory c.loop-step.current c.loop-step.step (c.loop-step.invariant tree whole tells kind) c.if-current-top.true

pub returns-then-current-eq-ROOT_NUMBER : goal.returns-then-current-eq-ROOT_NUMBER
returns-then-current-eq-ROOT_NUMBER c tree whole tells kind =
    at_root tree whole _ tells c.args.top c.args.directory c.loop-step.current c.loop-step.step (c.loop-step.invariant tree whole tells kind) c.if-current-top.false c.if-current-eq-ROOT_NUMBER.true

pub returns : goal.returns
returns c tree whole tells kind =
    let all : 4294967295 ≤ c.loop-step.step = omega arith in
    absurd (ended tree whole _ tells c.args.top c.args.directory c.loop-step.current c.loop-step.step (c.loop-step.invariant tree whole tells kind) all)
