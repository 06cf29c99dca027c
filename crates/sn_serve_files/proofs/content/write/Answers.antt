use Rattle.std.proofs.Common.{ap}
use Rattle.sn_plan.proofs.Following.{and_then, does_same, is_held, is_not_held, stops, takes_it}
use Rattle.sn_serve_files.specs.Messages.{write, writes_at}
use Rattle.sn_serve_files.proofs.content.write.Goals as goal

pub returns-in_err-file : goal.returns-in_err-file
unfolding write
returns-in_err-file g c = stops _ c.from_residual.result c.from_residual.ensures.1 c.open_file.ensures.does c.in_err-file.was

pub returns-in_err-bytes : goal.returns-in_err-bytes
unfolding write
returns-in_err-bytes g c = and_then _ c.open_file.ensures.does c.in_ok-file.was
    (is_not_held c.copied.result c.from_residual-in_err-bytes.result c.copied.ensures.err c.in_err-bytes.was c.from_residual-in_err-bytes.ensures.1)

pub returns : goal.returns
unfolding write
returns g c = and_then _ c.open_file.ensures.does c.in_ok-file.was
    (takes_it (does_same (ap (writes_at c.args.handle c.in_ok-file.file c.args.offset) (is_held c.args.bytes.now c.copied.result c.in_ok-bytes.bytes c.copied.ensures.bytes c.in_ok-bytes.was)) c.write_at.ensures))
