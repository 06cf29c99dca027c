use Rattle.std.proofs.Common.{◌∙◌, inl, inr, sym, arith}
use Rattle.sn_fuse.proofs.Messages.{told}
use Rattle.sn_fuse.proofs.message.read_frame.Goals as goal
use Rattle.sn_fuse.proofs.message.read_frame.Goals.{then-length-lt-HEAD_SIZE-via-then-length-lt-HEAD_SIZE, then-length-lt-HEAD_SIZE-via-else-length-lt-HEAD_SIZE+then-length-bytes}

pub returns-then-length-lt-HEAD_SIZE-clause-none : goal.returns-then-length-lt-HEAD_SIZE-clause-none
returns-then-length-lt-HEAD_SIZE-clause-none c = λ _.
    let first = c.read_head-head.ensures.spelled in
    let is = told c.read_head-head.result c.args.bytes.now first.0 first.1.0 (sym c.new-reader.ensures ∙ first.1.1) in
    elim c.then-length-lt-HEAD_SIZE.branch [
      | then-length-lt-HEAD_SIZE-via-then-length-lt-HEAD_SIZE w ↦ inr (inl (omega arith))
      | then-length-lt-HEAD_SIZE-via-else-length-lt-HEAD_SIZE+then-length-bytes w ↦ inr (inr (omega arith))
    ]
