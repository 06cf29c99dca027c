use Rattle.sn_program.proofs.ReaderLemmas.{limited}
use Rattle.sn_program.proofs.script.take_bytes.Goals as goal

pub returns : goal.returns
returns g c =
    limited g.R.Read.remaining c.take.result c.args.reader c.new-bytes.result.items c.read_to_end.new.buf.items c.take.ensures.limit c.take.ensures.inner c.new-bytes.ensures.items c.in_ok-read_to_end.ensures.bytes
