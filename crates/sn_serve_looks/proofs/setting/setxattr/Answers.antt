use Rattle.sn_serve_looks.proofs.Steps.{read_so}
use Rattle.sn_serve_looks.proofs.setting.setxattr.Goals as goal

pub returns : goal.returns
returns g c = (c.decode-read.result, read_so c.args.value.now c.decode-read.result c.decode-read.ensures.found c.decode-read.ensures.only, c.sets_read.ensures)
