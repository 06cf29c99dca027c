use Rattle.std.proofs.Common.{rules}
use Rattle.sn_names.specs.Prints.{print_of}
use Rattle.sn_names.proofs.print.Print.of.Goals as goal

pub returns : goal.returns
unfolding print_of
returns c = search rules
