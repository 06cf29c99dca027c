use Rattle.std.proofs.Common.{refl, ap, ◌∙◌}
use Rattle.sn_dir.proofs.BlockLemmas.{names_read}
use Rattle.sn_check_root.specs.Reading.{fault_at}
use Rattle.sn_census.proofs.readers.spelled_names.Goals as goal

pub returns-in-Ok-clause-names : goal.returns-in-Ok-clause-names
returns-in-Ok-clause-names c = names_read c.args.block.now c.args.block.now c.in-Ok.names refl c.in-Ok.ensures.spelled

pub returns-in-Err-clause-own : goal.returns-in-Err-clause-own
returns-in-Err-clause-own c = c.fault_at.ensures ∙ ap (fault_at c.args.body) c.in-Err.ensures.damaged.0

pub returns-in-Err-clause-spelled : goal.returns-in-Err-clause-spelled
returns-in-Err-clause-spelled c spelled = c.in-Err.ensures.damaged.1 spelled
