use Rattle.sn_ondisk.proofs.CountLemmas.{named_counted, times-all_append, times-down, times-reach, length-pointers_at}
use Rattle.sn_ondisk.proofs.laws.count_laws.Goals as goal

pub returns-clause-named : goal.returns-clause-named
returns-clause-named c = named_counted

pub returns-clause-joined : goal.returns-clause-joined
returns-clause-joined c = times-all_append

pub returns-clause-levels : goal.returns-clause-levels
returns-clause-levels c = times-down

pub returns-clause-reach : goal.returns-clause-reach
returns-clause-reach c = times-reach

pub returns-clause-full : goal.returns-clause-full
returns-clause-full c = length-pointers_at
