use Rattle.sn_caller_groups.proofs.Reading.{listed_is_read, read_is_listed}
use Rattle.sn_caller_groups.proofs.laws.listed_groups_are_read.Goals as goal

pub returns-clause-listed : goal.returns-clause-listed
returns-clause-listed c all_mapped text groups e = read_is_listed all_mapped text groups e

pub returns-clause-read : goal.returns-clause-read
returns-clause-read c all_mapped text groups lists few shown = listed_is_read all_mapped text groups lists few shown
