use Rattle.sn_record.proofs.OneSpelling.{one_spelling}
use Rattle.sn_record.proofs.payload.payloads_differ.Goals as goal

pub returns : goal.returns
returns c = one_spelling
