use Rattle.sn_fuse.proofs.Messages.{same_requests}
use Rattle.sn_fuse.proofs.message.requests_differ.Goals as goal

pub returns : goal.returns
returns c = same_requests
