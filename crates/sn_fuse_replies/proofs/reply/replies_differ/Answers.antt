use Rattle.sn_fuse_replies.proofs.Differing.{replies}
use Rattle.sn_fuse_replies.proofs.reply.replies_differ.Goals as goal

pub returns : goal.returns
returns c = replies
