use Rattle.std.proofs.Common.{◌≡◌, take}
use Rattle.std.specs.List.{flat_map}
use Rattle.sn_script.specs.Replies.{reply_line}
use Rattle.sn_script.proofs.printing.print_replies.Given as goal

abbrev pub invariant-loop-reply : goal.invariant-loop-reply
invariant-loop-reply l = l.text.items ≡ flat_map reply_line (take l.reply-index l.replies)
