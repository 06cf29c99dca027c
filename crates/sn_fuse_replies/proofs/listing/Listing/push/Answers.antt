use Rattle.std.proofs.Common.{◌≡◌, ◌∙◌, length, take, ap, length-append, arith}
use Rattle.std.proofs.lemmas.List.{length-take-le}
use Rattle.sn_fuse_replies.proofs.listing.Listing.push.Goals as goal

pub invariant_of-self-2 : goal.invariant_of-self-2
invariant_of-self-2 c =
    let end = c.put_entry-end.result in
    let entry = take end c.put_entry-end.new.block in
    let long : length entry ≡ end = length-take-le end c.put_entry-end.new.block (omega arith) in
    let more = ap length c.in_ok-append.ensures.ok ∙ length-append c.self.inside.bytes.items entry in
    (omega (arith, more, long), omega (arith, more, long, c.self.invariant.1))
