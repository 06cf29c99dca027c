use Rattle.std.proofs.Common.{◌≡◌, ◌%◌, length, vec_len, sym, ◌∙◌, arith}
use Rattle.sn_tree_read.proofs.ReadLemmas.{zero_part}
use Rattle.sn_tree_read.proofs.reads.push_part.Goals as goal

pub returns-in_ok-resize-clause-bytes : goal.returns-in_ok-resize-clause-bytes
returns-in_ok-resize-clause-bytes g c told =
    let long : vec_len c.args.bytes.now ≡ length c.args.bytes.now.items = omega (arith, c.args.bytes.now.ok) in
    c.in_ok-resize.ensures.items ∙ zero_part c.args.bytes.now.items _ (c.args.at % 4096) c.args.count _ (vec_len c.args.bytes.now) long (omega (arith, c.len.ensures)) c.requires (c.in_ok-fetch_data.ensures.hole told (sym c.is_some.ensures ∙ c.if-is_some.false))
