use Rattle.std.proofs.Common.{◌≡◌, ◌∙◌, ◌-◌, Some, length, take, sym, ap}
use Rattle.std.proofs.lemmas.List.{take_at}
use Rattle.sn_layout.specs.Bytes.{zeros}
use Rattle.sn_layout.proofs.Fields.{some_some}
use Rattle.sn_layout_node.specs.Directory.{links_bytes, links_of}
use Rattle.sn_layout_node.proofs.Links.{links_of-bytes}
use Rattle.sn_layout_node.proofs.directory.DirectoryBlock.decode.Goals as goal

pub returns-clause-only : goal.returns-clause-only
returns-clause-only c = λ links spelled.
    let end = some_some c.links_end.result c.in_ok-end.end (length (links_bytes links)) c.in_ok-end.was (c.links_end.ensures.only links spelled.fit spelled.bytes) in
    let front : take c.in_ok-end.end c.args.block.now ≡ links_bytes links = ap (take c.in_ok-end.end) spelled.bytes ∙ take_at (links_bytes links) (zeros (4096 - length (links_bytes links))) c.in_ok-end.end (sym end) in
    ap Some (ap links_of front ∙ links_of-bytes links spelled.fit.each)
