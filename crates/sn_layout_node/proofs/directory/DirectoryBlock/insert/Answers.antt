use Rattle.std.proofs.Common.{[], ◌∷◌, ◌++◌, arith}
use Rattle.sn_layout_node.specs.Directory.{Link}
use Rattle.sn_layout_node.proofs.Changes.{added, length-more}
use Rattle.sn_layout_node.proofs.directory.DirectoryBlock.insert.Goals as goal

pub returns-then-name-size-clause-room : goal.returns-then-name-size-clause-room
returns-then-name-size-clause-room c = λ links spelled.
    let size = c.links_size-size.ensures links spelled in
    let link : Link = record { number = c.args.number; name = c.args.name.now } in
    (λ yes. absurd cc, λ fits. absurd (omega (arith, size, c.if-name-size.true, fits.room, length-more links link)))

pub returns-clause-still : goal.returns-clause-still
returns-clause-still c =
    let (links, spelled) = c.requires.block in
    let link : Link = record { number = c.args.number; name = c.args.name.now } in
    let size = c.links_size-size.ensures links spelled in
    (links ++ link ∷ [], added c.args.block.now c.put_link-size.new.block c.put_zeros.new.block links link c.links_size-size.result c.put_link-size.result c.put_zeros.result spelled c.requires.link size (omega arith) c.put_link-size.ensures.bytes.front c.put_link-size.ensures.next c.put_zeros.ensures.bytes.front c.put_zeros.ensures.next (omega arith))
