use Rattle.std.proofs.Common.{◌∙◌, ◌∷◌, ◌++◌, length, sym, ap, arith, length-append}
use Rattle.sn_layout.specs.Bytes.{number_bytes}
use Rattle.sn_layout.proofs.Fields.{length-number_bytes}
use Rattle.sn_layout_node.specs.Directory.{link_bytes}
use Rattle.sn_layout_node.proofs.Links.{length-link, link_flat}
use Rattle.sn_layout_node.proofs.directory.skip_link.Goals as goal

pub u8-count-requires : goal.u8-count-requires
u8-count-requires c =
    let (link, rest, fits, e) = c.requires in
    omega (arith, c.bytes.ensures.left, ap length e, length-append (link_bytes link) rest, length-link link)

pub bytes-requires-2 : goal.bytes-requires-2
bytes-requires-2 c =
    let (link, rest, fits, e) = c.requires in
    let number = c.bytes.ensures.only (number_bytes 2 link.number) (length link.name ∷ (link.name ++ rest)) (length-number_bytes 2 link.number) (e ∙ link_flat link rest) in
    let count = c.u8-count.ensures.only (length link.name) (link.name ++ rest) number.1 in
    omega (arith, count.0, ap length count.1, length-append link.name rest)

pub returns-clause-only : goal.returns-clause-only
returns-clause-only c = λ link rest fits e.
    let number = c.bytes.ensures.only (number_bytes 2 link.number) (length link.name ∷ (link.name ++ rest)) (length-number_bytes 2 link.number) (e ∙ link_flat link rest) in
    let count = c.u8-count.ensures.only (length link.name) (link.name ++ rest) number.1 in
    (c.bytes-2.ensures.only link.name rest (sym count.0) count.1).1
