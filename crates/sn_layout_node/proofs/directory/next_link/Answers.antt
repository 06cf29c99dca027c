use Rattle.std.proofs.Common.{◌≡◌, ◌∙◌, ◌∷◌, List, ℕ, length, sym, ap, subst, arith, length-append}
use Rattle.sn_layout_node.specs.Directory.{Link, AreLinkBytes, links_bytes, links_of}
use Rattle.sn_layout_node.proofs.Links.{first_link, first_long, are_link_bytes, links_of-bytes}
use Rattle.sn_layout_node.proofs.directory.next_link.Goals as goal

pub u16-number-requires : goal.u16-number-requires
u16-number-requires c =
    let first = first_link c.args.reader.now c.requires.links c.requires.some in
    omega (arith, first_long c.args.reader.now first.0 first.1 first.2)

pub u8-count-requires : goal.u8-count-requires
u8-count-requires c =
    let first = first_link c.args.reader.now c.requires.links c.requires.some in
    omega (arith, first_long c.args.reader.now first.0 first.1 first.2, c.u16-number.ensures.left)

pub bytes-name-requires : goal.bytes-name-requires
bytes-name-requires c =
    let first = first_link c.args.reader.now c.requires.links c.requires.some in
    let link = first.0 in
    let more = first.1 in
    let number = c.u16-number.ensures.only link.number _ first.2.fits.most first.2.spelled in
    let count = c.u8-count.ensures.only (length link.name) _ number.1 in
    omega (arith, count.0, ap length count.1, length-append link.name (links_bytes more))

pub returns-clause-first : goal.returns-clause-first
returns-clause-first c =
    let first = first_link c.args.reader.now c.requires.links c.requires.some in
    let link = first.0 in
    let more = first.1 in
    let number = c.u16-number.ensures.only link.number _ first.2.fits.most first.2.spelled in
    let count = c.u8-count.ensures.only (length link.name) _ number.1 in
    let name = c.bytes-name.ensures.only link.name (links_bytes more) (sym count.0) count.1 in
    let rest : links_of c.bytes-name.new.self ≡ more = ap links_of name.1 ∙ links_of-bytes more first.2.each in
    let made : ℕ → List ℕ → List Link → List Link = λ n text links. record { number = n; name = text } ∷ links in
    first.2.links
    ∙ ap (λ (n : ℕ). made n link.name more) (sym number.0)
    ∙ ap (λ (text : List ℕ). made c.u16-number.result text more) (sym name.0)
    ∙ ap (made c.u16-number.result c.bytes-name.result.now) (sym rest)

pub returns-clause-others : goal.returns-clause-others
returns-clause-others c =
    let first = first_link c.args.reader.now c.requires.links c.requires.some in
    let link = first.0 in
    let more = first.1 in
    let number = c.u16-number.ensures.only link.number _ first.2.fits.most first.2.spelled in
    let count = c.u8-count.ensures.only (length link.name) _ number.1 in
    let name = c.bytes-name.ensures.only link.name (links_bytes more) (sym count.0) count.1 in
    subst AreLinkBytes (sym name.1) (are_link_bytes more first.2.each)
