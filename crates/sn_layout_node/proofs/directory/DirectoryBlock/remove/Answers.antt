use Rattle.std.proofs.Common.{◌∙◌, List, refl, sym, ap, subst}
use Rattle.sn_layout_node.specs.Directory.{Link, AreLinkBytes, Spells, number_of, without}
use Rattle.sn_layout_node.proofs.Links.{are_link_bytes}
use Rattle.sn_layout_node.proofs.Changes.{front_of, links_in, removed}
use Rattle.sn_layout_node.proofs.directory.DirectoryBlock.remove.Goals as goal

pub span_of-requires : goal.span_of-requires
span_of-requires c =
    let (links, spelled) = c.requires in
    let front = front_of c.args.block.now links c.links_size-size.result spelled (c.links_size-size.ensures links spelled) in
    subst AreLinkBytes (sym front) (are_link_bytes links spelled.fit.each)

pub returns-in_err-span-clause-number : goal.returns-in_err-span-clause-number
returns-in_err-span-clause-number c = λ links spelled.
    let known = links_in c.args.block.now links c.links_size-size.result spelled (c.links_size-size.ensures links spelled) in
    c.from_residual.ensures ∙ sym (c.in_err-span.ensures.none refl).0 ∙ ap (number_of c.args.name.now) known

pub returns-in_err-span-clause-removed : goal.returns-in_err-span-clause-removed
returns-in_err-span-clause-removed c = λ links spelled.
    let known = links_in c.args.block.now links c.links_size-size.result spelled (c.links_size-size.ensures links spelled) in
    let same = sym known ∙ sym (c.in_err-span.ensures.none refl).1 ∙ ap (without c.args.name.now) known in
    subst (λ (ls : List Link). Spells c.args.block.now ls) same spelled

pub returns-clause-number : goal.returns-clause-number
returns-clause-number c = λ links spelled.
    let known = links_in c.args.block.now links c.links_size-size.result spelled (c.links_size-size.ensures links spelled) in
    sym c.in_ok-span.ensures.found ∙ ap (number_of c.args.name.now) known

pub returns-clause-removed : goal.returns-clause-removed
returns-clause-removed c = λ links spelled.
    removed c.args.block.now c.take_out.new.block links c.args.name.now c.in_ok-span.span.start c.in_ok-span.span.end c.links_size-size.result spelled (c.links_size-size.ensures links spelled) c.in_ok-span.ensures.within.0 c.in_ok-span.ensures.within.1 c.in_ok-span.ensures.others c.take_out.ensures

pub returns-clause-still : goal.returns-clause-still
returns-clause-still c = (without c.args.name.now c.requires.0, returns-clause-removed c c.requires.0 c.requires.1)
