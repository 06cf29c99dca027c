use Rattle.std.proofs.Common.{◌∙◌, ◌∷◌, ◌++◌, List, ℕ, length, refl, sym, ap, arith}
use Rattle.sn_layout.specs.Bytes.{number_bytes}
use Rattle.sn_layout_node.specs.Directory.{Link}
use Rattle.sn_layout_node.proofs.Links.{begins_least, link_flat}
use Rattle.sn_layout_node.proofs.directory.read_link.Goals as goal

pub returns-clause-found : goal.returns-clause-found
returns-clause-found c =
    let name = c.in_ok-name.name.now in
    let link : Link = record { number = c.u16-number.result; name = name } in (
      record {
        least = begins_least c.args.reader.now c.u16-number.new.self c.u16-number.result c.requires (omega arith) c.u16-number.ensures.read;
        most = omega arith;
        name = c.in_ok-name.ensures.found.0;
      },
      c.u16-number.ensures.read ∙ ap (λ (r : List ℕ). number_bytes 2 c.u16-number.result ++ r) c.in_ok-name.ensures.found.1 ∙ sym (link_flat link c.read_name.new.reader),
    )

pub returns-clause-only : goal.returns-clause-only
returns-clause-only c = λ link rest fits e.
    let number = c.u16-number.ensures.only link.number (length link.name ∷ (link.name ++ rest)) fits.most (e ∙ link_flat link rest) in
    let name = c.in_ok-name.ensures.only link.name rest fits.name number.1 in
    ((number.0, name.1), name.2, refl)
