use Rattle.std.proofs.Common.{◌≡◌, None, Some, sym, ◌∙◌, rules}
use Rattle.std.specs.FinMap as map
use Rattle.std.specs.Ordering.{nat_cmp}
use Rattle.std.specs.Cmp.Lexicographic.{slice_cmp}
use Rattle.sn_nodes.specs.Stored.{directories_of, links_of}
use Rattle.sn_nodes.proofs.NamesLemmas.{get_name}
use Rattle.sn_nodes.proofs.links.Links.named.Goals as goal

pub returns-in_err-get : goal.returns-in_err-get
unfolding links_of directories_of
returns-in_err-get c =
    let none : c.from_residual.result ≡ None = search rules in
    none ∙ sym (get_name c.args.self.now.directories.entries c.args.directory None (sym c.in_err-get.ensures.value) c.args.name.now ∙ map.get-empty (slice_cmp nat_cmp) c.args.name.now)

pub returns : goal.returns
unfolding links_of directories_of
returns c = c.get-2.ensures ∙ sym (get_name c.args.self.now.directories.entries c.args.directory (Some c.in_ok-get.field-0.now) (sym c.in_ok-get.ensures.value) c.args.name.now)
