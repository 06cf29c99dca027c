use Rattle.std.proofs.Common.{Some, ap, sym, ◌∙◌, rules}
use Rattle.std.specs.Cmp.{nat_cmp_total}
use Rattle.std.specs.Ordering.{nat_cmp}
use Rattle.std.proofs.lemmas.Map.Lookups.{exact_unsigned}
use Rattle.sn_nodes.specs.Names.{Named, all_links}
use Rattle.sn_nodes.specs.Stored.{directories_of, links_of}
use Rattle.sn_maps.proofs.MapLemmas.{remove-seen_by}
use Rattle.sn_nodes.proofs.NamesLemmas.{all_links-forget, names_there}
use Rattle.sn_nodes.proofs.links.Links.forget.Goals as goal

pub returns-then-is_empty : goal.returns-then-is_empty
unfolding links_of directories_of
returns-then-is_empty c =
    let old = c.args.self.now.directories.entries in
    let new = c.remove.new.self.entries in
    let none = names_there old c.args.directory (Some c.in-Some.names.now) (sym c.in-Some.ensures.value) ∙ c.is_empty.ensures.0 (search rules) in
    ap all_links (remove-seen_by nat_cmp (λ (names : Named). names) nat_cmp_total exact_unsigned old new c.args.directory c.remove.ensures.updates.0) ∙ all_links-forget _ c.args.directory none
