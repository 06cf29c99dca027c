use Rattle.std.proofs.Common.{not, filter, sym, ap, ◌∙◌, rules}
use Rattle.std.proofs.lemmas.Fn.{filter_same}
use Rattle.sn_node_table.specs.Nodes.{is_link}
use Rattle.sn_node_table.specs.Stored.{links_in}
use Rattle.sn_node_table.specs.declared.links.Links.{Links}
use Rattle.sn_node_table.proofs.links.Links.remove.Goals as goal

pub returns-in-Many : goal.returns-in-Many
returns-in-Many c =
    filter_same _ (λ link. not (is_link c.args.parent c.args.name.now link)) _ (λ x b f called. search rules) _ _ c.retain.ensures.filtered
    ∙ ap (λ (l : Links). filter (λ link. not (is_link c.args.parent c.args.name.now link)) (links_in l)) (sym c.in-Many.is ∙ c.replace.ensures.value)
