use Rattle.std.proofs.Common.{ℕ, List, None, Some, ap, sym, ◌∙◌, rules}
use Rattle.std.specs.BTreeMap.{BTreeMap}
use Rattle.std.specs.FinMap as map
use Rattle.std.specs.Ordering.{nat_cmp}
use Rattle.std.specs.Cmp.Lexicographic.{slice_cmp}
use Rattle.sn_model.specs.Tree.{link_to}
use Rattle.sn_model.proofs.LinkLemmas.{exact_links, links_total}
use Rattle.sn_maps.specs.Maps.{seen_by}
use Rattle.sn_nodes.specs.Names.{Named, all_links}
use Rattle.sn_nodes.specs.Stored.{directories_of, links_of}
use Rattle.sn_maps.proofs.MapLemmas.{remove-absent}
use Rattle.sn_nodes.proofs.NamesLemmas.{get_name, names_there, take_name}
use Rattle.sn_nodes.proofs.links.Links.take.Goals as goal

pub returns-in-Some : goal.returns-in-Some
unfolding links_of directories_of
returns-in-Some c =
    let old = c.args.self.now.directories.entries in
    let directory = c.args.link.now.directory in
    take_name old _ directory c.remove.new.self ((c.get_mut.follows.holds _).3 (search rules)).0 c.in-Some.names.now (names_there old directory (Some c.in-Some.names.now) (sym c.in-Some.ensures.value)) c.as_bytes.result.now c.remove.ensures
    ∙ ap (λ (name : List ℕ). map.remove (links_of c.args.self.now) (link_to directory name)) c.as_bytes.ensures

pub returns-in_default : goal.returns-in_default
unfolding links_of directories_of
returns-in_default c =
    let none = get_name c.args.self.now.directories.entries c.args.link.now.directory None (sym c.in_default.ensures.value) c.args.link.now.name ∙ map.get-empty (slice_cmp nat_cmp) c.args.link.now.name in
    ap (λ (m : BTreeMap ℕ Named). all_links (seen_by nat_cmp (λ (names : Named). names) m.entries)) c.get_mut.follows.holds-at-none
    ∙ sym (remove-absent links_total exact_links (links_of c.args.self.now) c.args.link.now none)
