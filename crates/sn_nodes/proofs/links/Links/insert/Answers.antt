use Rattle.std.proofs.Common.{ℕ, List, Some, ap, sym, ◌∙◌, rules}
use Rattle.std.specs.BTreeMap.{BTreeMap}
use Rattle.std.specs.Cmp.{nat_cmp_total}
use Rattle.std.specs.FinMap as map
use Rattle.std.specs.Ordering.{nat_cmp}
use Rattle.std.proofs.lemmas.Result.{IfErr-weaker, IfOk-weaker}
use Rattle.sn_maps.specs.Maps.{seen_by}
use Rattle.sn_nodes.specs.Names.{Named, all_links}
use Rattle.sn_nodes.specs.Stored.{directories_of, links_of}
use Rattle.sn_maps.proofs.MapLemmas.{get-seen_plain}
use Rattle.sn_nodes.proofs.NamesLemmas.{keep_names, names_there, put_name}
use Rattle.sn_nodes.proofs.links.Links.insert.Goals as goal

pub insert_first-requires : goal.insert_first-requires
unfolding directories_of
insert_first-requires c =
    let directory = c.args.link.directory in
    ap (λ (m : BTreeMap ℕ Named). map.get (seen_by nat_cmp (λ (names : Named). names) m.entries) directory) c.get_mut.follows.holds-at-none
    ∙ get-seen_plain nat_cmp nat_cmp_total c.args.self.now.directories.entries directory ∙ sym c.in-None.ensures.value

pub returns-in-Some-clause-ok : goal.returns-in-Some-clause-ok
unfolding links_of directories_of
returns-in-Some-clause-ok c =
    let old = c.args.self.now.directories.entries in
    let link = c.args.link in
    let there = names_there old link.directory (Some c.in-Some.names.now) (sym c.in-Some.ensures.value) in
    IfOk-weaker c.insert.result _ _ (λ _ named. put_name old _ link.directory c.insert.new.self ((c.get_mut.follows.holds _).3 (search rules)).0 c.in-Some.names.now there link.name c.args.number (named ∙ ap (λ (name : List ℕ). map.insert c.in-Some.names.now name c.args.number) c.into_bytes.ensures)) c.insert.ensures.ok

pub returns-in-Some-clause-err : goal.returns-in-Some-clause-err
unfolding links_of directories_of
returns-in-Some-clause-err c =
    let old = c.args.self.now.directories.entries in
    IfErr-weaker c.insert.result _ _ (λ _ same. ap all_links (keep_names old _ c.args.link.directory c.insert.new.self ((c.get_mut.follows.holds _).3 (search rules)).0 c.in-Some.names.now (sym c.in-Some.ensures.value) same)) c.insert.ensures.err
