use Rattle.std.proofs.Common.{ℕ, List, ap, ◌∙◌}
use Rattle.std.specs.FinMap as map
use Rattle.std.specs.Ordering.{nat_cmp}
use Rattle.std.proofs.lemmas.Result.{err_from_is_err_and}
use Rattle.sn_maps.specs.Maps.{seen_by}
use Rattle.sn_nodes.specs.Names.{Named, all_links, names_at}
use Rattle.sn_nodes.specs.Stored.{directories_of, links_of}
use Rattle.sn_nodes.proofs.NamesLemmas.{put_name}
use Rattle.sn_nodes.proofs.links.Links.insert_first.Goals as goal

pub returns-in_err-insert-2-clause-err : goal.returns-in_err-insert-2-clause-err
unfolding links_of directories_of
returns-in_err-insert-2-clause-err c =
    let p = err_from_is_err_and c.from_residual-in_err-insert-2.result c.from_residual-in_err-insert-2.ensures.1 in
    rw (p.1) (ap (λ (es : List (ℕ × Named)). all_links (seen_by nat_cmp (λ (names : Named). names) es)) c.in_err-insert-2.ensures.err)

pub returns-clause-ok : goal.returns-clause-ok
unfolding links_of directories_of
returns-clause-ok c =
    let first = c.in_ok-insert.ensures.ok ∙ ap (λ (m : Named). map.insert m c.into_bytes.result.items c.args.number) c.new-names.ensures ∙ ap (λ (name : List ℕ). map.insert map.empty name c.args.number) c.into_bytes.ensures in
    put_name c.args.self.now.directories.entries c.insert-2.new.self.entries c.args.directory c.insert.new.self c.in_ok-insert-2.ensures.updates.0 map.empty (ap names_at c.requires) c.args.name c.args.number first
