use Rattle.std.proofs.Common.{ℕ, List, ap, ◌∙◌}
use Rattle.std.specs.Ordering.{nat_cmp}
use Rattle.sn_maps.specs.Maps.{seen_by}
use Rattle.sn_nodes.specs.Names.{Named, all_links}
use Rattle.sn_nodes.specs.Stored.{directories_of, links_of}
use Rattle.sn_nodes.proofs.NamesLemmas.{all_links-empty}
use Rattle.sn_nodes.proofs.links.Links.new.Goals as goal

pub returns : goal.returns
unfolding links_of directories_of
returns c = ap (λ (es : List (ℕ × Named)). all_links (seen_by nat_cmp (λ (names : Named). names) es)) c.new.ensures.empty ∙ all_links-empty
