use Rattle.std.proofs.Common.{◌++◌, List, map, sym, ap, ◌∙◌, append-nil}
use Rattle.sn_layout_node.specs.Directory.{Link}
use Rattle.sn_layout_node.specs.DirectoryEntry.{links_left}
use Rattle.sn_dir.specs.Listed.{link_of}
use Rattle.sn_dir.proofs.ListedLemmas.{listed_more}
use Rattle.sn_dir.proofs.listings.push_entries.Goals as goal

pub loop-entry-preserved : goal.loop-entry-preserved
loop-entry-preserved c =
    listed_more c.loop-entry.names.items c.push.new.self.items c.in-Some.entry.number c.in-Some.entry.name.now c.in_ok-name.name
    (links_left c.loop-entry.entry-iterator) (links_left c.next.new.self) c.in_ok-name.ensures c.in_ok-push.ensures.items c.in-Some.ensures.steps
    ∙ c.loop-entry.invariant

pub returns : goal.returns
returns c =
    sym (append-nil (map link_of c.loop-entry.names.items))
    ∙ ap (λ (links : List Link). map link_of c.loop-entry.names.items ++ links) (sym c.in-None.ensures.steps.0)
    ∙ c.loop-entry.invariant
    ∙ ap (λ (links : List Link). map link_of c.args.names.now.items ++ links) (c.into_iter-entry-iterator.ensures.into_iter_gives ∙ c.entries-entry-items.ensures.entries)
