use Rattle.std.proofs.Common.{◌<◌, List, true, false, length, inr, subst, ◌∙◌, arith}
use Rattle.std.proofs.lemmas.List.{length-set, length-replicate}
use Rattle.sn_layout_node.specs.Directory.{Link}
use Rattle.sn_layout_node.specs.DirectoryEntry.{links_left}
use Rattle.sn_dir_change.specs.NameMarks.{AreMarked}
use Rattle.sn_dir_change.proofs.MarkLemmas.{all_marked, one_marked}
use Rattle.sn_dir_change.proofs.name_marks.NameMarks.of.Goals as goal

pub loop-entry-init : goal.loop-entry-init
loop-entry-init c = record { count = length-replicate 4096 false; marked = λ link there. inr there }

pub loop-entry-preserved : goal.loop-entry-preserved
loop-entry-preserved c =
    let marks = c.loop-entry.marks in
    let within : c.hash.result < length marks = omega (arith, c.hash.ensures.within, c.loop-entry.invariant.count) in
    record {
      count = length-set marks c.hash.result true ∙ c.loop-entry.invariant.count;
      marked = one_marked marks c.hash.result _ (links_left c.loop-entry.entry-iterator) (links_left c.next.new.self) _ within c.hash.ensures.value c.in-Some.ensures.steps c.loop-entry.invariant.marked;
    }

pub returns : goal.returns
returns c =
    let all = all_marked c.loop-entry.marks _ (links_left c.loop-entry.entry-iterator) c.in-None.ensures.steps.0 c.loop-entry.invariant.marked in
    subst (λ (links : List Link). AreMarked c.loop-entry.marks links) (c.into_iter-entry-iterator.ensures.into_iter_gives ∙ c.entries-entry-items.ensures.entries) all
