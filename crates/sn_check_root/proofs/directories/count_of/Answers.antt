use Rattle.std.proofs.Common.{List, length, refl, sym, ap, subst, ◌∙◌, arith}
use Rattle.sn_layout_node.specs.Directory.{Link, IsDirectoryBlock}
use Rattle.sn_dir.proofs.BlockLemmas.{names_read, few_names}
use Rattle.sn_marks.specs.Fault.{Tells}
use Rattle.sn_marks.specs.declared.fault.CheckFault.{CheckFault}
use Rattle.sn_check_root.specs.Rules.{Breaks, breaks}
use Rattle.sn_check_root.proofs.directories.count_of.Goals as goal

pub returns-in-Some-clause-count : goal.returns-in-Some-clause-count
returns-in-Some-clause-count c = c.len.ensures ∙ ap (λ (links : List Link). length links) (names_read c.args.block.now c.args.block.now c.in-Some.names refl c.in-Some.ensures.found)

pub returns-in-Some-clause-few : goal.returns-in-Some-clause-few
returns-in-Some-clause-few c = omega (arith, c.len.ensures, few_names c.in-Some.names, c.in-Some.ensures.found.fit.room)

pub returns-in-Some-clause-spelled : goal.returns-in-Some-clause-spelled
returns-in-Some-clause-spelled c = (c.in-Some.names, c.in-Some.ensures.found)

pub returns-in-None-clause-fault : goal.returns-in-None-clause-fault
returns-in-None-clause-fault c =
    subst (λ (f : CheckFault). Tells f (Breaks (IsDirectoryBlock c.args.block.now) c.args.pointer)) (sym c.misspelt.ensures)
    (breaks (λ spelled. let (links, spells) = spelled in cc (c.in-None.ensures.only links spells)))
