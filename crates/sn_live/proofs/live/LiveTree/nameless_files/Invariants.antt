use Rattle.sn_number_table.specs.Nameless.{is_listed}
use Rattle.sn_live.proofs.ListedLemmas.{AreListed}
use Rattle.sn_live.proofs.live.LiveTree.nameless_files.Given as goal

-- those below the number
abbrev pub invariant-loop-number : goal.invariant-loop-number
invariant-loop-number l = AreListed (is_listed l.self.without_names) l.number l.files.items
