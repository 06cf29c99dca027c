use Rattle.sn_rooted_tree.proofs.CountLemmas.{IsNoting}
use Rattle.sn_rooted_tree.proofs.loading.note_names.Given as goal

-- those so far are noted
abbrev pub invariant-loop-listed : goal.invariant-loop-listed
invariant-loop-listed l = IsNoting l.directory l.names l.listed-index l.fn.directories l.directories
