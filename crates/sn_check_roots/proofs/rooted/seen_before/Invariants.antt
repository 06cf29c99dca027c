use Rattle.sn_sound.specs.Maps.{rooted_in}
use Rattle.sn_check_roots.specs.Seen.{NoneHasFileOf}
use Rattle.sn_check_roots.proofs.rooted.seen_before.Given as goal

abbrev pub invariant-loop-j : goal.invariant-loop-j
invariant-loop-j l = NoneHasFileOf (rooted_in l.root) l.i l.j
