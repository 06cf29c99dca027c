use Rattle.std.proofs.Common.{◌≡◌, drop}
use Rattle.std.specs.Prelude.{◌*◌, ◌||◌, ◌==◌, nat_lt}
use Rattle.std.specs.List.{list_all, enumerate_from}
use Rattle.sn_layout.specs.BlockTree.{ends_at_size}
use Rattle.sn_layout.proofs.tree.BlockTree.ends_at_size.Given as goal

abbrev pub invariant-loop-i : goal.invariant-loop-i
invariant-loop-i l = ends_at_size l.self ≡ list_all (λ p. (p.1 == 0) || nat_lt (p.0 * l.span) l.size) (enumerate_from l.i (drop l.i l.pointers))
