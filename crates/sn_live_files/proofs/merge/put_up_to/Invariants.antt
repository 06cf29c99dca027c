use Rattle.std.proofs.Common.{◌≡◌, ◌++◌, ℕ, List, Option, length}
use Rattle.sn_model.specs.declared.link.Link.{Link}
use Rattle.sn_model.specs.Tree.{link_cmp}
use Rattle.sn_live_files.specs.Listing.{one_merged}
use Rattle.sn_live_files.proofs.merge.put_up_to.Given as goal

abbrev pub invariant-loop-first : goal.invariant-loop-first
invariant-loop-first l = (number : ℕ) (on : List (Link × Option ℕ) → List (Link × ℕ)) → l.fn.names.items ++ one_merged link_cmp (l.name, number) on l.changed ≡ l.names.items ++ one_merged link_cmp (l.name, number) on l.rest

abbrev pub decreases-loop-first : goal.decreases-loop-first
decreases-loop-first l = length l.rest
