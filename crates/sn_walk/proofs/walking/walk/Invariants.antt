use Rattle.std.proofs.Common.{◌≡◌, ◌+◌, ◌≤◌, IsTrue, List, ◌++◌, length}
use Rattle.sn_walk.specs.LookUps.{LookUp, looks_from, looks_of_walk}
use Rattle.sn_walk.specs.Walks.{walk_of, walk_from}
use Rattle.sn_walk.proofs.walking.walk.Given as goal

-- the rest of the walk is the walk, and the look-ups so far with those of the rest are its look-ups
abbrev pub invariant-loop-next : goal.invariant-loop-next
invariant-loop-next g l = record {
  kept : g.T.TreeView.holds l.view;
  follows : g.T.TreeView.follows l.fn.view l.view;
  same : IsTrue g.T.TreeView.is_told → g.T.TreeView.shows l.view ≡ g.T.TreeView.shows l.fn.view;
  rest : IsTrue g.T.TreeView.is_told → walk_from (g.T.TreeView.shows l.fn.view) l.cred l.place l.directory l.name l.rest ≡ walk_of (g.T.TreeView.shows l.fn.view) l.cred l.path;
  looked_up : IsTrue g.T.TreeView.is_told → (before : List LookUp) × (looks_of_walk (g.T.TreeView.shows l.fn.view) l.cred l.path ≡ before ++ looks_from (g.T.TreeView.shows l.fn.view) l.cred l.place l.directory l.name l.rest) × g.T.TreeView.looked_up before l.fn.view l.view;
  short : l.place + length l.rest ≤ 1023;
}

abbrev pub decreases-loop-next : goal.decreases-loop-next
decreases-loop-next g l = length l.rest
