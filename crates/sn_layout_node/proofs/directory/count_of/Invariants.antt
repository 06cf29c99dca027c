use Rattle.std.proofs.Common.{◌≡◌, ◌+◌, ◌≤◌, length}
use Rattle.sn_layout_node.specs.Directory.{AreLinkBytes, links_of}
use Rattle.sn_layout_node.proofs.directory.count_of.Given as goal

abbrev pub invariant-loop-reader : goal.invariant-loop-reader
invariant-loop-reader l = record {
  links : AreLinkBytes l.reader;
  counted : length (links_of l.links) ≡ l.count + length (links_of l.reader);
  few : l.count + length l.reader ≤ length l.links;
}

abbrev pub decreases-loop-reader : goal.decreases-loop-reader
decreases-loop-reader l = length l.reader
