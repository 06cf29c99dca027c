use Rattle.std.proofs.Common.{◌≡◌, ◌-◌, ◌≤◌, ◌++◌, length, take, drop}
use Rattle.sn_layout_node.specs.Directory.{AreLinkBytes, links_bytes, links_of, number_of, without}
use Rattle.sn_layout_node.proofs.directory.span_of.Given as goal

abbrev pub invariant-loop-name : goal.invariant-loop-name
invariant-loop-name l = record {
  links : AreLinkBytes l.reader;
  within : length l.reader ≤ length l.links;
  left : drop (length l.links - length l.reader) l.links ≡ l.reader;
  number : number_of l.name (links_of l.links) ≡ number_of l.name (links_of l.reader);
  others : links_bytes (without l.name (links_of l.links)) ≡ take (length l.links - length l.reader) l.links ++ links_bytes (without l.name (links_of l.reader));
}

abbrev pub decreases-loop-name : goal.decreases-loop-name
decreases-loop-name l = length l.reader
