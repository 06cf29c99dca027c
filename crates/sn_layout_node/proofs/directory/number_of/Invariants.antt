use Rattle.std.proofs.Common.{◌≡◌, length}
use Rattle.sn_layout_node.specs.Directory.{AreLinkBytes, links_of, number_of}
use Rattle.sn_layout_node.proofs.directory.number_of.Given as goal

abbrev pub invariant-loop-name : goal.invariant-loop-name
invariant-loop-name l = record {
  links : AreLinkBytes l.reader;
  same : number_of l.name (links_of l.links) ≡ number_of l.name (links_of l.reader);
}

abbrev pub decreases-loop-name : goal.decreases-loop-name
decreases-loop-name l = length l.reader
