use Rattle.std.proofs.Common.{◌≡◌, ◌-◌, List, length}
use Rattle.sn_layout_node.specs.Directory.{Link, AreLinks, links_bytes, directory_bytes}
use Rattle.sn_layout_node.proofs.Links.{AreRead, AreLeft}
use Rattle.sn_layout_node.proofs.directory.links_end.Given as goal

abbrev pub invariant-loop-reader : goal.invariant-loop-reader
invariant-loop-reader l = record {
  read : AreRead l.bytes l.reader;
  only : (links : List Link) → AreLinks links → l.bytes ≡ directory_bytes links → AreLeft l.reader (4096 - length (links_bytes links));
}

abbrev pub decreases-loop-reader : goal.decreases-loop-reader
decreases-loop-reader l = length l.reader
