use Rattle.std.proofs.Common.{◌-◌, List, length}
use Rattle.sn_layout_node.specs.Directory.{Link, Spells, links_bytes}
use Rattle.sn_layout_node.proofs.Links.{AreLeft}
use Rattle.sn_layout_node.proofs.directory.links_size.Given as goal

abbrev pub invariant-loop-reader : goal.invariant-loop-reader
invariant-loop-reader l = (links : List Link) → Spells l.block links → AreLeft l.reader (4096 - length (links_bytes links))

abbrev pub decreases-loop-reader : goal.decreases-loop-reader
decreases-loop-reader l = length l.reader
