use Rattle.std.proofs.Common.{sym, subst}
use Rattle.std.proofs.lemmas.Result.{on_ok_weaker}
use Rattle.sn_device.specs.Disk.{reads}
use Rattle.sn_block.specs.Lending.{device_of}
use Rattle.sn_layout_node.specs.declared.content.Content.{Content}
use Rattle.sn_ondisk.specs.Trees.{store_of}
use Rattle.sn_image.specs.Names.{names_of}
use Rattle.sn_census.specs.Counts.{Counts, HasRoom}
use Rattle.sn_census.proofs.CountLemmas.{counts_none}
use Rattle.sn_census.proofs.naming.count_content.Goals as goal

pub returns-in-Inline-clause-counted : goal.returns-in-Inline-clause-counted
returns-in-Inline-clause-counted g c told =
    let s = store_of (reads (g.D.Device.disk (device_of c.args.blocks.now))) in
    subst (λ (it : Content). Counts c.args.directory (names_of s it) c.args.census.now c.args.census.now) (sym c.in-Inline.is) (counts_none c.args.directory c.args.census.now)

pub count_tree-requires : goal.count_tree-requires
count_tree-requires g c =
    let s = store_of (reads (g.D.Device.disk (device_of c.args.blocks.now))) in
    record {
      readable = c.requires.readable;
      tree = λ told. c.requires.tree told _ c.in-Tree.is;
      room = λ told. subst (λ (it : Content). HasRoom s c.args.file.now (names_of s it) c.args.census.now) c.in-Tree.is (c.requires.room told);
    }

pub returns-in-Tree-clause-counted : goal.returns-in-Tree-clause-counted
returns-in-Tree-clause-counted g c told =
    let s = store_of (reads (g.D.Device.disk (device_of c.args.blocks.now))) in
    on_ok_weaker c.count_tree.result (λ counts. subst (λ (it : Content). Counts c.args.directory (names_of s it) c.args.census.now c.count_tree.new.census) (sym c.in-Tree.is) counts) (c.count_tree.ensures.counted told)
