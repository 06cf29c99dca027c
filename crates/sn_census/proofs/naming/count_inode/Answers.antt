use Rattle.std.proofs.Common.{sym, subst}
use Rattle.std.proofs.lemmas.Result.{on_ok_weaker}
use Rattle.sn_device.specs.Disk.{reads}
use Rattle.sn_block.specs.Lending.{device_of}
use Rattle.sn_limits.specs.declared.kind.Kind.{Kind}
use Rattle.sn_ondisk.specs.Trees.{store_of}
use Rattle.sn_image.specs.Names.{names_by}
use Rattle.sn_census.specs.Counts.{Counts, HasRoom}
use Rattle.sn_census.proofs.CountLemmas.{counts_none}
use Rattle.sn_census.proofs.naming.count_inode.Goals as goal

pub returns-in-File-clause-counted : goal.returns-in-File-clause-counted
returns-in-File-clause-counted g c told =
    let s = store_of (reads (g.D.Device.disk (device_of c.args.blocks.now))) in
    subst (λ (k : Kind). Counts c.args.number (names_by s k c.args.inode.now.content) c.args.census.now c.args.census.now) (sym c.in-File.is) (counts_none c.args.number c.args.census.now)

pub count_content-requires : goal.count_content-requires
count_content-requires g c =
    let s = store_of (reads (g.D.Device.disk (device_of c.args.blocks.now))) in
    record {
      readable = c.requires.readable;
      tree = λ told tree is. record { inode = c.args.inode.now; is = c.requires.inode told; kind = c.in-Directory.is; content = is };
      room = λ told. subst (λ (k : Kind). HasRoom s c.args.file.now (names_by s k c.args.inode.now.content) c.args.census.now) c.in-Directory.is (c.requires.room told);
    }

pub returns-in-Directory-clause-counted : goal.returns-in-Directory-clause-counted
returns-in-Directory-clause-counted g c told =
    let s = store_of (reads (g.D.Device.disk (device_of c.args.blocks.now))) in
    on_ok_weaker c.count_content.result (λ counts. subst (λ (k : Kind). Counts c.args.number (names_by s k c.args.inode.now.content) c.args.census.now c.count_content.new.census) (sym c.in-Directory.is) counts) (c.count_content.ensures.counted told)
