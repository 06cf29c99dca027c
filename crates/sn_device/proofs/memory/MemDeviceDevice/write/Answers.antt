use Rattle.std.proofs.Common.{◌≡◌, ◌∷◌, ◌++◌, [], rules, inl}
use Rattle.sn_device.specs.declared.memory.Entry.TheVariants.{Write}
use Rattle.sn_device.proofs.MemoryLemmas.{disk_by-written}
use Rattle.sn_device.proofs.memory.MemDeviceDevice.write.Goals as goal

pub returns-then-fails-clause-tried : goal.returns-then-fails-clause-tried
returns-then-fails-clause-tried c lives =
    let noted : c.push.new.self.items ≡ c.args.self.now.calls.items ++ Write c.args.at c.index-before.result.now ∷ [] = search rules in
    disk_by-written c.args.self.now.calls.items c.push.new.self.items c.args.self.now.sectors.items c.args.at c.args.sector.now c.index-before.result.now noted c.index-before.ensures

pub returns-then-fails-clause-disk : goal.returns-then-fails-clause-disk
returns-then-fails-clause-disk c =
    let noted : c.push.new.self.items ≡ c.args.self.now.calls.items ++ Write c.args.at c.index-before.result.now ∷ [] = search rules in
    record {
      done = tt;
      failed = inl (
        c.args.sector.now,
        record { size = c.told-sector; bytes_fit = c.fits-sector },
        disk_by-written c.args.self.now.calls.items c.push.new.self.items c.args.self.now.sectors.items c.args.at c.args.sector.now c.index-before.result.now noted c.index-before.ensures,
      );
    }

pub returns-clause-tried : goal.returns-clause-tried
returns-clause-tried c lives =
    let noted : c.push.new.self.items ≡ c.args.self.now.calls.items ++ Write c.args.at c.index-before.result.now ∷ [] = search rules in
    disk_by-written c.args.self.now.calls.items c.push.new.self.items c.args.self.now.sectors.items c.args.at c.args.sector.now c.index-before.result.now noted c.index-before.ensures

pub returns-clause-disk : goal.returns-clause-disk
returns-clause-disk c =
    let noted : c.push.new.self.items ≡ c.args.self.now.calls.items ++ Write c.args.at c.index-before.result.now ∷ [] = search rules in
    record {
      done = disk_by-written c.args.self.now.calls.items c.push.new.self.items c.args.self.now.sectors.items c.args.at c.args.sector.now c.index-before.result.now noted c.index-before.ensures;
      failed = tt;
    }
