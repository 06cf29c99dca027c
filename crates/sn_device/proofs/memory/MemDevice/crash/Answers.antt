use Rattle.std.proofs.Common.{◌≡◌, ◌∙◌, ◌<◌, ap, sym, subst, ℕ, length, reverse, replicate, Contains, IfSome}
use Rattle.sn_device.specs.Sectors.{Contents, AgreesOutside, sector_at}
use Rattle.sn_device.specs.Disk.{Disk}
use Rattle.sn_device.specs.Fill.{fill_byte, filling}
use Rattle.sn_device.specs.Undo.{crashed_by, unsynced_by}
use Rattle.sn_device.specs.declared.fill.Fill.{Fill}
use Rattle.sn_device.specs.declared.status.Status.{Status}
use Rattle.sn_device.proofs.FillLemmas.{crashed_by-others, crashed_by-old, crashed_by-new, crashed_by-byte, crashed_by-each}
use Rattle.sn_device.proofs.memory.MemDevice.crash.Goals as goal

pub returns-clause-left : goal.returns-clause-left
returns-clause-left c =
    let entries = reverse c.args.self.calls.items in
    let is : c.with_sectors-device.result.sectors.items ≡ crashed_by c.args.fill entries c.args.self.sectors.items =
    ap (λ (d : Disk). d.present.sectors) c.with_sectors-device.ensures.disk ∙ c.fill_unsynced.ensures.filled in
    record {
      others = subst (AgreesOutside (Contains (unsynced_by entries)) c.args.self.sectors.items) (sym is) (crashed_by-others c.args.fill entries c.args.self.sectors.items);
      whole = c.with_sectors-device.result.whole;
    }

pub returns-clause-status : goal.returns-clause-status
returns-clause-status c =
    let entries = reverse c.args.self.calls.items in
    let spent = c.args.self.status.is_spent in
    let count : length c.fill_unsynced.new.sectors.items ≡ c.args.self.status.sectors =
    ap length c.fill_unsynced.ensures.filled ∙ (crashed_by-others c.args.fill entries c.args.self.sectors.items).count ∙ c.args.self.count in
    let put_spent : Status → Status = λ s. record { sectors = s.sectors; failures = s.failures; writes = s.writes; syncs = s.syncs; is_spent = spent } in
    let of_count : ℕ → Status = λ n. record { sectors = n; failures = 0; writes = 0; syncs = 0; is_spent = spent } in
    ap put_spent c.with_sectors-device.ensures.status ∙ ap of_count count

pub returns-clause-old : goal.returns-clause-old
returns-clause-old c old =
    let entries = reverse c.args.self.calls.items in
    ap (λ (d : Disk). d.present.sectors) c.with_sectors-device.ensures.disk
    ∙ c.fill_unsynced.ensures.filled
    ∙ ap (λ (f : Fill). crashed_by f entries c.args.self.sectors.items) old
    ∙ crashed_by-old entries c.args.self.sectors.items

pub returns-clause-new : goal.returns-clause-new
returns-clause-new c new =
    let entries = reverse c.args.self.calls.items in
    ap (λ (d : Disk). d.present.sectors) c.with_sectors-device.ensures.disk
    ∙ c.fill_unsynced.ensures.filled
    ∙ ap (λ (f : Fill). crashed_by f entries c.args.self.sectors.items) new
    ∙ crashed_by-new entries c.args.self.sectors.items

pub returns-clause-filled : goal.returns-clause-filled
returns-clause-filled c =
    let entries = reverse c.args.self.calls.items in
    let sectors = c.args.self.sectors.items in
    let is : c.with_sectors-device.result.sectors.items ≡ crashed_by c.args.fill entries sectors =
    ap (λ (d : Disk). d.present.sectors) c.with_sectors-device.ensures.disk ∙ c.fill_unsynced.ensures.filled in
    let P : Contents → Type 0 = λ s. IfSome (fill_byte c.args.fill) (λ byte. (i : ℕ) → i < length sectors → Contains (unsynced_by entries) i → sector_at s i ≡ replicate 512 byte) in
    subst P (sym is) (crashed_by-byte c.args.fill entries sectors)

pub returns-clause-each : goal.returns-clause-each
returns-clause-each c i within among =
    let entries = reverse c.args.self.calls.items in
    let sectors = c.args.self.sectors.items in
    let is : c.with_sectors-device.result.sectors.items ≡ crashed_by c.args.fill entries sectors =
    ap (λ (d : Disk). d.present.sectors) c.with_sectors-device.ensures.disk ∙ c.fill_unsynced.ensures.filled in
    ap (λ (s : Contents). sector_at s i) is
    ∙ crashed_by-each c.args.fill entries sectors i within among
    ∙ ap (λ (s : Contents). filling c.args.fill i (sector_at s i) (sector_at sectors i)) (crashed_by-old entries sectors)
