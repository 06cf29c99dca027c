use Rattle.std.proofs.Common.{◌≡◌, ◌+◌, ◌/◌, ◌≤◌, ℕ, List, [], IsTrue, refl, sym, ap, subst, ◌∙◌, arith, Err}
use Rattle.sn_device.specs.Disk.{Disk, reads}
use Rattle.sn_device.specs.declared.status.Status.{Status}
use Rattle.sn_block.specs.Lending.{device_of}
use Rattle.sn_ondisk.specs.Trees.{store_of}
use Rattle.sn_names.specs.Told.{IsSeen, IsUnwanted}
use Rattle.sn_dir_change.specs.Filter.{Covers}
use Rattle.sn_dir_change.specs.Through.{IsThrough}
use Rattle.sn_dir_change.proofs.FilterLemmas.{through_passed, covers_fewer}
use Rattle.sn_dir_change.proofs.ReadingLemmas.{damaged_here}
use Rattle.sn_dir_change.proofs.ThroughLemmas.{through_as}
use Rattle.sn_dir_change.proofs.through.pass_blocks.Goals as goal

pub loop-i-init : goal.loop-i-init
loop-i-init g c =
    let standing = c.args.pending.now.standing.items in
    let waiting = c.args.pending.now.waiting.items in
    let within : c.next_wanted-i.result ≤ c.args.tree.now.size / 4096 = c.next_wanted-i.ensures.end (omega arith) in
    let covers : Covers c.deref.result.now c.in_ok-filter.filter.least standing waiting =
    subst (λ (prints : List ℕ). Covers prints c.in_ok-filter.filter.least standing waiting) (sym c.deref.ensures.value) c.in_ok-filter.ensures in
    record {
      status = refl;
      same = λ told. refl;
      standing = c.requires.standing;
      waiting = c.requires.waiting;
      within = within;
      covers = c.in_ok-filter.ensures;
      through = λ changes bound begun.
          let s = store_of (reads (g.D.Device.disk (device_of c.args.blocks.now))) in
          let sectors = (g.D.Device.status (device_of c.args.blocks.now)).sectors in
          subst (λ (dirty : List _). IsThrough (IsTrue g.D.Device.tells_bytes) s c.args.tree.now changes bound c.next_wanted-i.result dirty standing waiting) (sym c.new-dirty.ensures.items)
          (through_passed (IsTrue g.D.Device.tells_bytes) sectors s c.args.tree.now changes bound [] standing waiting c.deref.result.now c.in_ok-filter.filter.least covers 0 c.next_wanted-i.result (omega arith) within
          (λ told. c.next_wanted-i.ensures.passed told) begun);
    }

pub loop-i-preserved : goal.loop-i-preserved
loop-i-preserved g c =
    let standing = c.pass_block.new.pending.standing.items in
    let waiting = c.pass_block.new.pending.waiting.items in
    let least = c.in_ok-filter.filter.least in
    let next = c.next_wanted-i-in-loop-i.result in
    let status = c.in_ok-pass_block.ensures.counts.done ∙ c.loop-i.invariant.status in
    let within : next ≤ c.args.tree.now.size / 4096 = c.next_wanted-i-in-loop-i.ensures.end (omega (arith, c.loop-i-test.true, c.block_count.ensures.value)) in
    let covers : Covers c.in_ok-filter.filter.prints.items least standing waiting =
    covers_fewer c.in_ok-filter.filter.prints.items least c.loop-i.pending.standing.items c.loop-i.pending.waiting.items standing waiting
    c.pass_block.ensures.stand_listed c.pass_block.ensures.listed c.loop-i.invariant.covers in
    let covers_lent : Covers c.deref-in-loop-i.result.now least standing waiting = subst (λ (prints : List ℕ). Covers prints least standing waiting) (sym c.deref-in-loop-i.ensures.value) covers in
    record {
      status = status;
      same = λ told. c.pass_block.ensures.same told ∙ c.loop-i.invariant.same told;
      standing = c.pass_block.ensures.standing;
      waiting = c.pass_block.ensures.waiting;
      within = within;
      covers = covers;
      through = λ changes bound begun.
          let Told = IsTrue g.D.Device.tells_bytes in
          let tree = c.args.tree.now in
          let s = store_of (reads (g.D.Device.disk (device_of c.args.blocks.now))) in
          let r = store_of (reads (g.D.Device.disk (device_of c.loop-i.blocks))) in
          let same : Told → r ≡ s = (λ told. ap (λ (d : Disk). store_of (reads d)) (c.loop-i.invariant.same told)) in
          let sectors = (g.D.Device.status (device_of c.args.blocks.now)).sectors in
          let now = (g.D.Device.status (device_of c.pass_block.new.blocks)).sectors in
          let here = through_as Told r s tree changes bound c.loop-i.i c.loop-i.dirty.items c.loop-i.pending.standing.items c.loop-i.pending.waiting.items (λ told. sym (same told)) (c.loop-i.invariant.through changes bound begun) in
          let passed = through_as Told s r tree changes bound (c.loop-i.i + 1) c.pass_block.new.dirty.items standing waiting same (c.in_ok-pass_block.ensures.through changes bound here) in
          through_passed Told sectors s tree changes bound c.pass_block.new.dirty.items standing waiting c.deref-in-loop-i.result.now least covers_lent (c.loop-i.i + 1) next c.next_wanted-i-in-loop-i.ensures.after within
          (λ told j low high.
          subst (λ (t : Status). IsSeen t.sectors s tree j (IsUnwanted c.deref-in-loop-i.result.now least)) status
          (subst (λ (d : Disk). IsSeen now (store_of (reads d)) tree j (IsUnwanted c.deref-in-loop-i.result.now least)) (c.pass_block.ensures.same told ∙ c.loop-i.invariant.same told)
          (c.next_wanted-i-in-loop-i.ensures.passed told j low high)))
          passed;
    }

pub returns-clause-through : goal.returns-clause-through
returns-clause-through g c = λ changes bound begun.
    let Told = IsTrue g.D.Device.tells_bytes in
    let s = store_of (reads (g.D.Device.disk (device_of c.args.blocks.now))) in
    let all : c.loop-i.i ≡ c.args.tree.now.size / 4096 = omega (arith, c.block_count.ensures.value, c.loop-i-test.false, c.loop-i.invariant.within) in
    subst (λ (n : ℕ). IsThrough Told s c.args.tree.now changes bound n c.loop-i.dirty.items c.loop-i.pending.standing.items c.loop-i.pending.waiting.items) all (c.loop-i.invariant.through changes bound begun)

pub returns-in_err-pass_block-clause-damaged : goal.returns-in_err-pass_block-clause-damaged
returns-in_err-pass_block-clause-damaged g c told block is =
    damaged_here _ _ c.from_residual-in_err-pass_block.ensures.1 is c.args.tree.now c.loop-i.i _ _ _ _ c.loop-i.invariant.status (c.loop-i.invariant.same told) (omega (arith, c.loop-i-test.true, c.block_count.ensures.value))
    (λ at fault. c.in_err-pass_block.ensures.damaged told at (ap (λ f. Err f) fault))
