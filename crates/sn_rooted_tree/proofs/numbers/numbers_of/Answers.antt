use Rattle.std.proofs.Common.{◌≡◌, ◌+◌, ◌-◌, ◌/◌, ◌^◌, ◌<◌, ◌≤◌, min, ℕ, Bool, true, false, if◌then◌else◌, refl, ◌∙◌, arith}
use Rattle.sn_device.specs.Disk.{reads}
use Rattle.sn_block.specs.Lending.{device_of}
use Rattle.sn_rooted.specs.Roots.{store_on, tree_on}
use Rattle.sn_rooted_tree.proofs.NamelessLemmas.{all_below}
use Rattle.sn_rooted_tree.proofs.NumberingLemmas.{all_listed, all_taken, none_noted, noted_on}
use Rattle.sn_rooted_tree.proofs.SeenLemmas.{numbered, root_tree}
use Rattle.sn_rooted_tree.specs.Numbering.{lacks_name}
use Rattle.sn_rooted_tree.proofs.numbers.numbers_of.Goals as goal

pub loop-number-init : goal.loop-number-init
loop-number-init g c =
    let none = c.in_ok-numbers.ensures in
    record { noted = λ told root. none_noted _ _ none; few = omega (arith, none.counted); keeps = none.keeps; same = λ told. refl; status = refl }

one_at_most : (b : Bool) (old new k : ℕ) → old ≤ k → k < 65536 → new ≡ (if b then min (old + 1) (2 ^ 32 - 1) else old) → new ≤ k + 1
one_at_most true old new k few within is = omega (arith, few, is)
one_at_most false old new k few within is = omega (arith, few, is)

pub loop-number-preserved : goal.loop-number-preserved
loop-number-preserved g c =
    let at = c.loop-number.invariant in
    let found = c.in_ok-found.found in
    let counted = c.note_use.ensures.notes.counted in
    record {
      noted = λ told root.
          noted_on g.D.Device.tells_bytes _ _ _ _ c.args.limits.now c.args.file.now c.loop-number.number found _ _
          at.status at.same told root (c.in_ok-found.ensures.found told) at.few (omega arith) c.note_use.ensures.notes (at.noted told root);
      few = one_at_most (lacks_name found) _ _ c.loop-number.number at.few (omega arith) counted;
      keeps = c.note_use.ensures.kept at.keeps;
      same = λ told. c.number_use.ensures.same told ∙ at.same told;
      status = c.in_ok-found.ensures.counts.done ∙ at.status;
    }

pub returns-clause-numbers : goal.returns-clause-numbers
returns-clause-numbers g c told root =
    let disk = g.D.Device.disk (device_of c.args.blocks.now) in
    let tree = tree_on c.args.blocks.now c.args.file.now in
    let whole = root_tree c.args.limits.now _ (reads disk) c.args.file.now (g.met.D.Device.whole (device_of c.args.blocks.now) told) (g.met.D.Device.count (device_of c.args.blocks.now) told) root in
    let end : c.loop-number.number ≡ min (c.args.file.now.size / 128) 65536 = omega (arith, c.record_count-number-end.ensures) in
    all_taken tree c.loop-number.number (numbered (store_on c.args.blocks.now) c.args.file.now c.loop-number.number end whole) c.loop-number.numbers (c.loop-number.invariant.noted told root)

pub returns-clause-nameless : goal.returns-clause-nameless
returns-clause-nameless g c told root =
    let disk = g.D.Device.disk (device_of c.args.blocks.now) in
    let tree = tree_on c.args.blocks.now c.args.file.now in
    let whole = root_tree c.args.limits.now _ (reads disk) c.args.file.now (g.met.D.Device.whole (device_of c.args.blocks.now) told) (g.met.D.Device.count (device_of c.args.blocks.now) told) root in
    let end : c.loop-number.number ≡ min (c.args.file.now.size / 128) 65536 = omega (arith, c.record_count-number-end.ensures) in
    all_listed tree c.loop-number.number (numbered (store_on c.args.blocks.now) c.args.file.now c.loop-number.number end whole) c.loop-number.numbers (c.loop-number.invariant.noted told root)

pub returns-clause-count : goal.returns-clause-count
returns-clause-count g c told root =
    let disk = g.D.Device.disk (device_of c.args.blocks.now) in
    let tree = tree_on c.args.blocks.now c.args.file.now in
    let whole = root_tree c.args.limits.now _ (reads disk) c.args.file.now (g.met.D.Device.whole (device_of c.args.blocks.now) told) (g.met.D.Device.count (device_of c.args.blocks.now) told) root in
    let end : c.loop-number.number ≡ min (c.args.file.now.size / 128) 65536 = omega (arith, c.record_count-number-end.ensures) in
    (c.loop-number.invariant.noted told root).counted
    ∙ all_below tree c.loop-number.number (numbered (store_on c.args.blocks.now) c.args.file.now c.loop-number.number end whole)
