use Rattle.std.proofs.Common.{rules, ◌≡◌, ◌+◌, ◌/◌, min, ℕ, Bool, cond, subst, refl, sym, ap, ◌∙◌, arith}
use Rattle.sn_device.specs.Disk.{reads}
use Rattle.sn_block.specs.Lending.{device_of}
use Rattle.sn_rooted.specs.Roots.{store_on, tree_on}
use Rattle.sn_rooted_tree.proofs.NamelessLemmas.{all_below, counted_on, nameless_below, none_below}
use Rattle.sn_rooted_tree.proofs.SeenLemmas.{numbered, root_tree}
use Rattle.sn_rooted_tree.proofs.nameless.nameless_of.Goals as goal
use Rattle.sn_rooted_tree.proofs.nameless.nameless_of.Goals.{then-branch, else-branch}

pub loop-number-init : goal.loop-number-init
loop-number-init g c = record { counted = λ told root. sym (none_below _); few = omega arith; same = λ told. refl; status = refl }

pub loop-number-preserved : goal.loop-number-preserved
loop-number-preserved g c = record {
  counted = λ told root.
      subst (λ (n : ℕ). n ≡ nameless_below (tree_on c.args.blocks.now c.args.file.now) (c.loop-number.number + 1)) counted_so
      (counted_on g.D.Device.tells_bytes _ _ _ _ c.args.limits.now c.args.file.now c.loop-number.number c.loop-number.count c.in_ok-is_nameless.field-0
      c.loop-number.invariant.status c.loop-number.invariant.same told root (c.in_ok-is_nameless.ensures.nameless told) (c.loop-number.invariant.counted told root));
  few = elim c.if-branch.branch [ then-branch w ↦ omega (arith, w.count-is, c.loop-number.invariant.few) | else-branch w ↦ omega (arith, w.count-is, c.loop-number.invariant.few) ];
  same = search rules;
  status = search rules;
}
  where
    counted_so : c.loop-number.count + cond c.in_ok-is_nameless.field-0 1 0 ≡ c.if-branch.count
    counted_so = elim c.if-branch.branch [
      | then-branch w ↦ ap {B = ℕ} (λ (b : Bool). c.loop-number.count + cond b 1 0) w.if-branch.true ∙ sym w.count-is
      | else-branch w ↦ (let none : cond c.in_ok-is_nameless.field-0 1 0 ≡ 0 = ap {B = ℕ} (λ (b : Bool). cond b 1 0) w.if-branch.false in omega (arith, none, w.count-is))
    ]

pub returns-clause-count : goal.returns-clause-count
returns-clause-count g c told root =
    let disk = g.D.Device.disk (device_of c.args.blocks.now) in
    let tree = tree_on c.args.blocks.now c.args.file.now in
    let whole = root_tree c.args.limits.now _ (reads disk) c.args.file.now (g.met.D.Device.whole (device_of c.args.blocks.now) told) (g.met.D.Device.count (device_of c.args.blocks.now) told) root in
    let end : c.loop-number.number ≡ min (c.args.file.now.size / 128) 65536 = omega (arith, c.record_count-number-end.ensures) in
    c.loop-number.invariant.counted told root
    ∙ all_below tree c.loop-number.number (numbered (store_on c.args.blocks.now) c.args.file.now c.loop-number.number end whole)
