use Rattle.std.proofs.Common.{◌≡◌, ℕ, suc, ◌+◌, ◌<◌, length, drop, get_or, refl, sym, ap, subst, arith}
use Rattle.sn_tree.specs.declared.new_block.DirtyBlock.{DirtyBlock}
use Rattle.sn_tree.proofs.OrderLemmas.{AreLeft, left_all, left_none, left_next}
use Rattle.sn_tree.proofs.tree.Dirty.is_in_order.Goals as goal

pub loop-k-init : goal.loop-k-init
loop-k-init c = left_all c.args.self.now.size c.args.self.now.blocks.items

pub loop-k-preserved : goal.loop-k-preserved
loop-k-preserved c =
    let size = c.args.self.now.size in
    let items = c.args.self.now.blocks.items in
    let k = c.loop-k.k in
    let d = c.index.result.now in
    let within : k < length items = omega (arith, c.loop-k-test.true, c.len-k-end.ensures, c.args.self.now.blocks.ok) in
    let step = left_next size c.loop-k.least k items d within in
    let is : (get_or items k d).index ≡ d.index = ap (λ (x : DirtyBlock). x.index) (sym c.index.ensures) in
    let next : suc k ≡ k + 1 = omega arith in (
      λ all.
          let more = step.0 (c.loop-k.invariant.0 all) in
          subst (λ (n : ℕ). AreLeft size (d.index + 1) (drop n items)) next (subst (λ (n : ℕ). AreLeft size (n + 1) (drop (suc k) items)) is more.2),
      λ left. c.loop-k.invariant.1 (step.1 (
        omega (arith, is, c.if-index-least.false),
        omega (arith, is, c.if-index-end.false, c.div_ceil-end.ensures),
        subst (λ (n : ℕ). AreLeft size (n + 1) (drop (suc k) items)) (sym is) (subst (λ (n : ℕ). AreLeft size (d.index + 1) (drop n items)) (sym next) left),
      )),
    )

pub returns : goal.returns
returns c = (
  λ _. c.loop-k.invariant.1 (left_none c.args.self.now.size c.loop-k.least c.loop-k.k c.args.self.now.blocks.items (omega (arith, c.loop-k-test.false, c.len-k-end.ensures, c.args.self.now.blocks.ok))),
  λ _. refl,
)
