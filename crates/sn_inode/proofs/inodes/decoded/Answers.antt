use Rattle.std.proofs.Common.{◌≡◌, ℕ, ◌+◌, ◌-◌, ◌*◌, take, drop, Some, refl, sym, ap, ◌∙◌, arith}
use Rattle.sn_layout_node.specs.declared.inode.Inode.{Inode}
use Rattle.sn_inode.proofs.RecordLemmas.{used_is, unused_is}
use Rattle.sn_inode.proofs.inodes.decoded.Goals as goal

pub returns-in-Some-Used-clause-inode : goal.returns-in-Some-Used-clause-inode
returns-in-Some-Used-clause-inode c =
    let size : (128 * c.args.index + 128) - 128 * c.args.index ≡ 128 = omega arith in
    let part = ap (λ (n : ℕ). take n (drop (128 * c.args.index) c.args.block.now)) size in
    ap (λ (inode : Inode). Some inode) c.in-Some-Used.inode-is
    ∙ used_is c.args.limits.now _ c.in-Some-Used.field-0 c.in-Some-Used.ensures.found.0 (sym part ∙ c.in-Some-Used.ensures.found.1) c.in-Some-Used.inode c.in-Some-Used.field-0-is

pub returns-in-Some-Unused-clause-inode : goal.returns-in-Some-Unused-clause-inode
returns-in-Some-Unused-clause-inode c =
    let size : (128 * c.args.index + 128) - 128 * c.args.index ≡ 128 = omega arith in
    let part = ap (λ (n : ℕ). take n (drop (128 * c.args.index) c.args.block.now)) size in
    unused_is c.args.limits.now _ c.in-Some-Unused.field-0 c.in-Some-Unused.ensures.found.0 (sym part ∙ c.in-Some-Unused.ensures.found.1) c.in-Some-Unused.field-0-is

pub returns-in-None-clause-damaged : goal.returns-in-None-clause-damaged
returns-in-None-clause-damaged c =
    let size : (128 * c.args.index + 128) - 128 * c.args.index ≡ 128 = omega arith in
    let part = ap (λ (n : ℕ). take n (drop (128 * c.args.index) c.args.block.now)) size in
    (refl, λ spelled. let (r, fits, same) = spelled in cc (c.in-None.ensures.only r fits (part ∙ same)))
