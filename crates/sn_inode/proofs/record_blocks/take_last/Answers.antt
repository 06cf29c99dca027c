use Rattle.std.proofs.Common.{◌≡◌, ℕ, ◌<◌, List, subst}
use Rattle.std.specs.Prelude.{All}
use Rattle.sn_tree.specs.Dirty.{IsFrom}
use Rattle.sn_tree.specs.declared.new_block.DirtyBlock.{DirtyBlock}
use Rattle.sn_inode.proofs.BlockLemmas.{front_below}
use Rattle.sn_inode.proofs.record_blocks.take_last.Goals as goal

pub returns-clause-clean : goal.returns-clause-clean
returns-clause-clean c =
    let front = c.pop_back.new.self.items in
    let d = c.in_ok-bytes.field-0 in
    let is : d.index ≡ c.args.index = c.ends_with.ensures.last c.if-not-ends_with.false front d c.in_ok-bytes.ensures.items in
    let from = subst (λ (ds : List DirtyBlock). IsFrom 0 ds) c.in_ok-bytes.ensures.items c.requires.rise in
    subst (λ (n : ℕ). All (λ (x : DirtyBlock). x.index < n) front) is (front_below 0 front d from)
