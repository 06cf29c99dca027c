use Rattle.std.proofs.Common.{ℕ, refl}
use Rattle.sn_tree.specs.declared.new_block.NewBlock.{NewBlock}
use Rattle.sn_inode.proofs.PlacedLemmas.{placed_none, none_there, placed_put}
use Rattle.sn_inode.proofs.acl_changes.replace_acls.Goals as goal

pub returns-then-not-has_entries-clause-placed : goal.returns-then-not-has_entries-clause-placed
returns-then-not-has_entries-clause-placed c =
    placed_none _ c.args.pointer 0 c.args.build.now c.release.new.self refl c.in_ok-release.ensures.ok (none_there c.args.acls.now (c.has_entries.ensures.none c.if-not-has_entries.true))

pub returns-clause-placed : goal.returns-clause-placed
returns-clause-placed c =
    let block : ℕ → NewBlock = λ n. record { number = n; bytes = c.in_ok-block.block } in
    placed_put c.args.acls.now c.spelled.ensures.fits c.args.pointer c.args.build.now c.release.new.self c.put.new.self block (λ n. refl) (λ n. c.in_ok-block.ensures.bytes) c.put.result c.in_ok-release.ensures.ok c.put.ensures.fresh c.put.ensures.ok
