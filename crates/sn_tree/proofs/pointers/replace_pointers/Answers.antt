use Rattle.std.proofs.Common.{◌≡◌, ℕ, refl}
use Rattle.std.proofs.lemmas.Bool.{both_ways}
use Rattle.std.proofs.lemmas.List.Elements.{All-from_recursion}
use Rattle.sn_tree.specs.declared.new_block.NewBlock.{NewBlock}
use Rattle.sn_tree.proofs.StepLemmas.{put_replaced}
use Rattle.sn_tree.proofs.ErrorLemmas.{memory_not_full, memory_not_tree}
use Rattle.sn_tree.proofs.pointers.replace_pointers.Goals as goal

pub returns-clause-replaced : goal.returns-clause-replaced
returns-clause-replaced c =
    let block : ℕ → NewBlock = λ n. record { number = n; bytes = record { ptr = c.in_ok-block.block.ptr; alloc = c.in_ok-block.block.alloc; value = c.encode.new.block } } in
    put_replaced c.put.result c.args.build.now c.release.new.self c.put.new.self c.args.pointer c.args.pointers.now block (λ n. refl) (λ n. c.encode.ensures) c.are_holes.ensures.are (λ holes. both_ways c.are_holes.result c.if-are_holes.false (c.are_holes.ensures.holes.1 (All-from_recursion (λ (p : ℕ). p ≡ 0) c.args.pointers.now holes))) c.in_ok-release.ensures.ok c.put.ensures.fresh c.put.ensures.ok

pub returns-clause-filled : goal.returns-clause-filled
returns-clause-filled c = λ _ holes. both_ways c.are_holes.result c.if-are_holes.false (c.are_holes.ensures.holes.1 (All-from_recursion (λ (p : ℕ). p ≡ 0) c.args.pointers.now holes))

pub returns-in_err-release-clause-own : goal.returns-in_err-release-clause-own
returns-in_err-release-clause-own c = memory_not_tree _ c.from_residual.ensures.1

pub returns-in_err-release-clause-full : goal.returns-in_err-release-clause-full
returns-in_err-release-clause-full c = λ e. absurd (memory_not_full _ c.from_residual.ensures.1 e)

pub returns-in_err-release-clause-filled : goal.returns-in_err-release-clause-filled
returns-in_err-release-clause-filled c = λ e. absurd (memory_not_full _ c.from_residual.ensures.1 e)

pub returns-in_err-block-clause-own : goal.returns-in_err-block-clause-own
returns-in_err-block-clause-own c = memory_not_tree _ c.from_residual-in_err-block.ensures.1

pub returns-in_err-block-clause-full : goal.returns-in_err-block-clause-full
returns-in_err-block-clause-full c = λ e. absurd (memory_not_full _ c.from_residual-in_err-block.ensures.1 e)

pub returns-in_err-block-clause-filled : goal.returns-in_err-block-clause-filled
returns-in_err-block-clause-filled c = λ e. absurd (memory_not_full _ c.from_residual-in_err-block.ensures.1 e)
