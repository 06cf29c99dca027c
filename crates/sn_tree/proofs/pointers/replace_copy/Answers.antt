use Rattle.std.proofs.Common.{◌≡◌, inl, ℕ, refl}
use Rattle.std.proofs.lemmas.Bool.{both_ways}
use Rattle.std.proofs.lemmas.List.Elements.{All-from_recursion, recursion_from_All}
use Rattle.sn_tree.specs.declared.new_block.NewBlock.{NewBlock}
use Rattle.sn_tree.proofs.StepLemmas.{put_replaced}
use Rattle.sn_tree.proofs.ErrorLemmas.{memory_not_full, memory_not_tree}
use Rattle.sn_tree.proofs.pointers.replace_copy.Goals as goal

pub returns-then-is_empty-clause-replaced : goal.returns-then-is_empty-clause-replaced
returns-then-is_empty-clause-replaced c = (c.is_empty.ensures.are, inl (recursion_from_All (λ (p : ℕ). p ≡ 0) c.args.copy (c.is_empty.ensures.holes.0 c.if-is_empty.true), refl, c.in_ok-release.ensures.ok))

pub returns-clause-replaced : goal.returns-clause-replaced
returns-clause-replaced c =
    let block : ℕ → NewBlock = λ n. record { number = n; bytes = c.into_bytes.result } in
    put_replaced c.put.result c.args.build.now c.release.new.self c.put.new.self c.args.pointer c.args.copy block (λ n. refl) (λ n. c.into_bytes.ensures.bytes) c.into_bytes.ensures.are (λ holes. both_ways c.is_empty.result c.if-is_empty.false (c.is_empty.ensures.holes.1 (All-from_recursion (λ (p : ℕ). p ≡ 0) c.args.copy holes))) c.in_ok-release.ensures.ok c.put.ensures.fresh c.put.ensures.ok

pub returns-in_err-release-clause-own : goal.returns-in_err-release-clause-own
returns-in_err-release-clause-own c = memory_not_tree _ c.from_residual.ensures.1

pub returns-in_err-release-clause-full : goal.returns-in_err-release-clause-full
returns-in_err-release-clause-full c = λ e. absurd (memory_not_full _ c.from_residual.ensures.1 e)

pub returns-in_err-release-clause-filled : goal.returns-in_err-release-clause-filled
returns-in_err-release-clause-filled c = λ e. absurd (memory_not_full _ c.from_residual.ensures.1 e)
