use Rattle.std.proofs.Common.{◌≡◌, inl, inr, length, sym, ap, ◌∙◌, arith}
use Rattle.std.proofs.lemmas.Bool.{cases_lt, false≢true}
use Rattle.std.proofs.lemmas.List.{length-map}
use Rattle.sn_alloc.specs.Taking.{Taking, free_data}
use Rattle.sn_tree.specs.Drafts.{Draft}
use Rattle.sn_tree.specs.declared.new_block.NewBlock.{NewBlock}
use Rattle.sn_tree.proofs.ErrorLemmas.{memory_not_full, memory_not_tree}
use Rattle.sn_tree.proofs.build.Build.put.Goals as goal

pub returns-in_err-number-clause-full : goal.returns-in_err-number-clause-full
returns-in_err-number-clause-full c = λ _.
    let before = c.self.inside.allocator in
    let after = c.reserve.new.self in
    let taken : length after.taken ≡ length before.taken = ap (λ (t : Taking). length t.taken) c.reserve.ensures.same in
    let free : free_data after.words after.first ≡ free_data before.words before.first = ap (λ (t : Taking). free_data t.words t.first) c.reserve.ensures.same in
    let count : length before.taken ≡ length c.self.inside.added.items = sym (ap (λ xs. length xs) c.self.invariant.taken) ∙ length-map c.self.inside.added.items (λ (block : NewBlock). block.number) in
    let seen : free_data before.words before.first ≡ free_data c.args.self.now.words c.args.self.now.first = ap (λ (d : Draft). free_data d.words d.first) c.self.view_is in
    let listed : length c.self.inside.added.items ≡ length c.args.self.now.added = ap (λ (d : Draft). length d.added) c.self.view_is in
    elim (cases_lt (length after.taken) (free_data after.words after.first)) [
      | inl some ↦ absurd (false≢true (c.in_err-number.ensures.counted.1 some))
      | inr none ↦ omega (arith, none, taken, free, count, seen, listed)
    ]

pub returns-in_err-reserve-clause-full : goal.returns-in_err-reserve-clause-full
returns-in_err-reserve-clause-full c = λ e. absurd (memory_not_full _ c.from_residual.ensures.1 e)

pub returns-in_err-reserve-clause-own : goal.returns-in_err-reserve-clause-own
returns-in_err-reserve-clause-own c = memory_not_tree _ c.from_residual.ensures.1

pub returns-in_err-reserve-2-clause-full : goal.returns-in_err-reserve-2-clause-full
returns-in_err-reserve-2-clause-full c = λ e. absurd (memory_not_full _ c.from_residual-in_err-reserve-2.ensures.1 e)

pub returns-in_err-reserve-2-clause-own : goal.returns-in_err-reserve-2-clause-own
returns-in_err-reserve-2-clause-own c = memory_not_tree _ c.from_residual-in_err-reserve-2.ensures.1
