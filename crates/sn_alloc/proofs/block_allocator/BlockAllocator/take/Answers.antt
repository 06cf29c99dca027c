use Rattle.std.proofs.Common.{arith, subst}
use Rattle.std.proofs.lemmas.Bool.{false≢true}
use Rattle.sn_map.specs.Free.{NoneFree}
use Rattle.sn_alloc.specs.Taking.{Taking, IsTaking}
use Rattle.sn_alloc.proofs.TakingLemmas.{took, found_none, all_taken}
use Rattle.sn_alloc.proofs.block_allocator.BlockAllocator.take.Goals as goal

pub invariant_of-self : goal.invariant_of-self
invariant_of-self c = took _ c.in-Some.block _ _ c.push_reserved.new.self.items c.self.invariant c.in-Some.ensures.found c.push_reserved.ensures.items (omega arith)

pub invariant_of-self-in-None : goal.invariant_of-self-in-None
invariant_of-self-in-None c = found_none _ c.len-blocks.result _ _ c.self.invariant c.in-None.ensures.none c.len-blocks.ensures (omega arith)

pub returns-in-None-clause-counted : goal.returns-in-None-clause-counted
returns-in-None-clause-counted c =
    let so_far = subst IsTaking c.self.view_is c.self.invariant in
    let none = subst (λ (t : Taking). NoneFree t.words t.next) c.self.view_is c.in-None.ensures.none in
    let all = all_taken c.args.self.now so_far none in
    (λ e. absurd (false≢true e), λ lt. absurd (omega arith))
