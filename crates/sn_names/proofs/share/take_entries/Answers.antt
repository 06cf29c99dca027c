use Rattle.std.proofs.Common.{◌≡◌, ◌<◌, ◌%◌, inl, inr, ℕ, true, slice_index, sym, subst, ◌∙◌, arith}
use Rattle.std.specs.List.{Contains}
use Rattle.std.proofs.lemmas.Bool.{cases_lt}
use Rattle.std.proofs.lemmas.List.{get_or_default}
use Rattle.sn_names.specs.Share.{shares}
use Rattle.sn_names.proofs.share.take_entries.Goals as goal

pub loop-entry-preserved : goal.loop-entry-preserved
loop-entry-preserved c =
    let entries = c.args.entries.now in
    let other = c.args.other.now in
    let new = c.take_entry.new.taken.items in
    record {
      kept = λ n has. c.in_ok-take_entry.ensures.kept n (c.loop-entry.invariant.kept n has);
      taken = λ k before is. elim (cases_lt k c.loop-entry.entry-index) [
        | inl sooner ↦ c.in_ok-take_entry.ensures.kept (slice_index entries k) (c.loop-entry.invariant.taken k sooner is)
        | inr later ↦
            let same : k ≡ c.loop-entry.entry-index = omega arith in
            subst (λ (j : ℕ). Contains new (slice_index entries j)) (sym same)
            (c.in_ok-take_entry.ensures.taken (subst (λ (j : ℕ). shares c.args.numbers.now other.numbers.items other.rooms.items (slice_index entries j % 16384) ≡ true) same is))
      ];
    }

pub returns-clause-taken : goal.returns-clause-taken
returns-clause-taken c = λ n has is.
    let entries = c.args.entries.now in
    let other = c.args.other.now in
    let e : slice_index entries has.0 ≡ n = get_or_default entries has.0 0 n has.1 ∙ has.2 in
    let before : has.0 < c.loop-entry.entry-index = let within = has.1 in let end = c.loop-entry-test.false in omega arith in
    subst (Contains c.loop-entry.taken.items) e
    (c.loop-entry.invariant.taken has.0 before (subst (λ (m : ℕ). shares c.args.numbers.now other.numbers.items other.rooms.items (m % 16384) ≡ true) (sym e) is))
