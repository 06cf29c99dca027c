use Rattle.std.proofs.Common.{ℕ, Option, is_some, refl, sym, ap, subst, ◌∙◌, arith}
use Rattle.std.specs.Prelude.{IsSome}
use Rattle.std.proofs.lemmas.Option.{IfSome_then}
use Rattle.sn_cp_whole.specs.Asking.{TakesOneMore}
use Rattle.sn_cp_whole.proofs.AskingLemmas.{catalogue_in, found_some, has_room, is_bit, none_found}
use Rattle.sn_cp_whole.proofs.asking.new_bit.Goals as goal

pub free_bit-requires : goal.free_bit-requires
free_bit-requires c = catalogue_in c.args.root.now c.requires

pub returns-then-is_some-clause-none : goal.returns-then-is_some-clause-none
returns-then-is_some-clause-none c none can =
    let there = found_some c.find.result in
    let is = ap is_some c.find.ensures.entry in
    absurd (cc (there, can.0))

pub returns-in_err-bit-clause-none : goal.returns-in_err-bit-clause-none
returns-in_err-bit-clause-none c none can = omega (arith, c.in_err-bit.ensures.full.0 refl, can.1)

pub returns-clause-new : goal.returns-clause-new
returns-clause-new c =
    let root = c.args.root.now in
    IfSome_then c.new.result c.new.ensures.value (λ bit same. subst (λ (b : ℕ). TakesOneMore root.limits c.args.name.now b root.snapshots) (sym same) (record {
      from_one = c.in_ok-bit.ensures.least.from_one;
      bit_free = c.in_ok-bit.ensures.least.free;
      name_free = sym c.find.ensures.entry ∙ none_found c.find.result (sym c.is_some.ensures ∙ c.if-is_some.false);
      room = has_room c.free_bit.result c.in_ok-bit.bit root.limits.snapshots _ c.in_ok-bit.was c.free_bit.ensures.full;
      within = c.in_ok-bit.ensures.within c.requires.version;
    }))

pub returns-clause-none : goal.returns-clause-none
returns-clause-none c none can =
    let root = c.args.root.now in
    let is = c.new.ensures.valid.1 (c.in_ok-bit.ensures.least.from_one, is_bit root c.requires c.in_ok-bit.bit (c.in_ok-bit.ensures.within c.requires.version)) in
    let never = subst (λ (o : Option ℕ). IsSome o) none is in
    cc
