use Rattle.std.proofs.Common.{◌≡◌, ◌++◌, ◌+◌, ◌<◌, ℕ, true, List, take, take_all, length, None, sym, ap, subst, ◌∙◌, arith}
use Rattle.std.specs.Prelude.{is_some, Contains}
use Rattle.sn_layout_node.specs.Directory.{number_of}
use Rattle.sn_image.specs.Names.{names_in}
use Rattle.sn_dir_change.specs.UnderWay.{AreGone, IsUnderWay}
use Rattle.sn_dir_change.specs.declared.name_change.NameChange.{NameChange as TheChange}
use Rattle.sn_dir_change.proofs.PassLemmas.{amend_one, one_fewer, rest_changes, gone_more, is_none, rest_listed}
use Rattle.sn_dir_change.proofs.pass.amend_standing.Goals as goal

pub loop-k-preserved-then-amend_marked : goal.loop-k-preserved-then-amend_marked
loop-k-preserved-then-amend_marked c =
    let list = c.loop-k.standing.items in
    let k = c.loop-k.k in
    let change = c.index.result.now in
    let within : k < length list = omega (arith, c.len.ensures, c.loop-k-test.true) in
    let some : is_some (number_of change.name.now (names_in c.loop-k.block)) ≡ true = sym c.amend_marked.ensures.stood ∙ c.if-amend_marked.true in
    let made = c.amend_marked.ensures.amended c.if-amend_marked.true in
    let fewer : length c.remove.new.self.items + 1 ≡ length list = ap (λ (xs : List TheChange). length xs + 1) c.remove.ensures.items ∙ one_fewer list k change within c.index.ensures in
    record {
      block = c.amend_marked.ensures.still;
      marks = c.amend_marked.ensures.marks;
      changes = λ x there. rest_changes list k change within c.index.ensures c.loop-k.invariant.changes x (subst (λ (xs : List TheChange). Contains xs x) c.remove.ensures.items there);
      within = omega (arith, within, fewer);
      listed = λ x there. c.loop-k.invariant.listed x (rest_listed list k change within c.index.ensures x (subst (λ (xs : List TheChange). Contains xs x) c.remove.ensures.items there));
      fewer = omega (arith, fewer, c.loop-k.invariant.fewer);
      same = λ same. absurd (omega (arith, same, fewer, c.loop-k.invariant.fewer));
      way = λ changes waiting front back old way.
          let moved = amend_one list k change within c.index.ensures changes waiting front (names_in c.loop-k.block) (names_in c.amend_marked.new.block) back old some made (c.loop-k.invariant.way changes waiting front back old way) in
          subst (λ (xs : List TheChange). IsUnderWay changes xs waiting front (front ++ names_in c.amend_marked.new.block ++ back) old × AreGone (take k xs) (names_in c.amend_marked.new.block)) (sym c.remove.ensures.items) moved;
    }

pub loop-k-preserved : goal.loop-k-preserved
loop-k-preserved c =
    let list = c.loop-k.standing.items in
    let k = c.loop-k.k in
    let change = c.index.result.now in
    let within : k < length list = omega (arith, c.len.ensures, c.loop-k-test.true) in
    let none : number_of change.name.now (names_in c.loop-k.block) ≡ None = is_none _ (sym c.amend_marked.ensures.stood ∙ c.if-amend_marked.false) in
    let bytes = c.amend_marked.ensures.none c.if-amend_marked.false in
    record {
      block = c.amend_marked.ensures.still;
      marks = c.amend_marked.ensures.marks;
      changes = c.loop-k.invariant.changes;
      within = omega (arith, within);
      listed = c.loop-k.invariant.listed;
      fewer = c.loop-k.invariant.fewer;
      same = λ same. let before = c.loop-k.invariant.same same in (bytes ∙ before.0, before.1);
      way = λ changes waiting front back old way.
          let moved = c.loop-k.invariant.way changes waiting front back old way in
          subst (λ (b : List ℕ). IsUnderWay changes list waiting front (front ++ names_in b ++ back) old × AreGone (take (k + 1) list) (names_in b)) (sym bytes)
          (moved.0, gone_more list k change (names_in c.loop-k.block) within c.index.ensures moved.1 none);
    }

pub returns-clause-way : goal.returns-clause-way
returns-clause-way c = λ changes waiting front back old way.
    let list = c.loop-k.standing.items in
    let moved = c.loop-k.invariant.way changes waiting front back old way in
    let whole : take c.loop-k.k list ≡ list = take_all c.loop-k.k list (omega (arith, c.loop-k-test.false, c.len.ensures)) in
    (moved.0, subst (λ (xs : List TheChange). AreGone xs (names_in c.loop-k.block)) whole moved.1)
