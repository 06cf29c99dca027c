use Rattle.std.proofs.Common.{◌≡◌, ◌≤◌, ◌++◌, ℕ, List, length, drop, replicate, ap, subst, sym, ◌∙◌, arith, length-append, length-drop}
use Rattle.std.specs.declared.vec.Vec.{Vec}
use Rattle.std.specs.Vec.{with_items}
use Rattle.std.proofs.lemmas.List.{length-replicate, with_items_is}
use Rattle.sn_census.specs.Rows.{AreUnused, unused_row}
use Rattle.sn_census.specs.declared.table.Row.{Row}
use Rattle.sn_census.proofs.RowLemmas.{unused_all}
use Rattle.sn_census.proofs.table.Census.clear.Goals as goal

-- the rows as they are then
cleared : {Z : Type 0} (rows : Vec Row Z) (used : ℕ) (lent new : List Row) → lent ≡ rows.items → new ≡ replicate used unused_row ++ drop used lent → used ≤ rows.len → AreUnused used rows.items → AreUnused 0 (with_items rows new).items
cleared rows used lent new same made few unused =
    let is : new ≡ replicate used unused_row ++ drop used rows.items = made ∙ ap (λ (them : List Row). replicate used unused_row ++ drop used them) same in
    let size : length new ≡ rows.len = omega (arith, ap (λ (them : List Row). length them) is, length-append (replicate used unused_row) (drop used rows.items), length-replicate used unused_row, length-drop used rows.items, few, rows.ok.0) in
    subst (λ (them : List Row). AreUnused 0 them) (sym (with_items_is rows new size ∙ is)) (unused_all used rows.items unused)

pub invariant_of-self : goal.invariant_of-self
invariant_of-self c =
    let was = c.self.invariant in
    (was.0, (omega arith, cleared c.self.inside.rows c.self.inside.used c.as_mut_slice.result.now c.clear_rows.new.rows c.as_mut_slice.ensures.value c.clear_rows.ensures (omega (arith, was.0, was.1.0)) was.1.1))

pub returns : goal.returns
returns c =
    let was = c.self.invariant in
    cleared c.self.inside.rows c.self.inside.used c.as_mut_slice.result.now c.clear_rows.new.rows c.as_mut_slice.ensures.value c.clear_rows.ensures (omega (arith, was.0, was.1.0)) was.1.1
