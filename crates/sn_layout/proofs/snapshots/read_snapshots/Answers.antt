use Rattle.std.proofs.Common.{◌≡◌, ◌∙◌, ◌++◌, [], ◌∷◌, List, Some, sym, ap, subst, append_assoc, arith}
use Rattle.std.proofs.lemmas.Grind.{common_steps}
use Rattle.sn_layout.specs.declared.snapshot.Snapshot.{Snapshot}
use Rattle.sn_layout.specs.Snapshot.{IsSnapshot, snapshot_bytes, snapshots_bytes}
use Rattle.sn_bytes.proofs.Fields.{some_none, some_some}
use Rattle.sn_bytes.proofs.Reading.{AreLeft, next_is, none_left, bytes_more, each_more}
use Rattle.sn_layout.proofs.snapshots.read_snapshots.Goals as goal

pub returns-in_err-snapshot-clause-only : goal.returns-in_err-snapshot-clause-only
returns-in_err-snapshot-clause-only c = λ others rest len each e.
    let next = next_is IsSnapshot snapshot_bytes c.loop.all others c.loop.reader c.read.new.reader rest c.read.result c.read.ensures.only (omega arith) (c.loop.invariant.only others rest len each e) in
    some_none c.read.result next.0 next.1 c.in_err-snapshot.was

pub loop-preserved : goal.loop-preserved
loop-preserved c = record {
  count = grind (arith, common_steps);
  each = rw c.push.ensures (each_more IsSnapshot c.loop.all c.in_ok-snapshot.snapshot c.loop.invariant.each c.in_ok-snapshot.ensures.found.0);
  read = rw (c.push.ensures, bytes_more snapshot_bytes c.loop.all c.in_ok-snapshot.snapshot) (c.loop.invariant.read ∙ ap (λ r. snapshots_bytes c.loop.all ++ r) c.in_ok-snapshot.ensures.found.1 ∙ sym (append_assoc (snapshots_bytes c.loop.all) (snapshot_bytes c.in_ok-snapshot.snapshot) c.read.new.reader));
  left = omega (arith, c.in_ok-snapshot.ensures);
  only = λ others rest len each e.
      let next = next_is IsSnapshot snapshot_bytes c.loop.all others c.loop.reader c.read.new.reader rest c.read.result c.read.ensures.only (omega arith) (c.loop.invariant.only others rest len each e) in
      let same = some_some c.read.result next.0 c.in_ok-snapshot.snapshot next.1 c.in_ok-snapshot.was in
      let pushed : c.loop.all ++ next.0 ∷ [] ≡ c.push.new.self = ap (λ (s : Snapshot). c.loop.all ++ s ∷ []) same ∙ sym c.push.ensures in
      subst (λ (all : List Snapshot). AreLeft IsSnapshot snapshot_bytes all others c.read.new.reader rest) pushed next.2;
}

pub returns-clause-only : goal.returns-clause-only
returns-clause-only c = λ others rest len each e.
    let all = none_left IsSnapshot snapshot_bytes c.loop.all others c.loop.reader rest (omega arith) (c.loop.invariant.only others rest len each e) in
    (ap Some (sym all.0), all.1)
