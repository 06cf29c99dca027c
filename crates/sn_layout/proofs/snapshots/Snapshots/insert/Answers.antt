use Rattle.std.proofs.Common.{◌≡◌, ◌∙◌, ℕ, List, ap}
use Rattle.std.specs.Prelude.{insert}
use Rattle.sn_layout.specs.declared.snapshot.Snapshot.{Snapshot}
use Rattle.sn_layout.specs.Snapshot.{are_rising, index_of, with_snapshot}
use Rattle.sn_layout.proofs.Inserting.{placed, rising_with}
use Rattle.sn_layout.proofs.snapshots.Snapshots.insert.Goals as goal

put : (old inside new seen : List Snapshot) (s : Snapshot) (index : ℕ) → inside ≡ old → seen ≡ old → index ≡ index_of s.bit seen → new ≡ insert inside index s → new ≡ with_snapshot s old
put old inside new seen s index same same-seen count e = rw (e, count, same, same-seen) (placed s old)

pub returns-clause-inserted : goal.returns-clause-inserted
returns-clause-inserted c =
    put c.args.self.now c.self.inside.list.items c.insert.new.self.items c.as_slice.result.now c.args.snapshot c.index_of-index.result c.self.view_is c.as_slice.ensures.value c.index_of-index.ensures.count c.insert.ensures.items

pub returns-clause-rising : goal.returns-clause-rising
returns-clause-rising c = λ rising above free.
    let made = put c.args.self.now c.self.inside.list.items c.insert.new.self.items c.as_slice.result.now c.args.snapshot c.index_of-index.result c.self.view_is c.as_slice.ensures.value c.index_of-index.ensures.count c.insert.ensures.items in
    ap (are_rising 0) made ∙ rising_with 0 c.args.snapshot c.args.self.now rising above free
