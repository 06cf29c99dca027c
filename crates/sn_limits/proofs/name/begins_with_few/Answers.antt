use Rattle.std.proofs.Common.{◌∙◌, sym}
use Rattle.std.proofs.lemmas.Bool.{eq-eqb}
use Rattle.sn_limits.proofs.NameLemmas.{few_of_none, few_of_some}
use Rattle.sn_limits.proofs.name.begins_with_few.Goals as goal

pub returns-then-others-eq0 : goal.returns-then-others-eq0
returns-then-others-eq0 c =
    let others = c.other_bytes-others in
    eq-eqb others.result 0 c.if-others-eq0.true ∙ sym (few_of_none c.args.bytes.now c.args.count others.result c.requires.few c.if-bytes-lt-LANES.false others.ensures c.if-others-eq0.true)

pub returns-else-others-eq0 : goal.returns-else-others-eq0
returns-else-others-eq0 c =
    let others = c.other_bytes-others in
    sym (few_of_some c.args.bytes.now c.args.count others.result c.requires.few c.if-bytes-lt-LANES.false others.ensures c.if-others-eq0.false)
