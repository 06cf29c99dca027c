use Rattle.std.proofs.Common.{◌-◌, length, take, ap, sym, ◌∙◌, arith, length-drop}
use Rattle.std.specs.List.{list_all}
use Rattle.std.proofs.lemmas.List.{take_rest}
use Rattle.sn_limits.specs.Names.{is_name_byte}
use Rattle.sn_limits.proofs.NameLemmas.{all_further, not_all}
use Rattle.sn_limits.proofs.name.begins_with_name_bytes.Goals as goal

pub returns-then-other_bytes-ne0 : goal.returns-then-other_bytes-ne0
returns-then-other_bytes-ne0 c =
    let others = c.other_bytes in
    sym (c.vectors.invariant.1 ∙ not_all c.vectors.rest.now c.vectors.left others.result (omega arith) others.ensures c.if-other_bytes-ne0.true)

pub vectors-preserved : goal.vectors-preserved
vectors-preserved c =
    let rest = c.vectors.rest.now in
    let left = c.vectors.left in
    let others = c.other_bytes in (
      omega (arith, ap length (take_rest rest 16), length-drop 16 rest, c.vectors.invariant.0),
      c.vectors.invariant.1 ∙ all_further rest left others.result (omega arith) c.vectors.invariant.0 others.ensures c.if-other_bytes-ne0.false
          ∙ ap (λ r. list_all is_name_byte (take (left - 16) r)) (sym (take_rest rest 16)),
    )
