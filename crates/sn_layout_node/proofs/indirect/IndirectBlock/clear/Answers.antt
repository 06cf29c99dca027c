use Rattle.std.proofs.Common.{◌≡◌, ◌∙◌, ℕ, take, sym, ap, arith}
use Rattle.std.proofs.lemmas.List.{take_all}
use Rattle.sn_layout.specs.Bytes.{zeros}
use Rattle.sn_layout.proofs.Records.{zero_numbers}
use Rattle.sn_layout_node.proofs.indirect.IndirectBlock.clear.Goals as goal

pub returns : goal.returns
returns c =
    let new = c.put_zeros.new.block in
    let whole : new ≡ zeros 4096 = sym (take_all 4096 new (omega (arith, c.put_zeros.auto.block, c.told-block))) ∙ ap (λ (n : ℕ). take n new) (sym c.put_zeros.ensures.next) ∙ c.put_zeros.ensures.bytes.front in
    whole ∙ sym (zero_numbers 4 1024)
