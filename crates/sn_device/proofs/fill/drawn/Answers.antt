use Rattle.std.proofs.Common.{◌*◌, ◌%◌, ◌^◌, ◌∙◌, ap}
use Rattle.rand_pcg.specs.Lcg.{Lcg, advance}
use Rattle.rand_pcg.specs.Pcg.{multiplier_64}
use Rattle.sn_device.proofs.FillLemmas.{drawn-bytes}
use Rattle.sn_device.proofs.fill.drawn.Goals as goal

pub returns-clause-filled : goal.returns-clause-filled
returns-clause-filled c =
    c.one_of_six.ensures.filled ∙ drawn-bytes c.args.seed c.args.at c.next_u32-way.result _ _ c.advance.new.self c.fill_bytes.new.dst c.args.before c.args.after (c.advance.ensures ∙ ap (λ (g : Lcg). advance 64 multiplier_64 (c.args.at * 129 % 2 ^ 64) g) c.new-random.ensures) c.next_u32-way.ensures c.fill_bytes.ensures
