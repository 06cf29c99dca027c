use Rattle.std.proofs.Common.{◌≡◌, arith, ℕ, replicate, sym, ◌∙◌, ◌++◌, ◌∷◌, [], subst, ap, lit<}
use Rattle.std.proofs.lemmas.List.{replicate_more}
use Rattle.sn_device.specs.Sectors.{Contents, AreSectors}
use Rattle.sn_device.specs.Memory.{first}
use Rattle.sn_device.proofs.SectorLemmas.{IsSector-replicate, AreSectors-replicate}
use Rattle.sn_device.proofs.memory.MemDevice.new.Goals as goal

pub loop-count-preserved : goal.loop-count-preserved
loop-count-preserved c = c.in_ok-push.ensures.items ∙ ap (λ (s : Contents). s ++ replicate 512 0 ∷ []) c.loop-count.invariant ∙ replicate_more c.loop-count._count (replicate 512 0)

pub with_sectors-requires : goal.with_sectors-requires
with_sectors-requires c = subst AreSectors (sym c.loop-count.invariant) (AreSectors-replicate c.loop-count._count (replicate 512 0) (IsSector-replicate 0 (lit< tt)))

pub returns-clause-zeros : goal.returns-clause-zeros
returns-clause-zeros c =
    let count : c.loop-count._count ≡ c.args.sectors = omega arith in
    c.with_sectors.ensures.disk ∙ ap first (c.loop-count.invariant ∙ ap (λ n. replicate n (replicate {A = ℕ} 512 0)) count)
