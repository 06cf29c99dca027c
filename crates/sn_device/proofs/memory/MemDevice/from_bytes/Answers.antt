use Rattle.std.proofs.Common.{ℕ, ◌+◌, ◌-◌, ◌*◌, ◌<◌, [], ◌∷◌, slice_index, ◌∙◌, sym, subst, ap, length, below_more, arith}
use Rattle.std.proofs.lemmas.List.{length_push, get_or_append_left, get_or_push}
use Rattle.sn_device.specs.Sectors.{AreSectors, IsSector, sector_at}
use Rattle.sn_device.proofs.SectorLemmas.{AreSectors-push, bytes_fit-part}
use Rattle.sn_device.proofs.memory.MemDevice.from_bytes.Goals as goal

pub loop-i-preserved : goal.loop-i-preserved
loop-i-preserved c =
    let before = c.loop-i.invariant in
    let pushed = c.in_ok-push.ensures.items in
    let sector = c.copy_from_slice.new.self in
    let copied = c.copy_from_slice.ensures.after in
    let is : IsSector sector = record {
      size = c.copy_from_slice.ensures.len;
      bytes_fit = subst (λ s. (k : ℕ) → slice_index s k < 256) (sym copied) (bytes_fit-part c.args.bytes.now (512 * c.loop-i.i) (512 * c.loop-i.i + 512 - 512 * c.loop-i.i) (λ k. omega (arith, c.type_inv.bytes k)));
    } in
    record {
      count = ap length pushed ∙ length_push c.loop-i.sectors.items sector ∙ ap (λ n. n + 1) before.count;
      same = below_more _ _
          (λ k h. ap (λ s. sector_at s k) pushed ∙ get_or_append_left c.loop-i.sectors.items (sector ∷ []) [] k (omega (arith, before.count, h)) ∙ before.same k h)
          (ap (λ s. sector_at s c.loop-i.i) pushed ∙ get_or_push c.loop-i.sectors.items sector [] c.loop-i.i before.count ∙ copied);
      whole = subst AreSectors (sym pushed) (AreSectors-push c.loop-i.sectors.items sector before.whole is);
    }
