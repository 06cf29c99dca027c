use Rattle.std.proofs.Common.{◌≡◌, ◌∙◌, ◌∷◌, ◌++◌, [], List, ℕ, reverse, slice_set, sym, ap}
use Rattle.std.proofs.lemmas.List.{reverse-append}
use Rattle.sn_device.specs.Sectors.{sector_at}
use Rattle.sn_device.specs.Fill.{filling}
use Rattle.sn_device.specs.Undo.{crashed_by}
use Rattle.sn_device.specs.declared.memory.Entry.{Entry}
use Rattle.sn_device.specs.declared.memory.Entry.TheVariants.{Write}
use Rattle.sn_device.proofs.SectorLemmas.{AreSectors-set}
use Rattle.sn_device.proofs.memory.fill_unsynced.Goals as goal

pub loop-entry-preserved-in-Some-get_mut : goal.loop-entry-preserved-in-Some-get_mut
loop-entry-preserved-in-Some-get_mut c =
    let sectors = c.loop-entry.sectors.items in
    let popped : reverse c.loop-entry.calls.items ≡ Write c.in-Write.at c.in-Write.before ∷ reverse c.pop.new.self.items =
    ap reverse (c.in-Some.ensures.items ∙ ap (λ (e : Entry). c.pop.new.self.items ++ e ∷ []) c.in-Write.is) ∙ reverse-append c.pop.new.self.items (Write c.in-Write.at c.in-Write.before ∷ []) in
    let found : c.in-Some-get_mut.sector.now ≡ sector_at sectors c.in-Write.at = c.in-Some-get_mut.ensures.item.3.1 [] in
    let put : c.filling.result ≡ filling c.args.fill c.in-Write.at c.in-Write.before (sector_at sectors c.in-Write.at) =
    c.filling.ensures.filled ∙ ap (λ (s : List ℕ). filling c.args.fill c.in-Write.at c.in-Write.before s) found in (
      ap (λ (s : List ℕ). crashed_by c.args.fill (reverse c.pop.new.self.items) (slice_set sectors c.in-Write.at s)) put
          ∙ sym (ap (λ (es : List Entry). crashed_by c.args.fill es sectors) popped)
          ∙ c.loop-entry.invariant.0,
      AreSectors-set sectors c.in-Write.at c.filling.result c.loop-entry.invariant.1 c.filling.ensures.whole,
    )
