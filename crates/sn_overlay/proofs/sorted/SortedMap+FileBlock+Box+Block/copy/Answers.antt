use Rattle.std.proofs.Common.{◌≡◌, ◌≤◌, length, ap, ◌∙◌, arith}
use Rattle.std.proofs.lemmas.List.{take_all}
use Rattle.sn_overlay.specs.Keys.{file_block_cmp}
use Rattle.sn_overlay.specs.Sorted.{bytes_by_file_block}
use Rattle.sn_overlay.proofs.SortedLemmas.{sorted_alike}
use Rattle.sn_overlay.proofs.sorted.SortedMap+FileBlock+Box+Block.copy.Goals as goal

pub invariant_of-result : goal.invariant_of-result
invariant_of-result c =
    let far : length c.args.self.now.entries.items ≤ c.loop-entry.entry-index = omega (arith, ap length c.deref-entry-items.ensures.value, c.loop-entry-test.false) in
    let same : bytes_by_file_block c.loop-entry.entries.items ≡ bytes_by_file_block c.args.self.now.entries.items =
    c.loop-entry.invariant ∙ ap bytes_by_file_block (take_all c.loop-entry.entry-index c.args.self.now.entries.items far) in
    record { sorted = sorted_alike file_block_cmp c.loop-entry.entries.items c.args.self.now.entries.items same c.args.self.now.sorted }
