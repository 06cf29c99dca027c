use Rattle.std.proofs.Common.{◌≡◌, ◌∙◌, ◌++◌, [], ◌∷◌, List, Some, sym, ap, subst, append_assoc, arith}
use Rattle.std.proofs.lemmas.Grind.{common_steps}
use Rattle.arrayvec.specs.ArrayVec.{ArrayVec}
use Rattle.sn_acl.specs.declared.entries.Entry.{Entry}
use Rattle.sn_layout_acl.specs.AclEntry.{IsEntry, entry_bytes, entries_bytes}
use Rattle.sn_layout.proofs.Fields.{some_none, some_some}
use Rattle.sn_layout.proofs.Reading.{AreLeft, next_is, none_left, bytes_more, each_more}
use Rattle.sn_layout_acl.proofs.acl_entries.read_entries.Goals as goal

pub returns-in_err-entry-clause-only : goal.returns-in_err-entry-clause-only
returns-in_err-entry-clause-only c = λ others rest len each e.
    let next = next_is IsEntry entry_bytes c.loop.all.items others c.loop.reader c.read_entry.new.reader rest c.read_entry.result c.read_entry.ensures.only (omega arith) (c.loop.invariant.only others rest len each e) in
    some_none c.read_entry.result next.0 next.1 c.in_err-entry.was

pub loop-preserved : goal.loop-preserved
loop-preserved c = record {
  count = grind (arith, common_steps);
  each = rw c.push.ensures.items (each_more IsEntry c.loop.all.items c.in_ok-entry.entry c.loop.invariant.each c.in_ok-entry.ensures.found.0);
  read = rw (c.push.ensures.items, bytes_more entry_bytes c.loop.all.items c.in_ok-entry.entry) (c.loop.invariant.read ∙ ap (λ r. entries_bytes c.loop.all.items ++ r) c.in_ok-entry.ensures.found.1 ∙ sym (append_assoc (entries_bytes c.loop.all.items) (entry_bytes c.in_ok-entry.entry) c.read_entry.new.reader));
  left = omega (arith, c.in_ok-entry.ensures);
  only = λ others rest len each e.
      let next = next_is IsEntry entry_bytes c.loop.all.items others c.loop.reader c.read_entry.new.reader rest c.read_entry.result c.read_entry.ensures.only (omega arith) (c.loop.invariant.only others rest len each e) in
      let same = some_some c.read_entry.result next.0 c.in_ok-entry.entry next.1 c.in_ok-entry.was in
      let pushed : c.loop.all.items ++ next.0 ∷ [] ≡ c.push.new.self.items = ap (λ (s : Entry). c.loop.all.items ++ s ∷ []) same ∙ sym c.push.ensures.items in
      subst (λ (all : List Entry). AreLeft IsEntry entry_bytes all others c.read_entry.new.reader rest) pushed next.2;
}

pub returns-clause-only : goal.returns-clause-only
returns-clause-only c = λ others rest len each e.
    let all = none_left IsEntry entry_bytes c.loop.all.items others c.loop.reader rest (omega arith) (c.loop.invariant.only others rest len each e) in
    let made : List Entry → ArrayVec Entry = λ items. record { items = items } in
    (ap (λ items. Some (made items)) (sym all.0), all.1)
