use Rattle.std.proofs.Common.{◌≡◌, ◌∙◌, ◌+◌, [], ◌∷◌, ◌++◌, List, sym, ap, subst, get_or, drop, arith}
use Rattle.std.proofs.lemmas.Grind.{common_steps}
use Rattle.std.proofs.lemmas.List.{take_more, drop_more}
use Rattle.sn_bytes.proofs.Fields.{some_some}
use Rattle.sn_acl.specs.declared.entries.Entry.{Entry}
use Rattle.sn_acl_xattr.specs.declared.entries.RawEntry.{RawEntry}
use Rattle.sn_acl_xattr.proofs.Raws.{IsFront, next_entry, are_more}
use Rattle.sn_acl_xattr.proofs.entries.entries_of.Goals as goal

abbrev none : RawEntry
none = record { tag = 0; permissions = 0; id = 0 }

pub loop-raw-preserved : goal.loop-raw-preserved
loop-raw-preserved c =
    let raws = c.args.raws.now in
    let i = c.loop-raw.raw-index in
    let raw = get_or raws i none in
    let read = c.loop-raw.entries.items in
    record {
      count = grind (arith, common_steps);
      are = rw (take_more raws i none c.loop-raw-test.true, c.push.ensures.items) (are_more _ read raw c.in_ok-entry.field-0 c.loop-raw.invariant.are c.in_ok-entry.ensures.found);
      only = λ others each are.
          let front = subst (λ (left : List RawEntry). IsFront read others left) (drop_more raws i none c.loop-raw-test.true) (c.loop-raw.invariant.only others each are) in
          let next = next_entry read others raw (drop (i + 1) raws) front in
          let same = some_some c.entry.result next.0 c.in_ok-entry.field-0 (c.entry.ensures.only next.0 next.1 next.2) c.in_ok-entry.was in
          let pushed : read ++ next.0 ∷ [] ≡ c.push.new.self.items = ap (λ (e : Entry). read ++ e ∷ []) same ∙ sym c.push.ensures.items in
          subst (λ (all : List Entry). IsFront all others (drop (i + 1) raws)) pushed next.3;
    }
