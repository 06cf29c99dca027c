use Rattle.std.proofs.Common.{set, sym, ap, ◌∙◌}
use Rattle.std.specs.FinMap.Entries.{is_sorted}
use Rattle.sn_overlay.proofs.SortedLemmas.{put-at, put-gap, sorted-put}
use Rattle.sn_overlay.proofs.sorted.SortedMap.insert.Goals as goal

pub returns-in-Ok-clause-entries : goal.returns-in-Ok-clause-entries
returns-in-Ok-clause-entries g c =
    let es = c.args.self.now.entries.items in
    ap (λ entry. set es c.in-Ok.at (entry.0, c.args.value)) c.index_mut.ensures.value
    ∙ sym (put-at g.met.K.Ord.total es c.args.key c.args.value c.in-Ok.at c.index_mut.result.now c.args.self.now.sorted c.in-Ok.ensures)

pub invariant_of-self : goal.invariant_of-self
invariant_of-self g c =
    let es = c.args.self.now.entries.items in
    record {
      sorted = ap (is_sorted g.K.Ord.cmp) (ap (λ entry. set es c.in-Ok.at (entry.0, c.args.value)) c.index_mut.ensures.value
          ∙ sym (put-at g.met.K.Ord.total es c.args.key c.args.value c.in-Ok.at c.index_mut.result.now c.args.self.now.sorted c.in-Ok.ensures))
          ∙ sorted-put g.met.K.Ord.total es c.args.key c.args.value c.args.self.now.sorted;
    }

pub returns-in-Err-clause-entries : goal.returns-in-Err-clause-entries
returns-in-Err-clause-entries g c =
    let ok = c.insert.ensures.succeeds c.requires.room in
    rw ok at c.insert.ensures.items ∙ sym (put-gap g.met.K.Ord.total c.args.self.now.entries.items c.args.key c.args.value c.in-Err.at c.in-Err.ensures)

pub invariant_of-self-in-Err : goal.invariant_of-self-in-Err
invariant_of-self-in-Err g c =
    let ok = c.insert.ensures.succeeds c.requires.room in
    record {
      sorted = ap (is_sorted g.K.Ord.cmp) (rw ok at c.insert.ensures.items ∙ sym (put-gap g.met.K.Ord.total c.args.self.now.entries.items c.args.key c.args.value c.in-Err.at c.in-Err.ensures))
          ∙ sorted-put g.met.K.Ord.total c.args.self.now.entries.items c.args.key c.args.value c.args.self.now.sorted;
    }
