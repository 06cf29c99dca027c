use Rattle.std.proofs.Common.{sym, subst}
use Rattle.std.specs.Result.{is_ok}
use Rattle.sn_names.specs.declared.index.NameIndex.{NameIndex}
use Rattle.sn_names.specs.declared.kept.KeptIndex.{KeptIndex}
use Rattle.sn_names.specs.Index.{Tells}
use Rattle.sn_names.proofs.IndexesLemmas.{all_pushed}
use Rattle.sn_names.proofs.indexes.NameIndexes.keep.Goals as goal

pub returns : goal.returns
returns c = λ sectors s all told.
    c.trim.ensures sectors s (all_pushed (λ (kept : KeptIndex). Tells sectors s kept.index) c.make_room.new.self.list.items c.push-kept.new.self.items c.in-Ok-new.kept (is_ok c.push-kept.result) c.push-kept.ensures.items
    (c.make_room.ensures.told sectors s all)
    (subst (λ (index : NameIndex). Tells sectors s index) (sym c.in-Ok-new.ensures) (c.in-Ok.ensures sectors s all told)))
