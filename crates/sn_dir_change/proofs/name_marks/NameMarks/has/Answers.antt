use Rattle.std.proofs.Common.{is_some, sym, ap, ◌∙◌}
use Rattle.sn_dir_change.proofs.MarkLemmas.{unmarked}
use Rattle.sn_dir_change.proofs.name_marks.NameMarks.has.Goals as goal

pub returns-then-not-may_have : goal.returns-then-not-may_have
returns-then-not-may_have c =
    let none = unmarked c.args.self.now.marks c.args.change.now.name.now c.args.names.now c.requires (sym c.may_have.ensures ∙ c.if-not-may_have.true) in
    sym (ap is_some none)
