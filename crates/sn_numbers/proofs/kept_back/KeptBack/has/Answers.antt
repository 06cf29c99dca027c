use Rattle.std.proofs.Common.{get_or, ap, ◌∙◌, arith}
use Rattle.std.proofs.lemmas.List.{get_or_read}
use Rattle.sn_numbers.specs.declared.kept_back.Mark.TheVariants.{Free}
use Rattle.sn_numbers.specs.Marks.{is_kept}
use Rattle.sn_numbers.specs.Back.{held_of}
use Rattle.sn_numbers.proofs.kept_back.KeptBack.has.Goals as goal

pub returns : goal.returns
unfolding held_of
returns c =
    let marks = c.args.self.now.marks in
    c.is_kept.ensures
    ∙ ap is_kept (get_or_read marks.items c.from.result c.index.result.now (omega (arith, c.args.self.now.all, marks.ok.0)) c.index.ensures Free)
    ∙ ap (λ k. is_kept (get_or marks.items k Free)) c.from.ensures
