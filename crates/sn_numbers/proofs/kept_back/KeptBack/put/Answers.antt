use Rattle.std.proofs.Common.{◌||◌, ◌==◌, get_or, refl, ap, ◌∙◌, arith}
use Rattle.sn_numbers.specs.declared.kept_back.Mark.TheVariants.{Free}
use Rattle.sn_numbers.specs.Marks.{is_kept, is_since}
use Rattle.sn_numbers.specs.Back.{held_of, since_of}
use Rattle.sn_numbers.proofs.MarkLemmas.{marked_at}
use Rattle.sn_numbers.proofs.kept_back.KeptBack.put.Goals as goal

pub returns-clause-held : goal.returns-clause-held
unfolding held_of
returns-clause-held c = λ n.
    let marks = c.args.self.now.marks in
    marked_at is_kept marks.items c.from.result n refl (omega (arith, c.args.self.now.all, marks.ok.0)) ∙ ap (λ k. n == k || is_kept (get_or marks.items n Free)) c.from.ensures

pub returns-clause-since : goal.returns-clause-since
unfolding since_of
returns-clause-since c = λ n.
    let marks = c.args.self.now.marks in
    marked_at is_since marks.items c.from.result n refl (omega (arith, c.args.self.now.all, marks.ok.0)) ∙ ap (λ k. n == k || is_since (get_or marks.items n Free)) c.from.ensures
