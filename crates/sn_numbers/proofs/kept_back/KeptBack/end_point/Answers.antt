use Rattle.std.proofs.Common.{◌≡◌, List, length, map, get_or, refl, ap, ◌∙◌, arith}
use Rattle.std.proofs.lemmas.List.{length-map, with_items_is}
use Rattle.sn_numbers.specs.declared.kept_back.Mark.{Mark}
use Rattle.sn_numbers.specs.declared.kept_back.Mark.TheVariants.{Free}
use Rattle.sn_numbers.specs.Marks.{forgotten, is_kept, is_since}
use Rattle.sn_numbers.specs.Back.{held_of, since_of}
use Rattle.sn_numbers.proofs.MarkLemmas.{changed_at, kept_since, since_since}
use Rattle.sn_numbers.proofs.kept_back.KeptBack.end_point.Goals as goal

pub returns-clause-held : goal.returns-clause-held
unfolding held_of since_of
returns-clause-held c = λ n.
    let marks = c.args.self.now.marks in
    let made : c.forget.new.marks ≡ map forgotten marks.items = c.forget.ensures ∙ ap (λ (ms : List Mark). map forgotten ms) c.as_mut_slice.ensures.value in
    let is = with_items_is marks c.forget.new.marks (omega (arith, ap (λ (ms : List Mark). length ms) made, length-map marks.items forgotten, marks.ok.0)) ∙ made in
    ap (λ (ms : List Mark). is_kept (get_or ms n Free)) is ∙ ap is_kept (changed_at forgotten marks.items n refl) ∙ kept_since (get_or marks.items n Free)

pub returns-clause-since : goal.returns-clause-since
unfolding held_of since_of
returns-clause-since c = λ n.
    let marks = c.args.self.now.marks in
    let made : c.forget.new.marks ≡ map forgotten marks.items = c.forget.ensures ∙ ap (λ (ms : List Mark). map forgotten ms) c.as_mut_slice.ensures.value in
    let is = with_items_is marks c.forget.new.marks (omega (arith, ap (λ (ms : List Mark). length ms) made, length-map marks.items forgotten, marks.ok.0)) ∙ made in
    ap (λ (ms : List Mark). is_since (get_or ms n Free)) is ∙ ap is_since (changed_at forgotten marks.items n refl) ∙ since_since (get_or marks.items n Free)
