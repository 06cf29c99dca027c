use Rattle.std.proofs.Common.{◌≡◌, ◌++◌, ◌∷◌, [], false, not, List, sym, ap, subst, ◌∙◌}
use Rattle.std.specs.Prelude.{is_some}
use Rattle.sn_block.proofs.EffectLemmas.{OnOk-then}
use Rattle.sn_layout_node.specs.Directory.{number_of}
use Rattle.sn_dir_change.specs.Changes.{AreLinkChanges, ArePuts}
use Rattle.sn_dir_change.specs.UnderWay.{AreParted}
use Rattle.sn_dir_change.specs.declared.name_change.NameChange.{NameChange as TheChange}
use Rattle.sn_dir_change.proofs.PartLemmas.{parted_stands, parted_waits, parted_nothing, link_change_more, puts_more}
use Rattle.sn_dir_change.proofs.PassLemmas.{is_none}
use Rattle.sn_dir_change.proofs.pending.Pending.add.Goals as goal

pub returns-then-stands-clause-parted : goal.returns-then-stands-clause-parted
returns-then-stands-clause-parted c = λ names taken stands parted. OnOk-then c.note_standing.result
    (λ made. subst (λ (xs : List TheChange). AreParted names (taken ++ c.args.change.now ∷ []) xs c.args.self.now.waiting.items) (sym made)
    (parted_stands names taken c.args.self.now.standing.items c.args.self.now.waiting.items c.args.change.now parted (sym stands ∙ c.if-stands.true)))
    c.note_standing.ensures

pub returns-then-stands-clause-standing : goal.returns-then-stands-clause-standing
returns-then-stands-clause-standing c = λ all. OnOk-then c.note_standing.result
    (λ made. subst AreLinkChanges (sym made) (link_change_more c.args.self.now.standing.items c.args.change.now all c.requires))
    c.note_standing.ensures

pub returns-then-is_none-clause-parted : goal.returns-then-is_none-clause-parted
returns-then-is_none-clause-parted c = λ names taken stands parted.
    let nothing : is_some c.args.change.now.number ≡ false = cc (c.is_none.ensures, c.if-is_none.true) in
    let gone = is_none (number_of c.args.change.now.name.now names) (sym stands ∙ c.if-stands.false) in
    parted_nothing names taken c.args.self.now.standing.items c.args.self.now.waiting.items c.args.change.now parted (gone ∙ sym (is_none c.args.change.now.number nothing))

pub returns-clause-parted : goal.returns-clause-parted
returns-clause-parted c = λ names taken stands parted. OnOk-then c.note_waiting.result
    (λ made. subst (λ (xs : List TheChange). AreParted names (taken ++ c.args.change.now ∷ []) c.args.self.now.standing.items xs) (sym made)
    (parted_waits names taken c.args.self.now.standing.items c.args.self.now.waiting.items c.args.change.now parted (is_none (number_of c.args.change.now.name.now names) (sym stands ∙ c.if-stands.false))))
    c.note_waiting.ensures

pub returns-clause-waiting : goal.returns-clause-waiting
returns-clause-waiting c = λ all. OnOk-then c.note_waiting.result
    (λ made. subst AreLinkChanges (sym made) (link_change_more c.args.self.now.waiting.items c.args.change.now all c.requires))
    c.note_waiting.ensures

pub returns-then-stands-clause-puts : goal.returns-then-stands-clause-puts
returns-then-stands-clause-puts c = λ all. OnOk-then c.note_standing.result (λ made. all) c.note_standing.ensures

pub returns-clause-puts : goal.returns-clause-puts
returns-clause-puts c = λ all. OnOk-then c.note_waiting.result
    (λ made. subst ArePuts (sym made) (puts_more c.args.self.now.waiting.items c.args.change.now all (c.is_none.ensures ∙ ap not c.if-is_none.false)))
    c.note_waiting.ensures
