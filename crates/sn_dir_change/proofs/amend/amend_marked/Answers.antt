use Rattle.std.proofs.Common.{◌≡◌, ◌++◌, true, false, Bool, List, ℕ, is_some, refl, sym, ap, subst, ◌∙◌}
use Rattle.sn_layout_node.specs.Directory.{without}
use Rattle.sn_image.specs.Names.{names_in}
use Rattle.sn_dir_change.specs.Changes.{link_for}
use Rattle.sn_dir_change.specs.NameMarks.{AreMarked}
use Rattle.sn_dir_change.specs.declared.name_change.NameChange.{NameChange as TheChange}
use Rattle.sn_dir_change.proofs.MarkLemmas.{unmarked, marked_amended}
use Rattle.sn_dir_change.proofs.amend.amend_marked.Goals as goal

pub returns-then-not-may_have-clause-stood : goal.returns-then-not-may_have-clause-stood
returns-then-not-may_have-clause-stood c =
    let none = unmarked c.args.marks.now.marks c.args.change.now.name.now (names_in c.args.block.now) c.requires.marks (sym c.may_have.ensures ∙ c.if-not-may_have.true) in
    sym (ap is_some none)

pub returns-clause-marks : goal.returns-clause-marks
returns-clause-marks c = told c.amend.result refl
  where
    told : (b : Bool) → c.amend.result ≡ b → AreMarked c.args.marks.now.marks (names_in c.amend.new.block)
    told true is = marked_amended c.args.marks.now.marks c.args.change.now (names_in c.args.block.now) (names_in c.amend.new.block)
        (subst (λ (change : TheChange). names_in c.amend.new.block ≡ without change.name.now (names_in c.args.block.now) ++ link_for change) c.change.ensures (c.amend.ensures.amended is)) (sym c.may_have.ensures ∙ c.if-not-may_have.false) c.requires.marks
    told false is = subst (λ (b : List ℕ). AreMarked c.args.marks.now.marks (names_in b)) (sym (c.amend.ensures.none is)) c.requires.marks
