use Rattle.std.proofs.Common.{◌≡◌, ℕ, true, false, List, ◌++◌, Option, None, sym, ap, subst, ◌∙◌}
use Rattle.std.specs.Prelude.{is_some}
use Rattle.sn_layout_node.specs.Directory.{Link, Spells, number_of, without}
use Rattle.sn_image.specs.Names.{names_in}
use Rattle.sn_image.proofs.DecodeLemmas.{directory_read}
use Rattle.sn_dir_change.specs.Changes.{link_for}
use Rattle.sn_dir_change.proofs.NameLemmas.{without-none}
use Rattle.sn_dir_change.proofs.PassLemmas.{is_none}
use Rattle.sn_dir_change.proofs.BlockLemmas.{true_is, spells, same_bytes, change_fits}
use Rattle.sn_dir_change.proofs.amend.amend.Goals as goal

pub returns-then-is_none-clause-stood : goal.returns-then-is_none-clause-stood
returns-then-is_none-clause-stood c =
    let old = spells c.args.block.now c.requires.block in
    let none : is_some c.remove.result ≡ false = cc (c.is_none.ensures, c.if-is_none.true) in
    sym none ∙ ap (λ (o : Option ℕ). is_some o) (c.remove.ensures.number (names_in c.args.block.now) old)

pub returns-then-is_none-clause-none : goal.returns-then-is_none-clause-none
returns-then-is_none-clause-none c = λ no.
    let name = c.args.change.now.name.now in
    let names = names_in c.args.block.now in
    let old = spells c.args.block.now c.requires.block in
    let no_number : is_some c.remove.result ≡ false = cc (c.is_none.ensures, c.if-is_none.true) in
    let none : number_of name names ≡ None = sym (c.remove.ensures.number names old) ∙ is_none c.remove.result no_number in
    same_bytes c.args.block.now c.remove.new.block names old (subst (λ (ls : List Link). Spells c.remove.new.block ls) (without-none name names none) (c.remove.ensures.removed names old))

pub returns-clause-stood : goal.returns-clause-stood
returns-clause-stood c =
    let name = c.args.change.now.name.now in
    let names = names_in c.args.block.now in
    let old = spells c.args.block.now c.requires.block in
    let number : is_some c.remove.result ≡ true = cc (c.is_none.ensures, c.if-is_none.false) in
    let some : is_some (number_of name names) ≡ true = ap (λ (o : Option ℕ). is_some o) (sym (c.remove.ensures.number names old)) ∙ number in
    let less = directory_read c.remove.new.block (without name names) (c.remove.ensures.removed names old) in
    let fits = change_fits names _ c.args.change.now less old.fit c.requires.change some in
    true_is c.put.result (λ none. c.put.ensures.full none fits) ∙ sym some

pub returns-clause-amended : goal.returns-clause-amended
returns-clause-amended c = λ done.
    let name = c.args.change.now.name.now in
    let names = names_in c.args.block.now in
    let old = spells c.args.block.now c.requires.block in
    let less = directory_read c.remove.new.block (without name names) (c.remove.ensures.removed names old) in
    c.put.ensures.put done ∙ ap (λ (ls : List Link). ls ++ link_for c.args.change.now) less

pub returns-clause-none : goal.returns-clause-none
returns-clause-none c = λ no.
    let name = c.args.change.now.name.now in
    let names = names_in c.args.block.now in
    let old = spells c.args.block.now c.requires.block in
    let number : is_some c.remove.result ≡ true = cc (c.is_none.ensures, c.if-is_none.false) in
    let some : is_some (number_of name names) ≡ true = ap (λ (o : Option ℕ). is_some o) (sym (c.remove.ensures.number names old)) ∙ number in
    let less = directory_read c.remove.new.block (without name names) (c.remove.ensures.removed names old) in
    let fits = change_fits names _ c.args.change.now less old.fit c.requires.change some in
    absurd (c.put.ensures.full no fits)
