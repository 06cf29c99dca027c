use Rattle.std.proofs.Common.{◌≡◌, ℕ, true, ◌++◌, Option, sym, ap, subst, ◌∙◌}
use Rattle.std.proofs.lemmas.Bool.{true≢false}
use Rattle.sn_layout_node.specs.Directory.{AreLinks}
use Rattle.sn_image.specs.Names.{names_in}
use Rattle.sn_image.proofs.DecodeLemmas.{directory_read}
use Rattle.sn_dir_change.specs.Changes.{numbered}
use Rattle.sn_dir_change.proofs.BlockLemmas.{spells}
use Rattle.sn_dir_change.proofs.amend.put.Goals as goal

pub returns-in-Some-clause-put : goal.returns-in-Some-clause-put
returns-in-Some-clause-put c = λ done.
    let old = spells c.args.block.now c.requires.block in
    directory_read c.insert.new.block _ (c.insert.ensures.inserted (names_in c.args.block.now) old done)
    ∙ ap (λ (o : Option ℕ). names_in c.args.block.now ++ numbered c.args.change.now.name.now o) (sym c.in-Some.is)

pub returns-in-Some-clause-full : goal.returns-in-Some-clause-full
returns-in-Some-clause-full c = λ none fits.
    let old = spells c.args.block.now c.requires.block in
    let room = subst (λ (o : Option ℕ). AreLinks (names_in c.args.block.now ++ numbered c.args.change.now.name.now o)) c.in-Some.is fits in
    let there : c.insert.result ≡ true = (c.insert.ensures.room (names_in c.args.block.now) old).1 room in
    true≢false (sym there ∙ none)
