use Rattle.std.proofs.Common.{◌≡◌, ◌++◌, true, List, [], length, refl, sym, ap, subst, ◌∙◌, arith}
use Rattle.sn_layout_node.specs.Directory.{Link, AreLinks}
use Rattle.sn_image.specs.Names.{names_in}
use Rattle.sn_image.proofs.DecodeLemmas.{directory_read}
use Rattle.sn_dir_change.specs.Changes.{link_for}
use Rattle.sn_dir_change.proofs.BlockLemmas.{true_is}
use Rattle.sn_dir_change.proofs.FillLemmas.{change_alone, first_put, first_from, block_filled, put_some}
use Rattle.sn_dir_change.proofs.ThroughLemmas.{none_gone}
use Rattle.sn_dir_change.proofs.fill.filled.Goals as goal

pub returns-clause-way : goal.returns-clause-way
returns-clause-way c = λ changes names old way.
    let waiting = c.args.waiting.now.items in
    let change = c.args.change.now in
    let empty = directory_read c.clear.new.block [] c.clear.ensures in
    let fits = subst (λ (ls : List Link). AreLinks (ls ++ link_for change)) (sym empty) (change_alone change c.requires.change) in
    let there : c.put.result ≡ true = true_is c.put.result (λ no. c.put.ensures.full no fits) in
    let made = c.put.ensures.put there ∙ ap (λ (ls : List Link). ls ++ link_for change) empty in
    let first = first_put changes waiting change names old (names_in c.put.new.block) way made in
    let moved = c.put_waiting.ensures.way changes [] names [] old first (none_gone [] (names_in c.put.new.block) refl) in
    block_filled changes c.put_waiting.new.waiting.items names (names_in c.put_waiting.new.block) old moved.0

pub returns-clause-from : goal.returns-clause-from
returns-clause-from c =
    let change = c.args.change.now in
    let empty = directory_read c.clear.new.block [] c.clear.ensures in
    let fits = subst (λ (ls : List Link). AreLinks (ls ++ link_for change)) (sym empty) (change_alone change c.requires.change) in
    let there : c.put.result ≡ true = true_is c.put.result (λ no. c.put.ensures.full no fits) in
    let made = c.put.ensures.put there ∙ ap (λ (ls : List Link). ls ++ link_for change) empty in
    first_from c.args.waiting.now.items change (names_in c.put.new.block) (names_in c.put_waiting.new.block) made c.put_waiting.ensures.from

pub returns-clause-some : goal.returns-clause-some
returns-clause-some c = λ put.
    let change = c.args.change.now in
    let empty = directory_read c.clear.new.block [] c.clear.ensures in
    let fits = subst (λ (ls : List Link). AreLinks (ls ++ link_for change)) (sym empty) (change_alone change c.requires.change) in
    let there : c.put.result ≡ true = true_is c.put.result (λ no. c.put.ensures.full no fits) in
    let made : names_in c.put.new.block ≡ [] ++ link_for change = c.put.ensures.put there ∙ ap (λ (ls : List Link). ls ++ link_for change) empty in
    omega (arith, ap (λ (ls : List Link). length ls) made, put_some change.name.now change.number put, c.put_waiting.ensures.more)
