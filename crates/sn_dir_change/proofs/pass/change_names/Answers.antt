use Rattle.sn_dir_change.proofs.pass.change_names.Goals as goal

pub returns-then-amended-clause-way : goal.returns-then-amended-clause-way
returns-then-amended-clause-way c = λ changes front back old way.
    let first = c.amend_standing.ensures.way changes c.args.pending.now.waiting.items front back old way in
    c.put_waiting.ensures.way changes c.amend_standing.new.standing.items front back old first.0 first.1

pub returns-else-amended-clause-way : goal.returns-else-amended-clause-way
returns-else-amended-clause-way c = λ changes front back old way.
    let first = c.amend_standing.ensures.way changes c.args.pending.now.waiting.items front back old way in
    c.put_waiting.ensures.way changes c.amend_standing.new.standing.items front back old first.0 first.1
