use Rattle.std.proofs.Common.{sym, ap, ◌∙◌}
use Rattle.sn_walk.specs.declared.object.Object.{Object}
use Rattle.sn_model.specs.Seen.{listed}
use Rattle.sn_numbers.specs.Live.{live_of}
use Rattle.sn_plain_world.specs.Plain.{plain_trees}
use Rattle.sn_plain_world.proofs.ViewLemmas.{frozen_names, no_keys}
use Rattle.sn_plain_world.proofs.view.PlainViewFileView.listed.Goals as goal

pub returns-in_default-clause-found : goal.returns-in_default-clause-found
returns-in_default-clause-found c told =
    c.new-in_default.ensures ∙ c.new.ensures.items
    ∙ sym (ap (λ (o : Object). listed (plain_trees (live_of c.args.self.now.tree.now)) o) c.in_default.is ∙ no_keys (live_of c.args.self.now.tree.now))

pub returns-in-Frozen-clause-found : goal.returns-in-Frozen-clause-found
returns-in-Frozen-clause-found c told =
    c.new-in-Frozen-2.ensures ∙ c.new-in-Frozen.ensures.items
    ∙ sym (ap (λ (o : Object). listed (plain_trees (live_of c.args.self.now.tree.now)) o) c.in-Node.is ∙ frozen_names (live_of c.args.self.now.tree.now) c.in-Node.number c.in-Node.home _ c.in-Frozen.is)
