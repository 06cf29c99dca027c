use Rattle.std.proofs.Common.{eqb, sym, ◌∙◌}
use Rattle.sn_overlay.specs.Lists.{changed_names}
use Rattle.sn_overlay.proofs.ListLemmas.{kept-names_of}
use Rattle.sn_overlay.proofs.overlay.Overlay.names_of.Goals as goal

pub returns : goal.returns
unfolding changed_names
returns c = c.names_of.ensures ∙ sym (kept-names_of c.args.self.now.names.entries.items (λ link. eqb link.directory c.args.directory) c.args.self.now.names.sorted)
