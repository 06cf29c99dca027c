use Rattle.std.proofs.Common.{ℕ, ◌-◌, sym, ap, subst, ◌∙◌}
use Rattle.sn_directories.specs.Told.{SetsNames, counted_at}
use Rattle.sn_directories.proofs.TellLemmas.{loses}
use Rattle.sn_directories.proofs.table.Directories.lose.Goals as goal

pub returns : goal.returns
returns c tree link number tells same named =
    let old = c.args.self.now in
    loses tree link number old c.set_names.new.self tells named c.saturating_sub.result
    (c.saturating_sub.ensures ∙ ap (λ (n : ℕ). n - 1) (c.names_in-names.ensures ∙ ap (λ (d : ℕ). (counted_at old d).names) (sym same)))
    (subst (λ (d : ℕ). SetsNames d c.saturating_sub.result old c.set_names.new.self) (sym same) c.set_names.ensures)
