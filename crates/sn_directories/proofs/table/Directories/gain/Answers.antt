use Rattle.std.proofs.Common.{◌≡◌, ℕ, ◌+◌, ◌-◌, ◌^◌, ◌<◌, min, sym, ap, subst, ◌∙◌, arith}
use Rattle.sn_directories.specs.Told.{SetsNames, SetsParent, counted_at}
use Rattle.sn_directories.proofs.TellLemmas.{gains}
use Rattle.sn_directories.proofs.table.Directories.gain.Goals as goal
use Rattle.sn_model.specs.Tree.{names_in}

pub returns : goal.returns
returns c tree link tells same absent few first =
    let old = c.args.self.now in
    let was : c.names_in-names.result ≡ (counted_at old link.directory).names = c.names_in-names.ensures ∙ ap (λ (d : ℕ). (counted_at old d).names) (sym same) in
    let is : c.saturating_add.result ≡ min ((counted_at old link.directory).names + 1) (2 ^ 32 - 1) = omega (arith, c.saturating_add.ensures, was) in
    gains tree link c.args.number old c.set_names.new.self c.set_parent.new.self tells absent (subst (λ (d : ℕ). names_in tree d < 65535) (sym same) few) first c.saturating_add.result is
    (subst (λ (d : ℕ). SetsNames d c.saturating_add.result old c.set_names.new.self) (sym same) c.set_names.ensures)
    (subst (λ (d : ℕ). SetsParent c.args.number d c.set_names.new.self c.set_parent.new.self) (sym same) c.set_parent.ensures)
