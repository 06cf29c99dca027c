use Rattle.std.proofs.Common.{◌∙◌, sym, ap, cond, not, ◌&&◌, Some, None}
use Rattle.std.specs.Prelude.{◌==◌}
use Rattle.std.specs.FinMap as fin
use Rattle.std.proofs.lemmas.Bool.{ne_eqb}
use Rattle.sn_layout.specs.Snapshot.{has_no_bit}
use Rattle.sn_snap.specs.Catalogue.{catalogue, entry_of}
use Rattle.sn_snap.proofs.NameLemmas.{absent, by_name-others, by_name-with, names_total, unlike}
use Rattle.sn_snap.proofs.ChangeLemmas.{list_all-with, put_and_taken}
use Rattle.sn_snap.proofs.laws.changes_leave_the_others.Goals as goal

pub returns-clause-with : goal.returns-clause-with
returns-clause-with c = λ s snapshots other apart new.
    ap (λ m. fin.get m other) (by_name-with entry_of s snapshots (absent entry_of snapshots s.name new))
    ∙ fin.get-insert names_total (catalogue snapshots) s.name (entry_of s) other
    ∙ ap (λ b. cond b (Some (entry_of s)) (fin.get (catalogue snapshots) other)) (unlike other s.name apart)

pub returns-clause-without : goal.returns-clause-without
returns-clause-without c = λ name snapshots other apart.
    ap (λ m. fin.get m other) (by_name-others entry_of name snapshots)
    ∙ fin.get-remove names_total (catalogue snapshots) name other
    ∙ ap (λ b. cond b None (fin.get (catalogue snapshots) other)) (unlike other name apart)

pub returns-clause-bits : goal.returns-clause-bits
returns-clause-bits c = λ s snapshots bit apart.
    list_all-with (λ other. not (other.bit == bit)) s snapshots ∙ ap (λ b. not b && has_no_bit bit snapshots) (ne_eqb s.bit bit (λ same. apart (sym same)))

pub returns-clause-taken_back : goal.returns-clause-taken_back
returns-clause-taken_back c = λ s snapshots new. put_and_taken s snapshots (absent entry_of snapshots s.name new)
