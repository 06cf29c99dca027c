use Rattle.std.proofs.Common.{◌≡◌, ◌≤◌, true, false, []}
use Rattle.sn_untar.specs.Steps.{is_ended, start, state_of}
use Rattle.sn_import_calls.specs.Carried.{Adds}
use Rattle.sn_import_run.proofs.Done.{Progress}
use Rattle.sn_import_run.proofs.imports.make_entries.Given as goal

-- the entries so far are done, and the archive isn't at its end; where no block was read, there are none
abbrev pub invariant-loop-turn : goal.invariant-loop-turn
invariant-loop-turn g l = (l.count ≤ l._turn) × (is_ended (state_of l.untar).phase ≡ false)
    × Adds (g.C.Calls.did l.fn.to) (g.C.Calls.did l.to) (λ acts.
    (p : Progress l.names l.directory (g.R.Read.remaining l.fn.archive) (state_of l.untar) (g.R.Read.remaining l.archive) l.count acts l.directories.items)
    × (l.is_empty ≡ true → (p.parts ≡ []) × (state_of l.untar ≡ start)))
