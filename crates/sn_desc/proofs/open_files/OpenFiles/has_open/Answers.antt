use Rattle.std.proofs.Common.{◌<◌, ◌≤◌, ⊎_elim, below_more, sym, ◌∙◌, arith}
use Rattle.std.proofs.lemmas.Bool.{cases_lt, true≢false}
use Rattle.sn_desc.specs.OpenFiles.{files_of}
use Rattle.sn_desc.proofs.OpenLemmas.{none_past}
use Rattle.sn_desc.proofs.open_files.OpenFiles.has_open.Goals as goal

pub loop-seat-preserved : goal.loop-seat-preserved
loop-seat-preserved c = below_more _ _ c.loop-seat.invariant (λ is. true≢false (sym (c.is_open_in.ensures.1 is) ∙ c.if-is_open_in.false))

pub returns : goal.returns
returns c = (
  λ no. absurd (true≢false (sym no)),
  λ (seat, is). absurd (⊎_elim
      (λ (low : seat < 4096). c.loop-seat.invariant seat (omega (arith, low)) is)
      (λ (past : 4096 ≤ seat). none_past (files_of c.args.self.now) c.args.home.now seat (omega (arith, past, c.args.self.now.counted.seats)) is)
      (cases_lt seat 4096)),
)
