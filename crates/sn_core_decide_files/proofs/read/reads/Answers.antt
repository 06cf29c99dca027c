use Rattle.std.proofs.Common.{◌≡◌, ◌+◌, ℕ, List, length, take, drop, ap, ◌∙◌, arith}
use Rattle.sn_model.specs.declared.outcome.Caller.TheVariants.{Moves}
use Rattle.sn_model.specs.declared.reply.Reply.TheVariants.{Content}
use Rattle.sn_model.specs.Outcomes.{asks}
use Rattle.sn_core_decide_files.proofs.read.reads.Goals as goal

pub returns-clause-found : goal.returns-clause-found
returns-clause-found g c told =
    let file = c.args.file.now in
    let read : List ℕ = take c.args.count (drop file.offset (g.V.FileView.bytes c.args.view.now file.home file.number)) in
    let items : c.in_ok-bytes.bytes.items ≡ read = c.in_ok-bytes.ensures.found told in
    let count : c.len.result ≡ length read = omega (arith, c.len.ensures, c.in_ok-bytes.bytes.ok.0, ap (λ (b : List ℕ). length b) items) in
    c.asks.ensures
    ∙ ap (λ (n : ℕ). asks (Moves c.args.fd (file.offset + n)) (Content c.new.result)) count
    ∙ ap (λ (b : List ℕ). asks (Moves c.args.fd (file.offset + length read)) (Content b)) (c.new.ensures ∙ items)
