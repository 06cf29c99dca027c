use Rattle.std.proofs.Common.{◌≡◌, ℕ, zero, suc, List, [], take, drop, refl, sym, ap, ◌∙◌}
use Rattle.sn_numbers.specs.Live.{live_of}
use Rattle.sn_plain_world.proofs.ViewLemmas.{frozen_bytes}
use Rattle.sn_plain_world.proofs.view.PlainViewFileView.read.Goals as goal

none_taken : (count : ℕ) → take {A = ℕ} count [] ≡ []
none_taken zero = refl
none_taken (suc count) = refl

none_read : (count offset : ℕ) → take {A = ℕ} count (drop {A = ℕ} offset []) ≡ []
none_read count zero = none_taken count
none_read count (suc offset) = none_taken count

pub returns-in-Frozen-clause-found : goal.returns-in-Frozen-clause-found
returns-in-Frozen-clause-found c told =
    c.new-in-Frozen.ensures.items
    ∙ sym (ap (λ (bytes : List ℕ). take c.args.most (drop c.args.offset bytes)) (frozen_bytes (live_of c.args.self.now.tree.now) c.args.number c.args.home.now _ c.in-Frozen.is) ∙ none_read c.args.most c.args.offset)
