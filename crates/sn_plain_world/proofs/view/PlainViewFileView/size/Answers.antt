use Rattle.std.proofs.Common.{ℕ, List, length, sym, ap}
use Rattle.sn_numbers.specs.Live.{live_of}
use Rattle.sn_plain_world.proofs.ViewLemmas.{frozen_bytes}
use Rattle.sn_plain_world.proofs.view.PlainViewFileView.size.Goals as goal

pub returns-in-Frozen-clause-found : goal.returns-in-Frozen-clause-found
returns-in-Frozen-clause-found c told =
    sym (ap (λ (bytes : List ℕ). length bytes) (frozen_bytes (live_of c.args.self.now.tree.now) c.args.number c.args.home.now _ c.in-Frozen.is))
