use Rattle.std.proofs.Common.{◌<◌, length, refl, sym, ◌∙◌, arith}
use Rattle.sn_content.proofs.ContentLemmas.{first_dirty}
use Rattle.sn_content.proofs.inline.dirty_first.Goals as goal

pub returns-then-first-eq0-clause-some : goal.returns-then-first-eq0-clause-some
returns-then-first-eq0-clause-some c = λ keep old.
    let some : 0 < length c.args.dirty.now.items = omega (arith, c.in_ok-first.ensures.variant.0 refl, c.args.dirty.now.ok) in
    first_dirty c.args.dirty.now.items c.in_ok-first.first.now some c.in_ok-first.ensures.lookup c.if-first-eq0.true keep old ∙ sym c.deref.ensures
