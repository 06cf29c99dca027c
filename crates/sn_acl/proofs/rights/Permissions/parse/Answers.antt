use Rattle.std.proofs.Common.{ap, sym, ◌∙◌}
use Rattle.std.specs.Prelude.{Some}
use Rattle.std.specs.Cmp.Lexicographic.{bytes_decides}
use Rattle.sn_acl.proofs.RightsLemmas.{permissions_text-injective}
use Rattle.sn_acl.proofs.rights.Permissions.parse.Goals as goal

pub returns-then-eq-clause-only : goal.returns-then-eq-clause-only
returns-then-eq-clause-only c = λ p small is.
    let same = (bytes_decides c.as_bytes.result.now c.args.letters.now).0 (sym c.eq.ensures ∙ c.if-eq.true) in
    ap Some (permissions_text-injective c.loop-bits.bits p c.loop-bits-test.true small
    (sym c.as_str.ensures ∙ (sym c.as_bytes.ensures.value ∙ (same ∙ is))))
