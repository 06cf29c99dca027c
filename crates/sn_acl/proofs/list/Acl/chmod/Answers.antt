use Rattle.std.proofs.Common.{arith, rules}
use Rattle.sn_acl.proofs.ModeLemmas.{IsMode, valid-with_mode}
use Rattle.sn_acl.proofs.Shown.{mode_of-with_mode}
use Rattle.sn_acl.proofs.list.Acl.chmod.Goals as goal

pub invariant_of-self : goal.invariant_of-self
invariant_of-self c =
    let within : IsMode c.args.mode = record { owner = omega arith; group = search rules; other = grind arith } in
    rw (c.with_mode-self-inside.ensures, c.entries.ensures.value) (valid-with_mode c.args.mode c.args.self.now within c.entries.ensures.valid)

pub returns-clause-shown : goal.returns-clause-shown
returns-clause-shown c =
    rw (c.with_mode-self-inside.ensures, c.entries.ensures.value) (mode_of-with_mode c.args.mode c.args.self.now c.entries.ensures.valid)
