use Rattle.std.proofs.Common.{◌≡◌, sym, ap, subst, ◌∙◌, arith}
use Rattle.sn_layout.specs.declared.superblock.Superblock.{Superblock}
use Rattle.sn_model.proofs.ChainLemmas.{some_same}
use Rattle.sn_examine.specs.Examining.{IsOfRoots}
use Rattle.sn_examine.proofs.ExamineLemmas.{read_of_roots}
use Rattle.sn_examine.proofs.examining.disk_size.Goals as goal

pub returns-in_default-clause-refuses : goal.returns-in_default-clause-refuses
returns-in_default-clause-refuses g c told some =
    let other : Superblock = record { geometry = some.0 } in
    c.in_default.not-Some other (c.decode.ensures.only other some.1.size (c.in-Ok.ensures.bytes told ∙ some.1.spelled))

pub returns-then-from-sectors-clause-refuses : goal.returns-then-from-sectors-clause-refuses
returns-then-from-sectors-clause-refuses g c told some =
    let other : Superblock = record { geometry = some.0 } in
    let same = some_same c.in-Some.superblock other (sym c.in-Some.is ∙ c.decode.ensures.only other some.1.size (c.in-Ok.ensures.bytes told ∙ some.1.spelled)) in
    let size : c.in-Some.superblock.geometry ≡ some.0 = ap (λ (x : Superblock). x.geometry) same in
    absurd (omega (arith, some.1.room, c.if-from-sectors.true, c.sectors-sectors.ensures, c.from.ensures, c.blocks-2.ensures.blocks, size))

pub returns-in-Err-clause-roots : goal.returns-in-Err-clause-roots
returns-in-Err-clause-roots g c = subst IsOfRoots (sym c.fault_of.ensures) (read_of_roots c.in-Err.fault)
