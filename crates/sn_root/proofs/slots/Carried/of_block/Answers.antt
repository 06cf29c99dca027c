use Rattle.std.proofs.Common.{◌≡◌, sym, ap, ◌∙◌, arith}
use Rattle.byteorder.specs.Endian.{little_number}
use Rattle.sn_limits.specs.Versions.{limits_of}
use Rattle.sn_root.proofs.SlotLemmas.{version_read, none_of, some_of}
use Rattle.sn_root.proofs.slots.Carried.of_block.Goals as goal

pub returns-then-is_none-clause-spells : goal.returns-then-is_none-clause-spells
returns-then-is_none-clause-spells c =
    let is : little_number 4 c.args.block.now ≡ c.version.result = version_read c.args.block.now c.version.ensures.0 c.version.result (omega arith) c.version.ensures.1 in
    ap limits_of is ∙ sym c.of_version.ensures ∙ none_of c.of_version.result c.if-is_none.ensures

pub returns-in-None-clause-spells : goal.returns-in-None-clause-spells
returns-in-None-clause-spells c =
    let is : little_number 4 c.args.block.now ≡ c.version.result = version_read c.args.block.now c.version.ensures.0 c.version.result (omega arith) c.version.ensures.1 in (
      λ none. some_of c.of_version.result c.if-is_none.ensures (c.of_version.ensures ∙ ap limits_of (sym is) ∙ none),
      λ root fits spelled. let read = c.decode.ensures.only root fits spelled in let none = c.in-None.is in absurd cc,
    )
