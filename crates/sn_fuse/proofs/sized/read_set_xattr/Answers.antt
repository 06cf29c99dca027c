use Rattle.std.proofs.Common.{[], ◌∷◌, ◌∙◌, sym, ap, length, arith}
use Rattle.sn_fuse.specs.Body.{Number, Text, Data}
use Rattle.sn_fuse.specs.Operation.{fields_of}
use Rattle.sn_fuse.specs.declared.operation.Op.TheVariants.{SetXattr}
use Rattle.sn_fuse.proofs.Bodies.{peel_number, peel_text, spelled_size}
use Rattle.sn_fuse.proofs.sized.read_set_xattr.Goals as goal

pub returns-then-remaining-lt8-clause-none : goal.returns-then-remaining-lt8-clause-none
returns-then-remaining-lt8-clause-none c = λ _ flags name value s.
    absurd (omega (arith, ap length c.new-fields.ensures, (spelled_size (fields_of (SetXattr (record { 0 = flags }) name value)) (Data value) c.args.body.now s).1))

pub returns-then-remaining-size-clause-none : goal.returns-then-remaining-size-clause-none
returns-then-remaining-size-clause-none c = λ _ flags name value s.
    let size = peel_number 4 (length value) c.u32-size.result (Number 4 flags ∷ Text name ∷ []) (Data value) c.args.body.now c.u32-size.new.self (omega arith) (sym c.new-fields.ensures ∙ c.u32-size.ensures.read) s in
    let bits = peel_number 4 flags c.u32.result (Text name ∷ []) (Data value) c.u32-size.new.self c.u32.new.self (omega arith) c.u32.ensures.read size.1 in
    let read = c.in_ok-name.ensures.found in
    let rest = peel_text name c.in_ok-name.name [] (Data value) c.u32.new.self c.read_name.new.reader read.0 read.1 bits.1 in
    absurd (omega (arith, size.0, ap length rest.1))
