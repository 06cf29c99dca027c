use Rattle.std.proofs.Common.{◌≡◌, true, nat_le, nat_lt, length, refl, arith}
use Rattle.std.specs.List.{list_all}
use Rattle.std.proofs.lemmas.Bool.{le-leb}
use Rattle.sn_model.proofs.ByteLemmas.{all_bytes}
use Rattle.sn_core_decide_rules.proofs.arguments.bytes_argument.Goals as goal

pub returns : goal.returns
returns c =
    let bytes = c.args.bytes.now in
    let few : nat_le (length bytes) 65536 ≡ true = le-leb (length bytes) 65536 (omega (arith, c.if-bytes-gt65536.false)) in
    let all : list_all (λ b. nat_lt b 256) bytes ≡ true = all_bytes bytes (λ i. omega (arith, c.type_inv.bytes i)) in
    rw few (rw all refl)
