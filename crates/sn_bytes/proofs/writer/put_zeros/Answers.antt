use Rattle.std.proofs.Common.{◌≡◌, ◌+◌, ◌-◌, ◌++◌, [], List, ℕ, length, take, drop, refl, ap, sym, ◌∙◌, arith}
use Rattle.std.proofs.lemmas.List.{append-nil, drop_all, length-take-le, length-drop}
use Rattle.sn_bytes.specs.Bytes.{zeros}
use Rattle.sn_bytes.proofs.Fields.{length-zeros, puts_part}
use Rattle.sn_bytes.proofs.writer.put_zeros.Goals as goal

pub returns-clause-bytes : goal.returns-clause-bytes
returns-clause-bytes c =
    let part = take (c.args.at + c.args.count - c.args.at) (drop c.args.at c.args.block.now) in
    let count : length part ≡ c.args.count = length-take-le (c.args.at + c.args.count - c.args.at) (drop c.args.at c.args.block.now) (omega (arith, length-drop c.args.at c.args.block.now)) ∙ omega arith in
    let none : drop c.args.count part ≡ [] = drop_all c.args.count part (omega (arith, count)) in
    let blank : c.fill_zeros.new.part ≡ zeros c.args.count ++ drop c.args.count part = c.fill_zeros.ensures ∙ ap zeros count ∙ sym (append-nil (zeros c.args.count)) ∙ ap (λ (r : List ℕ). zeros c.args.count ++ r) (sym none) in
    puts_part c.args.block.now (zeros c.args.count) c.fill_zeros.new.part c.args.at (c.args.at + c.args.count - c.args.at) c.args.count (c.args.at + c.args.count) (omega arith) (omega arith) (length-zeros c.args.count) refl blank
