use Rattle.std.proofs.Common.{◌≡◌, ◌+◌, ◌-◌, ◌++◌, List, ℕ, [], length, take, drop, refl, sym, ap, ◌∙◌, arith}
use Rattle.std.proofs.lemmas.List.{append-nil, drop_all, length-take-le, length-drop}
use Rattle.sn_bytes.proofs.Fields.{puts_part}
use Rattle.sn_bytes.proofs.writer.put_bytes.Goals as goal

pub returns : goal.returns
returns c =
    let bytes = c.args.bytes.now in
    let part = take (c.args.at + length bytes - c.args.at) (drop c.args.at c.args.block.now) in
    let count : length part ≡ length bytes = length-take-le (c.args.at + length bytes - c.args.at) (drop c.args.at c.args.block.now) (omega (arith, length-drop c.args.at c.args.block.now)) ∙ omega arith in
    let none : drop (length bytes) part ≡ [] = drop_all (length bytes) part (omega (arith, count)) in
    let made : c.copy_from_slice.new.self ≡ bytes ++ drop (length bytes) part = c.copy_from_slice.ensures.after ∙ sym (append-nil bytes) ∙ ap (λ (r : List ℕ). bytes ++ r) (sym none) in
    puts_part c.args.block.now bytes c.copy_from_slice.new.self c.args.at (c.args.at + length bytes - c.args.at) (length bytes) (c.args.at + length bytes) (omega arith) (omega arith) refl refl made
