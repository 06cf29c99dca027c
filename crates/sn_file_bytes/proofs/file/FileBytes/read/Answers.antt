use Rattle.std.proofs.Common.{◌≡◌, ◌+◌, ◌-◌, ◌++◌, ℕ, List, min, take, drop, arith, sym, ap, ◌∙◌}
use Rattle.sn_file_bytes.specs.Blocks.{values_from}
use Rattle.sn_file_bytes.specs.Bytes.{byte_of}
use Rattle.sn_file_bytes.proofs.ListLemmas.{past_read, read_is}
use Rattle.sn_file_bytes.proofs.file.FileBytes.read.Goals as goal

pub returns-then-self-offset : goal.returns-then-self-offset
returns-then-self-offset c = c.new.ensures.items ∙ past_read (byte_of c.self.inside.blocks) c.self.inside.size c.args.offset c.args.count c.if-self-offset.true ∙ ap (λ (xs : List ℕ). take c.args.count (drop c.args.offset xs)) c.self.view_is

pub returns : goal.returns
returns c =
    let f = byte_of c.self.inside.blocks in
    let left : c.args.offset + c.min-left.result - c.args.offset ≡ min (c.self.inside.size - c.args.offset) c.args.count = omega (arith, c.min-left.ensures) in
    c.in_ok-read.ensures ∙ ap (λ (xs : List ℕ). xs ++ values_from f c.args.offset (c.args.offset + c.min-left.result - c.args.offset)) c.in_ok-bytes.ensures.items
    ∙ ap (values_from f c.args.offset) left ∙ sym (read_is f c.self.inside.size c.args.offset c.args.count) ∙ ap (λ (xs : List ℕ). take c.args.count (drop c.args.offset xs)) c.self.view_is
