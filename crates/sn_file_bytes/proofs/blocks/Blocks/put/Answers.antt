use Rattle.std.proofs.Common.{◌≡◌, ℕ, ◌+◌, ◌-◌, arith, ap, take, drop}
use Rattle.sn_file_bytes.specs.Bytes.{byte_of}
use Rattle.sn_file_bytes.proofs.ListLemmas.{over_more}
use Rattle.sn_file_bytes.proofs.blocks.Blocks.put.Goals as goal

pub loop-done-preserved : goal.loop-done-preserved
loop-done-preserved c =
    let i = c.loop-done.invariant in
    let done = c.loop-done.done in
    let count = c.min-count.result in
    let here : done + count - done ≡ count = omega arith in
    record {
      bytes = over_more (byte_of c.args.self.now) (byte_of c.loop-done.self) (byte_of c.put_piece.new.self) c.args.offset done count c.args.bytes.now _ (omega (arith, c.min-count.ensures, i.few)) (ap (λ (n : ℕ). take n (drop done c.args.bytes.now)) here) i.bytes c.put_piece.ensures.bytes;
      there = λ k a b. c.put_piece.ensures.kept k (i.there k a b);
      few = omega (arith, c.min-count.ensures, i.few);
    }
