use Rattle.std.proofs.Common.{◌≡◌, ◌+◌, ℕ, List, ◌++◌, length, take, refl, ap, subst, ◌∙◌, append_assoc, length-append, arith}
use Rattle.std.specs.Prelude.{OnOk}
use Rattle.sn_bytes.specs.Bytes.{number_bytes, Puts}
use Rattle.sn_bytes.proofs.Fields.{length-number_bytes}
use Rattle.sn_fuse_replies.specs.Answer.{error_number, head_bytes, fixed_bytes, reply_bytes, reply_size}
use Rattle.sn_fuse_replies.proofs.Front.{front_of}
use Rattle.sn_fuse_replies.proofs.reply.encode.Goals as goal

length-head : (size error unique : ℕ) → length (head_bytes size error unique) ≡ 16
length-head size error unique = omega (arith, length-append (number_bytes 4 size ++ number_bytes 4 error) (number_bytes 8 unique), length-append (number_bytes 4 size) (number_bytes 4 error), length-number_bytes 4 size, length-number_bytes 4 error, length-number_bytes 8 unique)

pub returns-clause-ok : goal.returns-clause-ok
returns-clause-ok c =
    let answer = c.args.answer.now in
    let out = c.args.out.now.items in
    let end = c.put_fixed-end.result in
    let front = take end c.put_head.new.block in
    let tail = c.tail_of-tail.result.now in
    let head = head_bytes (end + length tail) c.error_of.result c.args.unique in
    let put = subst (λ (n : ℕ). Puts c.put_fixed-end.new.block c.put_head.new.block 0 n head) c.put_head.ensures.next c.put_head.ensures.bytes in
    let numbers : front ≡ head ++ fixed_bytes answer = front_of _ _ _ head (fixed_bytes answer) end (omega arith) (length-head (end + length tail) c.error_of.result c.args.unique) c.put_fixed-end.ensures.bytes put in
    let size : end + length tail ≡ reply_size answer = omega (arith, c.put_fixed-end.ensures.bytes.moved, ap length c.tail_of-tail.ensures) in
    let same : head ≡ head_bytes (reply_size answer) (error_number answer) c.args.unique = rw (size, c.error_of.ensures) refl in
    let whole : (out ++ front) ++ tail ≡ out ++ reply_bytes c.args.unique answer =
    append_assoc out front tail
    ∙ ap (λ (r : List ℕ). out ++ (r ++ tail)) (numbers ∙ ap (λ (r : List ℕ). r ++ fixed_bytes answer) same)
    ∙ ap (λ (r : List ℕ). out ++ ((head_bytes (reply_size answer) (error_number answer) c.args.unique ++ fixed_bytes answer) ++ r)) c.tail_of-tail.ensures in
    subst (λ (r : List ℕ). OnOk c.push.result (c.push.new.out.items ≡ r)) whole c.push.ensures.ok
