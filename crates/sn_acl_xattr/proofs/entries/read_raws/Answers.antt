use Rattle.std.proofs.Common.{◌≡◌, ◌∙◌, ◌++◌, [], ◌∷◌, List, Some, refl, sym, ap, subst, append_assoc, arith}
use Rattle.std.proofs.lemmas.Grind.{common_steps}
use Rattle.sn_bytes.proofs.Fields.{some_some}
use Rattle.sn_bytes.proofs.Reading.{AreLeft, next_is, none_left, bytes_more, each_more}
use Rattle.sn_acl_xattr.specs.declared.entries.RawEntry.{RawEntry}
use Rattle.sn_acl_xattr.specs.Values.{IsRaw, raw_bytes, raws_bytes}
use Rattle.sn_acl_xattr.proofs.entries.read_raws.Goals as goal

pub loop-preserved : goal.loop-preserved
loop-preserved c = record {
  count = grind (arith, common_steps);
  each = rw c.push.ensures.items (each_more IsRaw c.loop.raws.items c.read.result c.loop.invariant.each c.read.ensures.fits);
  read = rw (c.push.ensures.items, bytes_more raw_bytes c.loop.raws.items c.read.result) (c.loop.invariant.read ∙ ap (λ r. raws_bytes c.loop.raws.items ++ r) c.read.ensures.read ∙ sym (append_assoc (raws_bytes c.loop.raws.items) (raw_bytes c.read.result) c.read.new.reader));
  left = omega (arith, c.read.ensures.left);
  only = λ others rest len each e.
      let some : RawEntry → _ = λ raw. Some raw in
      let next = next_is IsRaw raw_bytes c.loop.raws.items others c.loop.reader c.read.new.reader rest (some c.read.result) (λ raw more is bytes. (let got = c.read.ensures.only raw more is bytes in (ap some got.0, got.1))) (omega arith) (c.loop.invariant.only others rest len each e) in
      let same = some_some (some c.read.result) next.0 c.read.result next.1 refl in
      let pushed : c.loop.raws.items ++ next.0 ∷ [] ≡ c.push.new.self.items = ap (λ (raw : RawEntry). c.loop.raws.items ++ raw ∷ []) same ∙ sym c.push.ensures.items in
      subst (λ (all : List RawEntry). AreLeft IsRaw raw_bytes all others c.read.new.reader rest) pushed next.2;
}

pub returns-clause-only : goal.returns-clause-only
returns-clause-only c = λ others rest len each e.
    let all = none_left IsRaw raw_bytes c.loop.raws.items others c.loop.reader rest (omega arith) (c.loop.invariant.only others rest len each e) in
    (sym all.0, all.1)
