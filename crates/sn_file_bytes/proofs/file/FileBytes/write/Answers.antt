use Rattle.std.proofs.Common.{◌≡◌, ℕ, List, ap, ◌∙◌}
use Rattle.sn_model.specs.Changes.{overwritten}
use Rattle.sn_file_bytes.specs.Blocks.{over, values_from}
use Rattle.sn_file_bytes.specs.Bytes.{byte_of}
use Rattle.sn_file_bytes.proofs.ListLemmas.{over_same, overwritten_is}
use Rattle.sn_file_bytes.proofs.file.FileBytes.write.Goals as goal

pub returns-clause-ok : goal.returns-clause-ok
returns-clause-ok c =
    ap (values_from (byte_of c.put.new.self) 0) c.max-self-inside.ensures
    ∙ overwritten_is (byte_of c.self.inside.blocks) c.self.inside.size c.self.invariant (byte_of c.put.new.self) c.args.offset c.args.bytes.now is
    ∙ ap (λ (xs : List ℕ). overwritten xs c.args.offset c.args.bytes.now) c.self.view_is
  where
    is : (k : ℕ) → byte_of c.put.new.self k ≡ over (byte_of c.self.inside.blocks) c.args.offset c.args.bytes.now k
    is k = c.put.ensures k ∙ over_same (byte_of c.fill.new.self) (byte_of c.self.inside.blocks) c.args.offset c.args.bytes.now k (c.in_ok-fill.ensures.same k)
