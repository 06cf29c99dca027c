use Rattle.std.proofs.Common.{◌≡◌, ◌<◌, ℕ, List, ap, ◌∙◌}
use Rattle.sn_model.specs.Changes.{resized}
use Rattle.sn_file_bytes.specs.Bytes.{byte_of}
use Rattle.sn_file_bytes.proofs.ListLemmas.{cut_in, resized_is}
use Rattle.sn_file_bytes.proofs.file.FileBytes.set_size.Goals as goal
use Rattle.sn_file_bytes.proofs.file.FileBytes.set_size.Goals.{then-size-self, else-size-self}

pub returns : goal.returns
returns c = resized_is (byte_of c.self.inside.blocks) c.self.inside.size c.self.invariant (byte_of c.if-size-self.self-inside.blocks) c.args.size same ∙ ap (λ (xs : List ℕ). resized xs c.args.size) c.self.view_is
  where
    same : (k : ℕ) → k < c.args.size → byte_of c.if-size-self.self-inside.blocks k ≡ byte_of c.self.inside.blocks k
    same k low = elim c.if-size-self.branch [ then-size-self w ↦ ap (λ x. byte_of x.blocks k) w.self-inside-is ∙ w.cut.ensures k ∙ cut_in (byte_of c.self.inside.blocks) c.args.size k low | else-size-self w ↦ ap (λ x. byte_of x.blocks k) w.self-inside-is ]
