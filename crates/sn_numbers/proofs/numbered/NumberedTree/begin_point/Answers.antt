use Rattle.std.proofs.Common.{is_some, ◌||◌, ap, ◌∙◌}
use Rattle.std.specs.FinMap as map
use Rattle.sn_plain.specs.Plain.{tree_of}
use Rattle.sn_numbers.proofs.numbered.NumberedTree.begin_point.Goals as goal

pub invariant_of-self : goal.invariant_of-self
invariant_of-self c =
    let old = c.args.self.now in
    record {
      taken = record {
        low = old.taken.low;
        high = old.taken.high;
        taken = λ number least under. ap (λ b. is_some (map.get (tree_of old.tree).nodes number) || b) (c.begin_point.ensures.held number) ∙ old.taken.taken number least under;
      };
    }
