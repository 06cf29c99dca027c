use Rattle.sn_desc.proofs.HeldLemmas.{none_counted, none_live}
use Rattle.sn_desc.proofs.open_files.OpenFiles.new.Goals as goal

pub invariant_of-result : goal.invariant_of-result
invariant_of-result c = record { counted = none_counted _ _ c.in_ok-new.ensures.files (c.in_ok-vec.ensures.items_if_clones_equal (λ y h. h)); live_counted = none_live _ c.in_ok-new.ensures.files }
