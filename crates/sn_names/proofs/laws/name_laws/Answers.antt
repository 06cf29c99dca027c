use Rattle.std.proofs.Common.{inl, inr}
use Rattle.sn_names.specs.Index.{entries_of}
use Rattle.sn_names.proofs.ToldLemmas.{stays}
use Rattle.sn_names.proofs.laws.name_laws.Goals as goal

pub returns : goal.returns
returns c = λ sectors s r index told same. stays sectors s r index.tree index.numbers.items index.rooms.items (entries_of index) index.level told
    (λ b some has. same b (some, inl has)) (λ b some has. same b (some, inr has))
