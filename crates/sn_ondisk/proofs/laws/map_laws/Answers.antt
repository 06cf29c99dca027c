use Rattle.std.proofs.Common.{◌∙◌}
use Rattle.sn_ondisk.proofs.MapBlockLemmas.{blocks_make, map_blocks_spelled}
use Rattle.sn_ondisk.proofs.MapLemmas.{map_word-spelled, map_is_one, HasMap-same, map_word-same}
use Rattle.sn_ondisk.proofs.laws.map_laws.Goals as goal

pub returns-clause-words : goal.returns-clause-words
returns-clause-words c = map_word-spelled

pub returns-clause-one : goal.returns-clause-one
returns-clause-one c = map_is_one

pub returns-clause-depends : goal.returns-clause-depends
returns-clause-depends c n slot words a b whole_a whole_b agrees = HasMap-same n a b slot words (λ i from to. agrees.same i (from, to))

pub returns-clause-word_depends : goal.returns-clause-word_depends
returns-clause-word_depends c n slot block word a b whole_a whole_b agrees is = map_word-same n a b slot block (λ i from to. agrees.same i (from, to)) ∙ is

pub returns-clause-made : goal.returns-clause-made
returns-clause-made c = blocks_make

pub returns-clause-blocks : goal.returns-clause-blocks
returns-clause-blocks c = map_blocks_spelled
