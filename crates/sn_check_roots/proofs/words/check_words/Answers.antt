use Rattle.std.proofs.Common.{ℕ, List, subst}
use Rattle.sn_check_roots.specs.Words.{HasOther, in_block}
use Rattle.sn_check_roots.proofs.words.check_words.Goals as goal

pub returns-in-Some-clause-fault : goal.returns-in-Some-clause-fault
returns-in-Some-clause-fault g c told =
    in_block c.in-Some.block (subst (λ (words : List ℕ). HasOther words c.args.map.now c.args.from c.in-Some.block) (c.in_ok-words.ensures.words told) c.in-Some.ensures.some)
