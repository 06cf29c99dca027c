use Rattle.sn_cp_held.proofs.WholeLemmas.{begin_leaves, has_begun}
use Rattle.sn_cp_held.proofs.laws.begin_laws.Goals as goal

pub returns : goal.returns
returns c h world r result d between begins = (begin_leaves h world r result d between begins, has_begun h world r result d between begins)
