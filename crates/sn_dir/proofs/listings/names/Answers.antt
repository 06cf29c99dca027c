use Rattle.sn_dir.proofs.ListedLemmas.{same_names}
use Rattle.sn_dir.proofs.listings.names.Goals as goal

pub returns-clause-names : goal.returns-clause-names
returns-clause-names g c told = same_names c.in_ok-names.names.items c.sort_unstable.new.self.items _ (c.in_ok-names.ensures.names told) c.sort_unstable.ensures.permutation
