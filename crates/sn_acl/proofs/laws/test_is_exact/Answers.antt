use Rattle.sn_acl.proofs.Validity.{valid-from_test, test-from_valid}
use Rattle.sn_acl.proofs.laws.test_is_exact.Goals as goal

pub returns : goal.returns
returns c = λ es. (valid-from_test es, test-from_valid es)
