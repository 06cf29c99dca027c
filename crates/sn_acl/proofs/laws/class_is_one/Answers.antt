use Rattle.std.proofs.Common.{arith}
use Rattle.sn_acl.proofs.Classes.{for-owner, for-user, for-groups, for-others}
use Rattle.sn_acl.proofs.laws.class_is_one.Goals as goal

pub returns-clause-one : goal.returns-clause-one
returns-clause-one c = λ cred owner group es valid. record {
  owners = λ same. for-owner cred owner group es same (omega (arith, valid.objects.user_obj));
  users = for-user cred owner group es;
  groups = for-groups cred owner group es;
  others = for-others cred owner group es;
}
