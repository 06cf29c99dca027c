use Rattle.std.proofs.Common.{refl}
use Rattle.std.specs.Prelude.{map}
use Rattle.std.proofs.lemmas.List.Sorted.{IsPermutation-refl}
use Rattle.sn_acl_xattr.specs.Values.{raw_of}
use Rattle.sn_acl_xattr.proofs.Raws.{raws_fit, raws_are}
use Rattle.sn_acl_xattr.proofs.laws.written_values_are_read.Goals as goal

pub returns : goal.returns
returns c = λ acl valid. record {
  entries = acl;
  has = record { raws = map raw_of acl; bytes = refl; fit = raws_fit acl valid.numbers; are = raws_are acl };
  order = IsPermutation-refl acl;
}
