use Rattle.std.proofs.Common.{ℕ, List, ap, refl, subst}
use Rattle.sn_serve.specs.Answers.{done, told_as}
use Rattle.sn_serve.specs.declared.told.Told.TheVariants as told
use Rattle.sn_serve.proofs.Telling.{follows_told}
use Rattle.sn_plan.specs.Asking.{login_by}
use Rattle.sn_serve_looks.specs.Messages as looks
use Rattle.sn_serve_looks.specs.Xattrs.{IsRead}
use Rattle.sn_serve.proofs.performing.on_attributes.Goals as goal

pub returns-in-GetAttr : goal.returns-in-GetAttr
returns-in-GetAttr g c = rw c.in-GetAttr.is (follows_told told.Known c.getattr.result c.known.result c.known.ensures refl c.getattr.ensures)

pub returns-in-SetAttr : goal.returns-in-SetAttr
returns-in-SetAttr g c = rw c.in-SetAttr.is (follows_told told.Known c.setattr.result c.known-in-SetAttr.result c.known-in-SetAttr.ensures refl c.setattr.ensures)

pub returns-in-GetXattr : goal.returns-in-GetXattr
returns-in-GetXattr g c = rw c.in-GetXattr.is (follows_told told.Value c.getxattr.result c.value.result c.value.ensures (ap (λ (n : List ℕ). told_as told.Value (looks.getxattr (login_by c.args.asker.now) c.args.node n c.in-GetXattr.size)) c.as_bytes.ensures.same) c.getxattr.ensures)

pub returns-in-ListXattr : goal.returns-in-ListXattr
returns-in-ListXattr g c = rw c.in-ListXattr.is (follows_told told.Value c.listxattr.result c.value-in-ListXattr.result c.value-in-ListXattr.ensures refl c.listxattr.ensures)

pub returns-in-RemoveXattr : goal.returns-in-RemoveXattr
returns-in-RemoveXattr g c = rw c.in-RemoveXattr.is (follows_told done c.removexattr.result c.done-in-RemoveXattr.result c.done-in-RemoveXattr.ensures (ap (λ (n : List ℕ). told_as done (looks.removexattr (login_by c.args.asker.now) c.args.node n)) c.as_bytes-in-RemoveXattr.ensures.same) c.removexattr.ensures)

pub returns-in-SetXattr : goal.returns-in-SetXattr
returns-in-SetXattr g c =
    let e = c.setxattr.ensures in
    rw c.in-SetXattr.is (follows_told done c.setxattr.result c.done.result c.done.ensures (
      e.0,
      subst (λ (v : List ℕ). IsRead v e.0) c.as_bytes-in-SetXattr-2.ensures e.1,
      ap (λ (n : List ℕ). told_as done (looks.setxattr (login_by c.args.asker.now) c.args.node n e.0)) c.as_bytes-in-SetXattr.ensures.same,
    ) e.2)
