use Rattle.std.proofs.Common.{ℕ, List, ap, ap₂, refl}
use Rattle.sn_serve.specs.Answers.{done, told_as}
use Rattle.sn_serve.specs.declared.told.Told.TheVariants as told
use Rattle.sn_serve.proofs.Telling.{follows_told}
use Rattle.sn_fuse_replies.specs.declared.errno.Errno.TheVariants.{EPERM}
use Rattle.sn_plan.specs.Asking.{login_by, maker_by}
use Rattle.sn_plan.specs.Plans.{Refuses}
use Rattle.sn_plan.proofs.Following.{refuses}
use Rattle.sn_serve_names.specs.Messages as names
use Rattle.sn_serve.proofs.performing.on_names.Goals as goal

pub returns-in-Lookup : goal.returns-in-Lookup
returns-in-Lookup g c = rw c.in-Lookup.is (follows_told told.Found c.lookup.result c.found.result c.found.ensures (ap (λ (n : List ℕ). told_as told.Found (names.lookup (login_by c.args.asker.now) c.args.node n)) c.as_bytes.ensures.same) c.lookup.ensures)

pub returns-in-Mkdir : goal.returns-in-Mkdir
returns-in-Mkdir g c = rw c.in-Mkdir.is (follows_told told.Found c.mkdir.result c.found-in-Mkdir.result c.found-in-Mkdir.ensures (ap (λ (n : List ℕ). told_as told.Found (names.mkdir (login_by c.args.asker.now) (maker_by c.args.asker.now) c.args.node n c.in-Mkdir.mode c.in-Mkdir.umask)) c.as_bytes-in-Mkdir.ensures.same) c.mkdir.ensures)

pub returns-in-Unlink : goal.returns-in-Unlink
returns-in-Unlink g c = rw c.in-Unlink.is (follows_told done c.unlink.result c.done.result c.done.ensures (ap (λ (n : List ℕ). told_as done (names.unlink (login_by c.args.asker.now) c.args.node n)) c.as_bytes-in-Unlink.ensures.same) c.unlink.ensures)

pub returns-in-Rmdir : goal.returns-in-Rmdir
returns-in-Rmdir g c = rw c.in-Rmdir.is (follows_told done c.rmdir.result c.done-in-Rmdir.result c.done-in-Rmdir.ensures (ap (λ (n : List ℕ). told_as done (names.rmdir (login_by c.args.asker.now) c.args.node n)) c.as_bytes-in-Rmdir.ensures.same) c.rmdir.ensures)

pub returns-in-Link : goal.returns-in-Link
returns-in-Link g c = rw c.in-Link.is (follows_told told.Found c.link.result c.found-in-Link.result c.found-in-Link.ensures (ap (λ (n : List ℕ). told_as told.Found (names.link (login_by c.args.asker.now) c.in-Link.old c.args.node n)) c.as_bytes-in-Link.ensures.same) c.link.ensures)

pub returns-in-Access : goal.returns-in-Access
returns-in-Access g c = rw c.in-Access.is (follows_told done c.access.result c.done-in-Access.result c.done-in-Access.ensures refl c.access.ensures)

pub returns-in-Rename : goal.returns-in-Rename
returns-in-Rename g c = rw c.in-Rename.is (follows_told done c.rename.result c.done-in-Rename.result c.done-in-Rename.ensures
    (ap₂ (λ (a b : List ℕ). told_as done (names.rename (login_by c.args.asker.now) c.args.node a c.in-Rename.directory b (record { 0 = 0 }))) c.as_bytes-name.ensures.same c.as_bytes-other.ensures.same) c.rename.ensures)

pub returns-in-Rename2 : goal.returns-in-Rename2
returns-in-Rename2 g c = rw c.in-Rename2.is (follows_told done c.rename-in-Rename2.result c.done-in-Rename2.result c.done-in-Rename2.ensures
    (ap₂ (λ (a b : List ℕ). told_as done (names.rename (login_by c.args.asker.now) c.args.node a c.in-Rename2.directory b c.in-Rename2.flags)) c.as_bytes-name-in-Rename2.ensures.same c.as_bytes-other-in-Rename2.ensures.same) c.rename-in-Rename2.ensures)

pub returns-in-Symlink : goal.returns-in-Symlink
returns-in-Symlink g c = rw c.in-Symlink.is (record { plan = Refuses EPERM; is = refl; does = refuses })
