use Rattle.std.proofs.Common.{ℕ, List, ap, refl}
use Rattle.sn_serve.specs.Answers.{done, told_as}
use Rattle.sn_serve.specs.declared.told.Told.TheVariants as told
use Rattle.sn_serve.proofs.Telling.{follows_told}
use Rattle.sn_plan.specs.Asking.{login_by, maker_by}
use Rattle.sn_serve_files.specs.Messages as files
use Rattle.sn_serve.proofs.performing.on_files.Goals as goal

pub returns-in-Mknod : goal.returns-in-Mknod
returns-in-Mknod g c = rw c.in-Mknod.is (follows_told told.Found c.mknod.result c.found.result c.found.ensures (ap (λ (n : List ℕ). told_as told.Found (files.mknod (login_by c.args.asker.now) (maker_by c.args.asker.now) c.args.node n c.in-Mknod.mode c.in-Mknod.umask)) c.as_bytes.ensures.same) c.mknod.ensures)

pub returns-in-Open : goal.returns-in-Open
returns-in-Open g c = rw c.in-Open.is (follows_told told.Handle c.open.result c.handle.result c.handle.ensures refl c.open.ensures)

pub returns-in-Create : goal.returns-in-Create
returns-in-Create g c = rw c.in-Create.is (follows_told told.Made c.create.result c.made.result c.made.ensures (ap (λ (n : List ℕ). told_as told.Made (files.create (login_by c.args.asker.now) (maker_by c.args.asker.now) c.args.node n c.in-Create.flags c.in-Create.mode c.in-Create.umask)) c.as_bytes-in-Create.ensures.same) c.create.ensures)

pub returns-in-Read : goal.returns-in-Read
returns-in-Read g c = rw c.in-Read.is (follows_told told.Content c.read.result c.content.result c.content.ensures refl c.read.ensures)

pub returns-in-Write : goal.returns-in-Write
returns-in-Write g c = rw c.in-Write.is (follows_told told.Written c.write.result c.written.result c.written.ensures (ap (λ (n : List ℕ). told_as told.Written (files.write c.in-Write.handle c.in-Write.offset n)) c.as_bytes-in-Write.ensures) c.write.ensures)

pub returns-in-Release : goal.returns-in-Release
returns-in-Release g c = rw c.in-Release.is (follows_told done c.release.result c.done.result c.done.ensures refl c.release.ensures)
