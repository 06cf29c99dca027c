-- What a message is answered with.
use Rattle.std.specs.Prelude.{Result, Ok, Err}
use Rattle.sn_fuse.specs.declared.operation.Time.{Time}
use Rattle.sn_fuse_replies.specs.declared.answer.Answer.{Answer}
use Rattle.sn_fuse_replies.specs.declared.answer.Answer.TheVariants as answer
use Rattle.sn_fuse_replies.specs.declared.answer.Entry.{Entry}
use Rattle.sn_fuse_replies.specs.declared.errno.Errno.{Errno}
use Rattle.sn_plan.specs.Plans.{Gives, Plan, ◌>>=◌}
use Rattle.sn_plan.specs.declared.checker.Checker.{Checker}
use Rattle.sn_plan.specs.declared.checker.Checker.TheVariants as checker
use Rattle.sn_serve.specs.declared.told.Told.{Told}
use Rattle.sn_serve.specs.declared.told.Told.TheVariants as told
use Rattle.sn_serve_looks.specs.declared.values.Xattr.{Xattr}
use Rattle.sn_serve_looks.specs.declared.values.Xattr.TheVariants as xattr
use Rattle.sn_serve_names.specs.Entries.{no_time, year}

abbrev pub xattr_answer : Xattr → Answer
xattr_answer (xattr.Bytes bytes) = answer.Data bytes.items
xattr_answer (xattr.Size size) = answer.XattrSize size

-- For how long the system may hold attributes: a year where it checks by them, and else not at all.
abbrev pub holds_for : Checker → Time
holds_for (checker.Server maps_all) = no_time
holds_for checker.System = year

abbrev pub lasting : Time → Entry → Entry
lasting last entry = record entry { attributes_last = last }

-- as it is spelled, with how long attributes last
abbrev pub answer_of : Time → Told → Answer
answer_of last told.Done = answer.Nothing
answer_of last (told.Found entry) = answer.Entry (lasting last entry)
answer_of last (told.Known attributes) = answer.Attributes last attributes
answer_of last (told.Handle opened) = answer.Opened opened
answer_of last (told.Made created) = answer.Created (lasting last created.entry) created.opened
answer_of last (told.Content bytes) = answer.Data bytes
answer_of last (told.Written count) = answer.Written count
answer_of last (told.Room statistics) = answer.Statistics statistics
answer_of last (told.Value xattr) = xattr_answer xattr
answer_of last (told.Listed entries) = answer.Listing entries.listing.bytes
answer_of last (told.Begun initialized) = answer.Initialized initialized

abbrev pub reply_of : Time → Result Told Errno → Answer
reply_of last (Ok told) = answer_of last told
reply_of last (Err errno) = answer.Error errno

-- ---- what plans give, as answers

abbrev pub told_in : {A : Type 0} → (A → Told) → Result A Errno → Result Told Errno
told_in f (Ok a) = Ok (f a)
told_in f (Err errno) = Err errno

abbrev pub told_as : {A : Type 0} → (A → Told) → Plan A → Plan Told
told_as f p = p >>= (λ a. Gives (f a))

-- nothing is told but that it is done
abbrev pub done : Unit {0} → Told
done _ = told.Done
