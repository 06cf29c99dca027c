-- Which refusals of a call are no reason to give an entry up, and which end an import.
use Rattle.std.specs.Prelude.{Bool, true, false}
use Rattle.sn_model.specs.declared.call.Call.{Call}
use Rattle.sn_model.specs.declared.call.Call.TheVariants as call
use Rattle.sn_model.specs.declared.reply.Errno.{Errno}
use Rattle.sn_model.specs.declared.reply.Errno.TheVariants.{Eperm, Enoent, Eexist, Enospc, Enomem, Eio, Estopped}
use Rattle.sn_import.specs.declared.object.What.{What}
use Rattle.sn_import.specs.declared.object.What.TheVariants.{Directory}

abbrev pub is_directory : What → Bool
is_directory (Directory rights) = true
is_directory _ = false

-- nothing has the name, or a directory has that of a directory
abbrev pub is_vacant : What → Errno → Bool
is_vacant what Enoent = true
is_vacant what Eperm = is_directory what
is_vacant what _ = false

abbrev pub is_there : Errno → Bool
is_there Eexist = true
is_there _ = false

-- whether an entry continues after its call was refused: what has to go isn't there, or a directory is there already
abbrev pub is_expected : What → Call → Errno → Bool
is_expected what (call.Unlink path) errno = is_vacant what errno
is_expected what (call.Mkdir path mode) errno = is_there errno
is_expected what _ errno = false

-- whether nothing more is made after such a refusal
abbrev pub ends : Errno → Bool
ends Enospc = true
ends Enomem = true
ends Eio = true
ends Estopped = true
ends _ = false
