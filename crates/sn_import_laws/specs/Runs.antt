-- Calls of an import, as the machine answers them.
use Rattle.std.specs.Prelude.{◌≡◌, List, [], ◌∷◌, Ok}
use Rattle.sn_limits.specs.declared.limits.Limits.{Limits}
use Rattle.sn_model.specs.declared.session.Session.{Session}
use Rattle.sn_model.specs.Steps.{Step}
use Rattle.sn_model.specs.Tests.{logged_in}
use Rattle.sn_model.specs.World.{World}
use Rattle.sn_import_calls.specs.Acts.{Act, Called, Told}

-- Calls of session 0, one after the other, are answered so from a world on, and leave another. A report changes nothing.
abbrev pub Runs : Limits → World → List Act → World → Type 0
Runs limits old [] new = new ≡ old
Runs limits old (Called call reply ∷ acts) new = (between : World) × Step limits old 0 call reply between × Runs limits between acts new
Runs limits old (Told entry name why ∷ acts) new = Runs limits old acts new

-- session 0 is the user 0's
pub record IsRoots (world : World) : Type 0 where
  pub session : Session
  pub seated : logged_in world 0 ≡ Ok session
  pub root : session.cred.uid ≡ 0
