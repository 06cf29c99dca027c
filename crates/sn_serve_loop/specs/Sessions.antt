-- User 0 is logged in, in each session that open files have.
use Rattle.std.specs.Prelude.{◌≡◌, ℕ, ◌+◌, ◌*◌, List, [], ◌∷◌, ◌++◌}
use Rattle.sn_callers.specs.Sessions.{session_of}
use Rattle.sn_model.specs.declared.call.Call.{Call}
use Rattle.sn_model.specs.declared.call.Call.TheVariants.{Login}
use Rattle.sn_plan.specs.Acts.{Act, Called, Counted, Found, Seen}

-- a login of user 0, who is in no other group
abbrev pub login : Call
login = Login 0 0 []

abbrev pub logs_in : ℕ → Act → Type 0
logs_in session (Called other call reply) = (other ≡ session) × (call ≡ login)
logs_in session (Found path found) = ⊥
logs_in session (Seen number seen) = ⊥
logs_in session (Counted space) = ⊥

-- the sessions of so many blocks of handles, one login for each
pub data LogIn : ℕ → List Act → Type 0 where
  none : LogIn 0 []
  next : {blocks : ℕ} {acts : List Act} (act : Act) → LogIn blocks acts → logs_in (session_of (blocks * 64)) act → LogIn (blocks + 1) (acts ++ act ∷ [])
