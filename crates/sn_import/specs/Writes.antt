-- The writes of a file's content.
use Rattle.std.specs.Prelude.{ℕ, ◌+◌, nat_lt, if◌then◌else◌, List, [], ◌∷◌, ◌++◌, length, map}
use Rattle.sn_model.specs.declared.call.Call.{Call}
use Rattle.sn_model.specs.declared.call.Call.TheVariants as call

-- what is left, if anything is
abbrev pub last_piece : List ℕ → List (List ℕ)
last_piece [] = []
last_piece (b ∷ held) = (b ∷ held) ∷ []

-- bytes that are held and further ones, in pieces of 28,672 and a last one with what is left
abbrev pub pieces : List ℕ → List ℕ → List (List ℕ)
pieces held [] = last_piece held
pieces held (b ∷ rest) = if nat_lt (length held + 1) 28672 then pieces (held ++ b ∷ []) rest else (held ++ b ∷ []) ∷ pieces [] rest

-- What an open file is still to be given: bytes that no write has.
pub record Unwritten : Type 0 where
  pub fd : ℕ
  pub held : List ℕ

-- the writes of these and further bytes
abbrev pub writes : Unwritten → List ℕ → List Call
writes content rest = map (call.Write content.fd) (pieces content.held rest)

-- the writes of a whole content
abbrev pub writes_of : ℕ → List ℕ → List Call
writes_of fd content = map (call.Write fd) (pieces [] content)
