-- The body of a message: fields one after the other, and what is after them.
use Rattle.std.specs.Prelude.{◌≡◌, ℕ, ◌^◌, ◌<◌, ◌≢◌, List, [], ◌∷◌, ◌++◌, length}
use Rattle.std.specs.List.{flat_map, AllByRecursion}
use Rattle.sn_bytes.specs.Bytes.{number_bytes}
use Rattle.sn_fuse.specs.declared.forgets.Forget.{Forget}

-- one or more bytes, none of which is 0
pub record IsName (name : List ℕ) : Type 0 where
  pub some : 0 < length name
  pub no_zero : AllByRecursion (λ byte. byte ≢ 0) name

-- a number of so many bytes, so many bytes that aren't read, or a name with the 0 that ends it
pub data Field : Type 0 where
  Number : (width value : ℕ) → Field
  Unread : (width : ℕ) → Field
  Text : (name : List ℕ) → Field

-- bytes are the field, and then the rest
abbrev pub Begins : Field → List ℕ → List ℕ → Type 0
Begins (Number width value) bytes rest = (value < 256 ^ width) × (bytes ≡ number_bytes width value ++ rest)
Begins (Unread width) bytes rest = (unread : List ℕ) × (length unread ≡ width) × (bytes ≡ unread ++ rest)
Begins (Text name) bytes rest = IsName name × (bytes ≡ name ++ 0 ∷ rest)

-- after the fields: nothing, data, so many forgets, or anything
pub data End : Type 0 where
  Nothing : End
  Data : (bytes : List ℕ) → End
  Pairs : (forgets : List Forget) → End
  Anything : End

abbrev pub forget_bytes : Forget → List ℕ
forget_bytes forget = number_bytes 8 forget.node ++ number_bytes 8 forget.lookups

-- numbers that fit their fields
pub record IsForget (forget : Forget) : Type 0 where
  pub node : forget.node < 256 ^ 8
  pub lookups : forget.lookups < 256 ^ 8

abbrev pub Ends : End → List ℕ → Type 0
Ends Nothing bytes = bytes ≡ []
Ends (Data whole) bytes = bytes ≡ whole
Ends (Pairs forgets) bytes = AllByRecursion IsForget forgets × (bytes ≡ flat_map forget_bytes forgets)
Ends Anything bytes = Unit {0}

-- bytes are the fields, one after the other, and then the end
abbrev pub Spells : List Field → End → List ℕ → Type 0
Spells [] end bytes = Ends end bytes
Spells (field ∷ fields) end bytes = (rest : List ℕ) × Begins field bytes rest × Spells fields end rest
