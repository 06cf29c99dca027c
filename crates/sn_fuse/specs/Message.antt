-- A message as the system sends it, and what any bytes at all are.
use Rattle.std.specs.Prelude.{◌≡◌, ◌⊎◌, ℕ, ◌+◌, ◌<◌, List, [], ◌∷◌, ◌++◌, length}
use Rattle.byteorder.specs.Endian.{little_number}
use Rattle.sn_fuse.specs.declared.message.Head.{Head}
use Rattle.sn_fuse.specs.declared.message.Decoded.{Decoded}
use Rattle.sn_fuse.specs.declared.message.Decoded.TheVariants.{Short, Unknown, Misspelt, Request}
use Rattle.sn_fuse.specs.declared.opcode.Opcode.{Opcode}
use Rattle.sn_fuse.specs.declared.operation.Op.{Op}
use Rattle.sn_fuse.specs.Body.{Field, Number, Unread, Data, Spells}
use Rattle.sn_fuse.specs.Opcode.{opcode_number}
use Rattle.sn_fuse.specs.Operation.{IsBody, opcode_of}

abbrev pub head_fields : Head → List Field
head_fields head = Number 4 head.length ∷ Number 4 head.opcode ∷ Number 8 head.unique ∷ Number 8 head.node
    ∷ Number 4 head.user ∷ Number 4 head.group ∷ Number 4 head.process ∷ Unread 4 ∷ []

-- bytes are a head, the body whose end its length gives, and more, which isn't looked at
pub record Frames (bytes : List ℕ) (head : Head) (body : List ℕ) : Type 0 where
  pub more : List ℕ
  pub spelled : Spells (head_fields head) (Data (body ++ more)) bytes
  pub long : head.length ≡ 40 + length body

-- how long a message says it is
abbrev pub told_length : List ℕ → ℕ
told_length bytes = little_number 4 bytes

-- fewer bytes than a head has, or a length that is less than a head's or more than is there
abbrev pub IsShort : List ℕ → Type 0
IsShort bytes = (length bytes < 40) ⊎ (told_length bytes < 40) ⊎ (length bytes < told_length bytes)

-- no operation has the opcode
abbrev pub IsUnknown : List ℕ → Head → Type 0
IsUnknown bytes head = (body : List ℕ) × Frames bytes head body × ((opcode : Opcode) → opcode_number opcode ≡ head.opcode → ⊥)

-- an operation has the opcode, and the body spells none that has it
abbrev pub IsMisspelt : List ℕ → Head → Type 0
IsMisspelt bytes head = (body : List ℕ) × (opcode : Opcode) × Frames bytes head body × (opcode_number opcode ≡ head.opcode)
    × ((op : Op) → opcode_of op ≡ opcode → IsBody op body → ⊥)

-- the body spells the operation, which has the opcode
abbrev pub IsRequest : List ℕ → Head → Op → Type 0
IsRequest bytes head op = (body : List ℕ) × Frames bytes head body × (opcode_number (opcode_of op) ≡ head.opcode) × IsBody op body

abbrev pub IsAnswer : List ℕ → Decoded → Type 0
IsAnswer bytes Short = IsShort bytes
IsAnswer bytes (Unknown head) = IsUnknown bytes head
IsAnswer bytes (Misspelt head) = IsMisspelt bytes head
IsAnswer bytes (Request head op) = IsRequest bytes head op

-- no bytes spell two requests
abbrev pub RequestsDiffer : Type 0
RequestsDiffer = (bytes : List ℕ) (a b : Head) (x y : Op) → IsRequest bytes a x → IsRequest bytes b y → (a ≡ b) × (x ≡ y)
