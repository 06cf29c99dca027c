-- When a plan is followed.
use Rattle.std.specs.List.{list_any}
use Rattle.std.specs.Prelude.{◌≡◌, ℕ, ◌||◌, List, [], ◌∷◌, Option, None, Some, Result, Ok, Err}
use Rattle.arrayvec.specs.ArrayVec.{ArrayVec}
use Rattle.sn_fuse_replies.specs.declared.errno.Errno.{Errno}
use Rattle.sn_fuse_replies.specs.declared.errno.Errno.TheVariants.{ENOMEM}
use Rattle.sn_model.specs.declared.call.Call.{Call}
use Rattle.sn_model.specs.declared.reply.Reply.{Reply}
use Rattle.sn_node_table.specs.Told.{table_of}
use Rattle.sn_walk.specs.declared.view.Attributes.{Attributes}
use Rattle.sn_plan.specs.Acts.{Act, Called, Counted, Found, Seen, Grows, is_change}
use Rattle.sn_plan.specs.Errors.{fault_errno}
use Rattle.sn_plan.specs.Plans.{Kept, Change, Becomes, Plan, Refuses, Takes, Calls, Finds, Sees, Counts, Knows, Keeps, given}
use Rattle.sn_plan.specs.declared.errors.LookFault.{LookFault}
use Rattle.sn_plan.specs.declared.file_system.Space.{Space}
use Rattle.sn_plan.specs.declared.server.Server.{Server}

-- Acts lead from a plan to what is left of it, and from what is kept to what is kept then. A refusal of memory, and a look that fails, end it
-- with an error.
pub data Leads {A : Type 0} : Plan A → Kept → List Act → Plan A → Kept → Type 0 where
  stays : {p : Plan A} {t : Kept} → Leads p t [] p t
  takes : {p q : Plan A} {t u : Kept} {acts : List Act} → Leads p t acts q u → Leads (Takes p) t acts q u
  lacks : {p : Plan A} {t : Kept} → Leads (Takes p) t [] (Refuses ENOMEM) t
  called : {session : ℕ} {call : Call} {reply : Reply} {k : Reply → Plan A} {q : Plan A} {t u : Kept} {acts : List Act}
      → Leads (k reply) t acts q u → Leads (Calls session call k) t (Called session call reply ∷ acts) q u
  found : {path : List ℕ} {number : Option ℕ} {k : Option ℕ → Plan A} {q : Plan A} {t u : Kept} {acts : List Act}
      → Leads (k number) t acts q u → Leads (Finds path k) t (Found path (Ok number) ∷ acts) q u
  unfound : {path : List ℕ} {fault : LookFault} {k : Option ℕ → Plan A} {t : Kept}
      → Leads (Finds path k) t (Found path (Err fault) ∷ []) (Refuses (fault_errno fault)) t
  seen : {number : ℕ} {attributes : Option Attributes} {k : Option Attributes → Plan A} {q : Plan A} {t u : Kept} {acts : List Act}
      → Leads (k attributes) t acts q u → Leads (Sees number k) t (Seen number (Ok attributes) ∷ acts) q u
  unseen : {number : ℕ} {fault : LookFault} {k : Option Attributes → Plan A} {t : Kept}
      → Leads (Sees number k) t (Seen number (Err fault) ∷ []) (Refuses (fault_errno fault)) t
  counted : {space : Space} {k : Space → Plan A} {q : Plan A} {t u : Kept} {acts : List Act}
      → Leads (k space) t acts q u → Leads (Counts k) t (Counted space ∷ acts) q u
  knows : {k : Kept → Plan A} {q : Plan A} {t u : Kept} {acts : List Act} → Leads (k t) t acts q u → Leads (Knows k) t acts q u
  keeps : {change : Change} {p q : Plan A} {t v u : Kept} {acts : List Act} → Becomes change t v → Leads p v acts q u → Leads (Keeps change p) t acts q u

abbrev pub kept_of : {F : Type 0} → Server F → Kept
kept_of s = record { nodes = table_of s.nodes; files = s.files }

-- a server has done acts that lead from a plan to what is left of it, and keeps whether one of them changed something
pub record Goes {F A : Type 0} (did : F → F → List Act → Type 0) (old new : Server F) (p q : Plan A) : Type 0 where
  pub acts : List Act
  pub grows : Grows (did old.file_system) (did new.file_system) acts
  pub leads : Leads p (kept_of old) acts q (kept_of new)
  pub changed : new.changed ≡ (old.changed || list_any is_change acts)

-- a server has done what a plan asks for, and this is what it gives
pub record Does {F A : Type 0} (did : F → F → List Act → Type 0) (old new : Server F) (p : Plan A) (r : Result A Errno) : Type 0 where
  pub goes : Goes did old new p (given r)

-- the same of a text, or of none
abbrev pub text_of : Result (Option (ArrayVec ℕ)) Errno → Result (Option (List ℕ)) Errno
text_of (Ok (Some text)) = Ok (Some text.items)
text_of (Ok None) = Ok None
text_of (Err e) = Err e

abbrev pub Tells : {F : Type 0} → (F → F → List Act → Type 0) → Server F → Server F → Plan (Option (List ℕ)) → Result (Option (ArrayVec ℕ)) Errno → Type 0
Tells did old new p r = Does did old new p (text_of r)

-- the same of a text that is there
abbrev pub bytes_of : Result (ArrayVec ℕ) Errno → Result (List ℕ) Errno
bytes_of (Ok text) = Ok text.items
bytes_of (Err e) = Err e

abbrev pub Writes : {F : Type 0} → (F → F → List Act → Type 0) → Server F → Server F → Plan (List ℕ) → Result (ArrayVec ℕ) Errno → Type 0
Writes did old new p r = Does did old new p (bytes_of r)
