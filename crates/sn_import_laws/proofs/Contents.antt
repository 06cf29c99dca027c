-- A content in pieces, and the writes of all of them.
use Rattle.std.proofs.Common.{◌≡◌, ◌+◌, ◌<◌, ℕ, true, false, cond, List, [], ◌∷◌, ◌++◌, length, map, refl, sym, ap, subst, ◌∙◌, append_assoc, length-append, arith}
use Rattle.std.specs.Prelude.{nat_lt}
use Rattle.std.specs.List.{AllByRecursion, concat}
use Rattle.std.proofs.lemmas.List.{append-nil}
use Rattle.sn_limits.specs.declared.limits.Limits.{Limits}
use Rattle.sn_model.specs.declared.call.Call.TheVariants as call
use Rattle.sn_model.specs.Tree.{Node}
use Rattle.sn_model.specs.World.{World}
use Rattle.sn_model.specs.Worlds.{IsWorld}
use Rattle.sn_model.proofs.WorldLemmas.{step_world}
use Rattle.sn_import.specs.Writes.{pieces, writes_of}
use Rattle.sn_import.specs.declared.object.What.{What}
use Rattle.sn_import_calls.specs.Acts.{Act}
use Rattle.sn_import_calls.specs.Carried.{AreMade}
use Rattle.sn_import_laws.specs.Contents.{IsFilled, IsFilling}
use Rattle.sn_import_laws.specs.Runs.{Runs}
use Rattle.sn_import_laws.proofs.Steps.{done, no_refusal, run_first, run_none}
use Rattle.sn_import_laws.proofs.Writes.{filled_again, filled_none, with_more, write_filled}

-- ---- pieces

whole : (held rest : List ℕ) → concat (pieces held rest) ≡ held ++ rest
whole [] [] = refl
whole (b ∷ held) [] = refl
whole held (b ∷ rest) =
    elim (nat_lt (length held + 1) 28672) as (λ t. concat (cond t (pieces (held ++ b ∷ []) rest) ((held ++ b ∷ []) ∷ pieces [] rest)) ≡ held ++ b ∷ rest) [
      | true ↦ whole (held ++ b ∷ []) rest ∙ append_assoc held (b ∷ []) rest
      | false ↦ ap (λ (bytes : List ℕ). (held ++ b ∷ []) ++ bytes) (whole [] rest) ∙ append_assoc held (b ∷ []) rest
    ]

-- there is a byte in each
abbrev HasBytes : List ℕ → Type 0
HasBytes piece = 0 < length piece

each : (held rest : List ℕ) → AllByRecursion HasBytes (pieces held rest)
each [] [] = tt
each (b ∷ held) [] = (omega arith, tt)
each held (b ∷ rest) =
    elim (nat_lt (length held + 1) 28672) as (λ t. AllByRecursion HasBytes (cond t (pieces (held ++ b ∷ []) rest) ((held ++ b ∷ []) ∷ pieces [] rest))) [
      | true ↦ each (held ++ b ∷ []) rest
      | false ↦ (omega (arith, length-append held (b ∷ [])), each [] rest)
    ]

-- ---- their writes

-- what they leave, which is a world
pub record AreWritten (limits : Limits) (old new : World) (fd number : ℕ) (node : Node) : Type 0 where
  pub filled : IsFilled old new fd number node
  pub still : IsWorld limits new

same_bytes : (limits : Limits) (old new : World) (fd number : ℕ) (node : Node) (a b : List ℕ) → a ≡ b → AreWritten limits old new fd number (record node { bytes = a }) → AreWritten limits old new fd number (record node { bytes = b })
same_bytes limits old new fd number node a b is w = subst (λ (bytes : List ℕ). AreWritten limits old new fd number (record node { bytes = bytes })) is w

written : (limits : Limits) (old new : World) (what : What) (fd number : ℕ) (node : Node) (ps : List (List ℕ)) (acts : List Act) → IsWorld limits old → IsFilling old fd number node → AllByRecursion HasBytes ps
    → AreMade what (map (call.Write fd) ps) [] acts → Runs limits old acts new → AreWritten limits old new fd number (with_more node (concat ps))
written limits old new what fd number node [] acts w f some made runs =
    let here : AreWritten limits old old fd number node = record { filled = filled_none old fd number node f; still = w } in
    let done_all : AreWritten limits old old fd number (with_more node []) = same_bytes limits old old fd number node node.bytes (node.bytes ++ []) (sym (append-nil node.bytes)) here in
    subst (λ (v : World). AreWritten limits old v fd number (with_more node [])) (sym (run_none limits old new what acts made runs)) done_all
written limits old new what fd number node (p ∷ ps) acts w f some made runs =
    let c = call.Write fd p in
    let r = run_first limits old new what c (map (call.Write fd) ps) acts made runs in
    let d = done limits old 0 c r.reply r.between (no_refusal what c r.reply (λ errno. refl) r.fine) r.step in
    let one = write_filled limits old r.between fd number node p r.reply w f some.0 d in
    let more = written limits r.between new what fd number (with_more node p) ps r.others (step_world limits old r.between 0 c r.reply r.step tt w) one.filling some.1 r.left r.runs in
    same_bytes limits old new fd number node ((node.bytes ++ p) ++ concat ps) (node.bytes ++ concat (p ∷ ps)) (append_assoc node.bytes p (concat ps))
    (record { filled = filled_again old r.between new fd number (with_more node p) (with_more (with_more node p) (concat ps)) one more.filled; still = more.still })

pub all_written : (limits : Limits) (old new : World) (what : What) (fd number : ℕ) (node : Node) (content : List ℕ) (acts : List Act) → IsWorld limits old → IsFilling old fd number node
    → AreMade what (writes_of fd content) [] acts → Runs limits old acts new → AreWritten limits old new fd number (with_more node content)
all_written limits old new what fd number node content acts w f made runs =
    same_bytes limits old new fd number node (node.bytes ++ concat (pieces [] content)) (node.bytes ++ content) (ap (λ (bytes : List ℕ). node.bytes ++ bytes) (whole [] content))
    (written limits old new what fd number node (pieces [] content) acts w f (each [] content) made runs)

pub content_is_written : (limits : Limits) (old new : World) (what : What) (fd number : ℕ) (node : Node) (content : List ℕ) (acts : List Act) → IsWorld limits old → IsFilling old fd number node
    → AreMade what (writes_of fd content) [] acts → Runs limits old acts new → IsFilled old new fd number (with_more node content)
content_is_written limits old new what fd number node content acts w f made runs = (all_written limits old new what fd number node content acts w f made runs).filled
