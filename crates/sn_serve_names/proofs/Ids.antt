-- How an object gets an id.
use Rattle.std.proofs.Common.{◌≡◌, ◌∙◌, Bool, ℕ, List, ap, refl, subst, sym}
use Rattle.std.specs.Prelude.{Option, None, Some, Result, Ok, Err, IfErr, OnErr, true, false, is_none, is_some, if◌then◌else◌}
use Rattle.sn_fuse_replies.specs.declared.errno.Errno.{Errno}
use Rattle.sn_fuse_replies.specs.declared.errno.Errno.TheVariants.{ESTALE}
use Rattle.sn_node_table.specs.Nodes.{Node}
use Rattle.sn_node_table.specs.Tables.{node_at}
use Rattle.sn_node_table.specs.Told.{table_of}
use Rattle.sn_node_table.specs.declared.meeting.NodeFault.{NodeFault}
use Rattle.sn_node_table.specs.declared.meeting.NodeFault.TheVariants.{Refused, Stale}
use Rattle.sn_plan.specs.Acts.{Act}
use Rattle.sn_plan.specs.Follows.{Does, kept_of}
use Rattle.sn_plan.specs.Plans.{Change, Gives, Keeps, Kept, Knows, Plan, Refuses, Takes, Turns, files_after}
use Rattle.sn_plan.specs.declared.server.Server.{Server}
use Rattle.sn_plan.proofs.Following.{changes, does_as_error, does_same, knows_it, lacking, refuses, served_of, stays_so, takes_it}
use Rattle.sn_serve_names.specs.Entries.{gives_id, node_errno}

no_fault : (id : ℕ) → (let x : Result ℕ NodeFault = Ok id in x) ≡ Err Stale → ⊥
no_fault id is = cc

one_fault : {a b : NodeFault} → (let x : Result ℕ NodeFault = Err a in x) ≡ Err b → a ≡ b
one_fault is = cc

unless : {F A : Type 0} {did : F → F → List Act → Type 0} {s t : Server F} (b : Bool) (p : Plan A) {q : Plan A} {r : Result A Errno}
    → (b ≡ true → ⊥) → Does did s t q r → Does did s t (if b then p else q) r
unless true p other h = absurd (other refl)
unless false p other h = h

given_so : {F : Type 0} {did : F → F → List Act → Type 0} {s t : Server F} {p : Plan ℕ} {a b : ℕ} → a ≡ b → Does did s t p (Ok b) → Does did s t p (Ok a)
given_so {did = did} {s = s} {t = t} {p = p} is h = subst (λ (x : ℕ). Does did s t p (Ok x)) (sym is) h

-- the directory is known, and there was memory
pub gets : {F : Type 0} {did : F → F → List Act → Type 0} {s t : Server F} (parent : ℕ) (change : Change) (id one : ℕ) (r : Result ℕ NodeFault)
    → r ≡ Ok id → (is_none (node_at (table_of s.nodes) parent) ≡ true → r ≡ Err Stale) → served_of s ≡ served_of t → t.files ≡ files_after change s.files
    → Turns change (table_of s.nodes) (table_of t.nodes) → id ≡ one → Does did s t (gives_id (kept_of s) parent change one) (Ok id)
gets {s = s} parent change id one r is stale same files turns so =
    unless (is_none (node_at (table_of s.nodes) parent)) (Refuses ESTALE) (λ e. no_fault id (sym is ∙ stale e)) (given_so so (changes one same files turns))

-- it isn't known, or memory is refused
gets_none_in : {F : Type 0} (did : F → F → List Act → Type 0) (s : Server F) (k : Kept → Plan ℕ) (q : Plan ℕ) (o : Option Node) (r : Result ℕ NodeFault) (fault : NodeFault) (e : Errno)
    → (if is_none o then Refuses ESTALE else q) ≡ k (kept_of s) → r ≡ Err fault → (is_none o ≡ true → r ≡ Err Stale) → (is_some o ≡ true → IfErr r (λ f. f ≡ Refused))
    → e ≡ node_errno fault → Does did s s (Takes (Knows k)) (Err e)
gets_none_in did s k q None r fault e at is stale refused so =
    does_as_error (sym (so ∙ ap node_errno (one_fault (sym is ∙ stale refl)))) (takes_it (knows_it (does_same at refuses)))
gets_none_in did s k q (Some node) r fault e at is stale refused so =
    lacking (so ∙ ap node_errno (subst (λ (x : Result ℕ NodeFault). IfErr x (λ f. f ≡ Refused)) is (refused refl)))

kept_so : {F : Type 0} (s t : Server F) (r : Result ℕ NodeFault) (fault : NodeFault) → r ≡ Err fault → OnErr r (table_of t.nodes ≡ table_of s.nodes) → t.files ≡ s.files → kept_of s ≡ kept_of t
kept_so s t r fault is nodes files =
    (let same : table_of t.nodes ≡ table_of s.nodes = subst (λ (x : Result ℕ NodeFault). OnErr x (table_of t.nodes ≡ table_of s.nodes)) is nodes in cc)

pub gets_none : {F : Type 0} {did : F → F → List Act → Type 0} {s t : Server F} (parent : ℕ) (change : Change) (one : Kept → ℕ) (fault : NodeFault) (e : Errno) (r : Result ℕ NodeFault)
    → r ≡ Err fault → (is_none (node_at (table_of s.nodes) parent) ≡ true → r ≡ Err Stale) → (is_some (node_at (table_of s.nodes) parent) ≡ true → IfErr r (λ f. f ≡ Refused))
    → served_of s ≡ served_of t → t.files ≡ s.files → OnErr r (table_of t.nodes ≡ table_of s.nodes) → e ≡ node_errno fault
    → Does did s t (Takes (Knows (λ kept. gives_id kept parent change (one kept)))) (Err e)
gets_none {did = did} {s = s} {t = t} parent change one fault e r is stale refused same files nodes so =
    stays_so same (kept_so s t r fault is nodes files)
    (gets_none_in did s (λ kept. gives_id kept parent change (one kept)) (Keeps change (Gives (one (kept_of s)))) (node_at (table_of s.nodes) parent) r fault e refl is stale refused so)
