-- No other call changes which names are there.
use Rattle.std.proofs.Common.{◌≡◌, ℕ, false, Some, Result, Ok, Err, refl, sym, ap, ◌∙◌, inl, inr}
use Rattle.std.specs.FinMap as map
use Rattle.sn_limits.specs.declared.limits.Limits.{Limits}
use Rattle.sn_model.specs.declared.call.Call.{Call}
use Rattle.sn_model.specs.declared.change.Change.{Change}
use Rattle.sn_model.specs.declared.change.Change.TheVariants.{Make, AddLink, Remove, Rename, Write, SetSize, SetAttributes}
use Rattle.sn_model.specs.declared.reply.Refusal.{Refusal}
use Rattle.sn_model.specs.declared.reply.Reply.{Reply}
use Rattle.sn_model.specs.Changes.{apply}
use Rattle.sn_model.specs.NameLaws.{changes_names}
use Rattle.sn_model.specs.Outcomes.{Pending, Nothing, Makes, Does, Caller, Stays, LogsIn, SetsUmask, LogsOut, Opens, OpensNew, Closes, Moves, Outcome}
use Rattle.sn_model.specs.Steps.{Becomes, Step, changed, decision, filled, with_caller, with_live}
use Rattle.sn_model.specs.Settling.{dropped}
use Rattle.sn_model.proofs.PointedLemmas.{pointed_live}
use Rattle.sn_model.specs.Tree.{Tree, link_cmp}
use Rattle.sn_model.specs.World.{World}
use Rattle.sn_model.proofs.DecidedLemmas.{decided_is}
use Rattle.sn_model.proofs.OutcomeLemmas.{KeepsLinks, KeepsNames}
use Rattle.sn_model.proofs.PartLemmas.{cut_is, owned_is, written_is}

abbrev links_in : Tree → map.FinMap link_cmp ℕ
links_in tree = tree.links

-- a change of one node
links_kept : (limits : Limits) (c : Change) (old new : Tree) → KeepsLinks c → apply limits c old ≡ Some new → new.links ≡ old.links
links_kept limits (Make directory name number kind o) old new keeps e = elim keeps [ ]
links_kept limits (AddLink directory name number) old new keeps e = elim keeps [ ]
links_kept limits (Remove directory name) old new keeps e = elim keeps [ ]
links_kept limits (Rename old_directory old_name new_directory new_name) old new keeps e = elim keeps [ ]
links_kept limits (Write number offset bytes) old new keeps e = sym (ap links_in (written_is limits old number offset bytes new e).gives)
links_kept limits (SetSize number size) old new keeps e = sym (ap links_in (cut_is limits old number size new e).gives)
links_kept limits (SetAttributes number o) old new keeps e = sym (ap links_in (owned_is old number o new e).gives)

same_tree : (old new : Tree) → Some old ≡ Some new → new.links ≡ old.links
same_tree old new e = let same : old ≡ new = cc e in sym (ap links_in same)

names_kept : (limits : Limits) (number : ℕ) (pending : Pending) (old new : Tree) → KeepsNames pending → changed limits number pending old ≡ Some new → new.links ≡ old.links
names_kept limits number Nothing old new keeps e = same_tree old new e
names_kept limits number (Makes directory name kind o) old new keeps e = elim keeps [ ]
names_kept limits number (Does c) old new keeps e = links_kept limits c old new keeps e

-- what becomes of a caller leaves the live tree
pub caller_live : (world : World) (session : ℕ) (caller : Caller) → (with_caller world session caller).live ≡ world.live
caller_live world session Stays = refl
caller_live world session (LogsIn s) = refl
caller_live world session (SetsUmask mask) = refl
caller_live world session LogsOut = refl
caller_live world session (Opens fd home number flags) = refl
caller_live world session (OpensNew fd flags) = refl
caller_live world session (Closes fd) = refl
caller_live world session (Moves fd offset) = refl

pub others_keep_names : (limits : Limits) (old new : World) (session : ℕ) (c : Call) (answer : Reply) → changes_names c ≡ false → Step limits old session c answer new → new.live.links ≡ old.live.links
others_keep_names limits old new session c answer other (inr lacks) = ap (λ (w : World). w.live.links) lacks.same
others_keep_names limits old new session c answer other (inl becomes) = told (decision limits old session c) refl becomes
  where
    told : (decided : Result Outcome Refusal) → decision limits old session c ≡ decided → Becomes limits old session decided answer new → new.live.links ≡ old.live.links
    told (Err r) e b = ap (λ (w : World). w.live.links) b.1
    told (Ok o) e b =
        let k = b.1 in
        ap (λ (w : World). w.live.links) k.world
        ∙ ap (λ (t : Tree). t.links) (pointed_live o.point ((decided_is limits old session c o e).keeps other).1 (dropped (with_caller (with_live old k.tree) session (filled k.number o.caller))))
        ∙ ap links_in (caller_live (with_live old k.tree) session _)
        ∙ names_kept limits k.number o.change old.live k.tree ((decided_is limits old session c o e).keeps other).0 k.applied
