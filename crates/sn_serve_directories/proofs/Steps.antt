-- What the messages share.
use Rattle.std.proofs.Common.{◌≡◌, ◌∙◌, ◌<◌, ◌+◌, ◌∷◌, ◌++◌, [], ℕ, ◌≤◌, List, ap, drop, get_or, length, refl, subst, sym}
use Rattle.std.proofs.lemmas.List.{drop_all, drop_more, map-append}
use Rattle.std.specs.Prelude.{Option, None, Some, Result, Ok, Err, IfErr, IfOk, IsErrAnd}
use Rattle.std.specs.declared.vec.Vec.{Vec}
use Rattle.sn_fuse_replies.specs.declared.errno.Errno.{Errno}
use Rattle.sn_fuse_replies.specs.declared.errno.Errno.TheVariants.{EBADF, ENOMEM}
use Rattle.sn_listings.specs.Held.{Directory, is_due, node_of}
use Rattle.sn_listings.specs.declared.entry.HeldEntry.{HeldEntry}
use Rattle.sn_plan.specs.Acts.{Act}
use Rattle.sn_plan.specs.Follows.{Does, Goes, takes}
use Rattle.sn_plan.specs.Plans.{Gives, Plan, Refuses, Takes, given, ◌>>=◌}
use Rattle.sn_plan.specs.declared.server.Server.{Server}
use Rattle.sn_plan.proofs.Following.{does_as_error, gives_it, goes_before, goes_none, goes_on, lacking, takes_it}
use Rattle.sn_serve_directories.specs.Entries.{Entry, entries_from, entry_at, image_in, image_of, images_in, images_of}
use Rattle.sn_serve_directories.specs.Messages.{read_if, readdir}

-- an error that is passed on
pub entry_passed_on : {F : Type 0} {did : F → F → List Act → Type 0} {s t : Server F} {p : Plan Entry} (r : Result HeldEntry Errno) (e : Errno)
    → IsErrAnd r (λ x. x ≡ e) → Does did s t p (Err e) → Does did s t p (image_in r)
entry_passed_on (Ok a) e h d = absurd h
entry_passed_on (Err x) e h d = does_as_error (sym h) d

pub entries_passed_on : {F Z : Type 0} {did : F → F → List Act → Type 0} {s t : Server F} {p : Plan (List Entry)} (r : Result (Vec HeldEntry Z) Errno) (e : Errno)
    → IsErrAnd r (λ x. x ≡ e) → Does did s t p (Err e) → Does did s t p (images_in r)
entries_passed_on (Ok a) e h d = absurd h
entries_passed_on (Err x) e h d = does_as_error (sym h) d

-- what takes memory: it is what it should be, or refused
pub entry_held : {F : Type 0} {did : F → F → List Act → Type 0} {s : Server F} (entry : Entry) (r : Result HeldEntry Errno)
    → IfOk r (λ held. image_of held ≡ entry) → IfErr r (λ e. e ≡ ENOMEM) → Does did s s (Takes (Gives entry)) (image_in r)
entry_held entry (Ok held) is refused = takes_it (gives_it is)
entry_held entry (Err e) is refused = lacking refused

pub entries_held : {F Z : Type 0} {did : F → F → List Act → Type 0} {s : Server F} (entries : List Entry) (r : Result (Vec HeldEntry Z) Errno)
    → IfOk r (λ held. images_of held.items ≡ entries) → IfErr r (λ e. e ≡ ENOMEM) → Does did s s (Takes (Gives entries)) (images_in r)
entries_held entries (Ok held) is refused = takes_it (gives_it is)
entries_held entries (Err e) is refused = lacking refused

-- ---- one entry after the other

memory_taken : {F A : Type 0} {did : F → F → List Act → Type 0} {s t : Server F} {p q : Plan A} → Goes did s t p (Takes q) → Goes did s t p q
memory_taken {did = did} {t = t} {q = q} v = goes_on v (let n = goes_none did t q in record { acts = n.acts; grows = n.grows; leads = takes n.leads; changed = n.changed })

from_there : (names : List (List ℕ)) (at : ℕ) (name : List ℕ) → at < length names → name ≡ get_or names at name → drop at names ≡ name ∷ drop (at + 1) names
from_there names at name within is =
    drop_more names at name within ∙ ap (λ (n : List ℕ). n ∷ drop (at + 1) names) (sym is)

-- the entry of the next name, and the rest of the plan
pub next_entry : {F : Type 0} {did : F → F → List Act → Type 0} {s t u : Server F} {p : Plan (List Entry)} (node : ℕ) (before : List Entry) (names : List (List ℕ)) (at : ℕ) (name : List ℕ) (entry : Entry)
    → Goes did s t p (entries_from node before (drop at names)) → at < length names → name ≡ get_or names at name
    → Does did t u (entry_at node name) (Ok entry) → Goes did s u p (Takes (entries_from node (before ++ entry ∷ []) (drop (at + 1) names)))
unfolding entries_from given ◌>>=◌
next_entry {did = did} {s = s} {t = t} {p = p} node before names at name entry v within is h =
    goes_on (subst (λ (l : List (List ℕ)). Goes did s t p (entries_from node before l)) (from_there names at name within is) v)
    (goes_before (λ (e : Entry). Takes (entries_from node (before ++ e ∷ []) (drop (at + 1) names))) h.goes)

pub entry_added : {F : Type 0} {did : F → F → List Act → Type 0} {s u : Server F} {p : Plan (List Entry)} (node : ℕ) (before after : List Entry) (names : List (List ℕ))
    → Goes did s u p (Takes (entries_from node before names)) → after ≡ before → Goes did s u p (entries_from node after names)
entry_added {did = did} {s = s} {u = u} {p = p} node before after names v is =
    subst (λ (l : List Entry). Goes did s u p (entries_from node l names)) (sym is) (memory_taken v)

-- it fails
pub entry_fails : {F : Type 0} {did : F → F → List Act → Type 0} {s t u : Server F} {p : Plan (List Entry)} (node : ℕ) (before : List Entry) (names : List (List ℕ)) (at : ℕ) (name : List ℕ) (e : Errno)
    → Goes did s t p (entries_from node before (drop at names)) → at < length names → name ≡ get_or names at name
    → Does did t u (entry_at node name) (Err e) → Does did s u p (Err e)
unfolding entries_from given ◌>>=◌
entry_fails {did = did} {s = s} {t = t} {p = p} node before names at name e v within is h = record {
  goes = goes_on (subst (λ (l : List (List ℕ)). Goes did s t p (entries_from node before l)) (from_there names at name within is) v)
      (goes_before (λ (entry : Entry). Takes (entries_from node (before ++ entry ∷ []) (drop (at + 1) names))) h.goes);
}

-- there is no memory for it
pub no_room : {F A : Type 0} {did : F → F → List Act → Type 0} {s u : Server F} {p q : Plan A} → Goes did s u p (Takes q) → Does did s u p (Err ENOMEM)
no_room {q = q} v = record { goes = goes_on v (let none = lacking {p = q} refl in none.goes) }

-- no name is left
pub all_entries : {F : Type 0} {did : F → F → List Act → Type 0} {s t : Server F} {p : Plan (List Entry)} (node : ℕ) (before : List Entry) (names : List (List ℕ)) (at : ℕ)
    → Goes did s t p (entries_from node before (drop at names)) → length names ≤ at → Does did s t p (Ok before)
unfolding entries_from given
all_entries {did = did} {s = s} {t = t} {p = p} node before names at v past = record {
  goes = subst (λ (l : List (List ℕ)). Goes did s t p (entries_from node before l)) (drop_all at names past) v;
}

-- ---- what a handle stands for

no_node : (node : ℕ) → (let none : Option ℕ = None in none) ≡ Some node → ⊥
no_node node is = cc

pub due_known : (directory : Option Directory) (offset node : ℕ) → node_of directory ≡ Some node → read_if (is_due offset directory) node ≡ readdir directory offset
due_known None offset node is = absurd (no_node node is)
due_known (Some d) offset node is = (let same : d.node ≡ node = cc in ap (read_if (is_due offset (Some d))) (sym same))

pub none_known : (directory : Option Directory) (offset : ℕ) → node_of directory ≡ None → (let refused : Plan (Option (List Entry)) = Refuses EBADF in refused) ≡ readdir directory offset
none_known None offset is = refl
none_known (Some d) offset is = absurd (no_node d.node (sym is))

pub failed_so : {A : Type 0} (r : Result A Errno) (e : Errno) → IsErrAnd r (λ x. x ≡ e) → r ≡ Err e
failed_so (Ok a) e h = absurd h
failed_so (Err x) e h = ap (λ (d : Errno). Err d) h

pub images_more : (before after : List HeldEntry) (held : HeldEntry) → after ≡ before ++ held ∷ [] → images_of after ≡ images_of before ++ image_of held ∷ []
images_more before after held is = ap images_of is ∙ map-append image_of before (held ∷ [])
