-- How the plan of a function is followed by those of what it calls.
use Rattle.std.proofs.Common.{◌≡◌, ◌∙◌, ℕ, ◌&&◌, ◌||◌, Bool, true, false, List, [], ◌∷◌, ◌++◌, ap, refl, subst, append_assoc, sym}
use Rattle.std.proofs.lemmas.List.{append-nil}
use Rattle.std.proofs.lemmas.List.Folds.{list_any-append}
use Rattle.std.specs.List.{list_any}
use Rattle.std.specs.Prelude.{Option, Result, Ok, Err, IfErr, IfOk, IsErrAnd, if◌then◌else◌}
use Rattle.sn_fuse_replies.specs.declared.errno.Errno.{Errno}
use Rattle.sn_fuse_replies.specs.declared.errno.Errno.TheVariants.{ENOMEM}
use Rattle.sn_model.specs.declared.call.Call.{Call}
use Rattle.sn_model.specs.declared.reply.Reply.{Reply}
use Rattle.sn_node_table.specs.Told.{table_of}
use Rattle.sn_walk.specs.declared.view.Attributes.{Attributes}
use Rattle.sn_plan.specs.Acts.{Act, Called, Counted, Found, Seen, Grows, is_answered, is_change, may_change}
use Rattle.sn_plan.specs.Asking.{calls, counts, finds, sees}
use Rattle.sn_plan.specs.Errors.{fault_errno}
use Rattle.sn_plan.specs.Plans.{Becomes, Change, Kept, Plan, Gives, Refuses, Takes, Turns, Knows, Keeps, files_after, given, ◌>>=◌}
use Rattle.sn_plan.specs.Follows.{Does, Goes, Leads, kept_of, stays, takes, lacks, called, found, unfound, seen, unseen, counted, knows, keeps}
use Rattle.sn_plan.specs.declared.errors.LookFault.{LookFault}
use Rattle.sn_plan.specs.declared.file_system.Space.{Space}
use Rattle.sn_plan.specs.declared.server.Server.{Server}
use Rattle.sn_plan.proofs.Going.{leads_before, leads_on}

grows_none : {F : Type 0} (did : F → F → List Act → Type 0) (a : F) → Grows (did a) (did a) []
grows_none did a = record { grows = λ first before d. subst (did a first) (sym (append-nil before)) d }

grows_on : {F : Type 0} (did : F → F → List Act → Type 0) (a b c : F) (x y : List Act) → Grows (did a) (did b) x → Grows (did b) (did c) y → Grows (did a) (did c) (x ++ y)
grows_on did a b c x y g h = record { grows = λ first before d. subst (did c first) (append_assoc before x y) (h.grows first (before ++ x) (g.grows first before d)) }

-- ---- whether something was changed

or-none : (b : Bool) → (b || false) ≡ b
or-none true = refl
or-none false = refl

or_more : (a b c : Bool) → ((a || b) || c) ≡ (a || (b || c))
or_more true b c = refl
or_more false b c = refl

-- nothing was
unchanged : {F : Type 0} (s t : Server F) → s.changed ≡ t.changed → t.changed ≡ (s.changed || false)
unchanged s t same = sym (or-none s.changed ∙ same)

-- by one call
changed_by : {F : Type 0} (s t : Server F) (b : Bool) → t.changed ≡ (s.changed || b) → t.changed ≡ (s.changed || (b || false))
changed_by s t b is = is ∙ ap (λ (x : Bool). s.changed || x) (sym (or-none b))

-- by some acts, and then by others
changed_on : {F : Type 0} (s t u : Server F) (x y : List Act) → t.changed ≡ (s.changed || list_any is_change x) → u.changed ≡ (t.changed || list_any is_change y)
    → u.changed ≡ (s.changed || list_any is_change (x ++ y))
changed_on s t u x y first more =
    more ∙ ap (λ (b : Bool). b || list_any is_change y) first ∙ or_more s.changed (list_any is_change x) (list_any is_change y)
    ∙ ap (λ (b : Bool). s.changed || b) (sym (list_any-append is_change x y))

-- what a server serves, and whether it was changed
abbrev pub served_of : {F : Type 0} → Server F → F × Bool
served_of s = (s.file_system, s.changed)

-- ---- acts that lead on

pub goes_none : {F A : Type 0} (did : F → F → List Act → Type 0) (s : Server F) (p : Plan A) → Goes did s s p p
goes_none did s p = record { acts = []; grows = grows_none did s.file_system; leads = stays; changed = unchanged s s refl }

pub goes_on : {F A : Type 0} {did : F → F → List Act → Type 0} {s t u : Server F} {p q r : Plan A} → Goes did s t p q → Goes did t u q r → Goes did s u p r
goes_on {did = did} {s = s} {t = t} {u = u} g h = record {
  acts = g.acts ++ h.acts;
  grows = grows_on did s.file_system t.file_system u.file_system g.acts h.acts g.grows h.grows;
  leads = leads_on g.leads h.leads;
  changed = changed_on s t u g.acts h.acts g.changed h.changed;
}

pub goes_before : {F A B : Type 0} {did : F → F → List Act → Type 0} {s t : Server F} {p q : Plan A} (k : A → Plan B) → Goes did s t p q → Goes did s t (p >>= k) (q >>= k)
goes_before k g = record { acts = g.acts; grows = g.grows; leads = leads_before k g.leads; changed = g.changed }

-- the same error
pub does_as_error : {F A : Type 0} {did : F → F → List Act → Type 0} {s t : Server F} {p : Plan A} {d e : Errno} → d ≡ e → Does did s t p (Err d) → Does did s t p (Err e)
does_as_error {did = did} {s = s} {t = t} {p = p} is h = subst (λ (x : Errno). Does did s t p (Err x)) is h

-- ---- one step

pub does_call : {F : Type 0} (did : F → F → List Act → Type 0) (s t : Server F) (session : ℕ) (call : Call) (reply : Reply)
    → Grows (did s.file_system) (did t.file_system) (Called session call reply ∷ []) → kept_of s ≡ kept_of t → t.changed ≡ (s.changed || (may_change call && is_answered reply))
    → Does did s t (calls session call) (Ok reply)
unfolding calls given
does_call did s t session call reply g same changed = record {
  goes = record {
    acts = Called session call reply ∷ [];
    grows = g;
    leads = subst (λ (u : Kept). Leads (calls session call) (kept_of s) (Called session call reply ∷ []) (given (Ok reply)) u) same (called stays);
    changed = changed_by s t (may_change call && is_answered reply) changed;
  };
}

pub does_find : {F : Type 0} (did : F → F → List Act → Type 0) (s t : Server F) (path : List ℕ) (looked : Result (Option ℕ) LookFault) (number : Option ℕ)
    → Grows (did s.file_system) (did t.file_system) (Found path looked ∷ []) → looked ≡ Ok number → kept_of s ≡ kept_of t → s.changed ≡ t.changed → Does did s t (finds path) (Ok number)
unfolding finds given
does_find did s t path looked number g is same quiet = record {
  goes = record {
    acts = Found path (Ok number) ∷ [];
    grows = subst (λ (x : Result (Option ℕ) LookFault). Grows (did s.file_system) (did t.file_system) (Found path x ∷ [])) is g;
    leads = subst (λ (u : Kept). Leads (finds path) (kept_of s) (Found path (Ok number) ∷ []) (given (Ok number)) u) same (found stays);
    changed = unchanged s t quiet;
  };
}

pub does_not_find : {F : Type 0} (did : F → F → List Act → Type 0) (s t : Server F) (path : List ℕ) (looked : Result (Option ℕ) LookFault) (fault : LookFault) (e : Errno)
    → Grows (did s.file_system) (did t.file_system) (Found path looked ∷ []) → looked ≡ Err fault → kept_of s ≡ kept_of t → s.changed ≡ t.changed → e ≡ fault_errno fault → Does did s t (finds path) (Err e)
unfolding finds given
does_not_find did s t path looked fault e g failed same quiet is = does_as_error (sym is) (record {
  goes = record {
    acts = Found path (Err fault) ∷ [];
    grows = subst (λ (x : Result (Option ℕ) LookFault). Grows (did s.file_system) (did t.file_system) (Found path x ∷ [])) failed g;
    leads = subst (λ (u : Kept). Leads (finds path) (kept_of s) (Found path (Err fault) ∷ []) (given (Err (fault_errno fault))) u) same unfound;
    changed = unchanged s t quiet;
  };
})

pub does_see : {F : Type 0} (did : F → F → List Act → Type 0) (s t : Server F) (number : ℕ) (looked : Result (Option Attributes) LookFault) (attributes : Option Attributes)
    → Grows (did s.file_system) (did t.file_system) (Seen number looked ∷ []) → looked ≡ Ok attributes → kept_of s ≡ kept_of t → s.changed ≡ t.changed → Does did s t (sees number) (Ok attributes)
unfolding sees given
does_see did s t number looked attributes g is same quiet = record {
  goes = record {
    acts = Seen number (Ok attributes) ∷ [];
    grows = subst (λ (x : Result (Option Attributes) LookFault). Grows (did s.file_system) (did t.file_system) (Seen number x ∷ [])) is g;
    leads = subst (λ (u : Kept). Leads (sees number) (kept_of s) (Seen number (Ok attributes) ∷ []) (given (Ok attributes)) u) same (seen stays);
    changed = unchanged s t quiet;
  };
}

pub does_not_see : {F : Type 0} (did : F → F → List Act → Type 0) (s t : Server F) (number : ℕ) (looked : Result (Option Attributes) LookFault) (fault : LookFault) (e : Errno)
    → Grows (did s.file_system) (did t.file_system) (Seen number looked ∷ []) → looked ≡ Err fault → kept_of s ≡ kept_of t → s.changed ≡ t.changed → e ≡ fault_errno fault → Does did s t (sees number) (Err e)
unfolding sees given
does_not_see did s t number looked fault e g failed same quiet is = does_as_error (sym is) (record {
  goes = record {
    acts = Seen number (Err fault) ∷ [];
    grows = subst (λ (x : Result (Option Attributes) LookFault). Grows (did s.file_system) (did t.file_system) (Seen number x ∷ [])) failed g;
    leads = subst (λ (u : Kept). Leads (sees number) (kept_of s) (Seen number (Err fault) ∷ []) (given (Err (fault_errno fault))) u) same unseen;
    changed = unchanged s t quiet;
  };
})

pub does_count : {F : Type 0} (did : F → F → List Act → Type 0) (s t : Server F) (space : Space)
    → Grows (did s.file_system) (did t.file_system) (Counted space ∷ []) → kept_of s ≡ kept_of t → s.changed ≡ t.changed → Does did s t counts (Ok space)
unfolding counts given
does_count did s t space g same quiet = record {
  goes = record {
    acts = Counted space ∷ [];
    grows = g;
    leads = subst (λ (u : Kept). Leads counts (kept_of s) (Counted space ∷ []) (given (Ok space)) u) same (counted stays);
    changed = unchanged s t quiet;
  };
}

-- ---- one after the other

-- a plan that gives a value, and then what follows
pub after : {F A B : Type 0} {did : F → F → List Act → Type 0} {s t u : Server F} {p : Plan A} (k : A → Plan B) {a : A} {r : Result B Errno}
    → Does did s t p (Ok a) → Does did t u (k a) r → Does did s u (p >>= k) r
unfolding given ◌>>=◌
after k h g = record { goes = goes_on (goes_before k h.goes) g.goes }

-- a plan that ends with an error
pub fails : {F A B : Type 0} {did : F → F → List Act → Type 0} {s t : Server F} {p : Plan A} (k : A → Plan B) {e : Errno}
    → Does did s t p (Err e) → Does did s t (p >>= k) (Err e)
unfolding given ◌>>=◌
fails k h = record { goes = goes_before k h.goes }

-- another value that is the same
pub does_as : {F A : Type 0} {did : F → F → List Act → Type 0} {s t : Server F} {p : Plan A} {q r : Result A Errno} → q ≡ r → Does did s t p q → Does did s t p r
does_as {A = A} {did = did} {s = s} {t = t} {p = p} is h = subst (λ (x : Result A Errno). Does did s t p x) is h

pub gives : {F A : Type 0} (did : F → F → List Act → Type 0) (s : Server F) (r : Result A Errno) → Does did s s (given r) r
gives did s r = record { goes = goes_none did s (given r) }

pub gives_ok : {F A : Type 0} (did : F → F → List Act → Type 0) (s : Server F) (a : A) → Does did s s (Gives a) (Ok a)
unfolding given
gives_ok did s a = record { goes = goes_none did s (Gives a) }

pub knows_it : {F A : Type 0} {did : F → F → List Act → Type 0} {s t : Server F} {k : Kept → Plan A} {r : Result A Errno} → Does did s t (k (kept_of s)) r → Does did s t (Knows k) r
knows_it h = record { goes = record { acts = h.goes.acts; grows = h.goes.grows; leads = knows h.goes.leads; changed = h.goes.changed } }

pub takes_it : {F A : Type 0} {did : F → F → List Act → Type 0} {s t : Server F} {p : Plan A} {r : Result A Errno} → Does did s t p r → Does did s t (Takes p) r
takes_it h = record { goes = record { acts = h.goes.acts; grows = h.goes.grows; leads = takes h.goes.leads; changed = h.goes.changed } }

pub lacks_it : {F A : Type 0} (did : F → F → List Act → Type 0) (s : Server F) (p : Plan A) → Does did s s (Takes p) (Err ENOMEM)
unfolding given
lacks_it did s p = record { goes = record { acts = []; grows = grows_none did s.file_system; leads = lacks; changed = unchanged s s refl } }

pub lacking : {F A : Type 0} {did : F → F → List Act → Type 0} {s : Server F} {p : Plan A} {e : Errno} → e ≡ ENOMEM → Does did s s (Takes p) (Err e)
lacking {did = did} {s = s} {p = p} is = does_as_error (sym is) (lacks_it did s p)

pub keeps_it : {F A : Type 0} {did : F → F → List Act → Type 0} {s t u : Server F} {change : Change} {p : Plan A} {r : Result A Errno}
    → served_of s ≡ served_of t → Becomes change (kept_of s) (kept_of t) → Does did t u p r → Does did s u (Keeps change p) r
keeps_it {F = F} {did = did} {s = s} {t = t} {u = u} same becomes h = record {
  goes = record {
    acts = h.goes.acts;
    grows = subst (λ (a : F × Bool). Grows (did a.0) (did u.file_system) h.goes.acts) (sym same) h.goes.grows;
    leads = keeps becomes h.goes.leads;
    changed = subst (λ (a : F × Bool). u.changed ≡ (a.1 || list_any is_change h.goes.acts)) (sym same) h.goes.changed;
  };
}

-- an error that is passed on
pub passed_on : {F A : Type 0} {did : F → F → List Act → Type 0} {s t : Server F} {p : Plan A} (r : Result A Errno) (e : Errno)
    → IsErrAnd r (λ x. x ≡ e) → Does did s t p (Err e) → Does did s t p r
passed_on (Ok a) e h d = absurd h
passed_on (Err x) e h d = does_as_error (sym h) d

-- another name for a state
pub done_from : {F A : Type 0} {did : F → F → List Act → Type 0} {s t u : Server F} {p : Plan A} {r : Result A Errno} → t ≡ s → Does did t u p r → Does did s u p r
done_from {F = F} {did = did} {u = u} {p = p} {r = r} is h = subst (λ (x : Server F). Does did x u p r) is h

pub done_to : {F A : Type 0} {did : F → F → List Act → Type 0} {s t u : Server F} {p : Plan A} {r : Result A Errno} → t ≡ u → Does did s u p r → Does did s t p r
done_to {F = F} {did = did} {s = s} {p = p} {r = r} is h = subst (λ (x : Server F). Does did s x p r) (sym is) h

-- another state of which the same is known
pub stays_so : {F A : Type 0} {did : F → F → List Act → Type 0} {s t : Server F} {p : Plan A} {r : Result A Errno}
    → served_of s ≡ served_of t → kept_of s ≡ kept_of t → Does did s s p r → Does did s t p r
stays_so {F = F} {did = did} {s = s} {t = t} {p = p} {r = r} same kept h = record {
  goes = record {
    acts = h.goes.acts;
    grows = subst (λ (a : F × Bool). Grows (did s.file_system) (did a.0) h.goes.acts) same h.goes.grows;
    leads = subst (λ (k : Kept). Leads p (kept_of s) h.goes.acts (given r) k) kept h.goes.leads;
    changed = subst (λ (a : F × Bool). a.1 ≡ (s.changed || list_any is_change h.goes.acts)) same h.goes.changed;
  };
}

-- another plan that is the same
pub does_same : {F A : Type 0} {did : F → F → List Act → Type 0} {s t : Server F} {p q : Plan A} {r : Result A Errno} → p ≡ q → Does did s t p r → Does did s t q r
does_same {A = A} {did = did} {s = s} {t = t} {r = r} is h = subst (λ (x : Plan A). Does did s t x r) is h

-- ---- the exits of a function that answers a message

-- a part gave a value
pub and_then : {F A B : Type 0} {did : F → F → List Act → Type 0} {s t u : Server F} {p : Plan A} {q : Result A Errno} (k : A → Plan B) {a : A} {r : Result B Errno}
    → Does did s t p q → q ≡ Ok a → Does did t u (k a) r → Does did s u (p >>= k) r
and_then k h is g = after k (does_as is h) g

-- it gave an error, which is passed on
pub stops : {F A B : Type 0} {did : F → F → List Act → Type 0} {s t : Server F} {p : Plan A} {q : Result A Errno} (k : A → Plan B) {e : Errno} (r : Result B Errno)
    → IsErrAnd r (λ x. x ≡ e) → Does did s t p q → q ≡ Err e → Does did s t (p >>= k) r
stops k {e = e} r passed h is = passed_on r e passed (fails k (does_as is h))

-- a result that is known
pub after_given : {F A B : Type 0} {did : F → F → List Act → Type 0} {s t : Server F} {x : Result A Errno} (k : A → Plan B) {a : A} {r : Result B Errno}
    → x ≡ Ok a → Does did s t (k a) r → Does did s t (given x >>= k) r
unfolding given ◌>>=◌
after_given {A = A} {did = did} {s = s} {t = t} k {r = r} is h = subst (λ (y : Result A Errno). Does did s t (given y >>= k) r) (sym is) h

pub fails_given : {F A B : Type 0} {did : F → F → List Act → Type 0} {s : Server F} {x : Result A Errno} (k : A → Plan B) {e : Errno}
    → x ≡ Err e → Does did s s (given x >>= k) (Err e)
unfolding given ◌>>=◌
fails_given {A = A} {did = did} {s = s} k {e = e} is = subst (λ (y : Result A Errno). Does did s s (given y >>= k) (Err e)) (sym is) (gives did s (Err e))

-- a fact of what is kept
pub after_known : {F A B : Type 0} {did : F → F → List Act → Type 0} {s t : Server F} (f : Kept → A) (k : A → Plan B) {a : A} {r : Result B Errno}
    → a ≡ f (kept_of s) → Does did s t (k a) r → Does did s t (Knows (λ kept. Gives (f kept)) >>= k) r
unfolding ◌>>=◌
after_known {A = A} {did = did} {s = s} {t = t} f k {r = r} is h = knows_it (subst (λ (x : A). Does did s t (k x) r) is h)

-- one of two plans
pub chosen : {F A : Type 0} {did : F → F → List Act → Type 0} {s t : Server F} {b : Bool} {p : Plan A} (q : Plan A) {r : Result A Errno} → b ≡ true → Does did s t p r → Does did s t (if b then p else q) r
chosen {did = did} {s = s} {t = t} {p = p} q {r = r} is h = subst (λ (x : Bool). Does did s t (if x then p else q) r) (sym is) h

pub not_chosen : {F A : Type 0} {did : F → F → List Act → Type 0} {s t : Server F} {b : Bool} (p : Plan A) {q : Plan A} {r : Result A Errno} → b ≡ false → Does did s t q r → Does did s t (if b then p else q) r
not_chosen {did = did} {s = s} {t = t} p {q = q} {r = r} is h = subst (λ (x : Bool). Does did s t (if x then p else q) r) (sym is) h

-- the end: a result, a value or an error
pub gives_as : {F A : Type 0} {did : F → F → List Act → Type 0} {s : Server F} {q r : Result A Errno} → r ≡ q → Does did s s (given q) r
gives_as {did = did} {s = s} {q = q} is = does_as (sym is) (gives did s q)

pub gives_it : {F A : Type 0} {did : F → F → List Act → Type 0} {s : Server F} {a b : A} → a ≡ b → Does did s s (Gives b) (Ok a)
unfolding given
gives_it {A = A} {did = did} {s = s} {b = b} is = subst (λ (x : A). Does did s s (Gives b) (Ok x)) (sym is) (gives_ok did s b)

pub refuses : {F A : Type 0} {did : F → F → List Act → Type 0} {s : Server F} {e : Errno} → Does did s s (let p : Plan A = Refuses e in p) (Err e)
unfolding given
refuses {did = did} {s = s} {e = e} = gives did s (Err e)

-- a change, and a value
pub changes : {F A : Type 0} {did : F → F → List Act → Type 0} {s t : Server F} {change : Change} (a : A)
    → served_of s ≡ served_of t → t.files ≡ files_after change s.files → Turns change (table_of s.nodes) (table_of t.nodes) → Does did s t (Keeps change (Gives a)) (Ok a)
changes {did = did} {t = t} a same files turns = keeps_it same (record { nodes = turns; files = files }) (gives_ok did t a)

-- what takes memory, as a word: it is what it should be, or refused
pub is_held : {A : Type 0} (it : A) (r : Result A Errno) (a : A) → IfOk r (λ x. x ≡ it) → r ≡ Ok a → a ≡ it
is_held {A = A} it r a h is = subst (λ (x : Result A Errno). IfOk x (λ y. y ≡ it)) is h

pub is_not_held : {F A B : Type 0} {did : F → F → List Act → Type 0} {s : Server F} {p : Plan A} (q : Result B Errno) {e : Errno} (r : Result A Errno)
    → IfErr q (λ x. x ≡ ENOMEM) → q ≡ Err e → IsErrAnd r (λ x. x ≡ e) → Does did s s (Takes p) r
is_not_held {B = B} q {e = e} r h is passed = passed_on r e passed (lacking (subst (λ (x : Result B Errno). IfErr x (λ y. y ≡ ENOMEM)) is h))
