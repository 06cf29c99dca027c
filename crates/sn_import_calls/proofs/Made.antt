-- Calls of a plan, one after the other.
use Rattle.std.proofs.Common.{◌≡◌, ℕ, Bool, true, false, List, [], ◌∷◌, ◌++◌, ⊎_elim, inl, inr, refl, sym, ap, subst, ◌∙◌, append_assoc}
use Rattle.std.specs.Prelude.{Option, Some, Result, Ok, Err, IfErr, IfOk, IsErrAnd, IsOk, if◌then◌else◌, nat_lt}
use Rattle.std.specs.Option.{option_to_list}
use Rattle.std.proofs.lemmas.List.{append-nil}
use Rattle.std.proofs.lemmas.List.Elements.{All-append, All-nil, All-cons}
use Rattle.sn_model.specs.declared.call.Call.{Call}
use Rattle.sn_model.specs.declared.reply.Reply.{Reply}
use Rattle.sn_import.specs.Calls.{Goes as GoesOn}
use Rattle.sn_import.specs.declared.object.Object.{Object}
use Rattle.sn_import.specs.declared.object.What.{What}
use Rattle.sn_import_calls.specs.Acts.{Act, Called, Told, calls_in}
use Rattle.sn_limits.specs.declared.kind.Kind.{Kind}
use Rattle.sn_limits.specs.declared.kind.Kind.TheVariants.{File, Directory}
use Rattle.sn_model.specs.declared.call.Call.TheVariants as calls
use Rattle.sn_model.specs.declared.reply.Errno.{Errno}
use Rattle.sn_model.specs.declared.reply.Errno.TheVariants.{Estopped}
use Rattle.sn_model.specs.declared.reply.Reply.TheVariants as replies
use Rattle.sn_import.specs.Refused.{is_expected}
use Rattle.sn_import_calls.specs.Answers.{answer, file_seen, given, looked, opened}
use Rattle.sn_import_calls.specs.Stops.{is_call}
use Rattle.sn_import_calls.specs.Carried.{AreMade, Goes, Grows, IsBroken, IsFine, IsRefused, IsStopped, is_outside, number_from, number_in}
use Rattle.sn_import_calls.specs.declared.stop.Stop.{Stop}
use Rattle.sn_import_calls.specs.declared.stop.Stop.TheVariants.{Memory, Refused}

pub calls-append : (a b : List Act) → calls_in (a ++ b) ≡ calls_in a ++ calls_in b
calls-append [] b = refl
calls-append (Called call reply ∷ a) b = ap (λ cs. call ∷ cs) (calls-append a b)
calls-append (Told entry name why ∷ a) b = calls-append a b

pub none_made : (what : What) (plan : List Call) → AreMade what plan plan []
none_made what plan = record { plan_is = refl; fine = All-nil (IsFine what) }

pub made_as : (what : What) (plan other left : List Call) (acts : List Act) → plan ≡ other → AreMade what plan left acts → AreMade what other left acts
made_as what plan other left acts is m = record { plan_is = sym is ∙ m.plan_is; fine = m.fine }

pub made_more : (what : What) (plan between left : List Call) (a b : List Act) → AreMade what plan between a → AreMade what between left b → AreMade what plan left (a ++ b)
made_more what plan between left a b m n = record {
  plan_is = m.plan_is ∙ ap (λ cs. calls_in a ++ cs) n.plan_is ∙ sym (append_assoc (calls_in a) (calls_in b) left) ∙ ap (λ cs. cs ++ left) (sym (calls-append a b));
  fine = All-append (IsFine what) a b m.fine n.fine;
}

-- one call, whose reply lets the entry go on
pub one_made : (what : What) (call : Call) (reply : Reply) (left : List Call) (n : ℕ) → answer what call reply ≡ Ok n → AreMade what (call ∷ left) left (Called call reply ∷ [])
one_made what call reply left n is = record {
  plan_is = refl;
  fine = All-cons (IsFine what) (Called call reply) [] (subst (λ (r : Result ℕ Stop). IsOk r) (sym is) refl) (All-nil (IsFine what));
}

-- the plan continues
pub made_with : (what : What) (plan left more : List Call) (acts : List Act) → AreMade what plan left acts → AreMade what (plan ++ more) (left ++ more) acts
made_with what plan left more acts m = record {
  plan_is = ap (λ cs. cs ++ more) m.plan_is ∙ append_assoc (calls_in acts) left more;
  fine = m.fine;
}

pub one_refused : (what : What) (call : Call) (reply : Reply) (left : List Call) (stop : Stop) → answer what call reply ≡ Err stop → IsStopped what (call ∷ left) (Called call reply ∷ []) stop
one_refused what call reply left stop is = inl (record {
  front = [];
  call = call;
  reply = reply;
  left = left;
  made = none_made what (call ∷ left);
  acts_are = refl;
  stopped = is;
})

pub broken_at : (what : What) (plan left : List Call) (acts : List Act) (stop : Stop) → is_outside stop ≡ true → AreMade what plan left acts → IsStopped what plan acts stop
broken_at what plan left acts stop is m = inr (record { left = left; made = m; outside = is })

pub stopped_after : (what : What) (plan between : List Call) (a b : List Act) (stop : Stop) → AreMade what plan between a → IsStopped what between b stop → IsStopped what plan (a ++ b) stop
stopped_after what plan between a b stop m s = ⊎_elim
    (λ (r : IsRefused what between b stop). inl (record {
      front = a ++ r.front;
      call = r.call;
      reply = r.reply;
      left = r.left;
      made = made_more what plan between (r.call ∷ r.left) a r.front m r.made;
      acts_are = ap (λ acts. a ++ acts) r.acts_are ∙ sym (append_assoc a r.front (Called r.call r.reply ∷ []));
      stopped = r.stopped;
    }))
    (λ (k : IsBroken what between b stop). inr (record { left = k.left; made = made_more what plan between k.left a b m k.made; outside = k.outside }))
    s

pub stopped_as : (what : What) (plan other : List Call) (acts : List Act) (stop : Stop) → plan ≡ other → IsStopped what plan acts stop → IsStopped what other acts stop
stopped_as what plan other acts stop is s = subst (λ (p : List Call). IsStopped what p acts stop) is s

pub stopped_with : (what : What) (plan more : List Call) (acts : List Act) (stop : Stop) → IsStopped what plan acts stop → IsStopped what (plan ++ more) acts stop
stopped_with what plan more acts stop s = ⊎_elim
    (λ (r : IsRefused what plan acts stop). inl (record {
      front = r.front;
      call = r.call;
      reply = r.reply;
      left = r.left ++ more;
      made = made_with what plan (r.call ∷ r.left) more r.front r.made;
      acts_are = r.acts_are;
      stopped = r.stopped;
    }))
    (λ (k : IsBroken what plan acts stop). inr (record { left = k.left ++ more; made = made_with what plan k.left more acts k.made; outside = k.outside }))
    s

-- the descriptor of the last call
pub last_number : (what : What) (n : ℕ) (acts : List Act) (call : Call) (reply : Reply) → number_from what n (acts ++ Called call reply ∷ []) ≡ number_in (answer what call reply)
last_number what n [] call reply = refl
last_number what n (Called c r ∷ acts) call reply = last_number what (number_in (answer what c r)) acts call reply
last_number what n (Told entry name why ∷ acts) call reply = last_number what n acts call reply

-- the next call of a plan, whose reply lets the entry go on
pub next_made : (what : What) (plan left rest : List Call) (acts : List Act) (call : Call) (reply : Reply) (n : ℕ)
    → AreMade what plan left acts → left ≡ call ∷ rest → answer what call reply ≡ Ok n → AreMade what plan rest (acts ++ Called call reply ∷ [])
next_made what plan left rest acts call reply n m is fine =
    made_more what plan left rest acts (Called call reply ∷ []) m (made_as what (call ∷ rest) left rest (Called call reply ∷ []) (sym is) (one_made what call reply rest n fine))

-- acts that are added to others
pub adds_more : {S : Type 0} (old between new : S → List Act → Type 0) (a b : List Act) → Grows old between a → Grows between new b → Grows old new (a ++ b)
adds_more old between new a b is more = record {
  grows = λ first before h. subst (new first) (append_assoc before a b) (more.grows first (before ++ a) (is.grows first before h));
}

pub adds_none : {S : Type 0} (old : S → List Act → Type 0) → Grows old old []
adds_none old = record { grows = λ first before h. subst (old first) (sym (append-nil before)) h }

-- the next call of an object
pub goes_at : {Place : Type 0} (from : Place → Object → List Call) (object : Object) (n : Option (Call × Place)) (calls : List Call) (call : Call) (next : Place)
    → GoesOn from object n calls → n ≡ Some (call, next) → calls ≡ call ∷ from next object
goes_at {Place} from object n calls call next goes is = (let h : GoesOn from object (Some (call, next)) calls = subst (λ (m : Option (Call × Place)). GoesOn from object m calls) is goes in h)

-- memory is refused, and no call is made
pub memory_stops : {A : Type 0} (what : What) (plan left : List Call) (r : Result A Stop) → IsErrAnd r (λ s. s ≡ Memory) → Goes what plan left [] r
memory_stops what plan left (Ok a) h = absurd h
memory_stops what plan left (Err stop) h = broken_at what plan plan [] stop (ap is_outside h) (none_made what plan)

-- the next call stops the entry
pub refusal_stops : {A : Type 0} (what : What) (plan rest left : List Call) (call : Call) (reply : Reply) (e : Stop) (r : Result A Stop)
    → IsErrAnd r (λ s. s ≡ e) → Err e ≡ answer what call reply → plan ≡ call ∷ rest → Goes what plan left (Called call reply ∷ []) r
refusal_stops what plan rest left call reply e (Ok a) h k is = absurd h
refusal_stops what plan rest left call reply e (Err stop) h k is =
    let told : answer what call reply ≡ Err stop = sym k ∙ ap (λ (s : Stop). (let failed : Result ℕ Stop = Err s in failed)) (sym h) in
    stopped_as what (call ∷ rest) plan (Called call reply ∷ []) stop (sym is) (one_refused what call reply rest stop told)

-- the next call is that of a list's first, if there is one
pub next_of : (plan rest : List Call) (n : Option Call) (call : Call) → plan ≡ option_to_list n ++ rest → n ≡ Some call → plan ≡ call ∷ rest
next_of plan rest n call is there = is ∙ ap (λ (m : Option Call). option_to_list m ++ rest) there

pub goes_after : {A : Type 0} (what : What) (plan between left : List Call) (a b : List Act) (r : Result A Stop)
    → AreMade what plan between a → Goes what between left b r → Goes what plan left (a ++ b) r
goes_after what plan between left a b (Ok x) m h = made_more what plan between left a b m h
goes_after what plan between left a b (Err stop) m h = stopped_after what plan between a b stop m h

-- a list is stopped, whatever follows it
pub stops_with : {A : Type 0} (what : What) (plan more left : List Call) (acts : List Act) (e : Stop) (r : Result A Stop)
    → IsErrAnd r (λ s. s ≡ e) → IsStopped what plan acts e → Goes what (plan ++ more) left acts r
stops_with what plan more left acts e (Ok x) h k = absurd h
stops_with what plan more left acts e (Err stop) h k =
    subst (λ (s : Stop). IsStopped what (plan ++ more) acts s) (sym h) (stopped_with what plan more acts e k)

-- ---- stops

descriptor_calls : (n : ℕ) (b : Bool) → IfErr (if b then Ok n else (let none : Result ℕ Stop = Err (Refused Estopped) in none)) (λ stop. is_call stop ≡ true)
descriptor_calls n true = tt
descriptor_calls n false = refl

opened_calls : (reply : Reply) → IfErr (opened reply) (λ stop. is_call stop ≡ true)
opened_calls (replies.Number n) = descriptor_calls n (nat_lt n 4294967296)
opened_calls _ = refl

seen_calls : (kind : Kind) → IfErr (file_seen kind) (λ stop. is_call stop ≡ true)
seen_calls File = tt
seen_calls Directory = refl

looked_calls : (reply : Reply) → IfErr (looked reply) (λ stop. is_call stop ≡ true)
looked_calls (replies.Status status) = seen_calls status.kind
looked_calls _ = refl

given_calls : (call : Call) (reply : Reply) → IfErr (given call reply) (λ stop. is_call stop ≡ true)
given_calls (calls.Open path flags mode) reply = opened_calls reply
given_calls (calls.Stat path) reply = looked_calls reply
given_calls _ reply = tt

refused_calls : (errno : Errno) (b : Bool) → IfErr (if b then Ok 0 else (let none : Result ℕ Stop = Err (Refused errno) in none)) (λ stop. is_call stop ≡ true)
refused_calls errno true = tt
refused_calls errno false = refl

-- what an answer stops an entry with is a call's refusal
pub answer_calls : (what : What) (call : Call) (reply : Reply) → IfErr (answer what call reply) (λ stop. is_call stop ≡ true)
answer_calls what call (replies.Refused refusal) = refused_calls refusal.errno (is_expected what call refusal.errno)
answer_calls what call other = given_calls call other

-- an error is passed on
pub error_as : {A : Type 0} (P : Stop → Type 0) (e : Stop) (r : Result A Stop) → IsErrAnd r (λ other. other ≡ e) → P e → IfErr r P
error_as P e (Ok a) is h = tt
error_as P e (Err stop) is h = subst P (sym is) h

-- the next call of a plan stops it
pub refused_next : {A : Type 0} (what : What) (plan between rest left : List Call) (acts : List Act) (call : Call) (reply : Reply) (e : Stop) (r : Result A Stop)
    → AreMade what plan between acts → between ≡ call ∷ rest → IsErrAnd r (λ s. s ≡ e) → Err e ≡ answer what call reply → Goes what plan left (acts ++ Called call reply ∷ []) r
refused_next what plan between rest left acts call reply e r m is h k =
    goes_after what plan between left acts (Called call reply ∷ []) r m (refusal_stops what between rest left call reply e r h k is)

-- nothing is said of a value that isn't there
pub no_value : {A : Type 0} (P : A → Type 0) (Q : Stop → Type 0) (r : Result A Stop) → IsErrAnd r Q → IfOk r P
no_value P Q (Ok a) is = absurd is
no_value P Q (Err stop) is = tt
