-- Calls that aren't refused.
use Rattle.std.proofs.Common.{◌≡◌, ◌⊎◌, ℕ, Bool, false, cond, List, [], ◌∷◌, ◌++◌, Option, Some, None, inl, inr, refl, sym, ap, subst, ◌∙◌}
use Rattle.std.specs.Prelude.{Result, Ok, Err, IsOk}
use Rattle.std.specs.Option.{option_and_then}
use Rattle.std.specs.FinMap as map
use Rattle.std.specs.Ordering.{nat_cmp}
use Rattle.std.specs.Cmp.Lexicographic.{slice_cmp}
use Rattle.std.proofs.lemmas.Bool.{true≢false}
use Rattle.std.proofs.lemmas.List.Elements.{All-cons, All-head, All-nil, All-tail}
use Rattle.sn_limits.specs.declared.limits.Limits.{Limits}
use Rattle.sn_walk.specs.declared.object.Home.TheVariants.{Live, Frozen}
use Rattle.sn_walk.specs.declared.object.Object.{Object}
use Rattle.sn_walk.specs.declared.object.Object.TheVariants as object
use Rattle.sn_walk.specs.Views.{ViewedTrees, child_of}
use Rattle.sn_model.specs.declared.call.Call.{Call}
use Rattle.sn_model.specs.declared.reply.Errno.{Errno}
use Rattle.sn_model.specs.declared.reply.Errno.TheVariants.{Enomem}
use Rattle.sn_model.specs.declared.reply.Refusal.{Refusal}
use Rattle.sn_model.specs.declared.reply.Reply.{Reply}
use Rattle.sn_model.specs.declared.reply.Reply.TheVariants.{Refused}
use Rattle.sn_model.specs.declared.session.Session.{Session}
use Rattle.sn_model.specs.Denials.{led_to}
use Rattle.sn_model.specs.declared.outcome.Outcome.{Outcome}
use Rattle.sn_model.specs.Steps.{Becomes, Comes, Step, decision}
use Rattle.sn_model.specs.Tests.{logged_in, plain}
use Rattle.sn_model.specs.Tree.{Tree, link_cmp}
use Rattle.sn_model.specs.World.{World, trees_of, viewed_trees}
use Rattle.sn_import.specs.Refused.{is_expected}
use Rattle.sn_import.specs.declared.object.What.{What}
use Rattle.sn_import_calls.specs.Acts.{Act, Called, Told, calls_in}
use Rattle.sn_import_calls.specs.Answers.{answer}
use Rattle.sn_import_calls.specs.Carried.{AreMade, IsFine}
use Rattle.sn_import_calls.specs.declared.stop.Stop.{Stop}
use Rattle.sn_import_calls.specs.declared.stop.Stop.TheVariants as stop
use Rattle.sn_import_laws.specs.Runs.{IsRoots, Runs}

-- ---- a step

pub record IsDone (limits : Limits) (old : World) (session : ℕ) (c : Call) (reply : Reply) (new : World) : Type 0 where
  pub outcome : Outcome
  pub decided : decision limits old session c ≡ Ok outcome
  pub told : reply ≡ outcome.told
  pub comes : Comes limits old session outcome new

-- no refusal is the answer
abbrev pub IsNoRefusal : Reply → Type 0
IsNoRefusal reply = (refusal : Refusal) → reply ≡ Refused refusal → ⊥

pub done : (limits : Limits) (old : World) (session : ℕ) (c : Call) (reply : Reply) (new : World) → IsNoRefusal reply → Step limits old session c reply new → IsDone limits old session c reply new
done limits old session c reply new fine (inl h) = of (decision limits old session c) refl h
  where
    of : (d : Result Outcome Refusal) → decision limits old session c ≡ d → Becomes limits old session d reply new → IsDone limits old session c reply new
    of (Err r) is h = absurd (fine r h.0)
    of (Ok o) is h = record { outcome = o; decided = is; told = h.0; comes = h.1 }
done limits old session c reply new fine (inr h) = absurd (fine (plain Enomem) h.told)

-- whatever is answered, it was done, or nothing was
pub done_or_same : (limits : Limits) (old : World) (session : ℕ) (c : Call) (reply : Reply) (new : World) → Step limits old session c reply new → IsDone limits old session c reply new ⊎ (new ≡ old)
done_or_same limits old session c reply new (inl h) = of (decision limits old session c) refl h
  where
    of : (d : Result Outcome Refusal) → decision limits old session c ≡ d → Becomes limits old session d reply new → IsDone limits old session c reply new ⊎ (new ≡ old)
    of (Err r) is h = inr h.1
    of (Ok o) is h = inl (record { outcome = o; decided = is; told = h.0; comes = h.1 })
done_or_same limits old session c reply new (inr h) = inr h.same

-- a call none of whose refusals is expected was done, where the entry went on
pub no_refusal : (what : What) (c : Call) (reply : Reply) → ((errno : Errno) → is_expected what c errno ≡ false) → IsOk (answer what c reply) → IsNoRefusal reply
no_refusal what c reply none fine refusal is =
    let refused : answer what c reply ≡ Err (stop.Refused refusal.errno) =
    ap (answer what c) is ∙ ap (λ (b : Bool). cond b (ok 0) (Err (stop.Refused refusal.errno))) (none refusal.errno) in
    let never : IsOk (err refusal.errno) = subst (λ (r : Result ℕ Stop). IsOk r) refused fine in
    absurd (true≢false (sym never))
  where
    ok : ℕ → Result ℕ Stop
    ok n = Ok n

    err : Errno → Result ℕ Stop
    err errno = Err (stop.Refused errno)

-- ---- the calls of a plan

pub record First (what : What) (c : Call) (rest : List Call) (acts : List Act) : Type 0 where
  pub reply : Reply
  pub others : List Act
  pub acts_are : acts ≡ Called c reply ∷ others
  pub fine : IsOk (answer what c reply)
  pub left : AreMade what rest [] others

pub first : (what : What) (c : Call) (rest : List Call) (acts : List Act) → AreMade what (c ∷ rest) [] acts → First what c rest acts
first what c rest [] made = let never : c ∷ rest ≡ [] = made.plan_is in cc
first what c rest (Called call reply ∷ others) made =
    let same : c ≡ call = cc made.plan_is in
    let more : rest ≡ calls_in others ++ [] = cc made.plan_is in
    record {
      reply = reply;
      others = others;
      acts_are = ap (λ (x : Call). Called x reply ∷ others) (sym same);
      fine = subst (λ (x : Call). IsOk (answer what x reply)) (sym same) (All-head (IsFine what) (Called call reply) others made.fine);
      left = record { plan_is = more; fine = All-tail (IsFine what) (Called call reply) others made.fine };
    }
first what c rest (Told entry name why ∷ others) made = absurd (All-head (IsFine what) (Told entry name why) others made.fine)

pub none : (what : What) (acts : List Act) → AreMade what [] [] acts → acts ≡ []
none what [] made = refl
none what (Called call reply ∷ others) made = let never : [] ≡ call ∷ (calls_in others ++ []) = made.plan_is in cc
none what (Told entry name why ∷ others) made = absurd (All-head (IsFine what) (Told entry name why) others made.fine)

-- the first call, and those after it
pub record RunsFirst (limits : Limits) (old new : World) (what : What) (c : Call) (rest : List Call) (acts : List Act) : Type 0 where
  pub reply : Reply
  pub others : List Act
  pub between : World
  pub acts_are : acts ≡ Called c reply ∷ others
  pub fine : IsOk (answer what c reply)
  pub step : Step limits old 0 c reply between
  pub left : AreMade what rest [] others
  pub runs : Runs limits between others new

pub run_first : (limits : Limits) (old new : World) (what : What) (c : Call) (rest : List Call) (acts : List Act) → AreMade what (c ∷ rest) [] acts → Runs limits old acts new → RunsFirst limits old new what c rest acts
run_first limits old new what c rest acts made runs =
    let f = first what c rest acts made in
    let r = subst (λ (xs : List Act). Runs limits old xs new) f.acts_are runs in
    record { reply = f.reply; others = f.others; between = r.0; acts_are = f.acts_are; fine = f.fine; step = r.1; left = f.left; runs = r.2 }

pub run_none : (limits : Limits) (old new : World) (what : What) (acts : List Act) → AreMade what [] [] acts → Runs limits old acts new → new ≡ old
run_none limits old new what acts made runs = subst (λ (xs : List Act). Runs limits old xs new) (none what acts made) runs

-- the calls of one plan and then of another
pub record Split (what : What) (a b : List Call) (acts : List Act) : Type 0 where
  pub front : List Act
  pub back : List Act
  pub acts_are : acts ≡ front ++ back
  pub first : AreMade what a [] front
  pub second : AreMade what b [] back

pub made_split : (what : What) (a b : List Call) (acts : List Act) → AreMade what (a ++ b) [] acts → Split what a b acts
made_split what [] b acts made = record { front = []; back = acts; acts_are = refl; first = record { plan_is = refl; fine = All-nil (IsFine what) }; second = made }
made_split what (c ∷ a) b acts made =
    let f = first what c (a ++ b) acts made in
    let s = made_split what a b f.others f.left in
    record {
      front = Called c f.reply ∷ s.front;
      back = s.back;
      acts_are = f.acts_are ∙ ap (λ (xs : List Act). Called c f.reply ∷ xs) s.acts_are;
      first = record { plan_is = ap (λ (cs : List Call). c ∷ cs) s.first.plan_is; fine = All-cons (IsFine what) (Called c f.reply) s.front f.fine s.first.fine };
      second = s.second;
    }

pub runs_split : (limits : Limits) (old new : World) (a b : List Act) → Runs limits old (a ++ b) new → (middle : World) × Runs limits old a middle × Runs limits middle b new
runs_split limits old new [] b runs = (old, refl, runs)
runs_split limits old new (Called call reply ∷ a) b runs =
    let s = runs_split limits runs.0 new a b runs.2 in
    (s.0, (runs.0, runs.1, s.1), s.2)
runs_split limits old new (Told entry name why ∷ a) b runs = runs_split limits old new a b runs

pub runs_join : (limits : Limits) (old middle new : World) (a b : List Act) → Runs limits old a middle → Runs limits middle b new → Runs limits old (a ++ b) new
runs_join limits old middle new [] b first second = subst (λ (w : World). Runs limits w b new) first second
runs_join limits old middle new (Called call reply ∷ a) b first second = (first.0, first.1, runs_join limits first.0 middle new a b first.2 second)
runs_join limits old middle new (Told entry name why ∷ a) b first second = runs_join limits old middle new a b first second

-- ---- what stays

pub still_roots : (old new : World) → new.sessions ≡ old.sessions → IsRoots old → IsRoots new
still_roots old new same roots = record {
  session = roots.session;
  seated = ap (λ (ss : List (Option Session)). logged_in (record old { sessions = ss }) 0) same ∙ roots.seated;
  root = roots.root;
}

-- paths lead where they led, where names and snapshots stay
abbrev view_with : Tree → map.FinMap (slice_cmp nat_cmp) Tree → ViewedTrees
view_with live frozen = viewed_trees (record { live = live; frozen = frozen })

child_same : (old new : World) (o : Object) (name : List ℕ) → new.live.links ≡ old.live.links → new.frozen ≡ old.frozen
    → child_of (viewed_trees (trees_of new)) o name ≡ child_of (viewed_trees (trees_of old)) o name
child_same old new (object.Node Live number) name links frozen =
    ap (λ (ls : map.FinMap link_cmp ℕ). child_of (view_with (record { nodes = old.live.nodes; links = ls }) old.frozen) (object.Node Live number) name) links
child_same old new (object.Node (Frozen s) number) name links frozen =
    ap (λ (fs : map.FinMap (slice_cmp nat_cmp) Tree). child_of (view_with old.live fs) (object.Node (Frozen s) number) name) frozen
child_same old new object.Snapshots name links frozen =
    ap (λ (fs : map.FinMap (slice_cmp nat_cmp) Tree). child_of (view_with old.live fs) object.Snapshots name) frozen

led_on : (a b : ViewedTrees) (o : Object) (names : List (List ℕ)) → ((x : Object) (name : List ℕ) → child_of a x name ≡ child_of b x name) → led_to a o names ≡ led_to b o names
unfolding led_to
led_on a b o [] same = refl
led_on a b o (name ∷ names) same =
    ap (option_and_then (λ (child : Object). led_to a child names)) (same o name) ∙ further (child_of b o name) (λ x. led_on a b x names same)
  where
    further : (x : Option Object) → ((y : Object) → led_to a y names ≡ led_to b y names) → option_and_then (λ (child : Object). led_to a child names) x ≡ option_and_then (λ (child : Object). led_to b child names) x
    further None ih = refl
    further (Some x) ih = ih x

pub led_same : (old new : World) (o : Object) (names : List (List ℕ)) → new.live.links ≡ old.live.links → new.frozen ≡ old.frozen
    → led_to (viewed_trees (trees_of new)) o names ≡ led_to (viewed_trees (trees_of old)) o names
led_same old new o names links frozen = led_on _ _ o names (λ x name. child_same old new x name links frozen)
