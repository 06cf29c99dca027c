-- Calls that change nothing where an object has room: nothing is made above it, and nothing goes.
use Rattle.std.proofs.Common.{◌≡◌, ℕ, List, [], ◌∷◌, Option, Some, None, Result, Ok, Err, inl, inr, refl, sym, ap, ◌∙◌}
use Rattle.sn_acl.specs.declared.modes.Mode.{Mode}
use Rattle.sn_limits.specs.declared.limits.Limits.{Limits}
use Rattle.sn_walk.specs.declared.object.Object.{Object as Thing}
use Rattle.sn_walk.specs.declared.walking.Walked.{Walked}
use Rattle.sn_walk.specs.declared.walking.Walked.TheVariants.{Root, Name}
use Rattle.sn_walk.specs.Chains.{◌>>=◌}
use Rattle.sn_walk.specs.Objects.{root}
use Rattle.sn_walk.specs.Views.{ViewedTrees}
use Rattle.sn_walk.specs.Walks.{found_at, walk_of}
use Rattle.sn_walk.proofs.ChainLemmas.{bind_ok}
use Rattle.sn_walk.proofs.WalkLemmas.{ends_at}
use Rattle.sn_model.specs.declared.call.Call.{Call}
use Rattle.sn_model.specs.declared.call.Call.TheVariants as call
use Rattle.sn_model.specs.declared.outcome.Outcome.{Outcome}
use Rattle.sn_model.specs.declared.reply.Refusal.{Refusal}
use Rattle.sn_model.specs.declared.reply.Reply.{Reply}
use Rattle.sn_model.specs.declared.session.Session.{Session}
use Rattle.sn_model.specs.Calls.{Ready, mkdir_outcome, outcome_of, ready}
use Rattle.sn_model.specs.Denials.{led_to}
use Rattle.sn_model.specs.FileCalls.{unlink_outcome}
use Rattle.sn_model.specs.Seen.{seen}
use Rattle.sn_model.specs.Steps.{Becomes, Step, decision}
use Rattle.sn_model.specs.Tests.{new_mode_argument, not_present, prefix, there}
use Rattle.sn_model.specs.World.{World, trees_of, viewed_trees}
use Rattle.sn_model.proofs.AccessCallLemmas.{there_is}
use Rattle.sn_model.proofs.AccessDenialLemmas.{found_led}
use Rattle.sn_model.proofs.DecisionLemmas.{called, same_ok, walked_ok}
use Rattle.sn_import_laws.specs.Vacant.{IsNowhere, IsThere}
use Rattle.sn_import_laws.proofs.Opening.{walk_leads}
use Rattle.sn_import_laws.proofs.Setting.{goes_on, ready_ok}

-- a call that can't be decided leaves the world
pub unchanged : (limits : Limits) (old new : World) (c : Call) (reply : Reply) → ((o : Outcome) → decision limits old 0 c ≡ Ok o → ⊥) → Step limits old 0 c reply new → new ≡ old
unchanged limits old new c reply never (inl h) = of (decision limits old 0 c) refl h
  where
    of : (d : Result Outcome Refusal) → decision limits old 0 c ≡ d → Becomes limits old 0 d reply new → new ≡ old
    of (Err r) is b = b.1
    of (Ok o) is b = absurd (never o is)
unchanged limits old new c reply never (inr h) = h.same

-- ---- a directory that is there isn't made

abbrev pub mkdir_ready : Session → List (List ℕ) → Mode → Ready
mkdir_ready s names bits = λ limits w. mkdir_outcome limits (seen limits w) s names bits

-- nothing is there where a name is new
new_nowhere : (trees : ViewedTrees) (s : Session) (names : List (List ℕ)) (w : Walked) (v : Thing × ℕ) → prefix trees s.cred 1 names ≡ Ok w → not_present w ≡ Ok v → led_to trees root names ≡ None
new_nowhere trees s names Root v walks new = cc new
new_nowhere trees s names (Name d place (Some x)) v walks new = cc new
new_nowhere trees s [] (Name d place None) v walks new = cc (walked_ok 1 (walk_of trees s.cred []) (Name d place None) walks)
new_nowhere trees s (name ∷ more) (Name d place None) v walks new =
    let walk = walked_ok 1 (walk_of trees s.cred (name ∷ more)) (Name d place None) walks in
    walk_leads trees trees s.cred (λ o n c e. e) 0 root name more d place None walk ∙ sym (ends_at trees s.cred (name ∷ more) (Name d place None) walk).1

mkdir_new : (limits : Limits) (old : World) (s : Session) (names : List (List ℕ)) (mode : Mode) (o : Outcome) → mkdir_outcome limits (seen limits old) s names mode ≡ Ok o → led_to (viewed_trees (trees_of old)) root names ≡ None
unfolding mkdir_outcome
mkdir_new limits old s names mode o e =
    let trees = viewed_trees (trees_of old) in
    let w = bind_ok (prefix trees s.cred 1 names) _ o e in
    let v = bind_ok (not_present w.0) _ o w.2 in
    new_nowhere trees s names w.0 v.0 w.1 v.1

pub no_thing : (o : Option Thing) (x : Thing) → o ≡ Some x → o ≡ None → ⊥
no_thing None x e f = cc
no_thing (Some y) x e f = cc

pub no_mkdir : (limits : Limits) (old : World) (path : List ℕ) (mode : ℕ) (o : Outcome) → IsThere old path → decision limits old 0 (call.Mkdir path mode) ≡ Ok o → ⊥
no_mkdir limits old path mode o is e =
    let trees = viewed_trees (trees_of old) in
    let r = bind_ok (ready old 0 (call.Mkdir path mode)) (outcome_of limits old) o e in
    let k = called old 0 path (λ s names. new_mode_argument mode >>= (λ bits. ready_ok (mkdir_ready s names bits))) r.0 r.1 in
    let m = bind_ok (new_mode_argument mode) (λ bits. ready_ok (mkdir_ready k.caller k.names bits)) r.0 k.passed in
    let none = mkdir_new limits old k.caller k.names m.0 o (goes_on limits old (mkdir_ready k.caller k.names m.0) r.0 o m.2 r.2) in
    let names : is.names ≡ k.names = same_ok is.names k.names (sym is.spelled ∙ k.read) in
    no_thing (led_to trees root is.names) is.thing is.led (ap (led_to trees root) names ∙ none)

-- ---- what isn't there doesn't go

abbrev unlink_ready : Session → List (List ℕ) → Ready
unlink_ready s names = λ limits w. unlink_outcome limits (viewed_trees (trees_of w)) s names

unlink_there : (limits : Limits) (old : World) (s : Session) (names : List (List ℕ)) (o : Outcome) → unlink_outcome limits (viewed_trees (trees_of old)) s names ≡ Ok o
    → (x : Thing) × (led_to (viewed_trees (trees_of old)) root names ≡ Some x)
unfolding unlink_outcome
unlink_there limits old s names o e =
    let trees = viewed_trees (trees_of old) in
    let w = bind_ok (prefix trees s.cred 1 names) _ o e in
    let f = bind_ok (there (found_at trees w.0)) _ o w.2 in
    (f.0.object, (found_led trees s.cred names w.0 f.0 (walked_ok 1 (walk_of trees s.cred names) w.0 w.1) (there_is (found_at trees w.0) f.0 f.1)).1)

pub no_unlink : (limits : Limits) (old : World) (path : List ℕ) (o : Outcome) → IsNowhere old path → decision limits old 0 (call.Unlink path) ≡ Ok o → ⊥
no_unlink limits old path o is e =
    let trees = viewed_trees (trees_of old) in
    let r = bind_ok (ready old 0 (call.Unlink path)) (outcome_of limits old) o e in
    let k = called old 0 path (λ s names. ready_ok (unlink_ready s names)) r.0 r.1 in
    let found = unlink_there limits old k.caller k.names o (goes_on limits old (unlink_ready k.caller k.names) r.0 o k.passed r.2) in
    let names : is.names ≡ k.names = same_ok is.names k.names (sym is.spelled ∙ k.read) in
    no_thing (led_to trees root k.names) found.0 found.1 (ap (led_to trees root) (sym names) ∙ is.led)
