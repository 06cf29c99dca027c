-- A directory or a hard link of an archive is made where it has room.
use Rattle.std.proofs.Common.{◌≡◌, ◌≢◌, ℕ, Bool, true, false, cond, List, [], ◌∷◌, ◌++◌, map, Option, Some, None, ⊎_elim, refl, sym, ap, subst, ◌∙◌}
use Rattle.std.specs.FinMap as map_of
use Rattle.std.specs.Str.{bytes_eq}
use Rattle.std.proofs.lemmas.Slice.Eq.{bytes_eq-Decides}
use Rattle.sn_limits.specs.declared.limits.Limits.{Limits}
use Rattle.sn_walk.specs.declared.object.Home.TheVariants.{Live}
use Rattle.sn_walk.specs.declared.object.Object.{Object as Thing}
use Rattle.sn_walk.specs.declared.object.Object.TheVariants as thing
use Rattle.sn_walk.specs.Objects.{root}
use Rattle.sn_walk.proofs.ChainLemmas.{bind_ok}
use Rattle.sn_model.specs.declared.call.Call.{Call}
use Rattle.sn_model.specs.declared.call.Call.TheVariants as call
use Rattle.sn_model.specs.declared.outcome.Caller.TheVariants.{Stays}
use Rattle.sn_model.specs.declared.outcome.Outcome.{Outcome}
use Rattle.sn_model.specs.declared.outcome.Pending.TheVariants.{Nothing}
use Rattle.sn_model.specs.declared.reply.Reply.{Reply}
use Rattle.sn_model.specs.declared.session.Session.{Session}
use Rattle.sn_model.specs.Calls.{Ready, outcome_of, ready, stat_outcome}
use Rattle.sn_model.specs.Denials.{led_to}
use Rattle.sn_model.specs.Steps.{Comes, Step}
use Rattle.sn_model.specs.Tree.{Node, link_cmp}
use Rattle.sn_model.specs.World.{World, trees_of, viewed_trees}
use Rattle.sn_model.specs.Worlds.{IsWorld}
use Rattle.sn_model.proofs.DecisionLemmas.{called, same_ok, stat_is}
use Rattle.sn_model.proofs.WorldLemmas.{alone_same, step_world}
use Rattle.sn_import.specs.Calls.{making_above, owning, through_from}
use Rattle.sn_import.specs.declared.object.Object.{Object}
use Rattle.sn_import.specs.declared.object.Rights.{Rights}
use Rattle.sn_import.specs.declared.object.What.{What}
use Rattle.sn_import.specs.declared.object.What.TheVariants.{Directory, HardLink}
use Rattle.sn_import_calls.specs.Acts.{Act}
use Rattle.sn_import_calls.specs.Carried.{AreMade}
use Rattle.sn_import_files.specs.Entries.{IsMade, IsOpened, IsUnopened}
use Rattle.sn_import_calls.specs.declared.stop.Stop.{Stop}
use Rattle.sn_import_laws.specs.Names.{IsNewDirectory, IsNewLink}
use Rattle.sn_import_laws.specs.Rights.{with_owner}
use Rattle.sn_import_laws.specs.Runs.{IsRoots, Runs}
use Rattle.sn_import_laws.specs.Trees.{IsTurned}
use Rattle.sn_import_laws.specs.Vacant.{IsNowhere, IsVacant}
use Rattle.sn_import_laws.proofs.Directories.{IsMade as IsMadeDirectory, mkdir_put}
use Rattle.sn_import_laws.proofs.Imports.{above_unchanged}
use Rattle.sn_import_laws.proofs.Links.{link_put}
use Rattle.sn_import_laws.proofs.Rights.{directory_owned}
use Rattle.sn_import_laws.proofs.Setting.{goes_on, ready_ok}
use Rattle.sn_import_laws.proofs.Steps.{IsDone, done, done_or_same, led_same, made_split, no_refusal, run_first, run_none, runs_split, still_roots}
use Rattle.sn_import_laws.proofs.Vacant.{no_thing, no_unlink, unchanged}

-- ---- directories

abbrev some_thing : ℕ → Option Thing
some_thing n = Some (thing.Node Live n)

one_number : (a b : ℕ) → some_thing a ≡ some_thing b → a ≡ b
one_number a b e = let same : thing.Node Live a ≡ thing.Node Live b = cc in cc same

one_node : (a b : Node) → Some a ≡ Some b → a ≡ b
one_node a b e = cc

-- a new directory gets its owner
owned_directory : (old middle new : World) (path : List ℕ) (rights : Rights) → IsMadeDirectory old middle path → IsTurned middle new path (with_owner rights) → IsNewDirectory old new path rights
owned_directory old middle new path rights m t =
    let n = m.name in
    let names : n.at.names ≡ t.at.names = same_ok n.at.names t.at.names (sym n.at.spelled ∙ t.at.spelled) in
    let number : t.number ≡ m.number = one_number t.number m.number (sym t.at.led ∙ ap (led_to (viewed_trees (trees_of middle)) root) (sym names) ∙ n.at.led) in
    let node : t.node ≡ m.node = one_node t.node m.node (sym t.at.there ∙ ap (map_of.get middle.live.nodes) number ∙ n.at.there) in
    let x = with_owner rights m.node in
    let made : map_of.get new.live.nodes m.number ≡ Some x = ap (map_of.get new.live.nodes) (sym number) ∙ t.turns.made ∙ ap (λ (y : Node). Some (with_owner rights y)) node in
    record {
      number = m.number;
      node = x;
      name = record {
        link = n.link;
        at = record { names = n.at.names; spelled = n.at.spelled; led = led_same middle new root n.at.names t.turns.links t.frozen ∙ n.at.led; there = made };
        named = ap (λ (ls : map_of.FinMap link_cmp ℕ). map_of.get ls n.link) t.turns.links ∙ n.named;
        absent = n.absent;
        links = λ other apart. ap (λ (ls : map_of.FinMap link_cmp ℕ). map_of.get ls other) t.turns.links ∙ n.links other apart;
        frozen = t.frozen ∙ n.frozen;
        sessions = t.sessions ∙ n.sessions;
        descriptors = t.descriptors ∙ n.descriptors;
      };
      unused = m.unused;
      nodes = λ other apart. t.turns.nodes other (λ is. apart (is ∙ number)) ∙ m.nodes other apart;
      kind = m.kind;
      owner = refl;
      group = refl;
      sticky = m.sticky;
      bytes = m.bytes;
    }

abbrev stat_ready : Session → List (List ℕ) → Ready
stat_ready s names = λ limits w. stat_outcome (viewed_trees (trees_of w)) s names

no_stop : (reason : Stop) → None ≡ Some reason → ⊥
no_stop reason e = cc

module _ (limits : Limits) (old new : World) (path : List ℕ) (lead : ℕ) (size : ℕ) (content : List ℕ) (acts : List Act) (whole : IsWorld limits old) (roots : IsRoots old) where
  abbrev object_of : What → Object
  object_of what = record { path = path; lead = lead; what = what }

  -- after the calls that change nothing, those of the object itself
  record Own (what : What) (calls : List Call) (more : List Act) : Type 0 where
    middle : World
    own : List Act
    made : AreMade what calls [] own
    ran : Runs limits old own middle
    after : Runs limits middle more new

  own_calls : (what : What) (calls : List Call) (first more : List Act) → IsVacant old (object_of what) → AreMade what (map making_above (through_from lead path) ++ calls) [] first → Runs limits old (first ++ more) new → Own what calls more
  own_calls what calls first more vacant made runs =
      let s = made_split what (map making_above (through_from lead path)) calls first made in
      let r = runs_split limits old new first more runs in
      let q = runs_split limits old r.0 s.front s.back (subst (λ (xs : List Act). Runs limits old xs r.0) s.acts_are r.1) in
      let same = above_unchanged limits old q.0 what (through_from lead path) s.front vacant.above s.first q.1 in
      record { middle = r.0; own = s.back; made = s.second; ran = subst (λ (v : World). Runs limits v s.back r.0) same q.2; after = r.2 }

  -- nothing goes
  unlinked : (what : What) (calls : List Call) (middle : World) (own : List Act) → IsNowhere old path → AreMade what (call.Unlink path ∷ calls) [] own → Runs limits old own middle
      → (rest : List Act) × AreMade what calls [] rest × Runs limits old rest middle
  unlinked what calls middle own absent made runs =
      let u = run_first limits old middle what (call.Unlink path) calls own made runs in
      let gone = unchanged limits old u.between (call.Unlink path) u.reply (λ outcome e. no_unlink limits old path outcome absent e) u.step in
      (u.others, u.left, subst (λ (v : World). Runs limits v u.others middle) gone u.runs)

  directory_opened : (rights : Rights) → IsVacant old (object_of (Directory rights)) → IsOpened (object_of (Directory rights)) size content acts None → Runs limits old acts new → IsNewDirectory old new path rights
  directory_opened rights vacant o runs =
      let w = Directory rights in
      let c = call.Mkdir path 448 in
      let k = own_calls w (call.Unlink path ∷ c ∷ owning path rights ∷ []) o.first o.more vacant o.made (subst (λ (xs : List Act). Runs limits old xs new) o.acts_are runs) in
      let u = unlinked w (c ∷ owning path rights ∷ []) k.middle k.own vacant.absent k.made k.ran in
      let m = run_first limits old k.middle w c (owning path rights ∷ []) u.0 u.1 u.2 in
      let made = ⊎_elim
      (λ (d : IsDone limits old 0 c m.reply m.between).
      (let x = mkdir_put limits old m.between path 448 m.reply whole d in
      owned_directory old m.between k.middle path rights x
      (directory_owned limits m.between k.middle path rights w m.others (step_world limits old m.between 0 c m.reply m.step tt whole) (still_roots old m.between x.name.sessions roots) m.left m.runs)))
      (λ (same : m.between ≡ old). absurd (nowhere rights k.middle m.others vacant.absent m.left (subst (λ (v : World). Runs limits v m.others k.middle) same m.runs)))
      (done_or_same limits old 0 c m.reply m.between m.step) in
      subst (λ (v : World). IsNewDirectory old v path rights) (sym (ended o.more o.finished.0 k.middle k.after)) made
    where
      -- what gets an owner is there
      nowhere : (rights : Rights) (middle : World) (own : List Act) → IsNowhere old path → AreMade (Directory rights) (owning path rights ∷ []) [] own → Runs limits old own middle → ⊥
      nowhere rights middle own absent made runs =
          let t = directory_owned limits old middle path rights (Directory rights) own whole roots made runs in
          let names : t.at.names ≡ absent.names = same_ok t.at.names absent.names (sym t.at.spelled ∙ absent.spelled) in
          no_thing (led_to (viewed_trees (trees_of old)) root t.at.names) (thing.Node Live t.number) t.at.led (ap (led_to (viewed_trees (trees_of old)) root) names ∙ absent.led)

      ended : (more : List Act) → more ≡ [] → (middle : World) → Runs limits middle more new → new ≡ middle
      ended more none middle after = subst (λ (xs : List Act). Runs limits middle xs new) none after

  -- ---- hard links

  -- a look changes nothing
  looked : (target : List ℕ) (middle : World) (answer : Reply) → Step limits old 0 (call.Stat target) answer middle → middle ≡ old
  looked target middle answer step = ⊎_elim
      (λ (d : IsDone limits old 0 (call.Stat target) answer middle).
      (let o = d.outcome in
      let r = bind_ok (ready old 0 (call.Stat target)) (outcome_of limits old) o d.decided in
      let k = called old 0 target (λ s names. ready_ok (stat_ready s names)) r.0 r.1 in
      let t = stat_is old k.caller k.names o (goes_on limits old (stat_ready k.caller k.names) r.0 o k.passed r.2) in
      let c = subst (λ (x : Outcome). Comes limits old 0 x middle) t.1 d.comes in
      c.world ∙ alone_same limits old 0 whole c.number c.tree Nothing Stays refl refl c.applied))
      (λ (same : middle ≡ old). same)
      (done_or_same limits old 0 (call.Stat target) answer middle step)

  link_opened : (target : List ℕ) → bytes_eq target path ≡ false → IsVacant old (object_of (HardLink target)) → IsOpened (object_of (HardLink target)) size content acts None → Runs limits old acts new → IsNewLink old new target path
  link_opened target apart vacant o runs =
      let w = HardLink target in
      let c = call.Link target path in
      let calls = λ (b : Bool). map making_above (through_from lead path) ++ call.Stat target ∷ cond b [] (call.Unlink path ∷ c ∷ []) in
      let made = subst (λ (b : Bool). AreMade w (calls b) [] o.first) apart o.made in
      let k = own_calls w (call.Stat target ∷ call.Unlink path ∷ c ∷ []) o.first o.more vacant made (subst (λ (xs : List Act). Runs limits old xs new) o.acts_are runs) in
      let l = run_first limits old k.middle w (call.Stat target) (call.Unlink path ∷ c ∷ []) k.own k.made k.ran in
      let same = looked target l.between l.reply l.step in
      let u = unlinked w (c ∷ []) k.middle l.others vacant.absent l.left (subst (λ (v : World). Runs limits v l.others k.middle) same l.runs) in
      let m = run_first limits old k.middle w c [] u.0 u.1 u.2 in
      let d = done limits old 0 c m.reply m.between (no_refusal w c m.reply (λ errno. refl) m.fine) m.step in
      let x = link_put limits old m.between target path m.reply whole d in
      let middle : k.middle ≡ m.between = run_none limits m.between k.middle w m.others m.left m.runs in
      let last : new ≡ k.middle = subst (λ (xs : List Act). Runs limits k.middle xs new) o.finished.0 k.after in
      subst (λ (v : World). IsNewLink old v target path) (sym (last ∙ middle)) x

-- ---- the laws

pub directories_are_imported : (limits : Limits) (old new : World) (object : Object) (rights : Rights) (size : ℕ) (content : List ℕ) (acts : List Act) → IsWorld limits old → IsRoots old → object.what ≡ Directory rights
    → IsVacant old object → IsMade object size content acts None → Runs limits old acts new → IsNewDirectory old new object.path rights
directories_are_imported limits old new object rights size content acts whole roots is vacant made runs =
    let Made : What → Type 0 = λ what. IsMade (record object { what = what }) size content acts None in
    let here : IsVacant old (record object { what = Directory rights }) = record { above = vacant.above; absent = vacant.absent } in
    ⊎_elim
    (λ (u : IsUnopened (record object { what = Directory rights }) acts None). absurd (no_stop u.reason u.stop_is))
    (λ (o : IsOpened (record object { what = Directory rights }) size content acts None). directory_opened limits old new object.path object.lead size content acts whole roots rights here o runs)
    (subst Made is made)

pub links_are_imported : (limits : Limits) (old new : World) (object : Object) (target : List ℕ) (size : ℕ) (content : List ℕ) (acts : List Act) → IsWorld limits old → IsRoots old → object.what ≡ HardLink target → target ≢ object.path
    → IsVacant old object → IsMade object size content acts None → Runs limits old acts new → IsNewLink old new target object.path
links_are_imported limits old new object target size content acts whole roots is other vacant made runs =
    let Made : What → Type 0 = λ what. IsMade (record object { what = what }) size content acts None in
    let here : IsVacant old (record object { what = HardLink target }) = record { above = vacant.above; absent = vacant.absent } in
    ⊎_elim
    (λ (u : IsUnopened (record object { what = HardLink target }) acts None). absurd (no_stop u.reason u.stop_is))
    (λ (o : IsOpened (record object { what = HardLink target }) size content acts None).
    link_opened limits old new object.path object.lead size content acts whole roots target (apart (bytes_eq target object.path) refl) here o runs)
    (subst Made is made)
  where
    apart : (b : Bool) → bytes_eq target object.path ≡ b → bytes_eq target object.path ≡ false
    apart false e = e
    apart true e = absurd (other ((bytes_eq-Decides target object.path).0 e))
