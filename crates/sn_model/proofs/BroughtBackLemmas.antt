-- A call that answers that it has restored a snapshot has done so.
use Rattle.std.proofs.Common.{◌≡◌, ℕ, ◌<◌, true, List, Option, Some, None, Result, Ok, Err, is_some, refl, sym, ap, subst, ◌∙◌, inl, inr, arith}
use Rattle.std.specs.FinMap as map
use Rattle.sn_limits.specs.declared.kind.Kind.TheVariants.{File}
use Rattle.sn_limits.specs.declared.limits.Limits.{Limits}
use Rattle.sn_walk.proofs.ChainLemmas.{bind_ok}
use Rattle.sn_walk.specs.Chains.{◌>>=◌}
use Rattle.sn_model.specs.declared.call.Call.TheVariants as call
use Rattle.sn_model.specs.declared.reply.Refusal.{Refusal}
use Rattle.sn_model.specs.declared.reply.Reply.TheVariants.{Done}
use Rattle.sn_model.specs.Calls as calls
use Rattle.sn_model.proofs.Deciding as deciding
use Rattle.sn_model.specs.Calls.{outcome_of, ready}
use Rattle.sn_model.specs.NameTree.{HasKind}
use Rattle.sn_model.specs.Outcomes.{Outcome, Restores}
use Rattle.sn_model.specs.RestoreLaws.{BringsBack}
use Rattle.sn_model.specs.Settling.{settled}
use Rattle.sn_model.specs.SnapshotCalls.{snapshot_argument}
use Rattle.sn_model.specs.Steps.{Becomes, Comes, Step, decision, pointed, restored}
use Rattle.sn_model.specs.Tests.{logged_in}
use Rattle.sn_model.specs.Tree.{Tree, names_for}
use Rattle.sn_model.specs.World.{World}
use Rattle.sn_model.specs.Worlds.{IsWorld}
use Rattle.sn_model.proofs.DecisionLemmas.{ok, same_ok}
use Rattle.sn_model.proofs.DropLemmas.{all_named}
use Rattle.sn_model.proofs.RestoreLemmas.{restored_beside}
use Rattle.sn_model.proofs.SnapshotLemmas.{argument_same, restore_is, restores_at}
use Rattle.sn_model.proofs.WorldLemmas.{alone_same}

-- what is restored is there
brought : (old : World) (name : List ℕ) (o : Option Tree) → map.get old.frozen name ≡ o → is_some o ≡ true → BringsBack old (pointed (Restores name) old) name
brought old name None e has = cc has
brought old name (Some tree) e has = record {
  tree = tree;
  snapshot = e;
  live = live;
  named = subst (λ (t : Tree). (number : ℕ) → HasKind t number File → 0 < names_for t number) (sym live) (λ n k. some (names_for tree n) (all_named tree n k));
  beside = restored_beside old name;
}
  where
    live : (pointed (Restores name) old).live ≡ settled tree
    live = ap (λ (o : Option Tree). (restored o old).live) e

    some : (m : ℕ) → (m ≡ 0 → ⊥) → 0 < m
    some m h = omega arith

module _ (limits : Limits) (old new : World) (session : ℕ) (word : List ℕ) (whole : IsWorld limits old) where
  comes_back : (o : Outcome) → decision limits old session (call.SnapRestore word) ≡ Ok o → Comes limits old session o new → BringsBack old new word
  comes_back o decided comes =
      let r = bind_ok (ready old session (call.SnapRestore word)) (outcome_of limits old) o decided in
      let s = bind_ok (logged_in old session) (λ s. snapshot_argument word >>= (λ name. ok (deciding.snap_restore s name))) r.0 r.1 in
      let n = bind_ok (snapshot_argument word) (λ name. ok (deciding.snap_restore s.0 name)) r.0 s.2 in
      let is = restore_is limits old s.0 n.0 o (subst (λ (x : calls.Ready). outcome_of limits old x ≡ Ok o) (sym (same_ok (deciding.snap_restore s.0 n.0) r.0 n.2)) r.2) in
      let one = argument_same word n.0 n.1 in
      let there : restores_at limits old word ≡ o = ap (restores_at limits old) one ∙ is.0 in
      let came : Comes limits old session (restores_at limits old word) new = subst (λ (x : Outcome). Comes limits old session x new) (sym there) comes in
      let now : new ≡ pointed (Restores word) old = came.world ∙ ap (pointed (Restores word)) (alone_same limits old session whole came.number came.tree _ _ refl refl came.applied) in
      subst (λ (w : World). BringsBack old w word) (sym now) (brought old word (map.get old.frozen word) refl (ap (map.contains_key old.frozen) one ∙ is.1))

  becomes_back : (d : Result Outcome Refusal) → decision limits old session (call.SnapRestore word) ≡ d → Becomes limits old session d Done new → BringsBack old new word
  becomes_back (Err r) e h = let never = h.0 in cc never
  becomes_back (Ok o) e h = comes_back o e h.1

  pub brings_back : Step limits old session (call.SnapRestore word) Done new → BringsBack old new word
  brings_back (inl h) = becomes_back (decision limits old session (call.SnapRestore word)) refl h
  brings_back (inr h) = let never = h.told in cc never
