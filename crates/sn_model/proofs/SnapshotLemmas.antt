-- The outcomes of the calls on snapshots, and what they are refused with.
use Rattle.std.proofs.Common.{◌≡◌, ℕ, ◌*◌, ◌<◌, ◌==◌, Bool, true, false, cond, IsTrue, nat_le, List, Ok, Err, refl, sym, ap, ◌∙◌}
use Rattle.std.specs.FinMap as map
use Rattle.std.proofs.lemmas.Bool.{leb-false}
use Rattle.sn_acl.specs.Credential.{Credential}
use Rattle.sn_limits.specs.SnapshotName.{is_snapshot_name}
use Rattle.sn_limits.specs.declared.limits.Limits.{Limits}
use Rattle.sn_walk.specs.Chains.{◌>>=◌}
use Rattle.sn_walk.proofs.ChainLemmas.{bind_ok}
use Rattle.sn_walk.specs.declared.object.Home.TheVariants.{Live, Frozen}
use Rattle.sn_model.specs.declared.reply.Errno.TheVariants.{Eacces, Ebusy, Eexist, Einval, Elimit, Enoent, Eperm}
use Rattle.sn_model.specs.declared.reply.Refusal.{Refusal}
use Rattle.sn_model.specs.declared.reply.Rule.TheVariants as rule
use Rattle.sn_model.specs.declared.session.Session.{Session}
use Rattle.sn_model.specs.Outcomes.{Freezes, Outcome, Restores, Thaws, points, points_for}
use Rattle.sn_model.specs.SnapshotCalls.{closed_tree, has_open, present_snapshot, room_for_snapshot, snap_create_outcome, snap_delete_outcome, snap_restore_outcome, snapshot_argument, user_0, vacant_snapshot}
use Rattle.sn_model.specs.Settling.{nameless_if}
use Rattle.sn_model.specs.Tests.{forbidden, plain}
use Rattle.sn_model.specs.World.{World, trees_of, viewed_trees}
use Rattle.sn_model.proofs.DecisionLemmas.{ok, same_ok}
use Rattle.sn_model.proofs.FileDenialLemmas.{never_refused}
use Rattle.sn_model.proofs.OtherLemmas.{chain_other, plain_other, refuses, tested_other}

-- ---- what passes

pub argument_is : (word name : List ℕ) → snapshot_argument word ≡ Ok name → IsTrue (is_snapshot_name name)
argument_is word name e = told (is_snapshot_name word) refl e
  where
    told : (b : Bool) → is_snapshot_name word ≡ b → cond b (Ok word) (refuses (plain Einval)) ≡ Ok name → IsTrue (is_snapshot_name name)
    told true t f = let same : word ≡ name = cc in ap is_snapshot_name (sym same) ∙ t
    told false t f = cc

pub argument_same : (word name : List ℕ) → snapshot_argument word ≡ Ok name → word ≡ name
argument_same word name e = told (is_snapshot_name word) e
  where
    told : (b : Bool) → cond b (Ok word) (refuses (plain Einval)) ≡ Ok name → word ≡ name
    told true f = cc
    told false f = cc

pub create_is : (limits : Limits) (world : World) (session : Session) (name : List ℕ) (o : Outcome) → snap_create_outcome limits world session name ≡ Ok o → (points (Freezes name) ≡ o) × (map.contains_key world.frozen name ≡ false) × (map.len world.frozen < limits.snapshots)
unfolding snap_create_outcome
create_is limits world session name o e =
    let a = bind_ok (user_0 session.cred) (λ _. vacant_snapshot (viewed_trees (trees_of world)) name >>= (λ _. room_for_snapshot limits (map.len world.frozen) >>= (λ _. ok (points (Freezes name))))) o e in
    let b = bind_ok (vacant_snapshot (viewed_trees (trees_of world)) name) (λ _. room_for_snapshot limits (map.len world.frozen) >>= (λ _. ok (points (Freezes name)))) o a.2 in
    let c = bind_ok (room_for_snapshot limits (map.len world.frozen)) (λ _. ok (points (Freezes name))) o b.2 in
    (same_ok _ o c.2, vacant (plain Eexist) b.0 (map.contains_key world.frozen name) b.1, leb-false limits.snapshots (map.len world.frozen) (vacant (plain Elimit) c.0 (nat_le limits.snapshots (map.len world.frozen)) c.1))
  where
    vacant : (r : Refusal) (u : Unit {0}) (b : Bool) → cond b (Err r) (Ok (tt {0})) ≡ Ok u → b ≡ false
    vacant r u true f = cc
    vacant r u false f = refl

pub delete_is : (world : World) (session : Session) (name : List ℕ) (o : Outcome) → snap_delete_outcome world session name ≡ Ok o → (points (Thaws name) ≡ o) × (has_open world.descriptors (Frozen name) ≡ false)
unfolding snap_delete_outcome
delete_is world session name o e =
    let a = bind_ok (user_0 session.cred) (λ _. present_snapshot (viewed_trees (trees_of world)) name >>= (λ _. closed_tree world (Frozen name) >>= (λ _. ok (points (Thaws name))))) o e in
    let b = bind_ok (present_snapshot (viewed_trees (trees_of world)) name) (λ _. closed_tree world (Frozen name) >>= (λ _. ok (points (Thaws name)))) o a.2 in
    let c = bind_ok (closed_tree world (Frozen name)) (λ _. ok (points (Thaws name))) o b.2 in
    (same_ok _ o c.2, closed c.0 (has_open world.descriptors (Frozen name)) c.1)
  where
    closed : (u : Unit {0}) (b : Bool) → cond b (refuses (plain Ebusy)) (Ok (tt {0})) ≡ Ok u → b ≡ false
    closed u true f = cc
    closed u false f = refl

-- what a restore is charged for
abbrev pub restores_at : Limits → World → List ℕ → Outcome
restores_at limits world name = points_for (limits.inode_charge * nameless_if (map.get world.frozen name)) (Restores name)

pub restore_is : (limits : Limits) (world : World) (session : Session) (name : List ℕ) (o : Outcome) → snap_restore_outcome limits world session name ≡ Ok o → (restores_at limits world name ≡ o) × (map.contains_key world.frozen name ≡ true) × (has_open world.descriptors Live ≡ false)
unfolding snap_restore_outcome
restore_is limits world session name o e =
    let a = bind_ok (user_0 session.cred) (λ _. present_snapshot (viewed_trees (trees_of world)) name >>= (λ _. closed_tree world Live >>= (λ _. ok (restores_at limits world name)))) o e in
    let b = bind_ok (present_snapshot (viewed_trees (trees_of world)) name) (λ _. closed_tree world Live >>= (λ _. ok (restores_at limits world name))) o a.2 in
    let c = bind_ok (closed_tree world Live) (λ _. ok (restores_at limits world name)) o b.2 in
    (same_ok _ o c.2, present b.0 (map.contains_key world.frozen name) b.1, closed c.0 (has_open world.descriptors Live) c.1)
  where
    present : (u : Unit {0}) (b : Bool) → cond b (Ok (tt {0})) (refuses (plain Enoent)) ≡ Ok u → b ≡ true
    present u true f = refl
    present u false f = cc

    closed : (u : Unit {0}) (b : Bool) → cond b (refuses (plain Ebusy)) (Ok (tt {0})) ≡ Ok u → b ≡ false
    closed u true f = cc
    closed u false f = refl

-- ---- they ask for no entry's right: they are refused with other errors

module _ (r : Refusal) (is : r.errno ≡ Eacces) where
  pub argument_other : (word : List ℕ) → snapshot_argument word ≡ Err r → ⊥
  argument_other word e = tested_other Einval (λ q. cc q) (is_snapshot_name word) word r e is

  user_other : (cred : Credential) → user_0 cred ≡ Err r → ⊥
  user_other cred e = told (cred.uid == 0) e
    where
      told : (b : Bool) → cond b (Ok (tt {0})) (refuses (forbidden 0 0 rule.NotRoot)) ≡ Err r → ⊥
      told true f = cc f
      told false f = let never : Eperm ≡ Eacces = (let same : forbidden 0 0 rule.NotRoot ≡ r = cc f in ap (λ (x : Refusal). x.errno) same ∙ is) in cc never

  vacant_other : (world : World) (name : List ℕ) → vacant_snapshot (viewed_trees (trees_of world)) name ≡ Err r → ⊥
  vacant_other world name e = told (map.contains_key world.frozen name) e
    where
      told : (b : Bool) → cond b (refuses (plain Eexist)) (Ok (tt {0})) ≡ Err r → ⊥
      told true f = plain_other {A = Unit {0}} Eexist r (λ q. cc q) f is
      told false f = cc f

  room_other : (limits : Limits) (world : World) → room_for_snapshot limits (map.len world.frozen) ≡ Err r → ⊥
  room_other limits world e = told (nat_le limits.snapshots (map.len world.frozen)) e
    where
      told : (b : Bool) → cond b (refuses (plain Elimit)) (Ok (tt {0})) ≡ Err r → ⊥
      told true f = plain_other {A = Unit {0}} Elimit r (λ q. cc q) f is
      told false f = cc f

  busy_other : (b : Bool) → cond b (refuses (plain Ebusy)) (Ok (tt {0})) ≡ Err r → ⊥
  busy_other true f = plain_other {A = Unit {0}} Ebusy r (λ q. cc q) f is
  busy_other false f = cc f

pub create_other : (limits : Limits) (world : World) (session : Session) (name : List ℕ) (r : Refusal) → r.errno ≡ Eacces → snap_create_outcome limits world session name ≡ Err r → ⊥
unfolding snap_create_outcome
create_other limits world session name r is =
    chain_other (user_0 session.cred) (λ _. vacant_snapshot (viewed_trees (trees_of world)) name >>= (λ _. room_for_snapshot limits (map.len world.frozen) >>= (λ _. ok (points (Freezes name))))) r (user_other r is session.cred)
    (λ _. chain_other (vacant_snapshot (viewed_trees (trees_of world)) name) (λ _. room_for_snapshot limits (map.len world.frozen) >>= (λ _. ok (points (Freezes name)))) r (vacant_other r is world name)
    (λ _. chain_other (room_for_snapshot limits (map.len world.frozen)) (λ _. ok (points (Freezes name))) r (room_other r is limits world) (λ _ e. never_refused _ r e)))

pub delete_other : (world : World) (session : Session) (name : List ℕ) (r : Refusal) → r.errno ≡ Eacces → snap_delete_outcome world session name ≡ Err r → ⊥
unfolding snap_delete_outcome
delete_other world session name r is =
    chain_other (user_0 session.cred) (λ _. present_snapshot (viewed_trees (trees_of world)) name >>= (λ _. closed_tree world (Frozen name) >>= (λ _. ok (points (Thaws name))))) r (user_other r is session.cred)
    (λ _. chain_other (present_snapshot (viewed_trees (trees_of world)) name) (λ _. closed_tree world (Frozen name) >>= (λ _. ok (points (Thaws name)))) r (λ e. tested_other Enoent (λ q. cc q) (map.contains_key world.frozen name) tt r e is)
    (λ _. chain_other (closed_tree world (Frozen name)) (λ _. ok (points (Thaws name))) r (busy_other r is (has_open world.descriptors (Frozen name))) (λ _ e. never_refused _ r e)))

pub restore_other : (limits : Limits) (world : World) (session : Session) (name : List ℕ) (r : Refusal) → r.errno ≡ Eacces → snap_restore_outcome limits world session name ≡ Err r → ⊥
unfolding snap_restore_outcome
restore_other limits world session name r is =
    chain_other (user_0 session.cred) (λ _. present_snapshot (viewed_trees (trees_of world)) name >>= (λ _. closed_tree world Live >>= (λ _. ok (restores_at limits world name)))) r (user_other r is session.cred)
    (λ _. chain_other (present_snapshot (viewed_trees (trees_of world)) name) (λ _. closed_tree world Live >>= (λ _. ok (restores_at limits world name))) r (λ e. tested_other Enoent (λ q. cc q) (map.contains_key world.frozen name) tt r e is)
    (λ _. chain_other (closed_tree world Live) (λ _. ok (restores_at limits world name)) r (busy_other r is (has_open world.descriptors Live)) (λ _ e. never_refused _ r e)))
