-- What a point that a call asks for leaves in memory.
use Rattle.std.proofs.Common.{◌≡◌, ℕ, ◌-◌, Bool, true, false, cond, Option, Ok, Err, refl, sym, ap, ◌∙◌, arith}
use Rattle.std.specs.FinMap as map
use Rattle.std.specs.Cmp.Lexicographic.{nat_list_cmp_total, slice_cmp}
use Rattle.std.specs.Ordering.{nat_cmp}
use Rattle.std.specs.Prelude.{IsOk}
use Rattle.sn_limits.specs.Versions.{limits_written}
use Rattle.sn_model.specs.declared.call.Call.{Call}
use Rattle.sn_model.specs.declared.call.Call.TheVariants as call
use Rattle.sn_model.specs.declared.outcome.AskedPoint.{AskedPoint}
use Rattle.sn_model.specs.declared.outcome.AskedPoint.TheVariants.{Unasked, Plain, Freezes, Thaws, Restores}
use Rattle.sn_model.specs.declared.outcome.Outcome.{Outcome}
use Rattle.sn_model.specs.Calls.{ready}
use Rattle.sn_model.specs.Steps.{TakesMemory, asks_for_point, decision, pointed, restored}
use Rattle.sn_model.specs.Tree.{Tree}
use Rattle.sn_model.specs.World.{World}
use Rattle.sn_model.proofs.DecidedLemmas.{decided_is}
use Rattle.sn_model.proofs.OutcomeLemmas.{is_asked}
use Rattle.sn_plain_world.specs.declared.fault.WorldError.{WorldError}
use Rattle.sn_plain_world.specs.declared.fault.WorldError.TheVariants.{Memory}
use Rattle.sn_plain_world.specs.Served.{memory_for}
use Rattle.sn_caller.proofs.StepLemmas.{ready_passed}

-- where there are no snapshots, and memory for what is asked for
pub plain_stays : (p : AskedPoint) (w : World) → Ok tt ≡ memory_for p → w.frozen ≡ map.empty → pointed p w ≡ w
plain_stays Unasked w e none = refl
plain_stays Plain w e none = refl
plain_stays (Freezes name) w e none = cc
plain_stays (Restores name) w e none = ap (λ (o : Option Tree). restored o w) (ap (λ m. map.get m name) none ∙ map.get-empty (slice_cmp nat_cmp) name)
plain_stays (Thaws name) w e none = λ i. record w { frozen = (ap (λ m. map.remove m name) none ∙ nothing ∙ sym none) i }
  where
    less : (b : Bool) (n : ℕ) → n ≡ 0 → cond b (n - 1) n ≡ 0
    less true n e = omega (arith, e)
    less false n e = e

    empty : map.FinMap (slice_cmp nat_cmp) Tree
    empty = map.empty

    nothing : map.remove empty name ≡ empty
    nothing = map.empty_of_len (map.remove empty name) (map.len-remove nat_list_cmp_total empty name ∙ less (map.contains_key empty name) (map.len empty) (map.len-empty (slice_cmp nat_cmp) Tree))

-- ---- there is none

asking_takes : (c : Call) → asks_for_point c ≡ true → TakesMemory c
asking_takes (call.Login uid gid groups) e = cc
asking_takes (call.Umask mask) e = cc
asking_takes (call.Mkdir path mode) e = tt
asking_takes (call.Chmod path mode) e = tt
asking_takes (call.Chown path uid gid) e = tt
asking_takes (call.Stat path) e = tt
asking_takes (call.Access path want) e = tt
asking_takes (call.GetAcl path kind) e = tt
asking_takes (call.SetAcl path kind acl) e = tt
asking_takes (call.Rmdir path) e = tt
asking_takes (call.Unlink path) e = tt
asking_takes (call.Link old new) e = tt
asking_takes (call.Rename old new) e = tt
asking_takes (call.Readdir path) e = tt
asking_takes call.Logout e = cc
asking_takes (call.Open path flags mode) e = tt
asking_takes (call.Close fd) e = cc
asking_takes (call.Read fd count) e = tt
asking_takes (call.Write fd bytes) e = tt
asking_takes (call.Seek fd offset) e = cc
asking_takes (call.Ftruncate fd size) e = tt
asking_takes call.Sync e = tt
asking_takes (call.SnapCreate name) e = tt
asking_takes (call.SnapDelete name) e = tt
asking_takes (call.SnapRestore name) e = tt
asking_takes call.SnapList e = tt

lacks_memory : (p : AskedPoint) (e : WorldError) → Err e ≡ memory_for p → (is_asked p ≡ true) × (e ≡ Memory)
lacks_memory Unasked e is = cc
lacks_memory Plain e is = cc
lacks_memory (Freezes name) e is = (refl, cc)
lacks_memory (Thaws name) e is = cc
lacks_memory (Restores name) e is = cc

-- a call whose point finds no memory is one that may find none
pub point_takes : (old : World) (session : ℕ) (c : Call) (o : Outcome) (e : WorldError) → decision limits_written old session c ≡ Ok o → Err e ≡ memory_for o.point → TakesMemory c × IsOk (ready old session c) × (e ≡ Memory)
point_takes old session c o e decided is =
    let lacks = lacks_memory o.point e is in
    (asking_takes c (sym (decided_is limits_written old session c o decided).points.asks ∙ lacks.0), ready_passed old session c o decided, lacks.1)
