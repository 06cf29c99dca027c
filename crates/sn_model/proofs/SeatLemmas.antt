-- Who is logged in under the number of a session.
use Rattle.std.proofs.Common.{◌≡◌, ℕ, Bool, true, false, cond, Option, Some, None, Ok, Err, nat_lt, ap, ◌∙◌}
use Rattle.std.specs.Option.{option_flatten}
use Rattle.std.specs.Prelude.{slice_get, ok_or}
use Rattle.sn_walk.proofs.ChainLemmas.{bind_ok}
use Rattle.sn_model.specs.declared.reply.Errno.TheVariants.{Einval, Ebadf}
use Rattle.sn_model.specs.declared.session.Session.{Session}
use Rattle.sn_model.specs.Tests.{plain, session_at, logged_in}
use Rattle.sn_model.specs.World.{World}
use Rattle.sn_model.proofs.DecisionLemmas.{ok, same_ok}

flat_is : (o : Option (Option Session)) (s : Session) → option_flatten o ≡ Some s → o ≡ Some (Some s)
flat_is None s e = cc
flat_is (Some None) s e = cc
flat_is (Some (Some x)) s e = ap (λ (y : Option Session). Some y) e

open_is : (o : Option Session) (s : Session) → ok_or o (plain Ebadf) ≡ Ok s → o ≡ Some s
open_is None s e = cc
open_is (Some x) s e = ap (λ (y : Session). Some y) (same_ok x s e)

pub seat_of : (world : World) (session : ℕ) (s : Session) → logged_in world session ≡ Ok s → slice_get world.sessions session ≡ Some (Some s)
seat_of world session s e =
    let p = bind_ok (session_at world session) (λ o. ok_or o (plain Ebadf)) s e in
    told (nat_lt session 64) (p.1 ∙ ap (λ (o : Option Session). ok o) (open_is p.0 s p.2))
  where
    told : (b : Bool) → cond b (ok (option_flatten (slice_get world.sessions session))) (Err (plain Einval)) ≡ Ok (Some s) → slice_get world.sessions session ≡ Some (Some s)
    told true f = flat_is (slice_get world.sessions session) s (same_ok _ _ f)
    told false f = cc
