-- What the calls on files and descriptors do, in the words of their pages of POSIX.1-2017.
use Rattle.std.proofs.Common.{◌≡◌, ℕ, zero, suc, ◌≤◌, Bool, true, false, cond, List, [], Option, Some, None, Result, Ok, Err, length, take, drop, refl, sym, ap, ◌∙◌}
use Rattle.std.specs.FinMap as map
use Rattle.std.proofs.lemmas.List.{drop_all}
use Rattle.sn_limits.specs.declared.limits.Limits.{Limits}
use Rattle.sn_walk.specs.Chains.{◌>>=◌}
use Rattle.std.specs.Prelude.{ok_or}
use Rattle.sn_model.specs.declared.reply.Errno.TheVariants.{Ebadf}
use Rattle.sn_model.specs.declared.reply.Refusal.{Refusal}
use Rattle.sn_model.specs.declared.reply.Reply.TheVariants.{Number}
use Rattle.sn_model.specs.Descriptors.{readable_at, writable_at}
use Rattle.sn_model.specs.FileCalls.{open_bytes, read_outcome, reads, write_offset, write_outcome}
use Rattle.sn_model.specs.Outcomes.{Outcome, tells}
use Rattle.sn_model.specs.Tests.{plain}
use Rattle.sn_model.specs.World.{Descriptor, World}

-- what a refusal that two answers share is
abbrev refusal_of : {A : Type 0} → Refusal → Result A Refusal → Refusal
refusal_of other (Ok x) = other
refusal_of other (Err r) = r

-- a read is refused for its descriptor alone: no right is asked for again
module _ (then : Descriptor → Outcome) (r : Refusal) where
  abbrev answer : Result Descriptor Refusal → Result Outcome Refusal
  answer o = o >>= (λ d. Ok (then d))

  asked : (d : Descriptor) (b : Bool) → answer (cond b (Ok d) (Err (plain Ebadf))) ≡ Err r → r ≡ plain Ebadf
  asked d true e = let never : Ok (then d) ≡ Err r = e in absurd cc
  asked d false e = sym (ap (refusal_of r) e)

  refused : (o : Option Descriptor) → answer (ok_or o (plain Ebadf) >>= (λ d. cond d.readable (Ok d) (Err (plain Ebadf)))) ≡ Err r → r ≡ plain Ebadf
  refused None e = sym (ap (refusal_of r) e)
  refused (Some d) e = asked d d.readable e

pub read_refuses : (world : World) (session fd count : ℕ) (r : Refusal) → read_outcome world session fd count ≡ Err r → r ≡ plain Ebadf
unfolding read_outcome
read_refuses world session fd count r e = refused (λ d. reads fd d (take count (drop d.offset (open_bytes world d)))) r (map.get world.descriptors (session, fd)) e

-- a read at the end of the file or past it gives no bytes, and leaves the offset
pub read_past : (world : World) (session fd count : ℕ) (d : Descriptor) → readable_at world.descriptors session fd ≡ Ok d → length (open_bytes world d) ≤ d.offset → read_outcome world session fd count ≡ Ok (reads fd d [])
unfolding read_outcome
read_past world session fd count d is past =
    let none : take count (drop d.offset (open_bytes world d)) ≡ [] = ap (take count) (drop_all d.offset (open_bytes world d) past) ∙ take_none count in
    ap (λ (asked : Result Descriptor Refusal). asked >>= (λ d. Ok (reads fd d (take count (drop d.offset (open_bytes world d)))))) is ∙ ap (λ (bytes : List ℕ). Ok (reads fd d bytes)) none
  where
    take_none : (n : ℕ) → take {A = ℕ} n [] ≡ []
    take_none zero = refl
    take_none (suc n) = refl

-- a write of no bytes does nothing
pub write_nothing : (limits : Limits) (world : World) (session fd : ℕ) (d : Descriptor) → writable_at world.descriptors session fd ≡ Ok d → write_outcome limits world session fd [] ≡ Ok (tells (Number 0))
unfolding write_outcome
write_nothing limits world session fd d is = rw is refl

-- what appends is written at the end
pub appends_at_end : (d : Descriptor) (bytes : List ℕ) → d.appends ≡ true → write_offset d bytes ≡ length bytes
appends_at_end d bytes is = ap (λ b. cond b (length bytes) d.offset) is
