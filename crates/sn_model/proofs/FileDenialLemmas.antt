-- The calls on descriptors ask for no entry's right: they are refused with other errors.
use Rattle.std.proofs.Common.{◌≡◌, ℕ, ◌+◌, ◌==◌, Bool, true, false, cond, nat_le, List, Option, None, Some, Err, length, take, drop, Ok}
use Rattle.std.specs.FinMap as map
use Rattle.sn_limits.specs.declared.limits.Limits.{Limits}
use Rattle.sn_walk.specs.Chains.{◌>>=◌}
use Rattle.std.specs.Prelude.{ok_or}
use Rattle.sn_model.specs.Tests.{plain}
use Rattle.sn_model.specs.declared.change.Change.TheVariants.{SetSize}
use Rattle.sn_model.specs.declared.reply.Errno.TheVariants.{Eacces, Ebadf, Efbig, Einval}
use Rattle.sn_model.specs.declared.reply.Refusal.{Refusal}
use Rattle.sn_model.specs.declared.reply.Reply.TheVariants as reply
use Rattle.sn_model.specs.Descriptors.{Descriptors, descriptor_at, is_offset, readable_at, writable_at}
use Rattle.sn_model.specs.FileCalls.{close_outcome, ftruncate_outcome, is_size, open_bytes, read_outcome, reads, seek_outcome, write_offset, write_outcome, write_some, writes, file_charge}
use Rattle.sn_model.specs.Outcomes.{Closes, Moves, Outcome, tells, asks, does}
use Rattle.sn_model.specs.World.{Descriptor, World}
use Rattle.sn_model.proofs.DecisionLemmas.{ok}
use Rattle.sn_model.proofs.OtherLemmas.{chain_other, plain_other, tested_other}

pub never_refused : (o : Outcome) (r : Refusal) → ok o ≡ Err r → ⊥
never_refused o r e = cc e

module _ (r : Refusal) (is : r.errno ≡ Eacces) where
  found_other : (o : Option Descriptor) → ok_or o (plain Ebadf) ≡ Err r → ⊥
  found_other None e = plain_other Ebadf r (λ q. cc q) e is
  found_other (Some d) e = cc e

  at_other : (table : Descriptors) (session fd : ℕ) → descriptor_at table session fd ≡ Err r → ⊥
  at_other table session fd = found_other (map.get table (session, fd))

  readable_other : (table : Descriptors) (session fd : ℕ) → readable_at table session fd ≡ Err r → ⊥
  readable_other table session fd = chain_other (descriptor_at table session fd) (λ d. cond d.readable (Ok d) (Err (plain Ebadf))) r (at_other table session fd) (λ d e. tested_other Ebadf (λ q. cc q) d.readable d r e is)

  writable_other : (table : Descriptors) (session fd : ℕ) → writable_at table session fd ≡ Err r → ⊥
  writable_other table session fd = chain_other (descriptor_at table session fd) (λ d. cond d.writable (Ok d) (Err (plain Ebadf))) r (at_other table session fd) (λ d e. tested_other Ebadf (λ q. cc q) d.writable d r e is)

  size_other : (limits : Limits) (size : ℕ) → is_size limits size ≡ Err r → ⊥
  size_other limits size e = tested_other Efbig (λ q. cc q) (nat_le size limits.largest_file) tt r e is

pub close_other : (table : Descriptors) (session fd : ℕ) (r : Refusal) → r.errno ≡ Eacces → close_outcome table session fd ≡ Err r → ⊥
unfolding close_outcome
close_other table session fd r is = chain_other (descriptor_at table session fd) (λ _. ok (asks (Closes fd) reply.Done)) r (at_other r is table session fd) (λ d e. never_refused _ r e)

pub seek_other : (limits : Limits) (table : Descriptors) (session fd offset : ℕ) (r : Refusal) → r.errno ≡ Eacces → seek_outcome limits table session fd offset ≡ Err r → ⊥
unfolding seek_outcome
seek_other limits table session fd offset r is =
    chain_other (descriptor_at table session fd) (λ _. is_offset limits offset >>= (λ to. ok (asks (Moves fd to) (reply.Number to)))) r (at_other r is table session fd)
    (λ d. chain_other (is_offset limits offset) (λ to. ok (asks (Moves fd to) (reply.Number to))) r (λ e. tested_other Einval (λ q. cc q) (nat_le offset limits.largest_file) offset r e is) (λ to e. never_refused _ r e))

pub read_other : (world : World) (session fd count : ℕ) (r : Refusal) → r.errno ≡ Eacces → read_outcome world session fd count ≡ Err r → ⊥
unfolding read_outcome
read_other world session fd count r is =
    chain_other (readable_at world.descriptors session fd) (λ d. ok (reads fd d (take count (drop d.offset (open_bytes world d))))) r (readable_other r is world.descriptors session fd) (λ d e. never_refused _ r e)

some_other : (limits : Limits) (fd number offset : ℕ) (bytes : List ℕ) (r : Refusal) → r.errno ≡ Eacces → write_some limits fd number offset bytes ≡ Err r → ⊥
unfolding write_some
some_other limits fd number offset bytes r is = chain_other (is_size limits (offset + length bytes)) (λ _. ok (writes limits fd number offset bytes)) r (size_other r is limits (offset + length bytes)) (λ u e. never_refused _ r e)

pub write_other : (limits : Limits) (world : World) (session fd : ℕ) (bytes : List ℕ) (r : Refusal) → r.errno ≡ Eacces → write_outcome limits world session fd bytes ≡ Err r → ⊥
unfolding write_outcome
write_other limits world session fd bytes r is =
    chain_other (writable_at world.descriptors session fd) (λ d. cond (length bytes == 0) (ok (tells (reply.Number 0))) (write_some limits fd d.number (write_offset d (open_bytes world d)) bytes)) r (writable_other r is world.descriptors session fd)
    (λ d. told d (length bytes == 0))
  where
    told : (d : Descriptor) (b : Bool) → cond b (ok (tells (reply.Number 0))) (write_some limits fd d.number (write_offset d (open_bytes world d)) bytes) ≡ Err r → ⊥
    told d true e = never_refused _ r e
    told d false e = some_other limits fd d.number (write_offset d (open_bytes world d)) bytes r is e

pub ftruncate_other : (limits : Limits) (table : Descriptors) (session fd size : ℕ) (r : Refusal) → r.errno ≡ Eacces → ftruncate_outcome limits table session fd size ≡ Err r → ⊥
unfolding ftruncate_outcome
ftruncate_other limits table session fd size r is =
    chain_other (writable_at table session fd) (λ d. is_size limits size >>= (λ _. ok (does (file_charge limits 1) (SetSize d.number size)))) r (writable_other r is table session fd)
    (λ d. chain_other (is_size limits size) (λ _. ok (does (file_charge limits 1) (SetSize d.number size))) r (size_other r is limits size) (λ u e. never_refused _ r e))
