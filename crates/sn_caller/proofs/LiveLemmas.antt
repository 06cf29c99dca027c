-- How many descriptors of live files a caller leaves.
use Rattle.std.proofs.Common.{◌≡◌, ℕ, ◌+◌, ◌≤◌, Bool, true, false, cond, Option, Some, None, refl, ap, arith}
use Rattle.std.specs.FinMap as map
use Rattle.sn_model.specs.Descriptors.{Descriptors, moved_if, moved_to, opened}
use Rattle.sn_model.specs.World.{Descriptor}
use Rattle.sn_model.proofs.CountLemmas.{count_inserted, once}
use Rattle.sn_model.proofs.EntryLemmas.{share, total-insert}
use Rattle.sn_model.proofs.HeldLemmas.{descriptors_total, exact_descriptors}
use Rattle.sn_desc.specs.Holders.{is_live}
use Rattle.sn_desc.specs.InUse.{live_in}

abbrev is_of_live_file : (ℕ × ℕ) × Descriptor → Bool
is_of_live_file e = is_live e.1.home

at_most_one : (b : Bool) → cond b 1 0 ≤ 1
at_most_one true = omega arith
at_most_one false = omega arith

pub opened_live : (table : Descriptors) (session fd : ℕ) (d : Descriptor) → map.get table (session, fd) ≡ None → live_in (opened table session fd d) ≤ live_in table + 1
opened_live table session fd d vacant = omega (arith, count_inserted descriptors_total exact_descriptors is_of_live_file table (session, fd) d vacant, at_most_one (is_live d.home))

pub moved_live : (table : Descriptors) (session fd offset : ℕ) → live_in (moved_to table session fd offset) ≡ live_in table
moved_live table session fd offset = told (map.get table (session, fd)) refl
  where
    told : (o : Option Descriptor) → map.get table (session, fd) ≡ o → live_in (moved_if table session fd offset o) ≡ live_in table
    told None e = refl
    told (Some d) e =
        omega (
          arith,
          total-insert descriptors_total exact_descriptors (once is_of_live_file) table (session, fd) (record d { offset = offset }),
          ap (share (once is_of_live_file) (session, fd)) e,
        )
