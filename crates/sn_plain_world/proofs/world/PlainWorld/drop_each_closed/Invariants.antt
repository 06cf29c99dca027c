use Rattle.std.proofs.Common.{◌≡◌, ◌<◌, ◌≤◌, ◌||◌, ℕ, true, slice_index}
use Rattle.std.specs.Prelude.{All}
use Rattle.arrayvec.specs.ArrayVec.{array_vec_len}
use Rattle.sn_changed.specs.Dropped.{TellsGone}
use Rattle.sn_model.specs.Settling.{dropped, is_abandoned}
use Rattle.sn_caller.specs.Called.{AreNumbers}
use Rattle.sn_caller.specs.Numbering.{has_gone}
use Rattle.sn_plain_world.specs.Plain.{kept_of, kept_since_of, world_of}
use Rattle.sn_plain_world.proofs.world.PlainWorld.drop_each_closed.Given as goal

-- none of those so far is abandoned any more
abbrev pub invariant-loop-number : goal.invariant-loop-number
invariant-loop-number l = record {
  numbers : AreNumbers (world_of l.self);
  world : dropped (world_of l.self) ≡ dropped (world_of l.fn.self);
  left : (n : ℕ) → is_abandoned (world_of l.self) n ≡ true → (is_abandoned (world_of l.fn.self) n ≡ true) × ((k : ℕ) → k < l.number-index → slice_index l.numbers k ≡ n → ⊥);
  gone : (n : ℕ) → has_gone (world_of l.fn.self) (world_of l.self) n ≡ true → (k : ℕ) × (k < l.number-index) × (slice_index l.numbers k ≡ n);
  told : TellsGone (world_of l.fn.self).live (world_of l.self).live l.dropped.items;
  closed : All (λ file. file.by_close ≡ true) l.dropped.items;
  few : array_vec_len l.dropped ≤ l.number-index;
  kept : (n : ℕ) → kept_of l.self n ≡ (has_gone (world_of l.fn.self) (world_of l.self) n || kept_of l.fn.self n);
  since : (n : ℕ) → kept_since_of l.self n ≡ (has_gone (world_of l.fn.self) (world_of l.self) n || kept_since_of l.fn.self n);
}
