use Rattle.std.proofs.Common.{◌≡◌, ◌⊎◌, inl, inr, ◌<◌, ◌+◌, ◌||◌, ℕ, Bool, true, false, nat_lt, slice_index, length, refl, sym, ap, subst, ◌∙◌, arith}
use Rattle.std.proofs.lemmas.Bool.{ltb-true, ltb-false}
use Rattle.std.specs.Prelude.{All}
use Rattle.sn_changed.specs.declared.dropped.DroppedFile.{DroppedFile}
use Rattle.sn_changed.specs.Dropped.{TellsGone}
use Rattle.sn_model.specs.Settling.{dropped, dropped_if, is_abandoned}
use Rattle.sn_model.specs.World.{World}
use Rattle.sn_model.proofs.LoseLemmas.{dropped_once, still_abandoned}
use Rattle.sn_caller.specs.Numbering.{has_gone}
use Rattle.sn_plain_world.specs.Plain.{kept_of, kept_since_of, world_of}
use Rattle.sn_caller.proofs.NumberLemmas.{abandoned_there, gone_by, kept_more}
use Rattle.sn_caller.proofs.ToldLemmas.{tells_if, told_all, told_few}
use Rattle.sn_plain_world.proofs.world.PlainWorld.drop_each_closed.Goals as goal

abbrev IsByClose : DroppedFile → Type 0
IsByClose file = file.by_close ≡ true

pub loop-number-preserved : goal.loop-number-preserved
loop-number-preserved c =
    let start = world_of c.args.self.now in
    let mid = world_of c.loop-number.self in
    let index = c.loop-number.number-index in
    let number = slice_index c.args.numbers.now index in
    let e : world_of c.drop_if_closed.new.self ≡ dropped_if mid number = c.drop_if_closed.ensures.world in
    let still = λ (n : ℕ) (h : is_abandoned (world_of c.drop_if_closed.new.self) n ≡ true). still_abandoned mid number n (ap (λ (w : World). is_abandoned w n) (sym e) ∙ h) in
    record {
      numbers = λ n h. c.loop-number.invariant.numbers n (still n h).0;
      world = ap dropped e ∙ dropped_once mid number ∙ c.loop-number.invariant.world;
      gone = λ n h. by_now (gone_by start mid number n (ap (λ (w : World). has_gone start w n) (sym e) ∙ h));
      kept = λ n. kept_more start mid number (kept_of c.args.self.now) (kept_of c.loop-number.self) (kept_of c.drop_if_closed.new.self) (λ h. (c.loop-number.invariant.left number h).0) c.loop-number.invariant.kept c.drop_if_closed.ensures.kept n
          ∙ sym (ap (λ (w : World). has_gone start w n || kept_of c.args.self.now n) e);
      since = λ n. kept_more start mid number (kept_since_of c.args.self.now) (kept_since_of c.loop-number.self) (kept_since_of c.drop_if_closed.new.self) (λ h. (c.loop-number.invariant.left number h).0) c.loop-number.invariant.since c.drop_if_closed.ensures.since n
          ∙ sym (ap (λ (w : World). has_gone start w n || kept_since_of c.args.self.now n) e);
      told = subst (λ (w : World). TellsGone start.live w.live c.drop_if_closed.new.dropped.items) (sym e)
          (subst (TellsGone start.live (dropped_if mid number).live) (sym c.drop_if_closed.ensures.told)
          (tells_if start mid number true c.loop-number.dropped.items (λ h. abandoned_there start number (c.loop-number.invariant.left number h).0) c.loop-number.invariant.told));
      closed = subst (All IsByClose) (sym c.drop_if_closed.ensures.told) (told_all start mid number true c.loop-number.dropped.items IsByClose c.loop-number.invariant.closed (λ h. refl));
      few = omega (arith, ap length c.drop_if_closed.ensures.told, told_few start mid number true c.loop-number.dropped.items, c.loop-number.invariant.few);
      left = λ n h. let was = c.loop-number.invariant.left n (still n h).0 in (was.0, λ k below same. apart k n index below same was.1 (still n h).1 (nat_lt k index) refl);
    }
  where
    by_now : {n : ℕ} → (has_gone (world_of c.args.self.now) (world_of c.loop-number.self) n ≡ true) ⊎ (n ≡ slice_index c.args.numbers.now c.loop-number.number-index) → (k : ℕ) × (k < c.loop-number.number-index + 1) × (slice_index c.args.numbers.now k ≡ n)
    by_now {n} (inl h) = let k = c.loop-number.invariant.gone n h in (k.0, omega (arith, k.1), k.2)
    by_now {n} (inr same) = (c.loop-number.number-index, omega arith, sym same)

    apart : (k n index : ℕ) → k < index + 1 → slice_index c.args.numbers.now k ≡ n → ((j : ℕ) → j < index → slice_index c.args.numbers.now j ≡ n → ⊥) → (n ≡ slice_index c.args.numbers.now index → ⊥) → (b : Bool) → nat_lt k index ≡ b → ⊥
    apart k n index below same earlier this true t = earlier k (ltb-true k index t) same
    apart k n index below same earlier this false t =
        let last : k ≡ index = omega (arith, below, ltb-false k index t) in
        this (sym same ∙ ap (slice_index c.args.numbers.now) last)
