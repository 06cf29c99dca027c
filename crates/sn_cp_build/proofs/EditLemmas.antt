-- The bits of snapshots, as they are edited.
use Rattle.std.proofs.Common.{◌≡◌, ◌≢◌, ℕ, ◌≤◌, List, sym, subst, ◌∙◌, arith}
use Rattle.std.specs.Prelude.{slice_index}
use Rattle.std.specs.Int.{bit_at}
use Rattle.sn_map.specs.Bits.{ClearsBit, CopiesBit}
use Rattle.sn_cp_build.specs.Edits.{EditsBits, IsEdited, TakesBase}
use Rattle.sn_cp_build.specs.declared.edits.SnapshotEdit.{SnapshotEdit}
use Rattle.sn_cp_build.specs.declared.edits.SnapshotEdit.TheVariants as edit

module _ (bit : ℕ) (old new : List ℕ) (from_one : 1 ≤ bit) where
  not_live : 0 ≢ bit
  not_live zero = omega (arith, from_one, zero)

  freezes : CopiesBit 0 bit old new → EditsBits (edit.Freeze bit) old new
  freezes copies = record {
    as_many = copies.as_many;
    live = λ block. copies.others block 0 not_live;
    snapshots = record {
      frozen = λ block. copies.copied block ∙ sym (copies.others block 0 not_live);
      others = λ block k other apart. copies.others block k apart;
    };
  }

  thaws : ClearsBit bit old new → EditsBits (edit.Thaw bit) old new
  thaws clears = record {
    as_many = clears.as_many;
    live = λ block. clears.others block 0 not_live;
    snapshots = record {
      thawed = clears.cleared;
      others = λ block k other apart. clears.others block k apart;
    };
  }

  restores : CopiesBit bit 0 old new → TakesBase (edit.Restore bit) old new
  restores copies = record { as_many = copies.as_many; live = copies.copied; others = copies.others }

  -- by the bit's place as the map takes it
  pub freezes_at : (e : SnapshotEdit) (k : ℕ) → e ≡ edit.Freeze bit → k ≡ bit → CopiesBit 0 k old new → EditsBits e old new
  freezes_at e k is place copies = subst (λ (x : SnapshotEdit). EditsBits x old new) (sym is) (freezes (subst (λ (j : ℕ). CopiesBit 0 j old new) place copies))

  pub thaws_at : (e : SnapshotEdit) (k : ℕ) → e ≡ edit.Thaw bit → k ≡ bit → ClearsBit k old new → EditsBits e old new
  thaws_at e k is place clears = subst (λ (x : SnapshotEdit). EditsBits x old new) (sym is) (thaws (subst (λ (j : ℕ). ClearsBit j old new) place clears))

pub restores_at : (bit : ℕ) (old new : List ℕ) (e : SnapshotEdit) (k : ℕ) → 1 ≤ bit → e ≡ edit.Restore bit → k ≡ bit → CopiesBit k 0 old new → TakesBase e old new
restores_at bit old new e k from_one is place copies = subst (λ (x : SnapshotEdit). TakesBase x old new) (sym is) (restores bit old new from_one (subst (λ (j : ℕ). CopiesBit j 0 old new) place copies))

-- what was edited, was so of words in which bit 0 alone differs
pub edited_before : (e : SnapshotEdit) (old middle new : List ℕ) → ((block k : ℕ) → k ≢ 0 → bit_at (slice_index middle block) k ≡ bit_at (slice_index old block) k) → IsEdited e middle new → IsEdited e old new
edited_before edit.None old middle new same is = record { others = λ block k other. is.others block k other ∙ same block k other }
edited_before (edit.Restore bit) old middle new same is = record { others = λ block k other. is.others block k other ∙ same block k other }
edited_before (edit.Freeze bit) old middle new same is = record { frozen = is.frozen; others = λ block k other apart. is.others block k other apart ∙ same block k other }
edited_before (edit.Thaw bit) old middle new same is = record { thawed = is.thawed; others = λ block k other apart. is.others block k other apart ∙ same block k other }
