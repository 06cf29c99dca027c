use Rattle.std.proofs.Common.{◌≡◌, ◌↔◌, ℕ, ◌^◌, ◌<◌, List, slice_index, sym, subst}
use Rattle.std.specs.Int.{bit_at}
use Rattle.sn_device.specs.Sectors.{Contents}
use Rattle.sn_layout.specs.declared.geometry.Slot.{Slot}
use Rattle.sn_layout.specs.declared.root.RootBody.{RootBody}
use Rattle.sn_model.specs.declared.fault.Damage.{Damage}
use Rattle.sn_ondisk.specs.MapCopy.{map_word}
use Rattle.sn_ondisk.specs.Trees.{store_of}
use Rattle.sn_sound.specs.Maps.{IsReachedBy, rooted_in}
use Rattle.sn_sound.specs.Verdicts.{Stands}
use Rattle.sn_check_roots.specs.Laws.{FitWords}
use Rattle.sn_check_roots.specs.Sets.{AreSets}
use Rattle.sn_check_roots.specs.Words.{HasOtherWord, other}
use Rattle.sn_check_roots.proofs.SetLemmas.{same_sets, sets_begin, sets_grow}
use Rattle.sn_check_roots.proofs.laws.set_laws.Goals as goal

pub returns-clause-begin : goal.returns-clause-begin
returns-clause-begin c = sets_begin

pub returns-clause-grow : goal.returns-clause-grow
returns-clause-grow c n s roots root old new sets own marks = sets_grow s n roots root old new sets own marks

pub returns-clause-right : goal.returns-clause-right
returns-clause-right c n contents slot root words fits sets has block within = record {
  fits = subst (λ (w : ℕ). w < 2 ^ 32) (sym (has block within)) (fits block);
  bits = λ k. subst (λ (w : ℕ). (bit_at w k ≡ 1) ↔ IsReachedBy (store_of contents) (rooted_in root) block k) (sym (has block within)) (sets block k);
}

others : (n : ℕ) (contents : Contents) (slot : Slot) (root : RootBody) (words : List ℕ) (damage : Damage) (block : ℕ) → FitWords words → AreSets (store_of contents) (rooted_in root) words
    → HasOtherWord n contents slot words damage block → Stands n contents slot root damage block
others n contents slot root words _ _ fits sets (other block within apart) =
    (within, λ set. apart (same_sets (store_of contents) (rooted_in root) block (map_word n contents slot block) (slice_index words block) set (record { fits = fits block; bits = λ k. sets block k })))

pub returns-clause-others : goal.returns-clause-others
returns-clause-others c = others
