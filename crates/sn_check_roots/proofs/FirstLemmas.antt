-- The first group that has a fault.
use Rattle.std.proofs.Common.{◌≡◌, ◌≢◌, ℕ, ◌+◌, ◌<◌, List, [], ◌∷◌, ◌++◌, length, take, replicate, get_or, Contains, slice_index, refl, sym, ap, subst, ◌∙◌, arith}
use Rattle.std.specs.Int.{bit_at}
use Rattle.std.proofs.lemmas.List.{take_more}
use Rattle.sn_device.specs.Sectors.{Contents}
use Rattle.sn_layout.specs.declared.geometry.Slot.{Slot}
use Rattle.sn_layout.specs.declared.geometry.Slot.TheVariants.{A, B}
use Rattle.sn_layout.specs.declared.geometry.Area.TheVariants as area
use Rattle.sn_layout.specs.Geometry.{start_of}
use Rattle.sn_layout.specs.RootBody.{IsRootBody}
use Rattle.sn_layout.specs.declared.root.RootBody.{RootBody}
use Rattle.sn_model.specs.declared.fault.Damage.{Damage}
use Rattle.sn_model.specs.declared.fault.Damage.TheVariants as damage
use Rattle.sn_ondisk.specs.MapCopy.{map_word}
use Rattle.sn_ondisk.specs.Roots.{body_block}
use Rattle.sn_ondisk.specs.Trees.{Store, store_of}
use Rattle.sn_image.specs.Reach.{reach}
use Rattle.sn_image.proofs.ListLemmas.{none_in}
use Rattle.sn_sound.specs.Maps.{IsSoundRoot, Rooted, rooted_in}
use Rattle.sn_sound.specs.Verdicts.{OfSome, Stands, group_of}
use Rattle.sn_marks.specs.Marks.{Marks}
use Rattle.sn_check_root.specs.Laws.{LinksMakeRootsSound, StandingFaultsAreReal}
use Rattle.sn_check_root.specs.Rules.{IsSoundButLinks, StandsInRoot}
use Rattle.sn_check_roots.specs.Laws.{FitWords, OtherWordsStand, SetsBegin, SetsGrow}
use Rattle.sn_check_roots.specs.Sets.{AreSets}
use Rattle.sn_check_roots.specs.Words.{HasOtherWord}
use Rattle.sn_check_roots.specs.Words as word
use Rattle.sn_census.specs.Faults.{StandsInLinks}
use Rattle.sn_check_roots.specs.First.{AreChecked, AreDone, AreLinked, AreMarked, IsFirstOf}
use Rattle.sn_check_roots.proofs.RootedLemmas.{at_contains, each_more, own_bit}

-- ---- marks of the first roots

pub done_none : (n : ℕ) (s : Store) (root : RootBody) (words : List ℕ) → SetsBegin → words ≡ replicate n 0 → AreDone n s root 0 words
done_none n s root words begin blank = record { sets = subst (λ (ws : List ℕ). AreSets s [] ws) (sym blank) (begin s n); checked = λ r none. none_in r none }

-- one of the roots
pub root_within : (root : RootBody) (i : ℕ) (r : Rooted) → i < length (rooted_in root) → get_or (rooted_in root) i r ≡ r → Contains (rooted_in root) r
root_within root i r within is = subst (Contains (rooted_in root)) is (at_contains (rooted_in root) i r within)

module _ (n : ℕ) (s : Store) (root : RootBody) (fits : IsRootBody root) (i : ℕ) (d r : Rooted) (within : i < length (rooted_in root)) (is : get_or (rooted_in root) i d ≡ r) (old : List ℕ) (done : AreDone n s root i old) where
  pub clear_bit : (block : ℕ) → bit_at (slice_index old block) r.bit ≡ 0
  clear_bit block = omega (arith, not_set)
    where
      not_set : bit_at (slice_index old block) r.bit ≢ 1
      not_set set =
          let by = (done.sets block r.bit).0 set in
          own_bit root fits i d within _ by.among (ap (λ (q : Rooted). q.bit) (sym is))

  pub done_more : SetsGrow → (new : List ℕ) → Marks n r.bit (reach s r.inodes) old new → IsSoundButLinks root.limits n s r.inodes → AreDone n s root (i + 1) new
  done_more grow new marks sound = record {
    sets = subst (λ (rs : List Rooted). AreSets s rs new) (ap (λ (q : Rooted). take i (rooted_in root) ++ q ∷ []) (sym is) ∙ sym (take_more (rooted_in root) i d within))
        (grow n s (take i (rooted_in root)) r old new done.sets (λ other among same. own_bit root fits i d within other among (same ∙ ap (λ (q : Rooted). q.bit) (sym is))) marks);
    checked = each_more (λ (q : Rooted). IsSoundButLinks root.limits n s q.inodes) (rooted_in root) i r d within is done.checked sound;
  }

-- ---- what is reported is of the first group

module _ (n : ℕ) (c : Contents) (slot : Slot) (root : RootBody) where
  -- no group is before the first one
  none_before : (other : Damage) (at : ℕ) → group_of other < 2 → Stands n c slot root other at → ⊥
  none_before damage.Root at less stands = stands
  none_before damage.Pointer at less stands = absurd (omega (arith, less))
  none_before damage.ReachedTwice at less stands = absurd (omega (arith, less))
  none_before damage.Misspelt at less stands = absurd (omega (arith, less))
  none_before damage.MapWord at less stands = absurd (omega (arith, less))
  none_before damage.Links at less stands = absurd (omega (arith, less))
  none_before damage.Log at less stands = absurd (omega (arith, less))

  pub first_root : (kind : Damage) (block : ℕ) → OfSome root (λ r. StandsInRoot root.limits n (store_of c) r.inodes (body_block slot) kind block) → IsFirstOf n c slot root kind block
  first_root damage.Root block some = absurd some.2
  first_root damage.Pointer block some = record { stands = some; before = none_before }
  first_root damage.ReachedTwice block some = record { stands = some; before = none_before }
  first_root damage.Misspelt block some = record { stands = some; before = none_before }
  first_root damage.MapWord block some = absurd some.2
  first_root damage.Links block some = absurd some.2
  first_root damage.Log block some = absurd some.2

  module _ (real : StandingFaultsAreReal) (checked : AreChecked n (store_of c) root (rooted_in root)) where
    -- where all roots are sound but for their links, none is
    clean : (other : Damage) (at : ℕ) → group_of other < 3 → Stands n c slot root other at → ⊥
    clean damage.Root at less stands = stands
    clean damage.Pointer at less (r, among, stands) = real root.limits n (store_of c) r.inodes (body_block slot) damage.Pointer at stands (checked r among)
    clean damage.ReachedTwice at less (r, among, stands) = real root.limits n (store_of c) r.inodes (body_block slot) damage.ReachedTwice at stands (checked r among)
    clean damage.Misspelt at less (r, among, stands) = real root.limits n (store_of c) r.inodes (body_block slot) damage.Misspelt at stands (checked r among)
    clean damage.MapWord at less stands = absurd (omega (arith, less))
    clean damage.Links at less stands = absurd (omega (arith, less))
    clean damage.Log at less stands = absurd (omega (arith, less))

    pub first_word : OtherWordsStand → (words : List ℕ) → FitWords words → AreSets (store_of c) (rooted_in root) words → (kind : Damage) (block : ℕ) → HasOtherWord n c slot words kind block → IsFirstOf n c slot root kind block
    first_word others words fits sets kind block wrong = record { stands = others n c slot root words kind block fits sets wrong; before = before kind block wrong }
      where
        before : (k : Damage) (b : ℕ) → HasOtherWord n c slot words k b → (other : Damage) (at : ℕ) → group_of other < group_of k → Stands n c slot root other at → ⊥
        before _ _ (word.other b within apart) = clean

  module _ (real : StandingFaultsAreReal) (marked : AreMarked n c slot root) where
    cleaner : (other : Damage) (at : ℕ) → group_of other < 4 → Stands n c slot root other at → ⊥
    cleaner damage.Root at less stands = stands
    cleaner damage.Pointer at less stands = clean real marked.checked damage.Pointer at (omega arith) stands
    cleaner damage.ReachedTwice at less stands = clean real marked.checked damage.ReachedTwice at (omega arith) stands
    cleaner damage.Misspelt at less stands = clean real marked.checked damage.Misspelt at (omega arith) stands
    cleaner damage.MapWord at less (within, wrong) = wrong (marked.map at within)
    cleaner damage.Links at less stands = absurd (omega (arith, less))
    cleaner damage.Log at less stands = absurd (omega (arith, less))

    pub first_link : (kind : Damage) (block : ℕ) → OfSome root (λ r. StandsInLinks (store_of c) r.inodes (body_block slot) kind block) → IsFirstOf n c slot root kind block
    first_link damage.Root block some = absurd some.2
    first_link damage.Pointer block some = absurd some.2
    first_link damage.ReachedTwice block some = absurd some.2
    first_link damage.Misspelt block some = absurd some.2
    first_link damage.MapWord block some = absurd some.2
    first_link damage.Links block some = record { stands = some; before = cleaner }
    first_link damage.Log block some = absurd some.2

  pub all_sound : LinksMakeRootsSound → AreMarked n c slot root → AreLinked (store_of c) (rooted_in root) → IsSoundRoot n (store_of c) root (map_word n c slot)
  all_sound law marked linked = record { roots = λ r among. law root.limits n (store_of c) r.inodes (marked.checked r among) (linked r among); map = marked.map }

-- the block of a slot's body
pub body_at : (n : ℕ) (slot : Slot) → start_of n (area.RootBody slot) ≡ body_block slot
body_at n A = refl
body_at n B = refl
