-- Files that go, as they are reported.
use Rattle.std.proofs.Common.{◌≡◌, ℕ, ◌+◌, ◌≤◌, Bool, true, false, ◌||◌, cond, List, [], ◌∷◌, ◌++◌, Option, Some, None, length, get_or, Contains, is_some, refl, sym, ap, subst, ◌∙◌, arith, length-append}
use Rattle.std.specs.Prelude.{All}
use Rattle.std.specs.FinMap as map
use Rattle.std.proofs.lemmas.List.{get_or-map}
use Rattle.std.proofs.lemmas.List.Elements.{All-push}
use Rattle.sn_changed.specs.declared.dropped.DroppedFile.{DroppedFile}
use Rattle.sn_changed.specs.Dropped.{TellsGone, numbers_of}
use Rattle.sn_changed.proofs.DroppedLemmas.{tells_one_more}
use Rattle.sn_model.specs.Changes.{take_node}
use Rattle.sn_model.specs.Settling.{OnlyLost, dropped, dropped_if, is_abandoned, is_held}
use Rattle.sn_model.specs.World.{World}
use Rattle.sn_caller.specs.Called.{TellsReleased, WereHeld}
use Rattle.sn_caller.specs.Numbering.{has_closed, has_gone}
use Rattle.sn_caller.specs.Told.{dropped_lost, told_if, told_lost}
use Rattle.sn_caller.proofs.CallerLemmas.{none_more, one_more}
use Rattle.sn_caller.proofs.NumberLemmas.{abandoned_there, closed_none, closed_one, unheld}

-- ---- one that may go

module _ (start mid : World) (number : ℕ) (by_close : Bool) (files : List DroppedFile) where
  abbrev without : World
  without = record mid { live = take_node mid.live number }

  abbrev file : DroppedFile
  file = record { number = number; by_close = by_close }

  pub tells_if : (is_abandoned mid number ≡ true → is_some (map.get start.live.nodes number) ≡ true) → TellsGone start.live mid.live files → TellsGone start.live (dropped_if mid number).live (told_if mid number by_close files)
  tells_if was tells = told (is_abandoned mid number) refl
    where
      told : (b : Bool) → is_abandoned mid number ≡ b → TellsGone start.live (cond b without mid).live (cond b (files ++ file ∷ []) files)
      told false e = tells
      told true e = tells_one_more start.live mid.live files file tells (was e) (abandoned_there mid number e)

  pub told_few : length (told_if mid number by_close files) ≤ length files + 1
  told_few = told (is_abandoned mid number)
    where
      told : (b : Bool) → length (cond b (files ++ file ∷ []) files) ≤ length files + 1
      told false = omega arith
      told true = omega (arith, length-append files (file ∷ []))

  pub told_all : (P : DroppedFile → Type 0) → All P files → (is_abandoned mid number ≡ true → P file) → All P (told_if mid number by_close files)
  told_all P all this = told (is_abandoned mid number) refl
    where
      told : (b : Bool) → is_abandoned mid number ≡ b → All P (cond b (files ++ file ∷ []) files)
      told false e = all
      told true e = All-push P files file all (this e)

-- ---- one that lost a name, if one did

pub lost_world : (mid : World) (lost : Option ℕ) → OnlyLost mid lost → dropped_lost mid lost ≡ dropped mid
lost_world mid None only = none_more mid only
lost_world mid (Some number) only = one_more mid number only

pub lost_descriptors : (mid : World) (lost : Option ℕ) → (dropped_lost mid lost).descriptors ≡ mid.descriptors
lost_descriptors mid None = refl
lost_descriptors mid (Some number) = told (is_abandoned mid number)
  where
    told : (b : Bool) → (cond b (record mid { live = take_node mid.live number }) mid).descriptors ≡ mid.descriptors
    told true = refl
    told false = refl

pub tells_lost : (start mid : World) (lost : Option ℕ) (files : List DroppedFile) → ((n : ℕ) → is_abandoned mid n ≡ true → is_some (map.get start.live.nodes n) ≡ true) → TellsGone start.live mid.live files → TellsGone start.live (dropped_lost mid lost).live (told_lost mid lost files)
tells_lost start mid None files was tells = tells
tells_lost start mid (Some number) files was tells = tells_if start mid number false files (was number) tells

pub lost_few : (mid : World) (lost : Option ℕ) (files : List DroppedFile) → length (told_lost mid lost files) ≤ length files + cond (is_some lost) 1 0
lost_few mid None files = omega arith
lost_few mid (Some number) files = told_few mid mid number false files

lost_all : (mid : World) (lost : Option ℕ) (files : List DroppedFile) (P : DroppedFile → Type 0) → All P files → ((n : ℕ) → is_abandoned mid n ≡ true → P (record { number = n; by_close = false })) → All P (told_lost mid lost files)
lost_all mid None files P all this = all
lost_all mid (Some number) files P all this = told_all mid mid number false files P all (this number)

length-numbers : (files : List DroppedFile) → length (numbers_of files) ≡ length files
length-numbers [] = refl
length-numbers (file ∷ files) = omega (arith, length-numbers files)

-- ---- a caller that has turned

module _ (old turned mid : World) (numbers seen : List ℕ) (same : seen ≡ numbers) (live : turned.live ≡ old.live) (tells : TellsReleased old turned numbers) (held : WereHeld old numbers)
    (gone : (n : ℕ) → has_gone turned mid n ≡ true → Contains seen n) (left : (n : ℕ) → is_abandoned mid n ≡ true → (is_abandoned turned n ≡ true) × (Contains seen n → ⊥)) where
  pub closed_lost : (lost : Option ℕ) (n : ℕ) → has_gone turned mid n ≡ has_closed old (dropped_lost mid lost) n
  closed_lost None n = closed_none old turned mid numbers seen same live tells held gone left n
  closed_lost (Some number) n = closed_one old turned mid numbers seen same live tells held gone left number n

  -- so whatever numbers were kept back, those of files that it has closed are so too
  pub closed_kept : (lost : Option ℕ) (new : World) (kept before now : ℕ → Bool) (n : ℕ) → new ≡ dropped_lost mid lost → kept ≡ before → now n ≡ (has_gone turned mid n || kept n) → now n ≡ (has_closed old new n || before n)
  closed_kept lost new kept before now n is same gives =
      gives ∙ ap (λ (k : ℕ → Bool). has_gone turned mid n || k n) same
      ∙ ap (λ (b : Bool). b || before n) (closed_lost lost n)
      ∙ sym (ap (λ (w : World). has_closed old w n || before n) is)

  -- what is abandoned was there
  was_there : (n : ℕ) → is_abandoned mid n ≡ true → is_some (map.get old.live.nodes n) ≡ true
  was_there n e = subst (λ t. is_some (map.get t.nodes n) ≡ true) live (abandoned_there turned n (left n e).0)

  module _ (lost : Option ℕ) (files : List DroppedFile) (told : TellsGone turned.live mid.live files) where
    pub caller_tells : TellsGone old.live (dropped_lost mid lost).live (told_lost mid lost files)
    caller_tells = tells_lost old mid lost files was_there (subst (λ t. TellsGone t mid.live files) live told)

    abbrev IsTold : DroppedFile → Type 0
    IsTold file = file.by_close ≡ is_held old file.number

    -- one that was dropped with its last descriptor had one
    pub caller_closed : All (λ (file : DroppedFile). file.by_close ≡ true) files → All IsTold (told_lost mid lost files)
    caller_closed closed = lost_all mid lost files IsTold each (λ n e. sym (unheld old turned mid numbers seen same live tells held gone left n e))
      where
        each : All IsTold files
        each k d within =
            let file = get_or files k d in
            let named : Contains (numbers_of files) file.number = (k, omega (arith, within, length-numbers files), get_or-map (λ (f : DroppedFile). f.number) files k d file.number within) in
            closed k d within ∙ sym (held file.number (subst (λ (xs : List ℕ). Contains xs file.number) same (gone file.number ((told.each file.number).0 named))))
