-- What a write to a half of the log leaves of what a disk opens to.
use Rattle.std.proofs.Common.{◌≡◌, ◌⊎◌, inl, inr, ⊎_elim, ℕ, ◌+◌, ◌*◌, ◌/◌, ◌^◌, ◌<◌, ◌≤◌, List, [], ◌∷◌, ◌++◌, sym, ap, subst, ◌∙◌, append-nil, append_assoc, arith}
use Rattle.sn_device.specs.Sectors.{Contents, AreSectors, AreDisjoint, DependsOn, Union}
use Rattle.sn_device.specs.Disk.{Disk, Always, reads}
use Rattle.sn_device.specs.Crash.{LeavesOnly, Touches}
use Rattle.sn_device.proofs.CrashLemmas.{LeavesOnly-now, LeavesOnly-touched}
use Rattle.sn_layout.specs.declared.geometry.Area.TheVariants.{Data, Log}
use Rattle.sn_layout.specs.declared.geometry.LogHalf.{LogHalf}
use Rattle.sn_layout.specs.declared.geometry.LogHalf.TheVariants.{Zero, One}
use Rattle.sn_layout.specs.declared.geometry.Slot.{Slot}
use Rattle.sn_layout.specs.declared.root.RootBody.{RootBody}
use Rattle.sn_layout.specs.Geometry.{start_of, end_of, half_of_epoch}
use Rattle.sn_model.specs.declared.change.Change.{Change}
use Rattle.sn_model.specs.World.{World}
use Rattle.sn_record.specs.Payload.{IsSpelled}
use Rattle.sn_log.specs.Positions.{LogPosition, IsReadyAt, base_at, behind, payloads_of}
use Rattle.sn_ondisk.specs.Blocks.{InBlocks}
use Rattle.sn_ondisk.specs.LogHalf.{Replays, ReplaysTo, HasNoLater, InHalf, base_of}
use Rattle.sn_ondisk.specs.Roots.{IsNewest, InRoots}
use Rattle.sn_ondisk.specs.TreeLaws.{SameIn}
use Rattle.sn_ondisk.specs.Trees.{Store, store_of}
use Rattle.sn_ondisk.proofs.LogLemmas.{ReplaysTo-same}
use Rattle.sn_ondisk.proofs.OneLemmas.{ready_replays, later_replays}
use Rattle.sn_ondisk.proofs.PlaceLemmas.{areas_apart, halves_apart, halves_are, halves_of}
use Rattle.sn_ondisk.proofs.RootLemmas.{IsNewest-same}
use Rattle.sn_opening.specs.Spelled.{AreSpelled}
use Rattle.sn_opening.specs.Worlds.{StandsFor, all_reach}
use Rattle.sn_opening.specs.Opens.{LieInData, Opens, Shows}
use Rattle.sn_opening.specs.LogLaws.{IsReadyOrOneMore}
use Rattle.sn_opening.proofs.OpeningLemmas.{same_depends, shown_opens}
use Rattle.sn_opening.proofs.SpelledLemmas.{spelled_more}

pub end_from : (n : ℕ) (half : LogHalf) → end_of n (Log half) ≤ start_of n Data
end_from n Zero = omega arith
end_from n One = omega arith

pub log_and_data : (n epoch : ℕ) (blocks : List ℕ) → LieInData n blocks → AreDisjoint (InHalf (base_of n epoch)) (InBlocks blocks)
log_and_data n epoch blocks lie i is among = let placed = lie (i / 8) among in omega (arith, is.1, (halves_are n epoch).1, end_from n (half_of_epoch epoch), placed.from)

-- ---- all that is shown but the records of one half

-- the root, the blocks that it reaches, and the records of the epoch whose half stays
record Rests (n : ℕ) (s : Store) (slot : Slot) (root : RootBody) (epoch : ℕ) (kept : List Change) (c : Contents) : Type 0 where
  newest : IsNewest c slot root
  found : Replays c (base_of n epoch) epoch (payloads_of kept)
  same : SameIn (all_reach s root) s (store_of c)

abbrev InRests : ℕ → Store → RootBody → ℕ → ℕ → Type 0
InRests n s root epoch = Union InRoots (Union (InHalf (base_of n epoch)) (InBlocks (all_reach s root)))

rests_depend : (n : ℕ) (s : Store) (slot : Slot) (root : RootBody) (epoch : ℕ) (kept : List Change) → DependsOn (InRests n s root epoch) (Rests n s slot root epoch kept)
rests_depend n s slot root epoch kept c d whole_c whole_d agrees rests = record {
  newest = IsNewest-same c d slot root (λ i from to. agrees.same i (inl (from, to))) rests.newest;
  found = (rests.found.0, ReplaysTo-same c d (base_of n epoch) epoch (payloads_of kept) rests.found.0 (λ i from to. agrees.same i (inr (inl (from, to)))) rests.found.1);
  same = same_depends (all_reach s root) s c d whole_c whole_d (record { count = agrees.count; same = λ i is_in. agrees.same i (inr (inr is_in)) }) rests.same;
}

-- `epoch` is that of the half that stays, and `other` that of the one that is written
module _ (n : ℕ) (s : Store) (slot : Slot) (root : RootBody) (epoch other : ℕ) (kept : List Change) (lie : LieInData n (all_reach s root))
    (apart : AreDisjoint (InHalf (base_of n other)) (InHalf (base_of n epoch))) where
  log_and_rests : AreDisjoint (InHalf (base_of n other)) (InRests n s root epoch)
  log_and_rests i is (inl roots) = (areas_apart n).roots_and_log other i roots is
  log_and_rests i is (inr (inl half)) = apart i is half
  log_and_rests i is (inr (inr among)) = log_and_data n other (all_reach s root) lie i is among

  rests_stay : (old new : Disk) → AreSectors (reads old) → Always old (Rests n s slot root epoch kept) → Touches (InHalf (base_of n other)) old new → LeavesOnly old new (Rests n s slot root epoch kept)
  rests_stay old new whole here touched =
      LeavesOnly-touched (InHalf (base_of n other)) (InRests n s root epoch) (Rests n s slot root epoch kept) (rests_depend n s slot root epoch kept) log_and_rests old new whole here touched

-- what is written to the log of a position is written to that of its epoch
pub of_position : (n epoch : ℕ) (at : LogPosition) (old new : Disk) → at.blocks ≡ n → at.epoch ≡ epoch → Touches (InHalf (base_at at)) old new → Touches (InHalf (base_of n epoch)) old new
of_position n epoch at old new in_n in_epoch touched =
    subst (λ (e : ℕ). Touches (InHalf (base_of n e)) old new) in_epoch (subst (λ (m : ℕ). Touches (InHalf (base_of m at.epoch)) old new) in_n touched)

-- records that are ready are replayed
pub replayed : (n epoch : ℕ) (at : LogPosition) (changes : List Change) (c : Contents) → at.blocks ≡ n → at.epoch ≡ epoch → IsReadyAt at changes c
    → Replays c (base_of n epoch) epoch (payloads_of changes)
replayed n epoch at changes c in_n in_epoch is_ready =
    subst (λ (e : ℕ). Replays c (base_of n e) e (payloads_of changes)) in_epoch
    (subst (λ (m : ℕ). Replays c (base_of m at.epoch) at.epoch (payloads_of changes)) in_n
    (at.place, ready_replays c (base_at at) at.epoch at.place (payloads_of changes) is_ready.ready))

-- ---- records of one of the two epochs are written

older_rests : (n : ℕ) (s : Store) (slot : Slot) (root : RootBody) (older newer : List Change) (old new : Disk) → AreSectors (reads old) → LieInData n (all_reach s root)
    → Always old (Shows n s slot root older newer) → Touches (InHalf (base_of n root.epoch)) old new → LeavesOnly old new (Rests n s slot root (root.epoch + 1) newer)
older_rests n s slot root older newer old new whole lie here = rests_stay n s slot root (root.epoch + 1) root.epoch newer lie (halves_apart n root.epoch) old new whole
    (λ c crash. let shows = here c crash in record { newest = shows.shown.newest; found = shows.shown.has_newer; same = shows.same })

older_shown : (n : ℕ) (s : Store) (slot : Slot) (root : RootBody) (newer changes : List Change) (c : Contents) → Rests n s slot root (root.epoch + 1) newer c
    → Replays c (base_of n root.epoch) root.epoch (payloads_of changes) → Shows n s slot root changes newer c
older_shown n s slot root newer changes c rests found = record { shown = record { newest = rests.newest; has_older = found; has_newer = rests.found }; same = rests.same }

newer_rests : (n : ℕ) (s : Store) (slot : Slot) (root : RootBody) (older newer : List Change) (old new : Disk) → AreSectors (reads old) → LieInData n (all_reach s root)
    → Always old (Shows n s slot root older newer) → Touches (InHalf (base_of n (root.epoch + 1))) old new → LeavesOnly old new (Rests n s slot root root.epoch older)
newer_rests n s slot root older newer old new whole lie here = rests_stay n s slot root root.epoch (root.epoch + 1) older lie (λ i one two. halves_apart n root.epoch i two one) old new whole
    (λ c crash. let shows = here c crash in record { newest = shows.shown.newest; found = shows.shown.has_older; same = shows.same })

newer_shown : (n : ℕ) (s : Store) (slot : Slot) (root : RootBody) (older changes : List Change) (c : Contents) → Rests n s slot root root.epoch older c
    → Replays c (base_of n (root.epoch + 1)) (root.epoch + 1) (payloads_of changes) → Shows n s slot root older changes c
newer_shown n s slot root older changes c rests found = record { shown = record { newest = rests.newest; has_older = rests.found; has_newer = found }; same = rests.same }

pub older_show : (n : ℕ) (s : Store) (slot : Slot) (root : RootBody) (older newer changes : List Change) (at : LogPosition) (old new : Disk)
    → AreSectors (reads old) → at.blocks ≡ n → at.epoch ≡ root.epoch → LieInData n (all_reach s root)
    → Always old (Shows n s slot root older newer) → Touches (InHalf (base_at at)) old new
    → Always new (IsReadyAt at changes)
    → Always new (Shows n s slot root changes newer)
older_show n s slot root older newer changes at old new whole blocks epoch lie here touched ready =
    let run = of_position n root.epoch at old new blocks epoch touched in
    let rests = LeavesOnly-now old new (Rests n s slot root (root.epoch + 1) newer) (older_rests n s slot root older newer old new whole lie here run) in
    λ c crash. older_shown n s slot root newer changes c (rests c crash) (replayed n root.epoch at changes c blocks epoch (ready c crash))

pub newer_show : (n : ℕ) (s : Store) (slot : Slot) (root : RootBody) (older newer changes : List Change) (at : LogPosition) (old new : Disk)
    → AreSectors (reads old) → at.blocks ≡ n → at.epoch ≡ root.epoch + 1 → LieInData n (all_reach s root)
    → Always old (Shows n s slot root older newer) → Touches (InHalf (base_at at)) old new
    → Always new (IsReadyAt at changes)
    → Always new (Shows n s slot root older changes)
newer_show n s slot root older newer changes at old new whole blocks epoch lie here touched ready =
    let run = of_position n (root.epoch + 1) at old new blocks epoch touched in
    let rests = LeavesOnly-now old new (Rests n s slot root root.epoch older) (newer_rests n s slot root older newer old new whole lie here run) in
    λ c crash. newer_shown n s slot root older changes c (rests c crash) (replayed n (root.epoch + 1) at changes c blocks epoch (ready c crash))

-- ---- a call is logged

-- one of two lists of changes is shown, so the disk opens to the world of the one or of the other
module _ (n : ℕ) (s : Store) (slot : Slot) (root : RootBody) (older newer first second : List Change) (world after : World)
    (older_spelled : AreSpelled older) (newer_spelled : AreSpelled newer) (first_spelled : AreSpelled first) (second_spelled : AreSpelled second)
    (stands : StandsFor s root (older ++ newer) world) (follows : StandsFor s root (first ++ second) after) where
  opens_either : (c : Contents) → Shows n s slot root older newer c ⊎ Shows n s slot root first second c → Opens n c world ⊎ Opens n c after
  opens_either c (inl shows) = inl (shown_opens n s c slot root older newer world older_spelled newer_spelled stands shows)
  opens_either c (inr shows) = inr (shown_opens n s c slot root first second after first_spelled second_spelled follows shows)

pub older_append_opens : (n : ℕ) (s : Store) (slot : Slot) (root : RootBody) (older : List Change) (change : Change) (at : LogPosition) (world after : World) (old new : Disk)
    → AreSectors (reads old) → at.blocks ≡ n → at.epoch ≡ root.epoch → LieInData n (all_reach s root)
    → AreSpelled older → IsSpelled change
    → StandsFor s root older world → StandsFor s root (older ++ change ∷ []) after
    → Always old (Shows n s slot root older []) → Touches (InHalf (base_at at)) old new
    → LeavesOnly old new (IsReadyOrOneMore at older change)
    → LeavesOnly old new (λ c. Opens n c world ⊎ Opens n c after)
older_append_opens n s slot root older change at world after old new whole blocks epoch lie older_spelled spelled stands follows here touched either =
    let run = of_position n root.epoch at old new blocks epoch touched in
    let rests = older_rests n s slot root older [] old new whole lie here run in
    let shown : (c : Contents) → Rests n s slot root (root.epoch + 1) [] c → IsReadyOrOneMore at older change c → Shows n s slot root older [] c ⊎ Shows n s slot root (older ++ change ∷ []) [] c =
    λ c rest. ⊎_elim
    (λ ready. inl (older_shown n s slot root [] older c rest (replayed n root.epoch at older c blocks epoch ready)))
    (λ ready. inr (older_shown n s slot root [] (older ++ change ∷ []) c rest (replayed n root.epoch (behind at change) (older ++ change ∷ []) c blocks epoch ready))) in
    record {
      follows = either.follows;
      each = λ c since. opens_either n s slot root older [] (older ++ change ∷ []) [] world after older_spelled tt (spelled_more older change older_spelled spelled) tt
          (subst (λ (cs : List Change). StandsFor s root cs world) (sym (append-nil older)) stands)
          (subst (λ (cs : List Change). StandsFor s root cs after) (sym (append-nil (older ++ change ∷ []))) follows)
          c (shown c (rests.each c since) (either.each c since));
    }

pub newer_append_opens : (n : ℕ) (s : Store) (slot : Slot) (root : RootBody) (older newer : List Change) (change : Change) (at : LogPosition) (world after : World) (old new : Disk)
    → AreSectors (reads old) → at.blocks ≡ n → at.epoch ≡ root.epoch + 1 → LieInData n (all_reach s root)
    → AreSpelled older → AreSpelled newer → IsSpelled change
    → StandsFor s root (older ++ newer) world → StandsFor s root ((older ++ newer) ++ change ∷ []) after
    → Always old (Shows n s slot root older newer) → Touches (InHalf (base_at at)) old new
    → LeavesOnly old new (IsReadyOrOneMore at newer change)
    → LeavesOnly old new (λ c. Opens n c world ⊎ Opens n c after)
newer_append_opens n s slot root older newer change at world after old new whole blocks epoch lie older_spelled newer_spelled spelled stands follows here touched either =
    let run = of_position n (root.epoch + 1) at old new blocks epoch touched in
    let rests = newer_rests n s slot root older newer old new whole lie here run in
    let shown : (c : Contents) → Rests n s slot root root.epoch older c → IsReadyOrOneMore at newer change c → Shows n s slot root older newer c ⊎ Shows n s slot root older (newer ++ change ∷ []) c =
    λ c rest. ⊎_elim
    (λ ready. inl (newer_shown n s slot root older newer c rest (replayed n (root.epoch + 1) at newer c blocks epoch ready)))
    (λ ready. inr (newer_shown n s slot root older (newer ++ change ∷ []) c rest (replayed n (root.epoch + 1) (behind at change) (newer ++ change ∷ []) c blocks epoch ready))) in
    record {
      follows = either.follows;
      each = λ c since. opens_either n s slot root older newer older (newer ++ change ∷ []) world after older_spelled newer_spelled older_spelled (spelled_more newer change newer_spelled spelled) stands
          (subst (λ (cs : List Change). StandsFor s root cs after) (append_assoc older newer (change ∷ [])) follows)
          c (shown c (rests.each c since) (either.each c since));
    }

-- ---- a half is cleared

pub begin_shows : (n : ℕ) (s : Store) (slot : Slot) (root : RootBody) (older : List Change) (old new : Disk) → AreSectors (reads old) → LieInData n (all_reach s root)
    → Always old (Shows n s slot root older []) → Touches (InHalf (base_of n (root.epoch + 1))) old new
    → LeavesOnly old new (λ c. ReplaysTo c (base_of n (root.epoch + 1)) (root.epoch + 1) [] 0)
    → LeavesOnly old new (Shows n s slot root older [])
begin_shows n s slot root older old new whole lie here touched none =
    let rests = newer_rests n s slot root older [] old new whole lie here touched in
    record { follows = none.follows; each = λ c since. newer_shown n s slot root older [] c (rests.each c since) (0, none.each c since) }

pub clearing_shows : (n : ℕ) (s : Store) (slot : Slot) (root : RootBody) (old new : Disk) → AreSectors (reads old) → LieInData n (all_reach s root)
    → Always old (Shows n s slot root [] []) → Touches (InHalf (base_of n root.epoch)) old new
    → LeavesOnly old new (λ c. ReplaysTo c (base_of n root.epoch) root.epoch [] 0)
    → LeavesOnly old new (Shows n s slot root [] [])
clearing_shows n s slot root old new whole lie here touched none =
    let rests = older_rests n s slot root [] [] old new whole lie here touched in
    record { follows = none.follows; each = λ c since. older_shown n s slot root [] [] c (rests.each c since) (0, none.each c since) }

-- ---- two epochs on

never_both : {A : Type 0} → Zero ≡ One → A
never_both e = cc

same_half : (epoch : ℕ) → half_of_epoch (epoch + 1 + 1) ≡ half_of_epoch epoch
same_half epoch = ⊎_elim
    (λ even. ⊎_elim (λ wrong. never_both (sym wrong.0 ∙ even.1)) (λ odd. odd.1 ∙ sym even.0) (halves_of (epoch + 1)))
    (λ odd. ⊎_elim (λ even. even.1 ∙ sym odd.0) (λ wrong. never_both (sym odd.1 ∙ wrong.0)) (halves_of (epoch + 1)))
    (halves_of epoch)

pub nothing_two_on : (n epoch : ℕ) (c : Contents) → epoch + 2 < 256 ^ 8 → HasNoLater c (base_of n epoch) epoch → ReplaysTo c (base_of n (epoch + 2)) (epoch + 2) [] 0
nothing_two_on n epoch c fits none =
    let two : epoch + 1 + 1 ≡ epoch + 2 = omega arith in
    let base : base_of n (epoch + 2) ≡ base_of n epoch = ap (base_of n) (sym two) ∙ ap (λ (half : LogHalf). 8 * start_of n (Log half)) (same_half epoch) in
    subst (λ (b : ℕ). ReplaysTo c b (epoch + 2) [] 0) (sym base) (later_replays c (base_of n epoch) epoch (epoch + 2) none (omega arith) fits)
