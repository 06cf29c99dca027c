-- What a mount leaves that clears the place where the log continues.
use Rattle.std.proofs.Common.{◌≡◌, inl, inr, ℕ, ◌+◌, ◌^◌, ◌<◌, ◌≤◌, ◌==◌, ◌||◌, Bool, true, false, if◌then◌else◌, nat_le, List, [], ◌∷◌, Result, slice_index, refl, sym, ap, subst, ◌∙◌, leb-false, arith}
use Rattle.sn_device.specs.Sectors.{Contents, Single}
use Rattle.sn_device.specs.Disk.{Disk, Always, IsSynced, reads}
use Rattle.sn_device.specs.Crash.{LeavesOnly, Touches}
use Rattle.sn_device.proofs.CrashLemmas.{Always-synced, LeavesOnly-weaker, Touches-within}
use Rattle.sn_layout.specs.Superblock.{superblock_bytes}
use Rattle.sn_model.specs.declared.change.Change.{Change}
use Rattle.sn_model.specs.World.{World}
use Rattle.sn_ondisk.specs.Blocks.{block_at}
use Rattle.sn_ondisk.specs.Gates.{gate_at}
use Rattle.sn_ondisk.specs.LogHalf.{HasNoLater, InHalf, Leads, Replays, ReplaysTo, base_of, cleared_sector}
use Rattle.sn_ondisk.specs.MapCopy.{HasMap}
use Rattle.sn_ondisk.proofs.PlaceLemmas.{halves_apart}
use Rattle.sn_ondisk.specs.Trees.{Store, store_of}
use Rattle.sn_ondisk.proofs.OneLemmas.{epoch_is}
use Rattle.sn_log.specs.Clearing.{Clears}
use Rattle.sn_log.specs.Positions.{LogPosition, base_at, payloads_of}
use Rattle.sn_opening.specs.Opens.{IsDisk, Opens, Shows}
use Rattle.sn_opening.proofs.LogLemmas.{of_position}
use Rattle.sn_opening.proofs.OpeningLemmas.{half_lies}
use Rattle.sn_sound.proofs.StandingLemmas.{lies_in_data}
use Rattle.sn_held.specs.Images.{EndsAt, IsImage}
use Rattle.sn_held.proofs.HeldLemmas.{Rests, each_half, image_shown, rests_stay}

-- the sector that clears a place is in the half
pub cleared_within : (c : Contents) (base place : ℕ) → place ≤ 255 → InHalf base (cleared_sector c base place)
cleared_within c base place within = told (gate_at c (base + place) == 1) (nat_le 254 place) refl
  where
    told : (opened past : Bool) → nat_le 254 place ≡ past → InHalf base (if opened || past then base + place else base + place + 1)
    told true past is = (omega arith, omega (arith, within))
    told false true is = (omega arith, omega (arith, within))
    told false false is = (omega arith, let near : place < 254 = leb-false 254 place is in omega (arith, near))

-- where records of an epoch come first, none later does
pub leads_no_later : (n : ℕ) (c : Contents) (epoch later : ℕ) (change : Change) (changes : List Change) (end : ℕ) → IsDisk n c → epoch ≤ later → epoch < 256 ^ 8
    → Leads c (base_of n epoch) epoch 0 0 (payloads_of (change ∷ changes)) end → HasNoLater c (base_of n epoch) later
leads_no_later n c epoch later change changes end disk before fits leads =
    let is = epoch_is c (base_of n epoch) epoch (half_lies n epoch c disk) 0 0 _ fits leads.1 in
    inr (omega (arith, is, before))

-- ---- a mount that clears the place after the last record

module _ (mid new : Disk) (w : World) (im : IsImage (reads mid) w) (at : LogPosition) (within : at.place ≤ 255) (synced : IsSynced mid)
    {T E : Type 0} (result : Result T E) (clears : Clears (base_at at) at.place result mid new) where
  abbrev pub c : Contents
  c = reads mid

  abbrev pub n : ℕ
  n = im.blocks

  abbrev pub s : Store
  s = store_of c

  abbrev pub o : Opens n c w
  o = im.opens

  abbrev pub words : List ℕ
  words = im.words

  touched : (epoch : ℕ) → at.blocks ≡ n → at.epoch ≡ epoch → Touches (InHalf (base_of n epoch)) mid new
  touched epoch in_n in_epoch =
      of_position n epoch at mid new in_n in_epoch
      (Touches-within (Single (cleared_sector c (base_at at) at.place)) (InHalf (base_at at)) mid new (λ i is. subst (InHalf (base_at at)) (sym is) (cleared_within c (base_at at) at.place within)) clears.written.touched)

  rests_now : (epoch : ℕ) (kept : List Change) → Replays c (base_of n epoch) epoch (payloads_of kept) → Always mid (Rests n s o.slot o.root words epoch kept)
  rests_now epoch kept found = Always-synced mid (Rests n s o.slot o.root words epoch kept) synced (record {
    disk = im.disk;
    spelled = im.spelled;
    newest = o.shown.newest;
    same = λ block among. refl;
    map = im.map;
    found = found;
    none = im.none_later epoch;
  })

  older_rest : at.blocks ≡ n → at.epoch ≡ o.root.epoch → LeavesOnly mid new (Rests n s o.slot o.root words (o.root.epoch + 1) o.newer)
  older_rest in_n in_epoch =
      rests_stay n s o.slot o.root words (o.root.epoch + 1) o.newer o.root.epoch (lies_in_data n s o.root (slice_index words) im.sound) (halves_apart n o.root.epoch) mid new im.disk.whole
      (rests_now (o.root.epoch + 1) o.newer o.shown.has_newer) (touched o.root.epoch in_n in_epoch)

  newer_rest : at.blocks ≡ n → at.epoch ≡ o.root.epoch + 1 → LeavesOnly mid new (Rests n s o.slot o.root words o.root.epoch o.older)
  newer_rest in_n in_epoch =
      rests_stay n s o.slot o.root words o.root.epoch o.older (o.root.epoch + 1) (lies_in_data n s o.root (slice_index words) im.sound) (λ i one two. halves_apart n o.root.epoch i two one) mid new im.disk.whole
      (rests_now o.root.epoch o.older o.shown.has_older) (touched (o.root.epoch + 1) in_n in_epoch)

  -- the records of the half that is written stay, and no later one comes first
  ends_stay : (changes : List Change) → ReplaysTo c (base_at at) at.epoch (payloads_of changes) at.place → LeavesOnly mid new (λ d. ReplaysTo d (base_at at) at.epoch (payloads_of changes) at.place)
  ends_stay changes ends = clears.keeps at.epoch (payloads_of changes) synced ends

  module _ (in_n : at.blocks ≡ n) (epoch : ℕ) (in_epoch : at.epoch ≡ epoch) where
    base_is : base_at at ≡ base_of n epoch
    base_is = ap (λ (m : ℕ). base_of m at.epoch) in_n ∙ ap (base_of n) in_epoch

    replayed_here : (changes : List Change) (d : Contents) → ReplaysTo d (base_at at) at.epoch (payloads_of changes) at.place → Replays d (base_of n epoch) epoch (payloads_of changes)
    replayed_here changes d ends =
        subst (λ (e : ℕ). Replays d (base_of n e) e (payloads_of changes)) in_epoch
        (subst (λ (m : ℕ). Replays d (base_of m at.epoch) at.epoch (payloads_of changes)) in_n (at.place, ends))

    -- no later record comes first in the half that is written
    none_stay : (changes : List Change) → epoch ≤ o.root.epoch + 1 → epoch < 256 ^ 8 → LeavesOnly mid new (IsDisk n) → ReplaysTo c (base_at at) at.epoch (payloads_of changes) at.place
        → LeavesOnly mid new (λ d. HasNoLater d (base_of n epoch) (o.root.epoch + 1))
    none_stay [] before fits disks ends =
        subst (λ (b : ℕ). LeavesOnly mid new (λ d. HasNoLater d b (o.root.epoch + 1))) base_is
        (clears.adds (o.root.epoch + 1) ends.leads synced (subst (λ (b : ℕ). HasNoLater c b (o.root.epoch + 1)) (sym base_is) (im.none_later epoch)))
    none_stay (change ∷ changes) before fits disks ends =
        let stay = ends_stay (change ∷ changes) ends in
        record {
          follows = stay.follows;
          each = λ d since.
              leads_no_later n d epoch (o.root.epoch + 1) change changes at.place (disks.each d since) before fits
              (subst (λ (e : ℕ). Leads d (base_of n e) e 0 0 (payloads_of (change ∷ changes)) at.place) in_epoch
              (subst (λ (m : ℕ). Leads d (base_of m at.epoch) at.epoch 0 0 (payloads_of (change ∷ changes)) at.place) in_n (stay.each d since).leads));
        }

  -- the contents at a moment, by which half is written
  abbrev IsKept : Contents → Type 0
  IsKept d = IsDisk n d × (block_at d 0 ≡ superblock_bytes (record { geometry = n })) × HasMap n d o.slot words × ((epoch : ℕ) → HasNoLater d (base_of n epoch) (o.root.epoch + 1)) × Shows n s o.slot o.root o.older o.newer d

  kept_older : at.blocks ≡ n → at.epoch ≡ o.root.epoch → ReplaysTo c (base_at at) at.epoch (payloads_of o.older) at.place → LeavesOnly mid new IsKept
  kept_older in_n in_epoch ends =
      let fits = o.shown.newest.body.fits.epoch.most in
      let rests = older_rest in_n in_epoch in
      let stay = ends_stay o.older ends in
      let none = none_stay in_n o.root.epoch in_epoch o.older (omega arith) (omega (arith, fits)) (LeavesOnly-weaker mid new (Rests n s o.slot o.root words (o.root.epoch + 1) o.newer) (IsDisk n) (λ d rest. rest.disk) rests) ends in
      record {
        follows = stay.follows;
        each = λ d since.
            let rest = rests.each d since in (
              rest.disk,
              rest.spelled,
              rest.map,
              each_half n o.root.epoch (λ (b : ℕ). HasNoLater d b (o.root.epoch + 1)) (none.each d since) rest.none,
              record { shown = record { newest = rest.newest; has_older = replayed_here in_n o.root.epoch in_epoch o.older d (stay.each d since); has_newer = rest.found }; same = rest.same },
            );
      }

  kept_newer : at.blocks ≡ n → at.epoch ≡ o.root.epoch + 1 → ReplaysTo c (base_at at) at.epoch (payloads_of o.newer) at.place → LeavesOnly mid new IsKept
  kept_newer in_n in_epoch ends =
      let fits = o.shown.newest.body.fits.epoch.most in
      let rests = newer_rest in_n in_epoch in
      let stay = ends_stay o.newer ends in
      let none = none_stay in_n (o.root.epoch + 1) in_epoch o.newer (omega arith) (omega (arith, fits)) (LeavesOnly-weaker mid new (Rests n s o.slot o.root words o.root.epoch o.older) (IsDisk n) (λ d rest. rest.disk) rests) ends in
      record {
        follows = stay.follows;
        each = λ d since.
            let rest = rests.each d since in (
              rest.disk,
              rest.spelled,
              rest.map,
              each_half n o.root.epoch (λ (b : ℕ). HasNoLater d b (o.root.epoch + 1)) rest.none (none.each d since),
              record { shown = record { newest = rest.newest; has_older = rest.found; has_newer = replayed_here in_n (o.root.epoch + 1) in_epoch o.newer d (stay.each d since) }; same = rest.same },
            );
      }

  kept : EndsAt c w im at → LeavesOnly mid new IsKept
  kept (in_n, inl (none, in_epoch, count, ends)) = kept_older in_n in_epoch ends
  kept (in_n, inr (in_epoch, count, ends)) = kept_newer in_n in_epoch ends

  -- at each moment of the clearing the disk is an image of the world
  pub clearing_keeps : EndsAt c w im at → LeavesOnly mid new (λ d. IsImage d w)
  clearing_keeps ends =
      LeavesOnly-weaker mid new IsKept (λ d. IsImage d w)
      (λ d k. image_shown n s o.slot o.root words o.older o.newer w o.older_spelled o.newer_spelled im.sound o.stands im.fits im.age d k.0 k.1 k.2 k.3 k.4)
      (kept ends)
