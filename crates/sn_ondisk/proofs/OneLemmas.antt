-- A place holds one record at most, and so replay finds one list of them.
use Rattle.std.proofs.Common.{◌≡◌, inl, inr, ℕ, ◌+◌, ◌-◌, ◌*◌, ◌^◌, ◌<◌, ◌≤◌, List, [], ◌∷◌, ◌++◌, length, take, drop, refl, sym, ◌∙◌, ap, subst, arith, append_assoc}
use Rattle.std.proofs.lemmas.List.{take-append-drop, take_at, take-append-le}
use Rattle.byteorder.specs.Numbers.{little_number-reads_back}
use Rattle.byteorder.specs.Endian.{little_number}
use Rattle.sn_device.specs.Sectors.{Contents, sector_at}
use Rattle.sn_layout.specs.Bytes.{number_bytes, zeros}
use Rattle.sn_layout.proofs.Fields.{length-number_bytes, same_fronts, same_numbers}
use Rattle.sn_ondisk.specs.Blocks.{bytes_at}
use Rattle.sn_ondisk.proofs.BlockLemmas.{bytes_at-more}
use Rattle.sn_ondisk.specs.Gates.{IsOpen, IsClosed}
use Rattle.sn_ondisk.specs.LogHalf.{HasRecord, HasNoLater, Leads, Stops, ReplaysTo, IsReady, epoch_at, place_after, body_sectors, body_bytes}
use Rattle.sn_ondisk.specs.OneAnswer.{IsOnDisk}

-- ---- bytes with fronts of one length

pub same_width : (n a b : ℕ) (x y : List ℕ) → number_bytes n a ++ x ≡ number_bytes n b ++ y → (number_bytes n a ≡ number_bytes n b) × (x ≡ y)
same_width n a b x y e = same_fronts (number_bytes n a) (number_bytes n b) x y (length-number_bytes n a ∙ sym (length-number_bytes n b)) e

-- ---- one record

-- the parts of a body, one after the other
parts : (epoch sequence : ℕ) (p more : List ℕ)
    → body_bytes epoch sequence p ++ more ≡ number_bytes 8 epoch ++ (number_bytes 4 sequence ++ (number_bytes 4 (length p) ++ (p ++ (zeros (512 * body_sectors p - (16 + length p)) ++ more))))
parts epoch sequence p more =
    let a = number_bytes 8 epoch in
    let b = number_bytes 4 sequence in
    let l = number_bytes 4 (length p) in
    let z = zeros (512 * body_sectors p - (16 + length p)) in
    append_assoc (a ++ b ++ l ++ p) z more
    ∙ append_assoc (a ++ b ++ l) p (z ++ more)
    ∙ append_assoc (a ++ b) l (p ++ (z ++ more))
    ∙ append_assoc a b (l ++ (p ++ (z ++ more)))

-- what is there from a body on, up to the end of so many sectors
from_body : (c : Contents) (base epoch place sequence : ℕ) (p : List ℕ) → HasRecord c base epoch place sequence p
    → (more : List ℕ) × (bytes_at c (base + place + 1) 129 ≡ number_bytes 8 epoch ++ (number_bytes 4 sequence ++ (number_bytes 4 (length p) ++ (p ++ more))))
from_body c base epoch place sequence p record_p =
    let n = body_sectors p in
    let within : n + (129 - n) ≡ 129 = omega (arith, record_p.most) in
    let behind = bytes_at c (base + place + 1 + n) (129 - n) in (
      zeros (512 * body_sectors p - (16 + length p)) ++ behind,
      ap (λ k. bytes_at c (base + place + 1) k) (sym within)
          ∙ bytes_at-more c (base + place + 1) n (129 - n)
          ∙ ap (λ bytes. bytes ++ behind) record_p.bytes
          ∙ parts epoch sequence p behind,
    )

pub record_is_one : (c : Contents) (base place epoch age sequence number : ℕ) (p q : List ℕ) → HasRecord c base epoch place sequence p → HasRecord c base age place number q → p ≡ q
record_is_one c base place epoch age sequence number p q one two =
    let first = from_body c base epoch place sequence p one in
    let second = from_body c base age place number q two in
    let after_epoch = same_width 8 epoch age _ _ (sym first.1 ∙ second.1) in
    let after_sequence = same_width 4 sequence number _ _ after_epoch.1 in
    let after_length = same_numbers 4 (length p) (length q) _ _ (omega (arith, one.most)) (omega (arith, two.most)) after_sequence.1 in
    (same_fronts p q first.0 second.0 after_length.0 after_length.1).0

-- ---- one list of records

pub ready_replays : (c : Contents) (base epoch place : ℕ) (ps : List (List ℕ)) → IsReady c base epoch ps place → ReplaysTo c base epoch ps place
ready_replays c base epoch place ps ready = record { leads = ready.leads; stops = inr (inl ready.closed) }

-- a sector that begins with a number is read as it
number_of : (number : ℕ) (sector : List ℕ) → number < 256 ^ 8 → take 8 sector ≡ number_bytes 8 number → little_number 8 sector ≡ number
unfolding number_bytes
number_of number sector fits e =
    let split : sector ≡ number_bytes 8 number ++ drop 8 sector = sym (take-append-drop 8 sector) ∙ ap (λ front. front ++ drop 8 sector) e in
    ap (little_number 8) split ∙ little_number-reads_back 8 number (drop 8 sector) fits

pub later_replays : (c : Contents) (base epoch later : ℕ) → HasNoLater c base epoch → epoch < later → later < 256 ^ 8 → ReplaysTo c base later [] 0
later_replays c base epoch later none after fits = record { leads = refl; stops = halts none }
  where
    first : base + 0 ≡ base
    first = omega arith

    halts : HasNoLater c base epoch → Stops c base later 0
    halts (inl closed) = inr (inl (subst (IsClosed c) (sym first) closed))
    halts (inr early) = inr (inr (λ begins_so. omega (arith, early, after, number_of later (sector_at c (base + 0 + 1)) fits begins_so)))

module _ (c : Contents) (base epoch : ℕ) (on_disk : IsOnDisk c base) where
  -- the first sector of a body begins with its epoch
  begins : (place sequence : ℕ) (p : List ℕ) → HasRecord c base epoch place sequence p → take 8 (sector_at c (base + place + 1)) ≡ number_bytes 8 epoch
  unfolding bytes_at
  begins place sequence p body =
      let at = base + place + 1 in
      let inside : at < length c = omega (arith, body.room, on_disk.within) in
      let from = from_body c base epoch place sequence p body in
      let long : 8 ≤ length (sector_at c at) = omega (arith, (on_disk.whole at inside).size) in
      sym (take-append-le 8 (sector_at c at) (bytes_at c (at + 1) 128) long)
      ∙ ap (take 8) from.1
      ∙ take_at (number_bytes 8 epoch) _ 8 (length-number_bytes 8 epoch)

  pub epoch_is : (place sequence : ℕ) (p : List ℕ) → epoch < 256 ^ 8 → HasRecord c base epoch place sequence p → epoch_at c base place ≡ epoch
  epoch_is place sequence p fits body = number_of epoch (sector_at c (base + place + 1)) fits (begins place sequence p body)

  -- after an open gate with a record replay continues
  goes_on : (place sequence : ℕ) (p : List ℕ) → IsOpen c (base + place) → HasRecord c base epoch place sequence p → Stops c base epoch place → ⊥
  goes_on place sequence p opened body (inl past) = omega (arith, past, body.room)
  goes_on place sequence p opened body (inr (inl closed)) = closed opened
  goes_on place sequence p opened body (inr (inr other)) = other (begins place sequence p body)

  replay_from : (place sequence end stop : ℕ) (ps qs : List (List ℕ)) → Leads c base epoch place sequence ps end → Stops c base epoch end → Leads c base epoch place sequence qs stop → Stops c base epoch stop
      → (ps ≡ qs) × (end ≡ stop)
  replay_from place sequence end stop [] [] one stops two halts = (refl, one ∙ sym two)
  replay_from place sequence end stop [] (q ∷ qs) one stops two halts = absurd (goes_on place sequence q two.0 two.1 (subst (Stops c base epoch) one stops))
  replay_from place sequence end stop (p ∷ ps) [] one stops two halts = absurd (goes_on place sequence p one.0 one.1 (subst (Stops c base epoch) two halts))
  replay_from place sequence end stop (p ∷ ps) (q ∷ qs) one stops two halts =
      let same : p ≡ q = record_is_one c base place epoch epoch sequence sequence p q one.1 two.1 in
      let rest = replay_from (place_after place p) (sequence + 1) end stop ps qs one.2 stops (subst (λ r. Leads c base epoch (place_after place r) (sequence + 1) qs stop) (sym same) two.2) halts in
      (ap (λ r. r ∷ ps) same ∙ ap (λ rs. q ∷ rs) rest.0, rest.1)

  pub replay_is_one : (end stop : ℕ) (ps qs : List (List ℕ)) → ReplaysTo c base epoch ps end → ReplaysTo c base epoch qs stop → (ps ≡ qs) × (end ≡ stop)
  replay_is_one end stop ps qs one two = replay_from 0 0 end stop ps qs one.leads one.stops two.leads two.stops
