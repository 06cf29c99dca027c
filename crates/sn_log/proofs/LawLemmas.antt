-- Replay of changes finds each of them in turn, and then the end.
use Rattle.std.proofs.Common.{◌≡◌, inl, inr, ℕ, ◌+◌, ◌<◌, ◌≤◌, List, [], ◌∷◌, length, refl, sym, ◌∙◌, ap, subst, arith}
use Rattle.std.specs.List.{AllByRecursion}
use Rattle.sn_device.specs.Sectors.{Contents, sector_at}
use Rattle.sn_model.specs.declared.change.Change.{Change as TheChange}
use Rattle.sn_ondisk.specs.Gates.{IsOpen}
use Rattle.sn_ondisk.specs.LogHalf.{HasRecord, Leads, Stops, base_of, place_after}
use Rattle.sn_ondisk.specs.OneAnswer.{IsOnDisk}
use Rattle.sn_ondisk.proofs.OneLemmas.{record_is_one}
use Rattle.sn_record.specs.Payload.{IsSpelled, payload_bytes, PayloadsDiffer}
use Rattle.sn_log.specs.Positions.{LogPosition, payloads_of}
use Rattle.sn_log.specs.Replaying.{Finds}
use Rattle.sn_log.specs.Laws.{IsNextOf, ReplayFindsTheNext}
use Rattle.sn_log.specs.declared.replay.NextRecord.{NextRecord}
use Rattle.sn_log.specs.declared.replay.NextRecord.TheVariants.{Change, End, Misspelt}
use Rattle.sn_log.proofs.HeadLemmas.{epoch-there}

module _ (differ : PayloadsDiffer) (c : Contents) (blocks epoch : ℕ) (on_disk : IsOnDisk c (base_of blocks epoch)) where
  abbrev base : ℕ
  base = base_of blocks epoch

  abbrev position : ℕ → ℕ → LogPosition
  position place count = record { blocks = blocks; epoch = epoch; place = place; count = count }

  -- after an open gate with a record replay continues
  goes_on : (place sequence : ℕ) (payload : List ℕ) → IsOpen c (base + place) → HasRecord c base epoch place sequence payload → Stops c base epoch place → ⊥
  goes_on place sequence payload opened body (inl past) = omega (arith, past, body.room)
  goes_on place sequence payload opened body (inr (inl closed)) = closed opened
  goes_on place sequence payload opened body (inr (inr other)) =
      let within : base + place + 1 < length c = omega (arith, body.room, on_disk.within) in
      let long : 8 ≤ length (sector_at c (base + place + 1)) = omega (arith, (on_disk.whole (base + place + 1) within).size) in
      other (epoch-there c (position place sequence) payload long body)

  one-more : (p q : TheChange) (ps qs : List TheChange) (found : NextRecord) → p ≡ q → IsNextOf ps qs found → IsNextOf (p ∷ ps) (q ∷ qs) found
  one-more p q ps qs (Change change) same next = (next.0, ap (λ x. x ∷ qs) (sym same) ∙ ap (λ xs. p ∷ xs) next.1)
  one-more p q ps qs End same next = ap (λ x. x ∷ qs) (sym same) ∙ ap (λ xs. p ∷ xs) next
  one-more p q ps qs (Misspelt block) same next = next

  same-change : (place m n : ℕ) (p q : TheChange) → IsSpelled p → IsSpelled q → HasRecord c base epoch place m (payload_bytes p) → HasRecord c base epoch place n (payload_bytes q) → p ≡ q
  same-change place m n p q spelled-p spelled-q one two = differ p q spelled-p spelled-q (record_is_one c base place epoch epoch m n (payload_bytes p) (payload_bytes q) one two)

  go : (place sequence here end : ℕ) (before changes : List TheChange) (found : NextRecord) → AllByRecursion IsSpelled before → AllByRecursion IsSpelled changes
      → Leads c base epoch place sequence (payloads_of before) here → Leads c base epoch place sequence (payloads_of changes) end → Stops c base epoch end
      → Finds c (position here (sequence + length before)) found → IsNextOf before changes found
  go place sequence here end [] [] (Change change) spelled-b spelled-c one two stops found =
      absurd (goes_on place (sequence + 0) (payload_bytes change) (subst (λ x. IsOpen c (base + x)) one found.0) (subst (λ x. HasRecord c base epoch x (sequence + 0) (payload_bytes change)) one found.2) (subst (Stops c base epoch) two stops))
  go place sequence here end [] [] End spelled-b spelled-c one two stops found = refl
  go place sequence here end [] [] (Misspelt block) spelled-b spelled-c one two stops found = found.0 (subst (Stops c base epoch) (two ∙ sym one) stops)
  go place sequence here end [] (q ∷ qs) (Change change) spelled-b spelled-c one two stops found =
      (qs, ap (λ x. x ∷ qs) (same-change place sequence (sequence + 0) q change spelled-c.0 found.1 two.1 (subst (λ x. HasRecord c base epoch x (sequence + 0) (payload_bytes change)) one found.2)))
  go place sequence here end [] (q ∷ qs) End spelled-b spelled-c one two stops found = absurd (goes_on place sequence (payload_bytes q) two.0 two.1 (subst (Stops c base epoch) one found))
  go place sequence here end [] (q ∷ qs) (Misspelt block) spelled-b spelled-c one two stops found =
      let none : sequence ≡ sequence + 0 = omega arith in
      found.1 q spelled-c.0 (subst (λ n. HasRecord c base epoch here n (payload_bytes q)) none (subst (λ x. HasRecord c base epoch x sequence (payload_bytes q)) (sym one) two.1))
  go place sequence here end (p ∷ ps) [] found spelled-b spelled-c one two stops finds = absurd (goes_on place sequence (payload_bytes p) one.0 one.1 (subst (Stops c base epoch) two stops))
  go place sequence here end (p ∷ ps) (q ∷ qs) found spelled-b spelled-c one two stops finds =
      let same = same-change place sequence sequence p q spelled-b.0 spelled-c.0 one.1 two.1 in
      let count : sequence + length (p ∷ ps) ≡ sequence + 1 + length ps = omega arith in
      one-more p q ps qs found same
      (go (place_after place (payload_bytes p)) (sequence + 1) here end ps qs found spelled-b.1 spelled-c.1 one.2
      (subst (λ r. Leads c base epoch (place_after place (payload_bytes r)) (sequence + 1) (payloads_of qs) end) (sym same) two.2) stops
      (subst (λ n. Finds c (position here n) found) count finds))

pub replay-finds : PayloadsDiffer → ReplayFindsTheNext
replay-finds differ c at before changes end found on_disk spelled-b spelled-c behind replays finds =
    go differ c at.blocks at.epoch on_disk 0 0 at.place end before changes found spelled-b spelled-c behind.leads replays.leads replays.stops
    (subst (λ n. Finds c (record at { count = n }) found) (behind.count ∙ omega arith) finds)
