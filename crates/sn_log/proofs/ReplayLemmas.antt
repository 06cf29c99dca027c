-- A record that is read.
use Rattle.std.proofs.Common.{◌≡◌, ℕ, ◌+◌, ◌-◌, ◌*◌, ◌/◌, ◌≤◌, Bool, IsTrue, List, [], ◌∷◌, ◌++◌, length, take, drop, refl, sym, ◌∙◌, ap, subst, arith, append_assoc}
use Rattle.std.proofs.lemmas.List.{take_at, drop_at, take-append-drop}
use Rattle.sn_device.specs.Sectors.{Contents}
use Rattle.sn_layout.proofs.Fields.{true_false}
use Rattle.sn_layout.specs.Bytes.{zeros}
use Rattle.sn_model.specs.declared.change.Change.{Change}
use Rattle.sn_ondisk.specs.Blocks.{bytes_at}
use Rattle.sn_ondisk.specs.Gates.{IsOpen}
use Rattle.sn_ondisk.specs.LogHalf.{HasRecord, Leads, body_bytes, body_sectors, place_after}
use Rattle.sn_ondisk.proofs.LogLemmas.{Leads-append}
use Rattle.sn_ondisk.proofs.OneLemmas.{record_is_one}
use Rattle.sn_record.specs.Payload.{IsSpelled, payload_bytes}
use Rattle.sn_log.specs.Positions.{LogPosition, base_at, behind, payloads_of, IsBehind}
use Rattle.sn_log.specs.Replaying.{HasNext, Fills}
use Rattle.sn_log.specs.Heads.{head_bytes}
use Rattle.sn_log.proofs.HeadLemmas.{head_of, length-head}
use Rattle.sn_log.proofs.AppendLemmas.{payloads-more, payloads-count, count-more}

-- the payload after the head
payload-part : (at : LogPosition) (n : ℕ) (room payload : List ℕ) → take n room ≡ body_bytes at.epoch at.count payload → take (length payload) (drop 16 room) ≡ payload
payload-part at n room payload is =
    let h = head_bytes (head_of at payload) in
    let z = zeros (512 * body_sectors payload - (16 + length payload)) in
    let split : room ≡ h ++ (payload ++ (z ++ drop n room)) =
    sym (take-append-drop n room)
    ∙ ap (λ front. front ++ drop n room) is
    ∙ append_assoc (h ++ payload) z (drop n room)
    ∙ append_assoc h payload (z ++ drop n room) in
    ap (λ r. take (length payload) (drop 16 r)) split
    ∙ ap (take (length payload)) (drop_at h (payload ++ (z ++ drop n room)) 16 (length-head (head_of at payload)))
    ∙ take_at payload (z ++ drop n room) (length payload) refl

module _ (c : Contents) (at : LogPosition) (first size n : ℕ) (room : List ℕ) (is_body : Bool) (here : first ≡ base_at at + at.place + 1) (sectors : n ≡ (16 + size + 511) / 512) (least : 1 ≤ size) (most : size ≤ 65547)
    (fits : at.place + n + 1 ≤ 255) (read : take (512 * n) room ≡ bytes_at c first n) where
  has_next : (payload : List ℕ) → length payload ≡ size → take (512 * n) room ≡ body_bytes at.epoch at.count payload → HasNext c at payload
  has_next payload long is =
      let all : n ≡ body_sectors payload = omega (arith, long, sectors) in
      record {
        least = omega (arith, long, least);
        most = omega (arith, long, most);
        room = omega (arith, all, fits);
        bytes = subst (λ m. bytes_at c (base_at at + at.place + 1) m ≡ body_bytes at.epoch at.count payload) all (subst (λ f. bytes_at c f n ≡ body_bytes at.epoch at.count payload) here (sym read ∙ is));
      }

  pub filled : (IsTrue is_body → (payload : List ℕ) × (length payload ≡ size) × (take (512 * n) room ≡ body_bytes at.epoch at.count payload))
      → ((payload : List ℕ) → length payload ≡ size → take (512 * n) room ≡ body_bytes at.epoch at.count payload → IsTrue is_body) → Fills c at size room is_body
  filled spelled only = record {
    found = λ is. let body = spelled is in
        subst (HasNext c at) (sym (payload-part at (512 * n) room body.0 body.2) ∙ ap (λ m. take m (drop 16 room)) body.1) (has_next body.0 body.1 body.2);
    none = λ isnt payload long next.
        let all : n ≡ body_sectors payload = omega (arith, long, sectors) in
        let bytes : take (512 * n) room ≡ body_bytes at.epoch at.count payload =
        read ∙ ap (λ f. bytes_at c f n) here ∙ ap (λ m. bytes_at c (base_at at + at.place + 1) m) all ∙ next.bytes in
        true_false is_body (only payload long bytes) isnt;
  }

-- where the payload that was found is no change's, no change has a record there
pub no-change : (c : Contents) (at : LogPosition) (size : ℕ) (room : List ℕ) (is_body : Bool) → Fills c at size room is_body → IsTrue is_body → ((change : Change) → IsSpelled change → take size (drop 16 room) ≡ payload_bytes change → ⊥)
    → (change : Change) → IsSpelled change → HasNext c at (payload_bytes change) → ⊥
no-change c at size room is_body fills is none change spelled next =
    none change spelled (record_is_one c (base_at at) at.place at.epoch at.epoch at.count at.count (take size (drop 16 room)) (payload_bytes change) (fills.found is) next)

-- one record more
pub behind-more : (c : Contents) (at : LogPosition) (changes : List Change) (change : Change) → IsBehind at changes c → IsOpen c (base_at at + at.place) → HasNext c at (payload_bytes change) → IsBehind (behind at change) (changes ++ change ∷ []) c
behind-more c at changes change before opened next = record {
  count = omega (arith, before.count, count-more changes change);
  leads = subst (λ ps. Leads c (base_at at) at.epoch 0 0 ps (place_after at.place (payload_bytes change))) (sym (payloads-more changes change))
      (Leads-append c (base_at at) at.epoch 0 0 (payloads_of changes) at.place (payload_bytes change) before.leads opened
      (subst (λ s. HasRecord c (base_at at) at.epoch at.place s (payload_bytes change)) (omega (arith, before.count, payloads-count changes)) next));
}
