-- What the head of a body says of the record that is there.
use Rattle.std.proofs.Common.{◌≡◌, inl, inr, ℕ, suc, ◌+◌, ◌-◌, ◌*◌, ◌^◌, ◌<◌, ◌≤◌, List, [], ◌++◌, length, take, Some, sym, ◌∙◌, ap, arith, append_assoc, length-append}
use Rattle.std.proofs.lemmas.List.{take_at, take-append-le}
use Rattle.sn_device.specs.Sectors.{Contents, sector_at}
use Rattle.sn_layout.specs.Bytes.{number_bytes, zeros}
use Rattle.sn_ondisk.specs.Blocks.{bytes_at}
use Rattle.sn_ondisk.specs.Gates.{IsOpen}
use Rattle.sn_ondisk.specs.LogHalf.{Stops, body_sectors}
use Rattle.sn_layout.proofs.Fields.{length-number_bytes, same_numbers}
use Rattle.sn_ondisk.proofs.OneLemmas.{same_width}
use Rattle.sn_log.specs.declared.body.Head.{Head}
use Rattle.sn_log.specs.Heads.{IsHead, head_bytes}
use Rattle.sn_log.specs.Positions.{LogPosition, base_at}
use Rattle.sn_log.specs.Replaying.{HasNext, Looks}

-- a number is read back from its bytes
same_number : (n a b : ℕ) → a < 256 ^ n → b < 256 ^ n → number_bytes n a ≡ number_bytes n b → a ≡ b
same_number n a b fits-a fits-b e = (same_numbers n a b [] [] fits-a fits-b (ap (λ bytes. bytes ++ []) e)).0

abbrev pub head_of : LogPosition → List ℕ → Head
head_of at payload = record { epoch = at.epoch; sequence = at.count; size = length payload }

pub length-head : (h : Head) → length (head_bytes h) ≡ 16
length-head h =
    omega (arith, length-append (number_bytes 8 h.epoch ++ number_bytes 4 h.sequence) (number_bytes 4 h.size), length-append (number_bytes 8 h.epoch) (number_bytes 4 h.sequence), length-number_bytes 8 h.epoch, length-number_bytes 4 h.sequence, length-number_bytes 4 h.size)

-- the epoch is first
epoch-first : (h : Head) (rest : List ℕ) → take 8 (head_bytes h ++ rest) ≡ number_bytes 8 h.epoch
epoch-first h rest =
    ap (take 8) (append_assoc (number_bytes 8 h.epoch ++ number_bytes 4 h.sequence) (number_bytes 4 h.size) rest ∙ append_assoc (number_bytes 8 h.epoch) (number_bytes 4 h.sequence) (number_bytes 4 h.size ++ rest))
    ∙ take_at (number_bytes 8 h.epoch) _ 8 (length-number_bytes 8 h.epoch)

-- heads with the same bytes have payloads of the same size
same-size : (h k : Head) → h.size < 256 ^ 4 → k.size < 256 ^ 4 → head_bytes h ≡ head_bytes k → h.size ≡ k.size
same-size h k fits-h fits-k e =
    let flat = sym (append_assoc (number_bytes 8 h.epoch) (number_bytes 4 h.sequence) (number_bytes 4 h.size)) ∙ e ∙ append_assoc (number_bytes 8 k.epoch) (number_bytes 4 k.sequence) (number_bytes 4 k.size) in
    let behind_epoch = same_width 8 h.epoch k.epoch (number_bytes 4 h.sequence ++ number_bytes 4 h.size) (number_bytes 4 k.sequence ++ number_bytes 4 k.size) flat in
    let behind_sequence = same_width 4 h.sequence k.sequence (number_bytes 4 h.size) (number_bytes 4 k.size) behind_epoch.1 in
    same_number 4 h.size k.size fits-h fits-k behind_sequence.1

-- the head of the first sector is that of the body
first-head : (c : Contents) (at m : ℕ) (h k : Head) (sector rest more : List ℕ) → sector ≡ sector_at c at → sector ≡ head_bytes h ++ rest → bytes_at c at (suc m) ≡ head_bytes k ++ more → head_bytes h ≡ head_bytes k
unfolding bytes_at
first-head c at m h k sector rest more is begins body =
    let long : 16 ≤ length sector = omega (arith, ap length begins, length-append (head_bytes h) rest, length-head h) in
    sym (take_at (head_bytes h) rest 16 (length-head h))
    ∙ sym (ap (take 16) begins)
    ∙ sym (take-append-le 16 sector (bytes_at c (at + 1) m) long)
    ∙ ap (λ s. take 16 (s ++ bytes_at c (at + 1) m)) is
    ∙ ap (take 16) body
    ∙ take_at (head_bytes k) more 16 (length-head k)

-- the bytes of a record begin with its head
pub next-head : (c : Contents) (at : LogPosition) (payload : List ℕ) → HasNext c at payload
    → (more : List ℕ) × (bytes_at c (base_at at + at.place + 1) (suc (body_sectors payload - 1)) ≡ head_bytes (head_of at payload) ++ more)
next-head c at payload next =
    let n : body_sectors payload ≡ suc (body_sectors payload - 1) = omega (arith, next.least) in
    let blank = zeros (512 * body_sectors payload - (16 + length payload)) in (
      payload ++ blank,
      ap (λ k. bytes_at c (base_at at + at.place + 1) k) (sym n) ∙ next.bytes ∙ append_assoc (head_bytes (head_of at payload)) payload blank,
    )

-- and its first sector with its epoch
pub epoch-there : (c : Contents) (at : LogPosition) (payload : List ℕ) → 8 ≤ length (sector_at c (base_at at + at.place + 1)) → HasNext c at payload → take 8 (sector_at c (base_at at + at.place + 1)) ≡ number_bytes 8 at.epoch
unfolding bytes_at
epoch-there c at payload long next =
    let body = next-head c at payload next in
    sym (take-append-le 8 (sector_at c (base_at at + at.place + 1)) (bytes_at c (base_at at + at.place + 1 + 1) (body_sectors payload - 1)) long)
    ∙ ap (take 8) body.1
    ∙ epoch-first (head_of at payload) body.0

module _ (c : Contents) (at : LogPosition) (head : Head) (sector rest : List ℕ) (fits : IsHead head) (epoch_fits : at.epoch < 256 ^ 8)
    (is : sector ≡ sector_at c (base_at at + at.place + 1)) (begins : sector ≡ head_bytes head ++ rest) where
  -- another epoch
  pub look-stops : (head.epoch ≡ at.epoch → ⊥) → Stops c (base_at at) at.epoch at.place
  look-stops other = inr (inr (λ named. other (same_number 8 head.epoch at.epoch fits.epoch epoch_fits (sym (epoch-first head rest) ∙ sym (ap (take 8) begins) ∙ ap (take 8) is ∙ named))))

  size_of : (payload : List ℕ) → HasNext c at payload → length payload ≡ head.size
  size_of payload next =
      let body = next-head c at payload next in
      sym (same-size head (head_of at payload) fits.size (omega (arith, next.most)) (first-head c (base_at at + at.place + 1) (body_sectors payload - 1) head (head_of at payload) sector rest body.0 is begins body.1))

  goes_on : head.epoch ≡ at.epoch → IsOpen c (base_at at + at.place) → at.place ≤ 253 → Stops c (base_at at) at.epoch at.place → ⊥
  goes_on same opened near (inl past) = omega (arith, past, near)
  goes_on same opened near (inr (inl closed)) = closed opened
  goes_on same opened near (inr (inr other)) = other (ap (take 8) (sym is ∙ begins) ∙ epoch-first head rest ∙ ap (number_bytes 8) same)

  pub look-finds : head.epoch ≡ at.epoch → IsOpen c (base_at at + at.place) → at.place ≤ 253 → Looks c at (Some head.size)
  look-finds same opened near = (opened, goes_on same opened near, size_of)
