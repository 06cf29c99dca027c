-- Pieces of a content, as bytes come.
use Rattle.std.proofs.Common.{◌≡◌, ℕ, ◌+◌, ◌<◌, ◌≤◌, true, false, cond, List, [], ◌∷◌, ◌++◌, length, take, drop, map, sym, ap, ◌∙◌, append_assoc, length-append, length-drop, arith}
use Rattle.std.specs.Prelude.{nat_lt}
use Rattle.std.proofs.lemmas.List.{append-nil, length-take-le, take-append-drop}
use Rattle.sn_model.specs.declared.call.Call.{Call}
use Rattle.sn_model.specs.declared.call.Call.TheVariants as call
use Rattle.sn_import.specs.Writes.{Unwritten, pieces, writes}

one_more : (held : List ℕ) (b : ℕ) → length (held ++ b ∷ []) ≡ length held + 1
one_more held b = length-append held (b ∷ [])

-- bytes that fill no piece
short : (held bytes rest : List ℕ) → length held + length bytes < 28672 → pieces held (bytes ++ rest) ≡ pieces (held ++ bytes) rest
short held [] rest fits = ap (λ h. pieces h rest) (sym (append-nil held))
short held (b ∷ bytes) rest fits =
    let further = pieces (held ++ b ∷ []) (bytes ++ rest) in
    let full = (held ++ b ∷ []) ∷ pieces [] (bytes ++ rest) in
    let is : nat_lt (length held + 1) 28672 ≡ true = grind arith in
    ap (λ t. cond t further full) is
    ∙ short (held ++ b ∷ []) bytes rest (omega (arith, one_more held b))
    ∙ ap (λ h. pieces h rest) (append_assoc held (b ∷ []) bytes)

-- bytes that end a piece
ended : (held bytes rest : List ℕ) → length held + length bytes ≡ 28672 → 0 < length bytes → pieces held (bytes ++ rest) ≡ (held ++ bytes) ∷ pieces [] rest
ended held [] rest long some = absurd (omega arith)
ended held (b ∷ []) rest long some =
    let further = pieces (held ++ b ∷ []) rest in
    let full = (held ++ b ∷ []) ∷ pieces [] rest in
    let is : nat_lt (length held + 1) 28672 ≡ false = grind arith in
    ap (λ t. cond t further full) is
ended held (b ∷ c ∷ bytes) rest long some =
    let further = pieces (held ++ b ∷ []) (c ∷ (bytes ++ rest)) in
    let full = (held ++ b ∷ []) ∷ pieces [] (c ∷ (bytes ++ rest)) in
    let is : nat_lt (length held + 1) 28672 ≡ true = grind arith in
    ap (λ t. cond t further full) is
    ∙ ended (held ++ b ∷ []) (c ∷ bytes) rest (omega (arith, one_more held b)) (omega arith)
    ∙ ap (λ h. h ∷ pieces [] rest) (append_assoc held (b ∷ []) (c ∷ bytes))

-- bytes that are held
pub writes_held : (before after : Unwritten) (bytes rest : List ℕ) → length before.held + length bytes < 28672 → after ≡ record before { held = before.held ++ bytes }
    → writes before (bytes ++ rest) ≡ writes after rest
writes_held before after bytes rest fits is =
    ap (map (call.Write before.fd)) (short before.held bytes rest fits) ∙ ap (λ u. writes u rest) (sym is)

-- bytes of which a front fills a write
pub writes_filled : (before after : Unwritten) (bytes rest front back piece : List ℕ) (room : ℕ) (next : Call)
    → room + length before.held ≡ 28672 → 0 < room → room ≤ length bytes → length bytes ≤ 512
    → front ≡ take room bytes → back ≡ drop room bytes → piece ≡ before.held ++ front → after ≡ record before { held = back } → next ≡ call.Write after.fd piece
    → writes before (bytes ++ rest) ≡ next ∷ writes after rest
writes_filled before after bytes rest front back piece room next long some within block is_front is_back is_piece is_after is_next =
    let size : length front ≡ room = ap length is_front ∙ length-take-le room bytes within in
    let few : length {A = ℕ} [] + length back < 28672 = omega (arith, ap length is_back, length-drop room bytes) in
    let joined : front ++ back ≡ bytes = ap (λ f. f ++ back) is_front ∙ ap (λ b. take room bytes ++ b) is_back ∙ take-append-drop room bytes in
    let whole : bytes ++ rest ≡ front ++ (back ++ rest) = ap (λ s. s ++ rest) (sym joined) ∙ append_assoc front back rest in
    let fd : after.fd ≡ before.fd = ap (λ u. u.fd) is_after in
    let is_call : next ≡ call.Write before.fd (before.held ++ front) = is_next ∙ ap (λ n. call.Write n piece) fd ∙ ap (call.Write before.fd) is_piece in
    ap (λ s. map (call.Write before.fd) (pieces before.held s)) whole
    ∙ ap (map (call.Write before.fd)) (ended before.held front (back ++ rest) (omega (arith, size)) (omega (arith, size)))
    ∙ ap (λ ps. call.Write before.fd (before.held ++ front) ∷ map (call.Write before.fd) ps) (short [] back rest few)
    ∙ ap (λ w. w ∷ map (call.Write before.fd) (pieces back rest)) (sym is_call)
    ∙ ap (λ u. next ∷ writes u rest) (sym is_after)
