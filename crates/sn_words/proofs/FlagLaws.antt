-- The flags of an open, the mode after them, and bytes in hexadecimal: what is read is spelled so, and what is spelled so is read.
use Rattle.std.proofs.Common.{◌≡◌, ℕ, zero, suc, ◌*◌, ◌≤◌, inl, inr, Bool, true, false, cond, eqb, List, [], ◌∷◌, ◌++◌, length, Some, Result, Ok, Err, refl, sym, ap, subst, ◌∙◌, lit≤, lit<, arith}
use Rattle.std.specs.Prelude.{◌==◌, ◌&&◌, not, codes}
use Rattle.std.specs.List.{AllByRecursion}
use Rattle.std.specs.Str.{bytes_eq}
use Rattle.std.proofs.lemmas.Bool.{eq-eqb, eqb-true}
use Rattle.std.proofs.lemmas.List.Elements.{recursion_from_All}
use Rattle.std.proofs.lemmas.List.{append-nil, nil_from_length}
use Rattle.std.proofs.lemmas.Slice.Eq.{bytes_eq-Decides}
use Rattle.hex.specs.Hex.{IsBytes, decode_of, encode_lower, is_hex_digit, lower_digits}
use Rattle.hex.specs.declared.error.FromHexError.{FromHexError}
use Rattle.hex.proofs.HexLemmas.{decode_of-encode_lower, decode_of-ok, length-encode_with}
use Rattle.sn_model.proofs.ChainLemmas.{some_same}
use Rattle.sn_model.specs.declared.argument.OpenFlags.{OpenFlags}
use Rattle.sn_words.specs.Fields.{content_word, flags_word, has_flag, letter_word, mode_words, IsFileMode}
use Rattle.sn_words.specs.Reading.{content_of, file_mode_of, flags_of, letter_of, spelled_by}
use Rattle.sn_words.proofs.Options.{chosen, passed, both_true}
use Rattle.sn_words.proofs.FieldLaws.{is_false, octal_takes, octal_again}
use Rattle.sn_words.proofs.Bytes.{Lacks, Within, Within-append}

-- ---- flags

letter_takes : (l : ℕ) (text : List ℕ) → text ≡ letter_word l (letter_of l text).0 ++ (letter_of l text).1
letter_takes l [] = refl
letter_takes l (b ∷ text) = there (b == l) (eqb-true b l)
  where
    there : (t : Bool) → (t ≡ true → b ≡ l) → b ∷ text ≡ letter_word l (cond {A = Bool × List ℕ} t (true, text) (false, b ∷ text)).0 ++ (cond {A = Bool × List ℕ} t (true, text) (false, b ∷ text)).1
    there true is = ap (λ (x : ℕ). x ∷ text) (is refl)
    there false is = refl

letter_again : (l : ℕ) (t : Bool) (rest : List ℕ) → Lacks l rest → letter_of l (letter_word l t ++ rest) ≡ (t, rest)
letter_again l true rest h = let same : eqb l l ≡ true = eq-eqb l l refl in rw same refl
letter_again l false [] h = refl
letter_again l false (b ∷ rest) h = rw h.0 refl

letter_lacks : (l m : ℕ) (t : Bool) (rest : List ℕ) → eqb m l ≡ false → Lacks l rest → Lacks l (letter_word m t ++ rest)
letter_lacks l m true rest other h = (other, h)
letter_lacks l m false rest other h = h

-- the letters of six flags, and what is after them
abbrev letters : OpenFlags → List ℕ → List ℕ
letters f rest = letter_word 114 f.read ++ (letter_word 119 f.write ++ (letter_word 97 f.append ++ (letter_word 99 f.create
    ++ (letter_word 120 f.exclusive ++ (letter_word 116 f.truncate ++ rest)))))

letters_word : (f : OpenFlags) → letters f [] ≡ flags_word f
letters_word f = ap (λ (t : List ℕ). letter_word 114 f.read ++ (letter_word 119 f.write ++ (letter_word 97 f.append ++ (letter_word 99 f.create
    ++ (letter_word 120 f.exclusive ++ t))))) (append-nil (letter_word 116 f.truncate))

-- the flags that are read, and what is after them
abbrev read_flags : List ℕ → OpenFlags × List ℕ
read_flags word =
    let r = letter_of 114 word in
    let w = letter_of 119 r.1 in
    let a = letter_of 97 w.1 in
    let c = letter_of 99 a.1 in
    let x = letter_of 120 c.1 in
    let t = letter_of 116 x.1 in
    (record { read = r.0; write = w.0; append = a.0; create = c.0; exclusive = x.0; truncate = t.0 }, t.1)

read_takes : (word : List ℕ) → word ≡ letters (read_flags word).0 (read_flags word).1
read_takes word =
    let r = letter_of 114 word in
    let w = letter_of 119 r.1 in
    let a = letter_of 97 w.1 in
    let c = letter_of 99 a.1 in
    let x = letter_of 120 c.1 in
    letter_takes 114 word ∙ ap (λ (t : List ℕ). letter_word 114 r.0 ++ t) (letter_takes 119 r.1
    ∙ ap (λ (t : List ℕ). letter_word 119 w.0 ++ t) (letter_takes 97 w.1
    ∙ ap (λ (t : List ℕ). letter_word 97 a.0 ++ t) (letter_takes 99 a.1
    ∙ ap (λ (t : List ℕ). letter_word 99 c.0 ++ t) (letter_takes 120 c.1
    ∙ ap (λ (t : List ℕ). letter_word 120 x.0 ++ t) (letter_takes 116 x.1)))))

pub flags_take : (word : List ℕ) (f : OpenFlags) → flags_of word ≡ Some f → (word ≡ flags_word f) × (has_flag f ≡ true)
unfolding flags_of
flags_take word f e =
    let found = read_flags word in
    let t = passed (not (length word == 0) && length found.1 == 0) (Some found.0) f e in
    let p = both_true (not (length word == 0)) (length found.1 == 0) t.0 in
    let none : found.1 ≡ [] = nil_from_length found.1 (eqb-true (length found.1) 0 p.1) in
    let same : found.0 ≡ f = some_same found.0 f t.1 in
    let spelled : word ≡ flags_word f = read_takes word ∙ ap (letters found.0) none ∙ letters_word found.0 ∙ ap flags_word same in
    (spelled, ap (λ (w : List ℕ). not (length w == 0)) (sym spelled) ∙ p.0)

pub flags_again : (f : OpenFlags) → has_flag f ≡ true → flags_of (flags_word f) ≡ Some f
unfolding flags_of
flags_again f some =
    let t = letter_word 116 f.truncate in
    let x = letter_word 120 f.exclusive ++ t in
    let c = letter_word 99 f.create ++ x in
    let a = letter_word 97 f.append ++ c in
    let w = letter_word 119 f.write ++ a in
    let none : (l : ℕ) → eqb 116 l ≡ false → Lacks l t = λ l o. subst (Lacks l) (append-nil t) (letter_lacks l 116 f.truncate [] o tt) in
    let e6 : letter_of 116 t ≡ (f.truncate, []) = ap (letter_of 116) (sym (append-nil t)) ∙ letter_again 116 f.truncate [] tt in
    let l5 : (l : ℕ) → eqb 116 l ≡ false → eqb 120 l ≡ false → Lacks l x = λ l o p. letter_lacks l 120 f.exclusive t p (none l o) in
    let e5 : letter_of 120 x ≡ (f.exclusive, t) = letter_again 120 f.exclusive t (none 120 refl) in
    let l4 : (l : ℕ) → eqb 116 l ≡ false → eqb 120 l ≡ false → eqb 99 l ≡ false → Lacks l c = λ l o p q. letter_lacks l 99 f.create x q (l5 l o p) in
    let e4 : letter_of 99 c ≡ (f.create, x) = letter_again 99 f.create x (l5 99 refl refl) in
    let e3 : letter_of 97 a ≡ (f.append, c) = letter_again 97 f.append c (l4 97 refl refl refl) in
    let l3 : (l : ℕ) → eqb 116 l ≡ false → eqb 120 l ≡ false → eqb 99 l ≡ false → eqb 97 l ≡ false → Lacks l a = λ l o p q s. letter_lacks l 97 f.append c s (l4 l o p q) in
    let e2 : letter_of 119 w ≡ (f.write, a) = letter_again 119 f.write a (l3 119 refl refl refl refl) in
    let e1 : letter_of 114 (flags_word f) ≡ (f.read, w) = letter_again 114 f.read w (letter_lacks 114 119 f.write a refl (l3 114 refl refl refl refl)) in
    rw (some, e1, e2, e3, e4, e5, e6) refl

letter_graphic : (l : ℕ) (t : Bool) → 33 ≤ l → l ≤ 126 → Within 33 126 (letter_word l t)
letter_graphic l true low high = ((low, high), tt)
letter_graphic l false low high = tt

pub flags_graphic : (f : OpenFlags) → Within 33 126 (flags_word f)
flags_graphic f =
    let t = letter_graphic 116 f.truncate (lit≤ tt) (lit≤ tt) in
    let x = Within-append 33 126 (letter_word 120 f.exclusive) _ (letter_graphic 120 f.exclusive (lit≤ tt) (lit≤ tt)) t in
    let c = Within-append 33 126 (letter_word 99 f.create) _ (letter_graphic 99 f.create (lit≤ tt) (lit≤ tt)) x in
    let a = Within-append 33 126 (letter_word 97 f.append) _ (letter_graphic 97 f.append (lit≤ tt) (lit≤ tt)) c in
    let w = Within-append 33 126 (letter_word 119 f.write) _ (letter_graphic 119 f.write (lit≤ tt) (lit≤ tt)) a in
    Within-append 33 126 (letter_word 114 f.read) _ (letter_graphic 114 f.read (lit≤ tt) (lit≤ tt)) w

-- ---- the mode after them

pub file_mode_takes : (creates : Bool) (words : List (List ℕ)) (mode : ℕ) → file_mode_of creates words ≡ Some mode → (words ≡ mode_words creates mode) × IsFileMode creates mode
unfolding file_mode_of
file_mode_takes true [] mode e = absurd cc
file_mode_takes true (word ∷ more ∷ others) mode e = absurd cc
file_mode_takes true (word ∷ []) mode e =
    let p = octal_takes word mode e in
    (ap (λ (w : List ℕ). w ∷ []) p.0, p.1)
file_mode_takes false [] mode e = (refl, sym (some_same 0 mode e))
file_mode_takes false (word ∷ others) mode e = absurd cc

pub file_mode_again : (creates : Bool) (mode : ℕ) → IsFileMode creates mode → file_mode_of creates (mode_words creates mode) ≡ Some mode
unfolding file_mode_of
file_mode_again true mode lt = octal_again mode lt
file_mode_again false mode is = ap (λ (m : ℕ). Some m) (sym is)

-- ---- bytes

spelled_takes : (word bytes : List ℕ) (read : Result (List ℕ) FromHexError) → decode_of word ≡ read → spelled_by word read ≡ Some bytes → (word ≡ content_word bytes) × IsBytes bytes
spelled_takes word bytes (Err fault) is e = absurd cc
spelled_takes word bytes (Ok found) is e =
    let t = passed (bytes_eq word (content_word found)) (Some found) bytes e in
    let same : found ≡ bytes = some_same found bytes t.1 in
    subst (λ (k : List ℕ). (word ≡ content_word k) × IsBytes k) same ((bytes_eq-Decides word (content_word found)).0 t.0, (decode_of-ok word found is).3)

no_bytes : IsBytes []
no_bytes zero = lit< tt
no_bytes (suc i) = lit< tt

pub content_takes : (word bytes : List ℕ) → content_of word ≡ Some bytes → (word ≡ content_word bytes) × IsBytes bytes
unfolding content_of
content_takes word bytes e =
    elim (chosen (bytes_eq word (codes "-")) (Some []) (spelled_by word (decode_of word)) (Some bytes) e) [
      | inl dash ↦
          let same : word ≡ codes "-" = (bytes_eq-Decides word (codes "-")).0 dash.0 in
          subst (λ (k : List ℕ). (word ≡ content_word k) × IsBytes k) (some_same [] bytes dash.1) (same, no_bytes)
      | inr digits ↦ spelled_takes word bytes (decode_of word) refl digits.1
    ]

pub content_again : (bytes : List ℕ) → IsBytes bytes → content_of (content_word bytes) ≡ Some bytes
unfolding content_of
content_again [] h = refl
content_again (b ∷ bytes) h =
    let text = encode_lower (b ∷ bytes) in
    let len : length text ≡ 2 * length (b ∷ bytes) = length-encode_with lower_digits (b ∷ bytes) in
    let other : bytes_eq text (codes "-") ≡ false = is_false (bytes_eq text (codes "-")) (λ e.
    let short : length text ≡ 1 = ap length ((bytes_eq-Decides text (codes "-")).0 e) in
    omega arith) in
    let same : bytes_eq text text ≡ true = (bytes_eq-Decides text text).1 refl in
    rw (other, decode_of-encode_lower (b ∷ bytes) h, same) refl

digit_graphic : (c : ℕ) → is_hex_digit c ≡ true → (33 ≤ c) × (c ≤ 126)
digit_graphic c h = grind (arith)

digits_graphic : (text : List ℕ) → AllByRecursion (λ c. is_hex_digit c ≡ true) text → Within 33 126 text
digits_graphic [] h = tt
digits_graphic (c ∷ text) h = (digit_graphic c h.0, digits_graphic text h.1)

pub content_graphic : (bytes : List ℕ) → IsBytes bytes → Within 33 126 (content_word bytes)
content_graphic [] h = ((lit≤ tt, lit≤ tt), tt)
content_graphic (b ∷ bytes) h =
    let text = encode_lower (b ∷ bytes) in
    let read = decode_of-ok text (b ∷ bytes) (decode_of-encode_lower (b ∷ bytes) h) in
    digits_graphic text (recursion_from_All (λ c. is_hex_digit c ≡ true) text read.1)
