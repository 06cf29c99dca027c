-- Image names: an escape is one in a host name and its image name alike, no two host names share one, and each name of an image is one.
use Rattle.std.proofs.Common.{◌≡◌, ℕ, zero, suc, ◌/◌, ◌%◌, ◌<◌, ◌≤◌, Bool, true, false, ◌&&◌, ◌||◌, ◌==◌, not, ◌⊎◌, inl, inr, ⊎_elim, List, [], ◌∷◌, ◌++◌, length, length-drop, get_or, drop, refl, sym, ap, ap₂, ◌∙◌, arith}
use Rattle.std.specs.Char.{digit_value}
use Rattle.std.specs.Fmt.{digit_glyph}
use Rattle.std.specs.List.{list_all}
use Rattle.std.proofs.lemmas.Bool.{cond-true, cond-false, cases_Bool, cases_eq, or_cases, or_parts, and_parts, and_from, or_left, or_right, true≢false, false_from_ne_true, eqb-true, eq-eqb, ne_eqb}
use Rattle.std.proofs.lemmas.Bool.Decides.{nat_tests}
use Rattle.percent_encoding.specs.Percent.{percent_encode_byte}
use Rattle.sn_limits.specs.Names.{is_name_byte, is_dots, is_name_spelled, has_name_length, is_name}
use Rattle.sn_host_names.specs.Escapes.{is_host_byte, is_host_name, is_escaped, is_hex_digit, byte_of, are_digits, makes_escape, needs_escape, spelled, image_name}

-- ---- digits

-- the digits of a byte, as an escape has them
abbrev pub high_of : ℕ → ℕ
high_of b = digit_glyph true (b / 16 % 16)

abbrev pub low_of : ℕ → ℕ
low_of b = digit_glyph true (b % 16)

pub escape_is : (b : ℕ) → percent_encode_byte b ≡ 37 ∷ high_of b ∷ low_of b ∷ []
unfolding percent_encode_byte
escape_is b = refl

glyph_is_digit : (d : ℕ) → d < 16 → is_hex_digit (digit_glyph true d) ≡ true
glyph_is_digit d small = grind (arith, nat_tests)

value_of_glyph : (d : ℕ) → d < 16 → digit_value (digit_glyph true d) ≡ d
value_of_glyph d small = grind (arith, nat_tests)

glyph_of_value : (c : ℕ) → is_hex_digit c ≡ true → digit_glyph true (digit_value c) ≡ c
glyph_of_value c hex = grind (arith, nat_tests)

value_small : (c : ℕ) → is_hex_digit c ≡ true → digit_value c < 16
value_small c hex = grind (arith, nat_tests)

pub byte_of_digits : (b : ℕ) → b < 256 → byte_of (high_of b) (low_of b) ≡ b
byte_of_digits b small =
    omega (arith, value_of_glyph (b / 16 % 16) (omega arith), value_of_glyph (b % 16) (omega arith))

escaped_small : (b : ℕ) → is_escaped b ≡ true → b < 256
escaped_small b escaped = grind (arith, nat_tests)

-- the digits of an escaped byte are such digits, and the digits of such a byte are those that an escape has
pub digits_of_escaped : (b : ℕ) → is_escaped b ≡ true → are_digits (high_of b) (low_of b) ≡ true
digits_of_escaped b escaped =
    and_from _ _ (and_from _ _ (glyph_is_digit (b / 16 % 16) (omega arith)) (glyph_is_digit (b % 16) (omega arith)))
    (ap is_escaped (byte_of_digits b (escaped_small b escaped)) ∙ escaped)

pub escape_of_digits : (high low : ℕ) → is_hex_digit high ≡ true → is_hex_digit low ≡ true → percent_encode_byte (byte_of high low) ≡ 37 ∷ high ∷ low ∷ []
escape_of_digits high low hex_high hex_low =
    let small_high = value_small high hex_high in
    let small_low = value_small low hex_low in
    let first : byte_of high low / 16 % 16 ≡ digit_value high = omega arith in
    let second : byte_of high low % 16 ≡ digit_value low = omega arith in
    escape_is (byte_of high low)
    ∙ ap₂ (λ h l. 37 ∷ h ∷ l ∷ []) (ap (digit_glyph true) first ∙ glyph_of_value high hex_high) (ap (digit_glyph true) second ∙ glyph_of_value low hex_low)

-- ---- bytes

pub spelled_escape : (b : ℕ) (rest : List ℕ) → needs_escape b rest ≡ true → spelled b rest ≡ 37 ∷ high_of b ∷ low_of b ∷ []
spelled_escape b rest needs = cond-true _ _ _ needs ∙ escape_is b

pub spelled_itself : (b : ℕ) (rest : List ℕ) → needs_escape b rest ≡ false → spelled b rest ≡ b ∷ []
spelled_itself b rest plain = cond-false _ _ _ plain

-- the image name of a byte and what follows it
pub image_escape : (b : ℕ) (rest : List ℕ) → needs_escape b rest ≡ true → image_name (b ∷ rest) ≡ 37 ∷ high_of b ∷ low_of b ∷ image_name rest
image_escape b rest needs = ap (λ s. s ++ image_name rest) (spelled_escape b rest needs)

pub image_itself : (b : ℕ) (rest : List ℕ) → needs_escape b rest ≡ false → image_name (b ∷ rest) ≡ b ∷ image_name rest
image_itself b rest plain = ap (λ s. s ++ image_name rest) (spelled_itself b rest plain)

-- a byte that may be kept as an escape
may_escape : (b : ℕ) (rest : List ℕ) → needs_escape b rest ≡ true → (is_escaped b || (b == 37)) ≡ true
may_escape b rest needs =
    ⊎_elim (λ e. or_left (is_escaped b) (b == 37) e) (λ e. or_right (is_escaped b) (b == 37) (and_parts (b == 37) (makes_escape rest) e).0) (or_cases (is_escaped b) ((b == 37) && makes_escape rest) needs)

-- ---- what makes an escape

abbrev begins : ℕ → ℕ → Bool → Bool
begins high low more = are_digits high low || ((high == 50) && (low == 53) && more)

-- no `25` is in front
pub makes_escape_ends : (bytes : List ℕ) → 2 ≤ length bytes → (get_or bytes 0 0 ≡ 50 → get_or bytes 1 0 ≡ 53 → ⊥) → makes_escape bytes ≡ are_digits (get_or bytes 0 0) (get_or bytes 1 0)
makes_escape_ends [] long = absurd (omega arith)
makes_escape_ends (b ∷ []) long = absurd (omega arith)
makes_escape_ends (b ∷ c ∷ rest) long = λ other. grind (arith, nat_tests, other)

no_digit : (b : ℕ) → (is_escaped b || (b == 37)) ≡ true → is_hex_digit b ≡ false
no_digit b may = grind (arith, nat_tests)

none_first : (b low : ℕ) (more : Bool) → (is_escaped b || (b == 37)) ≡ true → begins b low more ≡ false
none_first b low more may = grind (arith, nat_tests, no_digit b may)

none_second : (high b : ℕ) (more : Bool) → (is_escaped b || (b == 37)) ≡ true → begins high b more ≡ false
none_second high b more may = grind (arith, nat_tests, no_digit b may)

-- the same for a byte in front, where what follows the next one is known
behind_first : (b c : ℕ) (rest : List ℕ) → makes_escape (image_name rest) ≡ makes_escape rest → makes_escape (b ∷ image_name (c ∷ rest)) ≡ makes_escape (b ∷ c ∷ rest)
behind_first b c rest same =
    ⊎_elim
    (λ needs. ap (λ r. makes_escape (b ∷ r)) (image_escape c rest needs) ∙ none_second b 37 (makes_escape (high_of c ∷ low_of c ∷ image_name rest)) refl ∙ sym (none_second b c (makes_escape rest) (may_escape c rest needs)))
    (λ plain. ap (λ r. makes_escape (b ∷ r)) (image_itself c rest plain) ∙ ap (begins b c) same)
    (cases_Bool (needs_escape c rest))

-- an image name makes an escape where its host name does
pub image_makes_escape : (name : List ℕ) → makes_escape (image_name name) ≡ makes_escape name
image_makes_escape [] = refl
image_makes_escape (b ∷ []) =
    ⊎_elim
    (λ needs. ap makes_escape (image_escape b [] needs) ∙ none_first 37 (high_of b) (makes_escape (low_of b ∷ [])) refl)
    (λ plain. ap makes_escape (image_itself b [] plain))
    (cases_Bool (needs_escape b []))
image_makes_escape (b ∷ c ∷ rest) =
    let same = image_makes_escape rest in
    ⊎_elim
    (λ needs. ap makes_escape (image_escape b (c ∷ rest) needs) ∙ none_first 37 (high_of b) (makes_escape (low_of b ∷ image_name (c ∷ rest))) refl ∙ sym (none_first b c (makes_escape rest) (may_escape b (c ∷ rest) needs)))
    (λ plain. ap makes_escape (image_itself b (c ∷ rest) plain) ∙ behind_first b c rest same)
    (cases_Bool (needs_escape b (c ∷ rest)))

-- ---- one host name for an image name

heads : (a b : ℕ) (x y : List ℕ) → a ∷ x ≡ b ∷ y → (a ≡ b) × (x ≡ y)
heads a b x y e = (cc, cc)

-- what follows the `%` of an escape makes an escape of it
escape_makes : (b : ℕ) (rest : List ℕ) → needs_escape b rest ≡ true → makes_escape (high_of b ∷ low_of b ∷ image_name rest) ≡ true
escape_makes b rest needs =
    ⊎_elim
    (λ e. or_left _ _ (digits_of_escaped b e))
    (λ e.
    (let parts = and_parts (b == 37) (makes_escape rest) e in
    ap (λ n. makes_escape (high_of n ∷ low_of n ∷ image_name rest)) (eqb-true b 37 parts.0) ∙ image_makes_escape rest ∙ parts.1))
    (or_cases (is_escaped b) ((b == 37) && makes_escape rest) needs)

-- an escape is no byte that is kept as it is
escape_or_itself : (b c : ℕ) (x y : List ℕ) → needs_escape b x ≡ true → needs_escape c y ≡ false → image_name (b ∷ x) ≡ image_name (c ∷ y) → ⊥
escape_or_itself b c x y needs plain e =
    let same = heads 37 c (high_of b ∷ low_of b ∷ image_name x) (image_name y) (sym (image_escape b x needs) ∙ e ∙ image_itself c y plain) in
    let makes : makes_escape y ≡ true = sym (image_makes_escape y) ∙ sym (ap makes_escape same.1) ∙ escape_makes b x needs in
    true≢false (sym (or_right (is_escaped c) ((c == 37) && makes_escape y) (and_from _ _ (eq-eqb c 37 (sym same.0)) makes)) ∙ plain)

byte_small : (b : ℕ) (rest : List ℕ) → needs_escape b rest ≡ true → b < 256
byte_small b rest needs = grind (arith, nat_tests, may_escape b rest needs)

pub image_name_of_none : (name : List ℕ) → length name < 1 → image_name name ≡ []
image_name_of_none [] few = refl
image_name_of_none (b ∷ rest) few = absurd (omega arith)

none_empty : (b : ℕ) (rest : List ℕ) → image_name (b ∷ rest) ≡ [] → ⊥
none_empty b rest e =
    ⊎_elim
    (λ needs. (let whole = sym (image_escape b rest needs) ∙ e in absurd cc))
    (λ plain. (let whole = sym (image_itself b rest plain) ∙ e in absurd cc))
    (cases_Bool (needs_escape b rest))

both_escaped : (b c : ℕ) (x y : List ℕ) → (image_name x ≡ image_name y → x ≡ y) → image_name (b ∷ x) ≡ image_name (c ∷ y) → needs_escape b x ≡ true → needs_escape c y ≡ true → b ∷ x ≡ c ∷ y
both_escaped b c x y same e needs other =
    let whole = heads 37 37 (high_of b ∷ low_of b ∷ image_name x) (high_of c ∷ low_of c ∷ image_name y) (sym (image_escape b x needs) ∙ e ∙ image_escape c y other) in
    let first = heads (high_of b) (high_of c) (low_of b ∷ image_name x) (low_of c ∷ image_name y) whole.1 in
    let second = heads (low_of b) (low_of c) (image_name x) (image_name y) first.1 in
    ap₂ (λ n r. n ∷ r) (sym (byte_of_digits b (byte_small b x needs)) ∙ ap₂ byte_of first.0 second.0 ∙ byte_of_digits c (byte_small c y other)) (same second.1)

both_themselves : (b c : ℕ) (x y : List ℕ) → (image_name x ≡ image_name y → x ≡ y) → image_name (b ∷ x) ≡ image_name (c ∷ y) → needs_escape b x ≡ false → needs_escape c y ≡ false → b ∷ x ≡ c ∷ y
both_themselves b c x y same e plain other =
    let all = heads b c (image_name x) (image_name y) (sym (image_itself b x plain) ∙ e ∙ image_itself c y other) in
    ap₂ (λ n r. n ∷ r) all.0 (same all.1)

-- no two host names have one image name
pub distinct : (a b : List ℕ) → image_name a ≡ image_name b → a ≡ b
distinct [] [] e = refl
distinct [] (c ∷ y) e = absurd (none_empty c y (sym e))
distinct (b ∷ x) [] e = absurd (none_empty b x e)
distinct (b ∷ x) (c ∷ y) e =
    let rest = distinct x y in
    ⊎_elim
    (λ needs. ⊎_elim (both_escaped b c x y rest e needs) (λ plain. absurd (escape_or_itself b c x y needs plain e)) (cases_Bool (needs_escape c y)))
    (λ plain. ⊎_elim (λ needs. absurd (escape_or_itself c b y x needs plain (sym e))) (both_themselves b c x y rest e plain) (cases_Bool (needs_escape c y)))
    (cases_Bool (needs_escape b x))

-- ---- the byte that an image name begins with

-- what makes an escape begins with two digits
pub escape_digits : (bytes : List ℕ) → makes_escape bytes ≡ true → (is_hex_digit (get_or bytes 0 0) ≡ true) × (is_hex_digit (get_or bytes 1 0) ≡ true)
escape_digits [] e = absurd (true≢false (sym e))
escape_digits (b ∷ []) e = absurd (true≢false (sym e))
escape_digits (b ∷ c ∷ rest) e = (grind (arith, nat_tests), grind (arith, nat_tests))

-- an escape denotes the byte of its digits, whatever name the rest denotes
pub escape_first : (bytes host : List ℕ) → makes_escape bytes ≡ true → image_name host ≡ drop 2 bytes
    → image_name (byte_of (get_or bytes 0 0) (get_or bytes 1 0) ∷ host) ≡ 37 ∷ bytes
escape_first [] host e = absurd (true≢false (sym e))
escape_first (b ∷ []) host e = absurd (true≢false (sym e))
escape_first (b ∷ c ∷ rest) host e = λ same.
    let digits = escape_digits (b ∷ c ∷ rest) e in
    let needs : needs_escape (byte_of b c) host ≡ true =
    ⊎_elim
    (λ are. or_left _ _ (and_parts _ (is_escaped (byte_of b c)) are).1)
    (λ more.
    (let parts = and_parts ((b == 50) && (c == 53)) (makes_escape rest) more in
    let numbers = and_parts (b == 50) (c == 53) parts.0 in
    let sign : byte_of b c ≡ 37 = ap₂ byte_of (eqb-true b 50 numbers.0) (eqb-true c 53 numbers.1) in
    or_right _ _ (and_from _ _ (eq-eqb _ 37 sign) (sym (image_makes_escape host) ∙ ap makes_escape same ∙ parts.1))))
    (or_cases (are_digits b c) ((b == 50) && (c == 53) && makes_escape rest) e) in
    ap (λ s. s ++ image_name host) (cond-true _ _ _ needs ∙ escape_of_digits b c digits.0 digits.1) ∙ ap (λ r. 37 ∷ b ∷ c ∷ r) same

-- any other byte of an image name denotes itself
pub kept_first : (b : ℕ) (rest host : List ℕ) → is_name_byte b ≡ true → (b ≡ 37 → makes_escape rest ≡ false) → image_name host ≡ rest → image_name (b ∷ host) ≡ b ∷ rest
kept_first b rest host name plain same =
    let plain_host : (b ≡ 37 → makes_escape host ≡ false) = λ sign. sym (image_makes_escape host) ∙ ap makes_escape same ∙ plain sign in
    let none : needs_escape b host ≡ false = grind (arith, nat_tests, plain_host) in
    image_itself b host none ∙ ap (λ r. b ∷ r) same

-- ---- which bytes are on which side

pub all_drop : (p : ℕ → Bool) (n : ℕ) (xs : List ℕ) → list_all p xs ≡ true → list_all p (drop n xs) ≡ true
all_drop p zero xs h = h
all_drop p (suc n) [] h = refl
all_drop p (suc n) (x ∷ xs) h = all_drop p n xs (and_parts (p x) (list_all p xs) h).1

digit_is_name : (d : ℕ) → d < 16 → is_name_byte (digit_glyph true d) ≡ true
digit_is_name d small = grind (arith, nat_tests)

plain_is_name : (b : ℕ) (rest : List ℕ) → is_host_byte b ≡ true → needs_escape b rest ≡ false → is_name_byte b ≡ true
plain_is_name b rest host plain =
    let none = (or_parts (is_escaped b) ((b == 37) && makes_escape rest) plain).0 in
    grind (arith, nat_tests, none)

-- the image name of bytes of a host name has bytes of a name
pub images_have_name_bytes : (host : List ℕ) → list_all is_host_byte host ≡ true → list_all is_name_byte (image_name host) ≡ true
images_have_name_bytes [] h = refl
images_have_name_bytes (b ∷ rest) h =
    let parts = and_parts (is_host_byte b) (list_all is_host_byte rest) h in
    let others = images_have_name_bytes rest parts.1 in
    ⊎_elim
    (λ needs. ap (list_all is_name_byte) (image_escape b rest needs) ∙ and_from _ _ (digit_is_name (b / 16 % 16) (omega arith)) (and_from _ _ (digit_is_name (b % 16) (omega arith)) others))
    (λ plain. ap (list_all is_name_byte) (image_itself b rest plain) ∙ and_from _ _ (plain_is_name b rest parts.0 plain) others)
    (cases_Bool (needs_escape b rest))

dots : (xs : List ℕ) → is_dots xs ≡ true → (xs ≡ 46 ∷ []) ⊎ (xs ≡ 46 ∷ 46 ∷ [])
dots [] e = absurd (true≢false (sym e))
dots (a ∷ []) e = inl (ap (λ n. n ∷ []) (eqb-true a 46 e))
dots (a ∷ b ∷ []) e =
    let parts = and_parts (a == 46) (b == 46) e in
    inr (ap₂ (λ n m. n ∷ m ∷ []) (eqb-true a 46 parts.0) (eqb-true b 46 parts.1))
dots (a ∷ b ∷ c ∷ more) e = absurd (true≢false (sym e))

-- a host name is `.` or `..` where its image name is
pub dots_of_image_name : (host : List ℕ) → is_dots (image_name host) ≡ true → is_dots host ≡ true
dots_of_image_name host e =
    ⊎_elim (λ one. ap is_dots (distinct host (46 ∷ []) one)) (λ two. ap is_dots (distinct host (46 ∷ 46 ∷ []) two)) (dots (image_name host) e)

pub image_name_of_dots : (host : List ℕ) → is_dots host ≡ true → is_dots (image_name host) ≡ true
image_name_of_dots host e =
    ⊎_elim (λ one. ap (λ xs. is_dots (image_name xs)) one) (λ two. ap (λ xs. is_dots (image_name xs)) two) (dots host e)

some_byte : (b : ℕ) (rest : List ℕ) → (length (b ∷ rest) == 0) ≡ false
some_byte b rest = ne_eqb (length (b ∷ rest)) 0 (λ e. omega arith)

none_of_none : (host : List ℕ) → (length (image_name host) == 0) ≡ (length host == 0)
none_of_none [] = refl
none_of_none (b ∷ rest) =
    ⊎_elim
    (λ needs. ap (λ xs. length xs == 0) (image_escape b rest needs) ∙ some_byte 37 (high_of b ∷ low_of b ∷ image_name rest) ∙ sym (some_byte b rest))
    (λ plain. ap (λ xs. length xs == 0) (image_itself b rest plain) ∙ some_byte b (image_name rest) ∙ sym (some_byte b rest))
    (cases_Bool (needs_escape b rest))

same_dots : (host : List ℕ) → is_dots (image_name host) ≡ is_dots host
same_dots host =
    ⊎_elim
    (λ is. image_name_of_dots host is ∙ sym is)
    (λ is_not. false_from_ne_true _ (λ is. true≢false (sym (dots_of_image_name host is) ∙ is_not)) ∙ sym is_not)
    (cases_Bool (is_dots host))

-- an image name is spelled as a name
pub images_spelled : (host : List ℕ) → is_host_name host ≡ true → is_name_spelled (image_name host) ≡ true
images_spelled host name =
    let parts = and_parts (not (length host == 0) && not (is_dots host)) (list_all is_host_byte host) name in
    and_from _ _ (ap₂ (λ a b. not a && not b) (none_of_none host) (same_dots host) ∙ parts.0) (images_have_name_bytes host parts.1)

-- bytes of a host name whose image name is a name are a host name
pub host_is_name : (host name : List ℕ) → list_all is_host_byte host ≡ true → image_name host ≡ name → is_name name ≡ true → is_host_name host ≡ true
host_is_name host name bytes image valid =
    let spelled = and_parts (is_name_spelled (image_name host)) (has_name_length (image_name host)) (ap is_name image ∙ valid) in
    let parts = and_parts (not (length (image_name host) == 0) && not (is_dots (image_name host))) (list_all is_name_byte (image_name host)) spelled.0 in
    and_from _ _ (sym (ap₂ (λ a b. not a && not b) (none_of_none host) (same_dots host)) ∙ parts.0) bytes

-- ---- each name of an image is an image name

abbrev IsImage : List ℕ → Type 0
IsImage name = (host : List ℕ) × (list_all is_host_byte host ≡ true) × (image_name host ≡ name)

escaped_is_host : (b : ℕ) → is_escaped b ≡ true → is_host_byte b ≡ true
escaped_is_host b escaped = grind (arith, nat_tests)

escape_is_host : (bytes : List ℕ) → makes_escape bytes ≡ true → is_host_byte (byte_of (get_or bytes 0 0) (get_or bytes 1 0)) ≡ true
escape_is_host [] e = absurd (true≢false (sym e))
escape_is_host (b ∷ []) e = absurd (true≢false (sym e))
escape_is_host (b ∷ c ∷ rest) e =
    ⊎_elim
    (λ are. escaped_is_host (byte_of b c) (and_parts _ (is_escaped (byte_of b c)) are).1)
    (λ more.
    (let numbers = and_parts (b == 50) (c == 53) (and_parts ((b == 50) && (c == 53)) (makes_escape rest) more).0 in
    ap is_host_byte (ap₂ byte_of (eqb-true b 50 numbers.0) (eqb-true c 53 numbers.1))))
    (or_cases (are_digits b c) ((b == 50) && (c == 53) && makes_escape rest) e)

name_is_host : (b : ℕ) → is_name_byte b ≡ true → is_host_byte b ≡ true
name_is_host b name = grind (arith, nat_tests)

image_behind : (b : ℕ) (rest : List ℕ) → is_name_byte b ≡ true → (b ≡ 37 → makes_escape rest ≡ false) → IsImage rest → IsImage (b ∷ rest)
image_behind b rest name plain (host, bytes, image) =
    (b ∷ host, and_from _ _ (name_is_host b name) bytes, kept_first b rest host name plain image)

image_behind_escape : (b : ℕ) (rest : List ℕ) → b ≡ 37 → makes_escape rest ≡ true → IsImage (drop 2 rest) → IsImage (b ∷ rest)
image_behind_escape b rest sign makes (host, bytes, image) =
    (byte_of (get_or rest 0 0) (get_or rest 1 0) ∷ host, and_from _ _ (escape_is_host rest makes) bytes, escape_first rest host makes image ∙ ap (λ n. n ∷ rest) (sym sign))

image_within : (n : ℕ) (name : List ℕ) → length name ≤ n → list_all is_name_byte name ≡ true → IsImage name
image_within n [] = λ short names. ([], refl, refl)
image_within zero (b ∷ rest) = λ short names. absurd (omega arith)
image_within (suc n) (b ∷ rest) = λ short names.
    let parts = and_parts (is_name_byte b) (list_all is_name_byte rest) names in
    let others = image_within n rest (omega arith) parts.1 in
    let further = image_within n (drop 2 rest) (omega (arith, length-drop 2 rest)) (all_drop is_name_byte 2 rest parts.1) in
    ⊎_elim
    (λ sign. ⊎_elim (λ makes. image_behind_escape b rest sign makes further) (λ makes_none. image_behind b rest parts.0 (λ _. makes_none) others) (cases_Bool (makes_escape rest)))
    (λ other. image_behind b rest parts.0 (λ sign. absurd (other sign)) others)
    (cases_eq b 37)

pub name_is_image : (name : List ℕ) → is_name name ≡ true → (host : List ℕ) × (is_host_name host ≡ true) × (image_name host ≡ name)
name_is_image name valid = found (image_within (length name) name (omega arith) (and_parts _ (list_all is_name_byte name) (and_parts (is_name_spelled name) (has_name_length name) valid).0).1)
  where
    found : IsImage name → (host : List ℕ) × (is_host_name host ≡ true) × (image_name host ≡ name)
    found (host, bytes, image) = (host, host_is_name host name bytes image valid, image)
