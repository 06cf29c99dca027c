-- A text is the script of one list of events, or has one first bad line, and not both.
use Rattle.std.proofs.Common.{◌≡◌, ℕ, ◌+◌, ◌<◌, List, [], ◌∷◌, ◌++◌, length, refl, sym, ap, ◌∙◌, append_assoc, arith}
use Rattle.std.specs.List.{AllByRecursion, flat_map}
use Rattle.std.proofs.lemmas.List.{append-nil, length-append, nil_from_length}
use Rattle.std.proofs.lemmas.List.Concat.{flat_map-cons}
use Rattle.sn_model.specs.declared.call.Event.{Event}
use Rattle.sn_script.specs.Lines.{line_of, IsEvent}
use Rattle.sn_script.specs.Scripts.{IsScript, IsFirstBad, BeginsBadly}
use Rattle.sn_script.proofs.LineLaws.{one_event, line_then, text_of}

-- the lines of these events
abbrev lines_of : List Event → List ℕ
lines_of events = flat_map line_of events

lines-cons : (e : Event) (events : List Event) (rest : List ℕ) → lines_of (e ∷ events) ++ rest ≡ line_of e ++ (lines_of events ++ rest)
lines-cons e events rest = ap (λ (t : List ℕ). t ++ rest) (flat_map-cons line_of e events) ∙ append_assoc (line_of e) (lines_of events) rest

nothing_begins : BeginsBadly []
nothing_begins e more h same =
    let len : 0 ≡ length (text_of e ++ 10 ∷ more) = ap length (same ∙ line_then e more) in
    absurd (omega (arith, len, length-append (text_of e) (10 ∷ more)))

-- a text begins with the lines of one list of events, up to what no event's line begins
two_readings : (us vs : List Event) (x y : List ℕ) → AllByRecursion IsEvent us → AllByRecursion IsEvent vs → lines_of us ++ x ≡ lines_of vs ++ y → BeginsBadly x → BeginsBadly y → (us ≡ vs) × (x ≡ y)
two_readings [] [] x y h k same p q = (refl, same)
two_readings [] (f ∷ vs) x y h k same p q = absurd (p f (lines_of vs ++ y) k.0 (same ∙ lines-cons f vs y))
two_readings (e ∷ us) [] x y h k same p q = absurd (q e (lines_of us ++ x) h.0 (sym same ∙ lines-cons e us x))
two_readings (e ∷ us) (f ∷ vs) x y h k same p q =
    let first = one_event e f (lines_of us ++ x) (lines_of vs ++ y) h.0 k.0 (sym (lines-cons e us x) ∙ same ∙ lines-cons f vs y) in
    let rest = two_readings us vs x y h.1 k.1 first.1 p q in
    (joined e f us vs first.0 rest.0, rest.1)
  where
    joined : (e f : Event) (us vs : List Event) → e ≡ f → us ≡ vs → e ∷ us ≡ f ∷ vs
    joined e f us vs p q = cc

whole : (events : List Event) (text : List ℕ) → IsScript events text → text ≡ lines_of events ++ []
whole events text is = is.spelled ∙ sym (append-nil (lines_of events))

pub one_script : (us vs : List Event) (text : List ℕ) → IsScript us text → IsScript vs text → us ≡ vs
one_script us vs text is other = (two_readings us vs [] [] is.each other.each (sym (whole us text is) ∙ whole vs text other) nothing_begins nothing_begins).0

pub not_both : (n : ℕ) (events : List Event) (text : List ℕ) → IsScript events text → IsFirstBad text n → ⊥
not_both n events text is bad =
    let r = two_readings events bad.before [] bad.rest is.each bad.each (sym (whole events text is) ∙ bad.spelled) nothing_begins bad.bad in
    let len : 0 ≡ length bad.rest = ap length r.1 in
    let more = bad.more in
    omega arith

pub one_line : (m n : ℕ) (text : List ℕ) → IsFirstBad text m → IsFirstBad text n → m ≡ n
one_line m n text bad other =
    let r = two_readings bad.before other.before bad.rest other.rest bad.each other.each (sym bad.spelled ∙ other.spelled) bad.bad other.bad in
    bad.line ∙ ap (λ (es : List Event). length es + 1) r.0 ∙ sym other.line

-- what a loop over the lines has read, where nothing is left, and where a bad line is
pub read_all : (events : List Event) (rest text : List ℕ) → AllByRecursion IsEvent events → text ≡ lines_of events ++ rest → length rest ≡ 0 → IsScript events text
read_all events rest text each so_far none =
    let nothing : rest ≡ [] = nil_from_length rest none in
    record { each = each; spelled = so_far ∙ ap (λ (t : List ℕ). lines_of events ++ t) nothing ∙ append-nil (lines_of events) }

pub met_bad : (events : List Event) (rest text : List ℕ) → AllByRecursion IsEvent events → text ≡ lines_of events ++ rest → 0 < length rest → BeginsBadly rest → IsFirstBad text (length events + 1)
met_bad events rest text each so_far more bad = record { before = events; rest = rest; line = refl; each = each; spelled = so_far; more = more; bad = bad }
