-- What `clap` makes of words that don't begin with a dash: each goes to the next positional.
use Rattle.std.proofs.Common.{◌≡◌, ◌∙◌, ◌||◌, Bool, true, false, refl, ap, ap₂, List, [], ◌∷◌, ◌++◌, None, true≢false}
use Rattle.std.specs.Prelude.{⊤}
use Rattle.std.specs.List.{fold, list_any}
use Rattle.clap.specs.Walk.{Names, Rule, Text, Walk, arg_by_index, idle, subcommand_met, to_positional, value, walked}
use Rattle.clap.specs.Simple.{Shape}
use Rattle.clap.specs.Kinds.{Kinds, or_else}
use Rattle.clap.specs.Faults.{step_fault, turn_fault, walk_fault}
use Rattle.sn_command.specs.Words.{is_misfit}

-- the walk waits for a value of a positional, or a subcommand
pub record IsOpen (w : Walk) : Type 0 where
  pub stopped : w.stopped ≡ None
  pub waiting : w.waiting ≡ idle
  pub trailing : w.is_trailing ≡ false

-- the word goes to the next positional, if there is one
abbrev pub after : List Rule → Walk → Text → Walk
after c w word = to_positional c (arg_by_index c w.position) word w w.held

pub walked_plain : (c : List Rule) (names : Names) (w : Walk) (word : Text) → is_misfit word ≡ false → IsOpen w → subcommand_met names idle word ≡ None
    → walked c names w word ≡ after c w word
unfolding walked
walked_plain c names w [] fits is none = absurd (true≢false fits)
walked_plain c names w (b ∷ word) fits is none = rw (is.stopped, is.waiting, is.trailing, none, fits, fits) refl

pub turn_plain : (s : Shape) (names : Names) (w : Walk) (word : Text) → is_misfit word ≡ false → IsOpen w → subcommand_met names idle word ≡ None
    → turn_fault s names w word ≡ step_fault s w.position w.held value
turn_plain s names w [] fits is none = absurd (true≢false fits)
turn_plain s names w (b ∷ word) fits is none = rw (is.stopped, is.waiting, is.trailing, none, fits, fits) refl

-- the walk waits so before each of the words
abbrev pub OpenAlong : List Rule → Walk → List Text → Type 0
OpenAlong c w [] = ⊤
OpenAlong c w (word ∷ words) = IsOpen w × OpenAlong c (after c w word) words

-- the faults of these words, and then of those after them
abbrev pub along : Shape → Walk → List Text → (Walk → Kinds) → Kinds
along s w [] rest = rest w
along s w (word ∷ words) rest = or_else (step_fault s w.position w.held value) (along s (after s.rules w word) words rest)

or_false : (a b : Bool) → (a || b) ≡ false → (a ≡ false) × (b ≡ false)
or_false true b e = absurd (true≢false e)
or_false false b e = (refl, e)

pub first_fits : (word : Text) (words : List Text) → list_any is_misfit (word ∷ words) ≡ false → is_misfit word ≡ false
first_fits word words fit = (or_false (is_misfit word) (list_any is_misfit words) fit).0

pub others_fit : (word : Text) (words : List Text) → list_any is_misfit (word ∷ words) ≡ false → list_any is_misfit words ≡ false
others_fit word words fit = (or_false (is_misfit word) (list_any is_misfit words) fit).1

pub front_fits : (words more : List Text) → list_any is_misfit (words ++ more) ≡ false → list_any is_misfit words ≡ false
front_fits [] more fit = refl
front_fits (word ∷ words) more fit = rw (first_fits word (words ++ more) fit) (front_fits words more (others_fit word (words ++ more) fit))

-- the walk over the words of a command that has no commands of its own
pub walk_along : (c : List Rule) (w : Walk) (words : List Text) → list_any is_misfit words ≡ false → OpenAlong c w words
    → fold (walked c []) w words ≡ fold (after c) w words
walk_along c w [] fit opens = refl
walk_along c w (word ∷ words) fit opens =
    ap (λ v. fold (walked c []) v words) (walked_plain c [] w word (first_fits word words fit) opens.0 refl)
    ∙ walk_along c (after c w word) words (others_fit word words fit) opens.1

pub faults_along : (s : Shape) (w : Walk) (words rest : List Text) → list_any is_misfit words ≡ false → OpenAlong s.rules w words
    → walk_fault s [] w (words ++ rest) ≡ along s w words (λ v. walk_fault s [] v rest)
unfolding walk_fault
faults_along s w [] rest fit opens = refl
faults_along s w (word ∷ words) rest fit opens =
    ap₂ or_else (turn_plain s [] w word (first_fits word words fit) opens.0 refl)
    (ap (λ v. walk_fault s [] v (words ++ rest)) (walked_plain s.rules [] w word (first_fits word words fit) opens.0 refl)
    ∙ faults_along s (after s.rules w word) words rest (others_fit word words fit) opens.1)
