-- What a command of ours makes of its words: as many as it has names, and no other number.
use Rattle.std.proofs.Common.{◌≡◌, ◌∙◌, Bool, true, false, refl, sym, ap, ap₂, List, [], ◌∷◌, true≢false, append-nil}
use Rattle.std.specs.List.{fold, list_any}
use Rattle.clap.specs.Walk.{Text, Walk, finished, nothing_held, rows_after, settled, walk_from}
use Rattle.clap.specs.Simple.{Shape}
use Rattle.clap.specs.Kinds.{Kinds, or_else}
use Rattle.clap.specs.Faults.{check_fault, defaults_fault, level_fault, settle_fault, walk_fault}
use Rattle.sn_command.specs.Words.{is_misfit}
use Rattle.sn_command.proofs.WalkLemmas.{OpenAlong, after, along, faults_along, walk_along}

-- the same by the walk alone
abbrev pub end_fault : Shape → Walk → Kinds
end_fault s w = or_else (settle_fault s.rules s.args_override_self w.held)
    (or_else (defaults_fault (settled s.rules w.held).rows s.rules) (check_fault s (finished s.rules w.held) false))

abbrev pub start : Walk
start = walk_from nothing_held

-- the faults of a command's words
abbrev pub leaf_fault : Shape → List Text → Kinds
leaf_fault s words = level_fault s [] nothing_held words false []

pub leaf_is : (s : Shape) (words : List Text) → list_any is_misfit words ≡ false → OpenAlong s.rules start words
    → leaf_fault s words ≡ or_else (along s start words (λ v. [])) (end_fault s (fold (after s.rules) start words))
unfolding walk_fault
leaf_is s words fit opens =
    let faults : walk_fault s [] start words ≡ along s start words (λ v. []) =
    ap (walk_fault s [] start) (sym (append-nil words)) ∙ faults_along s start words [] fit opens in
    ap₂ or_else faults (ap (end_fault s) (walk_along s.rules start words fit opens))

pub rows_are : (s : Shape) (words : List Text) → list_any is_misfit words ≡ false → OpenAlong s.rules start words
    → rows_after s.rules [] words ≡ finished s.rules (fold (after s.rules) start words).held
rows_are s words fit opens = ap (λ (w : Walk). finished s.rules w.held) (walk_along s.rules start words fit opens)

abbrev pub is_none : Kinds → Bool
is_none [] = true
is_none _ = false

pub or_else_some : (x y : Kinds) → is_none x ≡ false → is_none (or_else x y) ≡ false
or_else_some [] y e = absurd (true≢false e)
or_else_some (k ∷ ks) y e = refl
