-- What `clap` makes of a command line of ours: the first word names a command, and the others are its own.
use Rattle.std.proofs.Common.{◌≡◌, ◌∙◌, Bool, true, false, refl, sym, ap, ap₂, codes, List, [], ◌∷◌, ◌++◌, Some, None}
use Rattle.std.specs.Prelude.{is_some}
use Rattle.std.specs.Str.{bytes_eq}
use Rattle.std.proofs.lemmas.Slice.Eq.{bytes_eq-Decides}
use Rattle.clap.specs.Faults.{check_fault, defaults_fault, entered_fault, fault_of, is_simple_and_free, settle_fault, walk_fault}
use Rattle.clap.specs.Simple.{App, Shape, built, entered, is_simple, names_of, subcommand_of}
use Rattle.clap.specs.Kinds.{Kinds, or_else}
use Rattle.clap.specs.Walk.{Names, Text, Walk, finished, idle, nothing_held, rows_after, settled, subcommand_met, walk, walked}
use Rattle.clap.proofs.OnLiterals.{clap_on_literals}
use Rattle.clap.proofs.WalkLemmas.{walk_stopped}
use Rattle.sn_command.specs.Commands.{check, export, import, mkfs, run, serve, snapfs, stop_at}
use Rattle.sn_command.specs.Words.{is_misfit}
use Rattle.sn_command.proofs.LeafLemmas.{is_none, leaf_fault, or_else_some, start}
use Rattle.sn_command.proofs.Leaves.{leaf}
use Rattle.sn_command.proofs.WalkLemmas.{turn_plain}

abbrev pub whole : App
whole = built snapfs

abbrev pub names : Names
names = names_of whole

-- the walk met a command, whose words these are
abbrev met : Text → List Text → Walk
met name words = record start { stopped = Some (name, words) }

stopped_faults : (s : Shape) (w : Walk) (name : Text) (seen words : List Text) → walk_fault s names (record w { stopped = Some (name, seen) }) words ≡ []
unfolding walk_fault walked
stopped_faults s w name seen [] = refl
stopped_faults s w name seen (word ∷ words) = stopped_faults s w name (seen ++ word ∷ []) words

-- the faults of all, by those of the walk and by where it was at its end
abbrev by_walk : Kinds → Walk → Kinds
by_walk faults w = or_else faults (or_else (entered_fault whole w.stopped)
    (or_else (settle_fault whole.top.rules whole.top.args_override_self w.held)
    (or_else (defaults_fault (settled whole.top.rules w.held).rows whole.top.rules)
    (check_fault whole.top (finished whole.top.rules w.held) (is_some (entered whole w.stopped))))))

or_else_none : (x : Kinds) → or_else x [] ≡ x
or_else_none [] = refl
or_else_none (k ∷ ks) = refl

-- ---- mkfs

mkfs_walk : (words : List Text) → walk whole.top.rules names nothing_held (codes "mkfs" ∷ words) ≡ met (codes "mkfs") words
unfolding walked
mkfs_walk words = sym (walk_stopped whole.top.rules names start (codes "mkfs") [] words)

mkfs_walk_faults : (words : List Text) → walk_fault whole.top names start (codes "mkfs" ∷ words) ≡ []
unfolding walk_fault walked
mkfs_walk_faults words = stopped_faults whole.top start (codes "mkfs") [] words

pub mkfs_faults : (words : List Text) → fault_of snapfs (codes "mkfs" ∷ words) ≡ leaf_fault (leaf mkfs) words
unfolding defaults_fault
mkfs_faults words = ap₂ by_walk (mkfs_walk_faults words) (mkfs_walk words) ∙ or_else_none (leaf_fault (leaf mkfs) words)

pub mkfs_entered : (words : List Text) → subcommand_of snapfs (codes "mkfs" ∷ words) ≡ Some (codes "mkfs", rows_after (leaf mkfs).rules [] words)
mkfs_entered words = ap (λ (w : Walk). entered whole w.stopped) (mkfs_walk words)

-- ---- run

run_walk : (words : List Text) → walk whole.top.rules names nothing_held (codes "run" ∷ words) ≡ met (codes "run") words
unfolding walked
run_walk words = sym (walk_stopped whole.top.rules names start (codes "run") [] words)

run_walk_faults : (words : List Text) → walk_fault whole.top names start (codes "run" ∷ words) ≡ []
unfolding walk_fault walked
run_walk_faults words = stopped_faults whole.top start (codes "run") [] words

pub run_faults : (words : List Text) → fault_of snapfs (codes "run" ∷ words) ≡ leaf_fault (leaf run) words
unfolding defaults_fault
run_faults words = ap₂ by_walk (run_walk_faults words) (run_walk words) ∙ or_else_none (leaf_fault (leaf run) words)

pub run_entered : (words : List Text) → subcommand_of snapfs (codes "run" ∷ words) ≡ Some (codes "run", rows_after (leaf run).rules [] words)
run_entered words = ap (λ (w : Walk). entered whole w.stopped) (run_walk words)

-- ---- stop-at

stop_at_walk : (words : List Text) → walk whole.top.rules names nothing_held (codes "stop-at" ∷ words) ≡ met (codes "stop-at") words
unfolding walked
stop_at_walk words = sym (walk_stopped whole.top.rules names start (codes "stop-at") [] words)

stop_at_walk_faults : (words : List Text) → walk_fault whole.top names start (codes "stop-at" ∷ words) ≡ []
unfolding walk_fault walked
stop_at_walk_faults words = stopped_faults whole.top start (codes "stop-at") [] words

pub stop_at_faults : (words : List Text) → fault_of snapfs (codes "stop-at" ∷ words) ≡ leaf_fault (leaf stop_at) words
unfolding defaults_fault
stop_at_faults words = ap₂ by_walk (stop_at_walk_faults words) (stop_at_walk words) ∙ or_else_none (leaf_fault (leaf stop_at) words)

pub stop_at_entered : (words : List Text) → subcommand_of snapfs (codes "stop-at" ∷ words) ≡ Some (codes "stop-at", rows_after (leaf stop_at).rules [] words)
stop_at_entered words = ap (λ (w : Walk). entered whole w.stopped) (stop_at_walk words)

-- ---- check

check_walk : (words : List Text) → walk whole.top.rules names nothing_held (codes "check" ∷ words) ≡ met (codes "check") words
unfolding walked
check_walk words = sym (walk_stopped whole.top.rules names start (codes "check") [] words)

check_walk_faults : (words : List Text) → walk_fault whole.top names start (codes "check" ∷ words) ≡ []
unfolding walk_fault walked
check_walk_faults words = stopped_faults whole.top start (codes "check") [] words

pub check_faults : (words : List Text) → fault_of snapfs (codes "check" ∷ words) ≡ leaf_fault (leaf check) words
unfolding defaults_fault
check_faults words = ap₂ by_walk (check_walk_faults words) (check_walk words) ∙ or_else_none (leaf_fault (leaf check) words)

pub check_entered : (words : List Text) → subcommand_of snapfs (codes "check" ∷ words) ≡ Some (codes "check", rows_after (leaf check).rules [] words)
check_entered words = ap (λ (w : Walk). entered whole w.stopped) (check_walk words)

-- ---- export

export_walk : (words : List Text) → walk whole.top.rules names nothing_held (codes "export" ∷ words) ≡ met (codes "export") words
unfolding walked
export_walk words = sym (walk_stopped whole.top.rules names start (codes "export") [] words)

export_walk_faults : (words : List Text) → walk_fault whole.top names start (codes "export" ∷ words) ≡ []
unfolding walk_fault walked
export_walk_faults words = stopped_faults whole.top start (codes "export") [] words

pub export_faults : (words : List Text) → fault_of snapfs (codes "export" ∷ words) ≡ leaf_fault (leaf export) words
unfolding defaults_fault
export_faults words = ap₂ by_walk (export_walk_faults words) (export_walk words) ∙ or_else_none (leaf_fault (leaf export) words)

pub export_entered : (words : List Text) → subcommand_of snapfs (codes "export" ∷ words) ≡ Some (codes "export", rows_after (leaf export).rules [] words)
export_entered words = ap (λ (w : Walk). entered whole w.stopped) (export_walk words)

-- ---- import

import_walk : (words : List Text) → walk whole.top.rules names nothing_held (codes "import" ∷ words) ≡ met (codes "import") words
unfolding walked
import_walk words = sym (walk_stopped whole.top.rules names start (codes "import") [] words)

import_walk_faults : (words : List Text) → walk_fault whole.top names start (codes "import" ∷ words) ≡ []
unfolding walk_fault walked
import_walk_faults words = stopped_faults whole.top start (codes "import") [] words

pub import_faults : (words : List Text) → fault_of snapfs (codes "import" ∷ words) ≡ leaf_fault (leaf import) words
unfolding defaults_fault
import_faults words = ap₂ by_walk (import_walk_faults words) (import_walk words) ∙ or_else_none (leaf_fault (leaf import) words)

pub import_entered : (words : List Text) → subcommand_of snapfs (codes "import" ∷ words) ≡ Some (codes "import", rows_after (leaf import).rules [] words)
import_entered words = ap (λ (w : Walk). entered whole w.stopped) (import_walk words)

-- ---- serve

serve_walk : (words : List Text) → walk whole.top.rules names nothing_held (codes "serve" ∷ words) ≡ met (codes "serve") words
unfolding walked
serve_walk words = sym (walk_stopped whole.top.rules names start (codes "serve") [] words)

serve_walk_faults : (words : List Text) → walk_fault whole.top names start (codes "serve" ∷ words) ≡ []
unfolding walk_fault walked
serve_walk_faults words = stopped_faults whole.top start (codes "serve") [] words

pub serve_faults : (words : List Text) → fault_of snapfs (codes "serve" ∷ words) ≡ leaf_fault (leaf serve) words
unfolding defaults_fault
serve_faults words = ap₂ by_walk (serve_walk_faults words) (serve_walk words) ∙ or_else_none (leaf_fault (leaf serve) words)

pub serve_entered : (words : List Text) → subcommand_of snapfs (codes "serve" ∷ words) ≡ Some (codes "serve", rows_after (leaf serve).rules [] words)
serve_entered words = ap (λ (w : Walk). entered whole w.stopped) (serve_walk words)

-- ---- no command

pub none_faults : is_none (fault_of snapfs []) ≡ false
unfolding clap_on_literals
none_faults = refl

-- a first word that names none of them
pub unknown_faults : (word : Text) (words : List Text) → is_misfit word ≡ false → subcommand_met names idle word ≡ None
    → is_none (fault_of snapfs (word ∷ words)) ≡ false
unfolding walk_fault
unknown_faults word words fit none =
    let turn = turn_plain whole.top names start word fit (record { stopped = refl; waiting = refl; trailing = refl }) none in
    or_else_some (walk_fault whole.top names start (word ∷ words)) _ (or_else_some _ _ (ap is_none turn ∙ refl))

pub simple : is_simple snapfs ≡ true
unfolding clap_on_literals
simple = refl

pub simple_and_free : is_simple_and_free snapfs ≡ true
unfolding clap_on_literals
simple_and_free = refl

differs : (name word : Text) → (name ≡ word → ⊥) → bytes_eq name word ≡ false
differs name word other = go (bytes_eq name word) (λ e. other ((bytes_eq-Decides name word).0 e))
  where
    go : (b : Bool) → (b ≡ true → ⊥) → b ≡ false
    go true never = absurd (never refl)
    go false never = refl

pub unknown : (word : Text) → (codes "mkfs" ≡ word → ⊥) → (codes "run" ≡ word → ⊥) → (codes "stop-at" ≡ word → ⊥) → (codes "check" ≡ word → ⊥) → (codes "export" ≡ word → ⊥) → (codes "import" ≡ word → ⊥) → (codes "serve" ≡ word → ⊥) → subcommand_met names idle word ≡ None
unknown word one two three four five six seven =
    rw (differs (codes "mkfs") word one, differs (codes "run") word two, differs (codes "stop-at") word three, differs (codes "check") word four, differs (codes "export") word five, differs (codes "import") word six, differs (codes "serve") word seven) refl
