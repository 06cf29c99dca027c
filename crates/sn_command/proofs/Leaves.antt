-- Each command of ours, as `clap` builds it, takes as many words as it has names, and reads each of them under its name.
use Rattle.std.proofs.Common.{◌≡◌, ◌∙◌, ◌⊎◌, ℕ, false, inl, inr, refl, sym, ap, codes, List, [], ◌∷◌, Some, None, true≢false}
use Rattle.std.specs.List.{list_any}
use Rattle.clap.specs.Faults.{walk_fault}
use Rattle.clap.specs.Simple.{App, Shape, built_leaf, inherited}
use Rattle.clap.specs.Walk.{Held, Text, idle, rows_after}
use Rattle.clap.specs.Words.{first_of}
use Rattle.clap.proofs.OnLiterals.{clap_on_literals}
use Rattle.sn_command.specs.Commands.{check, export, import, mkfs, run, serve, stop_at, top}
use Rattle.sn_command.specs.Words.{is_misfit}
use Rattle.sn_command.proofs.LeafLemmas.{is_none, leaf_fault, leaf_is, or_else_some, rows_are, start}
use Rattle.sn_command.proofs.WalkLemmas.{IsOpen, OpenAlong, faults_along, front_fits}

abbrev pub leaf : App → Shape
leaf a = built_leaf (inherited top.top a.top)

opened : (h : Held) (position : ℕ) → IsOpen (record { held = h; waiting = idle; position = position; is_trailing = false; stopped = None })
opened h position = record { stopped = refl; waiting = refl; trailing = refl }

-- ---- mkfs

mkfs_open : (a b : Text) → OpenAlong (leaf mkfs).rules start (a ∷ b ∷ [])
mkfs_open a b = (opened _ _, (opened _ _, tt))

pub mkfs_fits : (a b : Text) → list_any is_misfit (a ∷ b ∷ []) ≡ false → leaf_fault (leaf mkfs) (a ∷ b ∷ []) ≡ []
unfolding clap_on_literals
mkfs_fits a b fit = leaf_is (leaf mkfs) (a ∷ b ∷ []) fit (mkfs_open a b) ∙ refl

pub mkfs_image : (a b : Text) → list_any is_misfit (a ∷ b ∷ []) ≡ false → first_of (codes "IMAGE") (rows_after (leaf mkfs).rules [] (a ∷ b ∷ [])) ≡ Some a
unfolding clap_on_literals
mkfs_image a b fit = ap (first_of (codes "IMAGE")) (rows_are (leaf mkfs) (a ∷ b ∷ []) fit (mkfs_open a b)) ∙ refl

pub mkfs_blocks : (a b : Text) → list_any is_misfit (a ∷ b ∷ []) ≡ false → first_of (codes "BLOCKS") (rows_after (leaf mkfs).rules [] (a ∷ b ∷ [])) ≡ Some b
unfolding clap_on_literals
mkfs_blocks a b fit = ap (first_of (codes "BLOCKS")) (rows_are (leaf mkfs) (a ∷ b ∷ []) fit (mkfs_open a b)) ∙ refl

mkfs_0 : is_none (leaf_fault (leaf mkfs) []) ≡ false
unfolding clap_on_literals
mkfs_0 = refl

mkfs_1 : (a : Text) → list_any is_misfit (a ∷ []) ≡ false → is_none (leaf_fault (leaf mkfs) (a ∷ [])) ≡ false
unfolding clap_on_literals
mkfs_1 a fit = ap is_none (leaf_is (leaf mkfs) (a ∷ []) fit (opened _ _, tt)) ∙ refl

mkfs_more : (a b d : Text) (more : List Text) → list_any is_misfit (a ∷ b ∷ d ∷ more) ≡ false → is_none (leaf_fault (leaf mkfs) (a ∷ b ∷ d ∷ more)) ≡ false
unfolding clap_on_literals
mkfs_more a b d more fit =
    let front : list_any is_misfit (a ∷ b ∷ d ∷ []) ≡ false = front_fits (a ∷ b ∷ d ∷ []) more fit in
    let opens : OpenAlong (leaf mkfs).rules start (a ∷ b ∷ d ∷ []) = (opened _ _, (opened _ _, (opened _ _, tt))) in
    or_else_some (walk_fault (leaf mkfs) [] start (a ∷ b ∷ d ∷ more)) _ (ap is_none (faults_along (leaf mkfs) start (a ∷ b ∷ d ∷ []) more front opens) ∙ refl)

-- it takes 2 words
pub mkfs_words : (words : List Text) → list_any is_misfit words ≡ false → leaf_fault (leaf mkfs) words ≡ [] → (a : Text) × (b : Text) × (words ≡ a ∷ b ∷ [])
mkfs_words [] fit e = absurd (true≢false (sym (ap is_none e) ∙ mkfs_0))
mkfs_words (a ∷ []) fit e = absurd (true≢false (sym (ap is_none e) ∙ mkfs_1 a fit))
mkfs_words (a ∷ b ∷ []) fit e = (a, b, refl)
mkfs_words (a ∷ b ∷ d ∷ more) fit e = absurd (true≢false (sym (ap is_none e) ∙ mkfs_more a b d more fit))

-- ---- run

run_open : (a b : Text) → OpenAlong (leaf run).rules start (a ∷ b ∷ [])
run_open a b = (opened _ _, (opened _ _, tt))

pub run_fits : (a b : Text) → list_any is_misfit (a ∷ b ∷ []) ≡ false → leaf_fault (leaf run) (a ∷ b ∷ []) ≡ []
unfolding clap_on_literals
run_fits a b fit = leaf_is (leaf run) (a ∷ b ∷ []) fit (run_open a b) ∙ refl

pub run_image : (a b : Text) → list_any is_misfit (a ∷ b ∷ []) ≡ false → first_of (codes "IMAGE") (rows_after (leaf run).rules [] (a ∷ b ∷ [])) ≡ Some a
unfolding clap_on_literals
run_image a b fit = ap (first_of (codes "IMAGE")) (rows_are (leaf run) (a ∷ b ∷ []) fit (run_open a b)) ∙ refl

pub run_script : (a b : Text) → list_any is_misfit (a ∷ b ∷ []) ≡ false → first_of (codes "SCRIPT") (rows_after (leaf run).rules [] (a ∷ b ∷ [])) ≡ Some b
unfolding clap_on_literals
run_script a b fit = ap (first_of (codes "SCRIPT")) (rows_are (leaf run) (a ∷ b ∷ []) fit (run_open a b)) ∙ refl

run_0 : is_none (leaf_fault (leaf run) []) ≡ false
unfolding clap_on_literals
run_0 = refl

run_1 : (a : Text) → list_any is_misfit (a ∷ []) ≡ false → is_none (leaf_fault (leaf run) (a ∷ [])) ≡ false
unfolding clap_on_literals
run_1 a fit = ap is_none (leaf_is (leaf run) (a ∷ []) fit (opened _ _, tt)) ∙ refl

run_more : (a b d : Text) (more : List Text) → list_any is_misfit (a ∷ b ∷ d ∷ more) ≡ false → is_none (leaf_fault (leaf run) (a ∷ b ∷ d ∷ more)) ≡ false
unfolding clap_on_literals
run_more a b d more fit =
    let front : list_any is_misfit (a ∷ b ∷ d ∷ []) ≡ false = front_fits (a ∷ b ∷ d ∷ []) more fit in
    let opens : OpenAlong (leaf run).rules start (a ∷ b ∷ d ∷ []) = (opened _ _, (opened _ _, (opened _ _, tt))) in
    or_else_some (walk_fault (leaf run) [] start (a ∷ b ∷ d ∷ more)) _ (ap is_none (faults_along (leaf run) start (a ∷ b ∷ d ∷ []) more front opens) ∙ refl)

-- it takes 2 words
pub run_words : (words : List Text) → list_any is_misfit words ≡ false → leaf_fault (leaf run) words ≡ [] → (a : Text) × (b : Text) × (words ≡ a ∷ b ∷ [])
run_words [] fit e = absurd (true≢false (sym (ap is_none e) ∙ run_0))
run_words (a ∷ []) fit e = absurd (true≢false (sym (ap is_none e) ∙ run_1 a fit))
run_words (a ∷ b ∷ []) fit e = (a, b, refl)
run_words (a ∷ b ∷ d ∷ more) fit e = absurd (true≢false (sym (ap is_none e) ∙ run_more a b d more fit))

-- ---- stop-at

stop_at_open : (a b c d f : Text) → OpenAlong (leaf stop_at).rules start (a ∷ b ∷ c ∷ d ∷ f ∷ [])
stop_at_open a b c d f = (opened _ _, (opened _ _, (opened _ _, (opened _ _, (opened _ _, tt)))))

pub stop_at_fits : (a b c d f : Text) → list_any is_misfit (a ∷ b ∷ c ∷ d ∷ f ∷ []) ≡ false → leaf_fault (leaf stop_at) (a ∷ b ∷ c ∷ d ∷ f ∷ []) ≡ []
unfolding clap_on_literals
stop_at_fits a b c d f fit = leaf_is (leaf stop_at) (a ∷ b ∷ c ∷ d ∷ f ∷ []) fit (stop_at_open a b c d f) ∙ refl

pub stop_at_k : (a b c d f : Text) → list_any is_misfit (a ∷ b ∷ c ∷ d ∷ f ∷ []) ≡ false → first_of (codes "K") (rows_after (leaf stop_at).rules [] (a ∷ b ∷ c ∷ d ∷ f ∷ [])) ≡ Some a
unfolding clap_on_literals
stop_at_k a b c d f fit = ap (first_of (codes "K")) (rows_are (leaf stop_at) (a ∷ b ∷ c ∷ d ∷ f ∷ []) fit (stop_at_open a b c d f)) ∙ refl

pub stop_at_fill : (a b c d f : Text) → list_any is_misfit (a ∷ b ∷ c ∷ d ∷ f ∷ []) ≡ false → first_of (codes "FILL") (rows_after (leaf stop_at).rules [] (a ∷ b ∷ c ∷ d ∷ f ∷ [])) ≡ Some b
unfolding clap_on_literals
stop_at_fill a b c d f fit = ap (first_of (codes "FILL")) (rows_are (leaf stop_at) (a ∷ b ∷ c ∷ d ∷ f ∷ []) fit (stop_at_open a b c d f)) ∙ refl

pub stop_at_image : (a b c d f : Text) → list_any is_misfit (a ∷ b ∷ c ∷ d ∷ f ∷ []) ≡ false → first_of (codes "IMAGE") (rows_after (leaf stop_at).rules [] (a ∷ b ∷ c ∷ d ∷ f ∷ [])) ≡ Some c
unfolding clap_on_literals
stop_at_image a b c d f fit = ap (first_of (codes "IMAGE")) (rows_are (leaf stop_at) (a ∷ b ∷ c ∷ d ∷ f ∷ []) fit (stop_at_open a b c d f)) ∙ refl

pub stop_at_script : (a b c d f : Text) → list_any is_misfit (a ∷ b ∷ c ∷ d ∷ f ∷ []) ≡ false → first_of (codes "SCRIPT") (rows_after (leaf stop_at).rules [] (a ∷ b ∷ c ∷ d ∷ f ∷ [])) ≡ Some d
unfolding clap_on_literals
stop_at_script a b c d f fit = ap (first_of (codes "SCRIPT")) (rows_are (leaf stop_at) (a ∷ b ∷ c ∷ d ∷ f ∷ []) fit (stop_at_open a b c d f)) ∙ refl

pub stop_at_out : (a b c d f : Text) → list_any is_misfit (a ∷ b ∷ c ∷ d ∷ f ∷ []) ≡ false → first_of (codes "OUT") (rows_after (leaf stop_at).rules [] (a ∷ b ∷ c ∷ d ∷ f ∷ [])) ≡ Some f
unfolding clap_on_literals
stop_at_out a b c d f fit = ap (first_of (codes "OUT")) (rows_are (leaf stop_at) (a ∷ b ∷ c ∷ d ∷ f ∷ []) fit (stop_at_open a b c d f)) ∙ refl

stop_at_0 : is_none (leaf_fault (leaf stop_at) []) ≡ false
unfolding clap_on_literals
stop_at_0 = refl

stop_at_1 : (a : Text) → list_any is_misfit (a ∷ []) ≡ false → is_none (leaf_fault (leaf stop_at) (a ∷ [])) ≡ false
unfolding clap_on_literals
stop_at_1 a fit = ap is_none (leaf_is (leaf stop_at) (a ∷ []) fit (opened _ _, tt)) ∙ refl

stop_at_2 : (a b : Text) → list_any is_misfit (a ∷ b ∷ []) ≡ false → is_none (leaf_fault (leaf stop_at) (a ∷ b ∷ [])) ≡ false
unfolding clap_on_literals
stop_at_2 a b fit = ap is_none (leaf_is (leaf stop_at) (a ∷ b ∷ []) fit (opened _ _, (opened _ _, tt))) ∙ refl

stop_at_3 : (a b c : Text) → list_any is_misfit (a ∷ b ∷ c ∷ []) ≡ false → is_none (leaf_fault (leaf stop_at) (a ∷ b ∷ c ∷ [])) ≡ false
unfolding clap_on_literals
stop_at_3 a b c fit = ap is_none (leaf_is (leaf stop_at) (a ∷ b ∷ c ∷ []) fit (opened _ _, (opened _ _, (opened _ _, tt)))) ∙ refl

stop_at_4 : (a b c d : Text) → list_any is_misfit (a ∷ b ∷ c ∷ d ∷ []) ≡ false → is_none (leaf_fault (leaf stop_at) (a ∷ b ∷ c ∷ d ∷ [])) ≡ false
unfolding clap_on_literals
stop_at_4 a b c d fit = ap is_none (leaf_is (leaf stop_at) (a ∷ b ∷ c ∷ d ∷ []) fit (opened _ _, (opened _ _, (opened _ _, (opened _ _, tt))))) ∙ refl

stop_at_more : (a b c d f g : Text) (more : List Text) → list_any is_misfit (a ∷ b ∷ c ∷ d ∷ f ∷ g ∷ more) ≡ false → is_none (leaf_fault (leaf stop_at) (a ∷ b ∷ c ∷ d ∷ f ∷ g ∷ more)) ≡ false
unfolding clap_on_literals
stop_at_more a b c d f g more fit =
    let front : list_any is_misfit (a ∷ b ∷ c ∷ d ∷ f ∷ g ∷ []) ≡ false = front_fits (a ∷ b ∷ c ∷ d ∷ f ∷ g ∷ []) more fit in
    let opens : OpenAlong (leaf stop_at).rules start (a ∷ b ∷ c ∷ d ∷ f ∷ g ∷ []) = (opened _ _, (opened _ _, (opened _ _, (opened _ _, (opened _ _, (opened _ _, tt)))))) in
    or_else_some (walk_fault (leaf stop_at) [] start (a ∷ b ∷ c ∷ d ∷ f ∷ g ∷ more)) _ (ap is_none (faults_along (leaf stop_at) start (a ∷ b ∷ c ∷ d ∷ f ∷ g ∷ []) more front opens) ∙ refl)

-- it takes 5 words
pub stop_at_words : (words : List Text) → list_any is_misfit words ≡ false → leaf_fault (leaf stop_at) words ≡ [] → (a : Text) × (b : Text) × (c : Text) × (d : Text) × (f : Text) × (words ≡ a ∷ b ∷ c ∷ d ∷ f ∷ [])
stop_at_words [] fit e = absurd (true≢false (sym (ap is_none e) ∙ stop_at_0))
stop_at_words (a ∷ []) fit e = absurd (true≢false (sym (ap is_none e) ∙ stop_at_1 a fit))
stop_at_words (a ∷ b ∷ []) fit e = absurd (true≢false (sym (ap is_none e) ∙ stop_at_2 a b fit))
stop_at_words (a ∷ b ∷ c ∷ []) fit e = absurd (true≢false (sym (ap is_none e) ∙ stop_at_3 a b c fit))
stop_at_words (a ∷ b ∷ c ∷ d ∷ []) fit e = absurd (true≢false (sym (ap is_none e) ∙ stop_at_4 a b c d fit))
stop_at_words (a ∷ b ∷ c ∷ d ∷ f ∷ []) fit e = (a, b, c, d, f, refl)
stop_at_words (a ∷ b ∷ c ∷ d ∷ f ∷ g ∷ more) fit e = absurd (true≢false (sym (ap is_none e) ∙ stop_at_more a b c d f g more fit))

-- ---- check

check_open : (a : Text) → OpenAlong (leaf check).rules start (a ∷ [])
check_open a = (opened _ _, tt)

pub check_fits : (a : Text) → list_any is_misfit (a ∷ []) ≡ false → leaf_fault (leaf check) (a ∷ []) ≡ []
unfolding clap_on_literals
check_fits a fit = leaf_is (leaf check) (a ∷ []) fit (check_open a) ∙ refl

pub check_image : (a : Text) → list_any is_misfit (a ∷ []) ≡ false → first_of (codes "IMAGE") (rows_after (leaf check).rules [] (a ∷ [])) ≡ Some a
unfolding clap_on_literals
check_image a fit = ap (first_of (codes "IMAGE")) (rows_are (leaf check) (a ∷ []) fit (check_open a)) ∙ refl

check_0 : is_none (leaf_fault (leaf check) []) ≡ false
unfolding clap_on_literals
check_0 = refl

check_more : (a d : Text) (more : List Text) → list_any is_misfit (a ∷ d ∷ more) ≡ false → is_none (leaf_fault (leaf check) (a ∷ d ∷ more)) ≡ false
unfolding clap_on_literals
check_more a d more fit =
    let front : list_any is_misfit (a ∷ d ∷ []) ≡ false = front_fits (a ∷ d ∷ []) more fit in
    let opens : OpenAlong (leaf check).rules start (a ∷ d ∷ []) = (opened _ _, (opened _ _, tt)) in
    or_else_some (walk_fault (leaf check) [] start (a ∷ d ∷ more)) _ (ap is_none (faults_along (leaf check) start (a ∷ d ∷ []) more front opens) ∙ refl)

-- it takes 1 word
pub check_words : (words : List Text) → list_any is_misfit words ≡ false → leaf_fault (leaf check) words ≡ [] → (a : Text) × (words ≡ a ∷ [])
check_words [] fit e = absurd (true≢false (sym (ap is_none e) ∙ check_0))
check_words (a ∷ []) fit e = (a, refl)
check_words (a ∷ d ∷ more) fit e = absurd (true≢false (sym (ap is_none e) ∙ check_more a d more fit))

-- ---- export

export_open : (a b : Text) → OpenAlong (leaf export).rules start (a ∷ b ∷ [])
export_open a b = (opened _ _, (opened _ _, tt))

pub export_fits : (a b : Text) → list_any is_misfit (a ∷ b ∷ []) ≡ false → leaf_fault (leaf export) (a ∷ b ∷ []) ≡ []
unfolding clap_on_literals
export_fits a b fit = leaf_is (leaf export) (a ∷ b ∷ []) fit (export_open a b) ∙ refl

pub export_image : (a b : Text) → list_any is_misfit (a ∷ b ∷ []) ≡ false → first_of (codes "IMAGE") (rows_after (leaf export).rules [] (a ∷ b ∷ [])) ≡ Some a
unfolding clap_on_literals
export_image a b fit = ap (first_of (codes "IMAGE")) (rows_are (leaf export) (a ∷ b ∷ []) fit (export_open a b)) ∙ refl

pub export_path : (a b : Text) → list_any is_misfit (a ∷ b ∷ []) ≡ false → first_of (codes "PATH") (rows_after (leaf export).rules [] (a ∷ b ∷ [])) ≡ Some b
unfolding clap_on_literals
export_path a b fit = ap (first_of (codes "PATH")) (rows_are (leaf export) (a ∷ b ∷ []) fit (export_open a b)) ∙ refl

export_0 : is_none (leaf_fault (leaf export) []) ≡ false
unfolding clap_on_literals
export_0 = refl

export_1 : (a : Text) → list_any is_misfit (a ∷ []) ≡ false → is_none (leaf_fault (leaf export) (a ∷ [])) ≡ false
unfolding clap_on_literals
export_1 a fit = ap is_none (leaf_is (leaf export) (a ∷ []) fit (opened _ _, tt)) ∙ refl

export_more : (a b d : Text) (more : List Text) → list_any is_misfit (a ∷ b ∷ d ∷ more) ≡ false → is_none (leaf_fault (leaf export) (a ∷ b ∷ d ∷ more)) ≡ false
unfolding clap_on_literals
export_more a b d more fit =
    let front : list_any is_misfit (a ∷ b ∷ d ∷ []) ≡ false = front_fits (a ∷ b ∷ d ∷ []) more fit in
    let opens : OpenAlong (leaf export).rules start (a ∷ b ∷ d ∷ []) = (opened _ _, (opened _ _, (opened _ _, tt))) in
    or_else_some (walk_fault (leaf export) [] start (a ∷ b ∷ d ∷ more)) _ (ap is_none (faults_along (leaf export) start (a ∷ b ∷ d ∷ []) more front opens) ∙ refl)

-- it takes 2 words
pub export_words : (words : List Text) → list_any is_misfit words ≡ false → leaf_fault (leaf export) words ≡ [] → (a : Text) × (b : Text) × (words ≡ a ∷ b ∷ [])
export_words [] fit e = absurd (true≢false (sym (ap is_none e) ∙ export_0))
export_words (a ∷ []) fit e = absurd (true≢false (sym (ap is_none e) ∙ export_1 a fit))
export_words (a ∷ b ∷ []) fit e = (a, b, refl)
export_words (a ∷ b ∷ d ∷ more) fit e = absurd (true≢false (sym (ap is_none e) ∙ export_more a b d more fit))

-- ---- import

import_open : (a b : Text) → OpenAlong (leaf import).rules start (a ∷ b ∷ [])
import_open a b = (opened _ _, (opened _ _, tt))

pub import_fits : (a b : Text) → list_any is_misfit (a ∷ b ∷ []) ≡ false → leaf_fault (leaf import) (a ∷ b ∷ []) ≡ []
unfolding clap_on_literals
import_fits a b fit = leaf_is (leaf import) (a ∷ b ∷ []) fit (import_open a b) ∙ refl

pub import_image : (a b : Text) → list_any is_misfit (a ∷ b ∷ []) ≡ false → first_of (codes "IMAGE") (rows_after (leaf import).rules [] (a ∷ b ∷ [])) ≡ Some a
unfolding clap_on_literals
import_image a b fit = ap (first_of (codes "IMAGE")) (rows_are (leaf import) (a ∷ b ∷ []) fit (import_open a b)) ∙ refl

pub import_path : (a b : Text) → list_any is_misfit (a ∷ b ∷ []) ≡ false → first_of (codes "PATH") (rows_after (leaf import).rules [] (a ∷ b ∷ [])) ≡ Some b
unfolding clap_on_literals
import_path a b fit = ap (first_of (codes "PATH")) (rows_are (leaf import) (a ∷ b ∷ []) fit (import_open a b)) ∙ refl

import_0 : is_none (leaf_fault (leaf import) []) ≡ false
unfolding clap_on_literals
import_0 = refl

import_1 : (a : Text) → list_any is_misfit (a ∷ []) ≡ false → is_none (leaf_fault (leaf import) (a ∷ [])) ≡ false
unfolding clap_on_literals
import_1 a fit = ap is_none (leaf_is (leaf import) (a ∷ []) fit (opened _ _, tt)) ∙ refl

import_more : (a b d : Text) (more : List Text) → list_any is_misfit (a ∷ b ∷ d ∷ more) ≡ false → is_none (leaf_fault (leaf import) (a ∷ b ∷ d ∷ more)) ≡ false
unfolding clap_on_literals
import_more a b d more fit =
    let front : list_any is_misfit (a ∷ b ∷ d ∷ []) ≡ false = front_fits (a ∷ b ∷ d ∷ []) more fit in
    let opens : OpenAlong (leaf import).rules start (a ∷ b ∷ d ∷ []) = (opened _ _, (opened _ _, (opened _ _, tt))) in
    or_else_some (walk_fault (leaf import) [] start (a ∷ b ∷ d ∷ more)) _ (ap is_none (faults_along (leaf import) start (a ∷ b ∷ d ∷ []) more front opens) ∙ refl)

-- it takes 2 words
pub import_words : (words : List Text) → list_any is_misfit words ≡ false → leaf_fault (leaf import) words ≡ [] → (a : Text) × (b : Text) × (words ≡ a ∷ b ∷ [])
import_words [] fit e = absurd (true≢false (sym (ap is_none e) ∙ import_0))
import_words (a ∷ []) fit e = absurd (true≢false (sym (ap is_none e) ∙ import_1 a fit))
import_words (a ∷ b ∷ []) fit e = (a, b, refl)
import_words (a ∷ b ∷ d ∷ more) fit e = absurd (true≢false (sym (ap is_none e) ∙ import_more a b d more fit))

-- ---- serve

serve_open : (a : Text) → OpenAlong (leaf serve).rules start (a ∷ [])
serve_open a = (opened _ _, tt)

serve_open_by : (a b : Text) → OpenAlong (leaf serve).rules start (a ∷ b ∷ [])
serve_open_by a b = (opened _ _, (opened _ _, tt))

pub serve_fits : (a : Text) → list_any is_misfit (a ∷ []) ≡ false → leaf_fault (leaf serve) (a ∷ []) ≡ []
unfolding clap_on_literals
serve_fits a fit = leaf_is (leaf serve) (a ∷ []) fit (serve_open a) ∙ refl

pub serve_by_fits : (a b : Text) → list_any is_misfit (a ∷ b ∷ []) ≡ false → leaf_fault (leaf serve) (a ∷ b ∷ []) ≡ []
unfolding clap_on_literals
serve_by_fits a b fit = leaf_is (leaf serve) (a ∷ b ∷ []) fit (serve_open_by a b) ∙ refl

pub serve_image : (a : Text) → list_any is_misfit (a ∷ []) ≡ false → first_of (codes "IMAGE") (rows_after (leaf serve).rules [] (a ∷ [])) ≡ Some a
unfolding clap_on_literals
serve_image a fit = ap (first_of (codes "IMAGE")) (rows_are (leaf serve) (a ∷ []) fit (serve_open a)) ∙ refl

pub serve_checker : (a : Text) → list_any is_misfit (a ∷ []) ≡ false → first_of (codes "CHECKER") (rows_after (leaf serve).rules [] (a ∷ [])) ≡ None
unfolding clap_on_literals
serve_checker a fit = ap (first_of (codes "CHECKER")) (rows_are (leaf serve) (a ∷ []) fit (serve_open a)) ∙ refl

pub serve_by_image : (a b : Text) → list_any is_misfit (a ∷ b ∷ []) ≡ false → first_of (codes "IMAGE") (rows_after (leaf serve).rules [] (a ∷ b ∷ [])) ≡ Some a
unfolding clap_on_literals
serve_by_image a b fit = ap (first_of (codes "IMAGE")) (rows_are (leaf serve) (a ∷ b ∷ []) fit (serve_open_by a b)) ∙ refl

pub serve_by_checker : (a b : Text) → list_any is_misfit (a ∷ b ∷ []) ≡ false → first_of (codes "CHECKER") (rows_after (leaf serve).rules [] (a ∷ b ∷ [])) ≡ Some b
unfolding clap_on_literals
serve_by_checker a b fit = ap (first_of (codes "CHECKER")) (rows_are (leaf serve) (a ∷ b ∷ []) fit (serve_open_by a b)) ∙ refl

serve_0 : is_none (leaf_fault (leaf serve) []) ≡ false
unfolding clap_on_literals
serve_0 = refl

serve_more : (a b d : Text) (more : List Text) → list_any is_misfit (a ∷ b ∷ d ∷ more) ≡ false → is_none (leaf_fault (leaf serve) (a ∷ b ∷ d ∷ more)) ≡ false
unfolding clap_on_literals
serve_more a b d more fit =
    let front : list_any is_misfit (a ∷ b ∷ d ∷ []) ≡ false = front_fits (a ∷ b ∷ d ∷ []) more fit in
    let opens : OpenAlong (leaf serve).rules start (a ∷ b ∷ d ∷ []) = (opened _ _, (opened _ _, (opened _ _, tt))) in
    or_else_some (walk_fault (leaf serve) [] start (a ∷ b ∷ d ∷ more)) _ (ap is_none (faults_along (leaf serve) start (a ∷ b ∷ d ∷ []) more front opens) ∙ refl)

-- it takes 1 word, or 2
pub serve_words : (words : List Text) → list_any is_misfit words ≡ false → leaf_fault (leaf serve) words ≡ []
    → ((a : Text) × (words ≡ a ∷ [])) ⊎ ((a : Text) × (b : Text) × (words ≡ a ∷ b ∷ []))
serve_words [] fit e = absurd (true≢false (sym (ap is_none e) ∙ serve_0))
serve_words (a ∷ []) fit e = inl (a, refl)
serve_words (a ∷ b ∷ []) fit e = inr (a, b, refl)
serve_words (a ∷ b ∷ d ∷ more) fit e = absurd (true≢false (sym (ap is_none e) ∙ serve_more a b d more fit))
