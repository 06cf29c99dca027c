-- The words of a command line ask for the task that `clap` finds in them.
use Rattle.std.proofs.Common.{◌≡◌, ◌∙◌, ◌⊎◌, Bool, true, false, inl, inr, refl, sym, ap, ap₂, subst, codes, List, [], ◌∷◌, Option, Some, None, true≢false}
use Rattle.std.specs.Prelude.{Box, decimal, is_some, option_map, unwrap_or}
use Rattle.std.specs.List.{list_any}
use Rattle.std.specs.Str.{bytes_eq}
use Rattle.std.specs.Box.{box_value}
use Rattle.std.proofs.lemmas.Slice.Eq.{bytes_eq-Decides}
use Rattle.clap.specs.Faults.{fault_of}
use Rattle.clap.specs.Kinds.{HasKind, Kinds}
use Rattle.clap.specs.Matches.{first_value, found_of}
use Rattle.clap.specs.Values.{kind_of}
use Rattle.clap.specs.Simple.{subcommand_of, subcommand_rows}
use Rattle.clap.specs.Walk.{Row, Text, rows_after, rows_of}
use Rattle.clap.specs.Words.{first_of}
use Rattle.clap.specs.declared.error.Error.{Error}
use Rattle.clap.specs.declared.error.kind.ErrorKind.TheVariants as kind
use Rattle.clap.specs.declared.parser.matches.ArgMatches.TheViews.{out-SubCommand}
use Rattle.clap.specs.declared.parser.matches.Found.{Found}
use Rattle.clap.proofs.WalkLemmas.{first_value-rows}
use Rattle.clap.specs.declared.parser.matches.SubCommand.{SubCommand}
use Rattle.sn_command.specs.Commands.{check, export, import, mkfs, run, serve, snapfs, stop_at}
use Rattle.sn_command.specs.Tasks.{AsksFor, IsRead, Spells, words_in}
use Rattle.sn_command.specs.Words.{is_misfit}
use Rattle.sn_command.specs.declared.command.Checker.TheVariants as checker
use Rattle.sn_command.specs.declared.command.Task.{Task}
use Rattle.sn_command.specs.declared.command.Task.TheVariants as task
use Rattle.sn_command.proofs.LeafLemmas.{is_none}
use Rattle.sn_command.proofs.Leaves.{check_fits, check_image, check_words, export_fits, export_image, export_path, export_words, import_fits, import_image, import_path, import_words, leaf, mkfs_blocks, mkfs_fits, mkfs_image, mkfs_words, run_fits, run_image, run_script, run_words, serve_by_checker, serve_by_fits, serve_by_image, serve_checker, serve_fits, serve_image, serve_words, stop_at_fill, stop_at_fits, stop_at_image, stop_at_k, stop_at_out, stop_at_script, stop_at_words}
use Rattle.sn_command.proofs.TopLemmas.{check_entered, check_faults, export_entered, export_faults, import_entered, import_faults, mkfs_entered, mkfs_faults, none_faults, run_entered, run_faults, serve_entered, serve_faults, stop_at_entered, stop_at_faults, unknown, unknown_faults}
use Rattle.sn_command.proofs.WalkLemmas.{first_fits, others_fit}

abbrev text_or_none : Option Text → Text
text_or_none o = unwrap_or o []

same_text : (a b : Text) → Some a ≡ Some b → a ≡ b
same_text a b e = ap text_or_none e

-- ---- what the words are, where they are without fault

abbrev IsMkfs : List Text → Type 0
IsMkfs words = (a : Text) × (b : Text) × (words ≡ codes "mkfs" ∷ a ∷ b ∷ [])

abbrev IsRun : List Text → Type 0
IsRun words = (a : Text) × (b : Text) × (words ≡ codes "run" ∷ a ∷ b ∷ [])

abbrev IsStopAt : List Text → Type 0
IsStopAt words = (a : Text) × (b : Text) × (c : Text) × (d : Text) × (f : Text) × (words ≡ codes "stop-at" ∷ a ∷ b ∷ c ∷ d ∷ f ∷ [])

abbrev IsCheck : List Text → Type 0
IsCheck words = (a : Text) × (words ≡ codes "check" ∷ a ∷ [])

abbrev IsExport : List Text → Type 0
IsExport words = (a : Text) × (b : Text) × (words ≡ codes "export" ∷ a ∷ b ∷ [])

abbrev IsImport : List Text → Type 0
IsImport words = (a : Text) × (b : Text) × (words ≡ codes "import" ∷ a ∷ b ∷ [])

abbrev IsServe : List Text → Type 0
IsServe words = (a : Text) × (words ≡ codes "serve" ∷ a ∷ [])

abbrev IsServeBy : List Text → Type 0
IsServeBy words = (a : Text) × (b : Text) × (words ≡ codes "serve" ∷ a ∷ b ∷ [])

abbrev IsParsed : List Text → Type 0
IsParsed words = IsMkfs words ⊎ (IsRun words ⊎ (IsStopAt words ⊎ (IsCheck words ⊎ (IsExport words ⊎ (IsImport words ⊎ (IsServe words ⊎ IsServeBy words))))))

serves : (word : Text) (words : List Text) → codes "serve" ≡ word → ((a : Text) × (words ≡ a ∷ [])) ⊎ ((a : Text) × (b : Text) × (words ≡ a ∷ b ∷ [])) → IsServe (word ∷ words) ⊎ IsServeBy (word ∷ words)
serves word words is (inl found) = inl (found.0, ap₂ (λ w ws. w ∷ ws) (sym is) found.1)
serves word words is (inr found) = inr (found.0, found.1, ap₂ (λ w ws. w ∷ ws) (sym is) found.2)

named : (word : Text) (words : List Text) → list_any is_misfit (word ∷ words) ≡ false → fault_of snapfs (word ∷ words) ≡ []
    → (b c d e g h k : Bool) → bytes_eq (codes "mkfs") word ≡ b → bytes_eq (codes "run") word ≡ c → bytes_eq (codes "stop-at") word ≡ d → bytes_eq (codes "check") word ≡ e → bytes_eq (codes "export") word ≡ g → bytes_eq (codes "import") word ≡ h → bytes_eq (codes "serve") word ≡ k → IsParsed (word ∷ words)
named word words fit faultless true c d e g h k one two three four five six seven =
    let is : codes "mkfs" ≡ word = (bytes_eq-Decides (codes "mkfs") word).0 one in
    let faults : fault_of snapfs (codes "mkfs" ∷ words) ≡ [] = ap (λ w. fault_of snapfs (w ∷ words)) is ∙ faultless in
    let found = mkfs_words words (others_fit word words fit) (sym (mkfs_faults words) ∙ faults) in
    inl (found.0, found.1, ap₂ (λ w ws. w ∷ ws) (sym is) found.2)
named word words fit faultless false true d e g h k one two three four five six seven =
    let is : codes "run" ≡ word = (bytes_eq-Decides (codes "run") word).0 two in
    let faults : fault_of snapfs (codes "run" ∷ words) ≡ [] = ap (λ w. fault_of snapfs (w ∷ words)) is ∙ faultless in
    let found = run_words words (others_fit word words fit) (sym (run_faults words) ∙ faults) in
    inr (inl (found.0, found.1, ap₂ (λ w ws. w ∷ ws) (sym is) found.2))
named word words fit faultless false false true e g h k one two three four five six seven =
    let is : codes "stop-at" ≡ word = (bytes_eq-Decides (codes "stop-at") word).0 three in
    let faults : fault_of snapfs (codes "stop-at" ∷ words) ≡ [] = ap (λ w. fault_of snapfs (w ∷ words)) is ∙ faultless in
    let found = stop_at_words words (others_fit word words fit) (sym (stop_at_faults words) ∙ faults) in
    inr (inr (inl (found.0, found.1, found.2, found.3, found.4, ap₂ (λ w ws. w ∷ ws) (sym is) found.5)))
named word words fit faultless false false false true g h k one two three four five six seven =
    let is : codes "check" ≡ word = (bytes_eq-Decides (codes "check") word).0 four in
    let faults : fault_of snapfs (codes "check" ∷ words) ≡ [] = ap (λ w. fault_of snapfs (w ∷ words)) is ∙ faultless in
    let found = check_words words (others_fit word words fit) (sym (check_faults words) ∙ faults) in
    inr (inr (inr (inl (found.0, ap₂ (λ w ws. w ∷ ws) (sym is) found.1))))
named word words fit faultless false false false false true h k one two three four five six seven =
    let is : codes "export" ≡ word = (bytes_eq-Decides (codes "export") word).0 five in
    let faults : fault_of snapfs (codes "export" ∷ words) ≡ [] = ap (λ w. fault_of snapfs (w ∷ words)) is ∙ faultless in
    let found = export_words words (others_fit word words fit) (sym (export_faults words) ∙ faults) in
    inr (inr (inr (inr (inl (found.0, found.1, ap₂ (λ w ws. w ∷ ws) (sym is) found.2)))))
named word words fit faultless false false false false false true k one two three four five six seven =
    let is : codes "import" ≡ word = (bytes_eq-Decides (codes "import") word).0 six in
    let faults : fault_of snapfs (codes "import" ∷ words) ≡ [] = ap (λ w. fault_of snapfs (w ∷ words)) is ∙ faultless in
    let found = import_words words (others_fit word words fit) (sym (import_faults words) ∙ faults) in
    inr (inr (inr (inr (inr (inl (found.0, found.1, ap₂ (λ w ws. w ∷ ws) (sym is) found.2))))))
named word words fit faultless false false false false false false true one two three four five six seven =
    let is : codes "serve" ≡ word = (bytes_eq-Decides (codes "serve") word).0 seven in
    let faults : fault_of snapfs (codes "serve" ∷ words) ≡ [] = ap (λ w. fault_of snapfs (w ∷ words)) is ∙ faultless in
    inr (inr (inr (inr (inr (inr (serves word words is (serve_words words (others_fit word words fit) (sym (serve_faults words) ∙ faults))))))))
named word words fit faultless false false false false false false false one two three four five six seven =
    let other : (name : Text) → bytes_eq name word ≡ false → name ≡ word → ⊥ =
    λ name e is. true≢false (sym ((bytes_eq-Decides name word).1 is) ∙ e) in
    let none = unknown word (other (codes "mkfs") one) (other (codes "run") two) (other (codes "stop-at") three) (other (codes "check") four) (other (codes "export") five) (other (codes "import") six) (other (codes "serve") seven) in
    absurd (true≢false (sym (ap is_none faultless) ∙ unknown_faults word words (first_fits word words fit) none))

pub parsed : (words : List Text) → list_any is_misfit words ≡ false → fault_of snapfs words ≡ [] → IsParsed words
parsed [] fit faultless = absurd (true≢false (sym (ap is_none faultless) ∙ none_faults))
parsed (word ∷ words) fit faultless = named word words fit faultless _ _ _ _ _ _ _ refl refl refl refl refl refl refl

-- ---- a task that is read is spelled so

abbrev pub read_of : List Row → Text → Option Text
read_of rows id = first_of id rows

mkfs_spelled : (a b : Text) → list_any is_misfit (a ∷ b ∷ []) ≡ false → (asked : Task) → IsRead (codes "mkfs") (read_of (rows_after (leaf mkfs).rules [] (a ∷ b ∷ []))) asked
    → Spells (codes "mkfs" ∷ a ∷ b ∷ []) asked
mkfs_spelled a b fit (task.Mkfs image blocks) h =
    let one : a ≡ image.now = same_text a image.now (sym (mkfs_image a b fit) ∙ h.1) in
    let two : b ≡ decimal blocks = same_text b (decimal blocks) (sym (mkfs_blocks a b fit) ∙ h.2) in
    (ap₂ (λ x y. codes "mkfs" ∷ x ∷ y ∷ []) one two, h.3)
mkfs_spelled a b fit (task.Run image script) h = absurd (true≢false (ap (bytes_eq (codes "mkfs")) h.0))
mkfs_spelled a b fit (task.StopAt cut how image script out) h = absurd (true≢false (ap (bytes_eq (codes "mkfs")) h.0))
mkfs_spelled a b fit (task.Check image) h = absurd (true≢false (ap (bytes_eq (codes "mkfs")) h.0))
mkfs_spelled a b fit (task.Export image path) h = absurd (true≢false (ap (bytes_eq (codes "mkfs")) h.0))
mkfs_spelled a b fit (task.Import image path) h = absurd (true≢false (ap (bytes_eq (codes "mkfs")) h.0))
mkfs_spelled a b fit (task.Serve image by) h = absurd (true≢false (ap (bytes_eq (codes "mkfs")) h.0))

run_spelled : (a b : Text) → list_any is_misfit (a ∷ b ∷ []) ≡ false → (asked : Task) → IsRead (codes "run") (read_of (rows_after (leaf run).rules [] (a ∷ b ∷ []))) asked
    → Spells (codes "run" ∷ a ∷ b ∷ []) asked
run_spelled a b fit (task.Mkfs image blocks) h = absurd (true≢false (ap (bytes_eq (codes "run")) h.0))
run_spelled a b fit (task.Run image script) h =
    let one : a ≡ image.now = same_text a image.now (sym (run_image a b fit) ∙ h.1) in
    let two : b ≡ script.now = same_text b script.now (sym (run_script a b fit) ∙ h.2) in
    ap₂ (λ x y. codes "run" ∷ x ∷ y ∷ []) one two
run_spelled a b fit (task.StopAt cut how image script out) h = absurd (true≢false (ap (bytes_eq (codes "run")) h.0))
run_spelled a b fit (task.Check image) h = absurd (true≢false (ap (bytes_eq (codes "run")) h.0))
run_spelled a b fit (task.Export image path) h = absurd (true≢false (ap (bytes_eq (codes "run")) h.0))
run_spelled a b fit (task.Import image path) h = absurd (true≢false (ap (bytes_eq (codes "run")) h.0))
run_spelled a b fit (task.Serve image by) h = absurd (true≢false (ap (bytes_eq (codes "run")) h.0))

stop_at_spelled : (a b c d f : Text) → list_any is_misfit (a ∷ b ∷ c ∷ d ∷ f ∷ []) ≡ false → (asked : Task)
    → IsRead (codes "stop-at") (read_of (rows_after (leaf stop_at).rules [] (a ∷ b ∷ c ∷ d ∷ f ∷ []))) asked → Spells (codes "stop-at" ∷ a ∷ b ∷ c ∷ d ∷ f ∷ []) asked
stop_at_spelled a b c d f fit (task.Mkfs image blocks) h = absurd (true≢false (ap (bytes_eq (codes "stop-at")) h.0))
stop_at_spelled a b c d f fit (task.Run image script) h = absurd (true≢false (ap (bytes_eq (codes "stop-at")) h.0))
stop_at_spelled a b c d f fit (task.StopAt cut how image script out) h =
    let fill = h.3 in
    let one : a ≡ decimal cut = same_text a (decimal cut) (sym (stop_at_k a b c d f fit) ∙ h.1) in
    let two : b ≡ fill.0 = same_text b fill.0 (sym (stop_at_fill a b c d f fit) ∙ fill.2) in
    let three : c ≡ image.now = same_text c image.now (sym (stop_at_image a b c d f fit) ∙ h.4) in
    let four : d ≡ script.now = same_text d script.now (sym (stop_at_script a b c d f fit) ∙ h.5) in
    let five : f ≡ out.now = same_text f out.now (sym (stop_at_out a b c d f fit) ∙ h.6) in
    let words : codes "stop-at" ∷ a ∷ b ∷ c ∷ d ∷ f ∷ [] ≡ codes "stop-at" ∷ decimal cut ∷ fill.0 ∷ image.now ∷ script.now ∷ out.now ∷ [] =
    λ i. codes "stop-at" ∷ one i ∷ two i ∷ three i ∷ four i ∷ five i ∷ [] in
    (fill.0, fill.1, words, h.2)
stop_at_spelled a b c d f fit (task.Check image) h = absurd (true≢false (ap (bytes_eq (codes "stop-at")) h.0))
stop_at_spelled a b c d f fit (task.Export image path) h = absurd (true≢false (ap (bytes_eq (codes "stop-at")) h.0))
stop_at_spelled a b c d f fit (task.Import image path) h = absurd (true≢false (ap (bytes_eq (codes "stop-at")) h.0))
stop_at_spelled a b c d f fit (task.Serve image by) h = absurd (true≢false (ap (bytes_eq (codes "stop-at")) h.0))

check_spelled : (a : Text) → list_any is_misfit (a ∷ []) ≡ false → (asked : Task) → IsRead (codes "check") (read_of (rows_after (leaf check).rules [] (a ∷ []))) asked → Spells (codes "check" ∷ a ∷ []) asked
check_spelled a fit (task.Mkfs image blocks) h = absurd (true≢false (ap (bytes_eq (codes "check")) h.0))
check_spelled a fit (task.Run image script) h = absurd (true≢false (ap (bytes_eq (codes "check")) h.0))
check_spelled a fit (task.StopAt cut how image script out) h = absurd (true≢false (ap (bytes_eq (codes "check")) h.0))
check_spelled a fit (task.Check image) h =
    let one : a ≡ image.now = same_text a image.now (sym (check_image a fit) ∙ h.1) in
    ap (λ x. codes "check" ∷ x ∷ []) one
check_spelled a fit (task.Export image path) h = absurd (true≢false (ap (bytes_eq (codes "check")) h.0))
check_spelled a fit (task.Import image path) h = absurd (true≢false (ap (bytes_eq (codes "check")) h.0))
check_spelled a fit (task.Serve image by) h = absurd (true≢false (ap (bytes_eq (codes "check")) h.0))

export_spelled : (a b : Text) → list_any is_misfit (a ∷ b ∷ []) ≡ false → (asked : Task) → IsRead (codes "export") (read_of (rows_after (leaf export).rules [] (a ∷ b ∷ []))) asked
    → Spells (codes "export" ∷ a ∷ b ∷ []) asked
export_spelled a b fit (task.Mkfs image blocks) h = absurd (true≢false (ap (bytes_eq (codes "export")) h.0))
export_spelled a b fit (task.Run image script) h = absurd (true≢false (ap (bytes_eq (codes "export")) h.0))
export_spelled a b fit (task.StopAt cut how image script out) h = absurd (true≢false (ap (bytes_eq (codes "export")) h.0))
export_spelled a b fit (task.Check image) h = absurd (true≢false (ap (bytes_eq (codes "export")) h.0))
export_spelled a b fit (task.Export image path) h =
    let one : a ≡ image.now = same_text a image.now (sym (export_image a b fit) ∙ h.1) in
    let two : b ≡ path.now = same_text b path.now (sym (export_path a b fit) ∙ h.2) in
    ap₂ (λ x y. codes "export" ∷ x ∷ y ∷ []) one two
export_spelled a b fit (task.Import image path) h = absurd (true≢false (ap (bytes_eq (codes "export")) h.0))
export_spelled a b fit (task.Serve image by) h = absurd (true≢false (ap (bytes_eq (codes "export")) h.0))

import_spelled : (a b : Text) → list_any is_misfit (a ∷ b ∷ []) ≡ false → (asked : Task) → IsRead (codes "import") (read_of (rows_after (leaf import).rules [] (a ∷ b ∷ []))) asked
    → Spells (codes "import" ∷ a ∷ b ∷ []) asked
import_spelled a b fit (task.Mkfs image blocks) h = absurd (true≢false (ap (bytes_eq (codes "import")) h.0))
import_spelled a b fit (task.Run image script) h = absurd (true≢false (ap (bytes_eq (codes "import")) h.0))
import_spelled a b fit (task.StopAt cut how image script out) h = absurd (true≢false (ap (bytes_eq (codes "import")) h.0))
import_spelled a b fit (task.Check image) h = absurd (true≢false (ap (bytes_eq (codes "import")) h.0))
import_spelled a b fit (task.Export image path) h = absurd (true≢false (ap (bytes_eq (codes "import")) h.0))
import_spelled a b fit (task.Import image path) h =
    let one : a ≡ image.now = same_text a image.now (sym (import_image a b fit) ∙ h.1) in
    let two : b ≡ path.now = same_text b path.now (sym (import_path a b fit) ∙ h.2) in
    ap₂ (λ x y. codes "import" ∷ x ∷ y ∷ []) one two
import_spelled a b fit (task.Serve image by) h = absurd (true≢false (ap (bytes_eq (codes "import")) h.0))

serve_spelled : (a : Text) → list_any is_misfit (a ∷ []) ≡ false → (asked : Task) → IsRead (codes "serve") (read_of (rows_after (leaf serve).rules [] (a ∷ []))) asked → Spells (codes "serve" ∷ a ∷ []) asked
serve_spelled a fit (task.Mkfs image blocks) h = absurd (true≢false (ap (bytes_eq (codes "serve")) h.0))
serve_spelled a fit (task.Run image script) h = absurd (true≢false (ap (bytes_eq (codes "serve")) h.0))
serve_spelled a fit (task.StopAt cut how image script out) h = absurd (true≢false (ap (bytes_eq (codes "serve")) h.0))
serve_spelled a fit (task.Check image) h = absurd (true≢false (ap (bytes_eq (codes "serve")) h.0))
serve_spelled a fit (task.Export image path) h = absurd (true≢false (ap (bytes_eq (codes "serve")) h.0))
serve_spelled a fit (task.Import image path) h = absurd (true≢false (ap (bytes_eq (codes "serve")) h.0))
serve_spelled a fit (task.Serve image by) h =
    let one : a ≡ image.now = same_text a image.now (sym (serve_image a fit) ∙ h.1) in
    ap₂ (λ x (o : Option Text). codes "serve" ∷ x ∷ words_in o) one (sym (serve_checker a fit) ∙ h.2)

serve_by_spelled : (a b : Text) → list_any is_misfit (a ∷ b ∷ []) ≡ false → (asked : Task) → IsRead (codes "serve") (read_of (rows_after (leaf serve).rules [] (a ∷ b ∷ []))) asked
    → Spells (codes "serve" ∷ a ∷ b ∷ []) asked
serve_by_spelled a b fit (task.Mkfs image blocks) h = absurd (true≢false (ap (bytes_eq (codes "serve")) h.0))
serve_by_spelled a b fit (task.Run image script) h = absurd (true≢false (ap (bytes_eq (codes "serve")) h.0))
serve_by_spelled a b fit (task.StopAt cut how image script out) h = absurd (true≢false (ap (bytes_eq (codes "serve")) h.0))
serve_by_spelled a b fit (task.Check image) h = absurd (true≢false (ap (bytes_eq (codes "serve")) h.0))
serve_by_spelled a b fit (task.Export image path) h = absurd (true≢false (ap (bytes_eq (codes "serve")) h.0))
serve_by_spelled a b fit (task.Import image path) h = absurd (true≢false (ap (bytes_eq (codes "serve")) h.0))
serve_by_spelled a b fit (task.Serve image by) h =
    let one : a ≡ image.now = same_text a image.now (sym (serve_by_image a b fit) ∙ h.1) in
    ap₂ (λ x (o : Option Text). codes "serve" ∷ x ∷ words_in o) one (sym (serve_by_checker a b fit) ∙ h.2)

abbrev pair_or : Text × List Row → Option (Text × List Row) → Text × List Row
pair_or d o = unwrap_or o d

same_pair : (p q : Text × List Row) → Some p ≡ Some q → p ≡ q
same_pair p q e = ap (pair_or p) e

abbrev SpelledAs : List Text → Text × List Row → Type 0
SpelledAs words p = (asked : Task) → IsRead p.0 (read_of p.1) asked → Spells words asked

-- at the words of a command
at : (words : List Text) (p q : Text × List Row) → subcommand_of snapfs words ≡ Some p → subcommand_of snapfs words ≡ Some q → SpelledAs words p → SpelledAs words q
at words p q e f h = subst (SpelledAs words) (same_pair p q (sym e ∙ f)) h

pub spelled : (words : List Text) → list_any is_misfit words ≡ false → fault_of snapfs words ≡ [] → (p : Text × List Row) → subcommand_of snapfs words ≡ Some p
    → SpelledAs words p
spelled words fit faultless p met = elim (parsed words fit faultless) [
  | inl h ↦ subst (λ ws. list_any is_misfit ws ≡ false → subcommand_of snapfs ws ≡ Some p → SpelledAs ws p) (sym h.2)
      (λ f e. at (codes "mkfs" ∷ h.0 ∷ h.1 ∷ []) _ p (mkfs_entered (h.0 ∷ h.1 ∷ [])) e (mkfs_spelled h.0 h.1 (others_fit (codes "mkfs") (h.0 ∷ h.1 ∷ []) f))) fit met
  | inr (inl h) ↦ subst (λ ws. list_any is_misfit ws ≡ false → subcommand_of snapfs ws ≡ Some p → SpelledAs ws p) (sym h.2)
      (λ f e. at (codes "run" ∷ h.0 ∷ h.1 ∷ []) _ p (run_entered (h.0 ∷ h.1 ∷ [])) e (run_spelled h.0 h.1 (others_fit (codes "run") (h.0 ∷ h.1 ∷ []) f))) fit met
  | inr (inr (inl h)) ↦ subst (λ ws. list_any is_misfit ws ≡ false → subcommand_of snapfs ws ≡ Some p → SpelledAs ws p) (sym h.5)
      (λ f e. at (codes "stop-at" ∷ h.0 ∷ h.1 ∷ h.2 ∷ h.3 ∷ h.4 ∷ []) _ p (stop_at_entered (h.0 ∷ h.1 ∷ h.2 ∷ h.3 ∷ h.4 ∷ [])) e
      (stop_at_spelled h.0 h.1 h.2 h.3 h.4 (others_fit (codes "stop-at") (h.0 ∷ h.1 ∷ h.2 ∷ h.3 ∷ h.4 ∷ []) f))) fit met
  | inr (inr (inr (inl h))) ↦ subst (λ ws. list_any is_misfit ws ≡ false → subcommand_of snapfs ws ≡ Some p → SpelledAs ws p) (sym h.1)
      (λ f e. at (codes "check" ∷ h.0 ∷ []) _ p (check_entered (h.0 ∷ [])) e (check_spelled h.0 (others_fit (codes "check") (h.0 ∷ []) f))) fit met
  | inr (inr (inr (inr (inl h)))) ↦ subst (λ ws. list_any is_misfit ws ≡ false → subcommand_of snapfs ws ≡ Some p → SpelledAs ws p) (sym h.2)
      (λ f e. at (codes "export" ∷ h.0 ∷ h.1 ∷ []) _ p (export_entered (h.0 ∷ h.1 ∷ [])) e (export_spelled h.0 h.1 (others_fit (codes "export") (h.0 ∷ h.1 ∷ []) f))) fit met
  | inr (inr (inr (inr (inr (inl h))))) ↦ subst (λ ws. list_any is_misfit ws ≡ false → subcommand_of snapfs ws ≡ Some p → SpelledAs ws p) (sym h.2)
      (λ f e. at (codes "import" ∷ h.0 ∷ h.1 ∷ []) _ p (import_entered (h.0 ∷ h.1 ∷ [])) e (import_spelled h.0 h.1 (others_fit (codes "import") (h.0 ∷ h.1 ∷ []) f))) fit met
  | inr (inr (inr (inr (inr (inr (inl h)))))) ↦ subst (λ ws. list_any is_misfit ws ≡ false → subcommand_of snapfs ws ≡ Some p → SpelledAs ws p) (sym h.1)
      (λ f e. at (codes "serve" ∷ h.0 ∷ []) _ p (serve_entered (h.0 ∷ [])) e (serve_spelled h.0 (others_fit (codes "serve") (h.0 ∷ []) f))) fit met
  | inr (inr (inr (inr (inr (inr (inr h)))))) ↦ subst (λ ws. list_any is_misfit ws ≡ false → subcommand_of snapfs ws ≡ Some p → SpelledAs ws p) (sym h.2)
      (λ f e. at (codes "serve" ∷ h.0 ∷ h.1 ∷ []) _ p (serve_entered (h.0 ∷ h.1 ∷ [])) e (serve_by_spelled h.0 h.1 (others_fit (codes "serve") (h.0 ∷ h.1 ∷ []) f))) fit met
]

-- ---- what words ask for is found in them

pub record IsFound (words : List Text) (asked : Task) : Type 0 where
  pub faultless : fault_of snapfs words ≡ []
  pub name : Text
  pub rows : List Row
  pub met : subcommand_of snapfs words ≡ Some (name, rows)
  pub read : IsRead name (read_of rows) asked

spells_found : (words : List Text) (asked : Task) → list_any is_misfit words ≡ false → Spells words asked → IsFound words asked
spells_found words (task.Mkfs image blocks) fit h = subst (λ ws. list_any is_misfit ws ≡ false → IsFound ws (task.Mkfs image blocks)) (sym h.0) (λ all.
    let a = image.now in
    let b = decimal blocks in
    let f : list_any is_misfit (a ∷ b ∷ []) ≡ false = others_fit (codes "mkfs") (a ∷ b ∷ []) all in
    record {
      faultless = mkfs_faults (a ∷ b ∷ []) ∙ mkfs_fits a b f;
      name = codes "mkfs";
      rows = rows_after (leaf mkfs).rules [] (a ∷ b ∷ []);
      met = mkfs_entered (a ∷ b ∷ []);
      read = (refl, mkfs_image a b f, mkfs_blocks a b f, h.1);
    }) fit
spells_found words (task.Run image script) fit h = subst (λ ws. list_any is_misfit ws ≡ false → IsFound ws (task.Run image script)) (sym h) (λ all.
    let a = image.now in
    let b = script.now in
    let f : list_any is_misfit (a ∷ b ∷ []) ≡ false = others_fit (codes "run") (a ∷ b ∷ []) all in
    record {
      faultless = run_faults (a ∷ b ∷ []) ∙ run_fits a b f;
      name = codes "run";
      rows = rows_after (leaf run).rules [] (a ∷ b ∷ []);
      met = run_entered (a ∷ b ∷ []);
      read = (refl, run_image a b f, run_script a b f);
    }) fit
spells_found words (task.StopAt cut how image script out) fit h = subst (λ ws. list_any is_misfit ws ≡ false → IsFound ws (task.StopAt cut how image script out)) (sym h.2) (λ all.
    let a = decimal cut in
    let b = h.0 in
    let c = image.now in
    let d = script.now in
    let e = out.now in
    let f : list_any is_misfit (a ∷ b ∷ c ∷ d ∷ e ∷ []) ≡ false = others_fit (codes "stop-at") (a ∷ b ∷ c ∷ d ∷ e ∷ []) all in
    record {
      faultless = stop_at_faults (a ∷ b ∷ c ∷ d ∷ e ∷ []) ∙ stop_at_fits a b c d e f;
      name = codes "stop-at";
      rows = rows_after (leaf stop_at).rules [] (a ∷ b ∷ c ∷ d ∷ e ∷ []);
      met = stop_at_entered (a ∷ b ∷ c ∷ d ∷ e ∷ []);
      read = (refl, stop_at_k a b c d e f, h.3, (b, h.1, stop_at_fill a b c d e f), stop_at_image a b c d e f, stop_at_script a b c d e f, stop_at_out a b c d e f);
    }) fit
spells_found words (task.Check image) fit h = subst (λ ws. list_any is_misfit ws ≡ false → IsFound ws (task.Check image)) (sym h) (λ all.
    let a = image.now in
    let f : list_any is_misfit (a ∷ []) ≡ false = others_fit (codes "check") (a ∷ []) all in
    record {
      faultless = check_faults (a ∷ []) ∙ check_fits a f;
      name = codes "check";
      rows = rows_after (leaf check).rules [] (a ∷ []);
      met = check_entered (a ∷ []);
      read = (refl, check_image a f);
    }) fit
spells_found words (task.Export image path) fit h = subst (λ ws. list_any is_misfit ws ≡ false → IsFound ws (task.Export image path)) (sym h) (λ all.
    let a = image.now in
    let b = path.now in
    let f : list_any is_misfit (a ∷ b ∷ []) ≡ false = others_fit (codes "export") (a ∷ b ∷ []) all in
    record {
      faultless = export_faults (a ∷ b ∷ []) ∙ export_fits a b f;
      name = codes "export";
      rows = rows_after (leaf export).rules [] (a ∷ b ∷ []);
      met = export_entered (a ∷ b ∷ []);
      read = (refl, export_image a b f, export_path a b f);
    }) fit
spells_found words (task.Import image path) fit h = subst (λ ws. list_any is_misfit ws ≡ false → IsFound ws (task.Import image path)) (sym h) (λ all.
    let a = image.now in
    let b = path.now in
    let f : list_any is_misfit (a ∷ b ∷ []) ≡ false = others_fit (codes "import") (a ∷ b ∷ []) all in
    record {
      faultless = import_faults (a ∷ b ∷ []) ∙ import_fits a b f;
      name = codes "import";
      rows = rows_after (leaf import).rules [] (a ∷ b ∷ []);
      met = import_entered (a ∷ b ∷ []);
      read = (refl, import_image a b f, import_path a b f);
    }) fit
spells_found words (task.Serve image checker.Program) fit h = subst (λ ws. list_any is_misfit ws ≡ false → IsFound ws (task.Serve image checker.Program)) (sym h) (λ all.
    let a = image.now in
    let f : list_any is_misfit (a ∷ []) ≡ false = others_fit (codes "serve") (a ∷ []) all in
    record {
      faultless = serve_faults (a ∷ []) ∙ serve_fits a f;
      name = codes "serve";
      rows = rows_after (leaf serve).rules [] (a ∷ []);
      met = serve_entered (a ∷ []);
      read = (refl, serve_image a f, serve_checker a f);
    }) fit
spells_found words (task.Serve image checker.Kernel) fit h = subst (λ ws. list_any is_misfit ws ≡ false → IsFound ws (task.Serve image checker.Kernel)) (sym h) (λ all.
    let a = image.now in
    let b = codes "kernel" in
    let f : list_any is_misfit (a ∷ b ∷ []) ≡ false = others_fit (codes "serve") (a ∷ b ∷ []) all in
    record {
      faultless = serve_faults (a ∷ b ∷ []) ∙ serve_by_fits a b f;
      name = codes "serve";
      rows = rows_after (leaf serve).rules [] (a ∷ b ∷ []);
      met = serve_entered (a ∷ b ∷ []);
      read = (refl, serve_by_image a b f, serve_by_checker a b f);
    }) fit

pub found : (words : List Text) (asked : Task) → AsksFor words asked → IsFound words asked
found words asked h = spells_found words asked h.0 h.1

-- ---- the matches of a parse

pub memory_kind : (kinds : Kinds) (e : Error) → kinds ≡ [] → HasKind kinds e → kind_of e ≡ kind.OutOfMemory
memory_kind [] e none (inl h) = h
memory_kind [] e none (inr h) = absurd h
memory_kind (k ∷ ks) e none h = absurd (true≢false (sym (ap is_none none)))

-- values by the rows
pub reads_rows : (f : Found) (name : Text) (asked : Task) → IsRead name (first_value f) asked → IsRead name (read_of (rows_of f)) asked
reads_rows f name asked h = subst (λ (read : Text → Option Text). IsRead name read asked) (λ i id. first_value-rows f id i) h

pub reads_values : (f : Found) (name : Text) (asked : Task) → IsRead name (read_of (rows_of f)) asked → IsRead name (first_value f) asked
reads_values f name asked h = subst (λ (read : Text → Option Text). IsRead name read asked) (λ i id. sym (first_value-rows f id) i) h

pub found_at : (words : List Text) (asked : Task) (name : Text) (rows : List Row) → IsFound words asked → subcommand_of snapfs words ≡ Some (name, rows)
    → IsRead name (read_of rows) asked
found_at words asked name rows f met =
    subst (λ (p : Text × List Row). IsRead p.0 (read_of p.1) asked) (same_pair (f.name, f.rows) (name, rows) (sym f.met ∙ met)) f.read

module _ {Z : Type 0} where
  pub subcommand_is : (o : Option (Box SubCommand Z)) (name : Text) (rows : List Row) → Some name ≡ option_map (λ b. (out-SubCommand (box_value b)).name.now) o
      → Some rows ≡ option_map (λ (p : Text × List Row). p.1) (subcommand_rows o) → subcommand_rows o ≡ Some (name, rows)
  subcommand_is None name rows e f = absurd (true≢false (ap is_some e))
  subcommand_is (Some b) name rows e f =
      let one : name ≡ (out-SubCommand (box_value b)).name.now = same_text name _ e in
      let two : rows ≡ rows_of (found_of (out-SubCommand (box_value b)).matches) = ap (λ (o : Option (List Row)). unwrap_or o rows) f in
      λ i. Some (sym one i, sym two i)
