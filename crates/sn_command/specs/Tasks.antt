-- What a command line asks for.
use Rattle.std.specs.Prelude.{◌≡◌, ℕ, ◌<◌, ◌^◌, false, List, [], ◌∷◌, Option, Some, None, codes, decimal}
use Rattle.std.specs.List.{list_any}
use Rattle.sn_device.specs.declared.fill.Fill.{Fill}
use Rattle.sn_device.specs.declared.fill.Fill.TheVariants as fill
use Rattle.sn_command.specs.Words.{is_misfit}
use Rattle.sn_command.specs.declared.command.Checker.{Checker}
use Rattle.sn_command.specs.declared.command.Checker.TheVariants as checker
use Rattle.sn_command.specs.declared.command.Task.{Task}
use Rattle.sn_command.specs.declared.command.Task.TheVariants as task

-- the word for how a crash leaves what wasn't synced, where there is one
abbrev pub fill_word : Fill → Option (List ℕ)
fill_word fill.Old = Some (codes "old")
fill_word fill.New = Some (codes "new")
fill_word fill.Zero = Some (codes "zero")
fill_word fill.One = Some (codes "one")
fill_word fill.Junk = Some (codes "junk")
fill_word (fill.Seeded seed) = None

-- the word for who checks what messages may do, which the program does without one
abbrev pub checker_word : Checker → Option (List ℕ)
checker_word checker.Program = None
checker_word checker.Kernel = Some (codes "kernel")

-- a word that may be left out
abbrev pub words_in : Option (List ℕ) → List (List ℕ)
words_in None = []
words_in (Some word) = word ∷ []

-- the words of the command that asks for a task: numbers of 32 bits are decimal, without leading zeros
abbrev pub Spells : List (List ℕ) → Task → Type 0
Spells words (task.Mkfs image blocks) = (words ≡ codes "mkfs" ∷ image.now ∷ decimal blocks ∷ []) × (blocks < 2 ^ 32)
Spells words (task.Run image script) = words ≡ codes "run" ∷ image.now ∷ script.now ∷ []
Spells words (task.StopAt cut how image script out) = (word : List ℕ) × (fill_word how ≡ Some word)
    × (words ≡ codes "stop-at" ∷ decimal cut ∷ word ∷ image.now ∷ script.now ∷ out.now ∷ []) × (cut < 2 ^ 32)
Spells words (task.Check image) = words ≡ codes "check" ∷ image.now ∷ []
Spells words (task.Export image path) = words ≡ codes "export" ∷ image.now ∷ path.now ∷ []
Spells words (task.Import image path) = words ≡ codes "import" ∷ image.now ∷ path.now ∷ []
Spells words (task.Serve image by) = words ≡ codes "serve" ∷ image.now ∷ words_in (checker_word by)

-- and none of them is empty or begins with a dash
abbrev pub AsksFor : List (List ℕ) → Task → Type 0
AsksFor words asked = (list_any is_misfit words ≡ false) × Spells words asked

-- the task of the command with a name, whose words are read by theirs
abbrev pub IsRead : List ℕ → (List ℕ → Option (List ℕ)) → Task → Type 0
IsRead name read (task.Mkfs image blocks) = (name ≡ codes "mkfs") × (read (codes "IMAGE") ≡ Some image.now)
    × (read (codes "BLOCKS") ≡ Some (decimal blocks)) × (blocks < 2 ^ 32)
IsRead name read (task.Run image script) = (name ≡ codes "run") × (read (codes "IMAGE") ≡ Some image.now) × (read (codes "SCRIPT") ≡ Some script.now)
IsRead name read (task.StopAt cut how image script out) = (name ≡ codes "stop-at") × (read (codes "K") ≡ Some (decimal cut)) × (cut < 2 ^ 32)
    × ((word : List ℕ) × (fill_word how ≡ Some word) × (read (codes "FILL") ≡ Some word))
    × (read (codes "IMAGE") ≡ Some image.now) × (read (codes "SCRIPT") ≡ Some script.now) × (read (codes "OUT") ≡ Some out.now)
IsRead name read (task.Check image) = (name ≡ codes "check") × (read (codes "IMAGE") ≡ Some image.now)
IsRead name read (task.Export image path) = (name ≡ codes "export") × (read (codes "IMAGE") ≡ Some image.now) × (read (codes "PATH") ≡ Some path.now)
IsRead name read (task.Import image path) = (name ≡ codes "import") × (read (codes "IMAGE") ≡ Some image.now) × (read (codes "PATH") ≡ Some path.now)
IsRead name read (task.Serve image by) = (name ≡ codes "serve") × (read (codes "IMAGE") ≡ Some image.now) × (read (codes "CHECKER") ≡ checker_word by)
