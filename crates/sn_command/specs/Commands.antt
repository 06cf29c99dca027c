-- The commands as `clap` knows them.
use Rattle.std.specs.Prelude.{true, codes}
use Rattle.clap.specs.Words.{App, Rule, Text, new_app, new_rule, with_rule, with_subcommand}

abbrev pub required : Text → Rule
required name = record (new_rule name) { required = true }

abbrev pub optional : Text → Rule
optional name = new_rule name

abbrev pub mkfs : App
mkfs = with_rule (with_rule (new_app (codes "mkfs")) (required (codes "IMAGE"))) (required (codes "BLOCKS"))

abbrev pub run : App
run = with_rule (with_rule (new_app (codes "run")) (required (codes "IMAGE"))) (required (codes "SCRIPT"))

abbrev pub stop_at : App
stop_at = with_rule (with_rule (with_rule (with_rule (with_rule (new_app (codes "stop-at")) (required (codes "K")))
    (required (codes "FILL"))) (required (codes "IMAGE"))) (required (codes "SCRIPT"))) (required (codes "OUT"))

abbrev pub check : App
check = with_rule (new_app (codes "check")) (required (codes "IMAGE"))

abbrev pub export : App
export = with_rule (with_rule (new_app (codes "export")) (required (codes "IMAGE"))) (required (codes "PATH"))

abbrev pub import : App
import = with_rule (with_rule (new_app (codes "import")) (required (codes "IMAGE"))) (required (codes "PATH"))

abbrev pub serve : App
serve = with_rule (with_rule (new_app (codes "serve")) (required (codes "IMAGE"))) (optional (codes "CHECKER"))

abbrev pub top : App
top = record (new_app (codes "snapfs")) {
  top = record (new_app (codes "snapfs")).top { no_binary_name = true; subcommand_required = true; disable_help_subcommand = true };
}

-- all that may follow the program's name
abbrev pub snapfs : App
snapfs = with_subcommand (with_subcommand (with_subcommand (with_subcommand (with_subcommand (with_subcommand (with_subcommand top mkfs.top) run.top) stop_at.top) check.top) export.top) import.top) serve.top
