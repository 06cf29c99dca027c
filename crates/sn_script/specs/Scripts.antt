-- A script is the lines of its events, one after the other.
use Rattle.std.specs.Prelude.{◌≡◌, ℕ, ◌+◌, ◌<◌, List, ◌++◌, length}
use Rattle.std.specs.List.{AllByRecursion, flat_map}
use Rattle.sn_model.specs.declared.call.Event.{Event}
use Rattle.sn_script.specs.Lines.{line_of, IsEvent}

-- the text is the lines of these events
pub record IsScript (events : List Event) (text : List ℕ) : Type 0 where
  pub each : AllByRecursion IsEvent events
  pub spelled : text ≡ flat_map line_of events

-- no event's line is at the front of the text
abbrev pub BeginsBadly : List ℕ → Type 0
BeginsBadly text = (e : Event) (more : List ℕ) → IsEvent e → text ≡ line_of e ++ more → ⊥

-- the lines before line n, counted from 1, are those of events, and what follows them doesn't begin with an event's line
pub record IsFirstBad (text : List ℕ) (n : ℕ) : Type 0 where
  pub before : List Event
  pub rest : List ℕ
  pub line : n ≡ length before + 1
  pub each : AllByRecursion IsEvent before
  pub spelled : text ≡ flat_map line_of before ++ rest
  pub more : 0 < length rest
  pub bad : BeginsBadly rest
