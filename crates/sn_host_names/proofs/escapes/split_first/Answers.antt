use Rattle.std.proofs.Common.{ap, sym, ◌∙◌}
use Rattle.std.specs.List.{list_all}
use Rattle.std.proofs.lemmas.Bool.{and_parts}
use Rattle.std.proofs.lemmas.List.{take_rest}
use Rattle.sn_limits.specs.Names.{is_name_byte}
use Rattle.sn_host_names.proofs.ImageNames.{escape_digits, escape_first, kept_first, all_drop}
use Rattle.sn_host_names.proofs.escapes.split_first.Goals as goal
use Rattle.sn_host_names.proofs.escapes.split_first.Goals.{else-first-eq37-via-then-first-eq37+else-makes_escape, else-first-eq37-via-else-first-eq37}

pub byte_of-requires-clause-low : goal.byte_of-requires-clause-low
byte_of-requires-clause-low c =
    (escape_digits c.in_ok-first.rest.now (sym c.makes_escape.ensures ∙ c.if-makes_escape.true)).1

pub returns-then-makes_escape-clause-first : goal.returns-then-makes_escape-clause-first
returns-then-makes_escape-clause-first c = λ host e.
    let rest = c.in_ok-first.rest.now in
    let read = escape_first rest host (sym c.makes_escape.ensures ∙ c.if-makes_escape.true) (e ∙ take_rest rest 2) in
    rw (c.byte_of.ensures, c.in_ok-first.ensures.cases.0, c.if-first-eq37.true) read

pub returns-then-makes_escape-clause-rest : goal.returns-then-makes_escape-clause-rest
returns-then-makes_escape-clause-rest c =
    let first = c.in_ok-first.first.now in
    let rest = c.in_ok-first.rest.now in
    let names = and_parts (is_name_byte first) (list_all is_name_byte rest) (sym (ap (list_all is_name_byte) c.in_ok-first.ensures.cases.0) ∙ c.requires) in
    ap (list_all is_name_byte) (take_rest rest 2) ∙ all_drop is_name_byte 2 rest names.1

pub returns-clause-first : goal.returns-clause-first
returns-clause-first c = λ host e.
    let first = c.in_ok-first.first.now in
    let rest = c.in_ok-first.rest.now in
    let names = and_parts (is_name_byte first) (list_all is_name_byte rest) (sym (ap (list_all is_name_byte) c.in_ok-first.ensures.cases.0) ∙ c.requires) in
    elim c.else-first-eq37.branch [
      | else-first-eq37-via-then-first-eq37+else-makes_escape w ↦ kept_first first rest host names.0 (λ _. sym w.makes_escape.ensures ∙ w.if-makes_escape.false) e ∙ sym c.in_ok-first.ensures.cases.0
      | else-first-eq37-via-else-first-eq37 w ↦ kept_first first rest host names.0 (λ sign. absurd (w.if-first-eq37.false sign)) e ∙ sym c.in_ok-first.ensures.cases.0
    ]
