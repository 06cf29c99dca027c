use Rattle.std.proofs.Common.{◌≡◌, ℕ, ◌+◌, ◌∷◌, ◌++◌, [], List, Option, map, take, sym, ap, ◌∙◌}
use Rattle.sn_model.specs.declared.link.Link.{Link}
use Rattle.std.proofs.lemmas.List.{map-append, take_more}
use Rattle.sn_dir_change.specs.declared.name_change.NameChange.{NameChange}
use Rattle.sn_cp_nodes.specs.Made.{Pair, pair_in, pair_of}
use Rattle.sn_cp_nodes.specs.Parts.{Names}
use Rattle.sn_cp_nodes.proofs.directories.name_changes.Goals as goal

pub loop-entry-init : goal.loop-entry-init
loop-entry-init c = ap (λ (changes : List NameChange). map pair_of changes) c.new-changes.ensures.items

pub loop-entry-preserved : goal.loop-entry-preserved
loop-entry-preserved c =
    let names = c.args.names.now in
    let k = c.loop-entry.entry-index in
    let item = c.entry-item.result in
    let change : NameChange = record { name = c.as_bytes.result; number = item.1 } in
    let one : pair_of change ≡ pair_in item = λ i. (c.as_bytes.ensures i, item.1) in
    let more : take (k + 1) names ≡ take k names ++ item ∷ [] = take_more names k item c.loop-entry-test.true ∙ ap (λ (x : Link × Option ℕ). take k names ++ x ∷ []) (sym c.entry-item.is) in
    ap (λ (changes : List NameChange). map pair_of changes) c.in_ok-push.ensures.items
    ∙ map-append pair_of c.loop-entry.changes.items (change ∷ [])
    ∙ ap (λ (pairs : List Pair). pairs ++ pair_of change ∷ []) c.loop-entry.invariant
    ∙ ap (λ (p : Pair). map pair_in (take k names) ++ p ∷ []) one
    ∙ sym (ap (λ (es : Names). map pair_in es) more ∙ map-append pair_in (take k names) (item ∷ []))
