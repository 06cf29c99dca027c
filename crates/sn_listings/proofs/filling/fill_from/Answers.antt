use Rattle.std.proofs.Common.{◌≡◌, ◌+◌, ◌-◌, ◌≤◌, List, [], ◌∷◌, ◌++◌, length, take, drop, sym, ap, ◌∙◌, arith}
use Rattle.std.proofs.lemmas.List.{append-nil, drop_more, take-append-drop, take_all}
use Rattle.std.proofs.lemmas.Result.{err_from_is_err_and}
use Rattle.sn_listings.specs.Fitting.{fitting}
use Rattle.sn_listings.specs.declared.entry.HeldEntry.{HeldEntry}
use Rattle.sn_listings.proofs.FittingLemmas.{push_none}
use Rattle.sn_listings.proofs.filling.fill_from.Goals as goal

pub returns-in_err-push-clause-err : goal.returns-in_err-push-clause-err
returns-in_err-push-clause-err c =
    let bytes = c.args.answer.now.bytes in
    let room = c.args.answer.now.room - length bytes in
    let from = c.args.from in
    let count = c.loop-entry.entry-index in
    let so_far = take count c.args.entries.now in
    let p = err_from_is_err_and c.from_residual.result c.from_residual.ensures.1 in
    rw (p.1) (
      count,
      c.in_err-push.ensures.err ∙ sym (append-nil c.loop-entry.answer.bytes) ∙ c.loop-entry.invariant.filled []
          ∙ ap (λ (entries : List HeldEntry). bytes ++ fitting room from entries) (append-nil so_far),
    )

pub returns-then-not-branch-clause-ok : goal.returns-then-not-branch-clause-ok
returns-then-not-branch-clause-ok c =
    let bytes = c.args.answer.now.bytes in
    let room = c.args.answer.now.room - length bytes in
    let from = c.args.from in
    let entries = c.args.entries.now in
    let count = c.loop-entry.entry-index in
    let entry = c.entry-item.result in
    let more = drop (count + 1) entries in
    let so_far = take count entries in
    let rest : entry ∷ more ≡ drop count entries = ap (λ (e : HeldEntry). e ∷ more) c.entry-item.is ∙ sym (drop_more entries count entry c.loop-entry-test.true) in
    let whole : so_far ++ entry ∷ more ≡ entries = ap (λ (es : List HeldEntry). so_far ++ es) rest ∙ take-append-drop count entries in
    let full = push_none c.loop-entry.answer.bytes c.loop-entry.answer.room c.loop-entry.place entry more c.in_ok-push.field-0 c.in_ok-push.ensures.fits c.if-not-branch.true in
    c.in_ok-push.ensures.full c.if-not-branch.true ∙ sym full ∙ c.loop-entry.invariant.filled (entry ∷ more)
    ∙ ap (λ (es : List HeldEntry). bytes ++ fitting room from es) whole

pub returns-clause-ok : goal.returns-clause-ok
returns-clause-ok c =
    let bytes = c.args.answer.now.bytes in
    let room = c.args.answer.now.room - length bytes in
    let from = c.args.from in
    let entries = c.args.entries.now in
    let count = c.loop-entry.entry-index in
    let past : length entries ≤ count = omega arith in
    let whole : take count entries ++ [] ≡ entries = append-nil (take count entries) ∙ take_all count entries past in
    sym (append-nil c.loop-entry.answer.bytes) ∙ c.loop-entry.invariant.filled [] ∙ ap (λ (es : List HeldEntry). bytes ++ fitting room from es) whole
