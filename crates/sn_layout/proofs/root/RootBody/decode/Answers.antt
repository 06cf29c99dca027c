use Rattle.std.proofs.Common.{◌≡◌, ◌∙◌, ◌-◌, ◌*◌, ◌++◌, ℕ, List, length, Option, Some, None, sym, ap, subst, arith}
use Rattle.std.specs.Prelude.{IfSome}
use Rattle.sn_layout.specs.declared.root.Head.{Head}
use Rattle.sn_layout.specs.declared.root.RootBody.{RootBody}
use Rattle.sn_layout.specs.declared.snapshot.Snapshot.{Snapshot}
use Rattle.sn_bytes.specs.Bytes.{zeros}
use Rattle.sn_layout.specs.Snapshot.{snapshots_bytes}
use Rattle.sn_layout.specs.RootBody.{IsRootBody, head_of, head_bytes, root_body_bytes}
use Rattle.sn_bytes.proofs.Fields.{some_none, some_some}
use Rattle.sn_layout.proofs.Roots.{few, head_read, body_is}
use Rattle.sn_layout.proofs.root.RootBody.decode.Goals as goal

found_from : (o : Option RootBody) (head : Head) (snapshots : List Snapshot) (block left : List ℕ) → block ≡ head_bytes head ++ left → left ≡ snapshots_bytes snapshots ++ zeros (3472 - 112 * length snapshots)
    → IfSome o (λ body. IsRootBody body × (head_of body ≡ head) × (body.snapshots ≡ snapshots)) → IfSome o (λ body. IsRootBody body × (block ≡ root_body_bytes body))
found_from None head snapshots block left first second h = tt
found_from (Some body) head snapshots block left first second h = (h.0, body_is body head block left h.1 first (subst (λ (list : List Snapshot). left ≡ snapshots_bytes list ++ zeros (3472 - 112 * length list)) (sym h.2) second))

pub returns-in_err-head-clause-only : goal.returns-in_err-head-clause-only
returns-in_err-head-clause-only c = λ body fits e.
    let read = head_read body c.args.block.now c.new-reader.result c.read.new.reader c.read.result c.read.ensures.only fits c.new-reader.ensures e in
    some_none c.read.result (head_of body) read.0 c.in_err-head.was

pub returns-in_err-snapshots-clause-only : goal.returns-in_err-snapshots-clause-only
returns-in_err-snapshots-clause-only c = λ body fits e.
    let read = head_read body c.args.block.now c.new-reader.result c.read.new.reader c.read.result c.read.ensures.only fits c.new-reader.ensures e in
    let head = some_some c.read.result c.in_ok-head.head (head_of body) c.in_ok-head.was read.0 in
    let held = few body fits in
    let all = c.read_to_end.ensures.only body.snapshots (omega arith) (sym (ap (λ (h : Head). h.count) head)) fits.snapshots.each read.1 in
    some_none c.read_to_end.result body.snapshots all c.in_err-snapshots.was

pub returns-clause-found : goal.returns-clause-found
returns-clause-found c =
    found_from c.with.result c.in_ok-head.head c.in_ok-snapshots.snapshots c.args.block.now c.read.new.reader (sym c.new-reader.ensures ∙ c.in_ok-head.ensures.found.1) c.in_ok-snapshots.ensures.found.1 c.with.ensures.found

pub returns-clause-only : goal.returns-clause-only
returns-clause-only c = λ body fits e.
    let read = head_read body c.args.block.now c.new-reader.result c.read.new.reader c.read.result c.read.ensures.only fits c.new-reader.ensures e in
    let head = some_some c.read.result c.in_ok-head.head (head_of body) c.in_ok-head.was read.0 in
    let held = few body fits in
    let all = c.read_to_end.ensures.only body.snapshots (omega arith) (sym (ap (λ (h : Head). h.count) head)) fits.snapshots.each read.1 in
    let snapshots = some_some c.read_to_end.result c.in_ok-snapshots.snapshots body.snapshots c.in_ok-snapshots.was all in
    c.with.ensures.only body fits (sym head) (sym snapshots)
