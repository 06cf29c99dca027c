use Rattle.std.proofs.Common.{ap, arith}
use Rattle.sn_plan.proofs.Following.{does_as, does_same, goes_none}
use Rattle.sn_serve_directories.specs.Entries.{entries_from, entry_at, image_in, image_of, images_of}
use Rattle.sn_serve_directories.proofs.Steps.{all_entries, entries_passed_on, entry_added, entry_fails, images_more, next_entry, no_room}
use Rattle.sn_serve_directories.proofs.entries.entries_from.Goals as goal

pub loop-name-init : goal.loop-name-init
loop-name-init g c = goes_none g.F.FileSystem.did c.args.server.now (entries_from c.args.node (images_of c.args.before.items) c.args.names.now)

pub returns-in_err-entry : goal.returns-in_err-entry
returns-in_err-entry g c = entries_passed_on c.from_residual.result c.in_err-entry.field-0.0 c.from_residual.ensures.1
    (entry_fails c.args.node (images_of c.loop-name.held.items) c.args.names.now c.loop-name.name-index c.name-item.result c.in_err-entry.field-0.0 c.loop-name.invariant c.loop-name-test.true c.name-item.is
    (does_as (ap image_in c.in_err-entry.was) (does_same (ap (entry_at c.args.node) c.as_bytes.ensures) c.entry_at.ensures)))

pub returns-in_default : goal.returns-in_default
returns-in_default g c = no_room
    (next_entry c.args.node (images_of c.loop-name.held.items) c.args.names.now c.loop-name.name-index c.name-item.result (image_of c.in_ok-entry.entry) c.loop-name.invariant c.loop-name-test.true c.name-item.is
    (does_as (ap image_in c.in_ok-entry.was) (does_same (ap (entry_at c.args.node) c.as_bytes.ensures) c.entry_at.ensures)))

pub loop-name-preserved : goal.loop-name-preserved
loop-name-preserved g c = entry_added c.args.node _ _ _
    (next_entry c.args.node (images_of c.loop-name.held.items) c.args.names.now c.loop-name.name-index c.name-item.result (image_of c.in_ok-entry.entry) c.loop-name.invariant c.loop-name-test.true c.name-item.is
    (does_as (ap image_in c.in_ok-entry.was) (does_same (ap (entry_at c.args.node) c.as_bytes.ensures) c.entry_at.ensures)))
    (images_more c.loop-name.held.items c.push.new.self.items c.in_ok-entry.entry c.in-Ok.ensures.items)

pub returns : goal.returns
returns g c = all_entries c.args.node (images_of c.loop-name.held.items) c.args.names.now c.loop-name.name-index c.loop-name.invariant (omega arith)
