use Rattle.std.proofs.Common.{◌≡◌, ◌+◌, ◌≤◌, List, Err, length, ap, refl, sym, subst, ◌∙◌, arith}
use Rattle.std.proofs.lemmas.Bool.{eqb-true}
use Rattle.sn_device.specs.Disk.{reads}
use Rattle.sn_block.specs.Lending.{device_of}
use Rattle.sn_ondisk.specs.Trees.{store_of, data_block}
use Rattle.sn_layout_node.specs.Directory.{Link, links_bytes}
use Rattle.sn_dir.proofs.BlockLemmas.{names_read, unfetched, misspelt}
use Rattle.sn_dir_change.specs.NameMarks.{AreMarked}
use Rattle.sn_dir_change.proofs.ThroughLemmas.{through_pushed, through_kept, none_gone, none_full}
use Rattle.sn_dir_change.proofs.through.pass_block.Goals as goal

pub returns-then-is_empty-clause-through : goal.returns-then-is_empty-clause-through
returns-then-is_empty-clause-through g c = λ changes bound through.
    let s = store_of (reads (g.D.Device.disk (device_of c.args.blocks.now))) in
    let standing = c.args.pending.now.standing.items in
    let waiting = c.args.pending.now.waiting.items in
    let none : length standing + length waiting ≡ 0 = eqb-true (length standing + length waiting) 0 (sym c.is_empty.ensures ∙ c.if-is_empty.true) in
    let bytes = data_block s c.args.tree.now c.args.i in
    through_kept _ s c.args.tree.now changes bound c.args.i c.args.dirty.now.items standing waiting standing waiting bytes (λ told. refl) c.requires.index through
    bytes (λ told. none_full waiting _ (omega (arith, none))) (λ x there. there) (λ told front back old way. (way, none_gone standing _ (omega (arith, none)))) refl (omega arith)

pub returns-in_err-number-clause-damaged : goal.returns-in_err-number-clause-damaged
returns-in_err-number-clause-damaged g c told block is =
    unfetched _ _ c.args.tree.now c.args.i _ _ c.from_residual.ensures.1 is (λ at fault. c.in_err-number.ensures.damaged told at (ap (λ f. Err f) fault))

pub returns-in_err-names-clause-damaged : goal.returns-in_err-names-clause-damaged
returns-in_err-names-clause-damaged g c told block is =
    misspelt _ _ c.args.tree.now c.args.i _ _ c.from_residual-in_err-names.ensures.1 is c.fetched.result.now (c.fetched.ensures.value ∙ c.in_ok-number.ensures.block told) c.in_ok-number.number (c.in_ok-number.ensures.number told) c.in_err-names.ensures.damaged

pub returns-in_ok-push_dirty-clause-through : goal.returns-in_ok-push_dirty-clause-through
returns-in_ok-push_dirty-clause-through g c = λ changes bound through.
    let s = store_of (reads (g.D.Device.disk (device_of c.args.blocks.now))) in
    let bytes = c.fetched-2.result.now in
    through_pushed _ s c.args.tree.now changes bound c.args.i c.args.dirty.now.items c.args.pending.now.standing.items c.args.pending.now.waiting.items c.change_names.new.pending.standing.items c.change_names.new.pending.waiting.items
    bytes (λ told. c.fetched-2.ensures.value ∙ c.in_ok-number.ensures.block told) c.requires.index through
    c.change_names.new.block (λ told. c.change_names.ensures.full) c.change_names.ensures.listed (λ told. c.change_names.ensures.way changes) c.push_dirty.new.dirty.items c.in_ok-push_dirty.ensures c.change_names.ensures.still (c.change_names.ensures.changed c.if-change_names.true)

pub returns-else-change_names-clause-through : goal.returns-else-change_names-clause-through
returns-else-change_names-clause-through g c = λ changes bound through.
    let s = store_of (reads (g.D.Device.disk (device_of c.args.blocks.now))) in
    let bytes = c.fetched-2.result.now in
    let same = c.change_names.ensures.same c.if-change_names.false in
    through_kept _ s c.args.tree.now changes bound c.args.i c.args.dirty.now.items c.args.pending.now.standing.items c.args.pending.now.waiting.items c.change_names.new.pending.standing.items c.change_names.new.pending.waiting.items
    bytes (λ told. c.fetched-2.ensures.value ∙ c.in_ok-number.ensures.block told) c.requires.index through
    c.change_names.new.block (λ told. c.change_names.ensures.full) c.change_names.ensures.listed (λ told. c.change_names.ensures.way changes) same.0
    (omega (arith, ap (λ xs. length xs) same.1, ap (λ xs. length xs) same.2))

pub change_names-requires-clause-marks : goal.change_names-requires-clause-marks
change_names-requires-clause-marks g c =
    subst (λ (links : List Link). AreMarked c.of-marks.result.marks links)
    (names_read c.fetched.result.now c.fetched-2.result.now _ (c.fetched.ensures.value ∙ sym c.fetched-2.ensures.value) c.in_ok-names.ensures.spelled)
    c.of-marks.ensures

pub change_names-requires-clause-room : goal.change_names-requires-clause-room
change_names-requires-clause-room g c =
    subst (λ (links : List Link). 4096 ≤ length (links_bytes links) + c.room-room.result)
    (names_read c.fetched.result.now c.fetched-2.result.now _ (c.fetched.ensures.value ∙ sym c.fetched-2.ensures.value) c.in_ok-names.ensures.spelled)
    (omega (arith, c.room-room.ensures))
