use Rattle.std.proofs.Common.{◌≡◌, ℕ, length, subst, ◌∙◌}
use Rattle.std.specs.Prelude.{IfOk}
use Rattle.std.proofs.lemmas.Result.{err_from_is_err_and, on_ok_weaker}
use Rattle.sn_device.specs.Disk.{reads}
use Rattle.sn_block.specs.Lending.{device_of}
use Rattle.sn_layout_node.specs.Directory.{IsDirectoryBlock}
use Rattle.sn_ondisk.specs.Trees.{Store, store_of, data_block}
use Rattle.sn_image.specs.Names.{names_in}
use Rattle.sn_dir.specs.Blocks.{IsThere}
use Rattle.sn_marks.specs.Fault.{Tells}
use Rattle.sn_marks.proofs.WalkLemmas.{tells_weaker, told_weaker}
use Rattle.sn_check_root.specs.Rules.{Breaks, IsSpeltWrong, IsBadBlock}
use Rattle.sn_check_root.proofs.DeviceLemmas.{stays_one, at_start}
use Rattle.sn_check_root.proofs.BlockLemmas.{there_or_hole, names_block, bad_here}
use Rattle.sn_check_root.proofs.WrongLemmas.{counts_own, spelt_rule}
use Rattle.sn_check_root.proofs.directories.count_in.Goals as goal

pub returns-in_err-pointer-clause-fault : goal.returns-in_err-pointer-clause-fault
returns-in_err-pointer-clause-fault g c told =
    let p = err_from_is_err_and c.from_residual.result c.from_residual.ensures.1 in
    rw (p.1, p.2) (tells_weaker c.in_err-pointer.field-0.0 (λ damage block. ⊥)
    (IsSpeltWrong (IsBadBlock (store_of (reads (g.D.Device.disk (device_of c.args.blocks.now)))) c.args.tree.now c.args.i c.args.top))
    (λ damage block never. absurd never) (c.in_err-pointer.ensures.fault told))

pub returns-in_err-fetch_there-clause-fault : goal.returns-in_err-fetch_there-clause-fault
returns-in_err-fetch_there-clause-fault g c told =
    let s = store_of (reads (g.D.Device.disk (device_of c.args.blocks.now))) in
    let n = (g.D.Device.status (device_of c.args.blocks.now)).sectors in
    let stays = stays_one _ _ _ _ _ c.in_ok-pointer.ensures.counts.done c.pointer_to.ensures.same in
    let p = err_from_is_err_and c.from_residual-in_err-fetch_there.result c.from_residual-in_err-fetch_there.ensures.1 in
    rw (p.1, p.2) (tells_weaker c.in_err-fetch_there.field-0.0
    (Breaks (IsThere n s c.args.tree.now c.args.i) c.args.top)
    (IsSpeltWrong (IsBadBlock s c.args.tree.now c.args.i c.args.top))
    (λ damage block broken. spelt_rule _ _ _ damage block (there_or_hole n s c.args.tree.now (c.requires.lies told) c.args.i c.args.top) broken)
    (at_start _ _ _ _ _ stays (λ (m : ℕ) (r : Store). Tells c.in_err-fetch_there.field-0.0 (Breaks (IsThere m r c.args.tree.now c.args.i) c.args.top)) told (c.in_err-fetch_there.ensures.fault told)))

pub returns-clause-count : goal.returns-clause-count
returns-clause-count g c told =
    let stays = stays_one _ _ _ _ _ c.in_ok-pointer.ensures.counts.done c.pointer_to.ensures.same in
    let bytes = at_start _ _ _ _ _ stays (λ (m : ℕ) (r : Store). c.fetched.result.now ≡ data_block r c.args.tree.now c.args.i) told (c.fetched.ensures.value ∙ c.in_ok-fetch_there.ensures.block told) in
    subst (λ b. IfOk c.count_of.result (λ count. count ≡ length (names_in b))) bytes c.count_of.ensures.count

pub returns-clause-sound : goal.returns-clause-sound
returns-clause-sound g c told =
    let s = store_of (reads (g.D.Device.disk (device_of c.args.blocks.now))) in
    let n = (g.D.Device.status (device_of c.args.blocks.now)).sectors in
    let stays = stays_one _ _ _ _ _ c.in_ok-pointer.ensures.counts.done c.pointer_to.ensures.same in
    let bytes = at_start _ _ _ _ _ stays (λ (m : ℕ) (r : Store). c.fetched.result.now ≡ data_block r c.args.tree.now c.args.i) told (c.fetched.ensures.value ∙ c.in_ok-fetch_there.ensures.block told) in
    let there = at_start _ _ _ _ _ stays (λ (m : ℕ) (r : Store). IsThere m r c.args.tree.now c.args.i) told (c.in_ok-fetch_there.ensures.there told) in
    on_ok_weaker c.count_of.result (λ (spelled : IsDirectoryBlock c.fetched.result.now). names_block n s c.args.tree.now c.args.i c.fetched.result.now bytes there spelled) c.count_of.ensures.spelled

pub returns-clause-fault : goal.returns-clause-fault
returns-clause-fault g c told =
    let s = store_of (reads (g.D.Device.disk (device_of c.args.blocks.now))) in
    let stays = stays_one _ _ _ _ _ c.in_ok-pointer.ensures.counts.done c.pointer_to.ensures.same in
    let bytes = at_start _ _ _ _ _ stays (λ (m : ℕ) (r : Store). c.fetched.result.now ≡ data_block r c.args.tree.now c.args.i) told (c.fetched.ensures.value ∙ c.in_ok-fetch_there.ensures.block told) in
    told_weaker c.count_of.result (Breaks (IsDirectoryBlock c.fetched.result.now) c.in_ok-pointer.pointer)
    (IsSpeltWrong (IsBadBlock s c.args.tree.now c.args.i c.args.top))
    (λ damage block broken. spelt_rule _ _ _ damage block (bad_here s c.args.tree.now c.args.i c.args.top c.in_ok-pointer.pointer c.fetched.result.now bytes (c.in_ok-pointer.ensures.pointer told)) broken)
    c.count_of.ensures.fault

pub returns-clause-counts : goal.returns-clause-counts
returns-clause-counts g c = counts_own c.count_of.result _ _ (c.in_ok-fetch_there.ensures.counts.done ∙ c.in_ok-pointer.ensures.counts.done) c.count_of.ensures.read
