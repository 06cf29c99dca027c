use Rattle.std.proofs.Common.{◌≡◌, ap}
use Rattle.sn_live.specs.Live.{changes_of, point_of, shown_of}
use Rattle.sn_model.specs.Tree.{Tree}
use Rattle.sn_overlay.specs.Layers.{Layer, through}
use Rattle.sn_overlay.specs.Overlays.{layer_of}
use Rattle.sn_live.proofs.DropLemmas.{regrown}
use Rattle.sn_live.proofs.GoneLemmas.{all_can_go, can_go_over, drops_nameless, settles_to}
use Rattle.sn_live.proofs.live.LiveTree.settle.Goals as goal

pub returns-clause-live : goal.returns-clause-live
returns-clause-live c below live =
    let old = c.args.self.now in
    let top = c.reserve.new.self in
    let files = c.in_ok-files.files.items in
    let same : layer_of top ≡ changes_of old = c.in_ok-reserve.ensures.same in
    c.drop_files.ensures.live below (regrown old below top same live)
    (can_go_over (shown_of old below) (shown_of (record old { top = top }) below) files c.as_slice-listed.result.now (ap (λ (l : Layer). through l (through (point_of old) below)) same) c.as_slice-listed.ensures.value
    (all_can_go (shown_of old below) files (c.in_ok-files.ensures.gone below live)))

pub returns-clause-shown : goal.returns-clause-shown
returns-clause-shown c below live =
    let old = c.args.self.now in
    let top = c.reserve.new.self in
    let files = c.in_ok-files.files.items in
    let listed = c.as_slice-listed.result.now in
    let mid : Tree = shown_of (record old { top = top }) below in
    let tells = c.in_ok-files.ensures.gone below live in
    let same : layer_of top ≡ changes_of old = c.in_ok-reserve.ensures.same in
    let shows : mid ≡ shown_of old below = ap (λ (l : Layer). through l (through (point_of old) below)) same in
    settles_to (shown_of old below) mid (shown_of c.drop_files.new.self below) files listed tells shows c.as_slice-listed.ensures.value
    (c.drop_files.ensures.shown below (regrown old below top same live) (can_go_over (shown_of old below) mid files listed shows c.as_slice-listed.ensures.value (all_can_go (shown_of old below) files tells)))

pub returns-clause-changed : goal.returns-clause-changed
returns-clause-changed c below live =
    let old = c.args.self.now in
    drops_nameless (shown_of old below) (changes_of old) (layer_of c.reserve.new.self) (changes_of c.drop_files.new.self) c.in_ok-files.files.items c.as_slice-listed.result.now
    (c.in_ok-files.ensures.gone below live) c.in_ok-reserve.ensures.same c.as_slice-listed.ensures.value c.drop_files.ensures.changes
