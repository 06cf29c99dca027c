use Rattle.std.proofs.Common.{◌≡◌, ℕ, ◌+◌, List, [], refl, sym, subst, ◌∙◌, arith}
use Rattle.sn_changed.specs.Dropped.{TellsGone}
use Rattle.sn_changed.specs.declared.dropped.DroppedFile.{DroppedFile}
use Rattle.sn_live.specs.Live.{shown_of}
use Rattle.sn_live.specs.Unnamed.{GoWithNames}
use Rattle.sn_model.specs.Settling.{settled}
use Rattle.sn_number_table.specs.Nameless.{is_listed}
use Rattle.sn_live.proofs.BareLemmas.{bare_at}
use Rattle.sn_live.proofs.ListedLemmas.{AreListed, all_listed, listed_more, none_counted, none_listed, none_named}
use Rattle.sn_live.proofs.live.LiveTree.nameless_files.Goals as goal

pub returns-then-self-eq0-clause-gone : goal.returns-then-self-eq0-clause-gone
returns-then-self-eq0-clause-gone c below live =
    let shown = shown_of c.args.self.now below in
    subst (λ (files : List DroppedFile). TellsGone shown (settled shown) files) (sym c.new-files.ensures.items)
    (all_listed shown (bare_at shown) [] live.shown.whole (λ n. refl) (none_counted shown (sym live.nameless ∙ c.if-self-eq0.true)))

pub returns-then-self-eq0-clause-named : goal.returns-then-self-eq0-clause-named
returns-then-self-eq0-clause-named c = subst GoWithNames (sym c.new-files.ensures.items) none_named

pub loop-number-init : goal.loop-number-init
loop-number-init c = subst (λ (files : List DroppedFile). AreListed (is_listed c.args.self.now.without_names) 0 files) (sym c.new-files.ensures.items) (none_listed (is_listed c.args.self.now.without_names))

pub loop-number-preserved : goal.loop-number-preserved
loop-number-preserved c =
    subst (λ (files : List DroppedFile). AreListed (is_listed c.args.self.now.without_names) (c.loop-number.number + 1) files) (sym c.in_ok-list_if_nameless.ensures)
    (listed_more (is_listed c.args.self.now.without_names) c.loop-number.number c.loop-number.files.items c.loop-number.invariant)

pub returns-clause-gone : goal.returns-clause-gone
returns-clause-gone c below live =
    let last : c.loop-number.number ≡ 65536 = omega arith in
    let listed = is_listed c.args.self.now.without_names in
    all_listed (shown_of c.args.self.now below) listed c.loop-number.files.items live.shown.whole live.files (subst (λ (n : ℕ). AreListed listed n c.loop-number.files.items) last c.loop-number.invariant)

pub returns-clause-named : goal.returns-clause-named
returns-clause-named c = c.loop-number.invariant.named
