use Rattle.std.proofs.Common.{Option, subst, sym, ◌∙◌}
use Rattle.sn_live.specs.Live.{shown_of}
use Rattle.sn_live.specs.Prepared.{CanBeMade, IsPrepared}
use Rattle.sn_live.specs.declared.preparing.PreparedLive.{PreparedLive}
use Rattle.sn_model.specs.Tree.{Tree}
use Rattle.sn_check_log.proofs.TryLemmas.{same_change}
use Rattle.sn_check_log.proofs.trying.try_over.Goals as goal

pub returns-clause-live : goal.returns-clause-live
returns-clause-live g c told =
    let below = g.B.Below.shows c.args.below.now in
    let limits = c.args.limits.now in
    let change = c.args.change.now in
    let alike = c.prepare.ensures.alike in
    let before = subst (λ (o : Option PreparedLive). IsPrepared limits o (shown_of c.args.live.now (g.B.Below.shows c.charge.new.below)) change) c.in-Some.is (c.in_ok-prepared.ensures.prepared told) in
    let here = subst (λ (b : Tree). CanBeMade limits c.in-Some.prepared (shown_of c.args.live.now b) change) (c.in-Ok.ensures.left.2 told) before in
    let can = subst (λ (t : Tree). CanBeMade limits c.in-Some.prepared t change) (sym (alike.shows below)) here in
    c.make_change.ensures.live limits below change c.requires.version (alike.live below (c.requires.live told)) can

pub returns-clause-tries : goal.returns-clause-tries
returns-clause-tries g c told =
    let below = g.B.Below.shows c.args.below.now in
    let limits = c.args.limits.now in
    let change = c.args.change.now in
    let alike = c.prepare.ensures.alike in
    let before = subst (λ (o : Option PreparedLive). IsPrepared limits o (shown_of c.args.live.now (g.B.Below.shows c.charge.new.below)) change) c.in-Some.is (c.in_ok-prepared.ensures.prepared told) in
    let here = subst (λ (b : Tree). CanBeMade limits c.in-Some.prepared (shown_of c.args.live.now b) change) (c.in-Ok.ensures.left.2 told) before in
    let can = subst (λ (t : Tree). CanBeMade limits c.in-Some.prepared t change) (sym (alike.shows below)) here in
    same_change limits c.in-Ok.charge c.args.live.now c.prepare.new.self c.make_change.new.live below change (alike.shows below) c.prepare.ensures.changes (c.in-Ok.ensures.exact told)
    (c.make_change.ensures.made limits below change c.requires.version (alike.live below (c.requires.live told)) can)

pub returns-clause-keeps : goal.returns-clause-keeps
returns-clause-keeps g c told none =
    let below = g.B.Below.shows c.args.below.now in
    let limits = c.args.limits.now in
    let change = c.args.change.now in
    let before = subst (λ (o : Option PreparedLive). IsPrepared limits o (shown_of c.args.live.now (g.B.Below.shows c.charge.new.below)) change) c.in-Some.is (c.in_ok-prepared.ensures.prepared told) in
    let numbers = c.prepare.ensures.numbers in
    c.make_change.ensures.keeps limits (shown_of c.args.live.now (g.B.Below.shows c.charge.new.below)) change c.requires.version before (record { kept = λ n. numbers.kept n ∙ none.kept n; since = λ n. numbers.since n ∙ none.since n })
