use Rattle.std.proofs.Common.{◌≡◌, ap, ◌∙◌}
use Rattle.sn_live.specs.Live.{changes_of}
use Rattle.sn_overlay.specs.Overlays.{layer_of, no_changes}
use Rattle.sn_live.proofs.PointLemmas.{begun_shows, point_begun}
use Rattle.sn_live.proofs.live.LiveTree.begin_point.Goals as goal

pub returns-clause-alike : goal.returns-clause-alike
returns-clause-alike c =
    let old = c.args.self.now in
    let none : layer_of c.replace.new.dest ≡ no_changes = ap layer_of c.replace.ensures.after ∙ c.requires.empty in
    let all : layer_of c.replace.result ≡ changes_of old = ap layer_of c.replace.ensures.value in
    record {
      shows = λ below. begun_shows old c.requires.between c.replace.new.dest c.replace.result none all below;
      live = λ below live. point_begun old c.requires.between c.replace.new.dest c.replace.result none all below c.begin_point.new.self c.begin_point.ensures.taken live;
    }
