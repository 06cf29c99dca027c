use Rattle.std.proofs.Common.{◌≡◌, ◌⊎◌, inl, inr, true, Some, refl, ◌∙◌}
use Rattle.sn_live.specs.Nodes.{lost_of}
use Rattle.sn_logged.proofs.LaidLemmas.{applies_written}
use Rattle.sn_live.proofs.BareLemmas.{bare_at, listed_on_by, only_lost}
use Rattle.sn_live.proofs.preparing.PreparedLive.lost.Goals as goal

pub returns : goal.returns
returns c limits tree after change version can applied n bare =
    let moves = c.args.self.now.nodes in
    told (only_lost moves (bare_at tree) n (listed_on_by change tree after moves (bare_at tree) (applies_written limits version change tree after applied) can.nodes (λ k. refl) n ∙ bare))
  where
    told : (bare_at tree n ≡ true) ⊎ (lost_of c.args.self.now.nodes ≡ Some n) → (bare_at tree n ≡ true) ⊎ (c.lost_of.result ≡ Some n)
    told (inl was) = inl was
    told (inr lost) = inr (c.lost_of.ensures ∙ lost)
