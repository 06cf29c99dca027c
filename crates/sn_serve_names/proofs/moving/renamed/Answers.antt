use Rattle.std.proofs.Common.{◌≡◌, ◌∙◌, ℕ, List, ap₂, inl, inr, refl, subst, sym}
use Rattle.sn_node_table.specs.Tables.{Table, unlinked}
use Rattle.sn_node_table.specs.Told.{table_of}
use Rattle.sn_plan.specs.Plans.{Leaves}
use Rattle.sn_plan.proofs.Following.{changes, does_same}
use Rattle.sn_serve_names.proofs.Steps.{when_err, when_ok}
use Rattle.sn_serve_names.specs.Messages.{renamed}
use Rattle.sn_serve_names.proofs.moving.renamed.Goals as goal

pub returns-then-is_ok : goal.returns-then-is_ok
unfolding renamed
returns-then-is_ok g c = does_same (ap₂ (λ (a b : List ℕ). renamed c.args.parent a c.args.directory b) c.name-from.ensures c.name-to.ensures)
    (changes tt refl refl (inl (record { goes = when_ok c.rename.result (sym c.is_ok.ensures.value ∙ c.if-is_ok.true) c.rename.ensures.goes; idle = when_ok c.rename.result (sym c.is_ok.ensures.value ∙ c.if-is_ok.true) c.rename.ensures.idle })))

pub returns : goal.returns
unfolding renamed
returns g c =
    let same : table_of c.rename.new.self ≡ table_of c.args.server.now.nodes = when_err c.rename.result (sym c.is_ok.ensures.value ∙ c.if-is_ok.false) c.rename.ensures.err in
    does_same (ap₂ (λ (a b : List ℕ). renamed c.args.parent a c.args.directory b) c.name-from.ensures c.name-to.ensures)
    (changes tt refl refl (inr (
      table_of c.unlink.new.self,
      subst (λ (t : Table). Leaves t (table_of c.unlink.new.self) (unlinked t c.args.parent c.name-from.result.now)) same (record { goes = c.unlink.ensures.goes; idle = c.unlink.ensures.idle }),
      record { goes = c.unlink-2.ensures.goes; idle = c.unlink-2.ensures.idle },
    )))
