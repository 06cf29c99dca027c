use Rattle.std.proofs.Common.{List, ℕ, subst}
use Rattle.std.specs.Prelude.{OnOk, Result}
use Rattle.sn_export_image.specs.declared.fault.ImageFault.{ImageFault}
use Rattle.sn_export_walk.specs.Archives.{BeginsArchive, WritesArchive}
use Rattle.sn_model.specs.World.{trees_of}
use Rattle.sn_program.proofs.export.export_from.Goals as goal

pub returns-in-Ok-clause-begun : goal.returns-in-Ok-clause-begun
returns-in-Ok-clause-begun g c = λ told world image.
    subst (λ (path : List ℕ). BeginsArchive (trees_of world) path (g.W.Write.contents c.args.out.now) (g.W.Write.contents c.export_image-outcome.new.out)) c.as_bytes.ensures.value (c.export_image-outcome.ensures.begun told world image)

pub returns-in-Err-clause-begun : goal.returns-in-Err-clause-begun
returns-in-Err-clause-begun g c = λ told world image.
    subst (λ (path : List ℕ). BeginsArchive (trees_of world) path (g.W.Write.contents c.args.out.now) (g.W.Write.contents c.export_image-outcome.new.out)) c.as_bytes.ensures.value (c.export_image-outcome.ensures.begun told world image)

pub returns-in-Ok-clause-archive : goal.returns-in-Ok-clause-archive
returns-in-Ok-clause-archive g c = λ told world image.
    (let archive = λ (path : List ℕ). WritesArchive (trees_of world) path (g.W.Write.contents c.args.out.now) (g.W.Write.contents c.export_image-outcome.new.out) in
    let written : OnOk c.export_image-outcome.result.outcome (archive c.as_bytes.result.now) = c.export_image-outcome.ensures.archive told world image in
    subst (λ (path : List ℕ). archive path) c.as_bytes.ensures.value (subst (λ (r : Result (Unit {0}) ImageFault). OnOk r (archive c.as_bytes.result.now)) c.in-Ok.is written))
