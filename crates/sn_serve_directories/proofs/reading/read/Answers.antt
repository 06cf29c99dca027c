use Rattle.std.proofs.Common.{◌∙◌, Bool, ap, sym}
use Rattle.sn_listings.specs.Held.{directory_at}
use Rattle.sn_plan.proofs.Following.{does_same, refuses}
use Rattle.sn_serve_directories.specs.Messages.{read_if}
use Rattle.sn_serve_directories.proofs.Steps.{due_known, none_known}
use Rattle.sn_serve_directories.proofs.reading.read.Goals as goal

pub returns-in-Some : goal.returns-in-Some
returns-in-Some g c = does_same
    (ap (λ (b : Bool). read_if b c.in-Some.node) c.is_due.ensures ∙ due_known (directory_at c.args.listings.now c.args.handle) c.args.offset c.in-Some.node (sym c.node.ensures ∙ c.in-Some.is))
    c.read_if.ensures

pub returns-in-None : goal.returns-in-None
returns-in-None g c = does_same (none_known (directory_at c.args.listings.now c.args.handle) c.args.offset (sym c.node.ensures ∙ c.in-None.is)) refuses
