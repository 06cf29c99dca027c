use Rattle.std.proofs.Common.{[], ◌∷◌, refl}
use Rattle.sn_fuse.specs.Body.{Text, Nothing}
use Rattle.sn_fuse.proofs.Bodies.{peel_text}
use Rattle.sn_fuse.proofs.named.read_two_names.Goals as goal

pub returns-in_err-second-clause-none : goal.returns-in_err-second-clause-none
returns-in_err-second-clause-none c = λ _ first second s.
    let read = c.in_ok-first.ensures.found in
    let after = (peel_text first c.in_ok-first.first (Text second ∷ []) Nothing c.args.reader.now c.read_name.new.reader read.0 read.1 s).1 in
    c.in_err-second.ensures.none refl second after
