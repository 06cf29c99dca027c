use Rattle.std.proofs.Common.{◌++◌, length, ap, sym, refl, ◌∙◌, arith}
use Rattle.std.proofs.lemmas.Bool.{and_from, le-leb}
use Rattle.std.proofs.lemmas.List.{append-nil}
use Rattle.sn_limits.specs.Names.{is_name_spelled}
use Rattle.sn_host_names.proofs.ImageNames.{image_name_of_none, images_spelled}
use Rattle.sn_host_names.proofs.names.to_image.Goals as goal

pub returns-clause-value : goal.returns-clause-value
returns-clause-value c =
    let items = c.loop-rest.image.items in
    sym (c.loop-rest.invariant.written ∙ ap (λ r. items ++ r) (image_name_of_none c.loop-rest.rest.now c.in_default.len_below) ∙ append-nil items)

pub returns-clause-fits : goal.returns-clause-fits
returns-clause-fits c = (λ _. omega (arith, ap length (returns-clause-value c), c.loop-rest.invariant.short), λ _. refl)

pub returns-clause-valid : goal.returns-clause-valid
returns-clause-valid c =
    and_from _ _ (ap is_name_spelled (returns-clause-value c) ∙ images_spelled c.args.name.now c.requires) (le-leb (length c.loop-rest.image.items) 255 c.loop-rest.invariant.short)
