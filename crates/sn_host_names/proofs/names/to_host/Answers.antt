use Rattle.std.proofs.Common.{[], ap, sym, refl, ◌∙◌}
use Rattle.std.proofs.lemmas.List.{append-nil}
use Rattle.sn_host_names.specs.Escapes.{image_name}
use Rattle.sn_host_names.proofs.ImageNames.{distinct, host_is_name}
use Rattle.sn_host_names.proofs.names.to_host.Goals as goal

pub returns-clause-value : goal.returns-clause-value
returns-clause-value c =
    let host = c.loop-byte.host.items in
    sym (ap image_name (append-nil host)) ∙ c.loop-byte.invariant.read [] (sym (c.in_default.ensures.none refl))

pub returns-clause-only : goal.returns-clause-only
returns-clause-only c = λ host image. distinct host c.loop-byte.host.items (image ∙ sym (returns-clause-value c))

pub returns-clause-valid : goal.returns-clause-valid
returns-clause-valid c = host_is_name c.loop-byte.host.items c.args.name.now c.loop-byte.invariant.bytes (returns-clause-value c) c.requires
