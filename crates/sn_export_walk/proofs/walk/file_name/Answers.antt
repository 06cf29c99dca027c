use Rattle.std.proofs.Common.{◌≡◌, ◌∙◌, List, Option, ℕ, [], ap, sym}
use Rattle.std.specs.Prelude.{unwrap_or}
use Rattle.std.specs.Option.{option_copied}
use Rattle.sn_model.specs.Calls.{last_name}
use Rattle.sn_export.specs.HostNames.{host_name}
use Rattle.sn_export.proofs.Hosts.{named}
use Rattle.sn_export_walk.proofs.Below.{name_is}
use Rattle.sn_export_walk.proofs.walk.file_name.Goals as goal

pub returns-clause-told : goal.returns-clause-told
returns-clause-told c =
    let name = c.in-Some.name.now in
    let same : name ≡ last_name c.args.path.now = ap (λ (o : Option (List ℕ)). unwrap_or o []) (ap option_copied (sym c.in-Some.is) ∙ c.last.ensures) in
    let told : host_name name ≡ c.to_host.result.items = c.to_host.ensures.only (host_name name) (named name (name_is name (sym c.is_name.ensures ∙ c.if-not-is_name.false)).bytes) in
    c.in_ok-from_slice.ensures.items ∙ c.as_slice.ensures.value ∙ sym told ∙ ap host_name same
