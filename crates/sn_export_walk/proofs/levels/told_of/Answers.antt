use Rattle.std.proofs.Common.{◌≡◌, ◌++◌, ◌∷◌, ◌∙◌, List, ℕ, subst, sym}
use Rattle.std.specs.Prelude.{IfOk}
use Rattle.sn_export.specs.HostNames.{host_name}
use Rattle.sn_export.proofs.Hosts.{named}
use Rattle.sn_export_walk.proofs.Below.{name_is}
use Rattle.sn_export_walk.proofs.levels.told_of.Goals as goal

pub returns-clause-told : goal.returns-clause-told
returns-clause-told c =
    let same : host_name c.args.name.now ≡ c.as_slice.result.now = c.to_host.ensures.only (host_name c.args.name.now) (named c.args.name.now (name_is c.args.name.now c.requires).bytes) ∙ sym c.as_slice.ensures.value in
    subst (λ (h : List ℕ). IfOk c.joined.result (λ bytes. bytes.items ≡ c.args.directory.now ++ 47 ∷ h)) (sym same) c.joined.ensures.bytes
