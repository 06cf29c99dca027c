use Rattle.std.proofs.Common.{◌≡◌, Contains, Err, List, Some, map, sym, subst, ap}
use Rattle.std.specs.FinMap as fin
use Rattle.sn_device.specs.Disk.{reads}
use Rattle.sn_block.specs.Lending.{device_of}
use Rattle.sn_dir.specs.declared.listings.ListedName.{ListedName}
use Rattle.sn_model.specs.Seen.{names_of}
use Rattle.sn_model.specs.Tree.{link_to}
use Rattle.sn_rooted.specs.Roots.{tree_on}
use Rattle.sn_rooted.proofs.RootLemmas.{was_damaged}
use Rattle.sn_rooted_tree.proofs.SeenLemmas.{root_tree}
use Rattle.sn_rooted_tree.proofs.loading.count_names.Goals as goal

pub returns-in_err-names-clause-damaged : goal.returns-in_err-names-clause-damaged
returns-in_err-names-clause-damaged g c told root block is =
    c.in_err-names.ensures.damaged told root block (ap (λ f. Err f) (was_damaged _ _ c.from_residual.ensures.1 is))

pub returns-clause-counted : goal.returns-clause-counted
returns-clause-counted g c told root before =
    let disk = g.D.Device.disk (device_of c.args.blocks.now) in
    let tree = tree_on c.args.blocks.now c.args.file.now in
    let whole = root_tree c.args.limits.now _ (reads disk) c.args.file.now (g.met.D.Device.whole (device_of c.args.blocks.now) told) (g.met.D.Device.count (device_of c.args.blocks.now) told) root in
    let all = sym c.deref.ensures.value in
    c.enter_names.ensures tree whole
    (subst (λ (ns : List ListedName). map (λ (x : ListedName). x.name) ns ≡ names_of tree c.args.directory) all (c.in_ok-names.ensures.names told root))
    (subst (λ (ns : List ListedName). (x : ListedName) → Contains ns x → fin.get tree.links (link_to c.args.directory x.name) ≡ Some x.number) all (c.in_ok-names.ensures.numbers told root))
    before
