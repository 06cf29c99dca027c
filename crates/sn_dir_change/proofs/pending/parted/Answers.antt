use Rattle.std.proofs.Common.{◌≡◌, List, length, map, sym, ap, subst, ◌∙◌, arith}
use Rattle.std.proofs.lemmas.List.{length-map}
use Rattle.sn_device.specs.Disk.{reads}
use Rattle.sn_block.specs.Lending.{device_of}
use Rattle.sn_layout_node.specs.declared.content.Content.TheVariants.{Tree}
use Rattle.sn_ondisk.specs.Trees.{store_of}
use Rattle.sn_image.specs.Names.{names_of}
use Rattle.sn_dir_change.specs.Changes.{AreLinkChanges}
use Rattle.sn_dir_change.specs.Standing.{change_of}
use Rattle.sn_dir_change.specs.declared.name_change.NameChange.{NameChange as TheChange}
use Rattle.sn_dir_change.specs.declared.standing.Sought.{Sought}
use Rattle.sn_dir_change.proofs.PartLemmas.{parted_way}
use Rattle.sn_dir_change.proofs.pending.parted.Goals as goal

pub of-requires : goal.of-requires
of-requires g c = subst AreLinkChanges (sym (ap (λ (xs : List Sought). map change_of xs) c.deref.ensures.value ∙ c.in_ok-sought.ensures.listed)) c.requires.each

pub returns-clause-way : goal.returns-clause-way
returns-clause-way g c = λ told once.
    let names = names_of (store_of (reads (g.D.Device.disk (device_of c.args.blocks.now)))) (Tree c.args.tree.now) in
    parted_way names c.args.changes.now _ _ (c.in_ok-pending.ensures.parted names c.args.changes.now (c.deref.ensures.value ∙ c.in_ok-sought.ensures.sought told)) c.requires.once once

pub returns-clause-few : goal.returns-clause-few
returns-clause-few g c =
    let size : length c.in_ok-sought.sought.items ≡ length c.args.changes.now =
    sym (length-map c.in_ok-sought.sought.items change_of) ∙ ap (λ (xs : List TheChange). length xs) c.in_ok-sought.ensures.listed in
    omega (arith, size, c.in_ok-pending.ensures.few, ap (λ (xs : List Sought). length xs) c.deref.ensures.value)

pub returns-clause-needed : goal.returns-clause-needed
returns-clause-needed g c = λ told. c.in_ok-pending.ensures.needed _ c.args.changes.now (c.deref.ensures.value ∙ c.in_ok-sought.ensures.sought told)
