use Rattle.std.proofs.Common.{◌∙◌, sym, ap, subst}
use Rattle.sn_layout.specs.Snapshot.{AreSnapshots}
use Rattle.sn_layout.specs.declared.snapshot.Snapshot.{Snapshot}
use Rattle.sn_snap.specs.Catalogue.{IsCatalogue, catalogue, entry_of}
use Rattle.sn_snap.proofs.NameLemmas.{absent, by_name-with}
use Rattle.sn_snap.proofs.HeldLemmas.{catalogue_with, held_with}
use Rattle.sn_snap.proofs.changing.add.Goals as goal

pub returns-clause-entries : goal.returns-clause-entries
returns-clause-entries c =
    let s : Snapshot = record { bit = c.args.bit; name = c.args.name; tree = c.args.tree } in
    ap catalogue c.insert.ensures.inserted ∙ by_name-with entry_of s c.args.snapshots (absent entry_of c.args.snapshots c.args.name c.requires.new_name)

pub returns-clause-catalogue : goal.returns-clause-catalogue
returns-clause-catalogue c =
    let s : Snapshot = record { bit = c.args.bit; name = c.args.name; tree = c.args.tree } in
    subst IsCatalogue (sym c.insert.ensures.inserted)
    (catalogue_with s c.args.snapshots c.requires.catalogue (record { from_one = c.requires.from_one; bit = c.requires.new_bit; name = c.requires.new_name }))

pub returns-clause-held : goal.returns-clause-held
returns-clause-held c = λ limits are room within.
    let s : Snapshot = record { bit = c.args.bit; name = c.args.name; tree = c.args.tree } in
    subst (AreSnapshots limits) (sym c.insert.ensures.inserted)
    (held_with limits s c.args.snapshots are (record { bit = c.ranges.bit.fits; name = c.as_bytes.ensures.valid; tree = c.fits.ensures })
    (record { from_one = c.requires.from_one; bit = c.requires.new_bit; name = c.requires.new_name }) room within)
