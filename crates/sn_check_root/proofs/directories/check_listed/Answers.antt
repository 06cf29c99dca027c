use Rattle.std.proofs.Common.{◌≡◌, List, map, refl, sym, subst}
use Rattle.std.proofs.lemmas.Result.{err_from_is_err_and}
use Rattle.std.specs.Prelude.{⊤}
use Rattle.sn_device.specs.Disk.{reads}
use Rattle.sn_block.specs.Lending.{device_of}
use Rattle.sn_layout_node.specs.declared.content.Content.TheVariants.{Tree}
use Rattle.sn_ondisk.specs.Trees.{store_of}
use Rattle.sn_image.specs.Names.{names_of}
use Rattle.sn_image.specs.Sound.{AreOnce}
use Rattle.sn_dir.specs.Listed.{link_of}
use Rattle.sn_dir.specs.declared.listings.ListedName.{ListedName}
use Rattle.sn_dir.specs.Blocks.{IsDamaged}
use Rattle.sn_marks.specs.Fault.{Tells}
use Rattle.sn_marks.specs.declared.fault.CheckFault.{CheckFault}
use Rattle.sn_marks.proofs.WalkLemmas.{tells_weaker}
use Rattle.sn_check_root.specs.Rules.{Breaks, IsSpeltWrong, misspelt, StandsTwice}
use Rattle.sn_check_root.proofs.NameLemmas.{once_alike, twice_alike}
use Rattle.sn_check_root.proofs.WrongLemmas.{spelt_rule}
use Rattle.sn_check_root.proofs.directories.check_listed.Goals as goal

pub returns-in_err-names-clause-fault : goal.returns-in_err-names-clause-fault
returns-in_err-names-clause-fault g c told whole =
    let s = store_of (reads (g.D.Device.disk (device_of c.args.blocks.now))) in
    let n = (g.D.Device.status (device_of c.args.blocks.now)).sectors in
    let p = err_from_is_err_and c.from_residual.result c.from_residual.ensures.1 in
    rw (p.1, p.2) (tells_weaker c.in_err-names.field-0.0
    (Breaks (IsDamaged (λ names. ⊤) n s c.args.tree.now → ⊥) c.args.top)
    (IsSpeltWrong (λ block. (block ≡ c.args.top) × StandsTwice (names_of s (Tree c.args.tree.now))))
    (λ damage block broken. spelt_rule _ _ _ damage block (λ wrong. absurd (wrong whole)) broken)
    (c.in_err-names.ensures.fault told))

pub returns-then-not-are_once-clause-fault : goal.returns-then-not-are_once-clause-fault
returns-then-not-are_once-clause-fault g c told whole =
    let s = store_of (reads (g.D.Device.disk (device_of c.args.blocks.now))) in
    subst (λ (f : CheckFault). Tells f (IsSpeltWrong (λ block. (block ≡ c.args.top) × StandsTwice (names_of s (Tree c.args.tree.now))))) (sym c.misspelt.ensures)
    (misspelt c.args.top (refl, twice_alike _ _ (c.in_ok-names.ensures.names told) (subst (λ (names : List ListedName). StandsTwice (map link_of names)) c.as_slice.ensures.value (c.are_once.ensures.twice c.if-not-are_once.true))))

pub returns-clause-once : goal.returns-clause-once
returns-clause-once g c told = once_alike _ _ (c.in_ok-names.ensures.names told) (subst (λ (names : List ListedName). AreOnce (map link_of names)) c.as_slice.ensures.value (c.are_once.ensures.once c.if-not-are_once.false))
