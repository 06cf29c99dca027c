use Rattle.std.proofs.Common.{◌≡◌, None, ap, sym, subst, ◌∙◌}
use Rattle.std.specs.Prelude.{codes}
use Rattle.std.proofs.lemmas.Result.{on_ok_weaker}
use Rattle.sn_device.specs.Disk.{reads}
use Rattle.sn_block.specs.Lending.{device_of}
use Rattle.sn_limits.specs.declared.kind.Kind.TheVariants.{Directory}
use Rattle.sn_layout_node.specs.Directory.{number_of}
use Rattle.sn_layout_node.specs.declared.content.Content.{Content}
use Rattle.sn_ondisk.specs.Trees.{store_of}
use Rattle.sn_image.specs.Names.{names_of}
use Rattle.sn_image.specs.Sound.{HasContent}
use Rattle.sn_marks.specs.Fault.{Tells}
use Rattle.sn_marks.specs.declared.fault.CheckFault.{CheckFault}
use Rattle.sn_marks.proofs.WalkLemmas.{told_weaker}
use Rattle.sn_check_root.specs.Rules.{Breaks, breaks}
use Rattle.sn_check_root.proofs.WrongLemmas.{breaks_weaker}
use Rattle.sn_check_root.proofs.reserved.check_root_content.Goals as goal

pub returns-in-Inline-clause-fault : goal.returns-in-Inline-clause-fault
returns-in-Inline-clause-fault g c told =
    let s = store_of (reads (g.D.Device.disk (device_of c.args.blocks.now))) in
    let Rule = HasContent s Directory c.args.content.now × (number_of (codes ".snapshot") (names_of s c.args.content.now) ≡ None) in
    subst (λ (f : CheckFault). Tells f (Breaks Rule c.args.top)) (sym c.misspelt.ensures)
    (breaks (λ (both : Rule). subst (HasContent s Directory) c.in-Inline.is both.0))

pub check_hidden-requires : goal.check_hidden-requires
check_hidden-requires g c = record { read = λ told. c.requires.read told _ c.in-Tree.is }

pub returns-in-Tree-clause-hidden : goal.returns-in-Tree-clause-hidden
returns-in-Tree-clause-hidden g c told =
    let s = store_of (reads (g.D.Device.disk (device_of c.args.blocks.now))) in
    on_ok_weaker c.check_hidden.result (λ hidden. ap (λ (it : Content). number_of (codes ".snapshot") (names_of s it)) c.in-Tree.is ∙ hidden) (c.check_hidden.ensures.hidden told)

pub returns-in-Tree-clause-fault : goal.returns-in-Tree-clause-fault
returns-in-Tree-clause-fault g c told =
    let s = store_of (reads (g.D.Device.disk (device_of c.args.blocks.now))) in
    let Rule = HasContent s Directory c.args.content.now × (number_of (codes ".snapshot") (names_of s c.args.content.now) ≡ None) in
    told_weaker c.check_hidden.result _ (Breaks Rule c.args.top)
    (λ damage block broken. breaks_weaker _ Rule c.args.top damage block (λ (both : Rule). ap (λ (it : Content). number_of (codes ".snapshot") (names_of s it)) (sym c.in-Tree.is) ∙ both.1) broken)
    (c.check_hidden.ensures.fault told)
