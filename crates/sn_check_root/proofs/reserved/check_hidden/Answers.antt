use Rattle.std.proofs.Common.{◌≡◌, ℕ, ◌<◌, ◌/◌, List, Err, None, sym, ap, subst}
use Rattle.std.specs.Prelude.{codes}
use Rattle.sn_device.specs.Disk.{reads}
use Rattle.sn_block.specs.Lending.{device_of}
use Rattle.sn_layout_node.specs.Directory.{Link, number_of}
use Rattle.sn_layout_node.specs.declared.content.Content.TheVariants.{Tree}
use Rattle.sn_ondisk.specs.Trees.{Store, store_of}
use Rattle.sn_layout.specs.declared.tree.BlockTree.{BlockTree}
use Rattle.sn_image.specs.Names.{names_of}
use Rattle.sn_dir.specs.Blocks.{CanRead, IsDamaged}
use Rattle.sn_marks.specs.Fault.{Tells}
use Rattle.sn_marks.specs.declared.fault.CheckFault.{CheckFault}
use Rattle.sn_check_root.specs.Rules.{Breaks, breaks}
use Rattle.sn_check_root.proofs.WrongLemmas.{rule_told}
use Rattle.sn_dir.proofs.BlockLemmas.{somewhere}
use Rattle.sn_check_root.proofs.reserved.check_hidden.Goals as goal

-- a directory whose blocks can be read isn't damaged
none_damaged : (IsOpen : List Link → Type 0) (sectors : ℕ) (s : Store) (tree : BlockTree) → ((i : ℕ) → i < tree.size / 4096 → CanRead sectors s tree i) → IsDamaged IsOpen sectors s tree → ⊥
none_damaged IsOpen sectors s tree can (i, within, still, wrong) = wrong (can i within)

pub returns-in-Err-clause-fault : goal.returns-in-Err-clause-fault
returns-in-Err-clause-fault g c told =
    let s = store_of (reads (g.D.Device.disk (device_of c.args.blocks.now))) in
    let Rule = number_of (codes ".snapshot") (names_of s (Tree c.args.tree.now)) ≡ None in
    subst (λ (f : CheckFault). Tells f (Breaks Rule c.args.top)) (sym c.fault_at.ensures)
    (rule_told Rule c.args.top c.in-Err.fault (λ found is never. none_damaged (λ names. number_of (codes ".snapshot") names ≡ None) _ _ _ (c.requires.read told) (somewhere (λ names. number_of (codes ".snapshot") names ≡ None) _ _ _ _ (c.in-Err.ensures.damaged told found (ap (λ f. Err f) is)))))

pub returns-in-Ok-Some-clause-fault : goal.returns-in-Ok-Some-clause-fault
returns-in-Ok-Some-clause-fault g c told =
    let s = store_of (reads (g.D.Device.disk (device_of c.args.blocks.now))) in
    let Rule = number_of (codes ".snapshot") (names_of s (Tree c.args.tree.now)) ≡ None in
    subst (λ (f : CheckFault). Tells f (Breaks Rule c.args.top)) (sym c.misspelt.ensures)
    (breaks (λ (none : Rule). absurd (cc (c.in-Ok-Some.field-0-is, c.in-Ok-Some.ensures.number told, none))))
