use Rattle.std.proofs.Common.{◌≡◌, ℕ, suc, ◌+◌, List, [], ◌∷◌, length, get_or, take, drop, refl, sym, ap, subst, ◌∙◌, arith, IsTrue}
use Rattle.std.specs.Prelude.{Err}
use Rattle.std.proofs.lemmas.Result.{err_from_is_err_and}
use Rattle.sn_device.specs.Disk.{Disk, reads}
use Rattle.sn_block.specs.Lending.{device_of}
use Rattle.sn_ondisk.specs.Trees.{Store, store_of, below, all_pointers}
use Rattle.sn_tree_read.specs.declared.fault.TreeFault.TheVariants.{Damaged}
use Rattle.sn_tree.specs.Fronts.{IsCut, IsLowered}
use Rattle.sn_tree.specs.Steps.{LeadsOutsideAt}
use Rattle.sn_tree.specs.declared.fault.PlanFault.TheVariants.{Tree}
use Rattle.sn_tree.proofs.FaultLemmas.{outside_here, outside_among}
use Rattle.sn_tree.proofs.LevelLemmas.{lowered_to, outside_beside, outside_behind}
use Rattle.sn_tree.proofs.levels.lower.Goals as goal

-- sixteen pointers are the first one and those beside it
parted : (ps rest : List ℕ) (p : ℕ) → length ps ≡ 16 → rest ≡ drop 1 ps → p ≡ get_or ps 0 0 → ps ≡ p ∷ rest
parted [] rest p count is first = absurd (omega (arith, count))
parted (q ∷ qs) rest p count is first = ap (λ (x : ℕ). x ∷ qs) (sym first) ∙ ap (λ (xs : List ℕ). p ∷ xs) (sym is)

pub returns-clause-lowered : goal.returns-clause-lowered
returns-clause-lowered g c =
    let Told = IsTrue g.D.Device.tells_bytes in
    let depth = c.args.depth in
    let s = store_of (reads (g.D.Device.disk (device_of c.args.blocks.now))) in
    let t = store_of (reads (g.D.Device.disk (device_of c.release_pointers.new.blocks))) in
    let r = store_of (reads (g.D.Device.disk (device_of c.copy_below.new.blocks))) in
    let p = get_or c.args.pointers.now 0 0 in
    let rest = c.beside_of-beside.result in
    let qs = c.list.new.numbers in
    let t_same : Told → t ≡ s = (λ told. ap (λ (d : Disk). store_of (reads d)) (c.release_pointers.ensures.same told)) in
    let r_same : Told → r ≡ s = (λ told. ap (λ (d : Disk). store_of (reads d)) (c.copy_below.ensures.same told) ∙ t_same told) in
    let is : Told → qs ≡ below s p = (λ told. c.list.ensures ∙ c.in_ok-copy.ensures.pointers told ∙ ap (λ (q : Store). below q p) (t_same told)) in
    let whole : c.args.pointers.now ≡ p ∷ rest = parted c.args.pointers.now rest p (omega arith) c.beside_of-beside.ensures refl in
    let up : depth + 1 ≡ suc depth = omega arith in
    let first : IsCut Told s (suc depth) rest c.args.build.now c.release_pointers.new.build = subst (λ (d : ℕ). IsCut Told s d rest c.args.build.now c.release_pointers.new.build) up c.in_ok-release_pointers.ensures.cut in
    let second : IsCut Told r depth (drop 16 qs) c.release_pointers.new.build c.release_pointers-2.new.build = subst (λ (ps : List ℕ). IsCut Told r depth ps c.release_pointers.new.build c.release_pointers-2.new.build) c.behind_of-behind.ensures c.in_ok-release_pointers-2.ensures.cut in
    subst (λ (ps : List ℕ). IsLowered Told s depth c.args.pointers.now ps c.args.build.now c.release.new.self) (sym c.front_of.ensures)
    (subst (λ (ps : List ℕ). IsLowered Told s depth ps (take 16 qs) c.args.build.now c.release.new.self) (sym whole)
    (lowered_to Told s depth p rest qs is (ap (λ (ps : List ℕ). length ps) c.list.ensures ∙ c.in_ok-copy.ensures.count) s r c.args.build.now c.release_pointers.new.build c.release_pointers-2.new.build c.release.new.self (λ _. refl) r_same first second c.in_ok-release.ensures.ok))

pub returns-in_err-release_pointers-clause-damaged : goal.returns-in_err-release_pointers-clause-damaged
returns-in_err-release_pointers-clause-damaged g c told block is =
    let sectors = (g.D.Device.status (device_of c.args.blocks.now)).sectors in
    let s = store_of (reads (g.D.Device.disk (device_of c.args.blocks.now))) in
    let rest = c.beside_of-beside.result in
    let f = err_from_is_err_and c.from_residual.result c.from_residual.ensures.1 in
    let fault : c.in_err-release_pointers.field-0.0 ≡ Tree (Damaged block) = cc (f.1, f.2) in
    let leads = c.in_err-release_pointers.ensures.damaged told block (ap (λ fault. Err fault) fault) in
    let p = get_or c.args.pointers.now 0 0 in
    let whole : c.args.pointers.now ≡ p ∷ rest = parted c.args.pointers.now rest p (omega arith) c.beside_of-beside.ensures refl in
    subst (λ (ps : List ℕ). LeadsOutsideAt sectors (all_pointers s (c.args.depth + 1) ps) block) (sym whole) (outside_beside s (c.args.depth + 1) p rest sectors leads)

pub returns-in_err-copy-clause-damaged : goal.returns-in_err-copy-clause-damaged
returns-in_err-copy-clause-damaged g c told block is =
    let sectors = (g.D.Device.status (device_of c.args.blocks.now)).sectors in
    let s = store_of (reads (g.D.Device.disk (device_of c.args.blocks.now))) in
    let depth = c.args.depth in
    let rest = c.beside_of-beside.result in
    let f = err_from_is_err_and c.from_residual-in_err-copy.result c.from_residual-in_err-copy.ensures.1 in
    let fault : c.in_err-copy.field-0.0 ≡ Damaged block = cc (f.1, f.2) in
    let off = c.in_err-copy.ensures.damaged block (ap (λ fault. Err fault) fault) in
    let p = get_or c.args.pointers.now 0 0 in
    let whole : c.args.pointers.now ≡ p ∷ rest = parted c.args.pointers.now rest p (omega arith) c.beside_of-beside.ensures refl in
    let up : suc depth ≡ depth + 1 = omega arith in
    let here : LeadsOutsideAt sectors (all_pointers s (suc depth) (p ∷ [])) block = subst (λ (n : ℕ). LeadsOutsideAt n (all_pointers s (suc depth) (p ∷ [])) block) c.release_pointers.ensures.counts.sectors (outside_here _ s depth p off) in
    subst (λ (ps : List ℕ). LeadsOutsideAt sectors (all_pointers s (depth + 1) ps) block) (sym whole)
    (subst (λ (d : ℕ). LeadsOutsideAt sectors (all_pointers s d (p ∷ rest)) block) up (outside_among sectors s (suc depth) [] rest p here))

pub returns-in_err-release_pointers-2-clause-damaged : goal.returns-in_err-release_pointers-2-clause-damaged
returns-in_err-release_pointers-2-clause-damaged g c told block is =
    let Told = IsTrue g.D.Device.tells_bytes in
    let sectors = (g.D.Device.status (device_of c.args.blocks.now)).sectors in
    let depth = c.args.depth in
    let s = store_of (reads (g.D.Device.disk (device_of c.args.blocks.now))) in
    let t = store_of (reads (g.D.Device.disk (device_of c.release_pointers.new.blocks))) in
    let r = store_of (reads (g.D.Device.disk (device_of c.copy_below.new.blocks))) in
    let rest = c.beside_of-beside.result in
    let qs = c.list.new.numbers in
    let f = err_from_is_err_and c.from_residual-in_err-release_pointers-2.result c.from_residual-in_err-release_pointers-2.ensures.1 in
    let fault : c.in_err-release_pointers-2.field-0.0 ≡ Tree (Damaged block) = cc (f.1, f.2) in
    let leads = c.in_err-release_pointers-2.ensures.damaged told block (ap (λ fault. Err fault) fault) in
    let p = get_or c.args.pointers.now 0 0 in
    let whole : c.args.pointers.now ≡ p ∷ rest = parted c.args.pointers.now rest p (omega arith) c.beside_of-beside.ensures refl in
    let t_same : t ≡ s = ap (λ (d : Disk). store_of (reads d)) (c.release_pointers.ensures.same told) in
    let r_same : r ≡ s = ap (λ (d : Disk). store_of (reads d)) (c.copy_below.ensures.same told) ∙ t_same in
    let is : qs ≡ below s p = c.list.ensures ∙ c.in_ok-copy.ensures.pointers told ∙ ap (λ (q : Store). below q p) t_same in
    let count : (g.D.Device.status (device_of c.copy_below.new.blocks)).sectors ≡ sectors = c.copy_below.ensures.counts.sectors ∙ c.release_pointers.ensures.counts.sectors in
    let up : suc depth ≡ depth + 1 = omega arith in
    let there : LeadsOutsideAt sectors (all_pointers s depth (drop 16 qs)) block =
    subst (λ (ps : List ℕ). LeadsOutsideAt sectors (all_pointers s depth ps) block) c.behind_of-behind.ensures
    (subst (λ (q : Store). LeadsOutsideAt sectors (all_pointers q depth c.behind_of-behind.result) block) r_same
    (subst (λ (n : ℕ). LeadsOutsideAt n (all_pointers r depth c.behind_of-behind.result) block) count leads)) in
    subst (λ (ps : List ℕ). LeadsOutsideAt sectors (all_pointers s (depth + 1) ps) block) (sym whole)
    (subst (λ (d : ℕ). LeadsOutsideAt sectors (all_pointers s d (p ∷ rest)) block) up (outside_behind s depth p rest qs is sectors there))
