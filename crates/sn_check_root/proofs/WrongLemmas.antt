-- What is reported of a part is so of the whole.
use Rattle.std.proofs.Common.{◌≡◌, ◌≢◌, ℕ, ◌+◌, ◌*◌, ◌<◌, ◌≤◌, List, [], ◌++◌, refl, ap, arith, Option}
use Rattle.std.specs.Prelude.{Result, Ok, Err}
use Rattle.sn_model.specs.declared.fault.Damage.{Damage}
use Rattle.sn_ondisk.specs.Counts.{times}
use Rattle.sn_ondisk.specs.Trees.{Store, tree_reach}
use Rattle.sn_ondisk.proofs.CountLemmas.{times-append}
use Rattle.sn_layout.specs.declared.tree.BlockTree.{BlockTree}
use Rattle.sn_tree_read.specs.declared.fault.TreeFault.{TreeFault}
use Rattle.sn_tree_read.specs.declared.fault.TreeFault.TheVariants as tree
use Rattle.sn_tree_read.specs.Laws.{ReachedBlocksLie}
use Rattle.sn_marks.specs.Marks.{Marks, IsAstray}
use Rattle.sn_marks.specs.Trees.{StandsInTree}
use Rattle.sn_marks.specs.Trees as trees
use Rattle.sn_device.specs.declared.status.Status.{Status}
use Rattle.sn_block.specs.declared.fault.ReadFault.{ReadFault}
use Rattle.sn_block.specs.declared.fault.ReadFault.TheVariants as read
use Rattle.sn_marks.specs.Fault.{CountsCheck, Tells}
use Rattle.sn_marks.specs.declared.fault.CheckFault.TheVariants as check
use Rattle.sn_marks.specs.declared.fault.CheckFault.{CheckFault}
use Rattle.sn_marks.proofs.MarkLemmas.{marks_joined, marks_none, astray_behind}
use Rattle.sn_sound.specs.Faults.{IsTreeFault}
use Rattle.sn_check_root.specs.Reading.{TreeLies, fault_at}
use Rattle.sn_check_root.specs.Rules.{Breaks, breaks, IsSpeltWrong, misspelt as spelt, IsWrong, astray, misspelt}

module _ (n k : ℕ) where
  pub marks_append : (xs ys a b c : List ℕ) → Marks n k xs a b → Marks n k ys b c → Marks n k (xs ++ ys) a c
  marks_append xs ys a b c first second = marks_joined n k xs ys (xs ++ ys) a b c (λ block. times-append block xs ys) first second

  -- after blocks that were gone through
  pub wrong_behind : (xs ys zs a b : List ℕ) (P Q : ℕ → Type 0) (damage : Damage) (block : ℕ) → ((x : ℕ) → times x xs + times x ys ≤ times x zs) → ((x : ℕ) → P x → Q x)
      → Marks n k xs a b → IsWrong n k ys b P damage block → IsWrong n k zs a Q damage block
  wrong_behind xs ys zs a b P Q _ _ sum weaker marks (astray damage block wrong) = astray damage block (astray_behind n k xs ys zs a b damage block sum marks wrong)
  wrong_behind xs ys zs a b P Q _ _ sum weaker marks (misspelt block wrong) = misspelt block (weaker block wrong)

  pub wrong_among : (ys zs a : List ℕ) (P Q : ℕ → Type 0) (damage : Damage) (block : ℕ) → ((x : ℕ) → times x ys ≤ times x zs) → ((x : ℕ) → P x → Q x)
      → IsWrong n k ys a P damage block → IsWrong n k zs a Q damage block
  wrong_among ys zs a P Q damage block sum weaker wrong = wrong_behind [] ys zs a a P Q damage block (λ x. omega (arith, sum x)) weaker (marks_none n k [] a (λ x. refl)) wrong

  -- in front
  pub wrong_front : (ys zs a : List ℕ) (P Q : ℕ → Type 0) (damage : Damage) (block : ℕ) → ((x : ℕ) → P x → Q x)
      → IsWrong n k ys a P damage block → IsWrong n k (ys ++ zs) a Q damage block
  wrong_front ys zs a P Q damage block weaker wrong = wrong_among ys (ys ++ zs) a P Q damage block (λ x. omega (arith, times-append x ys zs)) weaker wrong

  pub wrong_back : (xs ys a b : List ℕ) (P Q : ℕ → Type 0) (damage : Damage) (block : ℕ) → ((x : ℕ) → P x → Q x)
      → Marks n k xs a b → IsWrong n k ys b P damage block → IsWrong n k (xs ++ ys) a Q damage block
  wrong_back xs ys a b P Q damage block weaker marks wrong = wrong_behind xs ys (xs ++ ys) a b P Q damage block (λ x. omega (arith, times-append x xs ys)) weaker marks wrong

  -- what is misspelt after marks
  pub wrong_spelt : (ys a : List ℕ) (P Q : ℕ → Type 0) (damage : Damage) (block : ℕ) → ((x : ℕ) → P x → Q x) → IsSpeltWrong P damage block → IsWrong n k ys a Q damage block
  wrong_spelt ys a P Q _ _ weaker (spelt block wrong) = misspelt block (weaker block wrong)

  pub wrong_weaker : (ys a : List ℕ) (P Q : ℕ → Type 0) (damage : Damage) (block : ℕ) → ((x : ℕ) → P x → Q x) → IsWrong n k ys a P damage block → IsWrong n k ys a Q damage block
  wrong_weaker ys a P Q _ _ weaker (astray damage block wrong) = astray damage block wrong
  wrong_weaker ys a P Q _ _ weaker (misspelt block wrong) = misspelt block (weaker block wrong)

  pub wrong_astray : (ys a : List ℕ) (Q : ℕ → Type 0) (damage : Damage) (block : ℕ) → IsAstray n k ys a damage block → IsWrong n k ys a Q damage block
  wrong_astray ys a Q damage block wrong = astray damage block wrong

  pub wrong_tree : (s : Store) (it : BlockTree) (top : ℕ) (a : List ℕ) (Q : ℕ → Type 0) (damage : Damage) (block : ℕ) → ((x : ℕ) → IsTreeFault s it top x → Q x)
      → StandsInTree n k s it top a damage block → IsWrong n k (tree_reach s it) a Q damage block
  wrong_tree s it top a Q _ _ weaker (trees.astray damage block wrong) = astray damage block wrong
  wrong_tree s it top a Q _ _ weaker (trees.misspelt block wrong) = misspelt block (weaker block wrong)

  pub wrong_rule : (Rule : Type 0) (ys a : List ℕ) (Q : ℕ → Type 0) (at : ℕ) (damage : Damage) (block : ℕ) → ((Rule → ⊥) → Q at) → Breaks Rule at damage block → IsWrong n k ys a Q damage block
  wrong_rule Rule ys a Q at _ _ weaker (breaks wrong) = misspelt at (weaker wrong)

  -- a tree that was gone through is on a device that has the data area
  pub tree_lies : ReachedBlocksLie → (sectors : ℕ) (s : Store) (it : BlockTree) (a b : List ℕ) → 8 * n ≤ sectors → Marks n k (tree_reach s it) a b → TreeLies sectors s it
  tree_lies law sectors s it a b room marks = law sectors s it (λ block among. fits block (marks.within block among).below)
    where
      fits : (block : ℕ) → block < n → 8 * block + 8 ≤ sectors
      fits block under = omega (arith, under, room)

-- ---- what is reported

pub spelt_rule : (Rule : Type 0) (Q : ℕ → Type 0) (at : ℕ) (damage : Damage) (block : ℕ) → ((Rule → ⊥) → Q at) → Breaks Rule at damage block → IsSpeltWrong Q damage block
spelt_rule Rule Q at _ _ weaker (breaks wrong) = spelt at (weaker wrong)

pub spelt_weaker : (P Q : ℕ → Type 0) (damage : Damage) (block : ℕ) → ((x : ℕ) → P x → Q x) → IsSpeltWrong P damage block → IsSpeltWrong Q damage block
spelt_weaker P Q _ _ weaker (spelt block wrong) = spelt block (weaker block wrong)

-- a reader's fault, where what it reads is reported to be wrong only where a rule is broken
pub rule_told : (Rule : Type 0) (block : ℕ) (fault : TreeFault) → ((found : Option ℕ) → fault ≡ tree.Damaged found → Rule → ⊥) → Tells (fault_at block fault) (Breaks Rule block)
rule_told Rule block (tree.Read fault) wrong = tt
rule_told Rule block (tree.Damaged found) wrong = breaks (wrong found refl)

pub never_told : (block : ℕ) (fault : TreeFault) → ((found : Option ℕ) → fault ≡ tree.Damaged found → ⊥) → Tells (fault_at block fault) (λ damage at. ⊥)
never_told block (tree.Read fault) wrong = tt
never_told block (tree.Damaged found) wrong = wrong found refl

pub breaks_weaker : (P Q : Type 0) (at : ℕ) (damage : Damage) (block : ℕ) → (Q → P) → Breaks P at damage block → Breaks Q at damage block
breaks_weaker P Q at _ _ stronger (breaks wrong) = breaks (λ q. wrong (stronger q))

-- what reads nothing counts nothing
pub counts_own : {T : Type 0} (result : Result T CheckFault) (old new : Status) → new ≡ old → ((fault : ReadFault) → result ≢ Err (check.Read fault)) → CountsCheck result old new
counts_own (Ok x) old new same none = record {
  done = same;
  sectors = ap (λ (s : Status). s.sectors) same;
  damaged = λ damage block is. same;
  memory = λ is. same;
  device = λ is. absurd (none read.Device is);
}
counts_own (Err fault) old new same none = record {
  done = tt;
  sectors = ap (λ (s : Status). s.sectors) same;
  damaged = λ damage block is. same;
  memory = λ is. same;
  device = λ is. absurd (none read.Device is);
}
