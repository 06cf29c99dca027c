-- A store in which new blocks were put, which has what the old one has in all that a root reaches.
use Rattle.std.proofs.Common.{◌≡◌, ◌≢◌, ℕ, ◌==◌, Bool, if◌then◌else◌, List, [], ◌∷◌, ◌++◌, refl, sym, ap, subst, ◌∙◌}
use Rattle.std.specs.Prelude.{Contains}
use Rattle.std.specs.List.Sorted.{IsStrictlyIncreasing}
use Rattle.std.proofs.lemmas.Bool.{eq-eqb, ne_eqb}
use Rattle.std.proofs.lemmas.List.Elements.{All-nil, All-cons, All-contains, All-head, All-tail}
use Rattle.sn_alloc.specs.Taking.{IsFreeData}
use Rattle.sn_device.proofs.SectorLemmas.{Contains-first, Contains-more}
use Rattle.sn_image.specs.Reach.{reach, reach_at}
use Rattle.sn_image.proofs.ReachLemmas.{reach_parts}
use Rattle.sn_layout.specs.declared.tree.BlockTree.{BlockTree}
use Rattle.sn_ondisk.specs.TreeLaws.{SameIn}
use Rattle.sn_ondisk.specs.Trees.{Store}
use Rattle.sn_tree.specs.Drafts.{Draft, grown, numbers_of}
use Rattle.sn_tree.specs.Plans.{Holds}
use Rattle.sn_tree.specs.declared.new_block.NewBlock.{NewBlock}
use Rattle.sn_cp_nodes.specs.Built.{KeepsReach}
use Rattle.sn_cp_nodes.specs.Made.{HasTaken}
use Rattle.sn_cp_nodes.proofs.RiseLemmas.{first_apart, rest_rises}

-- ---- new blocks that are in their places

abbrev Stands : Store → NewBlock → Type 0
Stands r block = r block.number ≡ block.bytes.value

pub holds_parts : (r : Store) (a b : List NewBlock) → Holds r (a ++ b) → Holds r a × Holds r b
holds_parts r [] b holds = (All-nil (Stands r), holds)
holds_parts r (x ∷ a) b holds =
    let rest = holds_parts r a b (All-tail (Stands r) x (a ++ b) holds) in
    (All-cons (Stands r) x a (All-head (Stands r) x (a ++ b) holds) rest.0, rest.1)

-- ---- a store in which they were put

abbrev put_one : NewBlock → Store → ℕ → List ℕ
put_one new s block = if new.number == block then new.bytes.value else s block

abbrev pub put_in : List NewBlock → Store → Store
put_in [] s = s
put_in (new ∷ rest) s = put_one new (put_in rest s)

put_there : (new : NewBlock) (s : Store) → put_one new s new.number ≡ new.bytes.value
put_there new s = ap (λ (b : Bool). if b then new.bytes.value else s new.number) (eq-eqb new.number new.number refl)

put_beside : (new : NewBlock) (s : Store) (block : ℕ) → new.number ≢ block → put_one new s block ≡ s block
put_beside new s block other = ap (λ (b : Bool). if b then new.bytes.value else s block) (ne_eqb new.number block other)

pub put_elsewhere : (added : List NewBlock) (s : Store) (block : ℕ) → ¬ Contains (numbers_of added) block → put_in added s block ≡ s block
put_elsewhere [] s block apart = refl
put_elsewhere (new ∷ rest) s block apart =
    put_beside new (put_in rest s) block (λ same. apart (subst (Contains (new.number ∷ numbers_of rest)) same (Contains-first new.number (numbers_of rest))))
    ∙ put_elsewhere rest s block (λ among. apart (Contains-more new.number (numbers_of rest) block among))

-- blocks of other numbers are where they were
still_hold : (new : NewBlock) (r : Store) (xs : List NewBlock) → ¬ Contains (numbers_of xs) new.number → Holds r xs → Holds (put_one new r) xs
still_hold new r [] apart holds = All-nil (Stands (put_one new r))
still_hold new r (x ∷ xs) apart holds =
    let other : new.number ≢ x.number = λ same. apart (subst (Contains (x.number ∷ numbers_of xs)) (sym same) (Contains-first x.number (numbers_of xs))) in
    All-cons (Stands (put_one new r)) x xs (put_beside new r x.number other ∙ All-head (Stands r) x xs holds)
    (still_hold new r xs (λ among. apart (Contains-more x.number (numbers_of xs) new.number among)) (All-tail (Stands r) x xs holds))

pub put_holds : (added : List NewBlock) (s : Store) → IsStrictlyIncreasing (numbers_of added) → Holds (put_in added s) added
put_holds [] s rise = All-nil (Stands s)
put_holds (new ∷ rest) s rise =
    All-cons (Stands (put_one new (put_in rest s))) new rest (put_there new (put_in rest s))
    (still_hold new (put_in rest s) rest (first_apart new.number (numbers_of rest) rise) (put_holds rest s (rest_rises new.number (numbers_of rest) rise)))

-- ---- what a root reaches

pub of_number : (s r : Store) (file : BlockTree) (number : ℕ) → SameIn (reach s file) s r → SameIn (reach_at s file number) s r
of_number s r file number same block among = same block ((reach_parts s file block).1 number among)

module _ (s : Store) (file : BlockTree) (draft behind : Draft) (kept : KeepsReach s file draft) (added : List NewBlock) (released : List ℕ) (grew : behind ≡ grown draft added released) where
  -- no block that it reaches can be taken later
  pub keeps_grown : KeepsReach s file behind
  keeps_grown block among free = kept block among (subst (λ (d : Draft). IsFreeData d.words d.first block) grew free)

  -- a store that has the new blocks, and is as before in what the root reaches
  pub with_new : HasTaken behind → (r : Store) × SameIn (reach s file) s r × Holds r added
  with_new taken = (
    put_in behind.added s,
    (λ block among. put_elsewhere behind.added s block (λ newly. keeps_grown block among (All-contains (IsFreeData behind.words behind.first) (numbers_of behind.added) block taken.free newly))),
    (holds_parts (put_in behind.added s) draft.added added (subst (Holds (put_in behind.added s)) (ap (λ (d : Draft). d.added) grew) (put_holds behind.added s taken.rise))).1,
  )
