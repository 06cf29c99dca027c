-- What follows of nodes that were built one after the other.
use Rattle.std.proofs.Common.{◌≡◌, ◌≢◌, ⊎_elim, ℕ, ◌+◌, ◌≤◌, List, [], ◌∷◌, ◌++◌, length, sum_by, Option, None, Some, refl, sym, ap, subst, ◌∙◌, arith}
use Rattle.std.specs.Prelude.{All, Contains}
use Rattle.std.proofs.lemmas.List.{map-append, length-append, append-nil}
use Rattle.std.proofs.lemmas.List.Elements.{All-nil, All-cons, All-append, All-weaker, Contains-append_left, Contains-append_right, Contains-append_cases}
use Rattle.std.proofs.lemmas.List.Sums.{sum_by-append}
use Rattle.sn_device.proofs.SectorLemmas.{Contains-first, Contains-cases}
use Rattle.sn_image.specs.Contents.{content_reach}
use Rattle.sn_image.specs.Image.{image}
use Rattle.sn_image.specs.Inodes.{inode_at}
use Rattle.sn_image.specs.Reach.{reach}
use Rattle.sn_image.proofs.ListLemmas.{none_in}
use Rattle.sn_inode.specs.Changes.{IsChange, IsChanged, numbers_in}
use Rattle.sn_inode.specs.declared.changes.InodeChange.{InodeChange}
use Rattle.sn_layout.specs.declared.tree.BlockTree.{BlockTree}
use Rattle.sn_layout_node.specs.declared.inode.Inode.{Inode}
use Rattle.sn_limits.specs.declared.limits.Limits.{Limits}
use Rattle.sn_ondisk.specs.Counts.{times}
use Rattle.sn_ondisk.specs.TreeLaws.{SameIn}
use Rattle.sn_ondisk.specs.Trees.{Store}
use Rattle.sn_ondisk.proofs.CountLemmas.{times-append}
use Rattle.sn_overlay.specs.Layers.{Layer, through}
use Rattle.sn_tree.specs.Drafts.{Draft, numbers_of as blocks_of, grown}
use Rattle.sn_tree.specs.Plans.{Holds}
use Rattle.sn_tree.specs.declared.new_block.NewBlock.{NewBlock}
use Rattle.sn_tree.proofs.StepLemmas.{grown-grown, grown-none}
use Rattle.sn_cp_nodes.specs.Built.{BuildsNode, IsGround, StandsFor}
use Rattle.sn_cp_nodes.specs.Inodes.{content_in}
use Rattle.sn_cp_nodes.specs.Parts.{content_of}
use Rattle.sn_cp_nodes.proofs.PutLemmas.{holds_parts, of_number}
use Rattle.sn_cp_build.specs.Planned.{AreBuilt, none, more, IsFor, listed, most_for}

-- ---- what was built

-- what the inodes of changes reach then, and what they reached
abbrev pub new_contents : Store → ℕ → List InodeChange → ℕ
new_contents r block changes = sum_by (λ (change : InodeChange). times block (content_reach r (content_in change.record))) changes

abbrev pub old_contents : Store → BlockTree → ℕ → List InodeChange → ℕ
old_contents s file block changes = sum_by (λ (change : InodeChange). times block (content_reach s (content_of (inode_at s file change.number)))) changes

module _ (limits : Limits) (s : Store) (file : BlockTree) (layer : Layer) where
  -- the inode that a change makes is that of the node that is seen
  abbrev pub MakesSeen : Store → InodeChange → Type 0
  MakesSeen r change = (new : Option Inode) → IsChanged r (inode_at s file change.number) change.record new → StandsFor (through layer (image s file)) change.number r new

  -- a number that doesn't change has no inode, and no node is seen there
  abbrev pub StaysUnused : Store → ℕ → Type 0
  StaysUnused r number = (inode_at s file number ≡ None) × StandsFor (through layer (image s file)) number r None

  pub record HasGrown (Told : Type 0) (old : Draft) (numbers : List ℕ) (changes : List InodeChange) (new : Draft) : Type 0 where
    pub added : List NewBlock
    pub released : List ℕ
    pub grew : new ≡ grown old added released
    pub few : length added ≤ sum_by (most_for limits layer) numbers
    pub can : All (IsChange limits) changes
    pub among : All (λ (change : InodeChange). Contains numbers change.number) changes
    pub reaches : Told → (r : Store) → SameIn (reach s file) s r → Holds r added → (block : ℕ) → block ≢ 0
        → new_contents r block changes + times block released ≡ old_contents s file block changes + times block (blocks_of added)
    pub stands : Told → (n : ℕ) → IsGround limits n s file layer → (r : Store) → SameIn (reach s file) s r → Holds r added → All (MakesSeen r) changes
    pub unused : Told → (n : ℕ) → IsGround limits n s file layer → (r : Store) → SameIn (reach s file) s r → Holds r added
        → (number : ℕ) → Contains numbers number → ¬ Contains (numbers_in changes) number → StaysUnused r number

  module _ (Told : Type 0) (old : Draft) where
    nothing : HasGrown Told old [] [] old
    nothing = record {
      added = [];
      released = [];
      grew = grown-none old;
      few = omega arith;
      can = All-nil (IsChange limits);
      among = All-nil (λ (change : InodeChange). Contains [] change.number);
      reaches = λ told r same holds block some. refl;
      stands = λ told n ground r same holds. All-nil (MakesSeen r);
      unused = λ told n ground r same holds number among. none_in number among;
    }

    module _ (numbers : List ℕ) (changes : List InodeChange) (between new : Draft) (number : ℕ) (so_far : HasGrown Told old numbers changes between) where
      wider : (c : InodeChange) → Contains numbers c.number → Contains (numbers ++ number ∷ []) c.number
      wider c among = Contains-append_left numbers (number ∷ []) c.number among

      here : Contains (numbers ++ number ∷ []) number
      here = Contains-append_right numbers (number ∷ []) number (Contains-first number [])

      -- a number that was built before, or the one that is built now
      earlier : {A : Type 0} (k : ℕ) → Contains (numbers ++ number ∷ []) k → (Contains numbers k → A) → (k ≡ number → A) → A
      earlier {A} k among before now = ⊎_elim
          before
          (λ (in_last : Contains (number ∷ []) k). ⊎_elim now (λ (nowhere : Contains [] k). none_in k nowhere) (Contains-cases number [] k in_last))
          (Contains-append_cases numbers (number ∷ []) k among)

      few_more : (added : List NewBlock) → length added ≤ most_for limits layer number → length (so_far.added ++ added) ≤ sum_by (most_for limits layer) (numbers ++ number ∷ [])
      few_more added few = omega (arith, length-append so_far.added added, so_far.few, few, sum_by-append (most_for limits layer) numbers (number ∷ []))

      grew_more : (added : List NewBlock) (released : List ℕ) → new ≡ grown between added released → new ≡ grown old (so_far.added ++ added) (so_far.released ++ released)
      grew_more added released grew = grew ∙ ap (λ (d : Draft). grown d added released) so_far.grew ∙ grown-grown old so_far.added added so_far.released released

      counts : (added : List NewBlock) (released : List ℕ) (block : ℕ)
          → (times block (so_far.released ++ released) ≡ times block so_far.released + times block released)
          × (times block (blocks_of (so_far.added ++ added)) ≡ times block (blocks_of so_far.added) + times block (blocks_of added))
      counts added released block = (
        times-append block so_far.released released,
        ap (times block) (map-append (λ (b : NewBlock). b.number) so_far.added added) ∙ times-append block (blocks_of so_far.added) (blocks_of added),
      )

      -- the number has no inode and gets none
      unchanged : BuildsNode Told limits s file layer number None between new → HasGrown Told old (numbers ++ number ∷ []) changes new
      unchanged builds = record {
        added = so_far.added ++ builds.added;
        released = so_far.released ++ builds.released;
        grew = grew_more builds.added builds.released builds.grew;
        few = few_more builds.added builds.few;
        can = so_far.can;
        among = All-weaker (λ (c : InodeChange). Contains numbers c.number) (λ (c : InodeChange). Contains (numbers ++ number ∷ []) c.number) wider changes so_far.among;
        reaches = λ told r same holds block some.
            let parts = holds_parts r so_far.added builds.added holds in
            let before = so_far.reaches told r same parts.0 block some in
            let step = builds.reach told r (of_number s r file number same) parts.1 block some in
            let unused = ap (λ (o : Option Inode). times block (content_reach s (content_of o))) (builds.none told refl) in
            let both = counts builds.added builds.released block in
            omega (arith, before, step, unused, both);
        stands = λ told n ground r same holds. so_far.stands told n ground r same (holds_parts r so_far.added builds.added holds).0;
        unused = λ told n ground r same holds k among apart.
            let parts = holds_parts r so_far.added builds.added holds in
            earlier k among
            (λ before. so_far.unused told n ground r same parts.0 k before apart)
            (λ now. subst (StaysUnused r) (sym now) (
              builds.none told refl,
              builds.stands told n ground r (of_number s r file number same) parts.1 None (sym (builds.none told refl)),
            ));
      }

      -- it gets another inode
      changed : (change : InodeChange) → change.number ≡ number → IsChange limits change → BuildsNode Told limits s file layer number (Some change) between new
          → HasGrown Told old (numbers ++ number ∷ []) (changes ++ change ∷ []) new
      changed change is can builds = record {
        added = so_far.added ++ builds.added;
        released = so_far.released ++ builds.released;
        grew = grew_more builds.added builds.released builds.grew;
        few = few_more builds.added builds.few;
        can = All-append (IsChange limits) changes (change ∷ []) so_far.can (All-cons (IsChange limits) change [] can (All-nil (IsChange limits)));
        among = All-append (λ (c : InodeChange). Contains (numbers ++ number ∷ []) c.number) changes (change ∷ [])
            (All-weaker (λ (c : InodeChange). Contains numbers c.number) (λ (c : InodeChange). Contains (numbers ++ number ∷ []) c.number) wider changes so_far.among)
            (All-cons (λ (c : InodeChange). Contains (numbers ++ number ∷ []) c.number) change [] (subst (Contains (numbers ++ number ∷ [])) (sym is) here) (All-nil (λ (c : InodeChange). Contains (numbers ++ number ∷ []) c.number)));
        reaches = λ told r same holds block some.
            let parts = holds_parts r so_far.added builds.added holds in
            let before = so_far.reaches told r same parts.0 block some in
            let step = builds.reach told r (of_number s r file number same) parts.1 block some in
            let old_one = ap (λ (k : ℕ). times block (content_reach s (content_of (inode_at s file k)))) is in
            let both = counts builds.added builds.released block in
            omega (
              arith,
              before,
              step,
              old_one,
              both,
              sum_by-append (λ (c : InodeChange). times block (content_reach r (content_in c.record))) changes (change ∷ []),
              sum_by-append (λ (c : InodeChange). times block (content_reach s (content_of (inode_at s file c.number)))) changes (change ∷ []),
            );
        stands = λ told n ground r same holds.
            let parts = holds_parts r so_far.added builds.added holds in
            All-append (MakesSeen r) changes (change ∷ []) (so_far.stands told n ground r same parts.0)
            (All-cons (MakesSeen r) change [] (λ made so. seen told n ground r same parts.1 made so) (All-nil (MakesSeen r)));
        unused = λ told n ground r same holds k among apart.
            let parts = holds_parts r so_far.added builds.added holds in
            earlier k among
            (λ before. so_far.unused told n ground r same parts.0 k before (λ there. apart (front k there)))
            (λ now. absurd (apart (subst (Contains (numbers_in (changes ++ change ∷ []))) (is ∙ sym now) last)));
      }
        where
          seen : Told → (n : ℕ) → IsGround limits n s file layer → (r : Store) → SameIn (reach s file) s r → Holds r builds.added → MakesSeen r change
          seen told n ground r same holds made so =
              subst (λ (k : ℕ). StandsFor (through layer (image s file)) k r made) (sym is)
              (builds.stands told n ground r (of_number s r file number same) holds made (subst (λ (k : ℕ). IsChanged r (inode_at s file k) change.record made) is so))

          split : numbers_in (changes ++ change ∷ []) ≡ numbers_in changes ++ change.number ∷ []
          split = map-append (λ (c : InodeChange). c.number) changes (change ∷ [])

          front : (k : ℕ) → Contains (numbers_in changes) k → Contains (numbers_in (changes ++ change ∷ [])) k
          front k among = subst (λ (ks : List ℕ). Contains ks k) (sym split) (Contains-append_left (numbers_in changes) (change.number ∷ []) k among)

          last : Contains (numbers_in (changes ++ change ∷ [])) change.number
          last = subst (λ (ks : List ℕ). Contains ks change.number) (sym split) (Contains-append_right (numbers_in changes) (change.number ∷ []) change.number (Contains-first change.number []))

      one_more : (change : Option InodeChange) → IsFor limits number change → BuildsNode Told limits s file layer number change between new → HasGrown Told old (numbers ++ number ∷ []) (changes ++ listed change) new
      one_more None is builds = subst (λ (cs : List InodeChange). HasGrown Told old (numbers ++ number ∷ []) cs new) (sym (append-nil changes)) (unchanged builds)
      one_more (Some change) is builds = changed change is.number_is is.can builds

    pub has_grown : (numbers : List ℕ) (changes : List InodeChange) (new : Draft) → AreBuilt Told limits s file layer old numbers changes new → HasGrown Told old numbers changes new
    has_grown _ _ _ none = nothing
    has_grown _ _ _ (more numbers changes between new number change before is builds) = one_more numbers changes between new number (has_grown numbers changes between before) change is builds
