-- One node is built, by what was made of its content and its inode.
use Rattle.std.proofs.Common.{◌≡◌, ◌≢◌, ℕ, ◌+◌, ◌*◌, ◌≤◌, ◌<◌, ◌&&◌, Bool, true, false, List, [], ◌++◌, ⊎_elim, length, Option, None, Some, Contains, refl, sym, ap, subst, ◌∙◌, arith}
use Rattle.std.specs.Global.{Global}
use Rattle.std.specs.Prelude.{nat_le, nat_lt}
use Rattle.std.specs.declared.boxed.Box.{Box}
use Rattle.std.proofs.lemmas.Bool.{leb-true, cases_lt}
use Rattle.std.proofs.lemmas.List.{length-map}
use Rattle.sn_image.specs.Contents.{content_reach}
use Rattle.sn_image.specs.Image.{image}
use Rattle.sn_image.specs.Inodes.{inode_at}
use Rattle.sn_image.specs.Reach.{reach_at}
use Rattle.sn_limits.proofs.VersionLemmas.{each_version, fixed}
use Rattle.std.proofs.Math.Nat.{mul-le-mul_left, mul-le-mul_right}
use Rattle.sn_inode.specs.declared.changes.AclChange.{AclChange}
use Rattle.sn_inode.specs.declared.changes.InodeChange.{InodeChange}
use Rattle.sn_inode.specs.declared.changes.RecordChange.{RecordChange}
use Rattle.sn_inode.specs.declared.changes.RecordChange.TheVariants.{Unused, Used}
use Rattle.sn_inode.specs.Changes.{IsChanged}
use Rattle.sn_layout.specs.Pointers.{levels_of}
use Rattle.sn_layout.specs.declared.tree.BlockTree.{BlockTree}
use Rattle.sn_layout_node.specs.Inode.{IsContent, IsInode, size_of}
use Rattle.sn_layout_node.specs.declared.content.Content.{Content}
use Rattle.sn_layout_node.specs.declared.content.Content.TheVariants.{Inline, Tree}
use Rattle.sn_layout_node.specs.declared.inode.Inode.{Inode}
use Rattle.sn_limits.specs.Versions.{limits_of}
use Rattle.sn_limits.specs.declared.kind.Kind.{Kind}
use Rattle.sn_limits.specs.declared.kind.Kind.TheVariants.{File, Directory}
use Rattle.sn_limits.specs.declared.limits.Limits.{Limits}
use Rattle.sn_ondisk.specs.Counts.{times}
use Rattle.sn_ondisk.specs.TreeLaws.{SameIn}
use Rattle.sn_ondisk.specs.Trees.{Store, tree_reach}
use Rattle.sn_ondisk.proofs.CountLemmas.{among_times, times-append, times_among}
use Rattle.sn_ondisk.proofs.TreeLemmas.{levels_least, reach_has_none}
use Rattle.sn_overlay.specs.Layers.{Layer, through}
use Rattle.sn_overlay.specs.Lists.{changed_names, written_blocks}
use Rattle.sn_overlay.specs.Needs.{levels}
use Rattle.sn_overlay.specs.declared.file_block.FileBlock.{FileBlock}
use Rattle.sn_overlay.specs.declared.node.NodeChange.TheVariants.{Changed, Gone}
use Rattle.sn_overlay.specs.declared.node.NodeState.{NodeState}
use Rattle.sn_tree.specs.Drafts.{Draft, grown}
use Rattle.sn_tree.proofs.StepLemmas.{grown-grown, grown-none}
use Rattle.sn_content.specs.Contents.{IsContentReplanned, IsReleased}
use Rattle.sn_cp_nodes.specs.Built.{BuildsNode, StandsFor}
use Rattle.sn_cp_nodes.specs.Inodes.{IsInodeFor, content_in}
use Rattle.sn_cp_nodes.specs.Made.{IsBegun, IsContentMade, IsDirectoryMade, IsFileMade, IsGone, IsMadeAs, IsTreeMade, Pair}
use Rattle.sn_cp_nodes.specs.Parts.{Blocks, IsPartOf, Names, content_of, dirty_of, keep_of}
use Rattle.sn_cp_nodes.proofs.DirectoryLemmas.{empty_reach}
use Rattle.sn_cp_nodes.proofs.OldLemmas.{same_content}
use Rattle.sn_cp_nodes.proofs.StandLemmas.{directory_stands, file_stands, gone_stands}

-- ---- how many blocks

both : (a b : Bool) → (a && b) ≡ true → (a ≡ true) × (b ≡ true)
both true b e = (refl, e)
both false b e = absurd cc

pub size_within : (limits : Limits) (kind : Kind) (content : Content) → limits_of limits.version ≡ Some limits → IsContent limits kind content → size_of content ≤ limits.largest_file
size_within limits File (Inline bytes) version fits = omega (arith, fits, (fixed limits.version limits version).least)
size_within limits Directory (Inline bytes) version fits = absurd fits
size_within limits File (Tree tree) version fits = leb-true tree.size limits.largest_file (both (nat_lt 64 tree.size) (nat_le tree.size limits.largest_file) fits.1).1
size_within limits Directory (Tree tree) version fits = leb-true tree.size limits.largest_file (both _ (nat_le tree.size limits.largest_file) fits.1).1

-- a version counts each level of indirect blocks that its files have
pub levels_counted : (limits : Limits) (size : ℕ) → limits_of limits.version ≡ Some limits → size ≤ limits.largest_file → levels_of size + 1 ≤ levels limits
levels_counted limits size version = each_version (λ l. size ≤ l.largest_file → levels_of size + 1 ≤ levels l) one two limits.version limits version
  where
    one : size ≤ 67108864 → levels_of size + 1 ≤ 2
    one most = ⊎_elim (λ (more : 1 < levels_of size). absurd (omega (arith, most, levels_least size 1 more))) (λ (few : levels_of size ≤ 1). omega (arith, few)) (cases_lt 1 (levels_of size))

    two : size ≤ 68719476736 → levels_of size + 1 ≤ 3
    two most = ⊎_elim (λ (more : 2 < levels_of size). absurd (omega (arith, most, levels_least size 2 more))) (λ (few : levels_of size ≤ 2). omega (arith, few)) (cases_lt 2 (levels_of size))

pub paths_counted : (few many less more : ℕ) → few ≤ many → less ≤ more → few * (less + 1) ≤ many * (more + 1)
paths_counted few many less more a b =
    let longer : less + 1 ≤ more + 1 = omega (arith, b) in
    omega (arith, mul-le-mul_left few longer, mul-le-mul_right (more + 1) a)

few_added : (limits : Limits) (kind : Kind) (content : Content) (added dirty most : ℕ) → limits_of limits.version ≡ Some limits → IsContent limits kind content
    → added ≤ (levels_of (size_of content) + 1) * (dirty + 1) → dirty ≤ most → added ≤ levels limits * (most + 1)
few_added limits kind content added dirty most version fits few less =
    let counted = levels_counted limits (size_of content) version (size_within limits kind content version fits) in
    omega (arith, few, paths_counted (levels_of (size_of content) + 1) (levels limits) dirty most counted less)

-- ---- one node

module _ (Told : Type 0) (limits : Limits) (s : Store) (file : BlockTree) (layer : Layer) (number : ℕ) (version : limits_of limits.version ≡ Some limits)
    (was : Option Inode) (read : Told → was ≡ inode_at s file number) where
  abbrev old : Content
  old = content_of (inode_at s file number)

  there : Told → content_of was ≡ old
  there told = ap content_of (read told)

  -- ---- a node that changed

  module _ (state : NodeState) (names : Names) (written : Blocks) (part : IsPartOf layer number (Changed state) names written)
      (change : InodeChange) (inode : Inode) (acls : AclChange) (used : change.«record» ≡ Used inode acls) (can : IsInode limits inode) (made : IsInodeFor was state inode.content inode acls)
      (old_draft new_draft : Draft) where
    new_content : content_in change.«record» ≡ inode.content
    new_content = ap content_in used

    made_there : Told → IsInodeFor (inode_at s file number) state inode.content inode acls
    made_there told = subst (λ (o : Option Inode). IsInodeFor o state inode.content inode acls) (read told) made

    becomes : (r : Store) (new : Option Inode) → IsChanged r (inode_at s file number) change.«record» new → IsChanged r (inode_at s file number) (Used inode acls) new
    becomes r new is = subst (λ (x : RecordChange). IsChanged r (inode_at s file number) x new) used is

    long_names : length names ≡ length (changed_names layer number)
    long_names = ap (λ (es : Names). length es) part.its_names

    long_written : length (dirty_of written) ≡ length (written_blocks layer number)
    long_written = length-map written _ ∙ sym (length-map written (λ (e : FileBlock × Box (List ℕ) Global). (e.0, e.1.value))) ∙ ap (λ (es : List (FileBlock × List ℕ)). length es) part.its_blocks

    never : {A : Type 0} {x : A} → Some x ≡ None → ⊥
    never e = absurd cc

    reach_as : (r : Store) (content : Content) (block released added : ℕ) → content_in change.«record» ≡ content → times block (content_reach r content) + released ≡ times block (content_reach s old) + added
        → times block (content_reach r (content_in change.«record»)) + released ≡ times block (content_reach s old) + added
    reach_as r content block released added is e = ap (λ (c : Content). times block (content_reach r c) + released) is ∙ e

    file_builds : state.kind ≡ File → IsFileMade Told s (content_of was) state written inode.content old_draft new_draft → BuildsNode Told limits s file layer number (Some change) old_draft new_draft
    file_builds is m =
        let plan = m.planned in
        let plans : Told → IsContentReplanned s old inode.content (keep_of state) (dirty_of written) plan.added plan.released =
        λ told. subst (λ (c : Content). IsContentReplanned s c inode.content (keep_of state) (dirty_of written) plan.added plan.released) (there told) (plan.plans told) in
        record {
          added = plan.added;
          released = plan.released;
          grew = plan.grew;
          few = few_added limits inode.kind inode.content (length plan.added) (length (dirty_of written)) (length (changed_names layer number) + length (written_blocks layer number)) version can.content plan.few (omega (arith, long_written));
          none = λ told none. absurd (never none);
          reach = λ told r same holds block some. reach_as r inode.content block _ _ new_content ((plans told).reach r (same_content s r file number same) holds block some);
          stands = λ told n ground r same holds new becoming.
              file_stands limits n s file layer number ground state part.node names written part r same inode acls plan.added plan.released is can (made_there told) m.size m.order (plans told) holds new (becomes r new becoming);
        }

    -- what the tree reached with which a directory begins, and what was released for it
    begun_reach : Told → (block : ℕ) → block ≢ 0 → (tree : BlockTree) (a b : Draft) (begun : IsBegun Told s (content_of was) state.fresh tree a b)
        → times block (tree_reach s tree) + times block begun.released ≡ times block (content_reach s old)
    begun_reach told block some tree a b begun = by_fresh state.fresh refl
      where
        by_fresh : (fresh : Bool) → state.fresh ≡ fresh → times block (tree_reach s tree) + times block begun.released ≡ times block (content_reach s old)
        by_fresh true fresh =
            let none : times block (tree_reach s tree) ≡ 0 = ap (λ (t : BlockTree). times block (tree_reach s t)) (begun.empty fresh) ∙ ap (times block) (empty_reach s) in
            omega (arith, none, begun.all told fresh block some ∙ ap (λ (c : Content). times block (content_reach s c)) (there told))
        by_fresh false stale =
            let kept = begun.kept stale in
            let none : times block begun.released ≡ 0 = ap (times block) kept.1 in
            omega (arith, none, ap (λ (c : Content). times block (content_reach s c)) (sym kept.0 ∙ there told))

    directory_builds : (tree : BlockTree) → inode.content ≡ Tree tree → state.kind ≡ Directory → IsDirectoryMade Told s (content_of was) state.fresh names tree old_draft new_draft
        → BuildsNode Told limits s file layer number (Some change) old_draft new_draft
    directory_builds tree of is m =
        let plan = m.planned in
        let begun = m.begun in
        let long : length m.changes ≡ length names = sym (length-map m.changes _) ∙ ap (λ (es : List Pair). length es) m.are ∙ length-map names _ in
        let fits : IsContent limits inode.kind (Tree tree) = subst (IsContent limits inode.kind) of can.content in
        let same_tree : (r : Store) → Told → SameIn (reach_at s file number) s r → SameIn (tree_reach s m.tree) s r =
        λ r told same block among. same_begun r told same block among in
        record {
          added = plan.added;
          released = begun.released ++ plan.released;
          grew = plan.grew ∙ ap (λ (d : Draft). grown d plan.added plan.released) begun.grew ∙ grown-grown old_draft [] plan.added begun.released plan.released;
          few = few_added limits inode.kind (Tree tree) (length plan.added) (length plan.dirty) (length (changed_names layer number) + length (written_blocks layer number)) version fits plan.few (omega (arith, plan.one_each, long, long_names));
          none = λ told none. absurd (never none);
          reach = λ told r same holds block some.
              reach_as r (Tree tree) block _ _ (new_content ∙ of)
              (omega (arith, (plan.plans told).reach r (same_tree r told same) holds block some, begun_reach told block some m.tree old_draft m.between begun, times-append block begun.released plan.released));
          stands = λ told n ground r same holds new becoming.
              directory_stands limits n s file layer number ground state part.node names written part r same inode acls m.tree tree m.changes is of (made_there told)
              begun.empty (λ stale. sym (there told) ∙ (begun.kept stale).0) m.are (λ once same. plan.changed told once r same holds) new (becomes r new becoming);
        }
      where
        same_begun : (r : Store) → Told → SameIn (reach_at s file number) s r → (block : ℕ) → Contains (tree_reach s m.tree) block → r block ≡ s block
        same_begun r told same block among =
            let some : block ≢ 0 = reach_has_none s m.tree block among in
            let more : 0 < times block (content_reach s old) = omega (arith, begun_reach told block some m.tree old_draft m.between m.begun, among_times block (tree_reach s m.tree) among) in
            same_content s r file number same block (times_among block (content_reach s old) more)

    -- by its kind
    pub changed_builds : IsContentMade Told s (content_of was) state names written inode.content old_draft new_draft → BuildsNode Told limits s file layer number (Some change) old_draft new_draft
    changed_builds m = by_kind state.kind refl m
      where
        of_tree : state.kind ≡ Directory → (content : Content) → inode.content ≡ content → IsTreeMade Told s (content_of was) state names content old_draft new_draft → BuildsNode Told limits s file layer number (Some change) old_draft new_draft
        of_tree is (Inline bytes) of made = absurd made
        of_tree is (Tree tree) of made = directory_builds tree of is made

        by_kind : (kind : Kind) → state.kind ≡ kind → IsMadeAs kind Told s (content_of was) state names written inode.content old_draft new_draft → BuildsNode Told limits s file layer number (Some change) old_draft new_draft
        by_kind File is made = file_builds is made
        by_kind Directory is made = of_tree is inode.content refl made

  -- ---- one that is gone

  gone_few : (most : ℕ) → 0 ≤ levels limits * (most + 1)
  gone_few most = omega arith

  pub gone_builds : (by_close : Bool) (names : Names) (written : Blocks) → IsPartOf layer number (Gone by_close) names written → (change : Option InodeChange) (old_draft new_draft : Draft)
      → IsGone Told s was number change old_draft new_draft → BuildsNode Told limits s file layer number change old_draft new_draft
  gone_builds by_close names written part change old_draft new_draft gone = told was refl gone
    where
      came : was ≡ None → change ≡ None → new_draft ≡ old_draft → BuildsNode Told limits s file layer number change old_draft new_draft
      came nothing is same = subst (λ (c : Option InodeChange). BuildsNode Told limits s file layer number c old_draft new_draft) (sym is) (record {
        added = [];
        released = [];
        grew = same ∙ grown-none old_draft;
        few = gone_few (length (changed_names layer number) + length (written_blocks layer number));
        none = λ told _. sym (read told) ∙ nothing;
        reach = λ told r _ _ block some. ap (λ (o : Option Inode). times block (content_reach s (content_of o)) + 0) (sym nothing ∙ read told);
        stands = λ told n ground r _ _ new becomes. subst (StandsFor (through layer (image s file)) number r) (sym (becomes ∙ sym (read told) ∙ nothing)) (gone_stands limits n s file layer number ground by_close part.node r);
      })

      went : (inode : Inode) → was ≡ Some inode → change ≡ Some (record { number = number; «record» = Unused }) → IsReleased Told s inode.content old_draft new_draft → BuildsNode Told limits s file layer number change old_draft new_draft
      went inode had is released = subst (λ (c : Option InodeChange). BuildsNode Told limits s file layer number c old_draft new_draft) (sym is) (record {
        added = [];
        released = released.released;
        grew = released.grew;
        few = gone_few (length (changed_names layer number) + length (written_blocks layer number));
        none = λ told none. let never : Some (record { number = number; «record» = Unused }) ≡ None = none in absurd cc;
        reach = λ told r _ _ block some.
            let all : times block released.released ≡ times block (content_reach s old) = released.all told block some ∙ ap (λ (o : Option Inode). times block (content_reach s (content_of o))) (sym had ∙ read told) in
            omega (arith, all);
        stands = λ told n ground r _ _ new becomes. subst (StandsFor (through layer (image s file)) number r) (sym becomes) (gone_stands limits n s file layer number ground by_close part.node r);
      })

      told : (o : Option Inode) → was ≡ o → IsGone Told s o number change old_draft new_draft → BuildsNode Told limits s file layer number change old_draft new_draft
      told None had (is, same) = came had is same
      told (Some inode) had (is, released) = went inode had is released
