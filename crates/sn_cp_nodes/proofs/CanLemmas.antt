-- Over a safe ground each node can be built.
use Rattle.std.proofs.Common.{◌≡◌, inl, inr, ℕ, ◌+◌, ◌*◌, ◌%◌, ◌≤◌, ◌==◌, Bool, false, List, Contains, Option, None, Some, refl, sym, ap, subst, ◌∙◌, arith}
use Rattle.std.specs.Prelude.{IfSome, IsTrue, nat_le}
use Rattle.std.proofs.lemmas.Bool.{and_parts, eqb-true, leb-true}
use Rattle.sn_dir.specs.Laws.{SoundDirectoriesAreRead}
use Rattle.sn_dir_change.specs.Laws.{GrownDirectoriesFit}
use Rattle.sn_dir_change.specs.Planned.{CannotRead}
use Rattle.sn_image.specs.Contents.{content_reach}
use Rattle.sn_image.specs.Inodes.{inode_at}
use Rattle.sn_image.specs.Sound.{HasBlocks, HasContent}
use Rattle.sn_image.proofs.SoundNodeLemmas.{number_fits}
use Rattle.sn_inode.specs.Changes.{IsUnreadableAt}
use Rattle.sn_inode.specs.Laws.{SoundInodesAreRead}
use Rattle.sn_inode.specs.Reads.{CanReadRecord}
use Rattle.sn_inode.specs.declared.changes.InodeChange.{InodeChange}
use Rattle.sn_layout.specs.declared.tree.BlockTree.{BlockTree}
use Rattle.sn_layout_node.specs.Inode.{IsContent}
use Rattle.sn_layout_node.specs.declared.content.Content.{Content}
use Rattle.sn_layout_node.specs.declared.content.Content.TheVariants.{Inline, Tree}
use Rattle.sn_layout_node.specs.declared.inode.Inode.{Inode}
use Rattle.sn_limits.specs.declared.kind.Kind.{Kind}
use Rattle.sn_limits.specs.declared.kind.Kind.TheVariants.{File, Directory}
use Rattle.sn_limits.specs.declared.limits.Limits.{Limits}
use Rattle.sn_ondisk.specs.Trees.{Store, tree_reach}
use Rattle.sn_overlay.specs.Layers.{Layer}
use Rattle.sn_overlay.specs.declared.node.NodeChange.{NodeChange}
use Rattle.sn_overlay.specs.declared.node.NodeChange.TheVariants.{Changed, Gone}
use Rattle.sn_overlay.specs.declared.node.NodeState.{NodeState}
use Rattle.sn_tree.specs.Drafts.{Draft}
use Rattle.sn_tree.specs.Steps.{LeadsOutside}
use Rattle.sn_tree.proofs.FaultLemmas.{leads_outside}
use Rattle.sn_cp_nodes.specs.Built.{CanBuildNode, IsSafeGround}
use Rattle.sn_cp_nodes.specs.Made.{CanBegin, CanMakeAs, CanPlan, CanRelease}
use Rattle.sn_cp_nodes.specs.Parts.{Blocks, IsPartOf, Names, content_of}
use Rattle.sn_cp_nodes.proofs.AllowedLemmas.{can_change}
use Rattle.sn_cp_nodes.proofs.LieLemmas.{content_inside, content_lies, file_inside, file_lies}
use Rattle.sn_cp_nodes.proofs.OldLemmas.{old_of, old_valid}
use Rattle.sn_cp_nodes.proofs.OrderLemmas.{in_order}
use Rattle.sn_cp_nodes.proofs.RoomLemmas.{largest}
use Rattle.sn_cp_nodes.proofs.ValidLemmas.{change_valid}

-- ---- a directory that is sound can be read, and has room

module _ (directories : SoundDirectoriesAreRead) (limits : Limits) (sectors : ℕ) (s : Store) (small : limits.largest_file ≤ 68719476736) where
  blocks_read : (tree : BlockTree) → HasBlocks s tree → ((block : ℕ) → Contains (tree_reach s tree) block → 8 * block + 8 ≤ sectors) → (LeadsOutside sectors (tree_reach s tree) → ⊥) → CannotRead sectors s tree → ⊥
  blocks_read tree blocks lies inside (inl damaged) = damaged.3 (directories sectors s tree blocks lies damaged.0 damaged.1)
  blocks_read tree blocks lies inside (inr outside) = inside outside

  can_begin : (kind : Kind) (content : Content) → kind ≡ Directory → IsContent limits kind content → HasContent s kind content → ((block : ℕ) → Contains (content_reach s content) block → 8 * block + 8 ≤ sectors)
      → (LeadsOutside sectors (content_reach s content) → ⊥) → CanBegin sectors s content
  can_begin File content is fits has lies inside = absurd cc
  can_begin Directory (Inline bytes) is fits has lies inside = absurd fits
  can_begin Directory (Tree tree) is fits has lies inside =
      let parts = and_parts ((tree.size % 4096) == 0) (nat_le tree.size limits.largest_file) fits.1 in
      record {
        tree = tree;
        is = refl;
        whole = eqb-true (tree.size % 4096) 0 parts.0;
        most = omega (arith, leb-true tree.size limits.largest_file parts.1, small);
        read = blocks_read tree has.1 lies inside;
      }

-- ---- what is read of a safe ground

module _ (inodes : SoundInodesAreRead) (limits : Limits) (n sectors : ℕ) (s : Store) (file : BlockTree) (layer : Layer) (draft : Draft) (safe : IsSafeGround limits n sectors s file layer draft) where
  record_read : (number : ℕ) → CanReadRecord limits sectors s file number
  record_read number = inodes limits sectors s file safe.ground.sound.records (file_lies n sectors s file safe.ground.sound.placed safe.room) number

  -- the records of changes can be read
  pub readable : (changes : List InodeChange) (block : Option ℕ) → IsUnreadableAt limits sectors s file changes block → ⊥
  readable changes block (inl cannot) = cannot.2 (record_read cannot.0)
  readable changes block (inr outside) = file_inside n sectors s file safe.ground.sound.placed safe.room (leads_outside outside)

module _ (tells : Bool) (told : IsTrue tells) (fit : GrownDirectoriesFit) (inodes : SoundInodesAreRead) (directories : SoundDirectoriesAreRead)
    (limits : Limits) (n sectors : ℕ) (s : Store) (file : BlockTree) (layer : Layer) (draft : Draft) (safe : IsSafeGround limits n sectors s file layer draft) where
  module _ (number : ℕ) (names : Names) (written : Blocks) where
    abbrev old : Content
    old = content_of (inode_at s file number)

    inside : LeadsOutside sectors (content_reach s old) → ⊥
    inside = content_inside n sectors s file safe.ground.sound.placed safe.room number

    -- ---- a node that is gone

    can_release : (o : Option Inode) → inode_at s file number ≡ o → IfSome o (CanRelease limits sectors s number)
    can_release None e = tt
    can_release (Some inode) e =
        let fits = number_fits s file number inode e in
        record {
          fits = record { least = fits.0; most = omega (arith, fits.1, safe.ground.sound.file.most); new = tt };
          lies = λ outside. inside (subst (λ (o : Option Inode). LeadsOutside sectors (content_reach s (content_of o))) (sym e) outside);
        }

    -- ---- a node that changed

    module _ (state : NodeState) (part : IsPartOf layer number (Changed state) names written) where
      begin : state.kind ≡ Directory → state.fresh ≡ false → CanBegin sectors s old
      begin is stale =
          let (inode, used, kind) = old_of limits n s file layer number safe.ground state part.node stale in
          let there : old ≡ inode.content = ap content_of used in
          subst (CanBegin sectors s) (sym there)
          (can_begin directories limits sectors s (largest tells told fit limits n s file layer number safe.ground names written draft) inode.kind inode.content (kind ∙ is)
          (old_valid limits n s file layer number safe.ground inode used).content (safe.ground.sound.used.contents number inode used)
          (subst (λ (c : Content). (block : ℕ) → Contains (content_reach s c) block → 8 * block + 8 ≤ sectors) there (content_lies n sectors s file safe.ground.sound.placed safe.room number))
          (subst (λ (c : Content). LeadsOutside sectors (content_reach s c) → ⊥) there inside))

      content : (kind : Kind) → state.kind ≡ kind → CanMakeAs kind sectors s old state names written
      content File is = record { order = in_order layer number state written safe.ground.lies.whole part.node part.its_blocks; lies = inside }
      content Directory is = record {
        can = can_change limits n s file layer number safe.ground names part.its_names;
        begin = begin is;
        lies = inside;
      }

    can_plan : (change : NodeChange) → IsPartOf layer number change names written → CanPlan (IsTrue tells) limits sectors s (inode_at s file number) number change names written draft
    can_plan (Gone by_close) part = can_release (inode_at s file number) refl
    can_plan (Changed state) part = record {
      content = content state part state.kind refl;
      fits = change_valid tells told fit limits n s file layer number safe.ground names written draft safe.kept state part;
    }

    pub can_build : (change : NodeChange) → IsPartOf layer number change names written → CanBuildNode (IsTrue tells) limits sectors s file number change names written draft
    can_build change part = record {
      read = record_read inodes limits n sectors s file layer draft safe number;
      plan = can_plan change part;
    }
