-- A file that was planned has the bytes that are seen of it through a layer.
use Rattle.std.proofs.Common.{◌≡◌, ℕ, ◌+◌, ◌*◌, ◌<◌, ◌≤◌, Bool, true, false, if◌then◌else◌, List, length, get_or, Option, None, Some, Contains, refl, sym, ap, subst, ◌∙◌, arith}
use Rattle.std.specs.FinMap as fin
use Rattle.std.specs.Int.{div_ceil}
use Rattle.std.specs.Option.{unwrap_or}
use Rattle.std.proofs.lemmas.Grind.{div_ceil_times}
use Rattle.sn_image.specs.Contents.{bytes_of, content_reach}
use Rattle.sn_image.specs.Image.{image}
use Rattle.sn_image.specs.Inodes.{inode_at}
use Rattle.sn_image.specs.Reach.{reach_at}
use Rattle.sn_image.specs.Sound.{ContentEnds}
use Rattle.sn_layout.specs.declared.tree.BlockTree.{BlockTree}
use Rattle.sn_layout_node.specs.Inode.{IsContent, size_of}
use Rattle.sn_layout_node.specs.declared.content.Content.{Content}
use Rattle.sn_limits.specs.declared.kind.Kind.TheVariants.{File}
use Rattle.sn_limits.specs.declared.limits.Limits.{Limits}
use Rattle.sn_ondisk.specs.TreeLaws.{SameIn}
use Rattle.sn_ondisk.specs.Trees.{Store}
use Rattle.sn_overlay.specs.Keys.{file_block_at}
use Rattle.sn_overlay.specs.Layers.{Layer, block_seen, hides_block}
use Rattle.sn_overlay.specs.Layers as layers
use Rattle.sn_overlay.specs.Lists.{written_blocks}
use Rattle.sn_overlay.specs.Pieces.{joined, piece, zeros}
use Rattle.sn_overlay.specs.Sorted.{bytes_by_file_block}
use Rattle.sn_overlay.specs.declared.node.NodeChange.TheVariants.{Changed}
use Rattle.sn_overlay.specs.declared.node.NodeState.{NodeState}
use Rattle.sn_overlay.proofs.PieceLemmas.{joined_alike, length-piece, length-zeros}
use Rattle.sn_tree.specs.Dirty.{block_after}
use Rattle.sn_tree.specs.Orders.{AreInOrder}
use Rattle.sn_tree.specs.Plans.{Holds}
use Rattle.sn_tree.specs.Replanned.{EndsAt}
use Rattle.sn_tree.specs.declared.new_block.NewBlock.{NewBlock}
use Rattle.sn_content.specs.Contents.{HasDataBlocks, IsContentReplanned, content_block}
use Rattle.sn_cp_nodes.specs.Built.{IsGround}
use Rattle.sn_cp_nodes.specs.Parts.{Blocks, content_of, dirty_of, keep_of}
use Rattle.sn_cp_nodes.proofs.ByteLemmas.{IsRoomy, content_joined, old_piece}
use Rattle.sn_cp_nodes.proofs.OldLemmas.{old_bytes, old_ends, old_of, old_roomy, old_whole, roomy_file, same_content}
use Rattle.sn_cp_nodes.proofs.WantedLemmas.{wanted_seen}

module _ (limits : Limits) (n : ℕ) (s : Store) (file : BlockTree) (layer : Layer) (number : ℕ) (ground : IsGround limits n s file layer)
    (state : NodeState) (node : fin.get layer.nodes number ≡ Some (Changed state)) (is_file : state.kind ≡ File)
    (written : Blocks) (are : bytes_by_file_block written ≡ written_blocks layer number) where
  abbrev old : Content
  old = content_of (inode_at s file number)

  abbrev below : List ℕ
  below = layers.bytes_of (fin.get (image s file).nodes number)

  abbrev wanted : ℕ → List ℕ
  wanted i = block_after (keep_of state) (dirty_of written) i (content_block s old i)

  abbrev pub seen : ℕ → List ℕ
  seen i = block_seen layer number state below i

  old_block : (i : ℕ) → state.fresh ≡ false → content_block s old i ≡ piece 4096 below i
  old_block i stale =
      let (inode, used, kind) = old_of limits n s file layer number ground state node stale in
      let is : inode.kind ≡ File = kind ∙ is_file in
      let there : old ≡ inode.content = ap content_of used in
      let whole = subst (λ (c : Content). (block : ℕ) → Contains (content_reach s c) block → length (s block) ≡ 4096) there (old_whole limits n s file layer number ground) in
      ap (λ (c : Content). content_block s c i) there
      ∙ old_piece s inode.content (old_roomy limits n s file layer number ground inode used is) (old_ends limits n s file layer number ground inode used is) whole i
      ∙ ap (λ (bytes : List ℕ). piece 4096 bytes i) (sym (old_bytes limits n s file layer number ground inode used is))

  wanted_is : (i : ℕ) → wanted i ≡ seen i
  wanted_is i = wanted_seen layer number state written i (content_block s old i) below are (old_block i)

  long_seen : (i : ℕ) → length (seen i) ≡ 4096
  long_seen i = told (fin.get layer.blocks (file_block_at number i)) refl (hides_block (Some (Changed state)) i)
    where
      told : (found : Option (List ℕ)) → fin.get layer.blocks (file_block_at number i) ≡ found → (b : Bool) → length (unwrap_or found (if b then zeros 4096 else piece 4096 below i)) ≡ 4096
      told (Some bytes) e b = ground.lies.whole.lengths (file_block_at number i) bytes e
      told None e true = length-zeros 4096
      told None e false = length-piece 4096 below i

  kept_within : 4096 * keep_of state < state.size + 4096
  kept_within = told state.fresh
    where
      cut : state.cut ≤ state.size
      cut = ground.lies.whole.cuts number state node

      told : (b : Bool) → 4096 * (if b then 0 else div_ceil state.cut 4096) < state.size + 4096
      told true = omega arith
      told false = let (least, most) = div_ceil_times state.cut 4096 (omega arith) in omega (arith, cut, least, most)

  pub file_ends_at : AreInOrder state.size (dirty_of written) → EndsAt (content_block s old) state.size (keep_of state) (dirty_of written)
  file_ends_at order = record {
    stays = kept_within;
    begins = order.begins;
    past = λ i k within past. ap (λ (bytes : List ℕ). get_or bytes k 0) (wanted_is i) ∙ ground.lies.fits.zeros number state i k node within (omega (arith, past));
  }

  pub file_bytes_are : (r : Store) (content : Content) → IsRoomy content → size_of content ≡ state.size → HasDataBlocks r content wanted → bytes_of r content ≡ joined 4096 state.size seen
  file_bytes_are r content roomy size has =
      content_joined r content wanted roomy has (λ i. ap (λ (bytes : List ℕ). length bytes) (wanted_is i) ∙ long_seen i)
      ∙ ap (λ (count : ℕ). joined 4096 count wanted) size
      ∙ joined_alike 4096 state.size wanted seen wanted_is

pub files_seen : (limits : Limits) (n : ℕ) (s r : Store) (file : BlockTree) (layer : Layer) (number : ℕ) (state : NodeState) (written : Blocks) (content : Content) (added : List NewBlock) (released : List ℕ)
    → IsGround limits n s file layer → fin.get layer.nodes number ≡ Some (Changed state) → state.kind ≡ File → bytes_by_file_block written ≡ written_blocks layer number
    → IsContent limits File content → size_of content ≡ state.size → AreInOrder state.size (dirty_of written)
    → IsContentReplanned s (content_of (inode_at s file number)) content (keep_of state) (dirty_of written) added released → SameIn (reach_at s file number) s r → Holds r added
    → (bytes_of r content ≡ joined 4096 state.size (block_seen layer number state (layers.bytes_of (fin.get (image s file).nodes number)))) × ContentEnds r content
files_seen limits n s r file layer number state written content added released ground node is are fits size order plans same holds =
    let same_old = same_content s r file number same in
    let ends_at = file_ends_at limits n s file layer number ground state node is written are order in (
      file_bytes_are limits n s file layer number ground state node is written are r content (roomy_file limits content ground.version fits) size (plans.blocks r same_old holds),
      plans.ends r same_old holds (subst (λ (bytes : ℕ). EndsAt (content_block s (content_of (inode_at s file number))) bytes (keep_of state) (dirty_of written)) (sym size) ends_at),
    )
