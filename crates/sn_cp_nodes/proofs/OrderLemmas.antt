-- The blocks that a layer has of a file are in order, and begin before its end.
use Rattle.std.proofs.Common.{◌≡◌, ℕ, ◌+◌, ◌*◌, ◌<◌, ◌≤◌, ◌==◌, T, List, [], ◌∷◌, Contains, Some, sym, ap, subst, ◌∙◌, arith}
use Rattle.std.specs.FinMap as fin
use Rattle.std.specs.FinMap.Entries.{below_all, find, is_sorted}
use Rattle.std.specs.Cmp.{nat_cmp_is}
use Rattle.std.specs.Global.{Global}
use Rattle.std.specs.List.{AllByRecursion}
use Rattle.std.specs.Option.{is_some}
use Rattle.std.specs.Ordering.{is_lt, nat_cmp, ordering_then}
use Rattle.std.specs.declared.boxed.Box.{Box}
use Rattle.std.specs.declared.cmp.Ordering.{Ordering}
use Rattle.std.specs.declared.cmp.Ordering.TheVariants.{Equal}
use Rattle.sn_overlay.specs.Keys.{file_block_at, file_block_cmp}
use Rattle.sn_overlay.specs.Layers.{IsLayer, Layer}
use Rattle.sn_overlay.specs.Lists.{written_blocks}
use Rattle.sn_overlay.specs.Sorted.{bytes_by_file_block}
use Rattle.sn_overlay.specs.declared.file_block.FileBlock.{FileBlock}
use Rattle.sn_overlay.specs.declared.node.NodeChange.TheVariants.{Changed}
use Rattle.sn_overlay.specs.declared.node.NodeState.{NodeState}
use Rattle.sn_overlay.proofs.OverlaidLemmas.{exact_file_blocks, file_blocks_total}
use Rattle.sn_tree.specs.Dirty.{IsFrom}
use Rattle.sn_tree.specs.Orders.{AreInOrder}
use Rattle.sn_tree.specs.declared.new_block.DirtyBlock.{DirtyBlock}
use Rattle.sn_cp_nodes.specs.Parts.{Blocks, dirty_of}
use Rattle.sn_cp_nodes.proofs.ElementLemmas.{first_there, more_there}
use Rattle.sn_cp_nodes.proofs.EntryLemmas.{found_each, sorted_parts}
use Rattle.sn_cp_nodes.proofs.RiseLemmas.{less_by, lesser}
use Rattle.sn_cp_nodes.proofs.WantedLemmas.{AreOf, written_at, written_of}

-- ---- their indices rise

-- none of them has a lower index
abbrev StartAt : ℕ → Blocks → Type 0
StartAt least es = AllByRecursion (λ (e : FileBlock × Box (List ℕ) Global). least ≤ e.0.index) es

next_index : (a b : FileBlock) → a.file ≡ b.file → T (is_lt (file_block_cmp a b)) → a.index < b.index
next_index a b same h =
    let equal : nat_cmp a.file b.file ≡ Equal = sym (nat_cmp_is a.file b.file Equal same) in
    let less : T (is_lt (nat_cmp a.index b.index)) = subst (λ (o : Ordering). T (is_lt (ordering_then o (nat_cmp a.index b.index)))) equal h in
    less_by a.index b.index (lesser (nat_cmp a.index b.index) less)

any_start : (es : Blocks) → StartAt 0 es
any_start [] = tt
any_start (e ∷ es) = (omega arith, any_start es)

module _ (number : ℕ) where
  behind : (key : FileBlock) (es : Blocks) → key.file ≡ number → AreOf number (bytes_by_file_block es) → T (below_all file_block_cmp key (bytes_by_file_block es)) → StartAt (key.index + 1) es
  behind key [] is are h = tt
  behind key (e ∷ es) is are h =
      let parts = sorted_parts (is_lt (file_block_cmp key e.0)) (below_all file_block_cmp key (bytes_by_file_block es)) h in
      let less = next_index key e.0 (is ∙ sym are.0) parts.0 in
      (omega (arith, less), behind key es is are.1 parts.1)

  rise_from : (least : ℕ) (es : Blocks) → AreOf number (bytes_by_file_block es) → T (is_sorted file_block_cmp (bytes_by_file_block es)) → StartAt least es → IsFrom least (dirty_of es)
  rise_from least [] are h start = tt
  rise_from least (e ∷ es) are h start =
      let parts = sorted_parts (below_all file_block_cmp e.0 (bytes_by_file_block es)) (is_sorted file_block_cmp (bytes_by_file_block es)) h in
      (start.0, rise_from (e.0.index + 1) es are.1 parts.1 (behind e.0 es are.0 are.1 parts.0))

-- ---- each begins before the end

module _ (layer : Layer) (number : ℕ) (state : NodeState) (written : Blocks) (whole : IsLayer layer) (node : fin.get layer.nodes number ≡ Some (Changed state))
    (are : bytes_by_file_block written ≡ written_blocks layer number) where
  its_sorted : T (is_sorted file_block_cmp (written_blocks layer number))
  unfolding written_blocks
  its_sorted = fin.entries_sorted (fin.retain_keys layer.blocks (λ file_block. file_block.file == number))

  begins : (e : FileBlock × List ℕ) → Contains (written_blocks layer number) e → e.0.file ≡ number → 4096 * e.0.index < state.size
  begins e among of =
      let one : file_block_at number e.0.index ≡ e.0 = λ i. record { file = sym of i; index = e.0.index } in
      let found : fin.get layer.blocks e.0 ≡ Some e.1 =
      ap (λ (k : FileBlock). fin.get layer.blocks k) (sym one) ∙ sym (written_at layer number e.0.index)
      ∙ ap (λ (k : FileBlock). find file_block_cmp k (written_blocks layer number)) one ∙ found_each file_blocks_total exact_file_blocks (written_blocks layer number) its_sorted e among in
      let less = whole.begins e.0 state (ap is_some found) (ap (λ (k : ℕ). fin.get layer.nodes k) of ∙ node) in
      omega (arith, less)

  all_begin : (es : Blocks) → AreOf number (bytes_by_file_block es) → ((e : FileBlock × List ℕ) → Contains (bytes_by_file_block es) e → Contains (written_blocks layer number) e)
      → AllByRecursion (λ (d : DirtyBlock). 4096 * d.index < state.size) (dirty_of es)
  all_begin [] of within = tt
  all_begin (e ∷ es) of within = (
    begins (e.0, e.1.value) (within (e.0, e.1.value) (first_there (e.0, e.1.value) (bytes_by_file_block es))) of.0,
    all_begin es of.1 (λ x more. within x (more_there (e.0, e.1.value) (bytes_by_file_block es) x more)),
  )

  pub in_order : AreInOrder state.size (dirty_of written)
  in_order =
      let of : AreOf number (bytes_by_file_block written) = subst (AreOf number) (sym are) (written_of layer number) in
      record {
        rise = rise_from number 0 written of (subst (λ (es : List (FileBlock × List ℕ)). T (is_sorted file_block_cmp es)) (sym are) its_sorted) (any_start written);
        begins = all_begin written of (λ e among. subst (λ (es : List (FileBlock × List ℕ)). Contains es e) are among);
      }
