-- The data blocks that are wanted of a file, which are those that are seen of it through a layer.
use Rattle.std.proofs.Common.{◌≡◌, ℕ, ◌*◌, ◌<◌, ◌≤◌, ◌==◌, Bool, true, false, cond, if◌then◌else◌, List, [], ◌∷◌, Option, None, Some, refl, sym, ap, subst, ◌∙◌, arith}
use Rattle.std.specs.Prelude.{◌||◌, nat_le, nat_lt}
use Rattle.std.specs.FinMap as fin
use Rattle.std.specs.FinMap.Entries.{find, where_key}
use Rattle.std.specs.List.{AllByRecursion}
use Rattle.std.specs.Option.{unwrap_or}
use Rattle.std.specs.Ordering.{eq_by_cmp}
use Rattle.std.specs.Cmp.{eq_by_cmp_equiv}
use Rattle.std.specs.Int.{div_ceil}
use Rattle.std.proofs.lemmas.Bool.{true≢false, eq-eqb, eqb-true, lt-ltb, le-ltb, leb-true, leb-false}
use Rattle.std.proofs.lemmas.Grind.{div_ceil_times}
use Rattle.std.proofs.lemmas.Map.Views.{tells_apart}
use Rattle.sn_layout.specs.Bytes.{zeros as bare}
use Rattle.sn_model.proofs.EntryLemmas.{entries-retain}
use Rattle.sn_overlay.specs.Keys.{file_block_cmp, file_block_at}
use Rattle.sn_overlay.specs.Layers.{Layer, block_seen, hides_block}
use Rattle.sn_overlay.specs.Lists.{written_blocks}
use Rattle.sn_overlay.specs.Pieces.{zeros, piece}
use Rattle.sn_overlay.specs.Sorted.{bytes_by_file_block}
use Rattle.sn_overlay.specs.declared.file_block.FileBlock.{FileBlock}
use Rattle.sn_overlay.specs.declared.node.NodeChange.TheVariants.{Changed}
use Rattle.sn_overlay.specs.declared.node.NodeState.{NodeState}
use Rattle.sn_overlay.proofs.OverlaidLemmas.{exact_file_blocks, file_blocks_total, get-kept}
use Rattle.sn_tree.specs.Dirty.{block_after, block_wanted}
use Rattle.sn_cp_nodes.specs.Parts.{Blocks, dirty_of, keep_of}

-- ---- the blocks of one file

-- each of them is one of the file
abbrev pub AreOf : ℕ → List (FileBlock × List ℕ) → Type 0
AreOf number es = AllByRecursion (λ (e : FileBlock × List ℕ). e.0.file ≡ number) es

kept_of : (number : ℕ) (es : List (FileBlock × List ℕ)) → AreOf number (where_key file_block_cmp (λ file_block. file_block.file == number) es)
kept_of number [] = tt
kept_of number (e ∷ es) = told (e.0.file == number) refl (kept_of number es)
  where
    rest : List (FileBlock × List ℕ)
    rest = where_key file_block_cmp (λ file_block. file_block.file == number) es

    told : (b : Bool) → (e.0.file == number) ≡ b → AreOf number (where_key file_block_cmp (λ file_block. file_block.file == number) es) → AreOf number (cond b (e ∷ where_key file_block_cmp (λ file_block. file_block.file == number) es) (where_key file_block_cmp (λ file_block. file_block.file == number) es))
    told true is later = (eqb-true e.0.file number is, later)
    told false is later = later

pub written_of : (layer : Layer) (number : ℕ) → AreOf number (written_blocks layer number)
unfolding written_blocks
written_of layer number = subst (AreOf number) (sym (entries-retain file_blocks_total exact_file_blocks layer.blocks (λ file_block. file_block.file == number))) (kept_of number (fin.entries layer.blocks))

-- what is found among them is what the layer has
pub written_at : (layer : Layer) (number i : ℕ) → find file_block_cmp (file_block_at number i) (written_blocks layer number) ≡ fin.get layer.blocks (file_block_at number i)
unfolding written_blocks
written_at layer number i =
    sym (fin.get-entries (fin.retain_keys layer.blocks (λ file_block. file_block.file == number)) (file_block_at number i))
    ∙ get-kept exact_file_blocks layer.blocks (λ file_block. file_block.file == number) (file_block_at number i)
    ∙ ap (λ (b : Bool). cond b (fin.get layer.blocks (file_block_at number i)) None) (eq-eqb number number refl)

-- ---- the dirty block of a place

-- two places of one file are the same where their indices are
index_test : (number i : ℕ) (key : FileBlock) → key.file ≡ number → eq_by_cmp file_block_cmp (file_block_at number i) key ≡ (key.index == i)
index_test number i key of = told (eq_by_cmp file_block_cmp (file_block_at number i) key) refl (key.index == i) refl
  where
    told : (x : Bool) → eq_by_cmp file_block_cmp (file_block_at number i) key ≡ x → (y : Bool) → (key.index == i) ≡ y → x ≡ y
    told true e true f = refl
    told false e false f = refl
    told true e false f =
        let same : key.index ≡ i = sym (ap (λ (k : FileBlock). k.index) (tells_apart exact_file_blocks (file_block_at number i) key e)) in
        absurd (true≢false (sym (eq-eqb key.index i same) ∙ f))
    told false e true f =
        let index : key.index ≡ i = eqb-true key.index i f in
        let same : file_block_at number i ≡ key = λ j. record { file = sym of j; index = sym index j } in
        absurd (true≢false (sym ((eq_by_cmp_equiv file_blocks_total).refl (file_block_at number i)) ∙ ap (λ (k : FileBlock). eq_by_cmp file_block_cmp (file_block_at number i) k) same ∙ e))

module _ (number keep i : ℕ) (old : List ℕ) where
  abbrev kept : List ℕ
  kept = if nat_lt i keep then old else bare 4096

  pub wanted_found : (es : Blocks) → AreOf number (bytes_by_file_block es) → block_after keep (dirty_of es) i old ≡ unwrap_or (find file_block_cmp (file_block_at number i) (bytes_by_file_block es)) kept
  unfolding block_wanted
  wanted_found [] of = refl
  wanted_found (e ∷ es) of =
      told (e.0.index == i) (wanted_found es of.1)
      ∙ ap (λ (b : Bool). unwrap_or (cond b (Some e.1.value) (find file_block_cmp (file_block_at number i) (bytes_by_file_block es))) kept) (sym (index_test number i e.0 of.0))
    where
      told : (b : Bool) → block_after keep (dirty_of es) i old ≡ unwrap_or (find file_block_cmp (file_block_at number i) (bytes_by_file_block es)) kept → (if b then e.1.value else block_after keep (dirty_of es) i old) ≡ unwrap_or (cond b (Some e.1.value) (find file_block_cmp (file_block_at number i) (bytes_by_file_block es))) (if nat_lt i keep then old else bare 4096)
      told true later = refl
      told false later = later

-- ---- what stays

same_zeros : bare 4096 ≡ zeros 4096
unfolding bare zeros
same_zeros = refl

-- where nothing was written, a block stays that isn't hidden
module _ (state : NodeState) (i : ℕ) (old below : List ℕ) (same : state.fresh ≡ false → old ≡ piece 4096 below i) where
  pub kept_is : (if nat_lt i (keep_of state) then old else bare 4096) ≡ (if hides_block (Some (Changed state)) i then zeros 4096 else piece 4096 below i)
  kept_is = told state.fresh refl
    where
      cut : state.fresh ≡ false → (b : Bool) → nat_le state.cut (i * 4096) ≡ b → (if nat_lt i (div_ceil state.cut 4096) then old else bare 4096) ≡ (if b then zeros 4096 else piece 4096 below i)
      cut stale true is =
          let le : state.cut ≤ i * 4096 = leb-true state.cut (i * 4096) is in
          let (least, most) = div_ceil_times state.cut 4096 (omega arith) in
          let past : div_ceil state.cut 4096 ≤ i = omega (arith, le, least, most) in
          ap (λ (b : Bool). if b then old else bare 4096) (le-ltb i (div_ceil state.cut 4096) past) ∙ same_zeros
      cut stale false is =
          let lt : i * 4096 < state.cut = leb-false state.cut (i * 4096) is in
          let (least, most) = div_ceil_times state.cut 4096 (omega arith) in
          let within : i < div_ceil state.cut 4096 = omega (arith, lt, least, most) in
          ap (λ (b : Bool). if b then old else bare 4096) (lt-ltb i (div_ceil state.cut 4096) within) ∙ same stale

      told : (b : Bool) → state.fresh ≡ b → (if nat_lt i (if b then 0 else div_ceil state.cut 4096) then old else bare 4096) ≡ (if (b || nat_le state.cut (i * 4096)) then zeros 4096 else piece 4096 below i)
      told true is = ap (λ (b : Bool). if b then old else bare 4096) (le-ltb i 0 (omega arith)) ∙ same_zeros
      told false is = cut is (nat_le state.cut (i * 4096)) refl

-- ---- a block of a file

pub wanted_seen : (layer : Layer) (number : ℕ) (state : NodeState) (written : Blocks) (i : ℕ) (old below : List ℕ) → bytes_by_file_block written ≡ written_blocks layer number
    → (state.fresh ≡ false → old ≡ piece 4096 below i) → block_after (keep_of state) (dirty_of written) i old ≡ block_seen layer number state below i
wanted_seen layer number state written i old below are same =
    wanted_found number (keep_of state) i old written (subst (AreOf number) (sym are) (written_of layer number))
    ∙ ap (λ (es : List (FileBlock × List ℕ)). unwrap_or (find file_block_cmp (file_block_at number i) es) (if nat_lt i (keep_of state) then old else bare 4096)) are
    ∙ ap (λ (found : Option (List ℕ)). unwrap_or found (if nat_lt i (keep_of state) then old else bare 4096)) (written_at layer number i)
    ∙ ap (unwrap_or (fin.get layer.blocks (file_block_at number i))) (kept_is state i old below same)
