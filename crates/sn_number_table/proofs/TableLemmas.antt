-- A table beside a tree whose nodes are made and removed, and the number that it gives out.
use Rattle.std.proofs.Common.{◌≡◌, ◌≢◌, ◌⊎◌, inl, inr, ℕ, ◌<◌, ◌≤◌, true, false, ◌||◌, ◌==◌, Option, Some, None, is_some, refl, sym, ap, ◌∙◌}
use Rattle.std.specs.Cmp.{nat_cmp_total}
use Rattle.std.specs.FinMap as map
use Rattle.std.proofs.lemmas.Bool.{eq-eqb, eqb-true, false_from_ne_true, true≢false}
use Rattle.std.proofs.lemmas.Map.Lookups.{exact_unsigned}
use Rattle.sn_limits.specs.declared.limits.Limits.{Limits}
use Rattle.sn_model.specs.Changes.{put_node, take_node}
use Rattle.sn_model.specs.Tree.{Node, Tree, least_unused}
use Rattle.sn_model.proofs.MapLemmas.{get_inserted, get_left, get_other, get_removed, same_or_apart}
use Rattle.sn_number_table.specs.Numbers.{is_taken, next_number}
use Rattle.sn_number_table.proofs.FreeLemmas.{next_is, next_of_kept}
use Rattle.sn_model.proofs.SearchLemmas.{least_is, none_is}
use Rattle.sn_number_table.specs.Marked.{ArePassed, Sets, mark_at}
use Rattle.sn_number_table.specs.Marks.{has_node, is_used}
use Rattle.sn_number_table.specs.Table.{TellsNumbers, kept_of}
use Rattle.sn_number_table.specs.declared.mark.Mark.{Mark}
use Rattle.sn_number_table.specs.declared.marks.Marks.{Marks}
use Rattle.sn_number_table.specs.declared.table.NumberTable.{NumberTable}
use Rattle.sn_number_table.proofs.MarkLemmas.{used_is}

-- ---- nodes that are made and removed

one_or_other : (a b : ℕ) → (a ≡ b) ⊎ (a ≢ b)
one_or_other = same_or_apart nat_cmp_total exact_unsigned

-- exactly those numbers are marked as taken that have a node
abbrev Tells : Tree → Marks → Type 0
Tells tree marks = (n : ℕ) → has_node (mark_at marks n) ≡ is_some (map.get tree.nodes n)

module _ (tree : Tree) (old new : Marks) (tells : Tells tree old) (number : ℕ) where
  -- a number got a node
  pub tells_make : (node : Node) → ((n : ℕ) → has_node (mark_at new n) ≡ (n == number || has_node (mark_at old n))) → Tells (put_node tree number node) new
  tells_make node taken n = taken n ∙ told (one_or_other n number)
    where
      told : (n ≡ number) ⊎ (n ≢ number) → (n == number || has_node (mark_at old n)) ≡ is_some (map.get (map.insert tree.nodes number node) n)
      told (inl same) =
          ap (λ b. b || has_node (mark_at old n)) (eq-eqb n number same)
          ∙ sym (ap (λ (k : ℕ). is_some (map.get (map.insert tree.nodes number node) k)) same ∙ ap is_some (get_inserted nat_cmp_total tree.nodes number node))
      told (inr apart) =
          ap (λ b. b || has_node (mark_at old n)) (false_from_ne_true (n == number) (λ e. apart (eqb-true n number e)))
          ∙ tells n ∙ sym (ap is_some (get_other nat_cmp_total exact_unsigned tree.nodes number node n apart))

  -- a number lost its node
  pub tells_loss : (mark : Mark) → Sets number mark old new → has_node mark ≡ false → Tells (take_node tree number) new
  tells_loss mark sets none n = told (one_or_other n number)
    where
      told : (n ≡ number) ⊎ (n ≢ number) → has_node (mark_at new n) ≡ is_some (map.get (map.remove tree.nodes number) n)
      told (inl same) =
          ap (λ (k : ℕ). has_node (mark_at new k)) same ∙ ap has_node sets.here ∙ none
          ∙ sym (ap (λ (k : ℕ). is_some (map.get (map.remove tree.nodes number) k)) same ∙ ap is_some (get_removed nat_cmp_total tree.nodes number))
      told (inr apart) = ap has_node (sets.others n apart) ∙ tells n ∙ sym (ap is_some (get_left nat_cmp_total exact_unsigned tree.nodes number n apart))

-- ---- the next number

none_of : {X : Type 0} (o : Option X) → is_some o ≡ false → o ≡ None
none_of None e = refl
none_of (Some x) e = absurd (true≢false e)

module _ (limits : Limits) (tree : Tree) (table : NumberTable) (tells : TellsNumbers tree table) where
  taken_is : (n : ℕ) → is_taken tree (kept_of table) n ≡ is_used (mark_at table.marks n)
  taken_is n = ap (λ b. b || kept_of table n) (sym (tells n)) ∙ used_is (mark_at table.marks n)

  -- a search ended at a number that is free
  pub free_next : (number : ℕ) → ArePassed table.marks number → is_used (mark_at table.marks number) ≡ false → number ≤ limits.largest_number → Some number ≡ next_number limits tree (kept_of table)
  free_next number passed free within =
      sym (next_is tree (kept_of table) limits number (λ n low high. taken_is n ∙ passed.used n low high) (taken_is number ∙ free) passed.low within)

  module _ (end : ℕ) (passed : ArePassed table.marks end) (all : limits.largest_number < end) where
    -- no number was left but those that are kept back
    least_next : next_number limits tree (kept_of table) ≡ least_unused limits tree
    least_next = next_of_kept tree (kept_of table) limits end (λ n low high. taken_is n ∙ passed.used n low high) all

    -- and of those it is the least
    pub kept_next : (number : ℕ) → 2 ≤ number → ((n : ℕ) → 2 ≤ n → n < number → has_node (mark_at table.marks n) ≡ true) → has_node (mark_at table.marks number) ≡ false → number ≤ limits.largest_number
        → Some number ≡ next_number limits tree (kept_of table)
    kept_next number least taken unused within =
        sym (least_next ∙ least_is limits tree number (λ n low high. sym (tells n) ∙ taken n low high) (none_of (map.get tree.nodes number) (sym (tells number) ∙ unused)) least within)

    -- or there is none
    pub none_next : (last : ℕ) → ((n : ℕ) → 2 ≤ n → n < last → has_node (mark_at table.marks n) ≡ true) → limits.largest_number < last → None ≡ next_number limits tree (kept_of table)
    none_next last taken past = sym (least_next ∙ none_is limits tree last (λ n low high. sym (tells n) ∙ taken n low high) past)
