-- What layers need, counted.
use Rattle.std.proofs.Common.{◌≡◌, ℕ, ◌+◌, ◌-◌, ◌*◌, ◌≤◌, Bool, true, false, cond, not, eqb, List, [], ◌∷◌, length, map, Option, Some, None, ap, arith}
use Rattle.std.specs.declared.cmp.Ordering.{Ordering}
use Rattle.std.specs.Cmp.{IsTotalOrder, nat_cmp_total}
use Rattle.std.specs.FinMap as fin
use Rattle.std.specs.FinMap.Entries.{where_key}
use Rattle.std.proofs.lemmas.Bool.Decides.{nat_tests}
use Rattle.std.proofs.lemmas.Nat.{mul-le}
use native.Mathlib.Nat.{mul-add}
use Rattle.std.proofs.lemmas.List.{length-map}
use Rattle.std.proofs.lemmas.Map.Lookups.{CmpEqualImpliesEq, exact_unsigned}
use Rattle.sn_limits.specs.declared.limits.Limits.{Limits}
use Rattle.std.specs.Ordering.{nat_cmp}
use Rattle.sn_model.specs.declared.link.Link.{Link}
use Rattle.sn_model.specs.Tree.{link_cmp}
use Rattle.sn_model.proofs.LinkLemmas.{exact_links, links_total}
use Rattle.sn_model.proofs.EntryLemmas.{entries-retain}
use Rattle.sn_overlay.specs.Overlaid.{overlaid, set_or_take}
use Rattle.sn_overlay.specs.declared.file_block.FileBlock.{FileBlock}
use Rattle.sn_overlay.specs.declared.node.NodeChange.{NodeChange}
use Rattle.sn_overlay.specs.declared.node.NodeChange.TheVariants.{Gone}
use Rattle.sn_overlay.specs.Keys.{file_block_cmp}
use Rattle.sn_overlay.specs.Layers.{Layer, hides_names, hides_block}
use Rattle.sn_overlay.specs.Merges.{merge, change_over}
use Rattle.sn_overlay.specs.Needs.{levels, need, AreCharged, IsPaid}
use Rattle.sn_overlay.specs.Overlays.{gone}
use Rattle.sn_overlay.proofs.OverlaidLemmas.{exact_file_blocks, file_blocks_total}

length-where_key : {K X : Type 0} (R : K → K → Ordering) (p : K → Bool) (es : List (K × X)) → length (where_key R p es) ≤ length es
length-where_key R p [] = omega arith
length-where_key {K} {X} R p (e ∷ es) = told (p e.0) (length-where_key R p es)
  where
    told : (b : Bool) → length (where_key R p es) ≤ length es → length (cond b (e ∷ where_key R p es) (where_key R p es)) ≤ length (e ∷ es)
    told true h = omega arith
    told false h = omega arith

module _ {K X : Type 0} {R : K → K → Ordering} (o : IsTotalOrder R) where
  len-set_or_take : (m : fin.FinMap R X) (k : K) (v : Option X) → fin.len (set_or_take m k v) ≤ fin.len m + 1
  len-set_or_take m k None = told (fin.contains_key m k) (fin.len-remove o m k)
    where
      told : (b : Bool) → fin.len (fin.remove m k) ≡ cond b (fin.len m - 1) (fin.len m) → fin.len (fin.remove m k) ≤ fin.len m + 1
      told true e = omega arith
      told false e = omega arith
  len-set_or_take m k (Some v) = told (fin.contains_key m k) (fin.len-insert o m k v)
    where
      told : (b : Bool) → fin.len (fin.insert m k v) ≡ cond b (fin.len m) (fin.len m + 1) → fin.len (fin.insert m k v) ≤ fin.len m + 1
      told true e = omega arith
      told false e = omega arith

  pub len-overlaid : (es : List (K × Option X)) (m : fin.FinMap R X) → fin.len (overlaid es m) ≤ length es + fin.len m
  unfolding overlaid
  len-overlaid [] m = omega arith
  len-overlaid (e ∷ es) m = omega (arith, len-set_or_take (overlaid es m) e.0 e.1, len-overlaid es m)

pub len-kept : {K X : Type 0} {R : K → K → Ordering} → IsTotalOrder R → CmpEqualImpliesEq R → (m : fin.FinMap R X) (p : K → Bool) → fin.len (fin.retain_keys m p) ≤ fin.len m
len-kept {K} {X} {R} o exact m p = omega (arith, fin.len-entries (fin.retain_keys m p), fin.len-entries m, ap length (entries-retain o exact m p), length-where_key R p (fin.entries m))

len-laid : {K X Y : Type 0} {R : K → K → Ordering} → IsTotalOrder R → CmpEqualImpliesEq R → (es : List (K × Y)) (f : K × Y → Option X) (older : fin.FinMap R X) → fin.len (overlaid (map (λ e. (e.0, f e)) es) older) ≤ length es + fin.len older
len-laid {K} {X} {Y} o exact es f older = omega (arith, len-overlaid o (map (λ (e : K × Y). (e.0, f e)) es) older, length-map {B = K × Option X} es (λ (e : K × Y). (e.0, f e)))

len-nodes : (older newer : Layer) → fin.len (merge older newer).nodes ≤ fin.len older.nodes + fin.len newer.nodes
unfolding merge
len-nodes older newer = omega (arith, len-laid nat_cmp_total exact_unsigned (fin.entries newer.nodes) (λ e. Some (change_over (fin.get older.nodes e.0) e.1)) older.nodes, fin.len-entries newer.nodes)

len-names : (older newer : Layer) → fin.len (merge older newer).names ≤ fin.len older.names + fin.len newer.names
unfolding merge
len-names older newer =
    let kept = λ (link : Link). not (hides_names (fin.get newer.nodes link.directory)) in
    omega (arith, len-laid links_total exact_links (fin.entries newer.names) (λ e. Some e.1) (fin.retain_keys older.names kept), len-kept links_total exact_links older.names kept, fin.len-entries newer.names)

len-blocks : (older newer : Layer) → fin.len (merge older newer).blocks ≤ fin.len older.blocks + fin.len newer.blocks
unfolding merge
len-blocks older newer =
    let kept = λ (file_block : FileBlock). not (hides_block (fin.get newer.nodes file_block.file) file_block.index) in
    omega (arith, len-laid file_blocks_total exact_file_blocks (fin.entries newer.blocks) (λ e. Some e.1) (fin.retain_keys older.blocks kept), len-kept file_blocks_total exact_file_blocks older.blocks kept, fin.len-entries newer.blocks)

some_grows : (n n' n'' : ℕ) → n'' ≤ n + n' → cond (eqb n'' 0) 0 2 ≤ cond (eqb n 0) 0 2 + cond (eqb n' 0) 0 2
some_grows n n' n'' h = grind (arith, nat_tests)

-- more of each needs more
needed : (l n m n' m' n'' m'' : ℕ) → n'' ≤ n + n' → m'' ≤ m + m' → (3 + l) * n'' + l * m'' + cond (eqb n'' 0) 0 2 ≤ ((3 + l) * n + l * m + cond (eqb n 0) 0 2) + ((3 + l) * n' + l * m' + cond (eqb n' 0) 0 2)
needed l n m n' m' n'' m'' h k =
    let a = mul-le (3 + l) n'' (3 + l) (n + n') (omega arith) h in
    let b = mul-le l m'' l (m + m') (omega arith) k in
    omega (arith, a, b, mul-add (3 + l) n n', mul-add l m m', some_grows n n' n'' h)

pub needs_add : (limits : Limits) (older newer : Layer) → need limits (merge older newer) ≤ need limits older + need limits newer
needs_add limits older newer = needed (levels limits) (fin.len older.nodes) (fin.len older.names + fin.len older.blocks) (fin.len newer.nodes) (fin.len newer.names + fin.len newer.blocks) (fin.len (merge older newer).nodes) (fin.len (merge older newer).names + fin.len (merge older newer).blocks)
    (len-nodes older newer) (omega (arith, len-names older newer, len-blocks older newer))

paid : (i below between after more charged charge older newer both : ℕ) → both ≤ older + newer → older + i * between ≤ charged + i * below → newer + i * more ≤ charge → after ≤ between + more → both + i * after ≤ (charged + charge) + i * below
paid i below between after more charged charge older newer both h p q k = omega (arith, mul-le i after i (between + more) (omega arith) k, mul-add i between more)

pub stays_paid : (limits : Limits) (older newer : Layer) (below between after more charged charge : ℕ) → IsPaid limits older below between charged → need limits newer + limits.inode_charge * more ≤ charge → after ≤ between + more → IsPaid limits (merge older newer) below after (charged + charge)
stays_paid limits older newer below between after more charged charge p q k = paid limits.inode_charge below between after more charged charge (need limits older) (need limits newer) (need limits (merge older newer)) (needs_add limits older newer) p q k

-- a layer of one node that is dropped
need-gone : (limits : Limits) (number : ℕ) (by_close : Bool) → need limits (gone number by_close) ≤ (3 + levels limits) + 2
need-gone limits number by_close =
    let nodes : fin.len (gone number by_close).nodes ≤ 1 = omega (arith, len-set_or_take nat_cmp_total fin.empty number (Some (Gone by_close)), fin.len-empty nat_cmp NodeChange) in
    at_most (levels limits) (fin.len (gone number by_close).nodes) (fin.len (gone number by_close).names + fin.len (gone number by_close).blocks) nodes
    (omega (arith, fin.len-empty link_cmp (Option ℕ), fin.len-empty file_block_cmp (List ℕ)))
  where
    at_most : (l n m : ℕ) → n ≤ 1 → m ≡ 0 → (3 + l) * n + l * m + cond (eqb n 0) 0 2 ≤ (3 + l) + 2
    at_most l n m h e = omega (arith, mul-le (3 + l) n (3 + l) 1 (omega arith) h, ap (λ (k : ℕ). l * k) e, two (eqb n 0))
      where
        two : (b : Bool) → cond b 0 2 ≤ 2
        two true = omega arith
        two false = omega arith

pub drops_stay_paid : (limits : Limits) (older : Layer) (number : ℕ) (by_close : Bool) (below after charged : ℕ) → AreCharged limits → IsPaid limits older below (after + 1) charged → IsPaid limits (merge older (gone number by_close)) below after charged
drops_stay_paid limits older number by_close below after charged figures paid =
    omega (arith, needs_add limits older (gone number by_close), need-gone limits number by_close, figures.inodes, paid, mul-add limits.inode_charge after 1)
