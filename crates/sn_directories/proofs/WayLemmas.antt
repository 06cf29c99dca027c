-- The way up from a directory, by the table: each step goes to the directory that has its name, and the root is the end.
use Rattle.std.proofs.Common.{◌≡◌, ◌≢◌, ℕ, zero, suc, ◌+◌, ◌*◌, ◌<◌, ◌≤◌, Bool, true, false, cond, ◌==◌, nat_lt, List, [], ◌∷◌, length, Some, refl, sym, ap, subst, ◌∙◌, arith, eq-eqb}
use Rattle.std.specs.Prelude.{count_by, not}
use Rattle.std.specs.FinMap as map
use Rattle.std.proofs.lemmas.Bool.{false_from_ne_true, lt-ltb, ltb-true, true≢false}
use Rattle.std.proofs.lemmas.List.Sums.{sum_by-cons}
use Rattle.sn_limits.specs.declared.kind.Kind.TheVariants.{Directory}
use Rattle.sn_limits.specs.Versions.{limits_written}
use Rattle.sn_model.specs.declared.link.Link.{Link}
use Rattle.sn_model.specs.Tree.{Tree}
use Rattle.sn_model.specs.Changes.{is_at_or_below}
use Rattle.sn_model.specs.ChangeLaws.{IsBelow, here, under}
use Rattle.sn_model.specs.NameTree.{HasKind, IsTree}
use Rattle.sn_model.proofs.ClimbLemmas.{Climbs, climb_fits, climb_root, climbed, test_is_below}
use Rattle.sn_model.proofs.CountLemmas.{count_none}
use Rattle.sn_model.proofs.LinkLemmas.{exact_links, links_total}
use Rattle.sn_model.proofs.MoveLemmas.{some_node}
use Rattle.sn_directories.specs.Told.{TellsDirectories, counted_at}
use Rattle.sn_directories.specs.declared.table.Counted.{Counted}

-- ---- how many names there are

abbrev Names : Type 0
Names = List (Link × ℕ)

abbrev before : ℕ → Names → ℕ
before k es = count_by (λ (e : Link × ℕ). nat_lt e.0.directory k) es

one_more : (d k : ℕ) → cond (nat_lt d (suc k)) 1 0 ≤ cond (nat_lt d k) 1 0 + cond (d == k) 1 0
one_more d k = told (nat_lt d k) refl (d == k) refl (nat_lt d (suc k)) refl
  where
    once_at_most : (c : Bool) (n : ℕ) → cond c 1 0 ≤ 1 + n
    once_at_most true n = omega arith
    once_at_most false n = omega arith

    told : (a : Bool) → nat_lt d k ≡ a → (b : Bool) → (d == k) ≡ b → (c : Bool) → nat_lt d (suc k) ≡ c → cond c 1 0 ≤ cond a 1 0 + cond b 1 0
    told true e b f c g = once_at_most c (cond b 1 0)
    told false e true f c g = once_at_most c 0
    told false e false f false g = omega arith
    told false e false f true g =
        let most : d < suc k = ltb-true d (suc k) g in
        let apart : d ≢ k = λ same. true≢false (sym (eq-eqb d k same) ∙ f) in
        let less : d < k = omega (arith, most, apart) in
        absurd (true≢false (sym (lt-ltb d k less) ∙ e))

before_more : (k : ℕ) (es : Names) → before (suc k) es ≤ before k es + count_by (λ (e : Link × ℕ). e.0.directory == k) es
before_more k [] = omega arith
before_more k (e ∷ es) = omega (
  arith,
  before_more k es,
  one_more e.0.directory k,
  sum_by-cons (λ (x : Link × ℕ). cond (nat_lt x.0.directory (suc k)) 1 0) e es,
  sum_by-cons (λ (x : Link × ℕ). cond (nat_lt x.0.directory k) 1 0) e es,
  sum_by-cons (λ (x : Link × ℕ). cond (x.0.directory == k) 1 0) e es,
)

-- 1 where a number is less than another one
abbrev less_once : ℕ → ℕ → ℕ
less_once d k = cond (nat_lt d k) 1 0

before_none : (es : Names) → before 0 es ≡ 0
before_none [] = refl
before_none (e ∷ es) = omega (arith, before_none es, none_less e.0.directory, sum_by-cons (λ (x : Link × ℕ). cond (nat_lt x.0.directory 0) 1 0) e es)
  where
    none_less : (d : ℕ) → less_once d 0 ≡ 0
    none_less d = ap {B = ℕ} (λ (b : Bool). cond b 1 0) (false_from_ne_true (nat_lt d 0) (λ e. let less : d < 0 = ltb-true d 0 e in omega (arith, less)))

before_few : (es : Names) → ((d : ℕ) → count_by (λ (e : Link × ℕ). e.0.directory == d) es ≤ 65535) → (k : ℕ) → before k es ≤ k * 65535
before_few es few zero = omega (arith, before_none es)
before_few es few (suc k) = omega (arith, before_few es few k, before_more k es, few k)

counted_once : (b : Bool) → cond b 1 0 + cond (not b) 1 0 ≡ 1
counted_once true = refl
counted_once false = refl

all_counted : (end : ℕ) (es : Names) → length es ≤ before end es + count_by (λ (e : Link × ℕ). not (nat_lt e.0.directory end)) es
all_counted end [] = omega arith
all_counted end (e ∷ es) = omega (
  arith,
  all_counted end es,
  counted_once (nat_lt e.0.directory end),
  sum_by-cons (λ (x : Link × ℕ). cond (nat_lt x.0.directory end) 1 0) e es,
  sum_by-cons (λ (x : Link × ℕ). cond (not (nat_lt x.0.directory end)) 1 0) e es,
)

module _ (tree : Tree) (whole : IsTree limits_written tree) where
  low : (link : Link) (number : ℕ) → map.get tree.links link ≡ Some number → link.directory < 65536
  low link number e =
      let found = some_node _ Directory (whole.hierarchy.held link number e) in
      let most : link.directory ≤ 65535 = (whole.nodes.nodes link.directory found.0 found.1).within in
      omega (arith, most)

  none_above : count_by (λ (e : Link × ℕ). not (nat_lt e.0.directory 65536)) (map.entries tree.links) ≡ 0
  none_above = count_none links_total exact_links (λ (e : Link × ℕ). not (nat_lt e.0.directory 65536)) tree.links (λ q v e. ap not (lt-ltb q.directory 65536 (low q v e)))

  pub few_names : map.len tree.links ≤ 65536 * 65535
  few_names = omega (arith, map.len-entries tree.links, all_counted 65536 (map.entries tree.links), none_above, before_few (map.entries tree.links) whole.few.names 65536)

-- ---- the way up

same_bool : (a b : Bool) → (a ≡ true → b ≡ true) → (b ≡ true → a ≡ true) → a ≡ b
same_bool true b f g = sym (f refl)
same_bool false true f g = g refl
same_bool false false f g = refl

-- From a directory so many steps were gone up to this one, which is below the top exactly if the first is. The rest of the way leads to the root.
pub record IsOnWay (tree : Tree) (top directory current gone : ℕ) : Type 0 where
  pub rest : is_at_or_below tree top current ≡ is_at_or_below tree top directory
  pub kind : HasKind tree current Directory
  pub way : List Link
  pub climbs : Climbs tree 2 way current
  pub few : length way + gone ≤ map.len tree.links

module _ (tree : Tree) (whole : IsTree limits_written tree) where
  -- the root is below no other directory
  root_alone : (top d : ℕ) → d ≢ top → d ≡ 2 → IsBelow tree top d → ⊥
  root_alone top d apart root here = apart refl
  root_alone top d apart root (under link n b e) = whole.hierarchy.unnamed link (e ∙ ap (λ (j : ℕ). Some j) root)

  -- what another one is below has it above the directory that it is in
  to_parent : (top : ℕ) (k : Link) (d : ℕ) → d ≢ top → HasKind tree d Directory → map.get tree.links k ≡ Some d → IsBelow tree top d → IsBelow tree top k.directory
  to_parent top k d apart kind named here = absurd (apart refl)
  to_parent top k d apart kind named (under link n b e) = subst (λ (l : Link). IsBelow tree top l.directory) (whole.hierarchy.once link k d kind e named) b

module _ (tree : Tree) (whole : IsTree limits_written tree) (rows : List Counted) (tells : TellsDirectories tree rows) (top directory : ℕ) where
  pub starts : HasKind tree directory Directory → IsOnWay tree top directory directory 0
  starts kind =
      let up = climb_root tree directory (whole.hierarchy.reached directory kind) in
      record { rest = refl; kind = kind; way = up.0; climbs = up.1; few = omega (arith, climb_fits tree (climbed tree whole.hierarchy) up.0 directory kind up.1) }

  module _ (current gone : ℕ) (on : IsOnWay tree top directory current gone) where
    pub at_top : current ≡ top → true ≡ is_at_or_below tree top directory
    at_top same = sym ((test_is_below tree whole.hierarchy top current on.kind).1 (subst (λ (j : ℕ). IsBelow tree j current) same here)) ∙ on.rest

    pub at_root : current ≢ top → current ≡ 2 → false ≡ is_at_or_below tree top directory
    at_root apart root = sym (false_from_ne_true _ (λ e. root_alone tree whole top current apart root ((test_is_below tree whole.hierarchy top current on.kind).0 e))) ∙ on.rest

    pub goes_up : current ≢ top → current ≢ 2 → (next : ℕ) → next ≡ (counted_at rows current).parent → IsOnWay tree top directory next (gone + 1)
    goes_up apart below next is = told on.way on.climbs on.few
      where
        told : (way : List Link) → Climbs tree 2 way current → length way + gone ≤ map.len tree.links → IsOnWay tree top directory next (gone + 1)
        told [] climbs few = absurd (below climbs)
        told (k ∷ ks) climbs few =
            let parent : k.directory ≡ next = sym (is ∙ tells.parents k current climbs.0 on.kind) in
            let kind : HasKind tree k.directory Directory = whole.hierarchy.held k current climbs.0 in
            let above = test_is_below tree whole.hierarchy top k.directory kind in
            let itself = test_is_below tree whole.hierarchy top current on.kind in
            let over : suc (length ks) + gone ≤ map.len tree.links = few in
            subst (λ (j : ℕ). IsOnWay tree top directory j (gone + 1)) parent (record {
              rest = same_bool _ _ (λ e. itself.1 (under k current (above.0 e) climbs.0)) (λ e. above.1 (to_parent tree whole top k current apart on.kind climbs.0 (itself.0 e))) ∙ on.rest;
              kind = kind;
              way = ks;
              climbs = climbs.1;
              few = omega (arith, over);
            })

    pub ended : 4294967295 ≤ gone → ⊥
    ended gone_all = omega (arith, gone_all, on.few, few_names tree whole)
