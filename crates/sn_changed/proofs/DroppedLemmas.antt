-- Files that go from the live tree.
use Rattle.std.proofs.Common.{◌≡◌, ◌≢◌, ◌⊎◌, inl, inr, ℕ, zero, suc, ◌<◌, Bool, true, false, not, ◌&&◌, ◌||◌, cond, List, [], ◌∷◌, ◌++◌, Option, Some, None, length, get_or, Contains, is_none, is_some, refl, sym, ap, subst, ◌∙◌, arith, true≢false}
use Rattle.std.specs.Prelude.{AllPairs}
use Rattle.std.specs.FinMap as fin
use Rattle.std.specs.Cmp.{nat_cmp_total}
use Rattle.std.proofs.lemmas.List.{map-append}
use Rattle.std.proofs.lemmas.List.Elements.{Contains-append_left, Contains-get_or, Contains-push, Contains-push_cases}
use Rattle.std.proofs.lemmas.List.Quantifiers.{all_pairs_push}
use Rattle.std.proofs.lemmas.Map.Lookups.{exact_unsigned}
use Rattle.sn_limits.specs.declared.limits.Limits.{Limits}
use Rattle.sn_model.specs.declared.outcome.Caller.{Caller}
use Rattle.sn_model.specs.Changes.{take_node}
use Rattle.sn_model.specs.NameTree.{IsHierarchy}
use Rattle.sn_model.specs.Settling.{dropped, is_held, is_nameless, without_nameless}
use Rattle.sn_model.specs.Steps.{with_caller}
use Rattle.sn_model.specs.Tree.{Node, Tree}
use Rattle.sn_model.specs.World.{World}
use Rattle.sn_model.proofs.MapLemmas.{get_left, get_removed, same_or_apart}
use Rattle.sn_model.proofs.MoveLemmas.{hierarchy_gone, not_directory}
use Rattle.sn_model.proofs.NameLemmas.{is_unnamed}
use Rattle.sn_model.proofs.OtherCallLemmas.{caller_live}
use Rattle.sn_model.proofs.SettlingLemmas.{get_without, nameless_is}
use Rattle.sn_overlay.specs.Layers.{Layer}
use Rattle.sn_overlay.specs.Needs.{AreCharged}
use Rattle.sn_changed.specs.declared.dropped.DroppedFile.{DroppedFile}
use Rattle.sn_changed.specs.Changed.{HasChanged}
use Rattle.sn_changed.specs.Dropped.{AreNameless, LeadsOn, TellsGone, is_gone, numbers_of, with_drops, without_each}
use Rattle.sn_changed.proofs.ChangedLemmas.{drops_merge}

-- ---- one more that was dropped

stays_none : (o p : Option Node) → is_some p ≡ true → (is_some o && is_none p) ≡ true → ⊥
stays_none None p some e = true≢false (sym e)
stays_none (Some x) None some e = true≢false (sym some)
stays_none (Some x) (Some y) some e = true≢false (sym e)

none_gone : (o : Option Node) → (is_some o && is_none o) ≡ true → ⊥
none_gone None e = true≢false (sym e)
none_gone (Some x) e = true≢false (sym e)

module _ (old mid : Tree) (files : List DroppedFile) (file : DroppedFile) (tells : TellsGone old mid files) (was : is_some (fin.get old.nodes file.number) ≡ true) (there : is_some (fin.get mid.nodes file.number) ≡ true) where
  abbrev left : Tree
  left = take_node mid file.number

  abbrev more : List DroppedFile
  more = files ++ file ∷ []

  numbers : numbers_of more ≡ numbers_of files ++ file.number ∷ []
  numbers = map-append (λ (f : DroppedFile). f.number) files (file ∷ [])

  at_other : (n : ℕ) → n ≢ file.number → is_gone old left n ≡ is_gone old mid n
  at_other n apart = ap (λ (o : Option Node). is_some (fin.get old.nodes n) && is_none o) (get_left nat_cmp_total exact_unsigned mid.nodes file.number n apart)

  at_it : (n : ℕ) → n ≡ file.number → is_gone old left n ≡ true
  at_it n same =
      ap (λ (k : ℕ). is_some (fin.get old.nodes k) && is_none (fin.get (fin.remove mid.nodes file.number) k)) same
      ∙ ap (λ (b : Bool). b && is_none (fin.get (fin.remove mid.nodes file.number) file.number)) was
      ∙ ap is_none (get_removed nat_cmp_total mid.nodes file.number)

  to : (n : ℕ) → Contains (numbers_of files ++ file.number ∷ []) n → is_gone old left n ≡ true
  to n c = split (same_or_apart nat_cmp_total exact_unsigned n file.number) (Contains-push_cases (numbers_of files) file.number n c)
    where
      split : (n ≡ file.number) ⊎ (n ≢ file.number) → Contains (numbers_of files) n ⊎ (file.number ≡ n) → is_gone old left n ≡ true
      split (inl same) d = at_it n same
      split (inr apart) (inl d) = at_other n apart ∙ (tells.each n).0 d
      split (inr apart) (inr same) = absurd (apart (sym same))

  from : (n : ℕ) → is_gone old left n ≡ true → Contains (numbers_of files ++ file.number ∷ []) n
  from n e = split (same_or_apart nat_cmp_total exact_unsigned n file.number)
    where
      split : (n ≡ file.number) ⊎ (n ≢ file.number) → Contains (numbers_of files ++ file.number ∷ []) n
      split (inl same) = subst (λ (k : ℕ). Contains (numbers_of files ++ file.number ∷ []) k) (sym same) (Contains-push (numbers_of files) file.number)
      split (inr apart) = Contains-append_left (numbers_of files) (file.number ∷ []) n ((tells.each n).1 (sym (at_other n apart) ∙ e))

  -- it isn't one of those before
  is_new : (k d : ℕ) → k < length (numbers_of files) → get_or (numbers_of files) k d ≢ file.number
  is_new k d within same =
      let told = (tells.each (get_or (numbers_of files) k d)).0 (Contains-get_or (numbers_of files) k d within) in
      stays_none (fin.get old.nodes file.number) (fin.get mid.nodes file.number) there (ap (is_gone old mid) (sym same) ∙ told)

  pub tells_one_more : TellsGone old (take_node mid file.number) (files ++ file ∷ [])
  tells_one_more = record {
    each = λ n. (λ c. to n (subst (λ (xs : List ℕ). Contains xs n) numbers c), λ e. subst (λ (xs : List ℕ). Contains xs n) (sym numbers) (from n e));
    once = subst (AllPairs ◌≢◌) (sym numbers) (all_pairs_push ◌≢◌ (numbers_of files) file.number tells.once is_new);
  }

-- ---- the tree without those that were dropped

links_left : (files : List DroppedFile) (tree : Tree) → (without_each tree files).links ≡ tree.links
links_left [] tree = refl
links_left (file ∷ files) tree = links_left files (take_node tree file.number)

in_rest : (file : DroppedFile) (files : List DroppedFile) (n : ℕ) → Contains (numbers_of files) n → Contains (numbers_of (file ∷ files)) n
in_rest file files n c = (suc c.0, omega (arith, c.1), c.2)

none_left : (files : List DroppedFile) (tree : Tree) (n : ℕ) → fin.get tree.nodes n ≡ None → fin.get (without_each tree files).nodes n ≡ None
none_left [] tree n e = e
none_left (file ∷ files) tree n e = none_left files (take_node tree file.number) n (told (same_or_apart nat_cmp_total exact_unsigned n file.number))
  where
    told : (n ≡ file.number) ⊎ (n ≢ file.number) → fin.get (take_node tree file.number).nodes n ≡ None
    told (inl same) = ap (fin.get (take_node tree file.number).nodes) same ∙ get_removed nat_cmp_total tree.nodes file.number
    told (inr apart) = get_left nat_cmp_total exact_unsigned tree.nodes file.number n apart ∙ e

others_left : (files : List DroppedFile) (tree : Tree) (n : ℕ) → (Contains (numbers_of files) n → ⊥) → fin.get (without_each tree files).nodes n ≡ fin.get tree.nodes n
others_left [] tree n not_one = refl
others_left (file ∷ files) tree n not_one =
    others_left files (take_node tree file.number) n (λ c. not_one (in_rest file files n c))
    ∙ get_left nat_cmp_total exact_unsigned tree.nodes file.number n (λ same. not_one (zero, omega arith, sym same))

each_gone : (files : List DroppedFile) (tree : Tree) (n : ℕ) → Contains (numbers_of files) n → fin.get (without_each tree files).nodes n ≡ None
each_gone [] tree n c = absurd (omega (arith, c.1))
each_gone (file ∷ files) tree n (zero, within, is) = none_left files (take_node tree file.number) n (ap (fin.get (take_node tree file.number).nodes) (sym is) ∙ get_removed nat_cmp_total tree.nodes file.number)
each_gone (file ∷ files) tree n (suc k, within, is) = each_gone files (take_node tree file.number) n (k, omega (arith, within), is)

-- what was dropped had no name, and nobody had it; the others stay
went : (bare held : Bool) (o : Option Node) → (is_some o && is_none (cond (not bare || held) o None)) ≡ true → (bare ≡ true) × (cond (not bare || held) o None ≡ None)
went true false o e = (refl, refl)
went true true o e = absurd (none_gone o e)
went false held o e = absurd (none_gone o e)

stayed : (kept : Bool) (o : Option Node) → (is_some o && is_none (cond kept o None)) ≡ false → o ≡ cond kept o None
stayed true o e = refl
stayed false None e = refl
stayed false (Some x) e = absurd (true≢false e)

module _ (live : Tree) (held : ℕ → Bool) (files : List DroppedFile) (tells : TellsGone live (without_nameless held live) files) where
  abbrev after : Tree
  after = without_nameless held live

  abbrev bare : ℕ → Bool
  bare n = is_nameless live n (fin.get live.nodes n)

  gone_then : (n : ℕ) → is_gone live after n ≡ true → (bare n ≡ true) × (cond (not (bare n) || held n) (fin.get live.nodes n) None ≡ None)
  gone_then n e = went (bare n) (held n) (fin.get live.nodes n) (ap (λ (o : Option Node). is_some (fin.get live.nodes n) && is_none o) (sym (get_without held live n)) ∙ e)

  pub told_nameless : AreNameless live files
  told_nameless n c = (gone_then n ((tells.each n).0 c)).0

  pub without_is : without_each live files ≡ without_nameless held live
  without_is = λ i. record { nodes = nodes i; links = links_left files live i }
    where
      told : (n : ℕ) (b : Bool) → is_gone live after n ≡ b → fin.get (without_each live files).nodes n ≡ cond (not (bare n) || held n) (fin.get live.nodes n) None
      told n true e = each_gone files live n ((tells.each n).1 e) ∙ sym (gone_then n e).1
      told n false e =
          others_left files live n (λ c. true≢false (sym ((tells.each n).0 c) ∙ e))
          ∙ stayed (not (bare n) || held n) (fin.get live.nodes n) (ap (λ (o : Option Node). is_some (fin.get live.nodes n) && is_none o) (sym (get_without held live n)) ∙ e)

      nodes : (without_each live files).nodes ≡ (without_nameless held live).nodes
      nodes = fin.same_map nat_cmp_total exact_unsigned _ _ (λ n. told n (is_gone live after n) refl ∙ sym (get_without held live n))

-- ---- what changed

-- a hierarchy without a file that has no name is one
hierarchy_left : (tree : Tree) (n : ℕ) → IsHierarchy tree → is_nameless tree n (fin.get tree.nodes n) ≡ true → IsHierarchy (take_node tree n)
hierarchy_left tree n h e = told (fin.get tree.nodes n) refl
  where
    told : (found : Option Node) → fin.get tree.nodes n ≡ found → IsHierarchy (take_node tree n)
    told None f = absurd (true≢false (sym e ∙ ap (is_nameless tree n) f))
    told (Some node) f =
        let is = nameless_is tree n node (sym (ap (is_nameless tree n) f) ∙ e) in
        hierarchy_gone tree n h (not_directory tree n node f is.0) (is_unnamed tree n is.1)

pub each_merges : (files : List DroppedFile) (limits : Limits) (layer : Layer) (root live : Tree) (charged : ℕ) → AreCharged limits → IsHierarchy live → HasChanged limits layer root live charged → AreNameless live files → AllPairs ◌≢◌ (numbers_of files)
    → HasChanged limits (with_drops layer files) root (without_each live files) charged
each_merges [] limits layer root live charged figures h is bare once = is
each_merges (file ∷ files) limits layer root live charged figures h is bare once =
    let first : is_nameless live file.number (fin.get live.nodes file.number) ≡ true = bare file.number (zero, omega arith, refl) in
    each_merges files limits _ root (take_node live file.number) charged figures (hierarchy_left live file.number h first) (drops_merge limits layer root live charged file.number file.by_close figures h is first)
    (λ n c. ap (is_nameless live n) (get_left nat_cmp_total exact_unsigned live.nodes file.number n (apart n c)) ∙ bare n (in_rest file files n c))
    (λ i j d low high. once (suc i) (suc j) d (omega (arith, low)) (omega (arith, high)))
  where
    apart : (n : ℕ) → Contains (numbers_of files) n → n ≢ file.number
    apart n c same = once zero (suc c.0) n (omega arith) (omega (arith, c.1)) (sym (c.2 ∙ same))

pub leads_on : (layer : Layer) (files : List DroppedFile) → LeadsOn layer files (with_drops layer files)
leads_on layer files limits root live charged held figures h is tells =
    subst (λ (t : Tree). HasChanged limits (with_drops layer files) root t charged) (without_is live held files tells)
    (each_merges files limits layer root live charged figures h is (told_nameless live held files tells) tells.once)

-- after a caller
pub callers_drop : (limits : Limits) (layer new : Layer) (root : Tree) (charged : ℕ) (world : World) (session : ℕ) (caller : Caller) (files : List DroppedFile) → AreCharged limits → IsHierarchy world.live → HasChanged limits layer root world.live charged
    → TellsGone world.live (dropped (with_caller world session caller)).live files → LeadsOn layer files new → HasChanged limits new root (dropped (with_caller world session caller)).live charged
callers_drop limits layer new root charged world session caller files figures h is tells leads =
    let held = is_held (with_caller world session caller) in
    let same : (dropped (with_caller world session caller)).live ≡ without_nameless held world.live = ap (without_nameless held) (caller_live world session caller) in
    subst (λ (t : Tree). HasChanged limits new root t charged) (sym same) (leads limits root world.live charged held figures h is (subst (λ (t : Tree). TellsGone world.live t files) same tells))
