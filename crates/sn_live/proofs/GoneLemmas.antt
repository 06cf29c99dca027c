-- Files without names that are dropped one after the other.
use Rattle.std.proofs.Common.{◌≡◌, ◌≢◌, ℕ, zero, suc, ◌+◌, ◌<◌, true, false, List, [], ◌∷◌, Contains, get_or, take, length, add-one, refl, sym, ap, subst, ◌∙◌, arith}
use Rattle.std.specs.Cmp.{nat_cmp_total}
use Rattle.std.proofs.lemmas.Map.Lookups.{exact_unsigned}
use Rattle.sn_model.specs.Changes.{take_node}
use Rattle.sn_model.specs.Settling.{is_nameless, settled}
use Rattle.sn_model.specs.Tree.{Tree}
use Rattle.sn_model.proofs.MapLemmas.{get_left}
use Rattle.sn_overlay.specs.Layers.{Layer}
use Rattle.sn_overlay.specs.Merges.{merge}
use Rattle.sn_overlay.specs.Overlays.{gone}
use Rattle.sn_changed.specs.declared.dropped.DroppedFile.{DroppedFile}
use Rattle.sn_changed.specs.Dropped.{LeadsOn, TellsGone, numbers_of, with_drops, without_each}
use Rattle.sn_changed.proofs.DroppedLemmas.{leads_on, told_nameless, without_is}
use Rattle.sn_live.specs.Unnamed.{CanGo, DropsNameless}
use Rattle.sn_live.proofs.BareLemmas.{bare_at}

-- those after the first one are dropped from what is left
rest_go : (tree : Tree) (file : DroppedFile) (files : List DroppedFile) → CanGo tree (file ∷ files) → CanGo (take_node tree file.number) files
rest_go tree file files can = record {
  nameless = λ n c. ap (is_nameless tree n) (get_left nat_cmp_total exact_unsigned tree.nodes file.number n (apart n c)) ∙ can.nameless n (suc c.0, omega (arith, c.1), c.2);
  once = λ i j d low high. can.once (suc i) (suc j) d (omega (arith, low)) (omega (arith, high));
}
  where
    apart : (n : ℕ) → Contains (numbers_of files) n → n ≢ file.number
    apart n c same = can.once zero (suc c.0) n (omega arith) (omega (arith, c.1)) (sym (c.2 ∙ same))

-- once some are gone, the next one is still without a name
pub still_bare : (files : List DroppedFile) (tree : Tree) (k : ℕ) (other : DroppedFile) → CanGo tree files → k < length files → bare_at (without_each tree (take k files)) (get_or files k other).number ≡ true
still_bare [] tree k other can within = absurd (omega (arith, within))
still_bare (file ∷ files) tree zero other can within = can.nameless file.number (zero, omega arith, refl)
still_bare (file ∷ files) tree (suc k) other can within = still_bare files (take_node tree file.number) k other (rest_go tree file files can) (omega (arith, within))

one_goes : (files : List DroppedFile) (tree : Tree) (k : ℕ) (other : DroppedFile) → k < length files → without_each tree (take (suc k) files) ≡ take_node (without_each tree (take k files)) (get_or files k other).number
one_goes [] tree k other within = absurd (omega (arith, within))
one_goes (file ∷ files) tree zero other within = refl
one_goes (file ∷ files) tree (suc k) other within = one_goes files (take_node tree file.number) k other (omega (arith, within))

pub next_goes : (files : List DroppedFile) (tree : Tree) (k : ℕ) (other : DroppedFile) → k < length files → without_each tree (take (k + 1) files) ≡ take_node (without_each tree (take k files)) (get_or files k other).number
next_goes files tree k other within = ap (λ (n : ℕ). without_each tree (take n files)) (add-one k) ∙ one_goes files tree k other within

one_drops : (files : List DroppedFile) (layer : Layer) (k : ℕ) (other : DroppedFile) → k < length files
    → with_drops layer (take (suc k) files) ≡ merge (with_drops layer (take k files)) (gone (get_or files k other).number (get_or files k other).by_close)
one_drops [] layer k other within = absurd (omega (arith, within))
one_drops (file ∷ files) layer zero other within = refl
one_drops (file ∷ files) layer (suc k) other within = one_drops files (merge layer (gone file.number file.by_close)) k other (omega (arith, within))

pub next_drops : (files : List DroppedFile) (layer : Layer) (k : ℕ) (other : DroppedFile) → k < length files
    → with_drops layer (take (k + 1) files) ≡ merge (with_drops layer (take k files)) (gone (get_or files k other).number (get_or files k other).by_close)
next_drops files layer k other within = ap (λ (n : ℕ). with_drops layer (take n files)) (add-one k) ∙ one_drops files layer k other within

-- all that a settled tree lacks can be dropped, and then it is settled
pub all_can_go : (tree : Tree) (files : List DroppedFile) → TellsGone tree (settled tree) files → CanGo tree files
all_can_go tree files tells = record { nameless = told_nameless tree (λ _. false) files tells; once = tells.once }

pub all_gone : (tree : Tree) (files : List DroppedFile) → TellsGone tree (settled tree) files → without_each tree files ≡ settled tree
all_gone tree files tells = without_is tree (λ _. false) files tells

-- ---- what was grown before, and a list that is lent

pub can_go_over : (old mid : Tree) (files listed : List DroppedFile) → mid ≡ old → listed ≡ files → CanGo old files → CanGo mid listed
can_go_over old mid files listed same lent can = subst (λ (t : Tree). CanGo t listed) (sym same) (subst (CanGo old) (sym lent) can)

pub leads_over : (old mid new : Layer) (files listed : List DroppedFile) → mid ≡ old → listed ≡ files → LeadsOn mid listed new → LeadsOn old files new
leads_over old mid new files listed same lent leads = subst (λ (fs : List DroppedFile). LeadsOn old fs new) lent (subst (λ (l : Layer). LeadsOn l listed new) same leads)

pub drops_nameless : (tree : Tree) (old mid new : Layer) (files listed : List DroppedFile) → TellsGone tree (settled tree) files → mid ≡ old → listed ≡ files → new ≡ with_drops mid listed → DropsNameless tree old new
drops_nameless tree old mid new files listed tells same lent is = record {
  files = files;
  gone = tells;
  leads = leads_over old mid new files listed same lent (subst (LeadsOn mid listed) (sym is) (leads_on mid listed));
}

pub settles_to : (old mid new : Tree) (files listed : List DroppedFile) → TellsGone old (settled old) files → mid ≡ old → listed ≡ files → new ≡ without_each mid listed → new ≡ settled old
settles_to old mid new files listed tells same lent is = is ∙ ap (λ (t : Tree). without_each t listed) same ∙ ap (without_each old) lent ∙ all_gone old files tells
