-- Worlds of which no file goes: each one without a name is still open.
use Rattle.std.proofs.Common.{◌≡◌, ◌≢◌, ◌⊎◌, ℕ, true, Option, Some, None, inl, inr, refl, sym, ap, ◌∙◌}
use Rattle.std.specs.Prelude.{IsSomeAnd}
use Rattle.std.specs.Cmp.{nat_cmp_total}
use Rattle.std.specs.FinMap as map
use Rattle.std.proofs.lemmas.Map.Lookups.{exact_unsigned}
use Rattle.sn_limits.specs.declared.kind.Kind.TheVariants.{File}
use Rattle.sn_limits.specs.declared.limits.Limits.{Limits}
use Rattle.sn_walk.specs.declared.object.Home.TheVariants.{Live}
use Rattle.sn_model.specs.Changes.{put_node}
use Rattle.sn_model.specs.Descriptors.{Descriptors, closed, is_held_in, opened}
use Rattle.sn_model.specs.NameTree.{HasKind}
use Rattle.sn_model.specs.Settling.{dropped}
use Rattle.sn_model.specs.Tree.{Node, Tree, names_for}
use Rattle.sn_model.specs.World.{Descriptor, World}
use Rattle.sn_model.specs.Worlds.{IsWorld}
use Rattle.sn_model.proofs.DroppedLemmas.{all_held, dropped_same}
use Rattle.sn_model.proofs.HeldLemmas.{descriptors_total, exact_descriptors, held_at, held_by}
use Rattle.sn_model.proofs.MapLemmas.{get_inserted, get_left, get_other, same_or_apart}
use Rattle.sn_model.proofs.MoveLemmas.{is_kind, kind_at, some_node}

-- a live tree and descriptors after which each file without a name had none before, and who held it holds it still
pub record Leaves (old : World) (tree : Tree) (table : Descriptors) : Type 0 where
  pub files : (m : ℕ) → HasKind tree m File → names_for tree m ≡ 0 → HasKind old.live m File × (names_for old.live m ≡ 0)
  pub held : (m : ℕ) → names_for tree m ≡ 0 → is_held_in old.descriptors m ≡ true → is_held_in table m ≡ true

pub stays : (limits : Limits) (old : World) (tree : Tree) (table : Descriptors) → IsWorld limits old → Leaves old tree table
    → dropped (record old { live = tree; descriptors = table }) ≡ record old { live = tree; descriptors = table }
stays limits old tree table w l = dropped_same limits (record old { live = tree; descriptors = table })
    (λ m k z. (let was = l.files m k z in l.held m z (all_held limits old w m was.0 was.1)))

-- ---- descriptors

-- they are numbered by session, and then by themselves
abbrev IsOne : ℕ → ℕ → ℕ → ℕ → Type 0
IsOne i n session fd = let key : ℕ × ℕ = (i, n) in key ≡ (session, fd)

-- one that is put in the place of another of the same file, or where none was
pub held_put : (table : Descriptors) (session fd : ℕ) (new : Descriptor) → ((d : Descriptor) → map.get table (session, fd) ≡ Some d → (new.home ≡ d.home) × (new.number ≡ d.number))
    → (m : ℕ) → is_held_in table m ≡ true → is_held_in (opened table session fd new) m ≡ true
held_put table session fd new same m e =
    let h = held_by table m e in
    told h.0 h.1 (map.get table (h.0, h.1)) refl h.2
  where
    told : (i n : ℕ) (o : Option Descriptor) → map.get table (i, n) ≡ o → IsSomeAnd o (λ d. (d.home ≡ Live) × (d.number ≡ m)) → is_held_in (opened table session fd new) m ≡ true
    told i n None is h = absurd h
    told i n (Some d) is h = split (same_or_apart descriptors_total exact_descriptors (i, n) (session, fd))
      where
        split : IsOne i n session fd ⊎ (IsOne i n session fd → ⊥) → is_held_in (opened table session fd new) m ≡ true
        split (inl q) =
            let k = same d (ap (map.get table) (sym q) ∙ is) in
            held_at (opened table session fd new) m session fd new (get_inserted descriptors_total table (session, fd) new) (k.0 ∙ h.0) (k.1 ∙ h.1)
        split (inr apart) = held_at (opened table session fd new) m i n d (get_other descriptors_total exact_descriptors table (session, fd) new (i, n) apart ∙ is) h.0 h.1

-- one that is closed holds nothing but its own file
pub held_closed : (table : Descriptors) (session fd : ℕ) (old : Descriptor) → map.get table (session, fd) ≡ Some old → (m : ℕ) → old.number ≢ m
    → is_held_in table m ≡ true → is_held_in (closed table session fd) m ≡ true
held_closed table session fd old there m other e =
    let h = held_by table m e in
    told h.0 h.1 (map.get table (h.0, h.1)) refl h.2
  where
    told : (i n : ℕ) (o : Option Descriptor) → map.get table (i, n) ≡ o → IsSomeAnd o (λ d. (d.home ≡ Live) × (d.number ≡ m)) → is_held_in (closed table session fd) m ≡ true
    told i n None is h = absurd h
    told i n (Some d) is h = split (same_or_apart descriptors_total exact_descriptors (i, n) (session, fd))
      where
        split : IsOne i n session fd ⊎ (IsOne i n session fd → ⊥) → is_held_in (closed table session fd) m ≡ true
        split (inl q) =
            let both : Some old ≡ Some d = sym there ∙ ap (map.get table) (sym q) ∙ is in
            let one : old ≡ d = cc in
            absurd (other (ap (λ (x : Descriptor). x.number) one ∙ h.1))
        split (inr apart) = held_at (closed table session fd) m i n d (get_left descriptors_total exact_descriptors table (session, fd) (i, n) apart ∙ is) h.0 h.1

-- ---- nodes

-- another node of the same kind makes no file
pub files_put : (tree : Tree) (n : ℕ) (node new : Node) → map.get tree.nodes n ≡ Some node → new.kind ≡ node.kind → (m : ℕ) → HasKind (put_node tree n new) m File → HasKind tree m File
files_put tree n node new there kind m h = split (same_or_apart nat_cmp_total exact_unsigned m n)
  where
    split : (m ≡ n) ⊎ (m ≢ n) → HasKind tree m File
    split (inl q) =
        let s = some_node _ File h in
        let both : Some s.0 ≡ Some new = sym s.1 ∙ ap (map.get (put_node tree n new).nodes) q ∙ get_inserted nat_cmp_total tree.nodes n new in
        let one : s.0 ≡ new = cc in
        is_kind tree m node File (ap (map.get tree.nodes) q ∙ there) (sym kind ∙ ap (λ (x : Node). x.kind) (sym one) ∙ s.2)
    split (inr apart) = kind_at _ _ File (sym (get_other nat_cmp_total exact_unsigned tree.nodes n new m apart)) h
