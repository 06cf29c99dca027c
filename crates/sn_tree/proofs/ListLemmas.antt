-- Elements of lists, for the crates above too.
use Rattle.std.proofs.Common.{◌≡◌, ℕ, ◌<◌, List, length, map, get_or, sym, subst, arith}
use Rattle.std.specs.Prelude.{Contains}
use Rattle.std.proofs.lemmas.List.{get_or-map, length-map}
use Rattle.std.proofs.lemmas.List.Elements.{Contains-get_or}

module _ {X Y : Type 0} (f : X → Y) (list : List X) where
  -- what a function makes of an element is among what it makes of the list
  pub mapped_at : (i : ℕ) (d : X) → i < length list → Contains (map f list) (f (get_or list i d))
  mapped_at i d within =
      let here = Contains-get_or (map f list) i (f d) (omega (arith, within, length-map list f)) in
      subst (λ (y : Y). Contains (map f list) y) (get_or-map f list i d (f d) within) here

  pub mapped_there : (i : ℕ) (x : X) → i < length list → x ≡ get_or list i x → Contains (map f list) (f x)
  mapped_there i x within is = subst (λ (z : X). Contains (map f list) (f z)) (sym is) (mapped_at i x within)
