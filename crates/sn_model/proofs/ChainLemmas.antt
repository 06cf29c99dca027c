-- Tests one after the other, and tests joined by `&&`.
use Rattle.std.proofs.Common.{◌≡◌, ◌≢◌, Bool, true, false, not, ◌&&◌, ◌||◌, Option, Some, None, refl, sym, ap, ◌∙◌}
use Rattle.sn_model.specs.Chains.{◌>>=◌, only_if}

pub bind_some : {A B : Type 0} (o : Option A) (f : A → Option B) (b : B) → (o >>= f) ≡ Some b → (x : A) × (o ≡ Some x) × (f x ≡ Some b)
bind_some (Some x) f b e = (x, refl, e)
bind_some None f b e = cc

pub some_bind : {A B : Type 0} (o : Option A) (f : A → Option B) (x : A) (y : Option B) → o ≡ Some x → f x ≡ y → (o >>= f) ≡ y
some_bind o f x y e h = ap (λ u. u >>= f) e ∙ h

pub only_some : {B : Type 0} (t : Bool) (o : Option B) (b : B) → (only_if t >>= (λ _. o)) ≡ Some b → (t ≡ true) × (o ≡ Some b)
only_some true o b e = (refl, e)
only_some false o b e = cc

pub some_only : {B : Type 0} (t : Bool) (o y : Option B) → t ≡ true → o ≡ y → (only_if t >>= (λ _. o)) ≡ y
some_only t o y e h = ap (λ u. only_if u >>= (λ _. o)) e ∙ h

pub only_true : (t : Bool) (u : Unit {0}) → only_if t ≡ Some u → t ≡ true
only_true true u e = refl
only_true false u e = cc

pub and_left : (a b : Bool) → (a && b) ≡ true → a ≡ true
and_left true b e = refl
and_left false b e = e

pub and_right : (a b : Bool) → (a && b) ≡ true → b ≡ true
and_right true b e = e
and_right false b e = cc

pub and_both : (a b : Bool) → a ≡ true → b ≡ true → (a && b) ≡ true
and_both a b e f = ap (λ t. t && b) e ∙ f

pub or_right : (a b : Bool) → b ≡ true → (a || b) ≡ true
or_right true b e = refl
or_right false b e = e

pub not_true : (a : Bool) → not a ≡ true → a ≡ false
not_true true e = cc
not_true false e = refl

pub some_same : {A : Type 0} (x y : A) → Some x ≡ Some y → x ≡ y
some_same x y e = cc

pub some_none : {A : Type 0} (o : Option A) (x : A) → o ≡ Some x → o ≢ None
some_none o x e f = let never : Some x ≡ None = sym e ∙ f in cc
