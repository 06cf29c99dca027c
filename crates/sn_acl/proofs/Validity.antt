-- The test of an ACL says what `IsValid` says.
use Rattle.std.proofs.Common.{◌≡◌, ℕ, ◌<◌, Bool, true, false, ◌&&◌, ◌||◌, ◌==◌, nat_le, List, refl, sym, ap, ◌∙◌, arith, eq-eqb}
use Rattle.std.specs.List.{list_all}
use Rattle.std.proofs.lemmas.Bool.{eqb-true, eqb-false, leb-true, le-leb}
use Rattle.sn_acl.specs.declared.entries.Entry.{Entry}
use Rattle.sn_acl.specs.Entries.{is_user_obj, is_group_obj, is_mask, is_other, is_named}
use Rattle.sn_acl.specs.AccessList.{IsValid, count_of, is_acl, is_canonical, is_entry}
use Rattle.sn_acl.proofs.ModeLemmas.{both}

pub valid-from_test : (es : List Entry) → is_acl es ≡ true → IsValid es
valid-from_test es e =
    let numbers = both _ (list_all is_entry es) e in
    let canonical = both _ (is_canonical es) numbers.0 in
    let few = both _ (nat_le (count_of is_named es) 32) canonical.0 in
    let beside = both _ ((count_of is_named es == 0) || (count_of is_mask es == 1)) few.0 in
    let most = both _ (nat_le (count_of is_mask es) 1) beside.0 in
    let others = both _ (count_of is_other es == 1) most.0 in
    let first = both (count_of is_user_obj es == 1) (count_of is_group_obj es == 1) others.0 in
    record {
      objects = record {
        user_obj = eqb-true _ 1 first.0;
        group_obj = eqb-true _ 1 first.1;
        other = eqb-true _ 1 others.1;
      };
      mask = record {
        most = leb-true _ 1 most.1;
        beside_named = λ some. masked (count_of is_named es) (count_of is_mask es) beside.1 some;
        named = leb-true _ 32 few.1;
      };
      canonical = canonical.1;
      numbers = numbers.1;
    }
  where
    masked : (n m : ℕ) → ((n == 0) || (m == 1)) ≡ true → 0 < n → m ≡ 1
    masked n m e some = told (n == 0) refl
      where
        told : (b : Bool) → (n == 0) ≡ b → m ≡ 1
        told true f = absurd (omega (arith, some, eqb-true n 0 f))
        told false f = eqb-true m 1 (sym (ap (λ b. b || (m == 1)) f) ∙ e)

all_of : (a b : Bool) → a ≡ true → b ≡ true → (a && b) ≡ true
all_of a b e f = ap (λ t. t && b) e ∙ f

pub test-from_valid : (es : List Entry) → IsValid es → is_acl es ≡ true
test-from_valid es v =
    all_of _ _ (all_of _ _ (all_of _ _ (all_of _ _ (all_of _ _ (all_of _ _ (all_of _ _
    (eq-eqb _ 1 v.objects.user_obj) (eq-eqb _ 1 v.objects.group_obj)) (eq-eqb _ 1 v.objects.other))
    (le-leb _ 1 v.mask.most)) (beside (count_of is_named es) (count_of is_mask es) v.mask.beside_named))
    (le-leb _ 32 v.mask.named)) v.canonical) v.numbers
  where
    either : (a b : Bool) → b ≡ true → (a || b) ≡ true
    either true b = λ e. refl
    either false b = λ e. e

    beside : (n m : ℕ) → (0 < n → m ≡ 1) → ((n == 0) || (m == 1)) ≡ true
    beside n m h = told (n == 0) refl
      where
        told : (b : Bool) → (n == 0) ≡ b → ((n == 0) || (m == 1)) ≡ true
        told true f = ap (λ b. b || (m == 1)) f
        told false f = either (n == 0) (m == 1) (eq-eqb m 1 (h (omega (arith, eqb-false n 0 f))))
