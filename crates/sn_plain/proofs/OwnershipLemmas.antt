-- Owners and ACLs that a node can have.
use Rattle.std.proofs.Common.{◌≡◌, ◌<◌, ◌^◌, Bool, true, false, ◌&&◌, nat_lt, List, Some, None, refl, sym, ap, ◌∙◌}
use Rattle.std.proofs.lemmas.Bool.{lt-ltb}
use Rattle.sn_acl.specs.declared.entries.Entry.{Entry}
use Rattle.sn_acl.specs.AccessList.{IsValid, is_acl}
use Rattle.sn_acl.proofs.Validity.{test-from_valid}
use Rattle.sn_limits.specs.declared.kind.Kind.{Kind}
use Rattle.sn_walk.specs.Views.{is_directory}
use Rattle.sn_model.specs.declared.change.Ownership.{Ownership}
use Rattle.sn_model.specs.Changes.{is_default_acl, is_ownership}
use Rattle.sn_model.proofs.ChainLemmas.{and_both}

module _ (kind : Kind) (o : Ownership) (owner : o.owner < 2 ^ 32) (group : o.group < 2 ^ 32) (valid : IsValid o.acl) where
  all_but : (nat_lt o.owner (2 ^ 32) && nat_lt o.group (2 ^ 32) && is_acl o.acl) ≡ true
  all_but = and_both _ _ (and_both _ _ (lt-ltb _ _ owner) (lt-ltb _ _ group)) (test-from_valid o.acl valid)

  rest : is_default_acl kind o.default_acl ≡ is_ownership kind o
  rest = ap (λ b. b && is_default_acl kind o.default_acl) (sym all_but)

  pub owned_none : o.default_acl ≡ None → true ≡ is_ownership kind o
  owned_none e = ap (is_default_acl kind) (sym e) ∙ rest

  with_valid : (b : Bool) (es : List Entry) → IsValid es → b ≡ (b && is_acl es)
  with_valid true es v = sym (test-from_valid es v)
  with_valid false es v = refl

  pub owned_some : (es : List Entry) → IsValid es → o.default_acl ≡ Some es → is_directory kind ≡ is_ownership kind o
  owned_some es v e = with_valid (is_directory kind) es v ∙ ap (is_default_acl kind) (sym e) ∙ rest
