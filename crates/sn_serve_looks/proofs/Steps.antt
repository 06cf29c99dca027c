-- What the messages share.
use Rattle.std.proofs.Common.{◌≡◌, ◌∙◌, ℕ, ◌≤◌, ◌+◌, ◌∷◌, List, ap, drop, length, subst}
use Rattle.std.proofs.lemmas.List.{drop_all, drop_more}
use Rattle.std.proofs.lemmas.Option.{get_or_from_slice_get, slice_get_within}
use Rattle.std.specs.Prelude.{Option, None, Some, Ok, IfSome, slice_get}
use Rattle.sn_acl.specs.AccessList.{IsValid}
use Rattle.sn_acl.specs.declared.entries.Entry.{Entry}
use Rattle.sn_acl_xattr.specs.Values.{IsValueOf}
use Rattle.sn_fuse.specs.declared.forgets.Forget.{Forget}
use Rattle.sn_plan.specs.Acts.{Act}
use Rattle.sn_plan.specs.Follows.{Does, Goes}
use Rattle.sn_plan.specs.Plans.{Plan, given, ◌>>=◌}
use Rattle.sn_plan.specs.declared.server.Server.{Server}
use Rattle.sn_plan.proofs.Following.{goes_before, goes_on}
use Rattle.sn_serve_looks.specs.Messages.{batch_forget, forget}
use Rattle.sn_serve_looks.specs.Xattrs.{IsRead}

-- what a value was read as
pub read_so : (value : List ℕ) (r : Option (List Entry)) → IfSome r (λ acl. IsValid acl × IsValueOf value acl)
    → ((acl : List Entry) → IsValid acl → IsValueOf value acl → r ≡ Some acl) → IsRead value r
read_so value None found only = λ acl valid of. (let e = only acl valid of in cc)
read_so value (Some acl) found only = found

-- the nodes from an index on
from_there : (forgets : List Forget) (at : ℕ) (one : Forget) → slice_get forgets at ≡ Some one → drop at forgets ≡ one ∷ drop (at + 1) forgets
from_there forgets at one is =
    drop_more forgets at one (slice_get_within forgets at one is) ∙ ap (λ (f : Forget). f ∷ drop (at + 1) forgets) (get_or_from_slice_get forgets at one one is)

-- one of them is forgotten
pub forgets_next : {F : Type 0} {did : F → F → List Act → Type 0} {s t u : Server F} {p : Plan (Unit {0})} (forgets : List Forget) (at : ℕ) (one : Forget)
    → Goes did s t p (batch_forget (drop at forgets)) → slice_get forgets at ≡ Some one → Does did t u (forget one.node one.lookups) (Ok tt)
    → Goes did s u p (batch_forget (drop (at + 1) forgets))
unfolding batch_forget given ◌>>=◌
forgets_next {did = did} {s = s} {t = t} {p = p} forgets at one v is h =
    goes_on (subst (λ (l : List Forget). Goes did s t p (batch_forget l)) (from_there forgets at one is) v) (goes_before (λ _. batch_forget (drop (at + 1) forgets)) h.goes)

-- all are
pub all_forgotten : {F : Type 0} {did : F → F → List Act → Type 0} {s t : Server F} {p : Plan (Unit {0})} (forgets : List Forget) (at : ℕ)
    → Goes did s t p (batch_forget (drop at forgets)) → length forgets ≤ at → Does did s t p (Ok tt)
unfolding batch_forget given
all_forgotten {did = did} {s = s} {t = t} {p = p} forgets at v past = record {
  goes = subst (λ (l : List Forget). Goes did s t p (batch_forget l)) (drop_all at forgets past) v;
}
