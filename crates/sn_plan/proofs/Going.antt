-- Acts that lead from a plan to what is left of it, one after the other.
use Rattle.std.proofs.Common.{List, ◌++◌}
use Rattle.sn_plan.specs.Acts.{Act}
use Rattle.sn_plan.specs.Plans.{Kept, Plan, ◌>>=◌}
use Rattle.sn_plan.specs.Follows.{Leads, stays, takes, lacks, called, found, unfound, seen, unseen, counted, knows, keeps}

pub leads_on : {A : Type 0} {p q r : Plan A} {t u v : Kept} {a b : List Act} → Leads p t a q u → Leads q u b r v → Leads p t (a ++ b) r v
leads_on stays g = g
leads_on (takes h) g = takes (leads_on h g)
leads_on lacks stays = lacks
leads_on (called h) g = called (leads_on h g)
leads_on (found h) g = found (leads_on h g)
leads_on unfound stays = unfound
leads_on (seen h) g = seen (leads_on h g)
leads_on unseen stays = unseen
leads_on (counted h) g = counted (leads_on h g)
leads_on (knows h) g = knows (leads_on h g)
leads_on (keeps becomes h) g = keeps becomes (leads_on h g)

-- a plan that another follows
pub leads_before : {A B : Type 0} {p q : Plan A} {t u : Kept} {a : List Act} (k : A → Plan B) → Leads p t a q u → Leads (p >>= k) t a (q >>= k) u
unfolding ◌>>=◌
leads_before k stays = stays
leads_before k (takes h) = takes (leads_before k h)
leads_before k lacks = lacks
leads_before k (called h) = called (leads_before k h)
leads_before k (found h) = found (leads_before k h)
leads_before k unfound = unfound
leads_before k (seen h) = seen (leads_before k h)
leads_before k unseen = unseen
leads_before k (counted h) = counted (leads_before k h)
leads_before k (knows h) = knows (leads_before k h)
leads_before k (keeps becomes h) = keeps becomes (leads_before k h)
