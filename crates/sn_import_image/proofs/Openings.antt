-- The calls before the first entry, one after the other.
use Rattle.std.proofs.Common.{◌≡◌, ◌∙◌, ◌⊎◌, inl, inr, List, [], ◌∷◌, ◌++◌, refl, sym, ap, subst, append_assoc}
use Rattle.std.specs.Prelude.{Result, Ok, Err, IsOk, IsErrAnd}
use Rattle.std.specs.List.{AllByRecursion}
use Rattle.sn_model.specs.declared.call.Call.{Call}
use Rattle.sn_model.specs.declared.reply.Reply.{Reply}
use Rattle.sn_import_calls.specs.Acts.{Act, Called, Told, calls_in}
use Rattle.sn_import_calls.specs.Carried.{Adds, Grows}
use Rattle.sn_import_image.specs.Opening.{EndsOpening, IsGood, IsJudged, IsOpened, judged}
use Rattle.sn_import_image.specs.declared.fault.ImportFault.{ImportFault}
use Rattle.sn_import_image.specs.declared.fault.ImportFault.TheVariants.{Memory}

-- one call, by its reply
pub opened_one : (c : Call) (told : Reply) (result : Result (Unit {0}) ImportFault) → result ≡ judged told → IsOpened (c ∷ []) (Called c told ∷ []) result
opened_one c told (Ok done) is = record { left = []; plan_is = refl; ends = (refl, (subst IsOk is refl, tt)) }
opened_one c told (Err why) is = record { left = []; plan_is = refl; ends = inr (record { front = []; last = c; told = told; acts_are = refl; good = tt; judged_so = sym is }) }

pub asks : {S : Type 0} (old new : S → List Act → Type 0) (c d : Call) (result : Result (Unit {0}) ImportFault) → c ≡ d
    → ((told : Reply) × Grows old new (Called c told ∷ []) × (result ≡ judged told)) → Adds old new (λ acts. IsOpened (d ∷ []) acts result)
asks old new c d result same asked = (
  Called d asked.0 ∷ [],
  subst (λ (x : Call). Grows old new (Called x asked.0 ∷ [])) same asked.1,
  opened_one d asked.0 result asked.2,
)

-- no memory for it
pub opened_none : (plan : List Call) (result : Result (Unit {0}) ImportFault) → IsErrAnd result (λ why. why ≡ Memory) → IsOpened plan [] result
opened_none plan (Ok done) is = absurd is
opened_none plan (Err why) is = record { left = plan; plan_is = refl; ends = inl (is, tt) }

calls_joined : (a b : List Act) → calls_in (a ++ b) ≡ calls_in a ++ calls_in b
calls_joined [] b = refl
calls_joined (Called c told ∷ a) b = ap (λ (cs : List Call). c ∷ cs) (calls_joined a b)
calls_joined (Told entry name why ∷ a) b = calls_joined a b

good_joined : (a b : List Act) → AllByRecursion IsGood a → AllByRecursion IsGood b → AllByRecursion IsGood (a ++ b)
good_joined [] b first more = more
good_joined (x ∷ a) b first more = (first.0, good_joined a b first.1 more)

ends_joined : (a b : List Act) (left : List Call) (result : Result (Unit {0}) ImportFault) → AllByRecursion IsGood a → EndsOpening left b result → EndsOpening left (a ++ b) result
ends_joined a b left (Ok done) good ends = (ends.0, good_joined a b good ends.1)
ends_joined a b left (Err why) good (inl ends) = inl (ends.0, good_joined a b good ends.1)
ends_joined a b left (Err why) good (inr j) = inr (record {
  front = a ++ j.front;
  last = j.last;
  told = j.told;
  acts_are = ap (λ (acts : List Act). a ++ acts) j.acts_are ∙ sym (append_assoc a j.front (Called j.last j.told ∷ []));
  good = good_joined a j.front good j.good;
  judged_so = j.judged_so;
})

-- calls that were all made, and others after them
pub opened_more : (plan more : List Call) (a b : List Act) (result : Result (Unit {0}) ImportFault) → IsOpened plan a (Ok tt) → IsOpened more b result → IsOpened (plan ++ more) (a ++ b) result
opened_more plan more a b result first next = record {
  left = next.left;
  plan_is =
      ap (λ (cs : List Call). cs ++ more) (first.plan_is ∙ ap (λ (cs : List Call). calls_in a ++ cs) first.ends.0) ∙ append_assoc (calls_in a) [] more
      ∙ ap (λ (cs : List Call). calls_in a ++ cs) next.plan_is ∙ sym (append_assoc (calls_in a) (calls_in b) next.left)
      ∙ ap (λ (cs : List Call). cs ++ next.left) (sym (calls_joined a b));
  ends = ends_joined a b next.left result first.ends.1 next.ends;
}

-- one that was refused is the end
pub opened_stop : (plan more : List Call) (a : List Act) (why : ImportFault) (result : Result (Unit {0}) ImportFault) → IsErrAnd result (λ other. other ≡ why) → IsOpened plan a (Err why) → IsOpened (plan ++ more) a result
opened_stop plan more a why (Ok done) is opened = absurd is
opened_stop plan more a why (Err other) is opened = record {
  left = opened.left ++ more;
  plan_is = ap (λ (cs : List Call). cs ++ more) opened.plan_is ∙ append_assoc (calls_in a) opened.left more;
  ends = subst (λ (w : ImportFault). ((w ≡ Memory) × AllByRecursion IsGood a) ⊎ IsJudged w a) (sym is) opened.ends;
}
