-- What was done, act by act.
use Rattle.std.proofs.Common.{◌≡◌, ◌∙◌, ℕ, Bool, true, false, ◌||◌, List, [], ◌∷◌, ◌++◌, length, replicate, refl, sym, ap, subst, append_assoc, true≢false}
use Rattle.std.specs.Prelude.{IsTrue, Option}
use Rattle.std.proofs.lemmas.List.{append-nil}
use Rattle.sn_model.specs.declared.call.Call.{Call}
use Rattle.sn_model.specs.declared.call.Event.{Event}
use Rattle.sn_model.specs.declared.call.Event.TheVariants as event
use Rattle.sn_model.specs.declared.reply.Reply.{Reply}
use Rattle.sn_serving.specs.Served.{Leads}
use Rattle.sn_serving.proofs.ServedLemmas.{leads_more, leads_none}
use Rattle.sn_import_calls.specs.Acts.{Act, Called, Told}
use Rattle.sn_import_calls.specs.Carried.{Grows}
use Rattle.sn_import_calls.specs.declared.why.Why.{Why}
use Rattle.sn_import_image.specs.Importing.{AreEventsOf, Did, Seen, has_report}

-- ---- events

events_more : (a b : List Act) (e f : List Event) (r s : List Reply) → AreEventsOf a e r → AreEventsOf b f s → AreEventsOf (a ++ b) (e ++ f) (r ++ s)
events_more [] b e f r s first more =
    subst (λ (es : List Event). AreEventsOf b (es ++ f) (r ++ s)) (sym first.0) (subst (λ (rs : List Reply). AreEventsOf b f (rs ++ s)) (sym first.1) more)
events_more (Called c told ∷ a) b e f r s first more =
    let steps = first.0 in (
      steps,
      first.1 ++ f,
      first.2 ++ s,
      ap (λ (es : List Event). es ++ f) first.3 ∙ ap (λ (es : List Event). event.Call 0 c ∷ es) (append_assoc (replicate (length steps) event.Step) first.1 f),
      ap (λ (rs : List Reply). rs ++ s) first.4 ∙ ap (λ (rs : List Reply). told ∷ rs) (append_assoc steps first.2 s),
      events_more a b first.1 f first.2 s first.5 more,
    )
events_more (Told entry name why ∷ a) b e f r s first more = events_more a b e f r s first more

events_told : (a : List Act) (entry : Option ℕ) (name : List ℕ) (why : Why) (e : List Event) (r : List Reply) → AreEventsOf a e r → AreEventsOf (a ++ Told entry name why ∷ []) e r
events_told [] entry name why e r are = are
events_told (Called c told ∷ a) entry name why e r are = (are.0, are.1, are.2, are.3, are.4, events_told a entry name why are.1 are.2 are.5)
events_told (Told other n w ∷ a) entry name why e r are = events_told a entry name why e r are

-- ---- reports

report_called : (a : List Act) (c : Call) (told : Reply) → has_report (a ++ Called c told ∷ []) ≡ has_report a
report_called [] c told = refl
report_called (Called d r ∷ a) c told = report_called a c told
report_called (Told entry name why ∷ a) c told = refl

report_told : (a : List Act) (entry : Option ℕ) (name : List ℕ) (why : Why) → has_report (a ++ Told entry name why ∷ []) ≡ true
report_told [] entry name why = refl
report_told (Called d r ∷ a) entry name why = report_told a entry name why
report_told (Told other n w ∷ a) entry name why = refl

or_true : (b : Bool) → b || true ≡ true
or_true true = refl
or_true false = refl

or_false : (b : Bool) → b || false ≡ b
or_false true = refl
or_false false = refl

-- ---- what was done

module _ {E : Type 0} (told : Bool) where
  pub did_none : (s : Seen E) → Did told s s []
  did_none s = record {
    events = [];
    replies = [];
    are = (refl, refl);
    leads = λ is. leads_none s.0;
    reported = sym (or_false s.2);
    quiet = λ none. refl;
  }

  -- a call was made, and steps after it
  pub did_call : (c : Call) (reply : Reply) (steps : List Reply) (old new : Seen E) → (IsTrue told → Leads (event.Call 0 c ∷ replicate (length steps) event.Step) (reply ∷ steps) old.0 new.0)
      → new.1 ≡ old.1 → new.2 ≡ old.2 → Grows (Did told old) (Did told new) (Called c reply ∷ [])
  did_call c reply steps old new leads same still = record {
    grows = λ first before d.
        let events : List Event = event.Call 0 c ∷ replicate (length steps) event.Step in
        let replies : List Reply = reply ∷ steps in
        record {
          events = d.events ++ events;
          replies = d.replies ++ replies;
          are = events_more before (Called c reply ∷ []) d.events events d.replies replies d.are (
            steps,
            [],
            [],
            ap (λ (es : List Event). event.Call 0 c ∷ es) (sym (append-nil (replicate (length steps) event.Step))),
            ap (λ (rs : List Reply). reply ∷ rs) (sym (append-nil steps)),
            (refl, refl),
          );
          leads = λ is. leads_more d.events events d.replies replies first.0 old.0 new.0 (d.leads is) (leads is);
          reported = still ∙ d.reported ∙ ap (λ (b : Bool). first.2 || b) (sym (report_called before c reply));
          quiet = λ none. same ∙ d.quiet (sym (report_called before c reply) ∙ none);
        };
  }

  -- something was reported
  pub did_report : (entry : Option ℕ) (name : List ℕ) (why : Why) (old new : Seen E) → new.0 ≡ old.0 → new.2 ≡ true → Grows (Did told old) (Did told new) (Told entry name why ∷ [])
  did_report entry name why old new same is = record {
    grows = λ first before d. record {
      events = d.events;
      replies = d.replies;
      are = events_told before entry name why d.events d.replies d.are;
      leads = λ known. subst (λ s. Leads d.events d.replies first.0 s) (sym same) (d.leads known);
      reported = is ∙ sym (or_true first.2) ∙ ap (λ (b : Bool). first.2 || b) (sym (report_told before entry name why));
      quiet = λ none. absurd (true≢false (sym (report_told before entry name why) ∙ none));
    };
  }
