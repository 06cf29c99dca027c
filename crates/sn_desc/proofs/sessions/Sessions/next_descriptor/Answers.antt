use Rattle.std.proofs.Common.{◌≡◌, ◌⊎◌, ◌≢◌, inl, inr, ◌<◌, ◌+◌, ℕ, true, not, is_some, None, Err, sym, ap, ◌∙◌, arith}
use Rattle.std.specs.FinMap as map
use Rattle.std.proofs.lemmas.Bool.{cases_eq}
use Rattle.sn_model.specs.declared.reply.Refusal.{Refusal}
use Rattle.sn_desc.specs.Sessions.{in_use_of}
use Rattle.sn_desc.proofs.SessionLemmas.{next_is, next_none, seen_is, some_of}
use Rattle.sn_desc.proofs.sessions.Sessions.next_descriptor.Goals as goal

pub loop-fd-preserved : goal.loop-fd-preserved
loop-fd-preserved c = λ k low. split k low (cases_eq k c.loop-fd.fd)
  where
    here : is_some (map.get (in_use_of c.args.self.now).descriptors (c.args.session, c.loop-fd.fd)) ≡ true
    here = ap is_some (sym c.file.ensures) ∙ seen_is c.file.result ∙ c.is_none.ensures ∙ ap not c.if-is_none.false

    split : (k : ℕ) → k < c.loop-fd.fd + 1 → (k ≡ c.loop-fd.fd) ⊎ (k ≢ c.loop-fd.fd) → is_some (map.get (in_use_of c.args.self.now).descriptors (c.args.session, k)) ≡ true
    split k low (inl same) = ap (λ (n : ℕ). is_some (map.get (in_use_of c.args.self.now).descriptors (c.args.session, n))) same ∙ here
    split k low (inr apart) = c.loop-fd.invariant k (omega (arith, low, apart))

pub returns-then-is_none : goal.returns-then-is_none
returns-then-is_none c =
    let none : map.get (in_use_of c.args.self.now).descriptors (c.args.session, c.loop-fd.fd) ≡ None = some_of _ (ap is_some (sym c.file.ensures) ∙ seen_is c.file.result ∙ c.is_none.ensures ∙ ap not c.if-is_none.true) in
    let few : c.loop-fd.fd < 64 = omega arith in
    record {
      next = sym (next_is (in_use_of c.args.self.now).descriptors c.args.session c.loop-fd.fd c.loop-fd.invariant none few);
      within = few;
      vacant = none;
    }

pub returns : goal.returns
returns c =
    record {
      next = ap (λ (r : Refusal). Err r) c.plain.ensures ∙ sym (next_none (in_use_of c.args.self.now).descriptors c.args.session (λ k low. c.loop-fd.invariant k (omega (arith, low))));
      within = tt;
      vacant = tt;
    }
