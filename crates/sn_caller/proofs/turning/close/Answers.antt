use Rattle.std.proofs.Common.{◌≡◌, ℕ, zero, suc, List, [], ◌∷◌, ◌++◌, Some, Contains, length, refl, sym, ap, subst, ◌∙◌, arith}
use Rattle.sn_model.proofs.ChainLemmas.{some_same}
use Rattle.sn_desc.specs.Closing.{pushed}
use Rattle.sn_desc.specs.InUse.{InUse, live_in}
use Rattle.sn_desc.specs.Sessions.{in_use_of}
use Rattle.sn_caller.proofs.CallerLemmas.{close_tells}
use Rattle.sn_caller.proofs.turning.close.Goals as goal
use Rattle.sn_desc.proofs.ReleaseLemmas.{closed_fewer, last_told, released_live}

one : (n : ℕ) → Contains (n ∷ []) n
one n = (0, omega arith, refl)

only : (n m : ℕ) → Contains (m ∷ []) n → n ≡ m
only n m (zero, within, is) = sym is
only n m (suc k, within, is) = absurd (omega (arith, within))

pub returns-in-Some-clause-released : goal.returns-in-Some-clause-released
returns-in-Some-clause-released c world = λ n held left.
    let told : c.close_if_open.result ≡ Some n = close_tells (in_use_of c.args.sessions.now).descriptors _ c.args.session c.args.fd c.close_if_open.result (ap (λ (u : InUse). u.descriptors) c.close_if_open.ensures.in_use) c.close_if_open.ensures.released n held left in
    let same : n ≡ c.in-Some.number = some_same n c.in-Some.number (sym told ∙ c.in-Some.is) in
    let items : c.push.new.self.items ≡ n ∷ [] = c.push.ensures.items ∙ ap (λ (xs : List ℕ). xs ++ c.in-Some.number ∷ []) c.new-released.ensures ∙ ap (λ (m : ℕ). m ∷ []) (sym same) in
    subst (λ (xs : List ℕ). Contains xs n) (sym items) (one n)

pub returns-in_default-clause-released : goal.returns-in_default-clause-released
returns-in_default-clause-released c world = λ n held left.
    let told : c.close_if_open.result ≡ Some n = close_tells (in_use_of c.args.sessions.now).descriptors _ c.args.session c.args.fd c.close_if_open.result (ap (λ (u : InUse). u.descriptors) c.close_if_open.ensures.in_use) c.close_if_open.ensures.released n held left in
    absurd (c.in_default.not-Some n told)

pub returns-in-Some-clause-held : goal.returns-in-Some-clause-held
returns-in-Some-clause-held c world = λ n has.
    let items : c.push.new.self.items ≡ c.in-Some.number ∷ [] = c.push.ensures.items ∙ ap (λ (xs : List ℕ). xs ++ c.in-Some.number ∷ []) c.new-released.ensures in
    let same : n ≡ c.in-Some.number = only n c.in-Some.number (subst (λ (xs : List ℕ). Contains xs n) items has) in
    (last_told (in_use_of c.args.sessions.now).descriptors (c.args.session, c.args.fd) n (sym c.close_if_open.ensures.released ∙ c.in-Some.is ∙ ap (λ (m : ℕ). Some m) (sym same))).0

pub returns-in-Some-clause-few : goal.returns-in-Some-clause-few
returns-in-Some-clause-few c =
    let items : c.push.new.self.items ≡ pushed [] (Some c.in-Some.number) = c.push.ensures.items ∙ ap (λ (xs : List ℕ). xs ++ c.in-Some.number ∷ []) c.new-released.ensures in
    released_live (in_use_of c.args.sessions.now).descriptors _ c.args.session c.args.fd [] c.push.new.self.items (Some c.in-Some.number) (live_in (in_use_of c.args.sessions.now).descriptors) (ap (λ (u : InUse). u.descriptors) c.close_if_open.ensures.in_use)
    (sym c.in-Some.is ∙ c.close_if_open.ensures.released) items (omega arith)

pub returns-in_default-clause-few : goal.returns-in_default-clause-few
returns-in_default-clause-few c =
    let fewer = closed_fewer (in_use_of c.args.sessions.now).descriptors (c.args.session, c.args.fd) in
    omega (arith, ap length c.new-released.ensures, ap (λ (u : InUse). live_in u.descriptors) c.close_if_open.ensures.in_use, fewer)
