-- Refusals that aren't for lack of an entry's right.
use Rattle.std.proofs.Common.{◌≡◌, ◌⊎◌, inl, inr, Bool, true, false, cond, Result, Ok, Err, ap, ◌∙◌}
use Rattle.sn_walk.specs.Chains.{◌>>=◌}
use Rattle.sn_model.specs.declared.reply.Errno.{Errno}
use Rattle.sn_model.specs.declared.reply.Errno.TheVariants.{Eacces}
use Rattle.sn_model.specs.declared.reply.Refusal.{Refusal}
use Rattle.sn_model.specs.Tests.{plain}
use Rattle.sn_model.proofs.DenialLemmas.{bind_err}

abbrev pub refuses : {A : Type 0} → Refusal → Result A Refusal
refuses r = Err r

-- another error
pub plain_other : {A : Type 0} (errno : Errno) (r : Refusal) → (errno ≡ Eacces → ⊥) → refuses {A = A} (plain errno) ≡ Err r → r.errno ≡ Eacces → ⊥
plain_other errno r apart e is = apart (let same : plain errno ≡ r = cc e in ap (λ (x : Refusal). x.errno) same ∙ is)

-- a test that passes or is refused with another error
pub tested_other : {A : Type 0} (errno : Errno) (apart : errno ≡ Eacces → ⊥) (b : Bool) (x : A) (r : Refusal) → cond b (Ok x) (refuses (plain errno)) ≡ Err r → r.errno ≡ Eacces → ⊥
tested_other errno apart true x r e is = cc e
tested_other errno apart false x r e is = plain_other errno r apart e is

-- a chain is refused so only where one of its tests is
pub chain_other : {A B : Type 0} (a : Result A Refusal) (f : A → Result B Refusal) (r : Refusal) → (a ≡ Err r → ⊥) → ((x : A) → f x ≡ Err r → ⊥) → (a >>= f) ≡ Err r → ⊥
chain_other a f r first more e = told (bind_err a f r e)
  where
    told : (a ≡ Err r) ⊎ ((x : _) × (a ≡ Ok x) × (f x ≡ Err r)) → ⊥
    told (inl h) = first h
    told (inr h) = more h.0 h.2
