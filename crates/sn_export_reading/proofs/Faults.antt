-- Which fault is told of a reply, and which one where no call was refused.
use Rattle.std.proofs.Common.{◌≡◌, ◌∙◌, true, false, Option, Some, None, Result, Ok, Err, inl, inr, refl, sym, ap, subst}
use Rattle.std.specs.Prelude.{IfErr, IsErrAnd}
use Rattle.sn_model.specs.declared.reply.Refusal.{Refusal}
use Rattle.sn_model.specs.declared.reply.Reply.{Reply}
use Rattle.sn_export_reading.specs.Faults.{Goes, IsRefused, IsToldTruly, Reason, Tells, fault_by, fault_for, is_of_output, is_of_path, is_own, reason_of, refusal_in, OfMemory, OfMount, OfCall}
use Rattle.sn_export_reading.specs.declared.fault.ExportFault.{ExportFault}
use Rattle.sn_export_reading.specs.declared.fault.ExportFault.TheVariants.{Path, Memory, Stopped, Output, Contradiction}

-- ---- a reply

module _ (Old Last : Option Reply → Type 0) (reply : Reply) (replied : (before : Option Reply) → Old before → Last (Some reply)) (goes : Goes Old) where
  pub granted : refusal_in reply ≡ None → Goes Last
  granted none = (Some reply, replied goes.0 goes.1, none)

  -- the fault of a reply that isn't the one asked for is told truly where that of a call's own reason is
  told_by : (own : ExportFault) → (IsRefused Last OfCall → IsToldTruly Last own) → (o : Option Refusal) → refusal_in reply ≡ o → IsToldTruly Last (fault_by own o)
  told_by own is None e = inr (granted e)
  told_by own is (Some refusal) e = why (reason_of refusal.errno) refl
    where
      refused : (reason : Reason) → reason_of refusal.errno ≡ reason → IsRefused Last reason
      refused reason r = record { reply = reply; last = replied goes.0 goes.1; refusal = refusal; refuses = e; reason_is = r }

      why : (reason : Reason) → reason_of refusal.errno ≡ reason → IsToldTruly Last (fault_for reason own)
      why OfMemory r = inl (refused OfMemory r)
      why OfMount r = refused OfMount r
      why OfCall r = is (refused OfCall r)

  pub told_of : (fault : ExportFault) → fault ≡ fault_by Contradiction (refusal_in reply) → IsToldTruly Last fault
  told_of fault e = subst (λ (f : ExportFault). IsToldTruly Last f) (sym e) (told_by Contradiction (λ r. inl r) (refusal_in reply) refl)

  pub told_of_lookup : (fault : ExportFault) → fault ≡ fault_by Path (refusal_in reply) → IsToldTruly Last fault
  told_of_lookup fault e = subst (λ (f : ExportFault). IsToldTruly Last f) (sym e) (told_by Path (λ r. inl r) (refusal_in reply) refl)

not_of_path : (o : Option Refusal) → is_of_path (fault_by Contradiction o) ≡ false
not_of_path None = refl
not_of_path (Some refusal) = why (reason_of refusal.errno)
  where
    why : (reason : Reason) → is_of_path (fault_for reason Contradiction) ≡ false
    why OfMemory = refl
    why OfMount = refl
    why OfCall = refl

-- a call of what was found has no reason of its own to be refused
pub never_of_path : (fault : ExportFault) (reply : Reply) → fault ≡ fault_by Contradiction (refusal_in reply) → is_of_path fault ≡ false
never_of_path fault reply e = ap is_of_path e ∙ not_of_path (refusal_in reply)

-- a lookup has
pub record IsOwn (o : Option Refusal) : Type 0 where
  pub refusal : Refusal
  pub is : o ≡ Some refusal
  pub reason : reason_of refusal.errno ≡ OfCall

pub lookup_is_own : (o : Option Refusal) → fault_by Path o ≡ Path → IsOwn o
lookup_is_own None e = cc
lookup_is_own (Some refusal) e = why (reason_of refusal.errno) refl e
  where
    why : (reason : Reason) → reason_of refusal.errno ≡ reason → fault_for reason Path ≡ Path → IsOwn (Some refusal)
    why OfMemory r f = let never : Memory ≡ Path = f in cc
    why OfMount r f = let never : Stopped ≡ Path = f in cc
    why OfCall r f = record { refusal = refusal; is = refl; reason = r }

-- ---- where no call was refused

pub own_told : (Last : Option Reply → Type 0) (fault : ExportFault) → is_own fault ≡ true → Goes Last → IsToldTruly Last fault
own_told Last Path e goes = cc
own_told Last Memory e goes = inr goes
own_told Last Stopped e goes = cc
own_told Last (Output error) e goes = goes
own_told Last Contradiction e goes = inr goes

pub output_own : (fault : ExportFault) → is_of_output fault ≡ true → is_own fault ≡ true
output_own Path e = cc
output_own Memory e = cc
output_own Stopped e = cc
output_own (Output error) e = refl
output_own Contradiction e = cc

pub own_no_path : (fault : ExportFault) → is_own fault ≡ true → is_of_path fault ≡ false
own_no_path Path e = cc
own_no_path Memory e = refl
own_no_path Stopped e = refl
own_no_path (Output error) e = refl
own_no_path Contradiction e = refl

pub tells_own : {A : Type 0} (Last : Option Reply → Type 0) (r : Result A ExportFault) → IfErr r (λ fault. is_own fault ≡ true) → Goes Last → Tells Last r
tells_own Last (Ok a) is goes = goes
tells_own Last (Err fault) is goes = own_told Last fault is goes

pub all_own : {A : Type 0} (r : Result A ExportFault) → IfErr r (λ fault. is_of_output fault ≡ true) → IfErr r (λ fault. is_own fault ≡ true)
all_own (Ok a) is = tt
all_own (Err fault) is = output_own fault is

pub all_no_path : {A : Type 0} (r : Result A ExportFault) → IfErr r (λ fault. is_own fault ≡ true) → IfErr r (λ fault. is_of_path fault ≡ false)
all_no_path (Ok a) is = tt
all_no_path (Err fault) is = own_no_path fault is

-- a fault that isn't of a path is no fault `Path`
pub never_path : {P : Type 0} (fault : ExportFault) → is_of_path fault ≡ false → fault ≡ Path → P
never_path fault e is = let never : true ≡ false = sym (ap is_of_path is) ∙ e in cc

-- ---- a fault that is handed on

pub error_as : {A : Type 0} (P : ExportFault → Type 0) (fault : ExportFault) (r : Result A ExportFault) → IsErrAnd r (λ other. other ≡ fault) → P fault → IfErr r P
error_as P fault (Ok a) is h = tt
error_as P fault (Err other) is h = subst P (sym is) h

pub err_tells : {A : Type 0} (Last : Option Reply → Type 0) (fault : ExportFault) (r : Result A ExportFault) → IsErrAnd r (λ other. other ≡ fault) → IsToldTruly Last fault → Tells Last r
err_tells Last fault (Ok a) is t = absurd is
err_tells Last fault (Err other) is t = subst (λ (f : ExportFault). IsToldTruly Last f) (sym is) t

pub all_never : {A : Type 0} (P : Type 0) (r : Result A ExportFault) → IfErr r (λ fault. is_of_path fault ≡ false) → IfErr r (λ fault. fault ≡ Path → P)
all_never P (Ok a) is = tt
all_never P (Err fault) is = never_path fault is

pub as_own : (fault other : ExportFault) → fault ≡ other → is_own other ≡ true → is_own fault ≡ true
as_own fault other e is = ap is_own e ∙ is
