-- What reads do to the counts, and what is made of their results.
use Rattle.std.proofs.Common.{◌≡◌, inl, inr, Bool, true, false, Option, None, Some, Result, Ok, Err, subst}
use Rattle.std.specs.Prelude.{IfOk, IfSome, MatchBool, OnErr, OnOk, is_ok}
use Rattle.std.specs.Result.{result_ok}
use Rattle.sn_device.specs.Status.{has_ended, one_failure}
use Rattle.sn_device.specs.declared.status.Status.{Status}
use Rattle.sn_times_image.specs.Looking.{FailsRead, Looks, OnlyReads}

-- a read that fails after others that didn't
pub fails_after : (old mid new : Status) → mid ≡ old → FailsRead mid new → FailsRead old new
fails_after old mid new same fails = let P : Status → Type 0 = λ (s : Status). FailsRead s new in subst P same fails

failed_once : (ended : Bool) (old new : Status) → MatchBool ended (new ≡ old) (new ≡ one_failure old) → OnlyReads old new
failed_once true old new same = inl same
failed_once false old new counted = inr counted

pub only_reads : {T : Type 0} (result : Option T) (old new : Status) → Looks result old new → OnlyReads old new
only_reads (Some x) old new looks = inl looks.found.1
only_reads None old new looks = elim looks.none [
  | inl unsized ↦ inl unsized.1
  | inr failed ↦ failed_once (has_ended old) old new failed.1
]

pub at_err : {T E P : Type 0} (r : Result T E) → false ≡ is_ok r → OnErr r P → P
at_err (Ok x) is fact = absurd cc
at_err (Err d) is fact = fact

pub at_ok : {T E P : Type 0} (r : Result T E) → true ≡ is_ok r → OnOk r P → P
at_ok (Ok x) is fact = fact
at_ok (Err d) is fact = absurd cc

-- a fault is let go
pub some_from_ok : {T E : Type 0} (r : Result T E) (P Q : T → Type 0) → ((x : T) → P x → Q x) → IfOk r P → IfSome (result_ok r) Q
some_from_ok (Ok x) P Q weaker fact = weaker x fact
some_from_ok (Err d) P Q weaker fact = tt

pub some_weaker : {T : Type 0} (o : Option T) (P Q : T → Type 0) → ((x : T) → P x → Q x) → IfSome o P → IfSome o Q
some_weaker (Some x) P Q weaker fact = weaker x fact
some_weaker None P Q weaker fact = tt
