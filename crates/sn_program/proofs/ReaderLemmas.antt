-- A script that was read from a reader is all that the reader had, unless it is too long.
use Rattle.std.proofs.Common.{◌≡◌, ◌∙◌, ℕ, ◌+◌, ◌<◌, ◌≤◌, List, [], ◌++◌, Some, None, Result, Ok, Err, take, length, inl, inr, refl, sym, ap, subst, arith, Bool, true, false, nat_le, leb-true, leb-false}
use Rattle.std.specs.Prelude.{◌⊎◌, IfErr, IfSome, IsErrAnd, IsErrOf}
use Rattle.std.specs.declared.option.Option.{Option}
use Rattle.std.specs.declared.io.traits.Take.{Take}
use Rattle.std.specs.Option.{option_map}
use Rattle.std.specs.Io.Take.{take_limit, take_inner, take_remaining}
use Rattle.std.proofs.lemmas.List.{length-take, take_all}
use Rattle.sn_model.specs.declared.call.Event.{Event}
use Rattle.sn_script.specs.Scripts.{IsFirstBad, IsScript}
use Rattle.sn_script.specs.declared.fault.ScriptFault.{ScriptFault}
use Rattle.sn_script.specs.declared.fault.ScriptFault.TheVariants as reading
use Rattle.sn_program.specs.declared.fault.ProgramFault.{ProgramFault}
use Rattle.sn_program.specs.declared.fault.ProgramFault.TheVariants as fault
use Rattle.sn_program.specs.Answers.{AreEventsOf, IsOf}
use Rattle.sn_program.specs.Fault.{IsOfFile, IsOfScript, IsUnread}

-- the front of what a reader had, up to one byte past the most that a script may have
abbrev pub IsRead : Option (List ℕ) → List ℕ → Type 0
IsRead known script = IfSome known (λ all. script ≡ take 16777217 all)

pub limited : {R : Type 0} (remaining : R → Option (List ℕ)) (t : Take R) (reader : R) (old bytes : List ℕ) → take_limit t ≡ 16777217 → take_inner t ≡ reader → old ≡ [] → IfSome (take_remaining remaining t) (λ xs. bytes ≡ old ++ xs) → IsRead (remaining reader) bytes
limited {R} remaining t reader old bytes limit inner none h = subst (λ (r : R). IsRead (remaining r) bytes) inner (of (remaining (take_inner t)) (take_limit t) limit h)
  where
    of : (o : Option (List ℕ)) (n : ℕ) → n ≡ 16777217 → IfSome (option_map (take n) o) (λ xs. bytes ≡ old ++ xs) → IsRead o bytes
    of None n e k = tt
    of (Some all) n e k = k ∙ ap (λ (s : List ℕ). s ++ take n all) none ∙ ap (λ (m : ℕ). take m all) e

short_all : (known : Option (List ℕ)) (script : List ℕ) → IsRead known script → length script ≤ 16777216 → IsOf known script
short_all None script h short = tt
short_all (Some all) script h short = h ∙ take_all 16777217 all (omega (arith, ap length h, length-take {A = ℕ} 16777217 all))

pub found_all : (known : Option (List ℕ)) (script : List ℕ) (events : List Event) → IsRead known script → IsScript events script → length script ≤ 16777216 → AreEventsOf known events
found_all known script events read is short = (script, short_all known script read short, is, short)

-- what is said of the bytes that were read holds of all that the reader had
pub long_all : (known : Option (List ℕ)) (script : List ℕ) (Told : Type 0) → IsRead known script → (Told → 16777216 < length script) → IfSome known (λ all. Told → 16777216 < length all)
long_all None script Told read long = tt
long_all (Some all) script Told read long = λ e. omega (arith, long e, ap length read, length-take {A = ℕ} 16777217 all)

pub bad_all : (known : Option (List ℕ)) (script : List ℕ) (Told : ℕ → Type 0) → IsRead known script → ((n : ℕ) → Told n → IsFirstBad script (n + 1) × (length script ≤ 16777216))
    → IfSome known (λ all. (n : ℕ) → Told n → IsFirstBad all (n + 1))
bad_all None script Told read bad = tt
bad_all (Some all) script Told read bad = λ n e. subst (λ (s : List ℕ). IsFirstBad s (n + 1)) (short_all (Some all) script read (bad n e).1) (bad n e).0

-- the fault of a script, as the program reports it
pub told_of_script : {T : Type 0} (r : Result T ProgramFault) (why : ScriptFault) → IsErrAnd r (λ given. given ≡ fault.Script why) → IfErr r (λ given. IsUnread given ⊎ IsOfScript given)
told_of_script (Ok x) why is = absurd is
told_of_script (Err given) (reading.Line n) is = inr (n, is)
told_of_script (Err given) reading.Memory is = inl (inr is)

pub told_of_file : {T : Type 0} (r : Result T ProgramFault) (given : ProgramFault) → IsErrAnd r (λ why. why ≡ given) → IsOfFile given → IfErr r (λ why. IsUnread why ⊎ IsOfScript why)
told_of_file (Ok x) given is file = absurd is
told_of_file (Err why) given is file = inl (inl (subst IsOfFile (sym is) file))

-- which fault of a script was reported
pub script_told : {T : Type 0} (r : Result T ProgramFault) (why of : ScriptFault) → IsErrAnd r (λ given. given ≡ fault.Script why) → IsErrOf r (fault.Script of) → why ≡ of
script_told {T} (Ok x) why of is told = absurd is
script_told {T} (Err given) why of is told = same given why of is told
  where
    same : (given : ProgramFault) (why of : ScriptFault) → given ≡ fault.Script why → IsErrOf {T = T} (Err given) (fault.Script of) → why ≡ of
    same given why of p q = cc

same_fault : {T : Type 0} (a b : ScriptFault) → ◌≡◌ {A = Result T ScriptFault} (Err a) (Err b) → a ≡ b
same_fault a b e = cc

no_line : (n : ℕ) → reading.Line 0 ≡ reading.Line (n + 1) → ⊥
no_line n e = let number : 0 ≡ n + 1 = cc in omega (arith, number)

-- a script whose bad line is reported isn't too long
pub not_long : {T : Type 0} (r : Result T ScriptFault) (n size : ℕ) → (16777216 < size → IsErrOf r (reading.Line 0)) → IsErrOf r (reading.Line (n + 1)) → size ≤ 16777216
not_long {T} r n size long bad = told (nat_le size 16777216) refl
  where
    told : (b : Bool) → nat_le size 16777216 ≡ b → size ≤ 16777216
    told true e = leb-true size 16777216 e
    told false e = absurd (no_line n (same_fault (reading.Line 0) (reading.Line (n + 1)) (sym (long (leb-false size 16777216 e)) ∙ bad)))
