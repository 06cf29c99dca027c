-- What a function returned against what a definition answers, where a fault may have kept the function from it.
use Rattle.std.specs.Prelude.{◌≡◌, Result, Ok, Err}
use Rattle.sn_walk.specs.declared.fault.Failure.{Failure}
use Rattle.sn_walk.specs.declared.fault.Failure.TheVariants.{Refused, Fault}

abbrev pub Fails : {Y R F : Type 0} → Failure R F → Result Y R → Type 0
Fails (Refused r) test = test ≡ Err r
Fails (Fault f) test = Unit {0}

abbrev pub Gives : {X Y R F : Type 0} → (X → Y) → Result X (Failure R F) → Result Y R → Type 0
Gives view (Ok x) test = test ≡ Ok (view x)
Gives view (Err e) test = Fails e test

-- the same for a function that finds no fault
abbrev pub Answers : {X Y R : Type 0} → (X → Y) → Result X R → Result Y R → Type 0
Answers view (Ok x) test = test ≡ Ok (view x)
Answers view (Err r) test = test ≡ Err r

-- what holds for the fault, where a function found one
abbrev pub OfFault : {R F : Type 0} → Failure R F → (F → Type 0) → Type 0
OfFault (Refused r) P = Unit {0}
OfFault (Fault f) P = P f

abbrev pub IfFault : {X R F : Type 0} → Result X (Failure R F) → (F → Type 0) → Type 0
IfFault (Ok x) P = Unit {0}
IfFault (Err e) P = OfFault e P
