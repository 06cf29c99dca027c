-- An import that reports nothing.
use Rattle.std.specs.Prelude.{List}
use Rattle.std.specs.List.{AllByRecursion}
use Rattle.sn_import_calls.specs.Acts.{Act, Called, Told}

abbrev pub IsCalled : Act → Type 0
IsCalled (Called call reply) = Unit {0}
IsCalled (Told entry name why) = ⊥

-- all that is done is calls
abbrev pub AreCalled : List Act → Type 0
AreCalled acts = AllByRecursion IsCalled acts
