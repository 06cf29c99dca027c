-- What an import does, in its order.
use Rattle.std.specs.Prelude.{ℕ, List, [], ◌∷◌, Option}
use Rattle.sn_model.specs.declared.call.Call.{Call}
use Rattle.sn_model.specs.declared.reply.Reply.{Reply}
use Rattle.sn_import_calls.specs.declared.why.Why.{Why}

-- a call and its reply, or a report of the entry at a place of the archive, with its name
pub data Act : Type 0 where
  Called : Call → Reply → Act
  Told : Option ℕ → List ℕ → Why → Act

-- the calls among these
abbrev pub calls_in : List Act → List Call
calls_in [] = []
calls_in (Called call reply ∷ acts) = call ∷ calls_in acts
calls_in (Told entry name why ∷ acts) = calls_in acts
