use Rattle.std.proofs.Common.{[], ◌∷◌, length, replicate, refl, subst}
use Rattle.sn_model.specs.declared.call.Event.TheVariants as event
use Rattle.sn_import_calls.specs.Acts.{Called}
use Rattle.sn_import_calls.specs.Carried.{Grows}
use Rattle.sn_import_image.specs.Importing.{Did, Seen}
use Rattle.sn_serving.proofs.ServedLemmas.{leads_more}
use Rattle.sn_import_image.proofs.Doing.{did_call}
use Rattle.sn_import_image.proofs.importing.ImportingCalls.call.Goals as goal

pub returns-then-room-before : goal.returns-then-room-before
returns-then-room-before g c =
    let told = g.D.Device.tells_bytes in
    let call = c.args.call.now in
    let reply = c.call-reply.result in
    let k = c.keep_pace.ensures.steps in
    let inside = c.self.inside in
    let new : Seen g.row.E.Denot = (c.keep_pace.new.self, inside.errors, inside.is_told) in
    subst (λ (s : Seen g.row.E.Denot). Grows (Did told s) (Did told new) (Called call reply ∷ [])) c.self.view_is
    (did_call told call reply k.0 (inside.serving, inside.errors, inside.is_told) new
    (λ is. leads_more (event.Call 0 call ∷ []) (replicate (length k.0) event.Step) (reply ∷ []) k.0 inside.serving c.call-reply.new.self c.keep_pace.new.self (c.call-reply.ensures is) (k.1 is)) refl refl)

pub returns-else-room-before : goal.returns-else-room-before
returns-else-room-before g c =
    let told = g.D.Device.tells_bytes in
    let call = c.args.call.now in
    let reply = c.call-reply.result in
    let inside = c.self.inside in
    let new : Seen g.row.E.Denot = (c.call-reply.new.self, inside.errors, inside.is_told) in
    subst (λ (s : Seen g.row.E.Denot). Grows (Did told s) (Did told new) (Called call reply ∷ [])) c.self.view_is
    (did_call told call reply [] (inside.serving, inside.errors, inside.is_told) new c.call-reply.ensures refl refl)
