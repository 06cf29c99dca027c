use Rattle.std.proofs.Common.{◌≡◌, ◌+◌, ◌-◌, ◌/◌, Some, IfSome, [], ◌∷◌, ◌++◌, take, drop, ◌∙◌, sym, ap, subst, arith}
use Rattle.sn_device.specs.Disk.{Disk, reads}
use Rattle.sn_layout.proofs.Fields.{some_none}
use Rattle.sn_record.specs.Payload.{IsSpelled, payload_bytes}
use Rattle.sn_block.specs.Lending.{device_of}
use Rattle.sn_log.specs.Positions.{IsBehind, behind}
use Rattle.sn_log.specs.Replaying.{HasNext, Looks, Fills}
use Rattle.sn_log.proofs.ReplayLemmas.{no-change, behind-more}
use Rattle.sn_log.proofs.replay.Replay.next.Goals as goal
use Rattle.sn_log.proofs.replay.Replay.next.Goals.{then-is_body, else-is_body}

pub returns-in_default-clause-found : goal.returns-in_default-clause-found
returns-in_default-clause-found g c told =
    rw (← c.self.view_is) (subst (λ o. Looks (reads (g.D.Device.disk (device_of c.args.blocks.now))) c.self.inside.position o) c.in_default.is (c.in_ok-size.ensures.looks told))

pub returns-in_default-change-clause-found : goal.returns-in_default-change-clause-found
returns-in_default-change-clause-found g c told =
    let before = reads (g.D.Device.disk (device_of c.args.blocks.now)) in
    let at = c.self.inside.position in
    let room = c.fill.new.room in
    let size = c.in-Some.size in
    let looks : Looks before at (Some size) = subst (λ o. Looks before at o) c.in-Some.is (c.in_ok-size.ensures.looks told) in
    let fills : Fills before at size room c.in_ok-is_body.is_body = subst (λ (d : Disk). Fills (reads d) at size room c.in_ok-is_body.is_body) (c.look.ensures.same told) (c.in_ok-is_body.ensures.fills told) in
    rw (← c.self.view_is) (
      looks.1,
      elim c.if-is_body.branch [
        | then-is_body w ↦
            let part : take (16 + size - 16) (drop 16 w.deref.result.now) ≡ take size (drop 16 room) = ap (λ n. take n (drop 16 w.deref.result.now)) (omega arith) ∙ ap (λ r. take size (drop 16 r)) w.deref.ensures in
            no-change before at size room c.in_ok-is_body.is_body fills w.if-is_body.true
            (λ change spelled same. some_none c.if-is_body.change change (w.change-is ∙ w.decode-change.ensures.only change spelled (part ∙ same)) c.in_default-change.is)
        | else-is_body w ↦ λ change spelled next. fills.none w.if-is_body.false (payload_bytes change) (looks.2 (payload_bytes change) next) next
      ],
      c.block.ensures,
    )

pub returns-clause-behind : goal.returns-clause-behind
returns-clause-behind g c told changes stands =
    let before = reads (g.D.Device.disk (device_of c.args.blocks.now)) in
    let at = c.self.inside.position in
    let room = c.fill.new.room in
    let size = c.in-Some.size in
    let change = c.in-Some-change.change in
    let looks : Looks before at (Some size) = subst (λ o. Looks before at o) c.in-Some.is (c.in_ok-size.ensures.looks told) in
    let fills : Fills before at size room c.in_ok-is_body.is_body = subst (λ (d : Disk). Fills (reads d) at size room c.in_ok-is_body.is_body) (c.look.ensures.same told) (c.in_ok-is_body.ensures.fills told) in
    elim c.if-is_body.branch [
      | then-is_body w ↦
          let part : take (16 + size - 16) (drop 16 w.deref.result.now) ≡ take size (drop 16 room) = ap (λ n. take n (drop 16 w.deref.result.now)) (omega arith) ∙ ap (λ r. take size (drop 16 r)) w.deref.ensures in
          let found : IsSpelled change × (take (16 + size - 16) (drop 16 w.deref.result.now) ≡ payload_bytes change) =
          subst (λ o. IfSome o (λ x. IsSpelled x × (take (16 + size - 16) (drop 16 w.deref.result.now) ≡ payload_bytes x))) (sym w.change-is ∙ c.in-Some-change.is) w.decode-change.ensures.found in
          let next : HasNext before at (payload_bytes change) = subst (HasNext before at) (sym part ∙ found.1) (fills.found w.if-is_body.true) in
          let sectors = c.sectors_for.ensures.value ∙ ap (λ n. (16 + n + 511) / 512) (sym (looks.2 (payload_bytes change) next)) in
          let moved : c.behind-self-inside.result ≡ behind at change = c.behind-self-inside.ensures ∙ ap (λ n. record at { place = at.place + n + 1; count = at.count + 1 }) sectors in
          subst (λ x. IsBehind x (changes ++ change ∷ []) before) (sym moved) (behind-more before at changes change (subst (λ x. IsBehind x changes before) (sym c.self.view_is) stands) looks.0 next)
      | else-is_body w ↦ some_none c.if-is_body.change change c.in-Some-change.is w.change-is
    ]
