use Rattle.std.proofs.Common.{◌≡◌, ◌≢◌, ◌<◌, ℕ, true, None, Some, length, get_or, set, sym, ap, subst, ◌∙◌, inl, inr, arith}
use Rattle.std.proofs.lemmas.Bool.{cases_eq}
use Rattle.std.proofs.lemmas.List.{get_or-set_same, get_or-set_other}
use Rattle.sn_names.specs.Share.{shares}
use Rattle.sn_names.proofs.share.take_rooms.Goals as goal

pub loop-i-preserved : goal.loop-i-preserved
loop-i-preserved c =
    let rooms = c.loop-i.rooms in
    let at = c.loop-i.i in
    let room = c.taken_room.result in
    let other = c.args.other.now in
    let within : at < length rooms = omega (arith, c.loop-i-test.true, c.loop-i.auto.rooms) in
    record {
      known = λ i some. elim (cases_eq i at) [
        | inl same ↦ λ none. c.taken_room.ensures.known
            (subst (λ (j : ℕ). get_or rooms j None ≢ None) same (c.loop-i.invariant.known i some))
            (sym (get_or-set_same rooms at room None within) ∙ ap (λ (j : ℕ). get_or (set rooms at room) j None) (sym same) ∙ none)
        | inr beside ↦ λ none. c.loop-i.invariant.known i some (sym (get_or-set_other rooms at i room None beside) ∙ none)
      ];
      taken = λ i left is. elim (cases_eq i at) [
        | inl same ↦
            let here : room ≡ Some left = sym (get_or-set_same rooms at room None within) ∙ ap (λ (j : ℕ). get_or (set rooms at room) j None) (sym same) ∙ is in
            elim (c.taken_room.ensures.taken left here) [
              | inl mine ↦ c.loop-i.invariant.taken i left (ap (λ (j : ℕ). get_or rooms j None) same ∙ mine)
              | inr both ↦ inr (
                subst (λ (j : ℕ). shares c.args.numbers.now other.numbers.items other.rooms.items j ≡ true) (sym same) both.0,
                ap (λ (j : ℕ). get_or other.rooms.items j None) same ∙ both.1,
              )
            ]
        | inr beside ↦ c.loop-i.invariant.taken i left (sym (get_or-set_other rooms at i room None beside) ∙ is)
      ];
    }
