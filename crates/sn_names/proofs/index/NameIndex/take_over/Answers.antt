use Rattle.std.proofs.Common.{◌≡◌, ℕ, List, length, sym, ap, subst, ◌∙◌, arith}
use Rattle.std.specs.List.{Contains}
use Rattle.std.proofs.lemmas.List.Elements.{Contains-append_left, Contains-append_right}
use Rattle.sn_names.specs.Ordered.{numbers_of}
use Rattle.sn_names.specs.Index.{entries_of}
use Rattle.sn_names.proofs.BeginLemmas.{whole}
use Rattle.sn_names.proofs.ShareLemmas.{taken_over, same_told}
use Rattle.sn_names.proofs.index.NameIndex.take_over.Goals as goal

pub returns : goal.returns
returns c = record {
  told = λ sectors s told theirs.
      let index = c.args.self.now in
      let other = c.args.other.now in
      let new = c.pass_known.new.self in
      let all = numbers_of c.add_all.new.self in
      let old = index.rooms.items in
      let rooms = c.take_rooms.new.rooms in
      let count : length rooms ≡ length old = c.take_rooms.ensures.len ∙ ap length c.as_mut_slice.ensures.value in
      let taken = rw (c.as_mut_slice.ensures.value, c.as_slice-2.ensures.value) at c.take_rooms.ensures.taken in
      same_told sectors s index.tree new.tree index.numbers.items new.numbers.items rooms new.rooms.items all (entries_of new)
      c.pass_known.ensures.tree c.pass_known.ensures.numbers (c.pass_known.ensures.rooms ∙ whole old rooms index.rooms.len count (omega (arith, index.rooms.ok.0))) (ap numbers_of c.pass_known.ensures.entries)
      (taken_over sectors s index.tree other.tree index.numbers.items other.numbers.items old other.rooms.items rooms (entries_of index) (entries_of other) all
      (omega (arith, index.few, index.numbers.ok.0))
      (λ n has. c.in_ok-add_all.ensures n (Contains-append_left (entries_of index) c.as_slice.result.now n has))
      (λ n has is. c.in_ok-add_all.ensures n (Contains-append_right (entries_of index) c.as_slice.result.now n
      (subst (λ (l : List ℕ). Contains l n) (sym c.as_slice.ensures.value) (c.in_ok-taken.ensures n has is))))
      taken told theirs);
}
