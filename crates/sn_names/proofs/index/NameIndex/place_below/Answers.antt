use Rattle.std.proofs.Common.{◌≡◌, ◌⊎◌, ◌/◌, ◌%◌, ℕ, List, length, slice_index, sym, ap, subst, ◌∙◌, arith}
use Rattle.sn_ondisk.specs.Blocks.{numbers_in}
use Rattle.sn_names.specs.Place.{IsFrom}
use Rattle.sn_names.specs.Index.{entries_of}
use Rattle.sn_names.proofs.BeginLemmas.{whole, placed_below}
use Rattle.sn_names.proofs.index.NameIndex.place_below.Goals as goal

pub returns-clause-told : goal.returns-clause-told
returns-clause-told c = λ s told deep some lies bytes.
    let index = c.args.self.now in
    let old = index.numbers.items in
    let new = c.place_below.new.numbers in
    let count : length new ≡ length old = c.place_below.ensures.len ∙ ap length c.as_mut_slice.ensures.value in
    let is = whole old new index.numbers.len count (omega (arith, index.numbers.ok.0)) in
    placed_below c.args.sectors s index.tree old _ index.rooms.items (entries_of index) c.args.top c.args.block.now index.level
    (subst (λ (xs : List ℕ). (i : ℕ) → (slice_index xs i ≡ slice_index old i) ⊎ (slice_index old i ≡ 0) × (i / 1024 ≡ c.args.top)
    × IsFrom c.args.sectors (numbers_in 1024 c.args.block.now) (i % 1024) (slice_index xs i)) (sym is)
    (rw c.as_mut_slice.ensures.value at c.place_below.ensures.placed))
    told deep some lies bytes
