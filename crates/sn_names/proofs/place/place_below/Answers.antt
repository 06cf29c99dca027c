use Rattle.std.proofs.Common.{◌≡◌, ◌⊎◌, ◌/◌, ◌%◌, ℕ, List, slice_index, sym, ap, subst, ◌∙◌}
use Rattle.sn_layout.specs.Bytes.{numbers_bytes}
use Rattle.sn_ondisk.specs.Blocks.{numbers_in}
use Rattle.sn_ondisk.proofs.BlockLemmas.{numbers_in-numbers_bytes}
use Rattle.sn_names.specs.Place.{IsFrom}
use Rattle.sn_names.proofs.place.place_below.Goals as goal

pub returns-clause-placed : goal.returns-clause-placed
returns-clause-placed c =
    let pointers = c.decode-pointers.result in
    let same : numbers_in 1024 c.args.block.now ≡ pointers = ap (numbers_in 1024) c.decode-pointers.ensures.read
    ∙ ap (λ (n : ℕ). numbers_in n (numbers_bytes 4 pointers)) (sym c.decode-pointers.ensures.fits.count)
    ∙ numbers_in-numbers_bytes pointers c.decode-pointers.ensures.fits.fit in
    λ i. subst (λ (ps : List ℕ). (slice_index c.loop-k.numbers i ≡ slice_index c.args.numbers.now i)
    ⊎ (slice_index c.args.numbers.now i ≡ 0) × (i / 1024 ≡ c.args.top) × IsFrom c.args.sectors ps (i % 1024) (slice_index c.loop-k.numbers i)) (sym same) (c.loop-k.invariant.placed i)
