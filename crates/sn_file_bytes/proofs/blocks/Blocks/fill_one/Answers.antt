use Rattle.std.proofs.Common.{◌≡◌, ℕ, Option, Some, None, List, false, is_some, get_or, replicate, refl, sym, ap, ◌∙◌}
use Rattle.std.proofs.lemmas.Bool.{true≢false}
use Rattle.sn_file_bytes.specs.Blocks.{block_at}
use Rattle.sn_file_bytes.proofs.BlockLemmas.{block_other, filled}
use Rattle.sn_file_bytes.proofs.ListLemmas.{zeros_at}
use Rattle.sn_file_bytes.proofs.blocks.Blocks.fill_one.Goals as goal

none_of : {A : Type 0} (o : Option A) → is_some o ≡ false → o ≡ None
none_of None e = refl
none_of (Some x) e = absurd (true≢false e)

pub returns-clause-same : goal.returns-clause-same
returns-clause-same c =
    let zeros : c.in_ok-new.field-0.value ≡ replicate {A = ℕ} 4096 0 = c.in_ok-new.ensures.ok in
    filled c.args.self.now.map.entries c.insert.new.self.entries c.args.index c.in_ok-new.field-0 c.in_ok-insert.ensures.updates.0
    (none_of (block_at c.args.self.now.map.entries c.args.index) (sym c.contains_key.ensures ∙ c.if-contains_key.false))
    (λ i. ap (λ (xs : List ℕ). get_or xs i 0) zeros ∙ zeros_at 4096 i)

pub returns-clause-others : goal.returns-clause-others
returns-clause-others c = λ i apart. ap is_some (block_other c.args.self.now.map.entries c.insert.new.self.entries c.args.index (Some c.in_ok-new.field-0) c.in_ok-insert.ensures.updates.0 i apart)
