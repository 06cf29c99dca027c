-- The block at a pointer, and how many data blocks are below one.
use Rattle.std.proofs.Common.{◌≡◌, ◌≢◌, ℕ, zero, suc, ◌+◌, ◌-◌, ◌*◌, ◌<◌, ◌≤◌, ◌==◌, Bool, true, false, [], ◌∷◌, refl, sym, ap, ◌∙◌, arith, if◌then◌else◌}
use Rattle.std.specs.Prelude.{◌^◌}
use Rattle.std.proofs.Math.Nat.{pow-succ', pow-le-pow_right, one-le-pow}
use Rattle.std.proofs.lemmas.Bool.{eqb-true}
use Rattle.sn_ondisk.specs.Counts.{times}
use Rattle.sn_ondisk.proofs.CountLemmas.{times-other}
use Rattle.sn_image.specs.Reach.{block_reach}

-- ---- the block at a pointer

pub times-block_reach : (block p : ℕ) → block ≢ 0 → times block (block_reach p) ≡ times block (p ∷ [])
times-block_reach block p some = either (p == 0) refl
  where
    either : (b : Bool) → (p == 0) ≡ b → times block (if b then [] else p ∷ []) ≡ times block (p ∷ [])
    either true is = let none : p ≢ block = (λ same. some (sym same ∙ eqb-true p 0 is)) in sym (times-other block p none)
    either false is = refl

-- ---- spans

pub span_some : (depth : ℕ) → 0 < 1024 ^ depth
span_some depth = one-le-pow depth 1024 (omega arith)

pub span_most : (depth : ℕ) → depth ≤ 3 → 1024 ^ depth ≤ 1073741824
span_most depth within = pow-le-pow_right (omega arith) within

pub span_more : (depth above : ℕ) → depth ≤ above → 1024 ^ depth ≤ 1024 ^ above
span_more depth above within = pow-le-pow_right (omega arith) within

pub span_down : (depth : ℕ) → depth ≢ 0 → 1024 * 1024 ^ (depth - 1) ≡ 1024 ^ depth
span_down zero some = absurd (some refl)
span_down (suc depth) some = let here : suc depth - 1 ≡ depth = omega arith in ap (λ n. 1024 * 1024 ^ n) here ∙ sym (pow-succ' 1024 depth)

-- where the data blocks below an indirect block end
pub indirect_end : (base up count : ℕ) → up ≢ 0 → count ≡ 1024 → base + count * 1024 ^ (up - 1) ≡ base + 1024 ^ up
indirect_end base up count some all = ap (λ (n : ℕ). base + n * 1024 ^ (up - 1)) all ∙ ap (λ (n : ℕ). base + n) (span_down up some)
