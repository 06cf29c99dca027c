-- A store that has the blocks of a plan, beside what the root reaches.
use Rattle.std.proofs.Common.{◌≡◌, ℕ, zero, suc, ◌<◌, ◌==◌, if◌then◌else◌, Bool, true, false, List, [], ◌∷◌, AllPairs, Contains, refl, sym, subst, arith}
use Rattle.std.proofs.lemmas.Bool.{eq-eqb, eqb-true, false≢true}
use Rattle.std.proofs.lemmas.List.Kept.{AllPairs-from_increasing}
use Rattle.sn_layout.specs.declared.root.RootBody.{RootBody}
use Rattle.sn_model.specs.World.{Trees}
use Rattle.sn_ondisk.specs.TreeLaws.{SameIn}
use Rattle.sn_ondisk.specs.Trees.{Store}
use Rattle.sn_opening.specs.Points.{HoldsAll, IsBuilt, Plan, Written, numbers_written}
use Rattle.sn_opening.specs.Worlds.{all_reach}

-- with these blocks in their places
abbrev pub laid : List Written → Store → Store
laid [] s = s
laid (b ∷ bs) s = λ block. if block == b.0 then b.1 else laid bs s block

laid_beside : (bs : List Written) (s : Store) (block : ℕ) → ((b : Written) → Contains bs b → b.0 ≡ block → ⊥) → laid bs s block ≡ s block
laid_beside [] s block other = refl
laid_beside (b ∷ bs) s block other = told (block == b.0) refl (laid_beside bs s block (λ x among. other x (suc among.0, omega (arith, among.1), among.2)))
  where
    told : (same : Bool) → (block == b.0) ≡ same → laid bs s block ≡ s block → (if same then b.1 else laid bs s block) ≡ s block
    told true is rest = absurd (other b (zero, omega arith, refl) (sym (eqb-true block b.0 is)))
    told false is rest = rest

laid_hold : (bs : List Written) (s : Store) → AllPairs (λ x y. x < y) (numbers_written bs) → HoldsAll (laid bs s) bs
laid_hold [] s rise = tt
laid_hold (b ∷ bs) s rise = (
  here (b.0 == b.0) (eq-eqb b.0 b.0 refl),
  more bs (λ z among. let less = rise zero (suc among.0) z (omega arith) (omega (arith, among.1)) in omega (arith, less, among.2))
      (laid_hold bs s (λ i j d lt within. rise (suc i) (suc j) d (omega (arith, lt)) (omega (arith, within)))),
)
  where
    here : (same : Bool) → same ≡ true → (if same then b.1 else laid bs s b.0) ≡ b.1
    here true is = refl
    here false is = absurd (false≢true is)

    past : (x : Written) (same : Bool) → (x.0 == b.0) ≡ same → b.0 < x.0 → laid bs s x.0 ≡ x.1 → (if same then b.1 else laid bs s x.0) ≡ x.1
    past x true is less stands = absurd (let e = eqb-true x.0 b.0 is in omega (arith, e, less))
    past x false is less stands = stands

    more : (xs : List Written) → ((z : ℕ) → Contains (numbers_written xs) z → b.0 < z) → HoldsAll (laid bs s) xs → HoldsAll (laid (b ∷ bs) s) xs
    more [] less holds = tt
    more (x ∷ xs) less holds = (
      past x (x.0 == b.0) refl (less x.0 (zero, omega arith, refl)) holds.0,
      more xs (λ z among. less z (suc among.0, omega (arith, among.1), among.2)) holds.1,
    )

module _ (n : ℕ) (s : Store) (root : RootBody) (trees : Trees) (plan : Plan) (built : IsBuilt n s root trees plan) where
  pub laid_same : SameIn (all_reach s root) s (laid plan.blocks s)
  laid_same block reached = laid_beside plan.blocks s block (λ b among is. built.apart b among (subst (Contains (all_reach s root)) (sym is) reached))

  pub laid_all : HoldsAll (laid plan.blocks s) plan.blocks
  laid_all = laid_hold plan.blocks s (AllPairs-from_increasing (numbers_written plan.blocks) built.once)
