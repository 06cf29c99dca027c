use Rattle.std.proofs.Common.{◌≡◌, ℕ, ◌<◌, ◌≤◌, ◌==◌, ◌&&◌, true, ⊎_elim, get_or, sym, ap, subst, ◌∙◌, arith}
use Rattle.std.specs.Cmp.Lexicographic.{bytes_decides}
use Rattle.std.specs.Str.{bytes_eq}
use Rattle.std.proofs.lemmas.Bool.{cases_lt, eq-eqb, true≢false}
use Rattle.sn_layout.specs.declared.tree.BlockTree.{BlockTree}
use Rattle.sn_sound.specs.Maps.{Rooted, rooted_in}
use Rattle.sn_check_roots.proofs.rooted.seen_before.Goals as goal

-- equal trees compare as equal
equal : (a b : BlockTree) → a ≡ b → (a.size == b.size && bytes_eq a.pointers b.pointers) ≡ true
equal a b same = rw (eq-eqb a.size b.size (ap (λ (t : BlockTree). t.size) same)) ((bytes_decides a.pointers b.pointers).1 (ap (λ (t : BlockTree). t.pointers) same))

pub loop-j-preserved : goal.loop-j-preserved
loop-j-preserved c = λ j under same. ⊎_elim
    (λ (old : j < c.loop-j.j). c.loop-j.invariant j old same)
    (λ (new : c.loop-j.j ≤ j).
    let here : j ≡ c.loop-j.j = omega (arith, under, new) in
    let r : Rooted = record { bit = c.root_at-it.result.bit; inodes = c.root_at-it.result.file } in
    let found : (get_or (rooted_in c.args.root.now) c.args.i r).inodes ≡ (get_or (rooted_in c.args.root.now) c.loop-j.j r).inodes =
    subst (λ (k : ℕ). (get_or (rooted_in c.args.root.now) c.args.i r).inodes ≡ (get_or (rooted_in c.args.root.now) k r).inodes) here (same r) in
    let files : c.root_at.result.file ≡ c.root_at-it.result.file =
    ap (λ (q : Rooted). q.inodes) (sym (c.root_at.ensures.root r)) ∙ sym found ∙ ap (λ (q : Rooted). q.inodes) (c.root_at-it.ensures.root r) in
    true≢false (sym (equal c.root_at.result.file c.root_at-it.result.file files) ∙ sym c.eq.ensures ∙ c.if-eq.false))
    (cases_lt j c.loop-j.j)
