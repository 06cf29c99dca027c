-- A root with the inode file of an earlier one.
use Rattle.std.proofs.Common.{◌≡◌, ◌≢◌, ⊎_elim, true, ℕ, ◌+◌, ◌<◌, List, Option, None, Some, length, take, get_or, IfSome, Contains, slice_index, is_some, refl, sym, ap, subst, arith}
use Rattle.std.specs.Int.{bit_at}
use Rattle.std.proofs.lemmas.Bool.{cases_eq, true≢false}
use Rattle.std.proofs.lemmas.Nat.Bits.{bit_at-lt}
use Rattle.sn_layout.specs.RootBody.{IsRootBody}
use Rattle.sn_layout.specs.declared.root.RootBody.{RootBody}
use Rattle.sn_layout.specs.declared.tree.BlockTree.{BlockTree}
use Rattle.sn_map.specs.Bits.{CopiesBit}
use Rattle.sn_ondisk.specs.Counts.{times}
use Rattle.sn_ondisk.specs.Trees.{Store}
use Rattle.sn_ondisk.proofs.CountLemmas.{among_times, times_among}
use Rattle.sn_image.specs.Reach.{reach}
use Rattle.sn_image.specs.Sound.{IsLinked}
use Rattle.sn_sound.specs.Maps.{IsReachedBy, Rooted, rooted_in}
use Rattle.sn_marks.specs.Marks.{Marks}
use Rattle.sn_check_root.specs.Rules.{IsSoundButLinks}
use Rattle.sn_check_roots.specs.Laws.{SetsGrow}
use Rattle.sn_check_roots.specs.First.{AreDone, AreLinked}
use Rattle.sn_check_roots.specs.Seen.{IsFirstSeen}
use Rattle.sn_check_roots.proofs.FirstLemmas.{clear_bit, done_more}
use Rattle.sn_check_roots.proofs.RootedLemmas.{among_all, before_contains, each_more, same_root}

-- the one that was found
pub found_one : (P : ℕ → Type 0) (found : Option ℕ) → is_some found ≡ true → IfSome found P → (j : ℕ) × P j
found_one P None some has = absurd (true≢false (sym some))
found_one P (Some j) some has = (j, has)

-- ---- its marks

module _ (n : ℕ) (s : Store) (root : RootBody) (fits : IsRootBody root) (i : ℕ) (d r : Rooted) (within : i < length (rooted_in root)) (is : get_or (rooted_in root) i d ≡ r) (old : List ℕ) (done : AreDone n s root i old) (earlier : Rooted) (among : Contains (take i (rooted_in root)) earlier) (same : r.inodes ≡ earlier.inodes) where
  -- the bit of the earlier root counts what it reaches
  earlier_counted : (block : ℕ) → bit_at (slice_index old block) earlier.bit ≡ times block (reach s earlier.inodes)
  earlier_counted block = ⊎_elim
      (λ (set : bit_at (slice_index old block) earlier.bit ≡ 1). omega (arith, set, among_times block (reach s earlier.inodes) (reached set), (done.checked earlier among).placed.once block))
      (λ (clear : bit_at (slice_index old block) earlier.bit ≢ 1). omega (arith, clear, bit_at-lt (slice_index old block) earlier.bit, not_reached clear))
      (cases_eq (bit_at (slice_index old block) earlier.bit) 1)
    where
      reached : bit_at (slice_index old block) earlier.bit ≡ 1 → Contains (reach s earlier.inodes) block
      reached set =
          let by : IsReachedBy s (take i (rooted_in root)) block earlier.bit = (done.sets block earlier.bit).0 set in
          let it : record { bit = earlier.bit; inodes = by.inodes } ≡ earlier = same_root root fits (record { bit = earlier.bit; inodes = by.inodes }) earlier (among_all (rooted_in root) i _ by.among) (among_all (rooted_in root) i earlier among) refl in
          subst (λ (q : Rooted). Contains (reach s q.inodes) block) it by.reached

      not_reached : bit_at (slice_index old block) earlier.bit ≢ 1 → times block (reach s earlier.inodes) ≡ 0
      not_reached clear = ⊎_elim
          (λ (none : times block (reach s earlier.inodes) ≡ 0). none)
          (λ (some : times block (reach s earlier.inodes) ≢ 0).
          absurd (clear ((done.sets block earlier.bit).1 (record { inodes = earlier.inodes; among = among; reached = times_among block (reach s earlier.inodes) (omega (arith, some)) }))))
          (cases_eq (times block (reach s earlier.inodes)) 0)

  copied_marks : (new : List ℕ) → CopiesBit earlier.bit r.bit old new → Marks n r.bit (reach s r.inodes) old new
  copied_marks new copies = record {
    counted = λ block. omega (arith, copies.copied block, clear_bit n s root fits i d r within is old done block, earlier_counted block, ap (λ (t : BlockTree). times block (reach s t)) same);
    others = λ block other apart. copies.others block other apart;
    within = λ block reached. (done.checked earlier among).placed.within block (subst (λ (t : BlockTree). Contains (reach s t) block) same reached);
  }

  pub done_copied : SetsGrow → (new : List ℕ) → CopiesBit earlier.bit r.bit old new → AreDone n s root (i + 1) new
  done_copied grow new copies =
      done_more n s root fits i d r within is old done grow new (copied_marks new copies)
      (subst (λ (t : BlockTree). IsSoundButLinks root.limits n s t) (sym same) (done.checked earlier among))

-- ---- its links

pub linked_too : (s : Store) (root : RootBody) (i j : ℕ) → i < length (rooted_in root) → IsFirstSeen (rooted_in root) i j → AreLinked s (take i (rooted_in root)) → AreLinked s (take (i + 1) (rooted_in root))
linked_too s root i j within seen linked =
    let live : Rooted = record { bit = 0; inodes = root.inode_file } in
    let r : Rooted = get_or (rooted_in root) i live in
    let earlier : Rooted = get_or (rooted_in root) j live in
    each_more (λ (q : Rooted). IsLinked s q.inodes) (rooted_in root) i r live within refl linked
    (subst (λ (t : BlockTree). IsLinked s t) (sym (seen.same live)) (linked earlier (before_contains (rooted_in root) i j live seen.before within)))
