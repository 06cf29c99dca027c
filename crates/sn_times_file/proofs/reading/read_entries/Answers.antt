use Rattle.std.proofs.Common.{◌≡◌, ℕ, ◌+◌, ◌≤◌, List, [], ◌∷◌, ◌++◌, Some, length, refl, sym, ap, subst, ◌∙◌, append_assoc, length-append, arith}
use Rattle.std.specs.List.{AllByRecursion, flat_map}
use Rattle.std.specs.FinMap as map
use Rattle.sn_bytes.proofs.Fields.{some_some}
use Rattle.sn_bytes.proofs.Reading.{AreLeft, next_is, none_left, bytes_more, each_more}
use Rattle.sn_fuse.specs.declared.operation.Time.{Time}
use Rattle.sn_times.specs.Dates.{Tree}
use Rattle.sn_times.specs.declared.stamps.Stamps.{Stamps}
use Rattle.sn_times_file.specs.Kept.{IsEntry, Own, entry_bytes}
use Rattle.sn_times_file.proofs.Entries.{IsLeast, entries-insert_last, entries-none, least-more, least-none, next_above}
use Rattle.sn_times_file.proofs.reading.read_entries.Goals as goal

abbrev as_tree : Time → Own → Tree
as_tree base own = record { base = base; own = own }

pub loop-init : goal.loop-init
loop-init c =
    let none : map.entries c.new-tree.result.own ≡ [] = entries-none c.new-tree.result.own (ap (λ (t : Tree). t.own) c.new-tree.ensures) in
    record {
      base = ap (λ (t : Tree). t.base) c.new-tree.ensures;
      count = ap length none;
      each = subst (AllByRecursion IsEntry) (sym none) tt;
      read = ap (λ (es : List (ℕ × Stamps)). flat_map entry_bytes es ++ c.args.reader.now) (sym none);
      least = subst (IsLeast 0) (sym none) least-none;
      only = λ others rest len each e. (map.entries others, ap (λ (es : List (ℕ × Stamps)). es ++ map.entries others) (sym none), each, e);
    }

pub returns-in_default-clause-only : goal.returns-in_default-clause-only
returns-in_default-clause-only c = λ own rest len each e.
    let all = map.entries c.loop.tree.own in
    let count : length (map.entries own) ≡ c.args.count = sym (map.len-entries own) ∙ len in
    let next = next_is IsEntry entry_bytes all (map.entries own) c.loop.reader c.read_entry.new.reader rest _ c.in_default.ensures.only (omega (arith, c.loop.invariant.count)) (c.loop.invariant.only own rest len each e) in
    let never = next.1 in
    absurd cc

pub returns-then-found-least-clause-only : goal.returns-then-found-least-clause-only
returns-then-found-least-clause-only c = λ own rest len each e.
    let all = map.entries c.loop.tree.own in
    let entry : ℕ × Stamps = (c.in-Some.number, c.in-Some.stamps) in
    let count : length (map.entries own) ≡ c.args.count = sym (map.len-entries own) ∙ len in
    let next = next_is IsEntry entry_bytes all (map.entries own) c.loop.reader c.read_entry.new.reader rest (Some entry) c.in-Some.ensures.only (omega (arith, c.loop.invariant.count)) (c.loop.invariant.only own rest len each e) in
    let same : entry ≡ next.0 = some_some (Some entry) entry next.0 refl next.1 in
    let above = next_above c.loop.tree.own own c.loop.least next.0 next.2.0 c.loop.invariant.least next.2.1 in
    let number : c.in-Some.number ≡ next.0.0 = ap (λ (e : ℕ × Stamps). e.0) same in
    absurd (omega (arith, above, number, c.from-found.ensures, c.if-found-least.true))

pub loop-preserved : goal.loop-preserved
loop-preserved c =
    let all = map.entries c.loop.tree.own in
    let entry : ℕ × Stamps = (c.in-Some.number, c.in-Some.stamps) in
    let least : c.loop.least ≤ c.in-Some.number = omega (arith, c.from-found.ensures, c.if-found-least.false) in
    let pushed : map.entries c.insert.new.self.own ≡ all ++ entry ∷ [] = ap (λ (t : Tree). map.entries t.own) c.in_ok-insert.ensures.ok ∙ entries-insert_last c.loop.tree.own c.loop.least c.in-Some.number c.in-Some.stamps c.loop.invariant.least least in
    record {
      base = ap (λ (t : Tree). t.base) c.in_ok-insert.ensures.ok ∙ c.loop.invariant.base;
      count = ap length pushed ∙ length-append all (entry ∷ []) ∙ ap (λ n. n + 1) c.loop.invariant.count;
      each = subst (AllByRecursion IsEntry) (sym pushed) (each_more IsEntry all entry c.loop.invariant.each c.in-Some.ensures.found.0);
      read = c.loop.invariant.read ∙ ap (λ (r : List ℕ). flat_map entry_bytes all ++ r) c.in-Some.ensures.found.1 ∙ sym (append_assoc (flat_map entry_bytes all) (entry_bytes entry) c.read_entry.new.reader)
          ∙ ap (λ (b : List ℕ). b ++ c.read_entry.new.reader) (sym (bytes_more entry_bytes all entry) ∙ ap (flat_map entry_bytes) (sym pushed));
      least = rw (c.from-found.ensures, pushed) (least-more c.loop.least all entry c.loop.invariant.least least);
      only = λ others rest len each e.
          let count : length (map.entries others) ≡ c.args.count = sym (map.len-entries others) ∙ len in
          let next = next_is IsEntry entry_bytes all (map.entries others) c.loop.reader c.read_entry.new.reader rest (Some entry) c.in-Some.ensures.only (omega (arith, c.loop.invariant.count)) (c.loop.invariant.only others rest len each e) in
          let same : entry ≡ next.0 = some_some (Some entry) entry next.0 refl next.1 in
          subst (λ (es : List (ℕ × Stamps)). AreLeft IsEntry entry_bytes es (map.entries others) c.read_entry.new.reader rest) (ap (λ (s : ℕ × Stamps). all ++ s ∷ []) (sym same) ∙ sym pushed) next.2;
    }

pub returns-clause-found : goal.returns-clause-found
returns-clause-found c = (c.loop.invariant.base, map.len-entries c.loop.tree.own ∙ omega (arith, c.loop.invariant.count, c.loop-test.false, c.loop.auto.counter-end), c.loop.invariant.each)

whole : (base b : Time) (own o : Own) → base ≡ b → own ≡ o → as_tree base own ≡ as_tree b o
whole base b own o e f = ap (λ x. as_tree x own) e ∙ ap (as_tree b) f

pub returns-clause-only : goal.returns-clause-only
returns-clause-only c = λ own rest len each e.
    let count : length (map.entries own) ≡ c.args.count = sym (map.len-entries own) ∙ len in
    let all = none_left IsEntry entry_bytes (map.entries c.loop.tree.own) (map.entries own) c.loop.reader rest (omega (arith, c.loop.invariant.count, c.loop-test.false, c.loop.auto.counter-end)) (c.loop.invariant.only own rest len each e) in
    (whole c.loop.tree.base c.args.base c.loop.tree.own own c.loop.invariant.base (map.same_entries_map c.loop.tree.own own (sym all.0)), all.1)
