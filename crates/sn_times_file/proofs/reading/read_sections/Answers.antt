use Rattle.std.proofs.Common.{◌≡◌, ℕ, ◌<◌, List, [], ◌∷◌, ◌++◌, length, sym, ap, ◌∙◌, append_assoc, length-append, arith}
use Rattle.std.specs.List.{flat_map}
use Rattle.std.proofs.lemmas.Result.{err_from_is_err_and}
use Rattle.sn_bytes.proofs.Reading.{bytes_more, each_more}
use Rattle.sn_times_file.specs.declared.fault.Unreadable.TheVariants.{Memory}
use Rattle.sn_times_file.specs.Kept.{IsNamed, Named, named_bytes}
use Rattle.sn_times_file.proofs.Left.{next_left, none_more}
use Rattle.sn_times_file.proofs.reading.read_sections.Goals as goal

pub returns-then-len-ge-SECTIONS_MAX-clause-only : goal.returns-then-len-ge-SECTIONS_MAX-clause-only
returns-then-len-ge-SECTIONS_MAX-clause-only c = λ all are e.
    let items = c.loop-alloc.sections.items in
    let some : 0 < length c.loop-alloc.reader = omega (arith, c.remaining.ensures, c.loop-alloc-test.true) in
    let next = next_left items all c.loop-alloc.reader some (c.loop-alloc.invariant.only all are e) in
    absurd (omega (arith, are.0, c.len.ensures, c.if-len-ge-SECTIONS_MAX.true, ap length next.2.whole, length-append (items ++ next.0 ∷ []) next.1, length-append items (next.0 ∷ [])))

pub returns-in_err-section-clause-only : goal.returns-in_err-section-clause-only
returns-in_err-section-clause-only c = λ all each e.
    let some : 0 < length c.loop-alloc.reader = omega (arith, c.remaining.ensures, c.loop-alloc-test.true) in
    let next = next_left c.loop-alloc.sections.items all c.loop-alloc.reader some (c.loop-alloc.invariant.only all each e) in
    let fault : c.in_err-section.field-0.0 ≡ Memory = c.in_err-section.ensures.only next.0 (flat_map named_bytes next.1 ++ []) next.2.fits next.2.spelled in
    let p = err_from_is_err_and c.from_residual.result c.from_residual.ensures.1 in
    rw (p.1) (cc)

pub loop-alloc-preserved : goal.loop-alloc-preserved
loop-alloc-preserved c =
    let items = c.loop-alloc.sections.items in
    let section = c.in_ok-section.section in
    let left = c.read_section.new.reader in
    let pushed : c.push.new.self.items ≡ items ++ section ∷ [] = c.in_ok-push.ensures.items in
    record {
      few = omega (arith, ap length pushed, length-append items (section ∷ []), c.len.ensures, c.if-len-ge-SECTIONS_MAX.false);
      each = rw pushed (each_more IsNamed items section c.loop-alloc.invariant.each c.in_ok-section.ensures.found);
      read = c.loop-alloc.invariant.read ∙ ap (λ (r : List ℕ). flat_map named_bytes items ++ r) c.in_ok-section.ensures.read ∙ sym (append_assoc (flat_map named_bytes items) (named_bytes section) left)
          ∙ ap (λ (b : List ℕ). b ++ left) (sym (bytes_more named_bytes items section) ∙ ap (flat_map named_bytes) (sym pushed));
      only = λ all each e.
          let some : 0 < length c.loop-alloc.reader = omega (arith, c.remaining.ensures, c.loop-alloc-test.true) in
          let next = next_left items all c.loop-alloc.reader some (c.loop-alloc.invariant.only all each e) in
          let is = c.in_ok-section.ensures.only next.0 (flat_map named_bytes next.1 ++ []) next.2.fits next.2.spelled in
          (next.1, next.2.whole ∙ ap (λ (xs : List Named). xs ++ next.1) (ap (λ (s : Named). items ++ s ∷ []) (sym is.0) ∙ sym pushed), next.2.each, is.1);
    }

pub returns-clause-only : goal.returns-clause-only
returns-clause-only c = λ all each e.
    none_more c.loop-alloc.sections.items all c.loop-alloc.reader (omega (arith, c.remaining.ensures, c.loop-alloc-test.false)) (c.loop-alloc.invariant.only all each e)
