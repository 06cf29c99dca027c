-- Names of one directory, counted one after the other.
use Rattle.std.proofs.Common.{◌≡◌, ◌≢◌, ◌⊎◌, inl, inr, ⊎_elim, ℕ, ◌+◌, ◌<◌, ◌≤◌, ◌==◌, Bool, cond, List, [], ◌∷◌, ◌++◌, append_assoc, append-nil, Contains, refl, sym, ap, subst, ◌∙◌, arith}
use Rattle.std.proofs.lemmas.Bool.{cases_eq, eq-eqb, ne_eqb}
use Rattle.std.proofs.lemmas.List.Elements.{Contains-append_right}
use Rattle.std.proofs.lemmas.List.Sums.{sum_by-cons}
use Rattle.sn_layout_node.specs.Directory.{Link}
use Rattle.sn_image.proofs.ListLemmas.{count-append}
use Rattle.sn_census.specs.Counts.{Counts, CountsIn, HasSpare, one_name, times_in}
use Rattle.sn_census.specs.Rows.{Sets, row_at}
use Rattle.sn_census.specs.declared.table.Row.{Row}

-- ---- one row

pub row_stays : (directory times : ℕ) (old new : Row) → times ≡ 0 → new ≡ old → CountsIn directory times old new
row_stays directory times old new none same = record {
  kind = ap (λ (r : Row). r.kind) same;
  links = ap (λ (r : Row). r.links) same;
  climb = ap (λ (r : Row). r.climb) same;
  names = omega (arith, none, ap (λ (r : Row). r.names) same);
  few = λ before. omega (arith, before, ap (λ (r : Row). r.names) same, ap (λ (r : Row). r.links) same);
  parent = inl (none, ap (λ (r : Row). r.parent) same);
}

row_joined : (directory t u w : ℕ) (a b c : Row) → w ≡ t + u → CountsIn directory t a b → CountsIn directory u b c → CountsIn directory w a c
row_joined directory t u w a b c sum first second = record {
  kind = second.kind ∙ first.kind;
  links = second.links ∙ first.links;
  climb = second.climb ∙ first.climb;
  names = omega (arith, sum, first.names, second.names);
  few = λ before. second.few (first.few before);
  parent = joined first.parent second.parent;
}
  where
    joined : ((t ≡ 0) × (b.parent ≡ a.parent)) ⊎ ((0 < t) × (b.parent ≡ directory)) → ((u ≡ 0) × (c.parent ≡ b.parent)) ⊎ ((0 < u) × (c.parent ≡ directory))
        → ((w ≡ 0) × (c.parent ≡ a.parent)) ⊎ ((0 < w) × (c.parent ≡ directory))
    joined (inl (none, stays)) (inl (no_more, still)) = inl (omega (arith, sum, none, no_more), still ∙ stays)
    joined (inr (some, here)) (inl (no_more, still)) = inr (omega (arith, sum, some), still ∙ here)
    joined x (inr (more, there)) = inr (omega (arith, sum, more), there)

-- ---- all rows

pub times_append : (number : ℕ) (xs ys : List Link) → times_in number (xs ++ ys) ≡ times_in number xs + times_in number ys
times_append number xs ys = count-append (λ (l : Link). l.number == number) xs ys

pub times_one : (number : ℕ) (link : Link) → link.number ≡ number → times_in number (link ∷ []) ≡ 1
times_one number link is = omega (arith, sum_by-cons (λ (l : Link). cond (l.number == number) 1 0) link [], ap {B = ℕ} (λ (b : Bool). cond b 1 0) (eq-eqb link.number number is))

times_other : (number : ℕ) (link : Link) → link.number ≢ number → times_in number (link ∷ []) ≡ 0
times_other number link other = omega (arith, sum_by-cons (λ (l : Link). cond (l.number == number) 1 0) link [], ap {B = ℕ} (λ (b : Bool). cond b 1 0) (ne_eqb link.number number other))

module _ (directory : ℕ) where
  pub counts_none : (rows : List Row) → Counts directory [] rows rows
  counts_none rows number = row_stays directory 0 (row_at rows number) (row_at rows number) refl refl

  pub counts_append : (xs ys : List Link) (a b c : List Row) → Counts directory xs a b → Counts directory ys b c → Counts directory (xs ++ ys) a c
  counts_append xs ys a b c first second number =
      row_joined directory (times_in number xs) (times_in number ys) (times_in number (xs ++ ys)) (row_at a number) (row_at b number) (row_at c number) (times_append number xs ys) (first number) (second number)

  pub counts_alike : (xs ys : List Link) (a b : List Row) → xs ≡ ys → Counts directory xs a b → Counts directory ys a b
  counts_alike xs ys a b same counts = subst (λ (zs : List Link). Counts directory zs a b) same counts

  -- one name, of a number that is to have one more
  pub counts_one : (number : ℕ) (new : Row) (a b : List Row) → Sets number new a b → (row_at a number).names < (row_at a number).links
      → new.kind ≡ (row_at a number).kind → new.links ≡ (row_at a number).links → new.climb ≡ (row_at a number).climb → new.names ≡ (row_at a number).names + 1 → new.parent ≡ directory
      → Counts directory (one_name number ∷ []) a b
  counts_one number new a b put few kind links climb names parent n = ⊎_elim
      (λ (same : n ≡ number). subst (λ (k : ℕ). CountsIn directory (times_in k (one_name number ∷ [])) (row_at a k) (row_at b k)) (sym same) here)
      (λ (other : n ≢ number). row_stays directory (times_in n (one_name number ∷ [])) (row_at a n) (row_at b n) (times_other n (one_name number) (λ is. other (sym is))) (put.others n other))
      (cases_eq n number)
    where
      once : times_in number (one_name number ∷ []) ≡ 1
      once = times_one number (one_name number) refl

      here : CountsIn directory (times_in number (one_name number ∷ [])) (row_at a number) (row_at b number)
      here = record {
        kind = ap (λ (r : Row). r.kind) put.here ∙ kind;
        links = ap (λ (r : Row). r.links) put.here ∙ links;
        climb = ap (λ (r : Row). r.climb) put.here ∙ climb;
        names = omega (arith, once, ap (λ (r : Row). r.names) put.here, names);
        few = λ before. omega (arith, few, ap (λ (r : Row). r.names) put.here, names, ap (λ (r : Row). r.links) put.here, links);
        parent = inr (omega (arith, once), ap (λ (r : Row). r.parent) put.here ∙ parent);
      }

-- ---- the names of a block

-- Of these names some are left, and those in front of them were counted.
pub record IsPart (directory : ℕ) (all left : List Link) (old new : List Row) : Type 0 where
  pub done : List Link
  pub split : done ++ left ≡ all
  pub counts : Counts directory done old new

pub part_begun : (directory : ℕ) (all left : List Link) (rows : List Row) → left ≡ all → IsPart directory all left rows rows
part_begun directory all left rows is = record { done = []; split = is; counts = counts_none directory rows }

module _ (directory : ℕ) (all left rest : List Link) (link : Link) (a b : List Row) (next : left ≡ link ∷ rest) (part : IsPart directory all left a b) where
  split_next : part.done ++ (link ∷ rest) ≡ all
  split_next = ap (λ (xs : List Link). part.done ++ xs) (sym next) ∙ part.split

  pub part_more : (c : List Row) → Counts directory (link ∷ []) b c → IsPart directory all rest a c
  part_more c one = record {
    done = part.done ++ (link ∷ []);
    split = append_assoc part.done (link ∷ []) rest ∙ split_next;
    counts = counts_append directory part.done (link ∷ []) a b c part.counts one;
  }

  pub part_spare : (number : ℕ) → link.number ≡ number → (row_at b number).links ≤ (row_at b number).names → HasSpare all number a b
  part_spare number is full = record {
    name = link;
    among = subst (λ (xs : List Link). Contains xs link) split_next (Contains-append_right part.done (link ∷ rest) link (0, omega arith, refl));
    is = is;
    more = omega (
      arith,
      full,
      (part.counts number).links,
      (part.counts number).names,
      ap (λ (xs : List Link). times_in number xs) split_next,
      times_append number part.done (link ∷ rest),
      times_append number (link ∷ []) rest,
      times_one number link is,
    );
    kind = (part.counts number).kind;
  }

pub part_done : (directory : ℕ) (all left : List Link) (a b : List Row) → left ≡ [] → IsPart directory all left a b → Counts directory all a b
part_done directory all left a b none part =
    counts_alike directory part.done all a b (sym (append-nil part.done) ∙ ap (λ (xs : List Link). part.done ++ xs) (sym none) ∙ part.split) part.counts
