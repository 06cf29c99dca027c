-- How many descriptors a live file has, by the seats and by the finite map.
use Rattle.std.proofs.Common.{◌≡◌, ℕ, zero, suc, ◌+◌, ◌==◌, Bool, false, nat_lt, cond, List, [], ◌∷◌, Option, Some, None, length, get_or, replicate, count_by, refl, sym, ap, ◌∙◌, arith}
use Rattle.std.specs.FinMap as map
use Rattle.std.specs.Option.{option_map}
use Rattle.std.proofs.lemmas.Bool.{lt-ltb, ne_eqb}
use Rattle.std.proofs.lemmas.List.Sums.{sum_by-cons}
use Rattle.std.proofs.lemmas.List.{get_or-replicate, length-replicate}
use Rattle.sn_walk.specs.declared.object.Home.{Home}
use Rattle.sn_walk.specs.declared.object.Home.TheVariants.{Live, Frozen}
use Rattle.sn_model.proofs.CountLemmas.{count, count_inserted, count_none}
use Rattle.sn_model.proofs.HeldLemmas.{descriptors_total, exact_descriptors, held_count, is_holder}
use Rattle.sn_model.specs.World.{Descriptor, descriptor_cmp}
use Rattle.sn_model.specs.Descriptors.{is_held_in, released_at}
use Rattle.sn_desc.specs.declared.open_file.OpenFile.{OpenFile}
use Rattle.sn_desc.specs.Closing.{released_if}
use Rattle.sn_desc.specs.Holders.{IsCounted, has_live, holders_of, is_live, is_live_file, live_seats, one}
use Rattle.sn_desc.specs.InUse.{descriptor_of, descriptors_in, live_in, seated_from}
use Rattle.sn_desc.specs.OpenFiles.{released_file, released_from}
use Rattle.sn_desc.proofs.SeatLemmas.{key, seated_below}

-- as many descriptors pass a test as seats pass it
module _ (p : (ℕ × ℕ) × Descriptor → Bool) (q : Option OpenFile → Bool) (nothing : q None ≡ false) (something : (k : ℕ × ℕ) (f : OpenFile) → p (k, descriptor_of f) ≡ q (Some f)) where
  pub seated_count : (files : List (Option OpenFile)) (first : ℕ) → count p (seated_from first files) ≡ count_by q files
  unfolding seated_from
  seated_count [] first = count_none descriptors_total exact_descriptors p map.empty (λ k v e. let never : None ≡ Some v = sym (map.get-empty descriptor_cmp k) ∙ e in absurd cc)
  seated_count (None ∷ rest) first =
      omega (
        arith,
        seated_count rest (first + 1),
        sum_by-cons (λ (o : Option OpenFile). cond (q o) 1 0) None rest,
        ap {B = ℕ} (λ (b : Bool). cond b 1 0) nothing,
      )
  seated_count (Some f ∷ rest) first =
      omega (
        arith,
        count_inserted descriptors_total exact_descriptors p (seated_from (first + 1) rest) (key first) (descriptor_of f) (seated_below rest (first + 1) first (omega arith)),
        seated_count rest (first + 1),
        sum_by-cons (λ (o : Option OpenFile). cond (q o) 1 0) (Some f) rest,
        ap {B = ℕ} (λ (b : Bool). cond b 1 0) (something (key first) f),
      )

-- how many descriptors have live files, by the seats
pub live_is : (files : List (Option OpenFile)) → live_in (descriptors_in files) ≡ live_seats files
live_is files = seated_count (λ (e : (ℕ × ℕ) × Descriptor). is_live e.1.home) has_live refl (λ k f. refl) files 0

-- whether a file is held, by the seats
pub held_is : (files : List (Option OpenFile)) (number : ℕ) → is_held_in (descriptors_in files) number ≡ nat_lt 0 (holders_of number files)
held_is files number = held_count (descriptors_in files) number ∙ ap (nat_lt 0) (seated_count (is_holder number) (is_live_file number) refl (λ k f. refl) files 0)

-- what is released, by the seats
none_or : (n number : ℕ) → cond (n == 0) (Some number) None ≡ cond (nat_lt 0 n) None (Some number)
none_or zero number = refl
none_or (suc n) number = ap (λ b. cond b (Some number) None) (ne_eqb (suc n) 0 (λ e. omega (arith, e))) ∙ sym (ap (λ b. cond b None (Some number)) (lt-ltb 0 (suc n) (omega arith)))

released_by : (files : List (Option OpenFile)) (home : Home) (number : ℕ) → released_from files home number ≡ released_at (descriptors_in files) home number
released_by files Live number = none_or (holders_of number files) number ∙ ap (λ b. cond b None (Some number)) (sym (held_is files number))
released_by files (Frozen name) number = refl

pub released_is : (files : List (Option OpenFile)) (x : Option OpenFile) → released_file files x ≡ released_if (descriptors_in files) (option_map descriptor_of x)
released_is files None = refl
released_is files (Some f) = released_by files f.home f.number

-- nothing is open, and nothing counts
none_of_none : (n number : ℕ) → holders_of number (replicate n None) ≡ 0
none_of_none zero number = refl
none_of_none (suc n) number = omega (arith, none_of_none n number, sum_by-cons (one number) None (replicate n None))

no_live : (n : ℕ) → live_seats (replicate n None) ≡ 0
no_live zero = refl
no_live (suc n) = omega (arith, no_live n, sum_by-cons (λ (o : Option OpenFile). cond (has_live o) 1 0) None (replicate n None))

pub none_live : (files : List (Option OpenFile)) → files ≡ replicate 4096 None → 0 ≡ live_seats files
none_live files none = sym (ap live_seats none ∙ no_live 4096)

pub none_counted : (files : List (Option OpenFile)) (holders : List ℕ) → files ≡ replicate 4096 None → holders ≡ replicate 65536 0 → IsCounted files holders
none_counted files holders none zeros = record {
  seats = ap length none ∙ length-replicate {A = Option OpenFile} 4096 None;
  numbers = ap length zeros ∙ length-replicate {A = ℕ} 65536 0;
  counted = λ m low. ap (λ (xs : List ℕ). get_or xs m 0) zeros ∙ get_or-replicate {A = ℕ} 65536 m 0 0 low ∙ sym (ap (holders_of m) none ∙ none_of_none 4096 m);
}
