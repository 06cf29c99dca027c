-- The links of a directory block.
use Rattle.std.proofs.Common.{◌≡◌, ℕ, zero, suc, ◌+◌, ◌-◌, ◌^◌, ◌<◌, ◌≤◌, Bool, true, false, ◌&&◌, Option, None, Some, List, [], ◌∷◌, ◌++◌, length, take, drop, refl, sym, ap, subst, ◌∙◌, append_assoc, length-append, arith}
use Rattle.std.specs.Prelude.{IsSome, nat_le}
use Rattle.std.specs.List.{AllByRecursion}
use Rattle.std.proofs.lemmas.Bool.{le-leb, leb-true}
use Rattle.std.proofs.lemmas.List.{take_at, drop_at}
use Rattle.byteorder.specs.Endian.{little_number}
use Rattle.byteorder.specs.Numbers.{little_number-reads_back}
use Rattle.sn_layout.specs.Bytes.{number_bytes, zeros}
use Rattle.sn_layout.proofs.Fields.{true_false, length-number_bytes}
use Rattle.sn_layout.proofs.Reading.{each_more, bytes_more}
use Rattle.sn_layout_node.specs.Directory.{Link, IsLink, AreLinkBytes, link_bytes, links_bytes, links_within, links_of, begins_link, BeginsWithLink}

pub length-link : (link : Link) → length (link_bytes link) ≡ length link.name + 3
length-link link = omega (arith, length-append (number_bytes 2 link.number) (length link.name ∷ link.name), length-number_bytes 2 link.number)

pub length-links : (link : Link) (links : List Link) → length (links_bytes (link ∷ links)) ≡ length link.name + 3 + length (links_bytes links)
length-links link links = omega (arith, length-append (link_bytes link) (links_bytes links), length-link link)

pub link_flat : (link : Link) (rest : List ℕ) → link_bytes link ++ rest ≡ number_bytes 2 link.number ++ (length link.name ∷ (link.name ++ rest))
link_flat link rest = append_assoc (number_bytes 2 link.number) (length link.name ∷ link.name) rest

-- links are read as they were written
within_links : (n : ℕ) (links : List Link) → AllByRecursion IsLink links → length (links_bytes links) ≤ n → links_within n (links_bytes links) ≡ links
unfolding links_within number_bytes
within_links zero [] each room = refl
within_links (suc n) [] each room = refl
within_links zero (link ∷ links) each room = absurd (omega (arith, length-links link links))
within_links (suc n) (link ∷ links) each room =
    let rest = links_bytes links in
    let number : little_number 2 (number_bytes 2 link.number ++ (length link.name ∷ link.name ++ rest)) ≡ link.number = little_number-reads_back 2 link.number (length link.name ∷ link.name ++ rest) each.0.most in
    let name : take (length link.name) (link.name ++ rest) ≡ link.name = take_at link.name rest (length link.name) refl in
    let after : drop (length link.name) (link.name ++ rest) ≡ rest = drop_at link.name rest (length link.name) refl in
    let others = within_links n links each.1 (omega (arith, length-links link links)) in
    let step : links_within n (drop (length link.name) (link.name ++ rest)) ≡ links = ap (links_within n) after ∙ others in
    ap (λ (x : ℕ). record { number = x; name = take (length link.name) (link.name ++ rest) } ∷ links_within n (drop (length link.name) (link.name ++ rest))) number
    ∙ ap (λ (x : List ℕ). record { number = link.number; name = x } ∷ links_within n (drop (length link.name) (link.name ++ rest))) name
    ∙ ap (λ (ls : List Link). link ∷ ls) step

pub links_of-bytes : (links : List Link) → AllByRecursion IsLink links → links_of (links_bytes links) ≡ links
unfolding links_of
links_of-bytes links each = within_links (length (links_bytes links)) links each (omega arith)

pub are_link_bytes : (links : List Link) → AllByRecursion IsLink links → AreLinkBytes (links_bytes links)
are_link_bytes links each =
    let same = links_of-bytes links each in
    record { spelled = ap links_bytes (sym same); each = subst (λ (ls : List Link). AllByRecursion IsLink ls) (sym same) each }

-- links were read from the front of bytes, of which these are left
abbrev pub AreRead : List ℕ → List ℕ → Type 0
AreRead bytes left = (links : List Link) × AllByRecursion IsLink links × (bytes ≡ links_bytes links ++ left)

-- links are left, and then zeros
abbrev pub AreLeft : List ℕ → ℕ → Type 0
AreLeft left n = (links : List Link) × AllByRecursion IsLink links × (left ≡ links_bytes links ++ zeros n)

number_again : (n : ℕ) (rest : List ℕ) → n < 256 ^ 2 → little_number 2 (number_bytes 2 n ++ rest) ≡ n
unfolding number_bytes
number_again n rest fits = little_number-reads_back 2 n rest fits

no_test : (b : Bool) → (b && false) ≡ false
no_test true = refl
no_test false = refl

begins_zeros : (n : ℕ) → begins_link (zeros n) ≡ false
unfolding zeros
begins_zeros zero = refl
begins_zeros (suc zero) = refl
begins_zeros (suc (suc n)) = no_test (nat_le 3 (length (zeros (suc (suc n)))))

begins_first : (link : Link) (rest : List ℕ) → IsLink link → begins_link (link_bytes link ++ rest) ≡ true
begins_first link rest fits =
    let long : nat_le 3 (length (link_bytes link ++ rest)) ≡ true = le-leb 3 (length (link_bytes link ++ rest)) (omega (arith, length-append (link_bytes link) rest, length-link link)) in
    let flat : link_bytes link ++ rest ≡ number_bytes 2 link.number ++ (length link.name ∷ link.name ++ rest) = append_assoc (number_bytes 2 link.number) (length link.name ∷ link.name) rest in
    let number : little_number 2 (link_bytes link ++ rest) ≡ link.number = ap (little_number 2) flat ∙ number_again link.number (length link.name ∷ link.name ++ rest) fits.most in
    let some : nat_le 2 (little_number 2 (link_bytes link ++ rest)) ≡ true = ap (nat_le 2) number ∙ le-leb 2 link.number fits.least in
    rw (long, some) refl

-- what the test says
both_true : (a b : Bool) → (a && b) ≡ true → (a ≡ true) × (b ≡ true)
both_true true b e = (refl, e)
both_true false b e = absurd cc

pub begins_least : (old new : List ℕ) (n : ℕ) → begins_link old ≡ true → n < 256 ^ 2 → old ≡ number_bytes 2 n ++ new → 2 ≤ n
begins_least old new n e fits spelled =
    let least = leb-true 2 (little_number 2 old) (both_true (nat_le 3 (length old)) (nat_le 2 (little_number 2 old)) e).1 in
    omega (arith, ap (little_number 2) spelled ∙ number_again n new fits)

-- one link more was read, whatever is left
pub next_left : (old new : List ℕ) (n : ℕ) (P : Link → Type 0) (some : Type 0)
    → ((link : Link) (rest : List ℕ) → IsLink link → old ≡ link_bytes link ++ rest → P link × (new ≡ rest) × some)
    → begins_link old ≡ true → AreLeft old n → AreLeft new n × some
next_left old new n P some only begins ([], each, e) = true_false (begins_link old) begins (ap begins_link e ∙ begins_zeros n)
next_left old new n P some only begins (link ∷ more, each, e) =
    let found = only link (links_bytes more ++ zeros n) each.0 (e ∙ append_assoc (link_bytes link) (links_bytes more) (zeros n)) in
    ((more, each.1, found.1), found.2)

pub begins_with : (left : List ℕ) (n : ℕ) → begins_link left ≡ true → AreLeft left n → BeginsWithLink left
begins_with left n begins ([], each, e) = true_false (begins_link left) begins (ap begins_link e ∙ begins_zeros n)
begins_with left n begins (link ∷ more, each, e) = (link, links_bytes more ++ zeros n, each.0, e ∙ append_assoc (link_bytes link) (links_bytes more) (zeros n))

-- no link is left
pub none_left : (left : List ℕ) (n : ℕ) → begins_link left ≡ false → AreLeft left n → left ≡ zeros n
none_left left n ends ([], each, e) = e
none_left left n ends (link ∷ more, each, e) =
    true_false (begins_link left) (ap begins_link (e ∙ append_assoc (link_bytes link) (links_bytes more) (zeros n)) ∙ begins_first link (links_bytes more ++ zeros n) each.0) ends

pub read_more : (bytes old new : List ℕ) (link : Link) → AreRead bytes old → IsLink link → old ≡ link_bytes link ++ new → AreRead bytes new
read_more bytes old new link (links, each, e) fits next = (
  links ++ link ∷ [],
  each_more IsLink links link each fits,
  e ∙ ap (λ (r : List ℕ). links_bytes links ++ r) next ∙ sym (append_assoc (links_bytes links) (link_bytes link) new) ∙ ap (λ (r : List ℕ). r ++ new) (sym (bytes_more link_bytes links link)),
)

-- what was read are link bytes, and what is left follows them
pub read_front : (bytes left : List ℕ) (n : ℕ) → length bytes ≡ 4096 → length left ≡ n → AreRead bytes left → AreLinkBytes (take (4096 - n) bytes)
read_front bytes left n len count (links, each, e) =
    let size = ap length e ∙ length-append (links_bytes links) left in
    let front = ap (take (4096 - n)) e ∙ take_at (links_bytes links) left (4096 - n) (omega (arith, size)) in
    subst AreLinkBytes (sym front) (are_link_bytes links each)

pub read_back : (bytes left : List ℕ) (n : ℕ) → length bytes ≡ 4096 → length left ≡ n → AreRead bytes left → drop (4096 - n) bytes ≡ left
read_back bytes left n len count (links, each, e) =
    let size = ap length e ∙ length-append (links_bytes links) left in
    ap (drop (4096 - n)) e ∙ drop_at (links_bytes links) left (4096 - n) (omega (arith, size))

pub none_some : {A B : Type 0} (o : Option A) → o ≡ None → IsSome o → B
none_some None e some = absurd cc
none_some (Some x) e some = absurd cc

-- the first of link bytes that are not empty
pub record IsFirst (bytes : List ℕ) (link : Link) (more : List Link) : Type 0 where
  pub links : links_of bytes ≡ link ∷ more
  pub fits : IsLink link
  pub each : AllByRecursion IsLink more
  pub spelled : bytes ≡ number_bytes 2 link.number ++ (length link.name ∷ (link.name ++ links_bytes more))

first_of : (bytes : List ℕ) (links : List Link) → links_of bytes ≡ links → AllByRecursion IsLink links → bytes ≡ links_bytes links → 0 < length bytes → (link : Link) × (more : List Link) × IsFirst bytes link more
first_of bytes [] same each e some = absurd (omega (arith, ap length e))
first_of bytes (link ∷ more) same each e some = (
  link,
  more,
  record {
    links = same;
    fits = each.0;
    each = each.1;
    spelled = e ∙ append_assoc (number_bytes 2 link.number) (length link.name ∷ link.name) (links_bytes more);
  },
)

pub first_link : (bytes : List ℕ) → AreLinkBytes bytes → 0 < length bytes → (link : Link) × (more : List Link) × IsFirst bytes link more
first_link bytes links some = first_of bytes (links_of bytes) refl links.each links.spelled some

pub first_long : (bytes : List ℕ) (link : Link) (more : List Link) → IsFirst bytes link more → length bytes ≡ 3 + length link.name + length (links_bytes more)
first_long bytes link more f =
    omega (arith, ap length f.spelled, length-append (number_bytes 2 link.number) (length link.name ∷ (link.name ++ links_bytes more)), length-number_bytes 2 link.number, length-append link.name (links_bytes more))

pub links_of-nil : links_of [] ≡ []
unfolding links_of links_within
links_of-nil = refl
