-- A listing as it is read by one answer after another.
use Rattle.std.proofs.Common.{◌≡◌, ℕ, zero, suc, ◌+◌, ◌-◌, ◌<◌, ◌≤◌, Bool, true, false, List, [], ◌∷◌, ◌++◌, length, length-append, take, drop, cond, leb, add-zero, refl, sym, ap, ◌∙◌, arith}
use Rattle.std.proofs.lemmas.List.{append_assoc, append-nil, drop-drop}
use Rattle.sn_fuse_replies.specs.Listing.{listed_bytes}
use Rattle.sn_listings.specs.Fitting.{bytes_of, fitting, fitting_count}
use Rattle.sn_listings.specs.Reading.{LastTells, all_bytes, next_offset, offset_after, read_bytes}
use Rattle.sn_listings.specs.declared.entry.HeldEntry.{HeldEntry}
use Rattle.sn_listings.proofs.FittingLemmas.{fitting-fits, most_bytes, some_bytes}

-- an answer has whole entries: by whether the first of them fits
whole_by : (fits : Bool) (place count : ℕ) (more : List ℕ) (entry : HeldEntry) (entries : List HeldEntry) → more ≡ all_bytes (place + 1) (take count entries)
    → cond fits (bytes_of place entry ++ more) [] ≡ all_bytes place (take (cond fits (suc count) 0) (entry ∷ entries))
whole_by true place count more entry entries rest = ap (λ x. bytes_of place entry ++ x) rest
whole_by false place count more entry entries rest = refl

pub fitting_whole : (room place : ℕ) (entries : List HeldEntry) → fitting room place entries ≡ all_bytes place (take (fitting_count room place entries) entries)
fitting_whole room place [] = refl
fitting_whole room place (entry ∷ entries) =
    let left = room - length (bytes_of place entry) in
    whole_by (leb (length (bytes_of place entry)) room) place (fitting_count left (place + 1) entries) (fitting left (place + 1) entries) entry entries
    (fitting_whole left (place + 1) entries)

-- its last entry tells the offset of the one after it
told_by : (fits : Bool) (place count : ℕ) (more : List ℕ) (entry : HeldEntry) → (count ≡ 0 → more ≡ []) → (0 < count → LastTells more (place + 1 + count))
    → 0 < cond fits (suc count) 0 → LastTells (cond fits (bytes_of place entry ++ more) []) (place + cond fits (suc count) 0)
unfolding bytes_of
told_by true place zero more entry none later some = record {
  front = [];
  last = entry;
  spelled = ap (λ x. bytes_of place entry ++ x) (none refl) ∙ append-nil (bytes_of place entry);
}
told_by true place (suc count) more entry none later some =
    let rest : LastTells more (place + 1 + suc count) = later (omega arith) in
    let last = rest.last in
    let next : place + 1 + suc count ≡ place + suc (suc count) = omega arith in
    record {
      front = bytes_of place entry ++ rest.front;
      last = last;
      spelled = ap (λ x. bytes_of place entry ++ x) (rest.spelled ∙ ap (λ n. rest.front ++ listed_bytes last.number n last.kind last.name) next)
          ∙ sym (append_assoc (bytes_of place entry) rest.front (listed_bytes last.number (place + suc (suc count)) last.kind last.name));
    }
told_by false place count more entry none later some = absurd (omega arith)

last_told : (room place : ℕ) (entries : List HeldEntry) → 0 < fitting_count room place entries → LastTells (fitting room place entries) (place + fitting_count room place entries)
last_told room place [] some = absurd (omega arith)
last_told room place (entry ∷ entries) some =
    let left = room - length (bytes_of place entry) in
    let none : fitting_count left (place + 1) entries ≡ 0 → fitting left (place + 1) entries ≡ [] =
    λ is. fitting_whole left (place + 1) entries ∙ ap (λ n. all_bytes (place + 1) (take n entries)) is
    in
    told_by (leb (length (bytes_of place entry)) room) place (fitting_count left (place + 1) entries) (fitting left (place + 1) entries) entry none
    (last_told left (place + 1) entries) some

pub answer_told : (room offset : ℕ) (listing : List HeldEntry) → 0 < fitting_count room offset (drop offset listing) →
    LastTells (fitting room offset (drop offset listing)) (next_offset room offset listing)
answer_told room offset listing some = last_told room offset (drop offset listing) some

-- what comes after it are all the others
joined_by : (fits : Bool) (place count : ℕ) (more : List ℕ) (entry : HeldEntry) (entries : List HeldEntry) →
    all_bytes (place + 1) entries ≡ more ++ all_bytes (place + 1 + count) (drop count entries) → all_bytes place (entry ∷ entries)
    ≡ cond fits (bytes_of place entry ++ more) [] ++ all_bytes (place + cond fits (suc count) 0) (drop (cond fits (suc count) 0) (entry ∷ entries))
joined_by true place count more entry entries rest =
    let b = bytes_of place entry in
    let next : place + 1 + count ≡ place + suc count = omega arith in
    ap (λ x. b ++ x) rest
    ∙ ap (λ n. b ++ (more ++ all_bytes n (drop count entries))) next
    ∙ sym (append_assoc b more (all_bytes (place + suc count) (drop count entries)))
joined_by false place count more entry entries rest = sym (ap (λ n. all_bytes n (entry ∷ entries)) (add-zero place))

pub fitting_joined : (room place : ℕ) (entries : List HeldEntry) → all_bytes place entries
    ≡ fitting room place entries ++ all_bytes (place + fitting_count room place entries) (drop (fitting_count room place entries) entries)
fitting_joined room place [] = refl
fitting_joined room place (entry ∷ entries) =
    let left = room - length (bytes_of place entry) in
    joined_by (leb (length (bytes_of place entry)) room) place (fitting_count left (place + 1) entries) (fitting left (place + 1) entries) entry entries
    (fitting_joined left (place + 1) entries)

-- and so are answers one after the other
pub reads_joined : (rooms : List ℕ) (offset : ℕ) (listing : List HeldEntry) → all_bytes offset (drop offset listing)
    ≡ read_bytes rooms offset listing ++ all_bytes (offset_after rooms offset listing) (drop (offset_after rooms offset listing) listing)
reads_joined [] offset listing = refl
reads_joined (room ∷ rooms) offset listing =
    let here = fitting room offset (drop offset listing) in
    let count = fitting_count room offset (drop offset listing) in
    let next = next_offset room offset listing in
    let after = offset_after rooms next listing in
    fitting_joined room offset (drop offset listing)
    ∙ ap (λ (entries : List HeldEntry). here ++ all_bytes next entries) (drop-drop count offset listing)
    ∙ ap (λ x. here ++ x) (reads_joined rooms next listing)
    ∙ sym (append_assoc here (read_bytes rooms next listing) (all_bytes after (drop after listing)))

-- an answer that has room for any entry and has none is at the end
pub fitting_ends : (room place : ℕ) (entries : List HeldEntry) → 280 ≤ room → fitting room place entries ≡ [] → entries ≡ []
fitting_ends room place [] wide none = refl
fitting_ends room place (entry ∷ entries) wide none =
    let b = bytes_of place entry in
    let some = some_bytes place entry in
    let most = most_bytes place entry in
    let long = ap length (sym (fitting-fits room place entry entries (omega arith)) ∙ none) in
    absurd (omega (arith, long, length-append b (fitting (room - length b) (place + 1) entries)))

pub reads_ended : (rooms : List ℕ) (room : ℕ) (listing : List HeldEntry) → 280 ≤ room
    → fitting room (offset_after rooms 0 listing) (drop (offset_after rooms 0 listing) listing) ≡ [] → read_bytes rooms 0 listing ≡ all_bytes 0 listing
reads_ended rooms room listing wide none =
    let after = offset_after rooms 0 listing in
    let end = fitting_ends room after (drop after listing) wide none in
    sym (reads_joined rooms 0 listing ∙ ap (λ (entries : List HeldEntry). read_bytes rooms 0 listing ++ all_bytes after entries) end ∙ append-nil (read_bytes rooms 0 listing))
