-- An answer as it is filled entry by entry.
use Rattle.std.proofs.Common.{◌≡◌, ◌↔◌, ℕ, ◌+◌, ◌-◌, ◌<◌, ◌≤◌, Bool, true, false, List, [], ◌∷◌, ◌++◌, length, length-append, cond, sym, ap, ◌∙◌, inl, inr, arith}
use Rattle.std.proofs.lemmas.Bool.{cases_lt, false≢true, le-leb, lt-leb}
use Rattle.std.proofs.lemmas.List.{append-nil}
use Rattle.sn_bytes.proofs.Fields.{length-number_bytes, length-zeros}
use Rattle.sn_fuse_replies.specs.Listing.{padding}
use Rattle.sn_listings.specs.Fitting.{bytes_of, fitting}
use Rattle.sn_listings.specs.declared.entry.HeldEntry.{HeldEntry}

-- how many bytes an entry has: a head of 24, the name, and zeros up to a multiple of 8
pub length-bytes_of : (place : ℕ) (entry : HeldEntry) → length (bytes_of place entry) ≡ 24 + length entry.name + padding (length entry.name)
unfolding bytes_of
length-bytes_of place entry = simp (length-append, length-number_bytes, length-zeros) (omega arith)

pub some_bytes : (place : ℕ) (entry : HeldEntry) → 0 < length (bytes_of place entry)
some_bytes place entry = omega (arith, length-bytes_of place entry)

pub most_bytes : (place : ℕ) (entry : HeldEntry) → length (bytes_of place entry) ≤ 280
most_bytes place entry = omega (arith, length-bytes_of place entry, entry.short)

-- an entry that fits is the first of what fits
pub fitting-fits : (room place : ℕ) (entry : HeldEntry) (more : List HeldEntry) → length (bytes_of place entry) ≤ room →
    fitting room place (entry ∷ more) ≡ bytes_of place entry ++ fitting (room - length (bytes_of place entry)) (place + 1) more
fitting-fits room place entry more fits =
    let b = bytes_of place entry in
    ap (λ t. cond t (b ++ fitting (room - length b) (place + 1) more) []) (le-leb (length b) room fits)

-- where the first doesn't fit there is none
pub fitting-full : (room place : ℕ) (entry : HeldEntry) (more : List HeldEntry) → room < length (bytes_of place entry) → fitting room place (entry ∷ more) ≡ []
fitting-full room place entry more full =
    let b = bytes_of place entry in
    ap (λ t. cond t (b ++ fitting (room - length b) (place + 1) more) []) (lt-leb (length b) room full)

-- an answer ends at an entry that doesn't fit
pub push_none : (bytes : List ℕ) (room place : ℕ) (entry : HeldEntry) (more : List HeldEntry) (fits : Bool) →
    ((fits ≡ true) ↔ (length bytes + length (bytes_of place entry) ≤ room)) → fits ≡ false → bytes ++ fitting (room - length bytes) place (entry ∷ more) ≡ bytes
push_none bytes room place entry more fits told differs =
    let some = some_bytes place entry in
    elim (cases_lt room (length bytes + length (bytes_of place entry))) [
      | inl full ↦ ap (λ x. bytes ++ x) (fitting-full (room - length bytes) place entry more (omega arith)) ∙ append-nil bytes
      | inr small ↦ absurd (false≢true (sym differs ∙ told.1 small))
    ]
