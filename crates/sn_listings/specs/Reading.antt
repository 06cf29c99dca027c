-- A listing as it is read by one answer after another.
use Rattle.std.specs.Prelude.{◌≡◌, ℕ, ◌+◌, List, [], ◌∷◌, ◌++◌, drop}
use Rattle.sn_fuse_replies.specs.Listing.{listed_bytes}
use Rattle.sn_listings.specs.Fitting.{bytes_of, fitting, fitting_count}
use Rattle.sn_listings.specs.declared.entry.HeldEntry.{HeldEntry}

-- all entries from a place on
abbrev pub all_bytes : ℕ → List HeldEntry → List ℕ
all_bytes place [] = []
all_bytes place (entry ∷ entries) = bytes_of place entry ++ all_bytes (place + 1) entries

-- the offset that the last entry of an answer tells, which began at this one with so much room; the same where it has no entry
abbrev pub next_offset : ℕ → ℕ → List HeldEntry → ℕ
next_offset room offset listing = offset + fitting_count room offset (drop offset listing)

-- the last entry of these bytes tells this offset
pub record LastTells (bytes : List ℕ) (offset : ℕ) : Type 0 where
  pub front : List ℕ
  pub last : HeldEntry
  pub spelled : bytes ≡ front ++ listed_bytes last.number offset last.kind last.name

-- what answers with these rooms have, of which each begins at the offset that the one before told
abbrev pub read_bytes : List ℕ → ℕ → List HeldEntry → List ℕ
read_bytes [] offset listing = []
read_bytes (room ∷ rooms) offset listing = fitting room offset (drop offset listing) ++ read_bytes rooms (next_offset room offset listing) listing

-- the offset that the last of them tells
abbrev pub offset_after : List ℕ → ℕ → List HeldEntry → ℕ
offset_after [] offset listing = offset
offset_after (room ∷ rooms) offset listing = offset_after rooms (next_offset room offset listing) listing
