-- What one answer has of a listing.
use Rattle.std.specs.Prelude.{ℕ, suc, ◌+◌, ◌-◌, nat_le, List, [], ◌∷◌, ◌++◌, length, if◌then◌else◌}
use Rattle.sn_fuse_replies.specs.Listing.{listed_bytes}
use Rattle.sn_listings.specs.declared.entry.HeldEntry.{HeldEntry}

-- an entry at a place, which tells the next place as the offset after it
unfoldable pub bytes_of : ℕ → HeldEntry → List ℕ
bytes_of place entry = listed_bytes entry.number (place + 1) entry.kind entry.name

-- the entries from a place on, up to the first that doesn't fit in so much room
abbrev pub fitting : ℕ → ℕ → List HeldEntry → List ℕ
fitting room place [] = []
fitting room place (entry ∷ entries) =
    if nat_le (length (bytes_of place entry)) room then bytes_of place entry ++ fitting (room - length (bytes_of place entry)) (place + 1) entries else []

-- how many they are
abbrev pub fitting_count : ℕ → ℕ → List HeldEntry → ℕ
fitting_count room place [] = 0
fitting_count room place (entry ∷ entries) =
    if nat_le (length (bytes_of place entry)) room then suc (fitting_count (room - length (bytes_of place entry)) (place + 1) entries) else 0
