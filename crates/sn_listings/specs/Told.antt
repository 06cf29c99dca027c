-- The model of the open directories in memory.
use Rattle.std.specs.Prelude.{ℕ, Option}
use Rattle.std.specs.Option.{option_map}
use Rattle.slab.specs.Slab.{get}
use Rattle.sn_listings.specs.Held.{Directory}
use Rattle.sn_listings.specs.declared.listings.OpenDirectory.{OpenDirectory}
use Rattle.sn_listings.specs.declared.listings.Listings.{Listings}

abbrev pub directory_of : OpenDirectory → Directory
directory_of d = record { node = d.node; listing = option_map (λ entries. entries.items) d.listing }

abbrev pub directory_at : Listings → ℕ → Option Directory
directory_at l handle = option_map directory_of (get l.directories handle)
