-- What a crash leaves in the sectors that weren't synced, by the way that it fills them.
use Rattle.std.specs.Prelude.{ℕ, ◌*◌, ◌%◌, ◌^◌, ◌==◌, if◌then◌else◌, List, [], ◌∷◌, replicate, Option, Some, None}
use Rattle.rand_core.specs.Stream.{Stream, next_u32, fill_bytes}
use Rattle.rand_core.specs.Steps.{stream_of, steps_u32}
use Rattle.rand_pcg.specs.Lcg.{Lcg, started, advance, increment_of}
use Rattle.rand_pcg.specs.Pcg.{pcg32, multiplier_64}
use Rattle.sn_device.specs.Sectors.{Contents}
use Rattle.sn_device.specs.Disk.{Moment, Disk}
use Rattle.sn_device.specs.declared.fill.Fill.{Fill}
use Rattle.sn_device.specs.declared.fill.Fill.TheVariants.{Old, New, Zero, One, Junk, Seeded}

-- the byte that fills them, if one does
abbrev pub fill_byte : Fill → Option ℕ
fill_byte Old = None
fill_byte New = None
fill_byte Zero = Some 0
fill_byte One = Some 1
fill_byte Junk = Some 165
fill_byte (Seeded seed) = None

-- the generator of a seed, where the words for a sector begin: 129 for each of those before it
abbrev pub generator_of : ℕ → ℕ → Lcg
generator_of seed at = advance 64 multiplier_64 (at * 129 % 2 ^ 64) (started 64 multiplier_64 seed (increment_of 64 0))

-- what it answers from there on
abbrev pub random_of : ℕ → ℕ → Stream
random_of seed at = stream_of (steps_u32 pcg32) (generator_of seed at)

-- one of six ways: as it was at the last sync, as it is, zeros, ones, junk, or these bytes
abbrev pub one_of_six : ℕ → List ℕ → List ℕ → List ℕ → List ℕ
one_of_six way bytes before after =
    if way == 0 then before else if way == 1 then after else
    if way == 2 then replicate 512 0 else if way == 3 then replicate 512 1 else if way == 4 then replicate 512 165 else bytes

-- what a seed leaves in a sector: first the way is drawn, and then the bytes
unfoldable pub drawn : ℕ → ℕ → List ℕ → List ℕ → List ℕ
drawn seed at before after =
    one_of_six ((next_u32 (random_of seed at)).0 % 6) (fill_bytes 512 (next_u32 (random_of seed at)).1).0 before after

-- what a crash leaves in a sector, in which the one was there at the last sync and the other is now
abbrev pub filling : Fill → ℕ → List ℕ → List ℕ → List ℕ
filling Old at before after = before
filling New at before after = after
filling Zero at before after = replicate 512 0
filling One at before after = replicate 512 1
filling Junk at before after = replicate 512 165
filling (Seeded seed) at before after = drawn seed at before after

-- what reads gave at the last moment at which nothing was unsynced, or at the first one
abbrev pub last_synced_of : List ℕ → Contents → List Moment → Contents
last_synced_of [] sectors past = sectors
last_synced_of (at ∷ more) sectors [] = sectors
last_synced_of (at ∷ more) sectors (m ∷ past) = last_synced_of m.unsynced m.sectors past

abbrev pub last_synced : Disk → Contents
last_synced d = last_synced_of d.present.unsynced d.present.sectors d.past
