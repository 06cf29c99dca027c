-- What a write does to the disk of a device in memory.
use Rattle.std.proofs.Common.{◌≡◌, ℕ, List, ◌∷◌, ◌++◌, [], slice_set, slice_index_or, reverse, ◌∙◌, ap}
use Rattle.std.proofs.lemmas.List.{set-set, set-get_or, reverse-append}
use Rattle.sn_device.specs.Sectors.{Contents}
use Rattle.sn_device.specs.Disk.{next, written}
use Rattle.sn_device.specs.Undo.{disk_by, moment_by}
use Rattle.sn_device.specs.declared.memory.Entry.{Entry}
use Rattle.sn_device.specs.declared.memory.Entry.TheVariants.{Write}

disk_by-write : (entries : List Entry) (sectors : Contents) (at : ℕ) (bytes before : List ℕ) → before ≡ slice_index_or sectors at before
    → disk_by (Write at before ∷ entries) (slice_set sectors at bytes) ≡ next (disk_by entries sectors) (written at bytes (moment_by entries sectors))
disk_by-write entries sectors at bytes before found =
    let undo : slice_set (slice_set sectors at bytes) at before ≡ sectors =
    set-set sectors at bytes before ∙ ap (λ (b : List ℕ). slice_set sectors at b) found ∙ set-get_or sectors at before in
    ap (λ (s : Contents). record { present = moment_by (Write at before ∷ entries) (slice_set sectors at bytes); past = moment_by entries s ∷ (disk_by entries s).past }) undo

-- a write that notes what it finds, as the newest call
pub disk_by-written : (entries later : List Entry) (sectors : Contents) (at : ℕ) (bytes before : List ℕ) → later ≡ entries ++ Write at before ∷ [] → before ≡ slice_index_or sectors at before
    → disk_by (reverse later) (slice_set sectors at bytes) ≡ next (disk_by (reverse entries) sectors) (written at bytes (moment_by (reverse entries) sectors))
disk_by-written entries later sectors at bytes before noted found =
    ap (λ (es : List Entry). disk_by es (slice_set sectors at bytes)) (ap reverse noted ∙ reverse-append entries (Write at before ∷ []))
    ∙ disk_by-write (reverse entries) sectors at bytes before found
