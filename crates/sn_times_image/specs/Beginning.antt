-- With which times a mount begins.
use Rattle.std.specs.Prelude.{◌≡◌, ◌⊎◌}
use Rattle.sn_device.specs.Sectors.{Contents}
use Rattle.sn_fuse.specs.declared.operation.Time.{Time}
use Rattle.sn_times.specs.Dates.{Dates, all_forgotten}
use Rattle.sn_times_file.specs.Keeping.{begun}
use Rattle.sn_times_file.specs.Kept.{IsKept, Kept}
use Rattle.sn_times_image.specs.Identity.{identity_of}

-- these were kept with the image as it is
pub record AreOfImage (c : Contents) (kept : Kept) : Type 0 where
  pub fits : IsKept kept
  pub rooted : kept.root ≡ identity_of c

-- A mount begins with times that were kept with the image as it is, or with none.
abbrev pub MayBegin : Contents → Time → Dates → Type 0
MayBegin c now times = ((kept : Kept) × AreOfImage c kept × (times ≡ begun kept.sections now)) ⊎ (times ≡ all_forgotten now)
