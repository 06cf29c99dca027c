-- With which times a mount begins.
use Rattle.std.proofs.Common.{◌≡◌, inl, inr, ℕ, List, subst}
use Rattle.sn_device.specs.Sectors.{Contents}
use Rattle.sn_fuse.specs.declared.operation.Time.{Time}
use Rattle.sn_times.specs.Dates.{Dates}
use Rattle.sn_times_file.specs.Keeping.{IsRestored}
use Rattle.sn_times_image.specs.Beginning.{MayBegin}
use Rattle.sn_times_image.specs.Identity.{identity_of}

pub restored_along : (a b bytes : List ℕ) (now : Time) → a ≡ b → (times : Dates) → IsRestored a bytes now times → IsRestored b bytes now times
restored_along a b bytes now same times restored = let P : List ℕ → Type 0 = λ (root : List ℕ). IsRestored root bytes now times in subst P same restored

pub begun : (c : Contents) (bytes : List ℕ) (now : Time) (times : Dates) → IsRestored (identity_of c) bytes now times → MayBegin c now times
begun c bytes now times (inl kept) = inl (kept.0, record { fits = kept.1.fits; rooted = kept.1.rooted }, kept.2)
begun c bytes now times (inr none) = inr none.1
