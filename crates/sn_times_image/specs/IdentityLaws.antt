-- Laws of the identity of an image.
use Rattle.std.specs.Prelude.{◌≡◌, ◌≢◌, ◌⊎◌, ℕ, ◌*◌, List}
use Rattle.sha2.specs.Sha256.{sha256}
use Rattle.sn_device.specs.Sectors.{Contents, AreSectors}
use Rattle.sn_layout.specs.Geometry.{IsDiskSize, start_of}
use Rattle.sn_layout.specs.declared.geometry.Area.TheVariants.{Log}
use Rattle.sn_layout.specs.declared.geometry.LogHalf.{LogHalf}
use Rattle.sn_layout.specs.declared.geometry.Slot.{Slot}
use Rattle.sn_layout.specs.declared.root.RootBody.{RootBody}
use Rattle.sn_ondisk.specs.Gates.{IsClosed, IsOpen}
use Rattle.sn_ondisk.specs.Roots.{IsNewest}
use Rattle.sn_times_image.specs.Identity.{blocks_of, body_of, first_gate_of, gates_of, identity_of, marks_of}

-- whole sectors, and as many as an image can have
pub record IsOfImageSize (c : Contents) : Type 0 where
  pub whole : AreSectors c
  pub size : IsDiskSize (blocks_of c)

-- the same roots, gates of the roots, and first gates of the halves of the log
pub record HasSameMarks (c d : Contents) : Type 0 where
  pub bodies : (slot : Slot) → body_of slot d ≡ body_of slot c
  pub gates : gates_of d ≡ gates_of c
  pub first_gates : (half : LogHalf) → first_gate_of half d ≡ first_gate_of half c

-- the digest doesn't tell these messages apart
pub record Collide (a b : List ℕ) : Type 0 where
  pub differ : a ≢ b
  pub digest : sha256 a ≡ sha256 b

-- Two disks with the same roots, gates and first gates have one identity.
abbrev pub SameMarksHaveOneIdentity : Type 0
SameMarksHaveOneIdentity = (c d : Contents) → HasSameMarks c d → identity_of c ≡ identity_of d

-- Two disks of one identity have the same roots, gates and first gates, or the digest doesn't tell these apart.
abbrev pub OneIdentityHasSameMarks : Type 0
OneIdentityHasSameMarks = (c d : Contents) → IsOfImageSize c → IsOfImageSize d → identity_of c ≡ identity_of d → HasSameMarks c d ⊎ Collide (marks_of c) (marks_of d)

-- Two disks with the same roots, gates and first gates have the same newest root.
abbrev pub SameMarksHaveOneRoot : Type 0
SameMarksHaveOneRoot = (c d : Contents) (slot : Slot) (root : RootBody) → IsOfImageSize c → IsOfImageSize d → HasSameMarks c d → IsNewest c slot root → IsNewest d slot root

-- Where a point left another newest root, the digest is of another message.
abbrev pub PointsAreTold : Type 0
PointsAreTold = (c d : Contents) (slot place : Slot) (root next : RootBody) → IsOfImageSize c → IsOfImageSize d → IsNewest c slot root → IsNewest d place next → root ≢ next
    → marks_of c ≢ marks_of d

-- the sector of the first gate of a half
abbrev pub first_gate_sector : LogHalf → Contents → ℕ
first_gate_sector half c = 8 * start_of (blocks_of c) (Log half)

-- So it is where the first record of a half was added.
abbrev pub FirstRecordsAreTold : Type 0
FirstRecordsAreTold = (c d : Contents) (half : LogHalf) → IsOfImageSize c → IsOfImageSize d → IsClosed c (first_gate_sector half c) → IsOpen d (first_gate_sector half d)
    → marks_of c ≢ marks_of d
