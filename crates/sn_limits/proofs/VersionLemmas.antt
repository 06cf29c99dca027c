-- The numbers of all versions.
use Rattle.std.proofs.Common.{◌≡◌, ℕ, ◌^◌, ◌<◌, ◌≤◌, Bool, true, false, cond, ◌==◌, Some, None, refl, subst, arith}
use Rattle.sn_limits.specs.declared.limits.Limits.{Limits}
use Rattle.sn_limits.specs.Versions.{Allows, limits_of, limits_written, version_1, version_2}

same_some : {A : Type 0} (x y : A) → Some x ≡ Some y → x ≡ y
same_some x y e = cc

-- what holds for each version holds for the limits of any version that is read
pub each_version : (P : Limits → Type 0) → P version_1 → P version_2 → (version : ℕ) (limits : Limits) → limits_of version ≡ Some limits → P limits
each_version P one two version limits e = told (version == 1) (version == 2) e
  where
    told : (a b : Bool) → cond a (Some version_1) (cond b (Some version_2) None) ≡ Some limits → P limits
    told true b is = subst P (same_some version_1 limits is) one
    told false true is = subst P (same_some version_2 limits is) two
    told false false is = absurd cc

pub written_allows : (version : ℕ) (limits : Limits) → limits_of version ≡ Some limits → Allows limits limits_written
written_allows = each_version (λ l. Allows l limits_written)
    (record { numbers = omega arith; names = omega arith; links = omega arith; files = omega arith; snapshots = omega arith; bits = omega arith })
    (record { numbers = omega arith; names = omega arith; links = omega arith; files = omega arith; snapshots = omega arith; bits = omega arith })

-- the first version allows no more than each other
pub first_allowed : (version : ℕ) (limits : Limits) → limits_of version ≡ Some limits → Allows version_1 limits
first_allowed = each_version (λ l. Allows version_1 l)
    (record { numbers = omega arith; names = omega arith; links = omega arith; files = omega arith; snapshots = omega arith; bits = omega arith })
    (record { numbers = omega arith; names = omega arith; links = omega arith; files = omega arith; snapshots = omega arith; bits = omega arith })

-- the written version has its own limits
pub written_known : (limits : Limits) → limits_of limits.version ≡ Some limits → limits.version ≡ limits_written.version → limits ≡ limits_written
written_known limits = each_version (λ l. l.version ≡ limits_written.version → l ≡ limits_written) (λ (never : 1 ≡ 2). absurd (omega (arith, never))) (λ _. refl) limits.version limits

-- What no version changes, and how far each may go: no file is larger than what 16 pointers to three levels of blocks lead to, and no root body has
-- room for more than 31 snapshots, nor a map word for more than 31 bits beside that of the live file system.
pub record AreFixed (limits : Limits) : Type 0 where
  pub number : limits.largest_number ≡ 65535
  pub names : limits.names ≡ 65535
  pub links : limits.links ≡ 32767
  pub files : limits.largest_file ≤ 68719476736
  pub least : 67108864 ≤ limits.largest_file
  pub snapshots : limits.snapshots ≤ 31
  pub bits : limits.largest_bit ≤ 31
  pub version : limits.version < 256 ^ 4
  pub inode_charge : limits.inode_charge ≤ 10
  pub block_charge : limits.block_charge ≤ 3
  pub reserve : limits.reserve ≡ 64

pub fixed : (version : ℕ) (limits : Limits) → limits_of version ≡ Some limits → AreFixed limits
fixed = each_version AreFixed
    (record {
      number = refl;
      names = refl;
      links = refl;
      files = omega arith;
      least = omega arith;
      snapshots = omega arith;
      bits = omega arith;
      version = omega arith;
      inode_charge = omega arith;
      block_charge = omega arith;
      reserve = refl;
    })
    (record {
      number = refl;
      names = refl;
      links = refl;
      files = omega arith;
      least = omega arith;
      snapshots = omega arith;
      bits = omega arith;
      version = omega arith;
      inode_charge = omega arith;
      block_charge = omega arith;
      reserve = refl;
    })
