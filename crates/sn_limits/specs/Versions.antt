-- The numbers of each version of the format.
use Rattle.std.specs.Prelude.{ℕ, ◌≤◌, Option, Some, None, ◌==◌, if◌then◌else◌}
use Rattle.sn_limits.specs.declared.limits.Limits.{Limits}

-- 65,534 nodes; 65,535 names in a directory; 32,767 names and 64 MiB a file; 20 snapshots
abbrev pub version_1 : Limits
version_1 = record {
  version = 1;
  largest_number = 65535;
  names = 65535;
  links = 32767;
  largest_file = 67108864;
  snapshots = 20;
  largest_bit = 20;
  indirect_levels = 1;
  inode_charge = 8;
  block_charge = 2;
  reserve = 64;
}

-- as many nodes, names of a directory and names of a file; 64 GiB a file, 31 snapshots, and charges for one level of blocks more
abbrev pub version_2 : Limits
version_2 = record version_1 {
  version = 2;
  largest_file = 68719476736;
  snapshots = 31;
  largest_bit = 31;
  indirect_levels = 2;
  inode_charge = 10;
  block_charge = 3;
}

-- the limits of each version that is read
abbrev pub limits_of : ℕ → Option Limits
limits_of version = if version == 1 then Some version_1 else (if version == 2 then Some version_2 else None)

-- those that calls run under, and with which each new root is written
abbrev pub limits_written : Limits
limits_written = version_2

-- What a tree or a list of snapshots may have under the first limits, it may have under the second. Charges don't matter.
pub record Allows (less more : Limits) : Type 0 where
  pub numbers : less.largest_number ≤ more.largest_number
  pub names : less.names ≤ more.names
  pub links : less.links ≤ more.links
  pub files : less.largest_file ≤ more.largest_file
  pub snapshots : less.snapshots ≤ more.snapshots
  pub bits : less.largest_bit ≤ more.largest_bit
