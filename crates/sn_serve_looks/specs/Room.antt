-- What is told of the room, and what a server offers.
use Rattle.std.specs.Prelude.{ℕ, ◌-◌, ◌==◌, nat_lt, bit_and, min, Result, Ok, Err, if◌then◌else◌}
use Rattle.sn_fuse_flags.specs.declared.InitFlags.{InitFlags}
use Rattle.sn_fuse_replies.specs.declared.answer.Initialized.{Initialized}
use Rattle.sn_fuse_replies.specs.declared.answer.Statistics.{Statistics}
use Rattle.sn_fuse_replies.specs.declared.errno.Errno.{Errno}
use Rattle.sn_fuse_replies.specs.declared.errno.Errno.TheVariants.{EINVAL}
use Rattle.sn_plan.specs.declared.checker.Checker.{Checker}
use Rattle.sn_plan.specs.declared.checker.Checker.TheVariants.{Server, System}
use Rattle.sn_plan.specs.declared.file_system.Space.{Space}

-- the blocks that are left, less those that a removal may take
abbrev pub free_blocks : Space → ℕ
free_blocks space = space.left - 64

-- How many files there are isn't counted: as many can still be made as there are free blocks, and no more than there can be.
abbrev pub statistics_of : Space → Statistics
statistics_of space = record {
  blocks = space.blocks;
  free = free_blocks space;
  available = free_blocks space;
  files = 65534;
  free_files = min (free_blocks space) 65534;
  block_size = 4096;
  name_length = 255;
  fragment_size = 4096;
}

-- ASYNC_READ, ATOMIC_O_TRUNC, BIG_WRITES, DONT_MASK, HANDLE_KILLPRIV and MAX_PAGES; and POSIX_ACL where the system checks: by the ACLs too then
abbrev pub known : Checker → ℕ
known (Server maps_all) = 0x480069
known System = 0x580069

-- as far as they are offered
abbrev pub taken : Checker → InitFlags → InitFlags
taken checker offered = record { 0 = bit_and offered.0 (known checker) }

-- seven pages in a WRITE, and sixteen in a READ
abbrev pub taken_up : Checker → ℕ → InitFlags → Initialized
taken_up checker readahead offered = record {
  major = 7;
  minor = 31;
  readahead = readahead;
  flags = taken checker offered;
  background = 0;
  congestion = 0;
  write = 28672;
  time_granularity = 1;
  pages = 16;
}

-- the version alone
abbrev pub version : Initialized
version = record {
  major = 7;
  minor = 31;
  readahead = 0;
  flags = record { 0 = 0 };
  background = 0;
  congestion = 0;
  write = 0;
  time_granularity = 0;
  pages = 0;
}

-- a system with a later major version begins again with this one
abbrev pub init : Checker → ℕ → ℕ → InitFlags → Result Initialized Errno
init checker major readahead offered = if nat_lt major 7 then Err EINVAL else (if major == 7 then Ok (taken_up checker readahead offered) else Ok version)
