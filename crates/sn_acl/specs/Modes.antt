-- The nine permission bits of a file and the entries that they show. acl(5), "CORRESPONDENCE BETWEEN ACL ENTRIES
-- AND FILE PERMISSION BITS".
use Rattle.std.specs.Prelude.{ℕ, ◌+◌, ◌*◌, Bool, if◌then◌else◌, List, [], ◌∷◌, Option, is_some, find, map, true, ◌≡◌}
use Rattle.std.specs.Option.{option_or, option_map_or}
use Rattle.sn_acl.specs.declared.entries.Tag.{Tag}
use Rattle.sn_acl.specs.declared.entries.Tag.TheVariants.{UserObj, GroupObj, Mask, Other}
use Rattle.sn_acl.specs.declared.entries.Entry.{Entry}
use Rattle.sn_acl.specs.declared.modes.Mode.{Mode}
use Rattle.sn_acl.specs.Entries.{is_user_obj, is_group_obj, is_mask, is_other}
use Rattle.sn_acl.specs.Rights.{contains, common, without}

-- the ACL of three entries that says the same as the mode
abbrev pub three_entries : Mode → List Entry
three_entries mode =
    record { tag = UserObj; permissions = mode.owner } ∷
    record { tag = GroupObj; permissions = mode.group } ∷
    record { tag = Other; permissions = mode.other } ∷ []

-- the entry with such a tag
abbrev pub entry_of : (Tag → Bool) → List Entry → Option Entry
entry_of p entries = find (λ e. p e.tag) entries

abbrev pub has_mask : List Entry → Bool
has_mask entries = is_some (entry_of is_mask entries)

-- what an entry grants, nothing where there is none
abbrev pub granted_by : Option Entry → ℕ
granted_by found = option_map_or (λ e. e.permissions) found 0

-- The owner bits are USER_OBJ; the group bits are the MASK if there is one, else GROUP_OBJ; the bits of others
-- are OTHER.
abbrev pub mode_of : List Entry → Mode
mode_of entries = record {
  owner = granted_by (entry_of is_user_obj entries);
  group = granted_by (option_or (entry_of is_mask entries) (entry_of is_group_obj entries));
  other = granted_by (entry_of is_other entries);
}

-- what an entry grants once the mode is set, in an ACL with a MASK or without one
abbrev pub permissions_under : Mode → Bool → Tag → ℕ → ℕ
permissions_under mode masked UserObj old = mode.owner
permissions_under mode masked GroupObj old = if masked then old else mode.group
permissions_under mode masked Mask old = mode.group
permissions_under mode masked Other old = mode.other
permissions_under mode masked named old = old

abbrev pub entry_under : Mode → Bool → Entry → Entry
entry_under mode masked e = record { tag = e.tag; permissions = permissions_under mode masked e.tag e.permissions }

-- an ACL after the entries that show the mode were set to it
abbrev pub with_mode : Mode → List Entry → List Entry
with_mode mode entries = map (entry_under mode (has_mask entries)) entries

-- what is in both modes
abbrev pub common_mode : Mode → Mode → Mode
common_mode a b = record { owner = common a.owner b.owner; group = common a.group b.group; other = common a.other b.other }

-- what is in the first mode and not in the second
abbrev pub mode_without : Mode → Mode → Mode
mode_without a b = record { owner = without a.owner b.owner; group = without a.group b.group; other = without a.other b.other }

-- the bits as a number, as stat(2) gives them
abbrev pub mode_bits : Mode → ℕ
mode_bits mode = 64 * mode.owner + 8 * mode.group + mode.other

-- no bit of the first mode is outside the second
pub record IsWithin (a b : Mode) : Type 0 where
  pub owner : contains b.owner a.owner ≡ true
  pub group : contains b.group a.group ≡ true
  pub other : contains b.other a.other ≡ true
