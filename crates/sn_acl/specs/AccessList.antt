-- When a list of entries is a valid ACL in canonical order. acl(5), "VALID ACLs".
use Rattle.std.specs.Prelude.{ℕ, Bool, true, ◌≡◌, ◌≤◌, ◌<◌, ◌==◌, ◌&&◌, ◌||◌, List, [], ◌∷◌, nat_le, nat_lt, length, filter}
use Rattle.std.specs.List.{list_all}
use Rattle.sn_acl.specs.declared.entries.Tag.{Tag}
use Rattle.sn_acl.specs.declared.entries.Entry.{Entry}
use Rattle.sn_acl.specs.Entries.{is_user_obj, is_group_obj, is_mask, is_other, is_named, precedes, qualifier_of}

-- how many entries have such a tag
abbrev pub count_of : (Tag → Bool) → List Entry → ℕ
count_of p entries = length (filter (λ e. p e.tag) entries)

-- each entry comes before the next
abbrev pub is_canonical : List Entry → Bool
is_canonical [] = true
is_canonical (e ∷ []) = true
is_canonical (e ∷ f ∷ es) = precedes e.tag f.tag && is_canonical (f ∷ es)

-- exactly one entry each of USER_OBJ, GROUP_OBJ and OTHER
pub record HasObjects (entries : List Entry) : Type 0 where
  pub user_obj : count_of is_user_obj entries ≡ 1
  pub group_obj : count_of is_group_obj entries ≡ 1
  pub other : count_of is_other entries ≡ 1

-- at most 32 entries with a qualifier, exactly one MASK besides them, and at most one without them
pub record HasFittingMask (entries : List Entry) : Type 0 where
  pub most : count_of is_mask entries ≤ 1
  pub beside_named : 0 < count_of is_named entries → count_of is_mask entries ≡ 1
  pub named : count_of is_named entries ≤ 32

-- whether the numbers of an entry are those of a set of rights and of a user or a group
abbrev pub is_entry : Entry → Bool
is_entry e = nat_lt e.permissions 8 && nat_lt (qualifier_of e.tag) 4294967296

-- A valid ACL in canonical order, in which no tag occurs twice.
pub record IsValid (entries : List Entry) : Type 0 where
  pub objects : HasObjects entries
  pub mask : HasFittingMask entries
  pub canonical : is_canonical entries ≡ true
  pub numbers : list_all is_entry entries ≡ true

-- the test of what `IsValid` says
abbrev pub is_acl : List Entry → Bool
is_acl entries = (count_of is_user_obj entries == 1) && (count_of is_group_obj entries == 1) && (count_of is_other entries == 1) && nat_le (count_of is_mask entries) 1 && ((count_of is_named entries == 0) || (count_of is_mask entries == 1)) && nat_le (count_of is_named entries) 32 && is_canonical entries && list_all is_entry entries
