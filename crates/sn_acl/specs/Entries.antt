-- What an entry is for. acl(5), "ACL TYPES" and "ACL ENTRIES".
use Rattle.std.specs.Prelude.{ℕ, Bool, true, false, ◌==◌, ◌&&◌, ◌||◌, nat_lt}
use Rattle.sn_acl.specs.declared.entries.Tag.{Tag}
use Rattle.sn_acl.specs.declared.entries.Tag.TheVariants.{UserObj, User, GroupObj, Group, Mask, Other}

abbrev pub is_user_obj : Tag → Bool
is_user_obj UserObj = true
is_user_obj _ = false

-- the entry of the user with this uid
abbrev pub is_user : ℕ → Tag → Bool
is_user uid (User n) = n == uid
is_user uid _ = false

abbrev pub is_group_obj : Tag → Bool
is_group_obj GroupObj = true
is_group_obj _ = false

abbrev pub is_mask : Tag → Bool
is_mask Mask = true
is_mask _ = false

abbrev pub is_other : Tag → Bool
is_other Other = true
is_other _ = false

-- the entry of a user or a group with a qualifier
abbrev pub is_named : Tag → Bool
is_named (User _) = true
is_named (Group _) = true
is_named _ = false

-- the position of entries of this kind in canonical order: the owner, users, the group, groups, the mask, others
abbrev pub rank_of : Tag → ℕ
rank_of UserObj = 0
rank_of (User _) = 1
rank_of GroupObj = 2
rank_of (Group _) = 3
rank_of Mask = 4
rank_of Other = 5

-- the user or group number, 0 where the tag has none
abbrev pub qualifier_of : Tag → ℕ
qualifier_of (User n) = n
qualifier_of (Group n) = n
qualifier_of _ = 0

-- canonical order: by kind, then by qualifier
abbrev pub precedes : Tag → Tag → Bool
precedes a b = nat_lt (rank_of a) (rank_of b) || (rank_of a == rank_of b && nat_lt (qualifier_of a) (qualifier_of b))
