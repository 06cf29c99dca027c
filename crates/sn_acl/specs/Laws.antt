-- What follows from the definitions, in the words of acl(5).
use Rattle.std.specs.Prelude.{ℕ, Bool, true, false, ◌≡◌, ◌<◌, ◌==◌, ◌↔◌, not, if◌then◌else◌, List, Some, None, is_none, filter, length, slice_index_or, ◌≢◌}
use Rattle.std.specs.List.{list_any}
use Rattle.sn_acl.specs.declared.entries.Entry.{Entry}
use Rattle.sn_acl.specs.declared.modes.Mode.{Mode}
use Rattle.sn_acl.specs.Rights.{contains}
use Rattle.sn_acl.specs.Entries.{is_user_obj, is_user, is_group_obj, is_other, is_mask, is_named}
use Rattle.sn_acl.specs.Credential.{Credential, is_member}
use Rattle.sn_acl.specs.Modes.{entry_of, granted_by, has_mask, three_entries, with_mode}
use Rattle.sn_acl.specs.AccessList.{IsValid, is_acl}
use Rattle.sn_acl.specs.Text.{acl_of, acl_text}
use Rattle.sn_acl.specs.Access.{class_of, entries_of, is_held_group, denial_of}

-- whether the ACL has an entry of the caller's uid
abbrev pub has_user : Credential → List Entry → Bool
has_user cred entries = list_any (λ e. is_user cred.uid e.tag) entries

-- whether the ACL has an entry of a group of the caller
abbrev pub has_group : Credential → ℕ → List Entry → Bool
has_group cred group entries = list_any (λ e. is_held_group cred group e.tag) entries

-- The class is that of the owner, of the caller's uid, of the caller's groups or of others: each of the four in
-- a case of its own, and these cases are all.
pub record IsOneClass (cred : Credential) (owner group : ℕ) (entries : List Entry) : Type 0 where
  pub owners : cred.uid ≡ owner → class_of cred owner group entries ≡ record { members = entries_of is_user_obj entries; masked = false }
  pub users : (cred.uid ≡ owner → ⊥) → has_user cred entries ≡ true
      → class_of cred owner group entries ≡ record { members = entries_of (is_user cred.uid) entries; masked = true }
  pub groups : (cred.uid ≡ owner → ⊥) → has_user cred entries ≡ false → has_group cred group entries ≡ true
      → class_of cred owner group entries ≡ record { members = entries_of (is_held_group cred group) entries; masked = true }
  pub others : (cred.uid ≡ owner → ⊥) → has_user cred entries ≡ false → has_group cred group entries ≡ false
      → class_of cred owner group entries ≡ record { members = entries_of is_other entries; masked = false }

-- the three bits of the mode that are for the caller
abbrev pub bits_for : Credential → ℕ → ℕ → Mode → ℕ
bits_for cred owner group mode = if cred.uid == owner then mode.owner else if is_member cred group then mode.group else mode.other

-- without named entries a right is granted by the mode's own bits
abbrev pub IsGrantedByMode : Credential → ℕ → ℕ → Mode → ℕ → Type 0
IsGrantedByMode cred owner group mode want = is_none (denial_of cred owner group (three_entries mode) want) ≡ contains (bits_for cred owner group mode) want

-- the entries but the MASK
abbrev pub unmasked : List Entry → List Entry
unmasked entries = filter (λ e. not (is_mask e.tag)) entries

-- the MASK takes rights away and gives none
abbrev pub IsNarrowedByMask : Credential → ℕ → ℕ → List Entry → ℕ → Type 0
IsNarrowedByMask cred owner group entries want = denial_of cred owner group entries want ≡ None → denial_of cred owner group (unmasked entries) want ≡ None

-- no tag occurs twice, so that no user and no group has two entries
abbrev pub HasDistinctTags : List Entry → Type 0
HasDistinctTags entries = (i j : ℕ) (d : Entry) → i < j → j < length entries → (slice_index_or entries i d).tag ≢ (slice_index_or entries j d).tag

-- the test of an ACL passes exactly the valid ones
abbrev pub TestIsExact : Type 0
TestIsExact = (entries : List Entry) → (is_acl entries ≡ true) ↔ IsValid entries

-- A text spells an ACL exactly where the ACL is valid and the text is its own: each valid ACL has one spelling, and no other text has any.
abbrev pub SpellingIsOne : Type 0
SpellingIsOne = (text : List ℕ) (entries : List Entry) → (acl_of text ≡ Some entries) ↔ (IsValid entries × (text ≡ acl_text entries))

-- To set a mode is to set the entry of the owner, that of others, and the MASK or, where there is none, that of the group; all other entries stay.
pub record SetsThreeEntries (mode : Mode) (entries : List Entry) : Type 0 where
  pub owner : granted_by (entry_of is_user_obj (with_mode mode entries)) ≡ mode.owner
  pub other : granted_by (entry_of is_other (with_mode mode entries)) ≡ mode.other
  pub mask : has_mask entries ≡ true → granted_by (entry_of is_mask (with_mode mode entries)) ≡ mode.group
  pub group : has_mask entries ≡ false → granted_by (entry_of is_group_obj (with_mode mode entries)) ≡ mode.group
  pub group_stays : has_mask entries ≡ true → entry_of is_group_obj (with_mode mode entries) ≡ entry_of is_group_obj entries
  pub named_stay : entries_of is_named (with_mode mode entries) ≡ entries_of is_named entries
