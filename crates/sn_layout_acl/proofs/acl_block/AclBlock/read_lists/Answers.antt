use Rattle.std.proofs.Common.{◌≡◌, ◌∙◌, ◌+◌, ◌*◌, ◌≤◌, ◌∷◌, ◌++◌, ℕ, List, Option, Some, None, length, length-append, sym, ap, append_assoc, arith}
use Rattle.std.specs.Prelude.{IfSome}
use Rattle.sn_acl.specs.declared.entries.Entry.{Entry}
use Rattle.sn_layout.proofs.Fields.{some_none, some_some, same_cons}
use Rattle.sn_layout_acl.specs.declared.acl_block.AclBlock.{AclBlock}
use Rattle.sn_layout_acl.specs.declared.acl_block.Lists.{Lists}
use Rattle.sn_layout_acl.specs.AclEntry.{entries_bytes}
use Rattle.sn_layout_acl.specs.AclBlock.{AreAcls, acls_bytes, default_entries}
use Rattle.sn_layout_acl.proofs.AclLists.{named_short, named_entries, default_short, default_each}
use Rattle.sn_layout_acl.proofs.EntryLists.{length-entries}
use Rattle.sn_layout_acl.proofs.acl_block.AclBlock.read_lists.Goals as goal
use Rattle.sn_layout_acl.proofs.acl_block.AclBlock.read_lists.Goals.{then-access-gt-NAMED_MAX-via-then-access-gt-NAMED_MAX, then-access-gt-NAMED_MAX-via-else-access-gt-NAMED_MAX+then-default-gt-MAX_ENTRIES, then-access-gt-NAMED_MAX-via-else-access-gt-NAMED_MAX+else-default-gt-MAX_ENTRIES+then-remaining-access}

-- the lists of an ACL block
abbrev lists_of : AclBlock → Lists
lists_of acls = record { access = record { items = acls.access }; default = record { items = default_entries acls.default } }

-- one field after the other
flat : (acls : AclBlock) (rest : List ℕ) → acls_bytes acls ++ rest ≡ length acls.access ∷ (length (default_entries acls.default) ∷ (entries_bytes acls.access ++ (entries_bytes (default_entries acls.default) ++ rest)))
flat acls rest = simp append_assoc

-- the entries are so many bytes
room : (a d : List Entry) (bytes rest : List ℕ) → bytes ≡ entries_bytes a ++ (entries_bytes d ++ rest) → 8 * (length a + length d) + length rest ≡ length bytes
room a d bytes rest e =
    omega (arith, ap length e, length-append (entries_bytes a) (entries_bytes d ++ rest), length-append (entries_bytes d) rest, length-entries a, length-entries d)

-- the numbers that were read are those of the lists that are spelled, which follow them
counts : (acls : AclBlock) (rest old one two : List ℕ) (x y : ℕ) → old ≡ x ∷ one → one ≡ y ∷ two → old ≡ acls_bytes acls ++ rest
    → (length acls.access ≡ x) × (length (default_entries acls.default) ≡ y) × (two ≡ entries_bytes acls.access ++ (entries_bytes (default_entries acls.default) ++ rest))
counts acls rest old one two x y first second e =
    let entries = entries_bytes acls.access ++ (entries_bytes (default_entries acls.default) ++ rest) in
    let access = same_cons (length acls.access) x (length (default_entries acls.default) ∷ entries) one (sym (flat acls rest) ∙ sym e ∙ first) in
    let default = same_cons (length (default_entries acls.default)) y entries two (access.1 ∙ second) in
    (access.0, default.0, sym default.1)

pub returns-then-access-gt-NAMED_MAX-clause-only : goal.returns-then-access-gt-NAMED_MAX-clause-only
returns-then-access-gt-NAMED_MAX-clause-only c = λ acls rest fits e.
    let (access, default, spelled) = counts acls rest c.args.reader.now c.try_u8.new.self c.try_u8-2.new.self c.in_ok-access.field-0 c.in_ok-default.field-0 c.in_ok-access.ensures.found c.in_ok-default.ensures.found e in
    let few : length acls.access ≤ 33 = named_short acls.access fits.access in
    let few-default : length (default_entries acls.default) ≤ 36 = default_short acls.default fits.default in
    let there = room acls.access (default_entries acls.default) c.try_u8-2.new.self rest spelled in
    elim c.then-access-gt-NAMED_MAX.branch [
      | then-access-gt-NAMED_MAX-via-then-access-gt-NAMED_MAX w ↦ absurd (omega arith)
      | then-access-gt-NAMED_MAX-via-else-access-gt-NAMED_MAX+then-default-gt-MAX_ENTRIES w ↦ absurd (omega arith)
      | then-access-gt-NAMED_MAX-via-else-access-gt-NAMED_MAX+else-default-gt-MAX_ENTRIES+then-remaining-access w ↦ absurd (omega arith)
    ]

pub returns-in_err-lists-clause-only : goal.returns-in_err-lists-clause-only
returns-in_err-lists-clause-only c = λ acls rest fits e.
    let (access, default, spelled) = counts acls rest c.args.reader.now c.try_u8.new.self c.try_u8-2.new.self c.in_ok-access.field-0 c.in_ok-default.field-0 c.in_ok-access.ensures.found c.in_ok-default.ensures.found e in
    let both = c.read_both.ensures.only acls.access (default_entries acls.default) rest access default (named_entries acls.access fits.access) (default_each acls.default fits.default) spelled in
    some_none c.read_both.result (lists_of acls) both.0 c.in_err-lists.was

lists_flat : (acls : AclBlock) (a d : List Entry) (old one two left : List ℕ) (x y : ℕ)
    → old ≡ x ∷ one → one ≡ y ∷ two → two ≡ entries_bytes a ++ (entries_bytes d ++ left)
    → length a ≡ x → length d ≡ y → a ≡ acls.access → d ≡ default_entries acls.default
    → old ≡ acls_bytes acls ++ left
lists_flat acls a d old one two left x y e f g first second access default =
    rw (e, f, g, ← first, ← second, access, default) (sym (flat acls left))

found_from : (o : Option AclBlock) (a d : List Entry) (old one two left : List ℕ) (x y : ℕ)
    → old ≡ x ∷ one → one ≡ y ∷ two → two ≡ entries_bytes a ++ (entries_bytes d ++ left)
    → length a ≡ x → length d ≡ y
    → IfSome o (λ acls. AreAcls acls × (a ≡ acls.access) × (d ≡ default_entries acls.default))
    → IfSome o (λ acls. AreAcls acls × (old ≡ acls_bytes acls ++ left))
found_from None a d old one two left x y e f g first second h = tt
found_from (Some acls) a d old one two left x y e f g first second h = (h.0, lists_flat acls a d old one two left x y e f g first second h.1 h.2)

pub returns-clause-found : goal.returns-clause-found
returns-clause-found c =
    found_from c.acls_of.result c.in_ok-lists.lists.access.items c.in_ok-lists.lists.default.items c.args.reader.now c.try_u8.new.self c.try_u8-2.new.self c.read_both.new.reader c.in_ok-access.field-0 c.in_ok-default.field-0 c.in_ok-access.ensures.found c.in_ok-default.ensures.found c.in_ok-lists.ensures.read c.in_ok-lists.ensures.counts.0 c.in_ok-lists.ensures.counts.1 c.acls_of.ensures.found

pub returns-clause-only : goal.returns-clause-only
returns-clause-only c = λ acls rest fits e.
    let (access, default, spelled) = counts acls rest c.args.reader.now c.try_u8.new.self c.try_u8-2.new.self c.in_ok-access.field-0 c.in_ok-default.field-0 c.in_ok-access.ensures.found c.in_ok-default.ensures.found e in
    let both = c.read_both.ensures.only acls.access (default_entries acls.default) rest access default (named_entries acls.access fits.access) (default_each acls.default fits.default) spelled in
    let same = some_some c.read_both.result c.in_ok-lists.lists (lists_of acls) c.in_ok-lists.was both.0 in
    (c.acls_of.ensures.only acls fits (ap (λ (l : Lists). l.access.items) same) (ap (λ (l : Lists). l.default.items) same), both.1)
