-- A mode that was set is the mode that is read.
use Rattle.std.proofs.Common.{◌≡◌, ℕ, ◌<◌, Bool, true, false, cond, List, [], ◌∷◌, length, refl, arith, ap, sym, ◌∙◌, Option, Some, None}
use Rattle.std.specs.Prelude.{filter, map, option_map, is_some}
use Rattle.std.specs.Option.{option_or}
use Rattle.sn_acl.specs.declared.entries.Tag.{Tag}
use Rattle.sn_acl.specs.declared.entries.Tag.TheVariants.{UserObj, User, GroupObj, Group, Mask, Other}
use Rattle.sn_acl.specs.declared.entries.Entry.{Entry}
use Rattle.sn_acl.specs.declared.modes.Mode.{Mode}
use Rattle.sn_acl.specs.Access.{entries_of}
use Rattle.sn_acl.specs.Entries.{is_user_obj, is_group_obj, is_mask, is_named, is_other}
use Rattle.sn_acl.specs.Laws.{SetsThreeEntries}
use Rattle.sn_acl.specs.AccessList.{IsValid, count_of}
use Rattle.sn_acl.specs.Modes.{entry_of, entry_under, permissions_under, granted_by, has_mask, mode_of, with_mode}

found-under : (mode : Mode) (masked : Bool) (p : Tag → Bool) (es : List Entry)
    → entry_of p (map (entry_under mode masked) es) ≡ option_map (entry_under mode masked) (entry_of p es)
found-under mode masked p [] = refl
found-under mode masked p (e ∷ es) =
    elim (p e.tag) as (λ b. cond b (Some (entry_under mode masked e)) (entry_of p (map (entry_under mode masked) es)) ≡ option_map (entry_under mode masked) (cond b (Some e) (entry_of p es))) [
      | true ↦ refl
      | false ↦ found-under mode masked p es
    ]

-- an entry that is found passes the test, and one that is counted is found
found : (p : Tag → Bool) (es : List Entry) → 0 < count_of p es → (e : Entry) × (entry_of p es ≡ Some e) × (p e.tag ≡ true)
found p [] = λ counted. absurd (omega arith)
found p (e ∷ es) =
    let split : (b : Bool) → p e.tag ≡ b → 0 < length (cond b (e ∷ filter (λ x. p x.tag) es) (filter (λ x. p x.tag) es))
    → (x : Entry) × (cond b (Some e) (entry_of p es) ≡ Some x) × (p x.tag ≡ true)
    = λ b. elim b as (λ v. p e.tag ≡ v → 0 < length (cond v (e ∷ filter (λ x. p x.tag) es) (filter (λ x. p x.tag) es))
    → (x : Entry) × (cond v (Some e) (entry_of p es) ≡ Some x) × (p x.tag ≡ true)) [
      | true ↦ λ passes counted. (e, refl, passes)
      | false ↦ λ fails counted. found p es counted
    ] in
    split (p e.tag) refl

-- what entries of one kind show once the mode is set
abbrev Shows : Mode → Bool → (Tag → Bool) → ℕ → Type 0
Shows mode masked p bits = (t : Tag) (old : ℕ) → p t ≡ true → permissions_under mode masked t old ≡ bits

shown : (mode : Mode) (masked : Bool) (p : Tag → Bool) (bits : ℕ) → Shows mode masked p bits → (es : List Entry) → 0 < count_of p es
    → granted_by (entry_of p (map (entry_under mode masked) es)) ≡ bits
shown mode masked p bits shows es counted =
    let (e, is, passes) = found p es counted in
    rw (found-under mode masked p es, is) (shows e.tag e.permissions passes)

owner-shows : (mode : Mode) (masked : Bool) → Shows mode masked is_user_obj mode.owner
owner-shows mode masked UserObj = λ old h. refl
owner-shows mode masked (User n) = λ old h. cc
owner-shows mode masked GroupObj = λ old h. cc
owner-shows mode masked (Group n) = λ old h. cc
owner-shows mode masked Mask = λ old h. cc
owner-shows mode masked Other = λ old h. cc

group-shows : (mode : Mode) → Shows mode false is_group_obj mode.group
group-shows mode UserObj = λ old h. cc
group-shows mode (User n) = λ old h. cc
group-shows mode GroupObj = λ old h. refl
group-shows mode (Group n) = λ old h. cc
group-shows mode Mask = λ old h. cc
group-shows mode Other = λ old h. cc

mask-shows : (mode : Mode) (masked : Bool) → Shows mode masked is_mask mode.group
mask-shows mode masked UserObj = λ old h. cc
mask-shows mode masked (User n) = λ old h. cc
mask-shows mode masked GroupObj = λ old h. cc
mask-shows mode masked (Group n) = λ old h. cc
mask-shows mode masked Mask = λ old h. refl
mask-shows mode masked Other = λ old h. cc

other-shows : (mode : Mode) (masked : Bool) → Shows mode masked is_other mode.other
other-shows mode masked UserObj = λ old h. cc
other-shows mode masked (User n) = λ old h. cc
other-shows mode masked GroupObj = λ old h. cc
other-shows mode masked (Group n) = λ old h. cc
other-shows mode masked Mask = λ old h. cc
other-shows mode masked Other = λ old h. refl

-- the entry of a test that finds one passes it
passes : (p : Tag → Bool) (es : List Entry) (e : Entry) → entry_of p es ≡ Some e → p e.tag ≡ true
passes p [] e = λ is. cc
passes p (x ∷ es) e =
    let split : (b : Bool) → p x.tag ≡ b → cond b (Some x) (entry_of p es) ≡ Some e → p e.tag ≡ true
    = λ b. elim b as (λ v. p x.tag ≡ v → cond v (Some x) (entry_of p es) ≡ Some e → p e.tag ≡ true) [
      | true ↦ λ h is. (let same : x ≡ e = cc in ap (λ (y : Entry). p y.tag) (sym same) ∙ h)
      | false ↦ λ h is. passes p es e is
    ] in
    split (p x.tag) refl

group-shown : (mode : Mode) (es : List Entry) → 0 < count_of is_group_obj es → (mask : Option Entry) → entry_of is_mask es ≡ mask
    → granted_by (option_or (option_map (entry_under mode (is_some mask)) mask) (entry_of is_group_obj (map (entry_under mode (is_some mask)) es))) ≡ mode.group
group-shown mode es counted None = λ is. shown mode false is_group_obj mode.group (group-shows mode) es counted
group-shown mode es counted (Some e) = λ is. mask-shows mode true e.tag e.permissions (passes is_mask es e is)

pub mode_of-with_mode : (mode : Mode) (es : List Entry) → IsValid es → mode_of (with_mode mode es) ≡ mode
mode_of-with_mode mode es valid =
    let masked = has_mask es in
    let objects = valid.objects in
    let owner = shown mode (has_mask es) is_user_obj mode.owner (owner-shows mode (has_mask es)) es (omega arith) in
    let other = shown mode (has_mask es) is_other mode.other (other-shows mode (has_mask es)) es (omega arith) in
    let group = group-shown mode es (omega arith) (entry_of is_mask es) refl in
    rw (owner, other, found-under mode (has_mask es) is_mask es, group) refl

-- ---- the entries that are set, and those that stay

mask-set : (mode : Mode) (masked : Bool) (es : List Entry) (mask : Option Entry) → entry_of is_mask es ≡ mask → is_some mask ≡ true
    → granted_by (option_map (entry_under mode masked) mask) ≡ mode.group
mask-set mode masked es None = λ is some. cc
mask-set mode masked es (Some e) = λ is some. mask-shows mode masked e.tag e.permissions (passes is_mask es e is)

group-under : (mode : Mode) (t : Tag) (old : ℕ) → is_group_obj t ≡ true → permissions_under mode true t old ≡ old
group-under mode UserObj old = λ h. cc
group-under mode (User n) old = λ h. cc
group-under mode GroupObj old = λ h. refl
group-under mode (Group n) old = λ h. cc
group-under mode Mask old = λ h. cc
group-under mode Other old = λ h. cc

group-stays : (mode : Mode) (es : List Entry) (group : Option Entry) → entry_of is_group_obj es ≡ group → option_map (entry_under mode true) group ≡ group
group-stays mode es None = λ is. refl
group-stays mode es (Some e) = λ is. ap (with_tag e.tag) (group-under mode e.tag e.permissions (passes is_group_obj es e is))
  where
    with_tag : Tag → ℕ → Option Entry
    with_tag t p = Some (record { tag = t; permissions = p })

named-stay : (mode : Mode) (masked : Bool) (es : List Entry) → entries_of is_named (map (entry_under mode masked) es) ≡ entries_of is_named es
named-stay mode masked [] = refl
named-stay mode masked (e ∷ es) = told e.tag (named-stay mode masked es)
  where
    entry : Tag → ℕ → Entry
    entry t p = record { tag = t; permissions = p }

    told : {xs ys : List Entry} (t : Tag) → xs ≡ ys
        → cond (is_named t) (entry t (permissions_under mode masked t e.permissions) ∷ xs) xs ≡ cond (is_named t) (entry t e.permissions ∷ ys) ys
    told UserObj = λ rest. rest
    told (User n) = λ rest. ap (λ (zs : List Entry). entry (User n) e.permissions ∷ zs) rest
    told GroupObj = λ rest. rest
    told (Group n) = λ rest. ap (λ (zs : List Entry). entry (Group n) e.permissions ∷ zs) rest
    told Mask = λ rest. rest
    told Other = λ rest. rest

pub sets-three : (mode : Mode) (es : List Entry) → IsValid es → SetsThreeEntries mode es
sets-three mode es valid =
    let objects = valid.objects in
    record {
      owner = shown mode (has_mask es) is_user_obj mode.owner (owner-shows mode (has_mask es)) es (omega arith);
      other = shown mode (has_mask es) is_other mode.other (other-shows mode (has_mask es)) es (omega arith);
      mask = λ some. ap granted_by (found-under mode (has_mask es) is_mask es) ∙ mask-set mode (has_mask es) es (entry_of is_mask es) refl some;
      group = λ none. rw none (shown mode false is_group_obj mode.group (group-shows mode) es (omega arith));
      group_stays = λ some. rw some (found-under mode true is_group_obj es ∙ group-stays mode es (entry_of is_group_obj es) refl);
      named_stay = named-stay mode (has_mask es) es;
    }
