use Rattle.std.proofs.Common.{◌≡◌, ◌≤◌, ◌∙◌, ◌+◌, ◌-◌, [], ◌++◌, ℕ, List, length, take, drop, get_or, sym, ap, subst, arith}
use Rattle.sn_acl.specs.declared.entries.Entry.{Entry}
use Rattle.sn_acl.specs.declared.modes.Mode.{Mode}
use Rattle.sn_acl.specs.AccessList.{IsValid}
use Rattle.sn_layout_acl.specs.AclBlock.{users_in, joined}
use Rattle.sn_layout_acl.proofs.AclLists.{valid_short, named_short}
use Rattle.sn_layout_acl.proofs.Joining.{parts_of, joined_parts, named_valid}
use Rattle.sn_layout_acl.proofs.acl_block.AclParts.of.Goals as goal

short : (es acl : List Entry) (count : ℕ) → es ≡ acl → IsValid acl → count ≡ users_in (take (length es - 1) (drop 1 es)) → 2 + count ≤ length es - 1
short es acl count same valid e =
    let (users, others, owner, group, other, s, p) = parts_of es acl count same valid e in
    omega (arith, p.long, p.counted)

-- the entries between the first and the last, but for the one after the users
gathered : (es users others before named : List Entry) (count : ℕ) → take (1 + count - 1) (drop 1 es) ≡ users → take (length es - 1 - (2 + count)) (drop (2 + count) es) ≡ others
    → before ≡ [] ++ take (1 + count - 1) (drop 1 es) → named ≡ before ++ take (length es - 1 - (2 + count)) (drop (2 + count) es) → named ≡ users ++ others
gathered es users others before named count front back first second = second ∙ ap (λ (r : List Entry). r ++ take (length es - 1 - (2 + count)) (drop (2 + count) es)) (first ∙ front) ∙ ap (λ (r : List Entry). users ++ r) back

pub bounds-entries-users : goal.bounds-entries-users
bounds-entries-users c =
    let room = short c.entries-entries.result.now c.args.acl.now c.users_in-users.result c.entries-entries.ensures.value c.entries-entries.ensures.valid c.users_in-users.ensures.count in
    omega arith

pub bounds-entries-users-2 : goal.bounds-entries-users-2
bounds-entries-users-2 c = bounds-entries-users c

pub push_all-requires : goal.push_all-requires
push_all-requires c =
    let (users, others, owner, group, other, s, p) = parts_of c.entries-entries.result.now c.args.acl.now c.users_in-users.result c.entries-entries.ensures.value c.entries-entries.ensures.valid c.users_in-users.ensures.count in
    omega (arith, p.long, ap length p.front, ap length c.new-named.ensures, ap length c.entries-entries.ensures.value, valid_short c.args.acl.now c.entries-entries.ensures.valid)

pub slice_bounds-push_all-count-2 : goal.slice_bounds-push_all-count-2
slice_bounds-push_all-count-2 c =
    short c.entries-entries.result.now c.args.acl.now c.users_in-users.result c.entries-entries.ensures.value c.entries-entries.ensures.valid c.users_in-users.ensures.count

pub slice_bounds-push_all-start-2 : goal.slice_bounds-push_all-start-2
slice_bounds-push_all-start-2 c =
    let room = short c.entries-entries.result.now c.args.acl.now c.users_in-users.result c.entries-entries.ensures.value c.entries-entries.ensures.valid c.users_in-users.ensures.count in
    omega arith

pub push_all-requires-2 : goal.push_all-requires-2
push_all-requires-2 c =
    let (users, others, owner, group, other, s, p) = parts_of c.entries-entries.result.now c.args.acl.now c.users_in-users.result c.entries-entries.ensures.value c.entries-entries.ensures.valid c.users_in-users.ensures.count in
    let before : c.push_all.new.list.items ≡ users = c.push_all.ensures ∙ ap (λ (r : List Entry). r ++ take (1 + c.users_in-users.result - 1) (drop 1 c.entries-entries.result.now)) c.new-named.ensures ∙ p.front in
    omega (arith, p.long, ap length before, ap length p.back, ap length c.entries-entries.ensures.value, valid_short c.args.acl.now c.entries-entries.ensures.valid)

pub returns : goal.returns
returns c =
    let es = c.entries-entries.result.now in
    let named = c.push_all-2.new.list.items in
    let (users, others, owner, group, other, s, p) = parts_of es c.args.acl.now c.users_in-users.result c.entries-entries.ensures.value c.entries-entries.ensures.valid c.users_in-users.ensures.count in
    let empty = c.push_all.ensures ∙ ap (λ (r : List Entry). r ++ take (1 + c.users_in-users.result - 1) (drop 1 es)) c.new-named.ensures in
    let all = gathered es users others c.push_all.new.list.items named c.users_in-users.result p.front p.back empty c.push_all-2.ensures in
    sym c.entries-entries.ensures.value ∙ s.whole ∙ sym (joined_parts users others owner group other s.each s.begins)
    ∙ ap (λ (r : List Entry). joined (record { owner = owner; group = group; other = other }) r) (sym all)
    ∙ ap (λ (e : Entry). joined (record { owner = e.permissions; group = group; other = other }) named) (sym (p.first c.index-entries-0.result))
    ∙ ap (λ (e : Entry). joined (record { owner = (get_or es 0 c.index-entries-0.result).permissions; group = e.permissions; other = other }) named) (sym (p.middle c.index-entries-users.result))
    ∙ ap (λ (e : Entry). joined (record { owner = (get_or es 0 c.index-entries-0.result).permissions; group = (get_or es (1 + c.users_in-users.result) c.index-entries-users.result).permissions; other = e.permissions }) named) (sym (p.last c.index-entries-last.result))

pub invariant_of-result : goal.invariant_of-result
invariant_of-result c =
    let es = c.entries-entries.result.now in
    let named = c.push_all-2.new.list.items in
    let (users, others, owner, group, other, s, p) = parts_of es c.args.acl.now c.users_in-users.result c.entries-entries.ensures.value c.entries-entries.ensures.valid c.users_in-users.ensures.count in
    let empty = c.push_all.ensures ∙ ap (λ (r : List Entry). r ++ take (1 + c.users_in-users.result - 1) (drop 1 es)) c.new-named.ensures in
    let all = gathered es users others c.push_all.new.list.items named c.users_in-users.result p.front p.back empty c.push_all-2.ensures in
    let mode : Mode = record { owner = owner; group = group; other = other } in
    let same : c.args.acl.now ≡ joined mode named = sym c.entries-entries.ensures.value ∙ s.whole ∙ sym (joined_parts users others owner group other s.each s.begins) ∙ ap (joined mode) (sym all) in
    let part = named_valid mode named (subst IsValid same c.entries-entries.ensures.valid) in
    (part, named_short named part)
