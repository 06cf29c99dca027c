-- Setting a mode keeps an ACL valid.
use Rattle.std.proofs.Common.{◌≡◌, ℕ, ◌<◌, Bool, true, false, cond, List, [], ◌∷◌, length, refl, arith, ap, ◌∙◌, lt-ltb}
use Rattle.std.specs.Prelude.{◌&&◌, filter, map, nat_lt}
use Rattle.std.specs.List.{list_all}
use Rattle.sn_acl.specs.declared.entries.Tag.{Tag}
use Rattle.sn_acl.specs.declared.entries.Tag.TheVariants.{UserObj, User, GroupObj, Group, Mask, Other}
use Rattle.sn_acl.specs.declared.entries.Entry.{Entry}
use Rattle.sn_acl.specs.declared.modes.Mode.{Mode}
use Rattle.sn_acl.specs.Entries.{is_user_obj, is_group_obj, is_mask, is_other, is_named, precedes, qualifier_of}
use Rattle.sn_acl.specs.AccessList.{IsValid, count_of, is_canonical, is_entry}
use Rattle.sn_acl.specs.Modes.{entry_under, permissions_under, with_mode, has_mask}

pub count-under : (mode : Mode) (masked : Bool) (p : Tag → Bool) (es : List Entry) → count_of p (map (entry_under mode masked) es) ≡ count_of p es
count-under mode masked p [] = refl
count-under mode masked p (e ∷ es) =
    let rest = count-under mode masked p es in
    elim (p e.tag) as (λ b. length (cond b (entry_under mode masked e ∷ filter (λ x. p x.tag) (map (entry_under mode masked) es)) (filter (λ x. p x.tag) (map (entry_under mode masked) es)))
    ≡ length (cond b (e ∷ filter (λ x. p x.tag) es) (filter (λ x. p x.tag) es))) [
      | true ↦ omega (arith, rest)
      | false ↦ rest
    ]

canonical-under : (mode : Mode) (masked : Bool) (es : List Entry) → is_canonical (map (entry_under mode masked) es) ≡ is_canonical es
canonical-under mode masked [] = refl
canonical-under mode masked (e ∷ []) = refl
canonical-under mode masked (e ∷ f ∷ es) = ap (λ b. precedes e.tag f.tag && b) (canonical-under mode masked (f ∷ es))

-- a mode of three sets of rights
pub record IsMode (mode : Mode) : Type 0 where
  pub owner : mode.owner < 8
  pub group : mode.group < 8
  pub other : mode.other < 8

within-under : (mode : Mode) (masked : Bool) (t : Tag) (old : ℕ) → IsMode mode → nat_lt old 8 ≡ true → nat_lt (permissions_under mode masked t old) 8 ≡ true
within-under mode masked UserObj old = λ fits here. lt-ltb _ _ fits.owner
within-under mode masked (User n) old = λ fits here. here
within-under mode true GroupObj old = λ fits here. here
within-under mode false GroupObj old = λ fits here. lt-ltb _ _ fits.group
within-under mode masked (Group n) old = λ fits here. here
within-under mode masked Mask old = λ fits here. lt-ltb _ _ fits.group
within-under mode masked Other old = λ fits here. lt-ltb _ _ fits.other

pub both : (a b : Bool) → (a && b) ≡ true → (a ≡ true) × (b ≡ true)
both true b = λ h. (refl, h)
both false b = λ h. cc

entry-within : (mode : Mode) (masked : Bool) (e : Entry) → IsMode mode → is_entry e ≡ true → is_entry (entry_under mode masked e) ≡ true
entry-within mode masked e fits numbers =
    let parts = both (nat_lt e.permissions 8) (nat_lt (qualifier_of e.tag) 4294967296) numbers in
    rw (within-under mode masked e.tag e.permissions fits parts.0) parts.1

all-within : (mode : Mode) (masked : Bool) (es : List Entry) → IsMode mode → list_all is_entry es ≡ true
    → list_all is_entry (map (entry_under mode masked) es) ≡ true
all-within mode masked [] = λ fits all. refl
all-within mode masked (e ∷ es) = λ fits all.
    let parts = both (is_entry e) (list_all is_entry es) all in
    let here = entry-within mode masked e fits parts.0 in
    rw here (all-within mode masked es fits parts.1)

pub valid-with_mode : (mode : Mode) (es : List Entry) → IsMode mode → IsValid es → IsValid (with_mode mode es)
valid-with_mode mode es fits valid =
    let masked = has_mask es in
    let count = λ (p : Tag → Bool). count-under mode (has_mask es) p es in
    record {
      objects = record {
        user_obj = count is_user_obj ∙ valid.objects.user_obj;
        group_obj = count is_group_obj ∙ valid.objects.group_obj;
        other = count is_other ∙ valid.objects.other;
      };
      mask = record {
        most = omega (arith, count is_mask, valid.mask.most);
        beside_named = λ some. count is_mask ∙ valid.mask.beside_named (omega (arith, count is_named));
        named = omega (arith, count is_named, valid.mask.named);
      };
      canonical = canonical-under mode (has_mask es) es ∙ valid.canonical;
      numbers = all-within mode (has_mask es) es fits valid.numbers;
    }
