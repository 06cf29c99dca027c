-- Changes that are parted by whether their names are there.
use Rattle.std.proofs.Common.{◌≡◌, ◌⊎◌, inl, inr, ⊎_elim, ℕ, ◌+◌, ◌<◌, ◌≤◌, ◌||◌, Bool, true, if◌then◌else◌, List, [], ◌∷◌, ◌++◌, length, map, take, get_or, None, refl, sym, ap, subst, ◌∙◌, arith}
use Rattle.std.specs.Prelude.{Contains, is_some}
use Rattle.std.proofs.lemmas.List.{get_or-map, length-map, take_more}
use Rattle.std.proofs.lemmas.List.Elements.{Contains-append_left, Contains-push, Contains-push_cases}
use Rattle.sn_layout_node.specs.Directory.{Link, number_of}
use Rattle.sn_image.proofs.ListLemmas.{count-append}
use Rattle.sn_image.specs.Sound.{AreOnce}
use Rattle.sn_dir_change.specs.Changes.{AreLinkChanges, ArePuts, IsChange, is_needed, needed_changes}
use Rattle.sn_dir_change.specs.Standing.{seen}
use Rattle.sn_dir_change.specs.UnderWay.{AreApart, IsUnderWay, AreParted}
use Rattle.sn_dir_change.specs.declared.name_change.NameChange.{NameChange}
use Rattle.sn_dir_change.specs.declared.standing.Sought.{Sought}
use Rattle.sn_dir_change.proofs.ChangeLemmas.{times_joined}
use Rattle.sn_dir_change.proofs.WayLemmas.{all_from}

module _ (names : List Link) (changes standing waiting : List NameChange) (change : NameChange) (parted : AreParted names changes standing waiting) where
  earlier : (c : NameChange) → Contains changes c → Contains (changes ++ change ∷ []) c
  earlier c there = Contains-append_left changes (change ∷ []) c there

  pub parted_stands : is_some (number_of change.name.now names) ≡ true → AreParted names (changes ++ change ∷ []) (standing ++ change ∷ []) waiting
  parted_stands some = record {
    listed = λ c there. ⊎_elim
        (λ (old : Contains changes c). ⊎_elim (λ (stands : Contains standing c). inl (Contains-append_left standing (change ∷ []) c stands)) (λ (other : Contains waiting c ⊎ (number_of c.name.now names ≡ c.number)). inr other) (parted.listed c old))
        (λ (new : change ≡ c). inl (subst (λ (x : NameChange). Contains (standing ++ change ∷ []) x) new (Contains-push standing change)))
        (Contains-push_cases changes change c there);
    stand = λ c there. ⊎_elim
        (λ (old : Contains standing c). let was = parted.stand c old in (was.0, earlier c was.1))
        (λ (new : change ≡ c). subst (λ (x : NameChange). (is_some (number_of x.name.now names) ≡ true) × Contains (changes ++ change ∷ []) x) new (some, Contains-push changes change))
        (Contains-push_cases standing change c there);
    wait = λ c there. let was = parted.wait c there in (was.0, earlier c was.1);
    count = λ name. omega (arith, parted.count name, times_joined name changes (change ∷ []), times_joined name standing (change ∷ []));
  }

  pub parted_waits : number_of change.name.now names ≡ None → AreParted names (changes ++ change ∷ []) standing (waiting ++ change ∷ [])
  parted_waits none = record {
    listed = λ c there. ⊎_elim
        (λ (old : Contains changes c). ⊎_elim (λ (stands : Contains standing c). inl stands)
        (λ (other : Contains waiting c ⊎ (number_of c.name.now names ≡ c.number)). ⊎_elim (λ (waits : Contains waiting c). inr (inl (Contains-append_left waiting (change ∷ []) c waits))) (λ (made : number_of c.name.now names ≡ c.number). inr (inr made)) other)
        (parted.listed c old))
        (λ (new : change ≡ c). inr (inl (subst (λ (x : NameChange). Contains (waiting ++ change ∷ []) x) new (Contains-push waiting change))))
        (Contains-push_cases changes change c there);
    stand = λ c there. let was = parted.stand c there in (was.0, earlier c was.1);
    wait = λ c there. ⊎_elim
        (λ (old : Contains waiting c). let was = parted.wait c old in (was.0, earlier c was.1))
        (λ (new : change ≡ c). subst (λ (x : NameChange). (number_of x.name.now names ≡ None) × Contains (changes ++ change ∷ []) x) new (none, Contains-push changes change))
        (Contains-push_cases waiting change c there);
    count = λ name. omega (arith, parted.count name, times_joined name changes (change ∷ []), times_joined name waiting (change ∷ []));
  }

  pub parted_nothing : number_of change.name.now names ≡ change.number → AreParted names (changes ++ change ∷ []) standing waiting
  parted_nothing made = record {
    listed = λ c there. ⊎_elim
        (λ (old : Contains changes c). parted.listed c old)
        (λ (new : change ≡ c). inr (inr (subst (λ (x : NameChange). number_of x.name.now names ≡ x.number) new made)))
        (Contains-push_cases changes change c there);
    stand = λ c there. let was = parted.stand c there in (was.0, earlier c was.1);
    wait = λ c there. let was = parted.wait c there in (was.0, earlier c was.1);
    count = λ name. omega (arith, parted.count name, times_joined name changes (change ∷ []));
  }

pub parted_way : (names : List Link) (changes standing waiting : List NameChange) → AreParted names changes standing waiting → AreApart changes → AreOnce names → IsUnderWay changes standing waiting [] names names
parted_way names changes standing waiting parted apart once = record {
  listed = parted.listed;
  others = λ name none. refl;
  once = once;
  apart = apart;
  stand = λ c there. (parted.stand c there).0;
  behind = all_from (λ (c : NameChange). number_of c.name.now [] ≡ None) standing (λ c there. refl);
  stand_apart = λ name. omega (arith, apart name, parted.count name);
  stand_listed = λ c there. (parted.stand c there).1;
  wait = all_from (λ (c : NameChange). number_of c.name.now names ≡ None) waiting (λ c there. (parted.wait c there).0);
  wait_apart = λ name. omega (arith, apart name, parted.count name);
  wait_listed = λ c there. (parted.wait c there).1;
}

-- one more of those that are changes of links
pub link_change_more : (list : List NameChange) (change : NameChange) → AreLinkChanges list → IsChange change → AreLinkChanges (list ++ change ∷ [])
link_change_more list change all is c there = ⊎_elim
    (λ (old : Contains list c). all c old)
    (λ (new : change ≡ c). subst IsChange new is)
    (Contains-push_cases list change c there)

-- one more of those after which a name is to be there
pub puts_more : (list : List NameChange) (change : NameChange) → ArePuts list → is_some change.number ≡ true → ArePuts (list ++ change ∷ [])
puts_more list change all is c there = ⊎_elim
    (λ (old : Contains list c). all c old)
    (λ (new : change ≡ c). subst (λ (x : NameChange). is_some x.number ≡ true) new is)
    (Contains-push_cases list change c there)

-- one of the changes that were looked for
module _ (names : List Link) (changes : List NameChange) (list : List Sought) (all : list ≡ map (seen names) changes) (i : ℕ) (d : Sought) (within : i < length list) where
  within_changes : i < length changes
  within_changes = omega (arith, within, ap (λ (xs : List Sought). length xs) all, length-map changes (seen names))

  it-is : get_or list i d ≡ seen names (get_or changes i d.change)
  it-is = ap (λ (xs : List Sought). get_or xs i d) all ∙ get_or-map (seen names) changes i d.change d within_changes

  pub sought_more : take (i + 1) changes ≡ take i changes ++ (get_or list i d).change ∷ []
  sought_more = take_more changes i d.change within_changes ∙ ap (λ (s : Sought). take i changes ++ s.change ∷ []) (sym it-is)

  pub sought_stands : (get_or list i d).stands ≡ is_some (number_of (get_or list i d).change.name.now names)
  sought_stands = ap (λ (s : Sought). s.stands) it-is ∙ ap (λ (s : Sought). is_some (number_of s.change.name.now names)) (sym it-is)

-- and one more of those that do something
pub needed_more : (names : List Link) (taken : List NameChange) (change : NameChange) (stands : Bool) (before after : ℕ) → stands ≡ is_some (number_of change.name.now names)
    → before ≤ needed_changes names taken → after ≤ before + (if is_some change.number || stands then 1 else 0) → after ≤ needed_changes names (taken ++ change ∷ [])
needed_more names taken change stands before after is most more =
    let all = count-append (is_needed names) taken (change ∷ []) in
    let last : needed_changes names (change ∷ []) ≡ 0 + (if is_some change.number || stands then 1 else 0) = ap (λ (b : Bool). 0 + (if is_some change.number || b then 1 else 0)) (sym is) in
    omega (arith, most, more, all, last)
