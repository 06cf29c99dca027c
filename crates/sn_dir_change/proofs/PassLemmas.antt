-- The changes of one block, one after the other.
use Rattle.std.proofs.Common.{◌≡◌, ◌≢◌, inr, ⊎_elim, ℕ, suc, ◌+◌, ◌<◌, true, false, List, [], ◌∷◌, ◌++◌, length, take, drop, get_or, Option, Some, None, refl, sym, ap, subst, ◌∙◌, arith}
use Rattle.std.specs.Prelude.{Contains, is_some}
use Rattle.std.specs.List.{AllByRecursion}
use Rattle.std.proofs.lemmas.List.Concat.{flat_map-append}
use Rattle.std.proofs.lemmas.List.{length-append, take_at, length-take-le, take_more}
use Rattle.std.proofs.lemmas.List.Elements.{All-contains, All-push, Contains-append_left, Contains-append_cases, Contains-push_cases}
use Rattle.sn_layout_node.specs.Directory.{Link, IsLink, AreLinks, link_bytes, links_bytes, number_of, without}
use Rattle.sn_dir_change.specs.Changes.{link_for, numbered, AreLinkChanges}
use Rattle.sn_dir_change.specs.UnderWay.{AreFull, AreGone, IsLinkFrom, IsUnderWay}
use Rattle.sn_dir_change.specs.declared.name_change.NameChange.{NameChange}
use Rattle.sn_dir_change.proofs.NameLemmas.{or_else, or_none, number-append, number-without, number-unnumbered}
use Rattle.sn_dir_change.proofs.ChangeLemmas.{split_at, other_change, rest_there}
use Rattle.sn_dir_change.proofs.WayLemmas.{all_from, amended_set, put_set, amended_way, put_way}

pub number-beside : (name other : List ℕ) (number : Option ℕ) (here : List Link) → other ≢ name → number_of other (here ++ numbered name number) ≡ number_of other here
number-beside name other number here apart =
    number-append other here (numbered name number) ∙ ap (λ (o : Option ℕ). or_else (number_of other here) o) (number-unnumbered name other apart number) ∙ or_none (number_of other here)

-- ---- links of lists that are joined

each_parts : (xs ys : List Link) → AllByRecursion IsLink (xs ++ ys) → AllByRecursion IsLink xs × AllByRecursion IsLink ys
each_parts [] ys all = (tt, all)
each_parts (x ∷ xs) ys all = let rest = each_parts xs ys all.1 in ((all.0, rest.0), rest.1)

each_joined : (xs ys : List Link) → AllByRecursion IsLink xs → AllByRecursion IsLink ys → AllByRecursion IsLink (xs ++ ys)
each_joined [] ys left right = right
each_joined (x ∷ xs) ys left right = (left.0, each_joined xs ys left.1 right)

pub length-bytes : (xs ys : List Link) → length (links_bytes (xs ++ ys)) ≡ length (links_bytes xs) + length (links_bytes ys)
length-bytes xs ys = ap (λ (bs : List ℕ). length bs) (flat_map-append link_bytes xs ys) ∙ length-append (links_bytes xs) (links_bytes ys)

abbrev gone_in : List Link → NameChange → Type 0
gone_in links change = number_of change.name.now links ≡ None

module _ (list : List NameChange) (k : ℕ) (change : NameChange) (within : k < length list) (is : change ≡ get_or list k change) where
  abbrev ahead : List NameChange
  ahead = take k list

  abbrev behind : List NameChange
  behind = drop (suc k) list

  split : list ≡ ahead ++ change ∷ behind
  split = split_at list k change within ∙ ap (λ (c : NameChange). ahead ++ c ∷ behind) (sym is)

  first_again : take k (ahead ++ behind) ≡ take k list
  first_again = take_at ahead behind k (length-take-le k list (omega (arith, within)))

  pub is_listed : Contains list change
  is_listed = (k, within, sym is)

  pub one_fewer : length (ahead ++ behind) + 1 ≡ length list
  one_fewer = omega (arith, ap (λ (xs : List NameChange). length xs) split, length-append ahead (change ∷ behind), length-append ahead behind)

  pub rest_changes : AreLinkChanges list → AreLinkChanges (ahead ++ behind)
  rest_changes all c there = all c (subst (λ (xs : List NameChange). Contains xs c) (sym split) (rest_there ahead behind change c there))

  module _ (changes others : List NameChange) (front here new back old : List Link) where
    -- a name that is in the block
    pub amend_one : is_some (number_of change.name.now here) ≡ true → new ≡ without change.name.now here ++ link_for change
        → IsUnderWay changes list others front (front ++ here ++ back) old × AreGone (take k list) here
        → IsUnderWay changes (ahead ++ behind) others front (front ++ new ++ back) old × AreGone (take k (ahead ++ behind)) new
    amend_one some made (way, gone) =
        let parted = subst (λ (xs : List NameChange). IsUnderWay changes xs others front (front ++ here ++ back) old) split way in
        let name = change.name.now in
        let set = amended_set front back name change.number here way.once some in
        let moved = amended_way changes others front (front ++ here ++ back) (front ++ (without name here ++ link_for change) ++ back) old ahead behind change parted set in (
          subst (λ (ls : List Link). IsUnderWay changes (ahead ++ behind) others front (front ++ ls ++ back) old) (sym made) moved,
          subst (λ (xs : List NameChange). AreGone xs new) (sym first_again)
              (all_from (gone_in new) (take k list) (λ c there.
              let apart = other_change ahead behind change parted.stand_apart c (Contains-append_left ahead behind c there) in
              ap (number_of c.name.now) made ∙ number-beside name c.name.now change.number (without name here) apart ∙ number-without name c.name.now apart here
              ∙ All-contains (gone_in here) (take k list) c gone there)),
        )

    -- a name that is nowhere
    pub put_one : new ≡ here ++ link_for change
        → IsUnderWay changes others list front (front ++ here ++ back) old × AreGone others here
        → IsUnderWay changes others (ahead ++ behind) front (front ++ new ++ back) old × AreGone others new
    put_one made (way, gone) =
        let parted = subst (λ (xs : List NameChange). IsUnderWay changes others xs front (front ++ here ++ back) old) split way in
        let name = change.name.now in
        let none = All-contains (gone_in (front ++ here ++ back)) list change way.wait is_listed in
        let set = put_set front back name change.number here way.once none in
        let moved = put_way changes others front (front ++ here ++ back) (front ++ (here ++ link_for change) ++ back) old ahead behind change parted set in (
          subst (λ (ls : List Link). IsUnderWay changes others (ahead ++ behind) front (front ++ ls ++ back) old) (sym made) moved,
          all_from (gone_in new) others (λ c there.
              let apart : c.name.now ≢ name = (λ same. not_both c (way.stand c there) (ap (λ (n : List ℕ). number_of n (front ++ here ++ back)) same ∙ none)) in
              ap (number_of c.name.now) made ∙ number-beside name c.name.now change.number here apart ∙ All-contains (gone_in here) others c gone there),
        )
      where
        not_both : (c : NameChange) → is_some (number_of c.name.now (front ++ here ++ back)) ≡ true → number_of c.name.now (front ++ here ++ back) ≡ None → ⊥
        not_both c some none = absurd (let never : true ≡ false = sym some ∙ ap (λ (o : Option ℕ). is_some o) none in cc)

-- ---- room

-- with more links there is no more room
fewer_fit : (links more last : List Link) → AreLinks ((links ++ more) ++ last) → AreLinks (links ++ last)
fewer_fit links more last are =
    let front = each_parts (links ++ more) last are.each in
    record {
      each = each_joined links last (each_parts links more front.0).0 front.1;
      room = omega (arith, are.room, length-bytes (links ++ more) last, length-bytes links more, length-bytes links last);
    }

module _ (list : List NameChange) (k : ℕ) (change : NameChange) (within : k < length list) (is : change ≡ get_or list k change) where
  -- a name was put
  pub full_put : (here new : List Link) → new ≡ here ++ link_for change → AreFull (take k list) here → AreFull (take k (take k list ++ drop (suc k) list)) new
  full_put here new made full c there fits =
      full c (subst (λ (xs : List NameChange). Contains xs c) (take_at (take k list) (drop (suc k) list) k (length-take-le k list (omega (arith, within)))) there)
      (fewer_fit here (link_for change) (link_for c) (subst (λ (ls : List Link). AreLinks (ls ++ link_for c)) made fits))

  -- one was not
  pub full_more : (here : List Link) → AreFull (take k list) here → (AreLinks (here ++ link_for change) → ⊥) → AreFull (take (k + 1) list) here
  full_more here full none c there fits = ⊎_elim
      (λ (old : Contains (take k list) c). full c old fits)
      (λ (last : change ≡ c). none (subst (λ (x : NameChange). AreLinks (here ++ link_for x)) (sym last) fits))
      (Contains-push_cases (take k list) change c (subst (λ (xs : List NameChange). Contains xs c) (take_more list k change within ∙ ap (λ (x : NameChange). take k list ++ x ∷ []) (sym is)) there))

  pub from_put : (all : List NameChange) (old here new : List Link) → new ≡ here ++ link_for change → Contains all change → ((link : Link) → Contains here link → IsLinkFrom all old link) → (link : Link) → Contains new link → IsLinkFrom all old link
  from_put all old here new made there from link has = ⊎_elim
      (λ (before : Contains here link). from link before)
      (λ (last : Contains (link_for change) link). inr (change, there, last))
      (Contains-append_cases here (link_for change) link (subst (λ (ls : List Link). Contains ls link) made has))

  pub rest_listed : (c : NameChange) → Contains (take k list ++ drop (suc k) list) c → Contains list c
  rest_listed c there = subst (λ (xs : List NameChange). Contains xs c) (sym (split list k change within is)) (rest_there (take k list) (drop (suc k) list) change c there)

-- one that isn't made: the next is looked at
pub gone_more : (list : List NameChange) (k : ℕ) (change : NameChange) (here : List Link) → k < length list → change ≡ get_or list k change → AreGone (take k list) here → number_of change.name.now here ≡ None
    → AreGone (take (k + 1) list) here
gone_more list k change here within is gone none =
    subst (λ (xs : List NameChange). AreGone xs here) (sym (take_more list k change within ∙ ap (λ (c : NameChange). take k list ++ c ∷ []) (sym is)))
    (All-push (gone_in here) (take k list) change gone none)

pub is_none : (o : Option ℕ) → is_some o ≡ false → o ≡ None
is_none None is = refl
is_none (Some n) is = absurd cc
