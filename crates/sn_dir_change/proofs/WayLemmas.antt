-- A change that is made, on the way through a directory.
use Rattle.std.proofs.Common.{◌≡◌, ◌≢◌, ◌⊎◌, inl, inr, ⊎_elim, ℕ, ◌+◌, ◌≤◌, true, false, List, ◌∷◌, ◌++◌, Option, Some, None, refl, sym, ap, subst, ◌∙◌, arith}
use Rattle.std.specs.Prelude.{All, Contains, is_some}
use Rattle.std.proofs.lemmas.List.Elements.{All-contains, Contains-get_or}
use Rattle.sn_layout_node.specs.Directory.{Link, number_of, without}
use Rattle.sn_image.specs.Sound.{AreOnce}
use Rattle.sn_dir_change.specs.Changes.{times_named, numbered}
use Rattle.sn_dir_change.specs.UnderWay.{IsUnderWay}
use Rattle.sn_dir_change.specs.declared.name_change.NameChange.{NameChange}
use Rattle.sn_dir_change.proofs.NameLemmas.{cases_name, times-append, none-times, times-none, some-times, or_else, or_none, number-append, times-without, number-without, times-kept, number-numbered, times-numbered, number-unnumbered, times-unnumbered}
use Rattle.sn_dir_change.proofs.ChangeLemmas.{rest_there, it_there, one_or_rest, apart_rest, other_change, one_change}

-- One name was set or taken out, and no other.
pub record IsSet (name : List ℕ) (number : Option ℕ) (old new : List Link) : Type 0 where
  pub at : number_of name new ≡ number
  pub beside : (other : List ℕ) → other ≢ name → number_of other new ≡ number_of other old
  pub once : AreOnce new

-- ---- names among those before and after them

module _ (name : List ℕ) (front here back : List Link) where
  pub number-among : number_of name (front ++ here ++ back) ≡ or_else (or_else (number_of name front) (number_of name here)) (number_of name back)
  number-among = number-append name (front ++ here) back ∙ ap (λ (o : Option ℕ). or_else o (number_of name back)) (number-append name front here)

  pub times-among : times_named name (front ++ here ++ back) ≡ times_named name front + times_named name here + times_named name back
  times-among = omega (arith, times-append name (front ++ here) back, times-append name front here)

last : (o : Option ℕ) → or_else (or_else None (or_else None o)) None ≡ o
unfolding or_else
last None = refl
last (Some n) = refl

module _ (front back : List Link) (name : List ℕ) (number : Option ℕ) where
  -- put after names among which it isn't
  set_behind : (here : List Link) → times_named name front ≡ 0 → times_named name here ≡ 0 → times_named name back ≡ 0 → number_of name (front ++ (here ++ numbered name number) ++ back) ≡ number
  set_behind here no_front no_here no_back =
      let link = numbered name number in
      number-among name front (here ++ link) back
      ∙ ap (λ (o : Option ℕ). or_else (or_else (number_of name front) o) (number_of name back)) (number-append name here link)
      ∙ ap (λ (o : Option ℕ). or_else (or_else o (or_else (number_of name here) (number_of name link))) (number_of name back)) (none-times name front no_front)
      ∙ ap (λ (o : Option ℕ). or_else (or_else None (or_else o (number_of name link))) (number_of name back)) (none-times name here no_here)
      ∙ ap (λ (o : Option ℕ). or_else (or_else None (or_else None o)) (number_of name back)) (number-numbered name number)
      ∙ ap (λ (o : Option ℕ). or_else (or_else None (or_else None number)) o) (none-times name back no_back)
      ∙ last number

  beside_same : (here new : List Link) (other : List ℕ) → other ≢ name → number_of other new ≡ number_of other here → number_of other (front ++ (new ++ numbered name number) ++ back) ≡ number_of other (front ++ here ++ back)
  beside_same here new other apart same =
      let link = numbered name number in
      number-among other front (new ++ link) back
      ∙ ap (λ (o : Option ℕ). or_else (or_else (number_of other front) o) (number_of other back))
      (number-append other new link ∙ ap (λ (o : Option ℕ). or_else (number_of other new) o) (number-unnumbered name other apart number) ∙ or_none (number_of other new) ∙ same)
      ∙ sym (number-among other front here back)

  times_new : (new : List Link) (other : List ℕ) → times_named other (front ++ (new ++ numbered name number) ++ back) ≡ times_named other front + (times_named other new + times_named other (numbered name number)) + times_named other back
  times_new new other = omega (arith, times-among other front (new ++ numbered name number) back, times-append other new (numbered name number))

  -- a name that is here, in the place of the one that was
  pub amended_set : (here : List Link) → AreOnce (front ++ here ++ back) → is_some (number_of name here) ≡ true
      → IsSet name number (front ++ here ++ back) (front ++ (without name here ++ numbered name number) ++ back)
  amended_set here once stands =
      let all : times_named name (front ++ here ++ back) ≤ 1 = once name in
      let parts = times-among name front here back in
      let some = some-times name here stands in
      let less = times-without name here stands in
      record {
        at = set_behind (without name here) (omega (arith, all, parts, some)) (omega (arith, all, parts, less)) (omega (arith, all, parts, some));
        beside = λ other apart. beside_same here (without name here) other apart (number-without name other apart here);
        once = λ other. ⊎_elim
            (λ (same : other ≡ name). subst (λ (n : List ℕ). times_named n (front ++ (without name here ++ numbered name number) ++ back) ≤ 1) (sym same)
            (omega (arith, all, parts, some, less, times_new (without name here) name, times-numbered name number)))
            (λ (apart : other ≢ name). omega (arith, once other, times-among other front here back, times_new (without name here) other, times-kept name other apart here, times-unnumbered name other apart number))
            (cases_name other name);
      }

  -- a name that is nowhere
  pub put_set : (here : List Link) → AreOnce (front ++ here ++ back) → number_of name (front ++ here ++ back) ≡ None
      → IsSet name number (front ++ here ++ back) (front ++ (here ++ numbered name number) ++ back)
  put_set here once none =
      let gone = times-none name (front ++ here ++ back) none in
      let parts = times-among name front here back in
      record {
        at = set_behind here (omega (arith, gone, parts)) (omega (arith, gone, parts)) (omega (arith, gone, parts));
        beside = λ other apart. beside_same here here other apart refl;
        once = λ other. ⊎_elim
            (λ (same : other ≡ name). subst (λ (n : List ℕ). times_named n (front ++ (here ++ numbered name number) ++ back) ≤ 1) (sym same)
            (omega (arith, gone, parts, times_new here name, times-numbered name number)))
            (λ (apart : other ≢ name). omega (arith, once other, times-among other front here back, times_new here other, times-unnumbered name other apart number))
            (cases_name other name);
      }

-- ---- the change of one name

some_not_none : (a b : List ℕ) (links : List Link) → is_some (number_of a links) ≡ true → number_of b links ≡ None → b ≢ a
some_not_none a b links some none same =
    let gone : number_of a links ≡ None = ap (λ (n : List ℕ). number_of n links) (sym same) ∙ none in
    let never : is_some (number_of a links) ≡ false = ap (λ (o : Option ℕ). is_some o) gone in
    absurd (let clash : true ≡ false = sym some ∙ never in cc)

pub all_from : (P : NameChange → Type 0) (xs : List NameChange) → ((x : NameChange) → Contains xs x → P x) → All P xs
all_from P xs each k d within = each _ (Contains-get_or xs k d within)

module _ (changes standing waiting : List NameChange) (front names new old : List Link) (change : NameChange) (way : IsUnderWay changes standing waiting front names old) (set : IsSet change.name.now change.number names new) where
  -- what was made before is still there
  still_made : Contains changes change → (c : NameChange) → Contains changes c → number_of c.name.now names ≡ c.number → number_of c.name.now new ≡ c.number
  still_made here c there made = ⊎_elim
      (λ (same : c.name.now ≡ change.name.now).
      let is : c ≡ change = one_change changes way.apart c change there here same in
      subst (λ (x : NameChange). number_of x.name.now new ≡ x.number) (sym is) set.at)
      (λ (apart : c.name.now ≢ change.name.now). set.beside c.name.now apart ∙ made)
      (cases_name c.name.now change.name.now)

  still_others : Contains changes change → (name : List ℕ) → All (λ (c : NameChange). c.name.now ≢ name) changes → number_of name new ≡ number_of name old
  still_others here name none = set.beside name (λ same. All-contains (λ (c : NameChange). c.name.now ≢ name) changes change none here (sym same)) ∙ way.others name none

module _ (changes waiting : List NameChange) (front names new old : List Link) (ahead behind : List NameChange) (change : NameChange) where
  pub amended_way : IsUnderWay changes (ahead ++ change ∷ behind) waiting front names old → IsSet change.name.now change.number names new → IsUnderWay changes (ahead ++ behind) waiting front new old
  amended_way way set =
      let standing = ahead ++ change ∷ behind in
      let it : Contains standing change = it_there ahead behind change in
      let here = way.stand_listed change it in
      let some = way.stand change it in
      record {
        listed = λ c there. ⊎_elim
            (λ (stands : Contains standing c). ⊎_elim
            (λ (same : c ≡ change). inr (inr (subst (λ (x : NameChange). number_of x.name.now new ≡ x.number) (sym same) set.at)))
            (λ (rest : Contains (ahead ++ behind) c). inl rest)
            (one_or_rest ahead behind change c stands))
            (λ (other : Contains waiting c ⊎ (number_of c.name.now names ≡ c.number)). ⊎_elim
            (λ (waits : Contains waiting c). inr (inl waits))
            (λ (made : number_of c.name.now names ≡ c.number). inr (inr (still_made changes standing waiting front names new old change way set here c there made)))
            other)
            (way.listed c there);
        others = still_others changes standing waiting front names new old change way set here;
        once = set.once;
        apart = way.apart;
        stand = λ c rest. ap (λ (o : Option ℕ). is_some o) (set.beside c.name.now (other_change ahead behind change way.stand_apart c rest)) ∙ way.stand c (rest_there ahead behind change c rest);
        behind = all_from (λ (c : NameChange). number_of c.name.now front ≡ None) (ahead ++ behind) (λ c rest. All-contains (λ (c : NameChange). number_of c.name.now front ≡ None) standing c way.behind (rest_there ahead behind change c rest));
        stand_apart = apart_rest ahead behind change way.stand_apart;
        stand_listed = λ c rest. way.stand_listed c (rest_there ahead behind change c rest);
        wait = all_from (λ (c : NameChange). number_of c.name.now new ≡ None) waiting (λ c waits.
            let none = All-contains (λ (c : NameChange). number_of c.name.now names ≡ None) waiting c way.wait waits in
            set.beside c.name.now (some_not_none change.name.now c.name.now names some none) ∙ none);
        wait_apart = way.wait_apart;
        wait_listed = way.wait_listed;
      }

module _ (changes standing : List NameChange) (front names new old : List Link) (ahead behind : List NameChange) (change : NameChange) where
  pub put_way : IsUnderWay changes standing (ahead ++ change ∷ behind) front names old → IsSet change.name.now change.number names new → IsUnderWay changes standing (ahead ++ behind) front new old
  put_way way set =
      let waiting = ahead ++ change ∷ behind in
      let it : Contains waiting change = it_there ahead behind change in
      let here = way.wait_listed change it in
      let gone : number_of change.name.now names ≡ None = All-contains (λ (c : NameChange). number_of c.name.now names ≡ None) waiting change way.wait it in
      record {
        listed = λ c there. ⊎_elim
            (λ (stands : Contains standing c). inl stands)
            (λ (other : Contains waiting c ⊎ (number_of c.name.now names ≡ c.number)). ⊎_elim
            (λ (waits : Contains waiting c). ⊎_elim
            (λ (same : c ≡ change). inr (inr (subst (λ (x : NameChange). number_of x.name.now new ≡ x.number) (sym same) set.at)))
            (λ (rest : Contains (ahead ++ behind) c). inr (inl rest))
            (one_or_rest ahead behind change c waits))
            (λ (made : number_of c.name.now names ≡ c.number). inr (inr (still_made changes standing waiting front names new old change way set here c there made)))
            other)
            (way.listed c there);
        others = still_others changes standing waiting front names new old change way set here;
        once = set.once;
        apart = way.apart;
        stand = λ c stands. ap (λ (o : Option ℕ). is_some o) (set.beside c.name.now (λ same. some_not_none c.name.now change.name.now names (way.stand c stands) gone (sym same))) ∙ way.stand c stands;
        behind = way.behind;
        stand_apart = way.stand_apart;
        stand_listed = way.stand_listed;
        wait = all_from (λ (c : NameChange). number_of c.name.now new ≡ None) (ahead ++ behind) (λ c rest.
            let none = All-contains (λ (c : NameChange). number_of c.name.now names ≡ None) waiting c way.wait (rest_there ahead behind change c rest) in
            set.beside c.name.now (other_change ahead behind change way.wait_apart c rest) ∙ none);
        wait_apart = apart_rest ahead behind change way.wait_apart;
        wait_listed = λ c rest. way.wait_listed c (rest_there ahead behind change c rest);
      }
