-- Which numbers are given out and kept back by a call.
use Rattle.std.proofs.Common.{◌≡◌, ◌≢◌, ◌⊎◌, inl, inr, ℕ, Bool, true, false, not, ◌&&◌, ◌||◌, ◌==◌, cond, List, [], Option, Some, None, Contains, is_none, is_some, refl, sym, ap, subst, ◌∙◌, eq-eqb, eqb-true}
use Rattle.std.specs.FinMap as map
use Rattle.std.specs.Cmp.{nat_cmp_total}
use Rattle.std.proofs.lemmas.Bool.{false_from_ne_true, true≢false}
use Rattle.std.proofs.lemmas.Map.Lookups.{exact_unsigned}
use Rattle.sn_limits.specs.declared.kind.Kind.{Kind}
use Rattle.sn_limits.specs.declared.kind.Kind.TheVariants.{File}
use Rattle.sn_limits.specs.Versions.{limits_written}
use Rattle.std.specs.Prelude.{IsSomeAnd}
use Rattle.sn_walk.specs.declared.object.Home.{Home}
use Rattle.sn_model.specs.declared.call.Call.{Call}
use Rattle.sn_model.specs.declared.call.Event.TheVariants as event
use Rattle.sn_model.specs.declared.change.Change.{Change}
use Rattle.sn_model.specs.declared.change.Change.TheVariants.{Make, AddLink, Remove, Rename, Write, SetSize, SetAttributes}
use Rattle.sn_model.specs.declared.change.Ownership.{Ownership}
use Rattle.sn_model.specs.declared.link.Link.{Link}
use Rattle.sn_model.specs.declared.outcome.Caller.{Caller}
use Rattle.sn_model.specs.Changes.{apply, made, node_with, take_node}
use Rattle.sn_model.specs.NameTree.{HasKind}
use Rattle.sn_model.specs.Settling.{dropped, dropped_if, is_abandoned, is_held, is_nameless, without_nameless}
use Rattle.sn_model.specs.Steps.{with_caller, with_live}
use Rattle.sn_model.specs.Tree.{Node, Tree}
use Rattle.sn_model.specs.World.{World, tree_in, trees_of}
use Rattle.sn_model.specs.Worlds.{IsWorld}
use Rattle.sn_model.proofs.DropLemmas.{without_was}
use Rattle.sn_model.proofs.HeldLemmas.{held_by}
use Rattle.sn_model.proofs.LinkLemmas.{links_total}
use Rattle.sn_model.proofs.LoseLemmas.{abandoned_is}
use Rattle.sn_model.proofs.MapLemmas.{same_or_apart, get_inserted, get_left, get_other, get_removed}
use Rattle.sn_model.proofs.MoveLemmas.{some_node}
use Rattle.sn_model.proofs.NameLemmas.{is_unnamed}
use Rattle.sn_model.proofs.OtherCallLemmas.{caller_live}
use Rattle.sn_model.proofs.OutcomeLemmas.{IsOfOld}
use Rattle.sn_model.proofs.PartLemmas.{Made, made_is}
use Rattle.sn_model.proofs.SettlingLemmas.{get_without, nameless_is}
use Rattle.sn_model.proofs.StayLemmas.{change_stays, file_stays}
use Rattle.sn_number_table.specs.Numbers.{kept_after}
use Rattle.sn_changed.proofs.HoldsLemmas.{some_descriptor}
use Rattle.sn_caller.specs.Called.{TellsReleased, WereHeld}
use Rattle.sn_caller.specs.Numbering.{GivesOut, Numbers, has_closed, has_gone}

-- ---- where nothing changes
none_given : (world : World) (n : ℕ) → GivesOut world world n → ⊥
none_given world n g = true≢false (sym g.used ∙ ap is_some g.unused)

not_gone : (held : Bool) (o : Option Node) → (held && (is_some o && is_none o)) ≡ false
not_gone true None = refl
not_gone true (Some x) = refl
not_gone false o = refl

at_rest : (session : ℕ) (c : Call) (world : World) (kept : ℕ → Bool) → Numbers (event.Call session c) world kept world kept
at_rest session c world kept = record {
  next = λ n g. absurd (none_given world n g);
  keeps = record {
    goes_on = λ none n. sym (ap (λ (b : Bool). b || kept n) (not_gone (is_held world n) (map.get world.live.nodes n)));
    begins_anew = λ given g k n. absurd (none_given world given g);
  };
}

pub same_numbers : (session : ℕ) (c : Call) (old new : World) (kept after : ℕ → Bool) → new ≡ old → after ≡ kept → Numbers (event.Call session c) old kept new after
same_numbers session c old new kept after is same =
    subst (λ (w : World). Numbers (event.Call session c) old kept w after) (sym is)
    (subst (λ (k : ℕ → Bool). Numbers (event.Call session c) old kept old k) (sym same) (at_rest session c old kept))

-- ---- what is there before a change and after it

-- what is held is a file
held_file : (world : World) (n : ℕ) → IsWorld limits_written world → is_held world n ≡ true → HasKind world.live n File
held_file world n whole e =
    let b = held_by world.descriptors n e in
    let x = some_descriptor (map.get world.descriptors (b.0, b.1)) b.2 in
    let f = (whole.open_files b.0 b.1 x.0 x.1).file in
    subst (λ (m : ℕ). HasKind world.live m File) x.2.1 (subst (λ (h : Home). IsSomeAnd (tree_in (trees_of world) h) (λ tree. HasKind tree x.0.number File)) x.2.0 f)

-- files stay
abbrev pub FilesStay : Tree → Tree → Type 0
FilesStay old new = (n : ℕ) → HasKind old n File → is_some (map.get new.nodes n) ≡ true

there : (tree : Tree) (n : ℕ) → HasKind tree n File → is_some (map.get tree.nodes n) ≡ true
there tree n h = ap is_some (some_node _ File h).1

pub same_stay : (old new : Tree) → new ≡ old → FilesStay old new
same_stay old new same n h = ap (λ (t : Tree). is_some (map.get t.nodes n)) same ∙ there old n h

pub done_stay : (change : Change) (old new : Tree) → IsOfOld change → apply limits_written change old ≡ Some new → FilesStay old new
done_stay change old new of_old e n h = there new n (file_stays old new n (change_stays limits_written change old new of_old e n) h)

-- what was held and is gone by the end was there after the change
pub closed_same : (old new : World) (tree : Tree) (n : ℕ) → IsWorld limits_written old → FilesStay old.live tree → has_closed (with_live old tree) new n ≡ has_closed old new n
closed_same old new tree n whole stay = told (is_held old n) refl
  where
    told : (b : Bool) → is_held old n ≡ b → (b && has_gone (with_live old tree) new n) ≡ (b && has_gone old new n)
    told false e = refl
    told true e = let file = held_file old n whole e in ap (λ (b : Bool). b && is_none (map.get new.live.nodes n)) (stay n file ∙ sym (there old.live n file))

some_of : (o : Option Node) → is_some o ≡ true → (x : Node) × (o ≡ Some x)
some_of None e = absurd (true≢false (sym e))
some_of (Some x) e = (x, refl)

-- what is there in the end was there after the change
pub was_there : (old : World) (session : ℕ) (tree : Tree) (caller : Caller) (n : ℕ) → is_some (map.get (dropped (with_caller (with_live old tree) session caller)).live.nodes n) ≡ true → is_some (map.get tree.nodes n) ≡ true
was_there old session tree caller n some =
    let left = with_caller (with_live old tree) session caller in
    let x = some_of (map.get (dropped left).live.nodes n) some in
    ap (λ (t : Tree). is_some (map.get t.nodes n)) (sym (caller_live (with_live old tree) session caller)) ∙ ap is_some (without_was (is_held left) left.live n x.0 x.1)

-- ---- the node that is made
named_stays : (held : ℕ → Bool) (tree : Tree) (n : ℕ) → is_nameless tree n (map.get tree.nodes n) ≡ false → is_some (map.get tree.nodes n) ≡ true → is_some (map.get (without_nameless held tree).nodes n) ≡ true
named_stays held tree n named some = ap is_some (get_without held tree n ∙ ap (λ (b : Bool). cond (not b || held n) (map.get tree.nodes n) None) named) ∙ some

module _ (old : World) (link : Link) (number : ℕ) (kind : Kind) (own : Ownership) (tree : Tree) (e : made limits_written old.live link number kind own ≡ Some tree) where
  m : Made limits_written old.live link number kind own tree
  m = made_is limits_written old.live link number kind own tree e

  is_there : map.get tree.nodes number ≡ Some (node_with kind own [])
  is_there = ap (λ (t : Tree). map.get t.nodes number) (sym m.gives) ∙ get_inserted nat_cmp_total old.live.nodes number (node_with kind own [])

  pub made_keeps : FilesStay old.live tree
  made_keeps n h = told (same_or_apart nat_cmp_total exact_unsigned n number)
    where
      told : (n ≡ number) ⊎ (n ≢ number) → is_some (map.get tree.nodes n) ≡ true
      told (inl q) = ap (λ (k : ℕ). is_some (map.get tree.nodes k)) q ∙ ap is_some is_there
      told (inr q) = ap (λ (t : Tree). is_some (map.get t.nodes n)) (sym m.gives) ∙ ap is_some (get_other nat_cmp_total exact_unsigned old.live.nodes number (node_with kind own []) n q) ∙ there old.live n h

  -- no other is new
  pub only_made : (n : ℕ) → map.get old.live.nodes n ≡ None → is_some (map.get tree.nodes n) ≡ true → n ≡ number
  only_made n none some = told (same_or_apart nat_cmp_total exact_unsigned n number)
    where
      told : (n ≡ number) ⊎ (n ≢ number) → n ≡ number
      told (inl q) = q
      told (inr q) = absurd (true≢false (sym some ∙ ap (λ (t : Tree). is_some (map.get t.nodes n)) (sym m.gives) ∙ ap is_some (get_other nat_cmp_total exact_unsigned old.live.nodes number (node_with kind own []) n q ∙ none)))

  named : (b : Bool) → is_nameless tree number (map.get tree.nodes number) ≡ b → is_nameless tree number (map.get tree.nodes number) ≡ false
  named false f = f
  named true f =
      let is = nameless_is tree number (node_with kind own []) (ap (is_nameless tree number) (sym is_there) ∙ f) in
      absurd (is_unnamed tree number is.1 link (ap (λ (t : Tree). map.get t.links link) (sym m.gives) ∙ get_inserted links_total old.live.links link number))

  -- it has a name, and stays
  pub made_stays : (session : ℕ) (caller : Caller) → is_some (map.get (dropped (with_caller (with_live old tree) session caller)).live.nodes number) ≡ true
  made_stays session caller =
      let left = with_caller (with_live old tree) session caller in
      subst (λ (t : Tree). is_some (map.get (without_nameless (is_held left) t).nodes number) ≡ true) (sym (caller_live (with_live old tree) session caller))
      (named_stays (is_held left) tree number (named _ refl) (ap is_some is_there))

-- ---- what stays kept back
abbrev pub kept_by : Option Change → (ℕ → Bool) → ℕ → Bool
kept_by None kept n = kept n
kept_by (Some c) kept n = kept_after c kept n

pub old_keeps : (change : Change) (kept : ℕ → Bool) (n : ℕ) → IsOfOld change → kept_after change kept n ≡ kept n
old_keeps (Make directory name number kind o) kept n of_old = absurd of_old
old_keeps (AddLink directory name number) kept n of_old = refl
old_keeps (Remove directory name) kept n of_old = refl
old_keeps (Rename old_directory old_name new_directory new_name) kept n of_old = refl
old_keeps (Write number offset bytes) kept n of_old = refl
old_keeps (SetSize number size) kept n of_old = refl
old_keeps (SetAttributes number o) kept n of_old = refl

pub and_not_false : (a b : Bool) → b ≡ false → (a && not b) ≡ a
and_not_false true b e = ap not e
and_not_false false b e = refl

pub and_not_true : (a b : Bool) → b ≡ true → (a && not b) ≡ false
and_not_true true b e = ap not e
and_not_true false b e = refl

pub or_false : (a b : Bool) → b ≡ false → (a || b) ≡ a
or_false true b e = refl
or_false false b e = e

-- ---- files that are dropped one after the other

-- what is abandoned is there
pub abandoned_there : (world : World) (n : ℕ) → is_abandoned world n ≡ true → is_some (map.get world.live.nodes n) ≡ true
abandoned_there world n e = there world.live n (abandoned_is world n e).file

module _ (start mid : World) (number : ℕ) where
  abbrev without : World
  without = record mid { live = take_node mid.live number }

  at_other : (n : ℕ) → n ≢ number → has_gone start without n ≡ has_gone start mid n
  at_other n apart = ap (λ (o : Option Node). is_some (map.get start.live.nodes n) && is_none o) (get_left nat_cmp_total exact_unsigned mid.live.nodes number n apart)

  at_it : (n : ℕ) → n ≡ number → is_some (map.get start.live.nodes number) ≡ true → has_gone start without n ≡ true
  at_it n same some =
      ap (λ (k : ℕ). is_some (map.get start.live.nodes k) && is_none (map.get (map.remove mid.live.nodes number) k)) same
      ∙ ap (λ (b : Bool). b && is_none (map.get (map.remove mid.live.nodes number) number)) some
      ∙ ap is_none (get_removed nat_cmp_total mid.live.nodes number)

  -- the number of one more that was dropped is kept back
  pub kept_more : (first kept after : ℕ → Bool) → (is_abandoned mid number ≡ true → is_abandoned start number ≡ true)
      → ((n : ℕ) → kept n ≡ (has_gone start mid n || first n)) → ((n : ℕ) → after n ≡ ((is_abandoned mid number && n == number) || kept n))
      → (n : ℕ) → after n ≡ (has_gone start (dropped_if mid number) n || first n)
  kept_more first kept after was by more n = told (is_abandoned mid number) was (more n)
    where
      split : (n ≡ number) ⊎ (n ≢ number) → is_abandoned start number ≡ true → after n ≡ (n == number || kept n) → after n ≡ (has_gone start without n || first n)
      split (inl q) there f = f ∙ ap (λ (b : Bool). b || kept n) (eq-eqb n number q) ∙ sym (ap (λ (b : Bool). b || first n) (at_it n q (abandoned_there start number there)))
      split (inr q) there f = f ∙ ap (λ (b : Bool). b || kept n) (false_from_ne_true (n == number) (λ e. q (eqb-true n number e))) ∙ by n ∙ sym (ap (λ (b : Bool). b || first n) (at_other n q))

      told : (b : Bool) → (b ≡ true → is_abandoned start number ≡ true) → after n ≡ ((b && n == number) || kept n) → after n ≡ (has_gone start (cond b without mid) n || first n)
      told false was f = f ∙ by n
      told true was f = split (same_or_apart nat_cmp_total exact_unsigned n number) (was refl) f

  -- what is gone was dropped before, or now
  pub gone_by : (n : ℕ) → has_gone start (dropped_if mid number) n ≡ true → (has_gone start mid n ≡ true) ⊎ (n ≡ number)
  gone_by n = told (is_abandoned mid number)
    where
      split : (n ≡ number) ⊎ (n ≢ number) → has_gone start without n ≡ true → (has_gone start mid n ≡ true) ⊎ (n ≡ number)
      split (inl q) e = inr q
      split (inr q) e = inl (sym (at_other n q) ∙ e)

      told : (b : Bool) → has_gone start (cond b without mid) n ≡ true → (has_gone start mid n ≡ true) ⊎ (n ≡ number)
      told false e = inl e
      told true e = split (same_or_apart nat_cmp_total exact_unsigned n number) e

stays_there : (o p : Option Node) → is_some p ≡ true → (is_some o && is_none p) ≡ false
stays_there o None e = absurd (true≢false (sym e))
stays_there None (Some x) e = refl
stays_there (Some y) (Some x) e = refl

-- What is dropped once a caller has turned are the files that lost their last descriptor.
module _ (old turned mid : World) (numbers seen : List ℕ) (same : seen ≡ numbers) (live : turned.live ≡ old.live) (tells : TellsReleased old turned numbers) (held : WereHeld old numbers)
    (gone : (n : ℕ) → has_gone turned mid n ≡ true → Contains seen n) (left : (n : ℕ) → is_abandoned mid n ≡ true → (is_abandoned turned n ≡ true) × (Contains seen n → ⊥)) where
  from_old : (n : ℕ) → has_gone turned mid n ≡ has_gone old mid n
  from_old n = ap (λ (t : Tree). is_some (map.get t.nodes n) && is_none (map.get mid.live.nodes n)) live

  pub closed_none : (n : ℕ) → has_gone turned mid n ≡ has_closed old mid n
  closed_none n = told (has_gone turned mid n) refl
    where
      both : (b : Bool) → (b && false) ≡ false
      both true = refl
      both false = refl

      told : (b : Bool) → has_gone turned mid n ≡ b → has_gone turned mid n ≡ has_closed old mid n
      told true e = from_old n ∙ sym (ap (λ (b : Bool). b && has_gone old mid n) (held n (subst (λ (xs : List ℕ). Contains xs n) same (gone n e))))
      told false e = e ∙ sym (ap (λ (b : Bool). is_held old n && b) (sym (from_old n) ∙ e) ∙ both (is_held old n))

  -- and what lost its name isn't one of them
  pub unheld : (lost : ℕ) → is_abandoned mid lost ≡ true → is_held old lost ≡ false
  unheld lost abandoned = was_left (is_held old lost) refl
    where
      was_left : (b : Bool) → is_held old lost ≡ b → is_held old lost ≡ false
      was_left false e = e
      was_left true e =
          let l = left lost abandoned in
          absurd (l.1 (subst (λ (xs : List ℕ). Contains xs lost) (sym same) (tells lost e (abandoned_is turned lost l.0).left)))

  pub closed_one : (lost n : ℕ) → has_gone turned mid n ≡ has_closed old (dropped_if mid lost) n
  closed_one lost n = told (is_abandoned mid lost) refl
    where
      split : (n ≡ lost) ⊎ (n ≢ lost) → is_abandoned mid lost ≡ true → has_gone turned mid n ≡ has_closed old (without old mid lost) n
      split (inl q) e =
          let here : is_some (map.get mid.live.nodes n) ≡ true = ap (λ (k : ℕ). is_some (map.get mid.live.nodes k)) q ∙ abandoned_there mid lost e in
          stays_there (map.get turned.live.nodes n) (map.get mid.live.nodes n) here
          ∙ sym (ap (λ (b : Bool). b && has_gone old (without old mid lost) n) (ap (is_held old) q ∙ unheld lost e))
      split (inr q) e = closed_none n ∙ sym (ap (λ (b : Bool). is_held old n && b) (at_other old mid lost n q))

      told : (b : Bool) → is_abandoned mid lost ≡ b → has_gone turned mid n ≡ has_closed old (cond b (without old mid lost) mid) n
      told false e = closed_none n
      told true e = split (same_or_apart nat_cmp_total exact_unsigned n lost) e
