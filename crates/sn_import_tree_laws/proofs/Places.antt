-- Where the names below a directory of the live tree lead.
use Rattle.std.proofs.Common.{◌≡◌, ◌≢◌, ◌⊎◌, ℕ, ◌==◌, Bool, true, false, List, [], ◌∷◌, ◌++◌, Option, Some, None, inl, inr, refl, ap, ◌∙◌, eqb-true}
use Rattle.std.specs.Option.{option_and_then, option_map}
use Rattle.std.specs.FinMap as map
use Rattle.std.specs.Cmp.Lexicographic.{pointwise}
use Rattle.std.proofs.lemmas.Bool.{and_parts}
use Rattle.std.specs.Prelude.{codes}
use Rattle.sn_limits.specs.declared.limits.Limits.{Limits}
use Rattle.sn_walk.specs.declared.object.Home.TheVariants.{Live}
use Rattle.sn_walk.specs.declared.object.Object.{Object}
use Rattle.sn_walk.specs.declared.object.Object.TheVariants as object
use Rattle.sn_walk.specs.Objects.{root}
use Rattle.sn_walk.specs.Views.{ViewedTrees, child_of, is_hidden_name}
use Rattle.sn_model.specs.declared.link.Link.{Link}
use Rattle.sn_model.specs.Denials.{led_to}
use Rattle.sn_model.specs.NameTree.{HasNodes}
use Rattle.sn_model.specs.Tree.{Tree, link_to}
use Rattle.sn_model.specs.World.{World}
use Rattle.sn_model.proofs.LinkLemmas.{exact_links, links_total}
use Rattle.sn_model.proofs.MapLemmas.{same_or_apart}
use Rattle.sn_archive_laws.specs.Trees.{Leads}
use Rattle.sn_import_laws.proofs.Opening.{LeadsStill, trees_in}
use Rattle.sn_import_tree_laws.proofs.Growth.{some_none}
use Rattle.sn_import_tree_laws.proofs.Paths.{child_is, led_along, led_append}

pub led_still : (old new : ViewedTrees) → LeadsStill old new → (names : List (List ℕ)) (o end : Object) → led_to old o names ≡ Some end → led_to new o names ≡ Some end
unfolding led_to
led_still old new still [] o end e = e
led_still old new still (name ∷ names) o end e = told (child_of old o name) refl (λ x. led_still old new still names x end) e
  where
    told : (c : Option Object) → child_of old o name ≡ c → ((x : Object) → led_to old x names ≡ Some end → led_to new x names ≡ Some end)
        → option_and_then (λ x. led_to old x names) c ≡ Some end → option_and_then (λ x. led_to new x names) (child_of new o name) ≡ Some end
    told None is more f = cc f
    told (Some x) is more f = ap (option_and_then (λ y. led_to new y names)) (still o name x is) ∙ more x f

one_object : (x : Option Object) → option_and_then (λ (child : Object). Some child) x ≡ x
one_object None = refl
one_object (Some o) = refl

module _ (limits : Limits) (world : World) (ns : List (List ℕ)) (place : ℕ) (nodes : HasNodes limits world.live) (led : led_to (trees_in world) root ns ≡ Some (object.Node Live place)) where
  -- names that lead to a number
  pub led_below : (names : List (List ℕ)) (end : ℕ) → Leads world.live place names end → led_to (trees_in world) root (ns ++ names) ≡ Some (object.Node Live end)
  led_below names end leads =
      led_append (trees_in world) root ns names ∙ ap (option_and_then (λ x. led_to (trees_in world) x names)) led ∙ led_along limits world place end names nodes leads

  -- and one more name
  pub led_last : (names : List (List ℕ)) (b : ℕ) (name : List ℕ) → Leads world.live place names b → is_hidden_name b name ≡ false
      → led_to (trees_in world) root (ns ++ (names ++ name ∷ [])) ≡ option_map (object.Node Live) (map.get world.live.links (link_to b name))
  unfolding led_to
  led_last names b name leads seen =
      led_append (trees_in world) root ns (names ++ name ∷ []) ∙ ap (option_and_then (λ x. led_to (trees_in world) x (names ++ name ∷ []))) led
      ∙ led_append (trees_in world) (object.Node Live place) names (name ∷ [])
      ∙ ap (option_and_then (λ x. led_to (trees_in world) x (name ∷ []))) (led_along limits world place b names nodes leads)
      ∙ one_object (child_of (trees_in world) (object.Node Live b) name) ∙ child_is world b name seen

pub one_live : (o : Option ℕ) (n : ℕ) → option_map (object.Node Live) o ≡ Some (object.Node Live n) → o ≡ Some n
one_live None n e = cc
one_live (Some m) n e = let some : Some (object.Node Live m) ≡ Some (object.Node Live n) = e in let same : object.Node Live m ≡ object.Node Live n = cc in let number : m ≡ n = cc same in ap (λ (k : ℕ). Some k) number

-- a name that wasn't there, and is, is the only new one
pub link_is : (old new : Tree) (link given : Link) (n : ℕ) → map.get old.links given ≡ None → map.get new.links given ≡ Some n → ((other : Link) → other ≢ link → map.get new.links other ≡ map.get old.links other) → given ≡ link
link_is old new link given n absent named others = told (same_or_apart links_total exact_links given link)
  where
    told : (given ≡ link) ⊎ (given ≢ link) → given ≡ link
    told (inl same) = same
    told (inr apart) = absurd (some_none (map.get new.links given) n named (others given apart ∙ absent))

-- the directory of snapshots is hidden in the root alone
pub shown_below : (directory : ℕ) (name : List ℕ) → directory ≢ 2 → is_hidden_name directory name ≡ false
shown_below directory name apart = told (is_hidden_name directory name) refl
  where
    told : (b : Bool) → is_hidden_name directory name ≡ b → is_hidden_name directory name ≡ false
    told false h = h
    told true h = absurd (apart (eqb-true directory 2 (and_parts (directory == 2) (pointwise ◌==◌ name (codes ".snapshot")) h).0))
