-- The example's facts.
use Rattle.std.proofs.Common.{◌≡◌, ℕ, not, cond, ◌||◌, false, Option, None, Some, inl, refl, sym, ap, ◌∙◌, arith}
use Rattle.std.specs.Prelude.{codes}
use Rattle.std.specs.FinMap as map
use Rattle.std.specs.Cmp.{nat_cmp_total}
use Rattle.std.specs.Cmp.Lexicographic.{nat_list_cmp_total}
use Rattle.std.proofs.lemmas.Map.Lookups.{exact_unsigned}
use Rattle.sn_model.specs.Tree.{Node, link_cmp, link_to, names_for}
use Rattle.sn_model.specs.World.{descriptor_cmp, new_tree}
use Rattle.sn_model.specs.Settling.{is_nameless}
use Rattle.sn_model.specs.Example.{Answers, Settles, file_of, folder, frozen_tree, live_tree}
use Rattle.sn_model.proofs.LinkLemmas.{links_total}
use Rattle.sn_model.proofs.MapLemmas.{get_inserted, get_other}
use Rattle.sn_model.proofs.NameLemmas.{names_for_other, no_names_for}
use Rattle.sn_model.proofs.SettlingLemmas.{get_without, nameless_file}

no_name : names_for live_tree 4 ≡ 0
no_name = names_for_other new_tree (link_to 2 (codes "d")) 3 (map.get-empty link_cmp (link_to 2 (codes "d"))) 4 (λ e. absurd (omega (arith, e)))
    ∙ no_names_for new_tree 4 (λ link e. let never : None ≡ Some 4 = sym (map.get-empty link_cmp link) ∙ e in cc)

file_there : map.get live_tree.nodes 4 ≡ Some (file_of (codes "new"))
file_there = get_inserted nat_cmp_total _ 4 (file_of (codes "new"))

folder_there : map.get live_tree.nodes 3 ≡ Some folder
folder_there = get_other nat_cmp_total exact_unsigned _ 4 (file_of (codes "new")) 3 (λ e. absurd (omega (arith, e))) ∙ get_inserted nat_cmp_total new_tree.nodes 3 folder

left : (n : ℕ) → Option Node → Option Node
left n o = cond (not (is_nameless live_tree n o) || false) o None

pub settles : Settles
unfolding left
settles = record {
  held = file_there;
  gone = get_without (λ _. false) live_tree 4 ∙ ap (left 4) file_there ∙ ap (λ b. cond (not b || false) (Some (file_of (codes "new"))) None) (nameless_file live_tree 4 (file_of (codes "new")) refl no_name);
  kept = get_without (λ _. false) live_tree 3 ∙ ap (left 3) folder_there;
  named = get_inserted links_total new_tree.links (link_to 2 (codes "d")) 3;
  frozen = get_inserted nat_list_cmp_total map.empty (codes "s") frozen_tree;
  bytes = get_inserted nat_cmp_total new_tree.nodes 4 (file_of (codes "old"));
  closed = map.get-empty descriptor_cmp (1, 0);
}

pub answers : Answers
answers = record {
  caller = refl;
  busy = refl;
  nobody = refl;
  logged_out = refl;
  mounts = (refl, refl);
  stays = inl (record { told = refl; same = refl });
  stops = record { told = refl; left = refl };
  stopped = (refl, refl);
}
