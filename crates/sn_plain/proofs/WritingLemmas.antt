-- Bytes of a file that change, over what is stored.
use Rattle.std.proofs.Common.{◌≡◌, ℕ, ◌+◌, ◌<◌, ◌&&◌, Bool, true, false, nat_le, nat_lt, List, length, get_or, Option, Some, None, is_some, refl, sym, ap, subst, ◌∙◌}
use Rattle.std.specs.Prelude.{Result, Ok, Err, OnOk, OnErr}
use Rattle.std.specs.List.{list_all}
use Rattle.sn_limits.specs.declared.limits.Limits.{Limits}
use Rattle.sn_model.specs.Tree.{Node, Tree}
use Rattle.sn_model.specs.Chains.{◌>>=◌, only_if}
use Rattle.sn_model.specs.Changes.{cut, file_at, overwritten, resized, with_bytes, written}
use Rattle.sn_model.proofs.ByteLemmas.{all_bytes}
use Rattle.sn_maps.specs.Maps.{updated}
use Rattle.sn_nodes.specs.Stored.{bytes_by}
use Rattle.sn_plain.specs.Stored.{IsCounted}
use Rattle.sn_plain.proofs.CountedLemmas.{Stored, counted_alike, counted_tree}

-- a test and a result behind another
then_some : {A B : Type 0} (o : Option A) (b : Bool) (f : A → B) → is_some (o >>= (λ x. only_if b >>= (λ _. Some (f x)))) ≡ (is_some o && b)
then_some None b f = refl
then_some (Some x) true f = refl
then_some (Some x) false f = refl

pub cut_tested : (limits : Limits) (tree : Tree) (number size : ℕ) → is_some (cut limits tree number size) ≡ (is_some (file_at tree number) && nat_le size limits.largest_file)
unfolding cut
cut_tested limits tree number size = then_some (file_at tree number) (nat_le size limits.largest_file) (λ (node : Node). with_bytes tree number node (resized node.bytes size))

with_true : (a b : Bool) → b ≡ true → (a && b) ≡ a
with_true true b e = e
with_true false b e = refl

pub written_tested : (limits : Limits) (tree : Tree) (number offset : ℕ) (bytes : List ℕ) → ((i : ℕ) → get_or bytes i 0 < 256) → is_some (written limits tree number offset bytes) ≡ (is_some (file_at tree number) && (nat_lt 0 (length bytes) && nat_le (offset + length bytes) limits.largest_file))
unfolding written
written_tested limits tree number offset bytes h =
    let fits = nat_lt 0 (length bytes) && nat_le (offset + length bytes) limits.largest_file in
    then_some (file_at tree number) (fits && list_all (λ b. nat_lt b 256) bytes) (λ (node : Node). with_bytes tree number node (overwritten node.bytes offset bytes))
    ∙ ap (λ b. is_some (file_at tree number) && b) (with_true fits (list_all (λ b. nat_lt b 256) bytes) (all_bytes bytes h))

-- other bytes leave what is kept beside the nodes
pub counted_bytes : (stored stored' : Stored) (tree tree' : Tree) (first number : ℕ) (f : List ℕ → List ℕ) → tree'.links ≡ tree.links → IsCounted stored tree first → stored' ≡ updated stored number (bytes_by f) → IsCounted stored' tree' first
counted_bytes stored stored' tree tree' first number f links h e =
    subst (λ (x : Stored). IsCounted x tree' first) (sym e) (counted_tree (updated stored number (bytes_by f)) tree tree' first links (counted_alike stored tree first number (bytes_by f) (λ _. (refl, refl)) h))

pub counted_written : {A B : Type 0} (r : Result A B) (stored stored' : Stored) (tree tree' : Tree) (first number : ℕ) (f : List ℕ → List ℕ) → tree'.links ≡ tree.links → IsCounted stored tree first → OnOk r (stored' ≡ updated stored number (bytes_by f)) → OnErr r (stored' ≡ stored) → IsCounted stored' tree' first
counted_written (Ok u) stored stored' tree tree' first number f links h ok err = counted_bytes stored stored' tree tree' first number f links h ok
counted_written (Err e) stored stored' tree tree' first number f links h ok err = subst (λ (x : Stored). IsCounted x tree' first) (sym err) (counted_tree stored tree tree' first links h)
