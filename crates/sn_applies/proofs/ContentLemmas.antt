-- Where bytes, a size and owners can be set.
use Rattle.std.proofs.Common.{◌≡◌, ℕ, ◌+◌, ◌<◌, ◌&&◌, Bool, true, false, nat_le, nat_lt, List, length, get_or, Option, Some, None, is_some, refl, sym, ap, ◌∙◌}
use Rattle.std.specs.List.{list_all}
use Rattle.sn_limits.specs.declared.limits.Limits.{Limits}
use Rattle.sn_model.specs.declared.change.Ownership.{Ownership}
use Rattle.sn_model.specs.Chains.{◌>>=◌, only_if}
use Rattle.sn_model.specs.Changes.{cut, file_at, is_ownership, node_with, overwritten, owned, put_node, resized, with_bytes, written}
use Rattle.sn_model.specs.Tree.{Node, Tree, names_for}
use Rattle.sn_model.proofs.ByteLemmas.{all_bytes}
use Rattle.sn_applies.specs.declared.reads.Standing.{Standing}
use Rattle.sn_applies.specs.Tests.{file_names, standing_of}
use Rattle.sn_applies.proofs.ReadLemmas.{node_seen, nothing_seen}

-- a test of a file, and a result after it
of_file : (tree : Tree) (number : ℕ) (b : Bool) (f : Node → Tree) → is_some (file_at tree number >>= (λ node. only_if b >>= (λ _. Some (f node)))) ≡ (is_some (file_names tree number) && b)
of_file tree number b f = told (file_at tree number) b
  where
    told : (o : Option Node) (b : Bool) → is_some (o >>= (λ node. only_if b >>= (λ _. Some (f node)))) ≡ (is_some (o >>= (λ _. Some (names_for tree number))) && b)
    told None b = refl
    told (Some node) true = refl
    told (Some node) false = refl

pub cut_tested : (limits : Limits) (tree : Tree) (number size : ℕ) → (is_some (file_names tree number) && nat_le size limits.largest_file) ≡ is_some (cut limits tree number size)
unfolding cut
cut_tested limits tree number size = sym (of_file tree number (nat_le size limits.largest_file) (λ (node : Node). with_bytes tree number node (resized node.bytes size)))

with_true : (a b : Bool) → b ≡ true → (a && b) ≡ a
with_true true b e = e
with_true false b e = refl

pub written_tested : (limits : Limits) (tree : Tree) (number offset : ℕ) (bytes : List ℕ) → ((i : ℕ) → get_or bytes i 0 < 256) → (is_some (file_names tree number) && (nat_lt 0 (length bytes) && nat_le (offset + length bytes) limits.largest_file)) ≡ is_some (written limits tree number offset bytes)
unfolding written
written_tested limits tree number offset bytes h =
    let fits = nat_lt 0 (length bytes) && nat_le (offset + length bytes) limits.largest_file in
    sym (of_file tree number (fits && list_all (λ b. nat_lt b 256) bytes) (λ (node : Node). with_bytes tree number node (overwritten node.bytes offset bytes))
    ∙ ap (λ b. is_some (file_names tree number) && b) (with_true fits (list_all (λ b. nat_lt b 256) bytes) (all_bytes bytes h)))

pub owned_none : (tree : Tree) (number : ℕ) (o : Ownership) → standing_of tree number ≡ None → false ≡ is_some (owned tree number o)
unfolding owned
owned_none tree number o e = sym (ap (λ (found : Option Node). is_some (found >>= (λ node. only_if (is_ownership node.kind o) >>= (λ _. Some (put_node tree number (node_with node.kind o node.bytes)))))) (nothing_seen tree number e))

pub owned_some : (tree : Tree) (number : ℕ) (o : Ownership) (s : Standing) → standing_of tree number ≡ Some s → is_ownership s.kind o ≡ is_some (owned tree number o)
unfolding owned
owned_some tree number o s e =
    let seen = node_seen tree number s e in
    sym (ap (λ (found : Option Node). is_some (found >>= (λ node. only_if (is_ownership node.kind o) >>= (λ _. Some (put_node tree number (node_with node.kind o node.bytes)))))) seen.1
    ∙ told (is_ownership seen.0.kind o) (put_node tree number (node_with seen.0.kind o seen.0.bytes))
    ∙ ap (λ (x : Standing). is_ownership x.kind o) seen.2)
  where
    told : (b : Bool) (after : Tree) → is_some (only_if b >>= (λ _. Some after)) ≡ b
    told true after = refl
    told false after = refl
