use Rattle.std.proofs.Common.{◌≡◌, ◌++◌, ℕ, map, length}
use Rattle.std.specs.Vec.Iter.{into_iter_items, into_iter_len}
use Rattle.sn_model.specs.declared.link.Link.{Link}
use Rattle.sn_live_view.proofs.files.names_alone.Given as goal

-- the names so far and those to come
abbrev pub invariant-loop-link : goal.invariant-loop-link
invariant-loop-link l = (l.names.items ++ map (λ (e : Link × ℕ). e.0.name) (into_iter_items l.link-iterator) ≡ map (λ (e : Link × ℕ). e.0.name) (into_iter_items l.initial.link-iterator))
    × (into_iter_len l.link-iterator ≡ length (into_iter_items l.link-iterator))
