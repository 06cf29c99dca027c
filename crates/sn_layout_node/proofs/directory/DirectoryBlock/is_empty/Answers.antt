use Rattle.std.proofs.Common.{◌≡◌, ◌∙◌, ℕ, ◌<◌, false, [], ◌∷◌, List, length, sym, ap, arith}
use Rattle.std.specs.Prelude.{◌==◌}
use Rattle.std.proofs.lemmas.Bool.Decides.{nat_tests}
use Rattle.sn_layout_node.specs.Directory.{Link, links_bytes, links_of}
use Rattle.sn_layout_node.proofs.Links.{length-links}
use Rattle.sn_layout_node.proofs.directory.DirectoryBlock.is_empty.Goals as goal

nonzero : (n : ℕ) → 0 < n → (n == 0) ≡ false
nonzero n h = grind (arith, nat_tests)

-- bytes that are links are none where there are no links
empty_both : (bytes : List ℕ) (links : List Link) → bytes ≡ links_bytes links → (length bytes == 0) ≡ (length links == 0)
empty_both bytes [] e = ap (λ (r : List ℕ). length r == 0) e
empty_both bytes (link ∷ links) e = nonzero (length bytes) (omega (arith, ap length e, length-links link links)) ∙ sym (nonzero (length (link ∷ links)) (omega arith))

pub returns : goal.returns
returns c =
    let bytes = c.self.inside.links.now in
    c.is_empty.ensures ∙ empty_both bytes (links_of bytes) c.self.invariant.0.spelled ∙ ap (λ (ls : List Link). length ls == 0) c.self.view_is
