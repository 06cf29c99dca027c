-- A block whose names changed.
use Rattle.std.proofs.Common.{◌≡◌, ℕ, ◌+◌, ◌<◌, ◌≤◌, length, Bool, true, false, List, [], ◌∷◌, ◌++◌, append-nil, Option, Some, None, refl, sym, subst, ◌∙◌, arith}
use Rattle.std.specs.Prelude.{is_some, IfSome}
use Rattle.std.proofs.lemmas.Bool.{true≢false}
use Rattle.sn_layout.proofs.Reading.{each_more}
use Rattle.sn_layout_node.specs.Directory.{Link, IsLink, AreLinks, Spells, IsDirectoryBlock, links_bytes, number_of, without}
use Rattle.sn_layout_node.proofs.Changes.{length-more, each_without}
use Rattle.sn_image.specs.Names.{names_in}
use Rattle.sn_image.proofs.DecodeLemmas.{directory_read}
use Rattle.sn_dir_change.specs.Changes.{IsChange, link_for, numbered}
use Rattle.sn_dir_change.specs.declared.name_change.NameChange.{NameChange}
use Rattle.sn_dir_change.proofs.NameLemmas.{room-without}

pub true_is : (b : Bool) → (b ≡ false → ⊥) → b ≡ true
true_is true is = refl
true_is false is = absurd (is refl)

-- it spells the names that are read in it
pub spells : (block : List ℕ) → IsDirectoryBlock block → Spells block (names_in block)
spells block (links, is) = subst (λ (ls : List Link). Spells block ls) (sym (directory_read block links is)) is

pub same_bytes : (old new : List ℕ) (links : List Link) → Spells old links → Spells new links → new ≡ old
same_bytes old new links before behind = behind.bytes ∙ sym before.bytes

-- a name that is set in place has the room of the one that was there
pub fits_in_place : (links : List Link) (link : Link) → AreLinks links → IsLink link → is_some (number_of link.name links) ≡ true → AreLinks (without link.name links ++ link ∷ [])
fits_in_place links link are is some = record {
  each = each_more IsLink (without link.name links) link (each_without link.name links are.each) is;
  room = omega (arith, length-more (without link.name links) link, room-without link.name links some, are.room);
}

without_fits : (name : List ℕ) (links : List Link) → AreLinks links → is_some (number_of name links) ≡ true → AreLinks (without name links)
without_fits name links are some = record { each = each_without name links are.each; room = omega (arith, room-without name links some, are.room) }

numbered_fits : (name : List ℕ) (number : Option ℕ) (links : List Link) → AreLinks links → IfSome number (λ n. IsLink (record { number = n; name = name })) → is_some (number_of name links) ≡ true
    → AreLinks (without name links ++ numbered name number)
numbered_fits name None links are is some = subst AreLinks (sym (append-nil (without name links))) (without_fits name links are some)
numbered_fits name (Some n) links are is some = fits_in_place links (record { number = n; name = name }) are is some

pub change_fits : (links less : List Link) (change : NameChange) → less ≡ without change.name.now links → AreLinks links → IsChange change → is_some (number_of change.name.now links) ≡ true → AreLinks (less ++ link_for change)
change_fits links less change made are is some =
    subst (λ (ls : List Link). AreLinks (ls ++ link_for change)) (sym made) (numbered_fits change.name.now change.number links are is some)

too_long : (links : List Link) (room : ℕ) (name : List ℕ) (number : Option ℕ) → 4096 ≤ length (links_bytes links) + room → is_some number ≡ true → room < length name + 3 → AreLinks (links ++ numbered name number) → ⊥
too_long links room name None least some more fits = true≢false (sym some)
too_long links room name (Some n) least some more fits = omega (arith, fits.room, length-more links (record { number = n; name = name }), least, more)

-- a name that takes more than is left
pub no_room : (links : List Link) (room : ℕ) (change : NameChange) → 4096 ≤ length (links_bytes links) + room → (is_some change.number ≡ true) × (room < length change.name.now + 3) → AreLinks (links ++ link_for change) → ⊥
no_room links room change least more fits = too_long links room change.name.now change.number least more.0 more.1 fits
