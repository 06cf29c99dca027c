-- A directory block after a change.
use Rattle.std.proofs.Common.{◌≡◌, ℕ, ◌+◌, ◌-◌, ◌≤◌, Bool, true, false, Some, None, List, [], ◌∷◌, ◌++◌, length, take, drop, refl, sym, ap, subst, ◌∙◌, append_assoc, length-append, arith}
use Rattle.std.specs.Str.{bytes_eq}
use Rattle.std.specs.List.{AllByRecursion}
use Rattle.std.proofs.lemmas.List.{take_at, drop_at, take_all, take-append-drop, take-append-le, length-take-le, length-drop}
use Rattle.std.proofs.lemmas.Slice.{between_is}
use Rattle.std.proofs.Math.Seq.{paste}
use Rattle.sn_layout.specs.Bytes.{zeros}
use Rattle.sn_layout.proofs.Reading.{each_more, bytes_more}
use Rattle.sn_layout_node.specs.Directory.{Link, IsLink, AreLinkBytes, Spells, link_bytes, links_bytes, links_of, number_of, without}
use Rattle.sn_layout_node.proofs.Links.{length-link, links_of-bytes}

pub length-more : (links : List Link) (link : Link) → length (links_bytes (links ++ link ∷ [])) ≡ length (links_bytes links) + (length link.name + 3)
length-more links link = ap length (bytes_more link_bytes links link) ∙ omega (arith, length-append (links_bytes links) (link_bytes link), length-link link)

-- ---- the links at the front of a block

pub front_of : (block : List ℕ) (links : List Link) (size : ℕ) → Spells block links → size ≡ length (links_bytes links) → take size block ≡ links_bytes links
front_of block links size s e = ap (take size) s.bytes ∙ take_at (links_bytes links) (zeros (4096 - length (links_bytes links))) size (sym e)

pub links_in : (block : List ℕ) (links : List Link) (size : ℕ) → Spells block links → size ≡ length (links_bytes links) → links_of (take size block) ≡ links
links_in block links size s e = ap links_of (front_of block links size s e) ∙ links_of-bytes links s.fit.each

-- ---- one link more

pub added : (block linked new : List ℕ) (links : List Link) (link : Link) (size next end : ℕ) → Spells block links → IsLink link → size ≡ length (links_bytes links) → length link.name + 3 ≤ 4096 - size
    → take next linked ≡ take size block ++ link_bytes link → next ≡ size + 3 + length link.name
    → take end new ≡ take next linked ++ zeros (4096 - next) → end ≡ next + (4096 - next) → length new ≡ 4096
    → Spells new (links ++ link ∷ [])
added block linked new links link size next end s fits e room front at behind last count =
    let long : length (links_bytes (links ++ link ∷ [])) ≡ next = omega (arith, length-more links link) in
    let whole : take end new ≡ new = take_all end new (omega arith) in
    let head : take next linked ≡ links_bytes (links ++ link ∷ []) = front ∙ ap (λ (r : List ℕ). r ++ link_bytes link) (front_of block links size s e) ∙ sym (bytes_more link_bytes links link) in
    record {
      fit = record { each = each_more IsLink links link s.fit.each fits; room = omega (arith, long) };
      bytes = sym whole ∙ behind ∙ ap (λ (r : List ℕ). r ++ zeros (4096 - next)) head ∙ ap (λ (n : ℕ). links_bytes (links ++ link ∷ []) ++ zeros (4096 - n)) (sym long);
    }

-- ---- one link after the other

pub first_is : (old new : List ℕ) (link : Link) → AreLinkBytes old → AreLinkBytes new → links_of old ≡ link ∷ links_of new → old ≡ link_bytes link ++ new
first_is old new link before after e = before.spelled ∙ ap links_bytes e ∙ ap (λ (r : List ℕ). link_bytes link ++ r) (sym after.spelled)

-- what was passed, and what is left
pub record IsPassed (links old new : List ℕ) (link : Link) : Type 0 where
  pub within : length new ≤ length links
  pub front : take (length links - length new) links ≡ take (length links - length old) links ++ link_bytes link
  pub back : drop (length links - length new) links ≡ new

pub passed : (links old new : List ℕ) (link : Link) → length old ≤ length links → drop (length links - length old) links ≡ old → old ≡ link_bytes link ++ new → IsPassed links old new link
passed links old new link within left first =
    let at = length links - length old in
    let size = ap length first ∙ length-append (link_bytes link) new in
    let whole : links ≡ (take at links ++ link_bytes link) ++ new = sym (take-append-drop at links) ∙ ap (λ (r : List ℕ). take at links ++ r) (left ∙ first) ∙ sym (append_assoc (take at links) (link_bytes link) new) in
    let long : length (take at links ++ link_bytes link) ≡ length links - length new = omega (arith, ap length whole, length-append (take at links ++ link_bytes link) new) in
    record {
      within = omega (arith, size);
      front = ap (take (length links - length new)) whole ∙ take_at (take at links ++ link_bytes link) new (length links - length new) long;
      back = ap (drop (length links - length new)) whole ∙ drop_at (take at links ++ link_bytes link) new (length links - length new) long;
    }

-- ---- all links but one

pub without_first : (name : List ℕ) (link : Link) (links : List Link) → bytes_eq link.name name ≡ true → without name (link ∷ links) ≡ links
without_first name link links e = rw e refl

pub without_other : (name : List ℕ) (link : Link) (links : List Link) → bytes_eq link.name name ≡ false → without name (link ∷ links) ≡ link ∷ without name links
without_other name link links e = rw e refl

pub number_other : (name : List ℕ) (link : Link) (links : List Link) → bytes_eq link.name name ≡ false → number_of name (link ∷ links) ≡ number_of name links
number_other name link links e = rw e refl

without_none_if : (b : Bool) (name : List ℕ) (link : Link) (links : List Link) → bytes_eq link.name name ≡ b → (number_of name links ≡ None → without name links ≡ links) → number_of name (link ∷ links) ≡ None → without name (link ∷ links) ≡ link ∷ links
without_none_if true name link links e others none = let found : number_of name (link ∷ links) ≡ Some link.number = rw e refl in absurd cc
without_none_if false name link links e others none =
    without_other name link links e ∙ ap (λ (r : List Link). link ∷ r) (others (sym (number_other name link links e) ∙ none))

pub without_none : (name : List ℕ) (links : List Link) → number_of name links ≡ None → without name links ≡ links
without_none name [] e = refl
without_none name (link ∷ links) e = without_none_if (bytes_eq link.name name) name link links refl (without_none name links) e

each_without_if : (b : Bool) (name : List ℕ) (link : Link) (links : List Link) → bytes_eq link.name name ≡ b → AllByRecursion IsLink (link ∷ links) → AllByRecursion IsLink (without name links) → AllByRecursion IsLink (without name (link ∷ links))
each_without_if true name link links e each others = subst (λ (ls : List Link). AllByRecursion IsLink ls) (sym (without_first name link links e)) each.1
each_without_if false name link links e each others = subst (λ (ls : List Link). AllByRecursion IsLink ls) (sym (without_other name link links e)) (each.0, others)

pub each_without : (name : List ℕ) (links : List Link) → AllByRecursion IsLink links → AllByRecursion IsLink (without name links)
each_without name [] each = tt
each_without name (link ∷ links) each = each_without_if (bytes_eq link.name name) name link links refl each (each_without name links each.1)

-- ---- a part taken out

-- after the front zeros were put
pub taken_out : (xs pasted new : List ℕ) (start end size next : ℕ) → length xs ≡ 4096 → start ≤ end → end ≤ size → size ≤ 4096
    → pasted ≡ paste xs start (drop end xs) (size - end)
    → take next new ≡ take (start + (size - end)) pasted ++ zeros (4096 - (start + (size - end)))
    → next ≡ start + (size - end) + (4096 - (start + (size - end))) → length new ≡ 4096
    → new ≡ take start xs ++ drop end (take size xs) ++ zeros (4096 - (start + (size - end)))
taken_out xs pasted new start end size next len in-start in-end in-size made front moved count =
    let kept = take start xs ++ take (size - end) (drop end xs) in
    let long : length kept ≡ start + (size - end) = omega (arith, length-append (take start xs) (take (size - end) (drop end xs)), length-take-le start xs (omega arith), length-take-le (size - end) (drop end xs) (omega (arith, length-drop end xs))) in
    let head : take (start + (size - end)) pasted ≡ kept = ap (take (start + (size - end))) made ∙ take_at kept (drop (start + (size - end)) xs) (start + (size - end)) long in
    let whole : take next new ≡ new = take_all next new (omega arith) in
    let inside : take (size - end) (drop end xs) ≡ drop end (take size xs) = between_is xs end size in
    sym whole ∙ front ∙ ap (λ (r : List ℕ). r ++ zeros (4096 - (start + (size - end)))) (head ∙ ap (λ (r : List ℕ). take start xs ++ r) inside)

pub removed : (block new : List ℕ) (links : List Link) (name : List ℕ) (start end size : ℕ) → Spells block links → size ≡ length (links_bytes links)
    → start ≤ end → end ≤ length (take size block)
    → links_bytes (without name (links_of (take size block))) ≡ take start (take size block) ++ drop end (take size block)
    → new ≡ take start block ++ drop end (take size block) ++ zeros (4096 - (start + (size - end)))
    → Spells new (without name links)
removed block new links name start end size s e in-start in-end others made =
    let front = front_of block links size s e in
    let known = links_in block links size s e in
    let rest = without name links in
    let kept : links_bytes rest ≡ take start (take size block) ++ drop end (take size block) = ap (λ (ls : List Link). links_bytes (without name ls)) (sym known) ∙ others in
    let count : length (take size block) ≡ size = ap length front ∙ sym e in
    let long : length (links_bytes rest) ≡ start + (size - end) = omega (arith, ap length kept, length-append (take start (take size block)) (drop end (take size block)), length-take-le start (take size block) (omega arith), length-drop end (take size block), count) in
    let inner : take start (take size block) ≡ take start block = sym (take-append-le start (take size block) (drop size block) (omega arith)) ∙ ap (take start) (take-append-drop size block) in
    record {
      fit = record { each = each_without name links s.fit.each; room = omega (arith, long, s.fit.room) };
      bytes = made ∙ ap (λ (r : List ℕ). r ++ zeros (4096 - (start + (size - end)))) (ap (λ (r : List ℕ). r ++ drop end (take size block)) (sym inner) ∙ sym kept) ∙ ap (λ (n : ℕ). links_bytes rest ++ zeros (4096 - n)) (sym long);
    }
