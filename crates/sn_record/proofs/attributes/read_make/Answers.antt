use Rattle.std.proofs.Common.{◌≡◌, ◌∙◌, ◌++◌, ◌∷◌, ℕ, List, refl, sym, ap, append_assoc, rules}
use Rattle.sn_limits.specs.declared.kind.Kind.{Kind}
use Rattle.sn_layout.specs.Bytes.{number_bytes}
use Rattle.sn_layout.proofs.Fields.{some_some}
use Rattle.sn_layout_node.specs.Directory.{name_bytes}
use Rattle.sn_layout_node.specs.Inode.{kind_number}
use Rattle.sn_model.specs.declared.change.Change.TheVariants.{Make}
use Rattle.sn_model.specs.declared.change.Ownership.{Ownership}
use Rattle.sn_record.specs.Payload.{fields_bytes, ownership_bytes}
use Rattle.sn_record.proofs.attributes.read_make.Goals as goal

-- one field after the other
flat : (directory number : ℕ) (kind : Kind) (o : Ownership) (name rest : List ℕ)
    → fields_bytes (Make directory name number kind o) ++ rest ≡ number_bytes 2 directory ++ (number_bytes 2 number ++ (kind_number kind ∷ (ownership_bytes o ++ (name_bytes name ++ rest))))
flat directory number kind o name rest = simp append_assoc

pub returns-in_err-read_name-clause-only : goal.returns-in_err-read_name-clause-only
returns-in_err-read_name-clause-only c = λ directory number kind o name rest fits e.
    let one = c.try_u16.ensures.only directory _ fits.0.0 (e ∙ flat directory number kind o name rest) in
    let two = c.try_u16-2.ensures.only number _ fits.0.1 one.1 in
    let three = c.read_kind.ensures.only kind _ two.1 in
    let four = c.read_ownership.ensures.only o _ fits.0.2 three.1 in
    let read = c.in_err-read_name.ensures.only name rest fits.1 four.1 in
    let none = read.0 in
    absurd cc

pub returns-clause-only : goal.returns-clause-only
returns-clause-only c = λ directory number kind o name rest fits e.
    let one = c.try_u16.ensures.only directory _ fits.0.0 (e ∙ flat directory number kind o name rest) in
    let two = c.try_u16-2.ensures.only number _ fits.0.1 one.1 in
    let three = c.read_kind.ensures.only kind _ two.1 in
    let four = c.read_ownership.ensures.only o _ fits.0.2 three.1 in
    let read = c.in_ok-read_name.ensures.only name rest fits.1 four.1 in
    let same-directory = some_some c.try_u16.result c.in_ok-directory.directory directory c.in_ok-directory.was one.0 in
    let same-number = some_some c.try_u16-2.result c.in_ok-number.number number c.in_ok-number.was two.0 in
    let same-kind = some_some c.read_kind.result c.in_ok-kind.kind kind c.in_ok-kind.was three.0 in
    let same-ownership = some_some c.read_ownership.result c.in_ok-ownership.ownership o c.in_ok-ownership.was four.0 in
    let same-name = c.new-name.ensures ∙ read.1 in
    (rw (same-directory, same-number, same-kind, same-ownership, same-name) refl, read.2)

pub returns-clause-found : goal.returns-clause-found
returns-clause-found c =
    let directory = c.in_ok-directory.directory in
    let number = c.in_ok-number.number in
    let o = c.in_ok-ownership.ownership in
    let rest = c.read_name.new.reader in
    let name : c.read_ownership.new.reader ≡ name_bytes c.new-name.result ++ rest = c.in_ok-read_name.ensures.found.1 ∙ ap (λ (n : List ℕ). name_bytes n ++ rest) (sym c.new-name.ensures) in
    let owned : c.read_kind.new.reader ≡ ownership_bytes o ++ (name_bytes c.new-name.result ++ rest) = c.in_ok-ownership.ensures.found.1 ∙ ap (λ (r : List ℕ). ownership_bytes o ++ r) name in
    let kind = c.in_ok-kind.ensures.found ∙ ap (λ (r : List ℕ). kind_number c.in_ok-kind.kind ∷ r) owned in
    let numbered = c.in_ok-number.ensures.found ∙ ap (λ (r : List ℕ). number_bytes 2 number ++ r) kind in
    let all = c.in_ok-directory.ensures.found ∙ ap (λ (r : List ℕ). number_bytes 2 directory ++ r) numbered in
    (search rules, ap (λ (l : List ℕ). 1 ∷ l) (all ∙ sym (flat directory number c.in_ok-kind.kind o c.new-name.result rest)))
