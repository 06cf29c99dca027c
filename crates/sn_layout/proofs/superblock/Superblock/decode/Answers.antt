use Rattle.std.proofs.Common.{◌≡◌, ◌∙◌, [], ◌++◌, length, refl, sym, ap, arith}
use Rattle.std.proofs.lemmas.List.{append-nil, nil_from_length}
use Rattle.sn_bytes.specs.Bytes.{number_bytes, zeros}
use Rattle.sn_layout.specs.Superblock.{magic}
use Rattle.sn_layout.proofs.superblock.Superblock.decode.Goals as goal

pub returns-then-not-are-clause-only : goal.returns-then-not-are-clause-only
returns-then-not-are-clause-only c = λ s fits e.
    let named = c.are.ensures.only (number_bytes 4 s.geometry ++ zeros 4084) (c.new-reader.ensures ∙ e) in
    let yes = named.0 in
    cc

pub returns-then-not-are_zeros-clause-only : goal.returns-then-not-are_zeros-clause-only
returns-then-not-are_zeros-clause-only c = λ s fits e.
    let named = c.are.ensures.only (number_bytes 4 s.geometry ++ zeros 4084) (c.new-reader.ensures ∙ e) in
    let sized = c.u32.ensures.only s.geometry (zeros 4084) (omega (arith, fits.most)) named.1 in
    let blank = c.are_zeros.ensures.only _ (sized.1 ∙ sym (append-nil (zeros 4084))) in
    let yes = blank.0 in
    cc

pub returns-clause-found : goal.returns-clause-found
returns-clause-found c =
    let none : c.are_zeros.new.self ≡ [] = nil_from_length c.are_zeros.new.self (omega (arith, ap length c.new-reader.ensures)) in
    let named = c.are.ensures.read c.if-not-are.false in
    let blank = c.are_zeros.ensures.read c.if-not-are_zeros.false ∙ ap (λ r. zeros 4084 ++ r) none ∙ append-nil (zeros 4084) in
    let rest : c.are.new.self ≡ number_bytes 4 c.in_ok-geometry.geometry ++ zeros 4084 = rw c.in_ok-geometry.ensures.value (c.u32.ensures.read ∙ ap (λ r. number_bytes 4 c.u32.result ++ r) blank) in
    (rw c.in_ok-geometry.ensures.value (c.in_ok-geometry.ensures.valid.0 refl), sym c.new-reader.ensures ∙ named ∙ ap (λ r. magic ++ r) rest)
