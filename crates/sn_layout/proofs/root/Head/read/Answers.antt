use Rattle.std.proofs.Common.{◌≡◌, ◌∙◌, ◌++◌, ℕ, List, get_or, refl, sym, ap}
use Rattle.sn_layout.specs.declared.root.Head.{Head}
use Rattle.sn_layout.specs.declared.root.HeadNumbers.{HeadNumbers}
use Rattle.sn_layout.specs.declared.tree.BlockTree.{BlockTree}
use Rattle.sn_bytes.specs.Bytes.{zeros}
use Rattle.sn_layout.specs.BlockTree.{tree_bytes}
use Rattle.sn_bytes.specs.Records.{numbers_then}
use Rattle.sn_layout.specs.RootBody.{head_widths, head_numbers, listed}
use Rattle.sn_bytes.proofs.Fields.{true_false}
use Rattle.sn_layout.proofs.Roots.{head_flat, head_spelled}
use Rattle.sn_layout.proofs.root.Head.read.Goals as goal
use Rattle.sn_layout.proofs.root.Head.read.Goals.{then-numbers-ne0-via-then-numbers-ne0, then-numbers-ne0-via-else-numbers-ne0+then-numbers-ne0-2, then-numbers-ne0-via-else-numbers-ne0+else-numbers-ne0-2+then-not-is_blank}

-- where zeros are between
abbrev made : HeadNumbers → BlockTree → Head
made n tree = record { version = n.version; generation = n.generation; epoch = n.epoch; count = n.count; inode_file = tree }

blank_between : (n : HeadNumbers) (tree : BlockTree) → n.before_ages ≡ 0 → n.before_tree ≡ 0 → listed n ≡ head_numbers (made n tree)
blank_between n tree before_ages before_tree = rw (before_ages, before_tree) refl

pub returns-then-numbers-ne0-clause-only : goal.returns-then-numbers-ne0-clause-only
returns-then-numbers-ne0-clause-only c = λ h rest fits e.
    let read = head_spelled h c.read-numbers.result c.args.reader.now c.read-numbers.new.reader rest c.read-numbers.ensures.fits c.read-numbers.ensures.read fits e in
    let tree = c.read-inode_file.ensures.only h.inode_file _ fits.inode_file read.1 in
    let blank = c.are_zeros-is_blank.ensures.only rest tree.1 in
    let before_ages = ap (λ (xs : List ℕ). get_or xs 1 0) read.0 in
    let before_tree = ap (λ (xs : List ℕ). get_or xs 5 0) read.0 in
    elim c.then-numbers-ne0.branch [
      | then-numbers-ne0-via-then-numbers-ne0 w ↦ absurd (w.if-numbers-ne0.true before_ages)
      | then-numbers-ne0-via-else-numbers-ne0+then-numbers-ne0-2 w ↦ absurd (w.if-numbers-ne0-2.true before_tree)
      | then-numbers-ne0-via-else-numbers-ne0+else-numbers-ne0-2+then-not-is_blank w ↦ true_false c.are_zeros-is_blank.result blank.0 w.if-not-is_blank.true
    ]

pub returns-clause-found : goal.returns-clause-found
returns-clause-found c =
    let n = c.read-numbers.result in
    let h = made n c.read-inode_file.result in
    let fits = c.read-numbers.ensures.fits in
    let read = c.read-numbers.ensures.read ∙ ap (λ (xs : List ℕ). numbers_then head_widths xs c.read-numbers.new.reader) (blank_between n c.read-inode_file.result c.if-numbers-ne0.false c.if-numbers-ne0-2.false) in
    let rest : c.read-numbers.new.reader ≡ tree_bytes h.inode_file ++ (zeros 520 ++ c.are_zeros-is_blank.new.self) = c.read-inode_file.ensures.read ∙ ap (λ (r : List ℕ). tree_bytes h.inode_file ++ r) (c.are_zeros-is_blank.ensures.read c.if-not-is_blank.false) in (
      record { version = fits.0; generation = fits.1.1.0; epoch = fits.1.1.1.0; count = fits.1.1.1.1.0; inode_file = c.read-inode_file.ensures.fits },
      read ∙ ap (numbers_then head_widths (head_numbers h)) rest ∙ sym (head_flat h c.are_zeros-is_blank.new.self),
    )

pub returns-clause-only : goal.returns-clause-only
returns-clause-only c = λ h rest fits e.
    let read = head_spelled h c.read-numbers.result c.args.reader.now c.read-numbers.new.reader rest c.read-numbers.ensures.fits c.read-numbers.ensures.read fits e in
    let tree = c.read-inode_file.ensures.only h.inode_file _ fits.inode_file read.1 in
    let version = ap (λ (xs : List ℕ). get_or xs 0 0) read.0 in
    let generation = ap (λ (xs : List ℕ). get_or xs 2 0) read.0 in
    let epoch = ap (λ (xs : List ℕ). get_or xs 3 0) read.0 in
    let count = ap (λ (xs : List ℕ). get_or xs 4 0) read.0 in
    (rw (version, generation, epoch, count, tree.0) refl, (c.are_zeros-is_blank.ensures.only rest tree.1).1)
