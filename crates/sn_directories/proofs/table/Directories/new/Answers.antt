use Rattle.sn_directories.proofs.table.Directories.new.Goals as goal

pub returns : goal.returns
returns c = c.in_ok-from_elem.ensures.items_if_clones_equal (λ y is. is)
