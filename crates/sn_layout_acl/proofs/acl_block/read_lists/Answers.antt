use Rattle.std.proofs.Common.{◌≡◌, ◌∙◌, ◌+◌, ◌-◌, ◌*◌, [], ◌∷◌, ◌++◌, length, List, ℕ, sym, ap, append_assoc, arith}
use Rattle.std.proofs.lemmas.List.{append-nil}
use Rattle.sn_acl.specs.declared.entries.Entry.{Entry}
use Rattle.sn_layout.specs.Bytes.{zeros}
use Rattle.sn_layout.proofs.Fields.{true_false}
use Rattle.sn_layout_acl.specs.AclEntry.{entries_bytes}
use Rattle.sn_layout_acl.specs.AclBlock.{lists_bytes}
use Rattle.sn_layout_acl.proofs.acl_block.read_lists.Goals as goal

-- one field after the other
flat : (a d : List Entry) → lists_bytes a d ≡ length a ∷ (length d ∷ (zeros 6 ++ (entries_bytes a ++ (entries_bytes d ++ zeros (4088 - 8 * (length a + length d))))))
flat a d = simp append_assoc

pub returns-then-not-are_zeros-2-clause-only : goal.returns-then-not-are_zeros-2-clause-only
returns-then-not-are_zeros-2-clause-only c = λ access default few-access few-default each-access each-default e.
    let first = c.u8-access.ensures.only (length access) _ (c.new-reader.ensures ∙ e ∙ flat access default) in
    let second = c.u8-default.ensures.only (length default) _ first.1 in
    let blank = c.are_zeros.ensures.only _ second.1 in
    let both = c.read_both.ensures.only access default _ (sym first.0) (sym second.0) each-access each-default blank.1 in
    let count : length access + length default ≡ c.u8-access.result + c.u8-default.result = omega (arith, first.0, second.0) in
    let last = c.are_zeros-2.ensures.only [] (both.1 ∙ ap (λ (n : ℕ). zeros (4088 - 8 * n)) count ∙ sym (append-nil (zeros (4088 - 8 * (c.u8-access.result + c.u8-default.result))))) in
    true_false c.are_zeros-2.result last.0 c.if-not-are_zeros-2.true
