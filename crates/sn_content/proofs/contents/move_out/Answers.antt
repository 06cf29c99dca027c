use Rattle.std.proofs.Common.{List, refl, sym, subst, ◌∙◌}
use Rattle.sn_content.specs.Contents.{IsMovedOut}
use Rattle.sn_tree.specs.Dirty.{IsFrom}
use Rattle.sn_tree.specs.declared.new_block.DirtyBlock.{DirtyBlock}
use Rattle.sn_content.proofs.ContentLemmas.{none_moved, nothing_moved, first_written, moved_out, nothing_in, none_there}
use Rattle.sn_content.proofs.contents.move_out.Goals as goal
use Rattle.sn_content.proofs.contents.move_out.Goals.{then-keep-eq0-via-then-keep-eq0, then-keep-eq0-via-else-keep-eq0+then-is_empty, then-keep-eq0-via-else-keep-eq0+else-is_empty+then-is_some}

pub returns-then-keep-eq0 : goal.returns-then-keep-eq0
returns-then-keep-eq0 c =
    let bytes = c.args.inline.now in
    let items = c.args.dirty.now.items in
    elim c.then-keep-eq0.branch [
      | then-keep-eq0-via-then-keep-eq0 w ↦ none_moved bytes c.args.keep items c.requires w.if-keep-eq0.true
      | then-keep-eq0-via-else-keep-eq0+then-is_empty w ↦ nothing_moved bytes c.args.keep items c.requires (sym w.as_slice.ensures.value ∙ nothing_in w.as_slice.result.now w.is_empty.result w.is_empty.ensures w.if-is_empty.true)
      | then-keep-eq0-via-else-keep-eq0+else-is_empty+then-is_some w ↦ first_written bytes c.args.keep items c.requires w.dirty_first.result w.is_some.result w.dirty_first.ensures.some w.is_some.ensures w.if-is_some.true
    ]

pub returns : goal.returns
returns c =
    let bytes = c.args.inline.now in
    let items = c.args.dirty.now.items in
    let d : DirtyBlock = record { index = 0; bytes = c.in_ok-bytes.bytes } in
    let clean : IsFrom 1 items = c.dirty_first.ensures.none (none_there c.dirty_first.result c.is_some.result c.is_some.ensures c.if-is_some.false) c.requires in
    subst (λ (ds : List DirtyBlock). IsMovedOut bytes c.args.keep items ds) (sym c.in_ok-push_front.ensures.items)
    (moved_out bytes c.args.keep items c.requires c.if-keep-eq0.false clean d refl (c.in_ok-bytes.ensures ∙ c.inline_block.ensures))
