use Rattle.std.proofs.Common.{◌≡◌, ◌++◌, ◌+◌, ◌<◌, ◌≤◌, ℕ, List, length, sym, ap, subst, ◌∙◌, arith, take, take_all}
use Rattle.std.specs.Prelude.{Contains}
use Rattle.std.proofs.lemmas.List.{length-append}
use Rattle.sn_layout_node.specs.Directory.{Link, links_bytes}
use Rattle.sn_image.specs.Names.{names_in}
use Rattle.sn_dir_change.specs.Changes.{link_for}
use Rattle.sn_dir_change.specs.UnderWay.{AreFull, AreGone, IsUnderWay}
use Rattle.sn_dir_change.specs.declared.name_change.NameChange.{NameChange as TheChange}
use Rattle.sn_dir_change.proofs.PassLemmas.{length-bytes, put_one, one_fewer, rest_changes, full_put, full_more, from_put, is_listed, rest_listed}
use Rattle.sn_dir_change.proofs.pass.put_waiting.Goals as goal

pub loop-k-preserved-then-put_within : goal.loop-k-preserved-then-put_within
loop-k-preserved-then-put_within c =
    let list = c.loop-k.waiting.items in
    let k = c.loop-k.k in
    let change = c.index.result.now in
    let within : k < length list = omega (arith, c.len.ensures, c.loop-k-test.true) in
    let made = c.put_within.ensures.put c.if-put_within.true in
    let fewer : length c.remove.new.self.items + 1 ≡ length list = ap (λ (xs : List TheChange). length xs + 1) c.remove.ensures.items ∙ one_fewer list k change within c.index.ensures in
    record {
      block = c.put_within.ensures.still;
      room = omega (arith, c.loop-k.invariant.room, ap (λ (ls : List Link). length (links_bytes ls)) made, length-bytes (names_in c.loop-k.block) (link_for change));
      changes = λ x there. rest_changes list k change within c.index.ensures c.loop-k.invariant.changes x (subst (λ (xs : List TheChange). Contains xs x) c.remove.ensures.items there);
      within = omega (arith, within, fewer);
      full = subst (λ (xs : List TheChange). AreFull (take k xs) (names_in c.put_within.new.block)) (sym c.remove.ensures.items) (full_put list k change within c.index.ensures (names_in c.loop-k.block) (names_in c.put_within.new.block) made c.loop-k.invariant.full);
      from = from_put list k change within c.index.ensures c.args.waiting.now.items (names_in c.args.block.now) (names_in c.loop-k.block) (names_in c.put_within.new.block) made (c.loop-k.invariant.listed change (is_listed list k change within c.index.ensures)) c.loop-k.invariant.from;
      listed = λ x there. c.loop-k.invariant.listed x (rest_listed list k change within c.index.ensures x (subst (λ (xs : List TheChange). Contains xs x) c.remove.ensures.items there));
      fewer = omega (arith, fewer, c.loop-k.invariant.fewer);
      more = omega (arith, c.loop-k.invariant.more, ap (λ (ls : List Link). length ls) made, length-append (names_in c.loop-k.block) (link_for change));
      same = λ same. absurd (omega (arith, same, fewer, c.loop-k.invariant.fewer));
      way = λ changes standing front back old way gone.
          let moved = put_one list k change within c.index.ensures changes standing front (names_in c.loop-k.block) (names_in c.put_within.new.block) back old made (c.loop-k.invariant.way changes standing front back old way gone) in
          subst (λ (xs : List TheChange). IsUnderWay changes standing xs front (front ++ names_in c.put_within.new.block ++ back) old × AreGone standing (names_in c.put_within.new.block)) (sym c.remove.ensures.items) moved;
    }

pub loop-k-preserved : goal.loop-k-preserved
loop-k-preserved c =
    let list = c.loop-k.waiting.items in
    let within : c.loop-k.k < length list = omega (arith, c.len.ensures, c.loop-k-test.true) in
    let bytes = c.put_within.ensures.none c.if-put_within.false in
    record {
      block = c.put_within.ensures.still;
      room = subst (λ (b : List ℕ). 4096 ≤ length (links_bytes (names_in b)) + c.args.room) (sym bytes) c.loop-k.invariant.room;
      changes = c.loop-k.invariant.changes;
      within = omega (arith, within);
      full = subst (λ (b : List ℕ). AreFull (take (c.loop-k.k + 1) list) (names_in b)) (sym bytes) (full_more list c.loop-k.k c.index.result.now within c.index.ensures (names_in c.loop-k.block) c.loop-k.invariant.full (c.put_within.ensures.full c.if-put_within.false));
      from = λ link has. c.loop-k.invariant.from link (subst (λ (b : List ℕ). Contains (names_in b) link) bytes has);
      listed = c.loop-k.invariant.listed;
      fewer = c.loop-k.invariant.fewer;
      more = subst (λ (b : List ℕ). length (names_in c.args.block.now) ≤ length (names_in b)) (sym bytes) c.loop-k.invariant.more;
      same = λ same. let before = c.loop-k.invariant.same same in (bytes ∙ before.0, before.1);
      way = λ changes standing front back old way gone.
          subst (λ (b : List ℕ). IsUnderWay changes standing list front (front ++ names_in b ++ back) old × AreGone standing (names_in b)) (sym bytes)
          (c.loop-k.invariant.way changes standing front back old way gone);
    }

pub returns-clause-full : goal.returns-clause-full
returns-clause-full c =
    let list = c.loop-k.waiting.items in
    let whole : take c.loop-k.k list ≡ list = take_all c.loop-k.k list (omega (arith, c.loop-k-test.false, c.len.ensures)) in
    subst (λ (xs : List TheChange). AreFull xs (names_in c.loop-k.block)) whole c.loop-k.invariant.full
