use Rattle.std.proofs.Common.{◌≡◌, ◌∙◌, ◌<◌, true, false, List, get_or, length, take, ap, sym, arith}
use Rattle.std.specs.Prelude.{insert}
use Rattle.std.specs.FinMap as map
use Rattle.sn_layout.specs.declared.snapshot.Snapshot.{Snapshot}
use Rattle.sn_snap.specs.Catalogue.{Entry, catalogue, entry_of}
use Rattle.sn_snap.proofs.SortLemmas.{goes_to, keys_more, keys_same, no_keys, index_among, told_among}
use Rattle.sn_snap.proofs.listing.list.Goals as goal

pub loop-snapshot-init : goal.loop-snapshot-init
loop-snapshot-init c = record {
  keys = c.new-names.ensures ∙ sym (no_keys Entry);
  few = omega (arith, ap length c.new-names.ensures);
}

pub loop-snapshot-preserved-then-is_among : goal.loop-snapshot-preserved-then-is_among
loop-snapshot-preserved-then-is_among c =
    let list = c.args.snapshots.now in
    let i = c.loop-snapshot.snapshot-index in
    let s = c.snapshot-item.result in
    let item : s ≡ get_or list i s = c.snapshot-item.is ∙ ap (λ (l : List Snapshot). get_or l i s) c.as_slice-snapshot-items.ensures.value in
    let within : i < length list = omega (arith, c.loop-snapshot-test.true, ap length c.as_slice-snapshot-items.ensures.value) in
    let again = told_among entry_of list i s c.deref.result.now true item (c.deref.ensures.0 ∙ c.loop-snapshot.invariant.keys) (sym c.is_among.ensures ∙ c.if-is_among.true) in
    record {
      keys = c.loop-snapshot.invariant.keys ∙ sym (keys_same entry_of list i s within again);
      few = omega (arith, c.loop-snapshot.invariant.few);
    }

pub loop-snapshot-preserved : goal.loop-snapshot-preserved
loop-snapshot-preserved c =
    let list = c.args.snapshots.now in
    let i = c.loop-snapshot.snapshot-index in
    let s = c.snapshot-item.result in
    let held = c.loop-snapshot.names.items in
    let names = map.keys (catalogue (take i list)) in
    let item : s ≡ get_or list i s = c.snapshot-item.is ∙ ap (λ (l : List Snapshot). get_or l i s) c.as_slice-snapshot-items.ensures.value in
    let within : i < length list = omega (arith, c.loop-snapshot-test.true, ap length c.as_slice-snapshot-items.ensures.value) in
    let index : c.unwrap_or-index.result ≡ index_among s.name held =
    c.unwrap_or-index.ensures ∙ goes_to s.name held c.deref-in-loop-snapshot.result.now c.first_greater.result c.len.result c.deref-in-loop-snapshot.ensures.0 c.first_greater.ensures c.len.ensures.value in
    let new = told_among entry_of list i s c.deref.result.now false item (c.deref.ensures.0 ∙ c.loop-snapshot.invariant.keys) (sym c.is_among.ensures ∙ c.if-is_among.false) in
    record {
      keys = c.insert.ensures.items
          ∙ ap (λ p. insert held p c.copy.result) index
          ∙ ap (insert held (index_among s.name held)) c.copy.ensures
          ∙ ap (λ l. insert l (index_among s.name l) s.name) c.loop-snapshot.invariant.keys
          ∙ ap (λ (x : Snapshot). insert names (index_among x.name names) x.name) item
          ∙ sym (keys_more entry_of list i s within new);
      few = omega (arith, c.insert.ensures.len, c.loop-snapshot.invariant.few);
    }
