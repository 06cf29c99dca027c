use Rattle.std.proofs.Common.{◌≡◌, ◌≤◌, ◌+◌, ◌-◌, ◌*◌, ◌∙◌, List, Some, drop, length, slice_get, sym, ap, refl, arith}
use Rattle.std.proofs.lemmas.List.{take_all, length-drop}
use Rattle.std.proofs.lemmas.Option.{slice_get_past}
use Rattle.byteorder.specs.Endian.{little_number}
use Rattle.sn_fuse.proofs.Forgetting.{length-forgets_in, get-forgets_in}
use Rattle.sn_fuse.specs.declared.forgets.Forget.{Forget}
use Rattle.sn_fuse.proofs.forgets.Forgets.get.Goals as goal

pub returns-then-index-self : goal.returns-then-index-self
returns-then-index-self c =
    let count = sym (ap length c.self.view_is) ∙ length-forgets_in c.self.inside.count c.self.inside.bytes.now in
    let past : length c.args.self.now ≤ c.args.index = omega (arith, count) in
    sym (slice_get_past c.args.self.now c.args.index past)

pub returns : goal.returns
returns c =
    let i = c.args.index in
    let bytes = c.self.inside.bytes.now in
    let node : c.read_u64.result ≡ little_number 8 (drop (16 * i) bytes) = c.read_u64.ensures ∙ ap (little_number 8) (take_all (length bytes - 16 * i) (drop (16 * i) bytes) (omega (arith, length-drop (16 * i) bytes))) in
    let lookups : c.read_u64-2.result ≡ little_number 8 (drop (16 * i + 8) bytes) = c.read_u64-2.ensures ∙ ap (little_number 8) (take_all (length bytes - (16 * i + 8)) (drop (16 * i + 8) bytes) (omega (arith, length-drop (16 * i + 8) bytes))) in
    let read : Forget = record { node = c.read_u64.result; lookups = c.read_u64-2.result } in
    let stands : Forget = record { node = little_number 8 (drop (16 * i) bytes); lookups = little_number 8 (drop (16 * i + 8) bytes) } in
    let same : read ≡ stands = rw (node, lookups) refl in
    ap Some same ∙ sym (get-forgets_in c.self.inside.count i bytes c.if-index-self.false) ∙ ap (λ (fs : List Forget). slice_get fs i) c.self.view_is
