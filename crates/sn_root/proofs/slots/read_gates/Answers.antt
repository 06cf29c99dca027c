use Rattle.std.proofs.Common.{◌≡◌, ◌≤◌, List, ℕ, length, take, drop, sym, ◌∙◌, ap, subst, arith}
use Rattle.sn_device.specs.Sectors.{sector_at}
use Rattle.sn_device.specs.Disk.{reads}
use Rattle.sn_layout.specs.Gate.{gate_of}
use Rattle.sn_block.specs.Lending.{device_of}
use Rattle.sn_root.proofs.SlotLemmas.{sector_read}
use Rattle.sn_root.proofs.slots.read_gates.Goals as goal

pub returns-clause-gates : goal.returns-clause-gates
returns-clause-gates g c told =
    let device = device_of c.args.blocks.now in
    let disk = reads (g.D.Device.disk device) in
    let whole = g.met.D.Device.whole device told in
    let room : 32 ≤ length disk = subst (λ n. 32 ≤ n) (sym (g.met.D.Device.count device told)) c.requires.room in
    let block = c.in_ok-block.ensures.bytes told in
    let first : c.sector_of.result ≡ sector_at disk 24 = c.sector_of.ensures ∙ ap (λ (b : List ℕ). take 512 b) block ∙ sector_read disk 3 0 whole room (omega arith) in
    let second : c.sector_of-2.result ≡ sector_at disk 25 = c.sector_of-2.ensures ∙ ap (λ (b : List ℕ). take 512 (drop 512 b)) block ∙ sector_read disk 3 1 whole room (omega arith) in
    (sym (c.decode-gate_a.ensures ∙ ap gate_of first), sym (c.decode-gate_b.ensures ∙ ap gate_of second))
