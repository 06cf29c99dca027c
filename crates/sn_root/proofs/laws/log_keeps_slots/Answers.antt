use Rattle.std.proofs.Common.{◌≡◌}
use Rattle.sn_device.specs.Sectors.{Single}
use Rattle.sn_device.proofs.CrashLemmas.{Always-kept}
use Rattle.sn_layout.specs.Geometry.{gate_sector}
use Rattle.sn_ondisk.specs.Blocks.{InBlock}
use Rattle.sn_ondisk.specs.Gates.{IsClosed}
use Rattle.sn_ondisk.specs.LogHalf.{InHalf, base_of}
use Rattle.sn_ondisk.specs.Roots.{body_block, HasRoot}
use Rattle.sn_root.specs.Slots.{gate_in}
use Rattle.sn_root.proofs.ReplacingLemmas.{gate_depends, closed_depends, root_depends, log_and_gate, log_and_body}
use Rattle.sn_root.proofs.laws.log_keeps_slots.Goals as goal

pub returns-clause-gates : goal.returns-clause-gates
returns-clause-gates c n epoch slot gate old new whole touched here =
    Always-kept (InHalf (base_of n epoch)) (Single (gate_sector slot)) (λ d. gate_in d slot ≡ gate) (gate_depends slot gate) (log_and_gate n epoch slot) old new whole here touched

pub returns-clause-closed : goal.returns-clause-closed
returns-clause-closed c n epoch slot old new whole touched here =
    Always-kept (InHalf (base_of n epoch)) (Single (gate_sector slot)) (λ d. IsClosed d (gate_sector slot)) (closed_depends slot) (log_and_gate n epoch slot) old new whole here touched

pub returns-clause-bodies : goal.returns-clause-bodies
returns-clause-bodies c n epoch slot root old new whole touched here =
    Always-kept (InHalf (base_of n epoch)) (InBlock (body_block slot)) (λ d. HasRoot d slot root) (root_depends slot root) (log_and_body n epoch slot) old new whole here touched
