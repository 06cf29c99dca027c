use Rattle.sn_import_files.proofs.Contents.{came_call}
use Rattle.sn_import_files.proofs.Entry.{kept_made, memory_calls}
use Rattle.sn_import_files.proofs.entries.carry_kept.Goals as goal

pub returns-clause-made : goal.returns-clause-made
returns-clause-made g c =
    let k = c.in_ok-carry.ensures in
    (k.0, came_call _ _ k.0 _ _ _ (memory_calls c.args.object c.keep.result c.keep.ensures.memory) k.1, (k.2.0, k.2.1, kept_made c.args.object c.args.size k.0 k.2.0 _ c.keep.ensures.memory k.2.2))
