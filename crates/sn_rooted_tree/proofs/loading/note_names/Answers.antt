use Rattle.sn_rooted_tree.proofs.CountLemmas.{noting_none}
use Rattle.sn_rooted_tree.proofs.loading.note_names.Goals as goal

pub loop-listed-init : goal.loop-listed-init
loop-listed-init c = noting_none c.args.directory c.args.names.now c.args.directories.now
