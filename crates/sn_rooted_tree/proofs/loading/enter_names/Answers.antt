use Rattle.sn_rooted_tree.proofs.CountLemmas.{one_more}
use Rattle.sn_rooted_tree.proofs.loading.enter_names.Goals as goal

pub returns : goal.returns
returns c tree whole listed numbers before =
    one_more tree c.args.directory c.args.names.now listed numbers c.args.directories.now c.set_names.new.self c.note_names.new.directories c.count_of.result c.count_of.ensures (whole.few.names c.args.directory) before c.set_names.ensures c.note_names.ensures
