use Rattle.sn_walk.proofs.PieceLemmas.{all_names, few_pieces}
use Rattle.std.proofs.Common.{◌≡◌, true}
use Rattle.std.specs.List.{list_all}
use Rattle.sn_limits.specs.Names.{is_name_spelled, has_name_length}
use Rattle.sn_walk.specs.Paths.{pieces}
use Rattle.sn_walk.proofs.path.Path.of_names.Goals as goal

pub invariant_of-result : goal.invariant_of-result
invariant_of-result c =
    let spelled : list_all is_name_spelled (pieces c.args.text.now) ≡ true = cc (c.if-not-are_spelled.false, c.are_spelled.ensures) in
    let short : list_all has_name_length (pieces c.args.text.now) ≡ true = cc (c.if-not-have_length.false, c.have_length.ensures) in
    (all_names (pieces c.args.text.now) spelled short, few_pieces c.args.text.now 1023 c.requires)
