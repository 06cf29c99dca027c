use Rattle.std.proofs.Common.{Some, None, sym, ap, ◌∙◌}
use Rattle.std.specs.FinMap as map
use Rattle.std.proofs.lemmas.Result.{IfOk-weaker}
use Rattle.sn_nodes.specs.Names.{Named}
use Rattle.sn_nodes.specs.Stored.{directories_of}
use Rattle.sn_nodes.proofs.ListingLemmas.{keys-empty}
use Rattle.sn_nodes.proofs.NamesLemmas.{names_there}
use Rattle.sn_nodes.proofs.links.Links.names.Goals as goal

pub returns-in-Some : goal.returns-in-Some
unfolding directories_of
returns-in-Some c =
    let there = names_there c.args.self.now.directories.entries c.args.directory (Some c.in-Some.names.now) (sym c.in-Some.ensures.value) in
    IfOk-weaker c.words_of.result _ _ (λ _ listed. listed ∙ ap (λ (n : Named). map.keys n) (sym there)) c.words_of.ensures

pub returns-in-None : goal.returns-in-None
unfolding directories_of
returns-in-None c =
    let there = names_there c.args.self.now.directories.entries c.args.directory None (sym c.in-None.ensures.value) in
    c.new.ensures.items ∙ sym keys-empty ∙ ap (λ (n : Named). map.keys n) (sym there)
