use Rattle.sn_listings.proofs.ReadingLemmas.{answer_told, fitting_whole, reads_ended, reads_joined}
use Rattle.sn_listings.proofs.laws.entries_are_read_once.Goals as goal

pub returns : goal.returns
returns c = record {
  whole = fitting_whole;
  told = answer_told;
  joined = λ rooms listing. reads_joined rooms 0 listing;
  ended = reads_ended;
}
