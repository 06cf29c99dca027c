use Rattle.sn_content.proofs.LawLemmas.{grown_content_end, cut_content_end, kept_content_end, content_byte}
use Rattle.sn_content.proofs.laws.content_laws.Goals as goal

pub returns-clause-grown : goal.returns-clause-grown
returns-clause-grown c = grown_content_end

pub returns-clause-cut : goal.returns-clause-cut
returns-clause-cut c = cut_content_end

pub returns-clause-bytes : goal.returns-clause-bytes
returns-clause-bytes c = content_byte

pub returns-clause-kept : goal.returns-clause-kept
returns-clause-kept c = kept_content_end
