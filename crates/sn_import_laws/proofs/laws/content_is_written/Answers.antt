use Rattle.sn_import_laws.proofs.Contents.{content_is_written}
use Rattle.sn_import_laws.proofs.laws.content_is_written.Goals as goal

pub returns : goal.returns
returns c = content_is_written
