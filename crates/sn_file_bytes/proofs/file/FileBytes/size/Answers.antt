use Rattle.std.proofs.Common.{sym, ap, ◌∙◌, length}
use Rattle.sn_file_bytes.specs.Blocks.{byte_at}
use Rattle.sn_file_bytes.proofs.ListLemmas.{length-values_from}
use Rattle.sn_file_bytes.proofs.file.FileBytes.size.Goals as goal

pub returns : goal.returns
returns c = sym (length-values_from (byte_at c.self.inside.blocks.map.entries) 0 c.self.inside.size) ∙ ap length c.self.view_is
