-- What a layer has of one directory and of one file, as lists in the order of keys.
use Rattle.std.specs.Prelude.{ℕ, not, ◌==◌, List, Option}
use Rattle.std.specs.FinMap as fin
use Rattle.sn_model.specs.declared.link.Link.{Link}
use Rattle.sn_overlay.specs.declared.file_block.FileBlock.{FileBlock}
use Rattle.sn_overlay.specs.Layers.{Layer}

-- the names of a directory that changed, each with its number, or none
unfoldable pub changed_names : Layer → ℕ → List (Link × Option ℕ)
changed_names layer directory = fin.entries (fin.retain_keys layer.names (λ link. link.directory == directory))

-- the blocks of a file that were written, each with its bytes
unfoldable pub written_blocks : Layer → ℕ → List (FileBlock × List ℕ)
written_blocks layer file = fin.entries (fin.retain_keys layer.blocks (λ file_block. file_block.file == file))

-- the layer without them
unfoldable pub without_blocks : Layer → ℕ → Layer
without_blocks layer file = record layer { blocks = fin.retain_keys layer.blocks (λ file_block. not (file_block.file == file)) }
