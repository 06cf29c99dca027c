use Rattle.std.proofs.Common.{ℕ, ◌+◌, ◌*◌, ◌≤◌, length, replicate, arith}
use Rattle.std.proofs.lemmas.List.{length-replicate}
use Rattle.sn_device.specs.Disk.{reads}
use Rattle.sn_block.specs.Lending.{device_of}
use Rattle.sn_check_roots.proofs.WordLemmas.{words_read}
use Rattle.sn_check_roots.proofs.words.read_words.Goals as goal

pub returns-clause-words : goal.returns-clause-words
returns-clause-words g c told =
    let device = device_of c.args.blocks.now in
    let disk = reads (g.D.Device.disk device) in
    let room : 8 * c.args.number + 8 ≤ length disk = omega (arith, c.requires.room, g.met.D.Device.count device told) in
    words_read disk c.args.number (replicate 1024 0) c.read_map_words.new.words c.in_ok-read_block.field-0.now (g.met.D.Device.whole device told) room (length-replicate {A = ℕ} 1024 0) c.read_map_words.auto.words
    c.read_map_words.ensures.fits (c.in_ok-read_block.ensures.bytes told) c.read_map_words.ensures.words
