use Rattle.std.proofs.Common.{◌≡◌, ◌+◌, ◌/◌, ◌%◌, ◌≤◌, ℕ, List, ◌++◌, length, drop, take, vec_len, sym, ap, ◌∙◌, arith}
use Rattle.std.specs.FinMap as map
use Rattle.sn_model.specs.Tree.{Tree}
use Rattle.sn_overlay.specs.Keys.{file_block_at}
use Rattle.sn_overlay.specs.Layers.{bytes_of}
use Rattle.sn_overlay.specs.Seen.{seen_block}
use Rattle.sn_live_files.proofs.ByteLemmas.{read_more}
use Rattle.sn_live_files.proofs.bytes.gathered.Goals as goal

pub loop-bytes-preserved : goal.loop-bytes-preserved
loop-bytes-preserved g c =
    let bytes = bytes_of (map.get (g.B.Below.shows c.args.tree.now).nodes c.args.number) in
    let so_far = c.len-in-loop-bytes.result in
    let step = c.count_within-step.result in
    let part = λ (t : Tree). take step (drop ((c.args.offset + so_far) % 4096) (seen_block t (file_block_at c.args.number ((c.args.offset + so_far) / 4096)))) in
    record {
      kept = c.push_part.ensures.left.0;
      follows = g.met.B.Below.follows_on _ _ _ c.loop-bytes.invariant.follows c.push_part.ensures.left.1;
      same = λ told. c.push_part.ensures.left.2 told ∙ c.loop-bytes.invariant.same told;
      few = omega (arith, c.in_ok-push_part.ensures.longer, c.count_within-step.ensures.most);
      read = λ told.
          let within : c.args.offset + so_far + step ≤ length bytes = omega (arith, c.requires.within told, c.count_within-step.ensures.most, c.len-in-loop-bytes.ensures) in
          let longer : so_far + step ≡ vec_len c.push_part.new.bytes = omega (arith, c.in_ok-push_part.ensures.longer, c.len-in-loop-bytes.ensures) in
          c.in_ok-push_part.ensures.bytes told
          ∙ ap (λ (t : Tree). c.loop-bytes.bytes.items ++ part t) (c.loop-bytes.invariant.same told)
          ∙ ap (λ (b : List ℕ). b ++ part (g.B.Below.shows c.args.tree.now)) (c.loop-bytes.invariant.read told ∙ ap (λ (n : ℕ). take n (drop c.args.offset bytes)) (sym c.len-in-loop-bytes.ensures))
          ∙ read_more bytes c.args.offset so_far step c.count_within-step.ensures.within within
          ∙ ap (λ (n : ℕ). take n (drop c.args.offset bytes)) longer;
    }
