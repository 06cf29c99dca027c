use Rattle.std.proofs.Common.{sym, ◌∙◌}
use Rattle.std.proofs.lemmas.Result.{on_ok_weaker}
use Rattle.sn_device.specs.Disk.{reads}
use Rattle.sn_block.specs.Lending.{device_of}
use Rattle.sn_ondisk.specs.Trees.{store_of}
use Rattle.sn_image.specs.Sound.{IsLinked}
use Rattle.sn_sound.specs.Maps.{Rooted, rooted_in}
use Rattle.sn_sound.specs.Verdicts.{OfSome}
use Rattle.sn_marks.proofs.WalkLemmas.{told_weaker}
use Rattle.sn_census.specs.Faults.{StandsInLinks}
use Rattle.sn_check_roots.specs.Seen.{IsFirstSeen}
use Rattle.sn_check_roots.proofs.FirstLemmas.{root_within}
use Rattle.sn_check_roots.proofs.RootedLemmas.{each_more}
use Rattle.sn_check_roots.proofs.SeenLemmas.{found_one, linked_too}
use Rattle.sn_check_roots.proofs.linking.link_one.Goals as goal

pub returns-then-is_some-clause-linked : goal.returns-then-is_some-clause-linked
returns-then-is_some-clause-linked g c told =
    let found = found_one (IsFirstSeen (rooted_in c.args.root.now) c.args.i) c.seen_before.result (sym c.is_some.ensures ∙ c.if-is_some.true) c.seen_before.ensures.seen in
    linked_too (store_of (reads (g.D.Device.disk (device_of c.args.blocks.now)))) c.args.root.now c.args.i found.0 c.requires.within found.1 (c.requires.linked told)

pub count_links-requires : goal.count_links-requires
count_links-requires g c =
    let r : Rooted = record { bit = c.root_at.result.bit; inodes = c.root_at.result.file } in
    record {
      checked = λ told. record { blocks = c.args.geometry; room = c.requires.room; sound = c.requires.checked told r (root_within c.args.root.now c.args.i r c.requires.within (c.root_at.ensures.root r)) };
    }

pub returns-clause-linked : goal.returns-clause-linked
returns-clause-linked g c told =
    let s = store_of (reads (g.D.Device.disk (device_of c.args.blocks.now))) in
    let r : Rooted = record { bit = c.root_at.result.bit; inodes = c.root_at.result.file } in
    on_ok_weaker c.count_links.result
    (λ (linked : IsLinked s r.inodes). each_more (λ (q : Rooted). IsLinked s q.inodes) (rooted_in c.args.root.now) c.args.i r r c.requires.within (c.root_at.ensures.root r) (c.requires.linked told) linked)
    (c.count_links.ensures.linked told)

pub returns-clause-fault : goal.returns-clause-fault
returns-clause-fault g c told =
    let s = store_of (reads (g.D.Device.disk (device_of c.args.blocks.now))) in
    let r : Rooted = record { bit = c.root_at.result.bit; inodes = c.root_at.result.file } in
    told_weaker c.count_links.result
    (StandsInLinks s r.inodes c.args.body)
    (λ damage block. OfSome c.args.root.now (λ q. StandsInLinks s q.inodes c.args.body damage block))
    (λ damage block wrong. (r, root_within c.args.root.now c.args.i r c.requires.within (c.root_at.ensures.root r), wrong))
    (c.count_links.ensures.fault told)
