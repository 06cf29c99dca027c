use Rattle.std.proofs.Common.{◌≡◌, ◌+◌, ◌<◌, ◌≤◌, List, [], ◌∷◌, ◌++◌, length, map, take, get_or, take_all, sym, ap, subst, ◌∙◌, arith}
use Rattle.std.specs.Prelude.{is_some}
use Rattle.std.proofs.lemmas.List.{length-map}
use Rattle.sn_layout_node.specs.Directory.{Link, number_of}
use Rattle.sn_dir_change.specs.Changes.{IsChange, needed_changes}
use Rattle.sn_dir_change.specs.Standing.{change_of, seen}
use Rattle.sn_dir_change.specs.UnderWay.{AreParted}
use Rattle.sn_dir_change.specs.declared.name_change.NameChange.{NameChange as TheChange}
use Rattle.sn_dir_change.specs.declared.standing.Sought.{Sought}
use Rattle.sn_tree.proofs.ListLemmas.{mapped_at}
use Rattle.sn_dir_change.proofs.PartLemmas.{sought_more, sought_stands, needed_more}
use Rattle.sn_dir_change.proofs.pending.Pending.of.Goals as goal

pub add-requires : goal.add-requires
add-requires c =
    let i = c.loop-sought.sought-index in
    let list = c.args.list.now in
    let item = c.sought-item.result in
    let is : c.change.result ≡ (get_or list i item).change = c.change.ensures ∙ ap (λ (s : Sought). s.change) c.sought-item.is in
    subst IsChange (sym is) (c.requires _ (mapped_at change_of list i item (omega (arith, c.loop-sought-test.true))))

pub loop-sought-preserved : goal.loop-sought-preserved
loop-sought-preserved c =
    let i = c.loop-sought.sought-index in
    let list = c.args.list.now in
    let new = c.add.new.self in
    let item = c.sought-item.result in
    let within : i < length list = omega (arith, c.loop-sought-test.true) in
    let is : c.change.result ≡ (get_or list i item).change = c.change.ensures ∙ ap (λ (s : Sought). s.change) c.sought-item.is in
    let more = λ (names : List Link) (changes : List TheChange) (all : list ≡ map (seen names) changes).
    sought_more names changes list all i item within ∙ ap (λ (x : TheChange). take i changes ++ x ∷ []) (sym is) in
    let stands = λ (names : List Link) (changes : List TheChange) (all : list ≡ map (seen names) changes).
    ap (λ (s : Sought). s.stands) c.sought-item.is ∙ sought_stands names changes list all i item within ∙ ap (λ (x : TheChange). is_some (number_of x.name.now names)) (sym is) in
    record {
      few = omega (arith, c.in_ok-add.ensures.few, c.loop-sought.invariant.few);
      needed = λ names changes all. subst (λ (xs : List TheChange). length new.standing.items + length new.waiting.items ≤ needed_changes names xs) (sym (more names changes all))
          (needed_more names (take i changes) _ _ _ _ (stands names changes all) (c.loop-sought.invariant.needed names changes all) c.in_ok-add.ensures.needed);
      standing = c.in_ok-add.ensures.standing c.loop-sought.invariant.standing;
      waiting = c.in_ok-add.ensures.waiting c.loop-sought.invariant.waiting;
      puts = c.in_ok-add.ensures.puts c.loop-sought.invariant.puts;
      parted = λ names changes all. subst (λ (xs : List TheChange). AreParted names xs new.standing.items new.waiting.items) (sym (more names changes all))
          (c.in_ok-add.ensures.parted names (take i changes) (stands names changes all) (c.loop-sought.invariant.parted names changes all));
    }

pub returns-clause-parted : goal.returns-clause-parted
returns-clause-parted c = λ names changes all.
    let pending = c.loop-sought.pending in
    let i = c.loop-sought.sought-index in
    let whole : take i changes ≡ changes = take_all i changes (omega (arith, c.loop-sought-test.false, ap (λ (xs : List Sought). length xs) all, length-map changes (seen names))) in
    subst (λ (xs : List TheChange). AreParted names xs pending.standing.items pending.waiting.items) whole (c.loop-sought.invariant.parted names changes all)

pub returns-clause-needed : goal.returns-clause-needed
returns-clause-needed c = λ names changes all.
    let pending = c.loop-sought.pending in
    let i = c.loop-sought.sought-index in
    let whole : take i changes ≡ changes = take_all i changes (omega (arith, c.loop-sought-test.false, ap (λ (xs : List Sought). length xs) all, length-map changes (seen names))) in
    subst (λ (xs : List TheChange). length pending.standing.items + length pending.waiting.items ≤ needed_changes names xs) whole (c.loop-sought.invariant.needed names changes all)
