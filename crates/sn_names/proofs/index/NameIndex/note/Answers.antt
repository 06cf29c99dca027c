use Rattle.std.proofs.Common.{◌≡◌, Some, set, refl, sym, subst, rules, arith}
use Rattle.std.specs.List.{Contains}
use Rattle.sn_names.specs.Ordered.{numbers_of}
use Rattle.sn_names.specs.Search.{HasAll}
use Rattle.sn_names.specs.declared.ordered.OrderedNumbers.{OrderedNumbers}
use Rattle.sn_names.specs.Index.{entries_of}
use Rattle.sn_names.proofs.LearnLemmas.{learned}
use Rattle.sn_names.proofs.index.NameIndex.note.Goals as goal

pub returns-in_ok-settle-clause-told : goal.returns-in_ok-settle-clause-told
returns-in_ok-settle-clause-told c = λ sectors s told bytes.
    let index = c.args.self.now in
    let new = c.pass_known.new.self in
    let rooms : new.rooms.items ≡ set index.rooms.items c.args.i (Some c.room_of.result) = search rules in
    let on : HasAll (numbers_of c.list_names.new.entries) (numbers_of c.settle.new.self) = λ n has. c.in_ok-settle.ensures n (subst (λ (e : OrderedNumbers). Contains (numbers_of e) n) (sym c.pass_known.ensures.entries) has) in
    learned sectors s index.tree new.tree index.numbers.items new.numbers.items index.rooms.items new.rooms.items (entries_of index) (numbers_of c.settle.new.self)
    c.args.i c.args.number c.room_of.result c.args.block.now c.in-Some.names
    c.pass_known.ensures.tree c.pass_known.ensures.numbers rooms (λ n has. on n (c.in_ok-list_names.ensures.kept n has)) (λ k d within. on _ (c.in_ok-list_names.ensures.listed k d within))
    c.in-Some.ensures.found c.room_of.ensures (let w = c.if-not-awaits.ensures.within refl in omega (arith, w, index.beside)) (c.if-not-awaits.ensures.there refl) (c.if-not-awaits.ensures.somewhere refl)
    told bytes

pub returns-else-self-len-clause-told : goal.returns-else-self-len-clause-told
returns-else-self-len-clause-told c = λ sectors s told bytes.
    let index = c.args.self.now in
    let new = c.pass_known.new.self in
    let rooms : new.rooms.items ≡ set index.rooms.items c.args.i (Some c.room_of.result) = search rules in
    let on : HasAll (numbers_of c.list_names.new.entries) (entries_of new) = λ n has. subst (λ (e : OrderedNumbers). Contains (numbers_of e) n) (sym c.pass_known.ensures.entries) has in
    learned sectors s index.tree new.tree index.numbers.items new.numbers.items index.rooms.items new.rooms.items (entries_of index) (entries_of new)
    c.args.i c.args.number c.room_of.result c.args.block.now c.in-Some.names
    c.pass_known.ensures.tree c.pass_known.ensures.numbers rooms (λ n has. on n (c.in_ok-list_names.ensures.kept n has)) (λ k d within. on _ (c.in_ok-list_names.ensures.listed k d within))
    c.in-Some.ensures.found c.room_of.ensures (let w = c.if-not-awaits.ensures.within refl in omega (arith, w, index.beside)) (c.if-not-awaits.ensures.there refl) (c.if-not-awaits.ensures.somewhere refl)
    told bytes
