-- The writes of a content.
use Rattle.sn_walk.specs.declared.object.Home.TheVariants.{Live}
use Rattle.std.proofs.Common.{◌≡◌, ◌+◌, ◌-◌, ◌<◌, ◌==◌, ℕ, Bool, true, false, cond, List, [], ◌++◌, Option, Some, Result, Ok, Err, length, drop, replicate, refl, sym, ap, subst, ◌∙◌, length-append, arith}
use Rattle.std.specs.Prelude.{ok_or, nat_lt}
use Rattle.std.specs.List.{list_all}
use Rattle.std.specs.FinMap as map
use Rattle.std.specs.Cmp.{nat_cmp_total}
use Rattle.std.proofs.lemmas.Bool.{ne_eqb}
use Rattle.std.proofs.lemmas.List.{append-nil, length-drop, nil_from_length, take_at}
use Rattle.std.proofs.lemmas.Map.Lookups.{exact_unsigned}
use Rattle.sn_limits.specs.declared.limits.Limits.{Limits}
use Rattle.sn_walk.specs.Chains.{◌>>=◌}
use Rattle.sn_walk.proofs.ChainLemmas.{bind_ok}
use Rattle.sn_model.specs.declared.call.Call.TheVariants as call
use Rattle.sn_model.specs.declared.outcome.Outcome.{Outcome}
use Rattle.sn_model.specs.declared.reply.Errno.TheVariants.{Ebadf, Einval}
use Rattle.sn_model.specs.declared.reply.Refusal.{Refusal}
use Rattle.sn_model.specs.declared.reply.Reply.{Reply}
use Rattle.sn_model.specs.declared.reply.Reply.TheVariants as reply
use Rattle.sn_model.specs.Calls.{Ready, outcome_of, ready}
use Rattle.sn_model.specs.Changes.{overwritten, put_node, resized}
use Rattle.sn_model.specs.Descriptors.{moved_if, opened, writable_at}
use Rattle.sn_model.specs.FileCalls.{bytes_argument, count_argument, is_size, open_bytes, write_offset, write_outcome, write_some, writes}
use Rattle.sn_model.specs.Outcomes.{tells}
use Rattle.sn_model.specs.Steps.{Comes}
use Rattle.sn_model.specs.Tests.{logged_in, plain}
use Rattle.sn_model.specs.Tree.{Node, Tree}
use Rattle.sn_model.specs.Settling.{dropped}
use Rattle.sn_model.specs.World.{Descriptor, World, descriptor_cmp}
use Rattle.sn_model.specs.Worlds.{IsWorld}
use Rattle.sn_model.proofs.DecisionLemmas.{ok, same_ok}
use Rattle.sn_model.proofs.HeldLemmas.{descriptors_total, exact_descriptors}
use Rattle.sn_model.proofs.MapLemmas.{get_inserted, get_other}
use Rattle.sn_model.proofs.PartLemmas.{file_is, written_is}
use Rattle.sn_import_laws.specs.Contents.{IsFilled, IsFilling, at_end}
use Rattle.sn_import_laws.specs.Trees.{Turns}
use Rattle.sn_import_laws.proofs.Held.{files_put, held_put, stays}
use Rattle.sn_import_laws.proofs.Setting.{goes_on, ready_ok}
use Rattle.sn_import_laws.proofs.Steps.{IsDone}

-- ---- bytes at the end

abbrev pub with_more : Node → List ℕ → Node
with_more node bytes = record node { bytes = node.bytes ++ bytes }

none_after : (xs : List ℕ) (more : ℕ) → drop (length xs + more) xs ≡ []
none_after xs more = nil_from_length (drop (length xs + more) xs) (omega (arith, length-drop (length xs + more) xs))

appended : (xs bytes : List ℕ) → overwritten xs (length xs) bytes ≡ xs ++ bytes
appended xs bytes =
    let whole : resized xs (length xs) ≡ xs = take_at xs (replicate (length xs - length xs) 0) (length xs) refl in
    ap (λ (front : List ℕ). front ++ (bytes ++ drop (length xs + length bytes) xs)) whole
    ∙ ap (λ (back : List ℕ). xs ++ (bytes ++ back)) (none_after xs (length bytes))
    ∙ ap (λ (back : List ℕ). xs ++ back) (append-nil bytes)

-- ---- what a write decides

abbrev write_ready : ℕ → List ℕ → Ready
write_ready fd bytes = λ limits w. write_outcome limits w 0 fd bytes

bytes_same : (word bytes : List ℕ) → bytes_argument word ≡ Ok bytes → bytes ≡ word
bytes_same word bytes e =
    let p = bind_ok (count_argument (length word)) (λ _. cond (list_all (λ b. nat_lt b 256) word) (ok word) (Err (plain Einval))) bytes e in
    told (list_all (λ b. nat_lt b 256) word) p.2
  where
    told : (b : Bool) → cond b (ok word) (Err (plain Einval)) ≡ Ok bytes → bytes ≡ word
    told true f = sym (same_ok word bytes f)
    told false f = cc

-- the write of a file at its end
some_at : (limits : Limits) (old : World) (fd number : ℕ) (node : Node) (bytes : List ℕ) (o : Outcome) → IsFilling old fd number node → 0 < length bytes → write_outcome limits old 0 fd bytes ≡ Ok o
    → o ≡ writes limits fd number (length node.bytes) bytes
unfolding write_outcome write_some
some_at limits old fd number node bytes o f some e =
    let D = at_end number node in
    let next = λ (d : Descriptor). cond (length bytes == 0) (ok (tells (reply.Number 0))) (write_some limits fd d.number (write_offset d (open_bytes old d)) bytes) in
    let at : writable_at old.descriptors 0 fd ≡ Ok D = ap (λ (x : Option Descriptor). ok_or x (plain Ebadf) >>= (λ d. cond d.writable (one d) (Err (plain Ebadf)))) f.descriptor in
    let here : next D ≡ Ok o = sym (ap (λ (x : Result Descriptor Refusal). x >>= next) at) ∙ e in
    let writes_some : write_some limits fd number (length node.bytes) bytes ≡ Ok o =
    sym (ap (λ (b : Bool). cond b (ok (tells (reply.Number 0))) (write_some limits fd number (length node.bytes) bytes)) (ne_eqb (length bytes) 0 (λ none. omega (arith, some, none)))) ∙ here in
    let q = bind_ok (is_size limits (length node.bytes + length bytes)) (λ _. ok (writes limits fd number (length node.bytes) bytes)) o writes_some in
    sym (same_ok (writes limits fd number (length node.bytes) bytes) o q.2)
  where
    one : Descriptor → Result Descriptor Refusal
    one d = Ok d

decides : (limits : Limits) (old new : World) (fd number : ℕ) (node : Node) (bytes : List ℕ) (answer : Reply) → IsFilling old fd number node → 0 < length bytes → (d : IsDone limits old 0 (call.Write fd bytes) answer new)
    → d.outcome ≡ writes limits fd number (length node.bytes) bytes
decides limits old new fd number node bytes answer f some d =
    let o = d.outcome in
    let r = bind_ok (ready old 0 (call.Write fd bytes)) (outcome_of limits old) o d.decided in
    let p = bind_ok (logged_in old 0) (λ _. bytes_argument bytes >>= (λ asked. ready_ok (write_ready fd asked))) r.0 r.1 in
    let q = bind_ok (bytes_argument bytes) (λ asked. ready_ok (write_ready fd asked)) r.0 p.2 in
    let e = goes_on limits old (write_ready fd q.0) r.0 o q.2 r.2 in
    some_at limits old fd number node bytes o f some (subst (λ (bs : List ℕ). write_outcome limits old 0 fd bs ≡ Ok o) (bytes_same bytes q.0 q.1) e)

-- ---- what it leaves

-- the world after it
abbrev written_world : World → ℕ → ℕ → Node → World
written_world old fd number node = record old { live = put_node old.live number node; descriptors = opened old.descriptors 0 fd (at_end number node) }

pub write_put : (limits : Limits) (old new : World) (fd number : ℕ) (node : Node) (bytes : List ℕ) (answer : Reply) → IsWorld limits old → IsFilling old fd number node → 0 < length bytes → IsDone limits old 0 (call.Write fd bytes) answer new
    → new ≡ written_world old fd number (with_more node bytes)
write_put limits old new fd number node bytes answer w f some d =
    let size = length node.bytes in
    let D = at_end number node in
    let x = with_more node bytes in
    let c = subst (λ (o : Outcome). Comes limits old 0 o new) (decides limits old new fd number node bytes answer f some d) d.comes in
    let is = written_is limits old.live number size bytes c.tree c.applied in
    let one : is.node ≡ node = one_node is.node node (sym (file_is old.live number is.node is.file).0 ∙ f.there) in
    let tree : c.tree ≡ put_node old.live number x =
    sym is.gives ∙ ap (λ (m : Node). put_node old.live number (record m { bytes = overwritten m.bytes size bytes })) one
    ∙ ap (λ (all : List ℕ). put_node old.live number (record node { bytes = all })) (appended node.bytes bytes) in
    let moved : Descriptor = record D { offset = size + length bytes } in
    let same : moved ≡ at_end number x = ap (λ (n : ℕ). record D { offset = n }) (sym (length-append node.bytes bytes)) in
    let table = ap (moved_if old.descriptors 0 fd (size + length bytes)) f.descriptor ∙ ap (opened old.descriptors 0 fd) same in
    let after = λ (t : Tree) (ds : map.FinMap descriptor_cmp Descriptor). dropped (record old { live = t; descriptors = ds }) in
    c.world ∙ ap (λ (t : Tree). after t (moved_if old.descriptors 0 fd (size + length bytes) (map.get old.descriptors (0, fd)))) tree
    ∙ ap (after (put_node old.live number x)) table
    ∙ stays limits old (put_node old.live number x) (opened old.descriptors 0 fd (at_end number x)) w (record {
      files = λ m k z. (files_put old.live number node x f.there refl m k, z);
      held = λ m z h. held_put old.descriptors 0 fd (at_end number x) (λ old_one is_old. same_file old_one (sym is_old ∙ f.descriptor)) m h;
    })
  where
    one_node : (a b : Node) → Some a ≡ Some b → a ≡ b
    one_node a b e = cc

    same_file : (old_one : Descriptor) → Some old_one ≡ Some (at_end number node) → (Live ≡ old_one.home) × (number ≡ old_one.number)
    same_file old_one e =
        let same : old_one ≡ at_end number node = cc in
        (ap (λ (y : Descriptor). y.home) (sym same), ap (λ (y : Descriptor). y.number) (sym same))

pub write_filled : (limits : Limits) (old new : World) (fd number : ℕ) (node : Node) (bytes : List ℕ) (answer : Reply) → IsWorld limits old → IsFilling old fd number node → 0 < length bytes → IsDone limits old 0 (call.Write fd bytes) answer new
    → IsFilled old new fd number (with_more node bytes)
write_filled limits old new fd number node bytes answer w f some d =
    let x = with_more node bytes in
    let is = write_put limits old new fd number node bytes answer w f some d in
    let made = ap (λ (v : World). map.get v.live.nodes number) is ∙ get_inserted nat_cmp_total old.live.nodes number x in
    record {
      filling = record { there = made; kind = f.kind; descriptor = ap (λ (v : World). map.get v.descriptors (0, fd)) is ∙ get_inserted descriptors_total old.descriptors (0, fd) (at_end number x) };
      turns = record {
        made = made;
        nodes = λ other apart. ap (λ (v : World). map.get v.live.nodes other) is ∙ get_other nat_cmp_total exact_unsigned old.live.nodes number x other apart;
        links = ap (λ (v : World). v.live.links) is;
      };
      frozen = ap (λ (v : World). v.frozen) is;
      sessions = ap (λ (v : World). v.sessions) is;
      descriptors = λ session other apart. ap (λ (v : World). map.get v.descriptors (session, other)) is ∙ get_other descriptors_total exact_descriptors old.descriptors (0, fd) (at_end number x) (session, other) apart;
    }

-- ---- one after the other

pub turns_again : (a b c : Tree) (number : ℕ) (x y : Node) → Turns a b number x → Turns b c number y → Turns a c number y
turns_again a b c number x y s t = record { made = t.made; nodes = λ other apart. t.nodes other apart ∙ s.nodes other apart; links = t.links ∙ s.links }

pub filled_again : (a b c : World) (fd number : ℕ) (x y : Node) → IsFilled a b fd number x → IsFilled b c fd number y → IsFilled a c fd number y
filled_again a b c fd number x y s t = record {
  filling = t.filling;
  turns = turns_again a.live b.live c.live number x y s.turns t.turns;
  frozen = t.frozen ∙ s.frozen;
  sessions = t.sessions ∙ s.sessions;
  descriptors = λ session other apart. t.descriptors session other apart ∙ s.descriptors session other apart;
}

pub filled_none : (world : World) (fd number : ℕ) (node : Node) → IsFilling world fd number node → IsFilled world world fd number node
filled_none world fd number node f = record {
  filling = f;
  turns = record { made = f.there; nodes = λ other apart. refl; links = refl };
  frozen = refl;
  sessions = refl;
  descriptors = λ session other apart. refl;
}
