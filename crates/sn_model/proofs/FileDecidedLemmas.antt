-- The outcomes of the calls on descriptors.
use Rattle.std.proofs.Common.{◌≡◌, ℕ, zero, suc, ◌+◌, ◌==◌, ◌<◌, ◌≤◌, Bool, true, false, cond, nat_le, nat_lt, List, [], ◌∷◌, Option, Some, None, Ok, Err, length, take, drop, is_some, refl, sym, ap, subst, ◌∙◌, arith, lt-ltb}
use Rattle.std.specs.Prelude.{IsSomeAnd, ok_or}
use Rattle.std.specs.FinMap as map
use Rattle.std.specs.List.{list_all}
use Rattle.std.specs.Option.{option_and_then}
use Rattle.std.proofs.lemmas.Bool.{leb-true}
use Rattle.sn_limits.specs.declared.kind.Kind.TheVariants.{File}
use Rattle.sn_limits.specs.declared.limits.Limits.{Limits}
use Rattle.sn_walk.specs.declared.object.Home.{Home}
use Rattle.sn_walk.specs.declared.object.Home.TheVariants.{Live, Frozen}
use Rattle.sn_walk.specs.Chains.{◌>>=◌}
use Rattle.sn_walk.proofs.ChainLemmas.{bind_ok}
use Rattle.sn_model.specs.declared.call.Call.{Call}
use Rattle.sn_model.specs.declared.call.Call.TheVariants as call
use Rattle.sn_model.specs.declared.change.Change.TheVariants.{SetSize}
use Rattle.sn_model.specs.declared.reply.Errno.TheVariants.{Ebadf, Efbig, Einval}
use Rattle.sn_model.specs.declared.reply.Reply.TheVariants as reply
use Rattle.sn_model.specs.Changes.{cut, is_file, written}
use Rattle.sn_model.specs.Descriptors.{Descriptors, descriptor_at, is_offset, readable_at, writable_at}
use Rattle.sn_model.specs.FileCalls.{bytes_argument, bytes_of, close_outcome, count_argument, file_charge, ftruncate_outcome, is_size, open_bytes, read_outcome, reads, seek_outcome, write_offset, write_outcome, write_some, writes}
use Rattle.sn_model.specs.NameTree.{HasKind, IsTree}
use Rattle.sn_model.specs.Outcomes.{Closes, LogsOut, Moves, Outcome, tells, asks, does}
use Rattle.sn_model.specs.Tests.{plain}
use Rattle.sn_model.specs.Tree.{Node, Tree}
use Rattle.sn_model.specs.World.{Descriptor, World, tree_in, trees_of}
use Rattle.sn_model.specs.Worlds.{IsWorld}
use Rattle.sn_model.proofs.ChainLemmas.{and_both}
use Rattle.sn_model.proofs.DecisionLemmas.{ok, same_ok}
use Rattle.sn_model.proofs.MoveLemmas.{some_node}
use Rattle.sn_model.proofs.OutcomeLemmas.{IsDecided, done, turned}
use Rattle.sn_model.proofs.PartLemmas.{cut_of, is_file_at, written_of}

-- ---- tests that have passed

abbrev some_descriptor : Descriptor → Option Descriptor
some_descriptor d = Some d

found_is : (o : Option Descriptor) (d : Descriptor) → ok_or o (plain Ebadf) ≡ Ok d → o ≡ Some d
found_is None d e = cc
found_is (Some x) d e = ap some_descriptor (same_ok x d e)

asked_is : (b : Bool) (x d : Descriptor) → cond b (ok x) (Err (plain Ebadf)) ≡ Ok d → (b ≡ true) × (x ≡ d)
asked_is true x d e = (refl, same_ok x d e)
asked_is false x d e = cc

readable_is : (table : Descriptors) (session fd : ℕ) (d : Descriptor) → readable_at table session fd ≡ Ok d → map.get table (session, fd) ≡ Some d
readable_is table session fd d e =
    let p = bind_ok (descriptor_at table session fd) (λ x. cond x.readable (ok x) (Err (plain Ebadf))) d e in
    found_is (map.get table (session, fd)) p.0 p.1 ∙ ap some_descriptor (asked_is p.0.readable p.0 d p.2).1

writable_is : (table : Descriptors) (session fd : ℕ) (d : Descriptor) → writable_at table session fd ≡ Ok d → (map.get table (session, fd) ≡ Some d) × (d.writable ≡ true)
writable_is table session fd d e =
    let p = bind_ok (descriptor_at table session fd) (λ x. cond x.writable (ok x) (Err (plain Ebadf))) d e in
    let a = asked_is p.0.writable p.0 d p.2 in
    (found_is (map.get table (session, fd)) p.0 p.1 ∙ ap some_descriptor a.1, ap (λ (x : Descriptor). x.writable) (sym a.1) ∙ a.0)

offset_is : (limits : Limits) (offset to : ℕ) → is_offset limits offset ≡ Ok to → to ≤ limits.largest_file
offset_is limits offset to e = told (nat_le offset limits.largest_file) refl e
  where
    told : (b : Bool) → nat_le offset limits.largest_file ≡ b → cond b (ok offset) (Err (plain Einval)) ≡ Ok to → to ≤ limits.largest_file
    told true t f = subst (λ (n : ℕ). n ≤ limits.largest_file) (same_ok offset to f) (leb-true offset limits.largest_file t)
    told false t f = cc

size_is : (limits : Limits) (size : ℕ) (u : Unit {0}) → is_size limits size ≡ Ok u → nat_le size limits.largest_file ≡ true
size_is limits size u e = told (nat_le size limits.largest_file) e
  where
    told : (b : Bool) → cond b (ok tt) (Err (plain Efbig)) ≡ Ok u → b ≡ true
    told true f = refl
    told false f = cc

pub record AreBytes (bytes : List ℕ) : Type 0 where
  pub few : length bytes ≤ 65536
  pub small : list_all (λ b. nat_lt b 256) bytes ≡ true

pub bytes_are : (word bytes : List ℕ) → bytes_argument word ≡ Ok bytes → AreBytes bytes
bytes_are word bytes e =
    let p = bind_ok (count_argument (length word)) (λ _. cond (list_all (λ b. nat_lt b 256) word) (ok word) (Err (plain Einval))) bytes e in
    told (nat_le (length word) 65536) (list_all (λ b. nat_lt b 256) word) refl refl p.1 p.2
  where
    told : (a b : Bool) → nat_le (length word) 65536 ≡ a → list_all (λ b. nat_lt b 256) word ≡ b → {n : ℕ} → cond a (ok (length word)) (Err (plain Einval)) ≡ Ok n → cond b (ok word) (Err (plain Einval)) ≡ Ok bytes → AreBytes bytes
    told true true s t f g = subst AreBytes (same_ok word bytes g) (record { few = leb-true (length word) 65536 s; small = t })
    told true false s t f g = cc
    told false b s t f g = cc

-- ---- open files

module _ (limits : Limits) (world : World) (w : IsWorld limits world) where
  node_size : (tree : Tree) (number : ℕ) → IsTree limits tree → (o : Option Node) → map.get tree.nodes number ≡ o → length (bytes_of o) ≤ limits.largest_file
  node_size tree number whole None e = omega arith
  node_size tree number whole (Some node) e = (whole.nodes.nodes number node e).size

  pub open_size : (d : Descriptor) → length (open_bytes world d) ≤ limits.largest_file
  open_size d = told d.home
    where
      frozen : (name : List ℕ) (o : Option Tree) → map.get world.frozen name ≡ o → length (bytes_of (option_and_then (λ (tree : Tree). map.get tree.nodes d.number) o)) ≤ limits.largest_file
      frozen name None e = omega arith
      frozen name (Some tree) e = node_size tree d.number (w.frozen name tree e) (map.get tree.nodes d.number) refl

      told : (home : Home) → length (open_bytes world (record d { home = home })) ≤ limits.largest_file
      told Live = node_size world.live d.number w.live (map.get world.live.nodes d.number) refl
      told (Frozen name) = frozen name (map.get world.frozen name) refl

  -- what is written to is a live file
  pub live_file : (session fd : ℕ) (d : Descriptor) → map.get world.descriptors (session, fd) ≡ Some d → d.writable ≡ true → HasKind world.live d.number File
  live_file session fd d e writes =
      let f = w.open_files session fd d e in
      subst (λ (home : Home). IsSomeAnd (tree_in (trees_of world) home) (λ tree. HasKind tree d.number File)) (f.live writes) f.file

-- a read doesn't pass the largest file
pub read_few : (count offset : ℕ) (bytes : List ℕ) (most : ℕ) → offset ≤ most → length bytes ≤ most → offset + length (take count (drop offset bytes)) ≤ most
read_few count zero bytes most a b = omega (arith, taken count bytes, b)
  where
    taken : (n : ℕ) (xs : List ℕ) → length (take n xs) ≤ length xs
    taken zero xs = omega arith
    taken (suc n) [] = omega arith
    taken (suc n) (x ∷ xs) = omega (arith, taken n xs)
read_few count (suc offset) [] most a b = omega (arith, none count, a)
  where
    none : (n : ℕ) → length (take {A = ℕ} n []) ≡ 0
    none zero = refl
    none (suc n) = refl
read_few count (suc offset) (x ∷ bytes) zero a b = absurd (omega (arith, a))
read_few count (suc offset) (x ∷ bytes) (suc most) a b = omega (arith, read_few count offset bytes most (omega (arith, a)) (omega (arith, b)))

-- ---- the calls

module _ (limits : Limits) (world : World) (session : ℕ) where
  abbrev Decides : Call → Outcome → Type 0
  Decides c o = IsDecided limits world session c o

  -- a session ends
  pub logout_is : (o : Outcome) → ok (asks LogsOut reply.Done) ≡ Ok o → Decides call.Logout o
  logout_is o e = subst (Decides call.Logout) (same_ok _ o e) (turned limits world session call.Logout refl LogsOut reply.Done (λ r f. cc f) (λ f. cc f) (λ k w. tt))

  pub close_is : (fd : ℕ) (o : Outcome) → close_outcome world.descriptors session fd ≡ Ok o → Decides (call.Close fd) o
  unfolding close_outcome
  close_is fd o e =
      let p = bind_ok (descriptor_at world.descriptors session fd) (λ _. ok (asks (Closes fd) reply.Done)) o e in
      subst (Decides (call.Close fd)) (same_ok _ o p.2) (turned limits world session (call.Close fd) refl (Closes fd) reply.Done (λ r f. cc f) (λ f. cc f) (λ k w. tt))

  pub seek_is : (fd offset : ℕ) (o : Outcome) → seek_outcome limits world.descriptors session fd offset ≡ Ok o → Decides (call.Seek fd offset) o
  unfolding seek_outcome
  seek_is fd offset o e =
      let p = bind_ok (descriptor_at world.descriptors session fd) (λ _. is_offset limits offset >>= (λ to. ok (asks (Moves fd to) (reply.Number to)))) o e in
      let q = bind_ok (is_offset limits offset) (λ to. ok (asks (Moves fd to) (reply.Number to))) o p.2 in
      subst (Decides (call.Seek fd offset)) (same_ok _ o q.2) (turned limits world session (call.Seek fd offset) refl (Moves fd q.0) (reply.Number q.0) (λ r f. cc f) (λ f. cc f) (λ k w. offset_is limits offset q.0 q.1))

  pub reads_is : (fd argument count : ℕ) (o : Outcome) → read_outcome world session fd count ≡ Ok o → Decides (call.Read fd argument) o
  unfolding read_outcome
  reads_is fd argument count o e =
      let bytes = λ (d : Descriptor). take count (drop d.offset (open_bytes world d)) in
      let p = bind_ok (readable_at world.descriptors session fd) (λ d. ok (reads fd d (bytes d))) o e in
      let at = readable_is world.descriptors session fd p.0 p.1 in
      subst (Decides (call.Read fd argument)) (same_ok _ o p.2) (turned limits world session (call.Read fd argument) refl (Moves fd (p.0.offset + length (bytes p.0))) (reply.Content (bytes p.0)) (λ r f. cc f) (λ f. cc f)
      (λ k w. read_few count p.0.offset (open_bytes world p.0) limits.largest_file (w.open_files session fd p.0 at).offset (open_size limits world w p.0)))

  write_applies : (d : Descriptor) (fd offset : ℕ) (bytes : List ℕ) → AreBytes bytes → (length bytes == 0) ≡ false → nat_le (offset + length bytes) limits.largest_file ≡ true → map.get world.descriptors (session, fd) ≡ Some d → d.writable ≡ true → IsWorld limits world → is_some (written limits world.live d.number offset bytes) ≡ true
  write_applies d fd offset bytes are some few at writes w =
      let s = some_node _ File (live_file limits world w session fd d at writes) in
      ap is_some (written_of limits world.live d.number offset bytes _ (record {
        node = s.0;
        file = is_file_at world.live d.number s.0 s.1 (ap is_file s.2);
        fits = and_both _ _ (and_both _ _ (lt-ltb 0 (length bytes) (more (length bytes) some)) few) are.small;
        gives = refl;
      }))
    where
      more : (n : ℕ) → (n == 0) ≡ false → 0 < n
      more zero f = cc
      more (suc n) f = omega arith

  some_written : (d : Descriptor) (fd : ℕ) (word bytes : List ℕ) (o : Outcome) → AreBytes bytes → (length bytes == 0) ≡ false → map.get world.descriptors (session, fd) ≡ Some d → d.writable ≡ true → write_some limits fd d.number (write_offset d (open_bytes world d)) bytes ≡ Ok o → Decides (call.Write fd word) o
  unfolding write_some
  some_written d fd word bytes o are some at is e =
      let offset = write_offset d (open_bytes world d) in
      let p = bind_ok (is_size limits (offset + length bytes)) (λ _. ok (writes limits fd d.number offset bytes)) o e in
      let few = size_is limits (offset + length bytes) p.0 p.1 in
      subst (Decides (call.Write fd word)) (same_ok _ o p.2) (record {
        answers = λ r f. cc f;
        left = tt;
        of_old = are.few;
        keeps = λ h. (tt, tt);
        charged = λ h. omega (arith, h);
        pays = omega arith;
        takes = tt;
        opens = λ f. cc f;
        applies = λ n l w f. write_applies d fd offset bytes are some few at is w;
        fits = λ k w. leb-true (offset + length bytes) limits.largest_file few;
        points = record { asks = refl; alone = tt; fits = tt };
      })

  pub write_is : (fd : ℕ) (word bytes : List ℕ) (o : Outcome) → AreBytes bytes → write_outcome limits world session fd bytes ≡ Ok o → Decides (call.Write fd word) o
  unfolding write_outcome
  write_is fd word bytes o are e =
      let some = λ (d : Descriptor). write_some limits fd d.number (write_offset d (open_bytes world d)) bytes in
      let p = bind_ok (writable_at world.descriptors session fd) (λ d. cond (length bytes == 0) (ok (tells (reply.Number 0))) (some d)) o e in
      let at = writable_is world.descriptors session fd p.0 p.1 in
      told p.0 at.0 at.1 (length bytes == 0) refl p.2
    where
      told : (d : Descriptor) → map.get world.descriptors (session, fd) ≡ Some d → d.writable ≡ true → (b : Bool) → (length bytes == 0) ≡ b → cond b (ok (tells (reply.Number 0))) (write_some limits fd d.number (write_offset d (open_bytes world d)) bytes) ≡ Ok o → Decides (call.Write fd word) o
      told d at is true t f = subst (Decides (call.Write fd word)) (same_ok _ o f) (told_number)
        where
          told_number : Decides (call.Write fd word) (tells (reply.Number 0))
          told_number = turned limits world session (call.Write fd word) refl _ (reply.Number 0) (λ r f. cc f) (λ f. cc f) (λ k w. tt)
      told d at is false t f = some_written d fd word bytes o are t at is f

  pub ftruncate_is : (fd size : ℕ) (o : Outcome) → ftruncate_outcome limits world.descriptors session fd size ≡ Ok o → Decides (call.Ftruncate fd size) o
  unfolding ftruncate_outcome
  ftruncate_is fd size o e =
      let p = bind_ok (writable_at world.descriptors session fd) (λ d. is_size limits size >>= (λ _. ok (does (file_charge limits 1) (SetSize d.number size)))) o e in
      let q = bind_ok (is_size limits size) (λ _. ok (does (file_charge limits 1) (SetSize p.0.number size))) o p.2 in
      let at = writable_is world.descriptors session fd p.0 p.1 in
      subst (Decides (call.Ftruncate fd size)) (same_ok _ o q.2) (done limits world session (call.Ftruncate fd size) refl (file_charge limits 1) (SetSize p.0.number size) (omega arith) tt tt (λ _. tt) (λ h. omega (arith, h)) (λ w. applies p.0 at.0 at.1 (size_is limits size q.0 q.1) w))
    where
      applies : (d : Descriptor) → map.get world.descriptors (session, fd) ≡ Some d → d.writable ≡ true → nat_le size limits.largest_file ≡ true → IsWorld limits world → is_some (cut limits world.live d.number size) ≡ true
      applies d at is few w =
          let s = some_node _ File (live_file limits world w session fd d at is) in
          ap is_some (cut_of limits world.live d.number size _ (record { node = s.0; file = is_file_at world.live d.number s.0 s.1 (ap is_file s.2); fits = few; gives = refl }))
