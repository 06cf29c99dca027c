-- A new file: it is opened, written, closed, and gets its rights.
use Rattle.std.proofs.Common.{◌≡◌, ◌||◌, ℕ, Bool, true, false, cond, List, [], ◌∷◌, ◌++◌, Option, Some, refl, sym, ap, subst, ◌∙◌, true≢false}
use Rattle.std.specs.Prelude.{IsOk, is_ok, nat_lt, Result, Ok, Err}
use Rattle.std.specs.FinMap as map
use Rattle.sn_limits.specs.declared.limits.Limits.{Limits}
use Rattle.sn_walk.specs.declared.object.Home.TheVariants.{Live}
use Rattle.sn_walk.specs.declared.object.Object.{Object as Thing}
use Rattle.sn_walk.specs.declared.object.Object.TheVariants as thing
use Rattle.sn_walk.specs.Objects.{root}
use Rattle.sn_model.specs.declared.call.Call.TheVariants as call
use Rattle.sn_model.specs.declared.reply.Errno.TheVariants.{Estopped}
use Rattle.sn_model.specs.declared.reply.Reply.{Reply}
use Rattle.sn_model.specs.Denials.{led_to}
use Rattle.sn_model.specs.Descriptors.{closed}
use Rattle.sn_model.specs.Tree.{Node, link_cmp}
use Rattle.sn_model.specs.World.{Descriptor, World, descriptor_cmp, trees_of, viewed_trees}
use Rattle.sn_model.specs.Worlds.{IsWorld}
use Rattle.sn_model.proofs.DecisionLemmas.{same_ok}
use Rattle.sn_model.proofs.HeldLemmas.{descriptors_total, exact_descriptors}
use Rattle.sn_model.proofs.MapLemmas.{get_left, get_removed}
use Rattle.sn_model.proofs.WorldLemmas.{step_world}
use Rattle.sn_import.specs.Calls.{given, new_file, opening_from}
use Rattle.sn_import.specs.Writes.{writes_of}
use Rattle.sn_import.specs.declared.object.Object.{Object}
use Rattle.sn_import.specs.declared.object.Rights.{Rights}
use Rattle.sn_import.specs.declared.object.What.{What}
use Rattle.sn_import.specs.declared.object.What.TheVariants.{File}
use Rattle.sn_import.specs.declared.opening.Opening.TheVariants.{Make}
use Rattle.sn_import_calls.specs.Acts.{Act, Called}
use Rattle.sn_import_calls.specs.Answers.{answer, descriptor}
use Rattle.sn_import_calls.specs.Carried.{AreMade, last_descriptor, number_in}
use Rattle.sn_import_files.specs.Entries.{filling}
use Rattle.sn_import_calls.specs.declared.stop.Stop.{Stop}
use Rattle.sn_import_calls.specs.declared.stop.Stop.TheVariants.{Refused}
use Rattle.sn_import_laws.specs.Contents.{IsFilled, at_end}
use Rattle.sn_import_laws.specs.Files.{IsMadeFile, IsNewFile, file_node}
use Rattle.sn_import_laws.specs.Rights.{AreRights, as_file, has_bits, with_access, with_owner}
use Rattle.sn_import_laws.specs.Runs.{IsRoots, Runs}
use Rattle.sn_import_laws.specs.Trees.{IsTurned}
use Rattle.sn_import_laws.proofs.Closing.{close_put}
use Rattle.sn_import_laws.proofs.Contents.{all_written}
use Rattle.sn_import_laws.proofs.Opening.{IsEmpty, IsOpened, open_put}
use Rattle.sn_import_laws.proofs.Rights.{file_given}
use Rattle.sn_import_laws.proofs.Steps.{done, first as first_of, led_same, made_split, no_refusal, none as none_of, run_first, runs_split, still_roots}
use Rattle.sn_import_laws.proofs.Writes.{with_more}

-- ---- the node

file_is : (rights : Rights) (node : Node) (content : List ℕ) → IsEmpty node → as_file rights (with_more node content) ≡ file_node rights content
file_is rights node content e = told rights.set_gid rights.sticky refl refl
  where
    given_node : Node
    given_node = with_access rights (with_owner rights (with_more node content))

    bytes : node.bytes ++ content ≡ content
    bytes = ap (λ (bs : List ℕ). bs ++ content) e.bytes

    bits : (set_gid sticky : Bool) → Node
    bits set_gid sticky = record {
      kind = node.kind;
      owner = rights.user;
      group = rights.group;
      set_gid = set_gid;
      sticky = sticky;
      acl = rights.access;
      default_acl = node.default_acl;
      bytes = node.bytes ++ content;
    }

    same : bits rights.set_gid rights.sticky ≡ file_node rights content
    same = λ i. record {
      kind = e.kind i;
      owner = rights.user;
      group = rights.group;
      set_gid = rights.set_gid;
      sticky = rights.sticky;
      acl = rights.access;
      default_acl = e.default_acl i;
      bytes = bytes i;
    }

    picked : (b : Bool) → has_bits rights ≡ b → cond b (bits rights.set_gid rights.sticky) (bits node.set_gid node.sticky) ≡ file_node rights content → as_file rights (with_more node content) ≡ file_node rights content
    picked b is chosen = ap (λ (t : Bool). cond t (bits rights.set_gid rights.sticky) (bits node.set_gid node.sticky)) is ∙ chosen

    told : (g s : Bool) → rights.set_gid ≡ g → rights.sticky ≡ s → as_file rights (with_more node content) ≡ file_node rights content
    told true s g_is s_is = picked true (ap (λ (t : Bool). t || rights.sticky) g_is) same
    told false true g_is s_is = picked true (ap (λ (t : Bool). t || rights.sticky) g_is ∙ s_is) same
    told false false g_is s_is = picked false (ap (λ (t : Bool). t || rights.sticky) g_is ∙ s_is) ((λ i. bits ((e.set_gid ∙ sym g_is) i) ((e.sticky ∙ sym s_is) i)) ∙ same)

-- ---- the descriptor

same_descriptor : (n : ℕ) → IsOk (descriptor n) → number_in (descriptor n) ≡ n
same_descriptor n fine = told (nat_lt n 4294967296) refl
  where
    ok : ℕ → Result ℕ Stop
    ok m = Ok m

    stopped : Result ℕ Stop
    stopped = Err (Refused Estopped)

    told : (b : Bool) → nat_lt n 4294967296 ≡ b → number_in (descriptor n) ≡ n
    told true is = ap (λ (t : Bool). number_in (cond t (ok n) stopped)) is
    told false is = absurd (true≢false (sym fine ∙ ap (λ (t : Bool). is_ok (cond t (ok n) stopped)) is))

-- ---- a new file stays one

abbrev some_thing : ℕ → Option Thing
some_thing n = Some (thing.Node Live n)

-- it is written
new_filled : (old middle new : World) (path : List ℕ) (fd : ℕ) (x y : Node) (n : IsNewFile old middle path fd x) → IsFilled middle new fd n.number y → IsNewFile old new path fd y
new_filled old middle new path fd x y n f = record {
  number = n.number;
  link = n.link;
  at = record { names = n.at.names; spelled = n.at.spelled; led = led_same middle new root n.at.names f.turns.links f.frozen ∙ n.at.led; there = f.filling.there };
  named = ap (λ (ls : map.FinMap link_cmp ℕ). map.get ls n.link) f.turns.links ∙ n.named;
  unused = n.unused;
  absent = n.absent;
  nodes = λ other apart. f.turns.nodes other apart ∙ n.nodes other apart;
  links = λ other apart. ap (λ (ls : map.FinMap link_cmp ℕ). map.get ls other) f.turns.links ∙ n.links other apart;
  frozen = f.frozen ∙ n.frozen;
  sessions = f.sessions ∙ n.sessions;
  descriptors = λ session other apart. f.descriptors session other apart ∙ n.descriptors session other apart;
}

-- it is closed
new_closed : (old middle new : World) (path : List ℕ) (fd : ℕ) (x : Node) → IsNewFile old middle path fd x → new ≡ record middle { descriptors = closed middle.descriptors 0 fd } → IsMadeFile old new path x
new_closed old middle new path fd x n is = subst (λ (w : World). IsMadeFile old w path x) (sym is) (record {
  fd = fd;
  file = record {
    number = n.number;
    link = n.link;
    at = record { names = n.at.names; spelled = n.at.spelled; led = n.at.led; there = n.at.there };
    named = n.named;
    unused = n.unused;
    absent = n.absent;
    nodes = n.nodes;
    links = n.links;
    frozen = n.frozen;
    sessions = n.sessions;
    descriptors = λ session other apart. get_left descriptors_total exact_descriptors middle.descriptors (0, fd) (session, other) apart ∙ n.descriptors session other apart;
  };
  closed = get_removed descriptors_total middle.descriptors (0, fd);
})

-- it gets its rights
new_turned : (old middle new : World) (path : List ℕ) (x : Node) (f : Node → Node) → IsMadeFile old middle path x → IsTurned middle new path f → IsMadeFile old new path (f x)
new_turned old middle new path x f m t =
    let n = m.file in
    let names : n.at.names ≡ t.at.names = same_ok n.at.names t.at.names (sym n.at.spelled ∙ t.at.spelled) in
    let number : t.number ≡ n.number = one_number t.number n.number (sym t.at.led ∙ ap (led_to (viewed_trees (trees_of middle)) root) (sym names) ∙ n.at.led) in
    let node : t.node ≡ x = one_node t.node x (sym t.at.there ∙ ap (map.get middle.live.nodes) number ∙ n.at.there) in
    let made : map.get new.live.nodes n.number ≡ Some (f x) = ap (map.get new.live.nodes) (sym number) ∙ t.turns.made ∙ ap (λ (y : Node). Some (f y)) node in
    record {
      fd = m.fd;
      file = record {
        number = n.number;
        link = n.link;
        at = record { names = n.at.names; spelled = n.at.spelled; led = led_same middle new root n.at.names t.turns.links t.frozen ∙ n.at.led; there = made };
        named = ap (λ (ls : map.FinMap link_cmp ℕ). map.get ls n.link) t.turns.links ∙ n.named;
        unused = n.unused;
        absent = n.absent;
        nodes = λ other apart. t.turns.nodes other (λ is. apart (is ∙ number)) ∙ n.nodes other apart;
        links = λ other apart. ap (λ (ls : map.FinMap link_cmp ℕ). map.get ls other) t.turns.links ∙ n.links other apart;
        frozen = t.frozen ∙ n.frozen;
        sessions = t.sessions ∙ n.sessions;
        descriptors = λ session other apart. ap (λ (ds : map.FinMap descriptor_cmp Descriptor). map.get ds (session, other)) t.descriptors ∙ n.descriptors session other apart;
      };
      closed = ap (λ (ds : map.FinMap descriptor_cmp Descriptor). map.get ds (0, m.fd)) t.descriptors ∙ m.closed;
    }
  where
    one_number : (a b : ℕ) → some_thing a ≡ some_thing b → a ≡ b
    one_number a b e = let same : thing.Node Live a ≡ thing.Node Live b = cc in cc same

    one_node : (a b : Node) → Some a ≡ Some b → a ≡ b
    one_node a b e = cc

-- ---- the calls

-- after the file is open
after_open : (limits : Limits) (old middle new : World) (object : Object) (rights : Rights) (content : List ℕ) (fd : ℕ) (acts : List Act) → IsWorld limits middle → IsRoots old → AreRights rights
    → IsOpened old middle object.path fd → AreMade (File rights) (writes_of fd content ++ call.Close fd ∷ given object.path (File rights)) [] acts → Runs limits middle acts new
    → IsMadeFile old new object.path (file_node rights content)
unfolding new_filled
after_open limits old middle new object rights content fd acts whole roots are o made runs =
    let what = File rights in
    let number = o.file.number in
    let x = with_more o.node content in
    let s = made_split what (writes_of fd content) (call.Close fd ∷ given object.path what) acts made in
    let r = runs_split limits middle new s.front s.back (subst (λ (xs : List Act). Runs limits middle xs new) s.acts_are runs) in
    let w = all_written limits middle r.0 what fd number o.node content s.front whole o.filling s.first r.1 in
    let n = new_filled old middle r.0 object.path fd o.node x o.file w.filled in
    let c = run_first limits r.0 new what (call.Close fd) (given object.path what) s.back s.second r.2 in
    let d = done limits r.0 0 (call.Close fd) c.reply c.between (no_refusal what (call.Close fd) c.reply (λ errno. refl) c.fine) c.step in
    let is = close_put limits r.0 c.between fd (at_end number x) n.link c.reply w.still w.filled.filling.descriptor n.named d in
    let m = new_closed old r.0 c.between object.path fd x n is in
    let t = file_given limits c.between new object.path rights what c.others (step_world limits r.0 c.between 0 (call.Close fd) c.reply c.step tt w.still) (still_roots old c.between m.file.sessions roots) are c.left c.runs in
    subst (λ (y : Node). IsMadeFile old new object.path y) (file_is rights o.node content o.empty) (new_turned old c.between new object.path x (as_file rights) m t)

pub files_are_made : (limits : Limits) (old new : World) (object : Object) (rights : Rights) (content : List ℕ) (first more : List Act) → IsWorld limits old → IsRoots old → AreRights rights → object.what ≡ File rights
    → AreMade object.what (opening_from Make object) [] first → AreMade object.what (filling (last_descriptor object.what first) object content) [] more → Runs limits old (first ++ more) new
    → IsMadeFile old new object.path (file_node rights content)
files_are_made limits old new object rights content first more whole roots are is opens fills runs =
    made_at object.what is opens fills
  where
    made_at : (what : What) → what ≡ File rights → AreMade what (opening_from Make (record object { what = what })) [] first
        → AreMade what (filling (last_descriptor what first) (record object { what = what }) content) [] more → IsMadeFile old new object.path (file_node rights content)
    made_at what kind opens_it fills_it =
        let Opens_it : What → Type 0 = λ w. AreMade w (opening_from Make (record object { what = w })) [] first in
        let Fills_it : What → Type 0 = λ w. AreMade w (filling (last_descriptor w first) (record object { what = w }) content) [] more in
        as_file_made (subst Opens_it kind opens_it) (subst Fills_it kind fills_it)
      where
        as_file_made : AreMade (File rights) (call.Open object.path new_file 384 ∷ []) [] first
            → AreMade (File rights) (writes_of (last_descriptor (File rights) first) content ++ call.Close (last_descriptor (File rights) first) ∷ given object.path (File rights)) [] more
            → IsMadeFile old new object.path (file_node rights content)
        as_file_made open_made rest_made =
            let w = File rights in
            let c = call.Open object.path new_file 384 in
            let r = runs_split limits old new first more runs in
            let a = first_of w c [] first open_made in
            let none : a.others ≡ [] = none_of w a.others a.left in
            let acts : first ≡ Called c a.reply ∷ [] = a.acts_are ∙ ap (λ (xs : List Act). Called c a.reply ∷ xs) none in
            let ran = subst (λ (xs : List Act). Runs limits old xs r.0) acts r.1 in
            let d = done limits old 0 c a.reply ran.0 (no_refusal w c a.reply (λ errno. refl) a.fine) ran.1 in
            let o = open_put limits old ran.0 object.path a.reply whole d in
            let middle : r.0 ≡ ran.0 = ran.2 in
            let fine : IsOk (descriptor o.fd) = subst (λ (reply : Reply). IsOk (answer w c reply)) o.told a.fine in
            let fd : last_descriptor w first ≡ o.fd =
            ap (last_descriptor w) acts ∙ ap (λ (reply : Reply). number_in (answer w c reply)) o.told ∙ same_descriptor o.fd fine in
            after_open limits old ran.0 new object rights content o.fd more (step_world limits old ran.0 0 c a.reply ran.1 tt whole) roots are o.opened_so
            (subst (λ (n : ℕ). AreMade w (writes_of n content ++ call.Close n ∷ given object.path w) [] more) fd rest_made)
            (subst (λ (v : World). Runs limits v more new) middle r.2)
