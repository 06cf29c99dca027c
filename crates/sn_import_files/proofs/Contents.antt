-- The content of a file, as it comes.
use Rattle.std.proofs.Common.{◌≡◌, ℕ, ◌+◌, ◌-◌, ◌<◌, ◌≤◌, min, true, false, List, [], ◌++◌, length, take, ⊎_elim, sym, ap, subst, ◌∙◌, append_assoc, length-append, take-take, arith}
use Rattle.std.specs.Prelude.{Option, Some, None, Result, Ok, Err, IfErr, IsErrAnd}
use Rattle.std.proofs.Math.Seq.{take-append-add, take-nil}
use Rattle.std.proofs.lemmas.List.{append-nil, length-take-le, take-append-le}
use Rattle.std.proofs.lemmas.Bool.{cases_lt, false≢true}
use Rattle.sn_import.specs.Calls.{closing_calls}
use Rattle.sn_import.specs.Writes.{Unwritten, writes, writes_of}
use Rattle.sn_import.specs.declared.object.Object.{Object}
use Rattle.sn_import.specs.declared.object.What.{What}
use Rattle.sn_untar.specs.Steps.{State}
use Rattle.sn_import_calls.specs.Acts.{Act, calls_in}
use Rattle.sn_import_calls.specs.Carried.{AreMade, Goes, IsStopped, is_outside, stop_of}
use Rattle.sn_import_files.specs.Entries.{IsFilled, filling}
use Rattle.sn_import_files.specs.Files.{Arrives, Came, Comes, IsWritten}
use Rattle.sn_import_calls.specs.Stops.{is_call}
use Rattle.sn_import_files.specs.Streams.{Part, Takes, with_content}
use Rattle.sn_import_calls.specs.declared.stop.Stop.{Stop}
use Rattle.sn_import_calls.specs.declared.stop.Stop.TheVariants.{Refused, Memory, Damaged, Ended, Unread}
use Rattle.sn_import_calls.proofs.Made.{broken_at, made_as, made_more, made_with, stopped_after, stopped_as, stopped_with}
use Rattle.sn_import_files.proofs.Parts.{content_more, content_of_none, takes_more, takes_none}

-- ---- what came

pub arrives_none : (s : State) (i : Option (List ℕ)) → Arrives s i [] s i
arrives_none s i parts = subst (λ (ps : List Part). Takes s parts i ps s i) (sym (content_of_none parts)) (takes_none s parts i)

pub arrives_more : (s : State) (i : Option (List ℕ)) (a : List ℕ) (t : State) (j : Option (List ℕ)) (b : List ℕ) (u : State) (k : Option (List ℕ))
    → Arrives s i a t j → Arrives t j b u k → Arrives s i (a ++ b) u k
arrives_more s i a t j b u k g h parts =
    subst (λ (ps : List Part). Takes s parts i ps u k) (content_more parts a b) (takes_more s parts i (with_content parts a) t j (with_content (with_content parts a) b) u k (g parts) (h (with_content parts a)))

-- a call is the reason, so that the archive can be read on
pub came_call : {A : Type 0} (s : State) (i : Option (List ℕ)) (content : List ℕ) (t : State) (j : Option (List ℕ)) (r : Result A Stop) → IfErr r (λ stop. is_call stop ≡ true)
    → Arrives s i content t j → Came s i content t j (stop_of r)
came_call s i content t j (Ok a) is h = h
came_call s i content t j (Err (Refused errno)) is h = h
came_call s i content t j (Err Memory) is h = (t, j, h, tt)
came_call s i content t j (Err Damaged) is h = let never : false ≡ true = is in cc
came_call s i content t j (Err Ended) is h = let never : false ≡ true = is in cc
came_call s i content t j (Err (Unread e)) is h = let never : false ≡ true = is in cc

-- the same, where the error is another's
pub came_error : {A : Type 0} (s : State) (i : Option (List ℕ)) (content : List ℕ) (t : State) (j : Option (List ℕ)) (e : Stop) (r : Result A Stop)
    → IsErrAnd r (λ other. other ≡ e) → is_call e ≡ true → Arrives s i content t j → Came s i content t j (stop_of r)
came_error s i content t j e (Ok a) is call h = absurd is
came_error s i content t j e (Err stop) is call h = came_call {A = ℕ} s i content t j (Err stop) (ap is_call is ∙ call) h

came_stop : (s : State) (i : Option (List ℕ)) (content : List ℕ) (t : State) (j : Option (List ℕ)) (stop : Stop) → is_outside stop ≡ true → Comes s i content stop → Came s i content t j (Some stop)
came_stop s i content t j (Refused errno) is h = let never : false ≡ true = is in cc
came_stop s i content t j Memory is h = h
came_stop s i content t j Damaged is h = h
came_stop s i content t j Ended is h = h
came_stop s i content t j (Unread e) is h = h

pub came_outside : {A : Type 0} (s : State) (i : Option (List ℕ)) (content : List ℕ) (t : State) (j : Option (List ℕ)) (e : Stop) (r : Result A Stop)
    → IsErrAnd r (λ other. other ≡ e) → is_outside e ≡ true → Comes s i content e → Came s i content t j (stop_of r)
came_outside s i content t j e (Ok a) is out h = absurd is
came_outside s i content t j e (Err stop) is out h = came_stop s i content t j stop (ap is_outside is ∙ out) (subst (λ (other : Stop). Comes s i content other) (sym is) h)

-- ---- what is written

-- the content that is left begins with a block's
pub take_front : (left n : ℕ) (block rest : List ℕ) → n ≤ length block → take left (take n block ++ rest) ≡ take (min left n) block ++ take (left - min left n) rest
take_front left n block rest within = ⊎_elim
    (λ (few : left < n).
    (let front : length (take n block) ≡ n = length-take-le n block within in
    let same : min left n ≡ left = omega arith in
    let none : left - min left n ≡ 0 = omega arith in
    take-append-le left (take n block) rest (omega arith) ∙ take-take left n block (omega arith) ∙ sym (append-nil (take left block))
    ∙ ap (λ (k : ℕ). take k block ++ []) (sym same) ∙ ap (λ (k : ℕ). take (min left n) block ++ take k rest) (sym none)))
    (λ (more : n ≤ left).
    (let front : length (take n block) ≡ n = length-take-le n block within in
    let same : min left n ≡ n = omega arith in
    let whole : length (take n block) + (left - n) ≡ left = omega arith in
    ap (λ (k : ℕ). take k (take n block ++ rest)) (sym whole) ∙ take-append-add (take n block) rest (left - n)
    ∙ ap (λ (k : ℕ). take k block ++ take (left - k) rest) (sym same)))
    (cases_lt left n)

-- the writes of a content that begins so
abbrev pub Feeds : What → Unwritten → ℕ → List ℕ → Unwritten → ℕ → List Act → Type 0
Feeds what before size came after left acts = (rest : List ℕ) → AreMade what (writes before (take size (came ++ rest))) (writes after (take left rest)) acts

-- the same before a block's bytes are taken
pub fed : (what : What) (before after : Unwritten) (size left n : ℕ) (came block : List ℕ) (acts : List Act) → n ≤ length block → Feeds what before size came after left acts
    → (rest : List ℕ) → AreMade what (writes before (take size ((came ++ take n block) ++ rest))) (writes after (take (min left n) block ++ take (left - min left n) rest)) acts
fed what before after size left n came block acts within feeds rest =
    let m = feeds (take n block ++ rest) in
    let plan : take size (came ++ (take n block ++ rest)) ≡ take size ((came ++ take n block) ++ rest) = ap (take size) (sym (append_assoc came (take n block) rest)) in
    record {
      plan_is = ap (writes before) (sym plan) ∙ m.plan_is ∙ ap (λ (bytes : List ℕ). calls_in acts ++ writes after bytes) (take_front left n block rest within);
      fine = m.fine;
    }

pub fed_more : (what : What) (before between after : Unwritten) (size left n : ℕ) (came block : List ℕ) (a b : List Act) → n ≤ length block → Feeds what before size came between left a
    → ((rest : List ℕ) → AreMade what (writes between (take (min left n) block ++ rest)) (writes after rest) b)
    → Feeds what before size (came ++ take n block) after (left - min left n) (a ++ b)
fed_more what before between after size left n came block a b within feeds more rest =
    made_more what _ _ _ a b (fed what before between size left n came block a within feeds rest) (more (take (left - min left n) rest))

pub fed_stopped : (what : What) (before between : Unwritten) (size left n : ℕ) (came block : List ℕ) (a b : List Act) (stop : Stop) → n ≤ length block → Feeds what before size came between left a
    → ((rest : List ℕ) → IsStopped what (writes between (take (min left n) block ++ rest)) b stop)
    → (rest : List ℕ) → IsStopped what (writes before (take size ((came ++ take n block) ++ rest))) (a ++ b) stop
fed_stopped what before between size left n came block a b stop within feeds stopped rest =
    stopped_after what _ _ a b stop (fed what before between size left n came block a within feeds rest) (stopped (take (left - min left n) rest))

pub fed_size : (size left n : ℕ) (came block : List ℕ) → n ≤ length block → size ≤ length came + left → size ≤ length (came ++ take n block) + (left - min left n)
fed_size size left n came block within enough = omega (arith, length-append came (take n block), length-take-le n block within)

-- all of it came
pub fed_whole : (what : What) (before after : Unwritten) (size left : ℕ) (came : List ℕ) (acts : List Act) → left ≡ 0 → size ≤ length came + left → Feeds what before size came after left acts
    → IsWritten what before after size came acts None
fed_whole what before after size left came acts none enough feeds =
    let m = feeds [] in (
      omega arith,
      record {
        plan_is = ap (λ (bytes : List ℕ). writes before (take size bytes)) (sym (append-nil came)) ∙ m.plan_is ∙ ap (λ (k : ℕ). calls_in acts ++ writes after (take k [])) none;
        fine = m.fine;
      },
    )

pub written_outside : {A : Type 0} (what : What) (before between after : Unwritten) (size left : ℕ) (came : List ℕ) (acts : List Act) (e : Stop) (r : Result A Stop)
    → IsErrAnd r (λ other. other ≡ e) → is_outside e ≡ true → length after.held < 28672 → between ≡ after → Feeds what before size came between left acts → IsWritten what before after size came acts (stop_of r)
written_outside what before between after size left came acts e (Ok a) is out few same feeds = absurd is
written_outside what before between after size left came acts e (Err stop) is out few same feeds =
    let m = feeds [] in (
      λ rest. broken_at what _ _ acts stop (ap is_outside is ∙ out) (feeds rest),
      λ _. (
        few,
        record {
          plan_is = ap (λ (bytes : List ℕ). writes before (take size bytes)) (sym (append-nil came)) ∙ m.plan_is ∙ ap (λ (bytes : List ℕ). calls_in acts ++ writes between bytes) (take-nil left)
              ∙ ap (λ (u : Unwritten). calls_in acts ++ writes u []) same;
          fine = m.fine;
        },
      ),
    )

pub written_stopped : {A : Type 0} (what : What) (before between after : Unwritten) (size left n : ℕ) (came block : List ℕ) (a b : List Act) (e : Stop) (r : Result A Stop)
    → IsErrAnd r (λ other. other ≡ e) → is_call e ≡ true → n ≤ length block → Feeds what before size came between left a
    → ((rest : List ℕ) → IsStopped what (writes between (take (min left n) block ++ rest)) b e)
    → IsWritten what before after size (came ++ take n block) (a ++ b) (stop_of r)
written_stopped what before between after size left n came block a b e (Ok x) is call within feeds stopped = absurd is
written_stopped what before between after size left n came block a b e (Err stop) is call within feeds stopped = (
  λ rest. subst (λ (s : Stop). IsStopped what (writes before (take size ((came ++ take n block) ++ rest))) (a ++ b) s) (sym is)
      (fed_stopped what before between size left n came block a b e within feeds stopped rest),
  λ no. absurd (false≢true (sym no ∙ ap is_call is ∙ call)),
)

pub came_same : {A : Type 0} (s : State) (i : Option (List ℕ)) (content : List ℕ) (t : State) (j : Option (List ℕ)) (e : Stop) (r : Result A Stop)
    → IsErrAnd r (λ other. other ≡ e) → Came s i content t j (Some e) → Came s i content t j (stop_of r)
came_same s i content t j e (Ok a) is h = absurd is
came_same s i content t j e (Err stop) is h = subst (λ (other : Stop). Came s i content t j (Some other)) (sym is) h

-- ---- a file

-- a write stops it
pub filled_stopped : {A : Type 0} (object : Object) (fd size : ℕ) (before after : Unwritten) (came : List ℕ) (acts : List Act) (e : Stop) (r : Result A Stop)
    → before ≡ record { fd = fd; held = [] } → IsErrAnd r (λ other. other ≡ e) → IsWritten object.what before after size came acts (Some e) → IsFilled fd object size came acts (stop_of r)
filled_stopped object fd size before after came acts e (Ok a) start is stopped = absurd is
filled_stopped object fd size before after came acts e (Err stop) start is stopped = (
  λ rest.
      (let bytes = take size (came ++ rest) in
      let same : writes before bytes ≡ writes_of fd bytes = ap (λ (u : Unwritten). writes u bytes) start in
      let s : IsStopped object.what (writes_of fd bytes) acts stop =
      subst (λ (other : Stop). IsStopped object.what (writes_of fd bytes) acts other) (sym is) (stopped_as object.what (writes before bytes) (writes_of fd bytes) acts e same (stopped.0 rest)) in
      stopped_with object.what (writes_of fd bytes) (closing_calls fd object) acts stop s),
  λ no.
      (let fed = stopped.1 (ap is_call (sym is) ∙ no) in
      record {
        left = after;
        short = fed.0;
        made = made_as object.what (writes before (take size came)) (writes_of fd (take size came)) (writes after []) acts (ap (λ (u : Unwritten). writes u (take size came)) start) fed.1;
      }),
)

filled_made : (object : Object) (fd size : ℕ) (before after : Unwritten) (came : List ℕ) (a : List Act)
    → before ≡ record { fd = fd; held = [] } → IsWritten object.what before after size came a None
    → AreMade object.what (filling fd object (take size came)) (writes after [] ++ closing_calls fd object) a
filled_made object fd size before after came a start written =
    made_with object.what (writes_of fd (take size came)) (writes after []) (closing_calls fd object) a
    (made_as object.what (writes before (take size came)) (writes_of fd (take size came)) (writes after []) a (ap (λ (u : Unwritten). writes u (take size came)) start) written.1)

-- all is written, and then the calls after the content are made, or stopped
pub filled_after : {A : Type 0} (object : Object) (fd size : ℕ) (before after : Unwritten) (came : List ℕ) (a b : List Act) (r : Result A Stop)
    → before ≡ record { fd = fd; held = [] } → IfErr r (λ stop. is_call stop ≡ true) → IsWritten object.what before after size came a None → Goes object.what (writes after [] ++ closing_calls fd object) [] b r
    → IsFilled fd object size came (a ++ b) (stop_of r)
filled_after object fd size before after came a b (Ok x) start calls written goes =
    (written.0, made_more object.what _ _ [] a b (filled_made object fd size before after came a start written) goes)
filled_after object fd size before after came a b (Err stop) start calls written goes = (
  λ rest.
      (let same : take size came ≡ take size (came ++ rest) = sym (take-append-le size came rest written.0) in
      subst (λ (bytes : List ℕ). IsStopped object.what (filling fd object bytes) (a ++ b) stop) same
      (stopped_after object.what _ _ a b stop (filled_made object fd size before after came a start written) goes)),
  λ no. (let call : is_call stop ≡ true = calls in absurd (false≢true (sym no ∙ call))),
)
