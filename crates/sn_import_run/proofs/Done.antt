-- Entries that are done, one after the other.
use Rattle.std.proofs.Common.{◌≡◌, ℕ, suc, ◌+◌, ◌≤◌, Bool, true, false, List, [], ◌∷◌, ◌++◌, length, take, inr, refl, sym, ap, subst, ◌∙◌, append_assoc, length-append, arith}
use Rattle.std.specs.Prelude.{Option, Some, None, Result, Ok, Err, IfErr, IsErrAnd, OnOk}
use Rattle.std.proofs.lemmas.List.{append-nil}
use Rattle.std.specs.Bool.{MatchBool}
use Rattle.std.specs.Io.KnownBytes.{Consumes}
use Rattle.sn_import.specs.declared.object.Object.{Object}
use Rattle.sn_import_entry.specs.declared.names.Names.{Names}
use Rattle.sn_untar.specs.Steps.{State, Steps, is_ended, start}
use Rattle.sn_untar.specs.declared.told.Told.{Told}
use Rattle.sn_untar.specs.declared.told.Told.TheVariants as told
use Rattle.sn_import_calls.specs.Acts.{Act}
use Rattle.sn_import_calls.specs.Carried.{is_outside, stop_of}
use Rattle.sn_import_files.specs.Entries.{IsDone, IsTaken}
use Rattle.sn_import_files.specs.Files.{Arrives, Came}
use Rattle.sn_import_run.specs.Imports.{AreDone, AreRead, IsImport, SetsRights, all, broken, end_told, goes_on, is_over, within}
use Rattle.sn_import_calls.specs.Stops.{ends_reading}
use Rattle.sn_import_files.specs.Streams.{Breaks, EndsAt, IsReadTo, Part, Takes, begun, longer, parts_after, with_content}
use Rattle.sn_import_calls.specs.declared.stop.Stop.{Stop}
use Rattle.sn_import_calls.specs.declared.stop.Stop.TheVariants.{Refused, Memory, Damaged, Ended, Unread}
use Rattle.sn_import_run.proofs.Longer.{done_longer}
use Rattle.sn_import_files.proofs.Awaiting.{breaks_off}
use Rattle.sn_import_files.proofs.Parts.{content_last, content_of_none, takes_more, takes_one}

-- one entry more
pub done_snoc : (names : Names) (into : List ℕ) (place n : ℕ) (parts : List Part) (part : Part) (acts a : List Act) (directories own : List Object) (stop : Option Stop)
    → n ≡ place + length parts → AreDone names into place parts acts directories → IsDone names into n part a own stop → goes_on stop ≡ true
    → AreDone names into place (parts ++ part ∷ []) (acts ++ a) (directories ++ own)
done_snoc names into place n [] part acts a directories own stop at done one goes =
    let here : n ≡ place = omega arith in (
      a,
      [],
      own,
      [],
      stop,
      ap (λ (xs : List Act). xs ++ a) done.0 ∙ sym (append-nil a),
      ap (λ (os : List Object). os ++ own) done.1 ∙ sym (append-nil own),
      goes,
      subst (λ (k : ℕ). IsDone names into k part a own stop) here one,
      (refl, refl),
    )
done_snoc names into place n (first ∷ parts) part acts a directories own stop at done one goes = (
  done.0,
  done.1 ++ a,
  done.2,
  done.3 ++ own,
  done.4,
  ap (λ (xs : List Act). xs ++ a) done.5 ∙ append_assoc done.0 done.1 a,
  ap (λ (os : List Object). os ++ own) done.6 ∙ append_assoc done.2 done.3 own,
  done.7,
  done.8,
  done_snoc names into (place + 1) n parts part done.1 a done.3 own stop (omega arith) done.9 one goes,
)

-- more content of the last one
pub done_content : (names : Names) (into : List ℕ) (place : ℕ) (parts : List Part) (bytes : List ℕ) (acts : List Act) (directories : List Object)
    → AreDone names into place parts acts directories → AreDone names into place (with_content parts bytes) acts directories
done_content names into place [] bytes acts directories done = done
done_content names into place (part ∷ []) bytes acts directories done =
    (done.0, done.1, done.2, done.3, done.4, done.5, done.6, done.7, done_longer names into place part bytes done.0 done.2 done.4 done.7 done.8, done.9)
done_content names into place (part ∷ next ∷ parts) bytes acts directories done =
    (done.0, done.1, done.2, done.3, done.4, done.5, done.6, done.7, done.8, done_content names into (place + 1) (next ∷ parts) bytes done.1 done.3 done.9)

-- ---- what came

-- what came of an entry that ends the reading
abbrev pub ComesTo : State → Option (List ℕ) → List ℕ → Stop → Type 0
ComesTo s i content stop = (new : State) × (rest : Option (List ℕ)) × Arrives s i content new rest × ((parts : List Part) → EndsAt parts new rest (Some stop))

came_ends : (s : State) (i : Option (List ℕ)) (content : List ℕ) (t : State) (j : Option (List ℕ)) (stop : Stop) → Came s i content t j (Some stop) → ComesTo s i content stop
came_ends s i content t j (Refused errno) h = (t, j, h, λ parts. tt)
came_ends s i content t j Memory h = (h.0, h.1, h.2, λ parts. tt)
came_ends s i content t j Damaged h = (h.0, h.1, h.2, λ parts. h.3)
came_ends s i content t j Ended h = (h.0, h.1, h.2, λ parts. h.3)
came_ends s i content t j (Unread e) h = (h.0, h.1, h.2, λ parts. h.3)

pub came_goes : (s : State) (i : Option (List ℕ)) (content : List ℕ) (t : State) (j : Option (List ℕ)) (stop : Option Stop) → goes_on stop ≡ true → Came s i content t j stop → Arrives s i content t j
came_goes s i content t j None goes h = h
came_goes s i content t j (Some (Refused errno)) goes h = h
came_goes s i content t j (Some Memory) goes h = let never : false ≡ true = goes in cc
came_goes s i content t j (Some Damaged) goes h = let never : false ≡ true = goes in cc
came_goes s i content t j (Some Ended) goes h = let never : false ≡ true = goes in cc
came_goes s i content t j (Some (Unread e)) goes h = let never : false ≡ true = goes in cc

-- ---- a block

-- what is known after some blocks
pub record Progress (names : Names) (into : List ℕ) (input : Option (List ℕ)) (state : State) (rest : Option (List ℕ)) (count : ℕ) (acts : List Act) (directories : List Object) : Type 0 where
  pub parts : List Part
  pub takes : Takes start [] input parts state rest
  pub count_is : count ≡ length parts
  pub done : AreDone names into 1 parts acts directories

no_content : (parts : List Part) (bytes : List ℕ) → length (with_content parts bytes) ≡ length parts
no_content [] bytes = refl
no_content (part ∷ []) bytes = refl
no_content (part ∷ next ∷ parts) bytes = ap suc (no_content (next ∷ parts) bytes)

came_none : (t u : State) (k l : Option (List ℕ)) (came : List ℕ) → came ≡ [] → Arrives t k came u l → (parts : List Part) → Takes t parts k parts u l
came_none t u k l came none arrives parts =
    subst (λ (ps : List Part). Takes t parts k ps u l) (ap (with_content parts) none ∙ content_of_none parts) (arrives parts)

-- no entry begins with a block
passed : (names : Names) (into : List ℕ) (says : Told) (block : List ℕ) (s t u : State) (i j k l : Option (List ℕ)) (count next : ℕ) (came : List ℕ) (acts a : List Act) (ds own : List Object) (stop : Option Stop)
    (p : Progress names into i s j count acts ds) → length block ≡ 512 → Steps s block says t → Consumes j k block → Arrives t k came u l
    → AreDone names into 1 (parts_after p.parts block says) acts ds → length (parts_after p.parts block says) ≡ length p.parts
    → (a ≡ []) × (own ≡ []) × (stop ≡ None) × (next ≡ count) × (came ≡ []) → Progress names into i u l next (acts ++ a) (ds ++ own)
passed names into says block s t u i j k l count next came acts a ds own stop p long step taken arrives done same h =
    let after = parts_after p.parts block says in
    let first = takes_more start [] i p.parts s j after t k p.takes (takes_one s p.parts j block says t k after long step taken refl) in
    let acts_are : acts ≡ acts ++ a = sym (ap (λ (xs : List Act). acts ++ xs) h.0 ∙ append-nil acts) in
    let ds_are : ds ≡ ds ++ own = sym (ap (λ (os : List Object). ds ++ os) h.1 ∙ append-nil ds) in
    record {
      parts = after;
      takes = takes_more start [] i after t k after u l first (came_none t u k l came h.4 arrives after);
      count_is = h.3 ∙ p.count_is ∙ sym same;
      done = subst (λ (os : List Object). AreDone names into 1 after (acts ++ a) os) ds_are (subst (λ (xs : List Act). AreDone names into 1 after xs ds) acts_are done);
    }

one_longer : (parts : List Part) (part : Part) → length (parts ++ part ∷ []) ≡ length parts + 1
one_longer parts part = length-append parts (part ∷ [])

-- after a block, and what is done of the entry that it begins
pub taken_next : (names : Names) (into : List ℕ) (says : Told) (block : List ℕ) (s t u : State) (i j k l : Option (List ℕ)) (count next : ℕ) (came : List ℕ) (acts a : List Act) (ds own : List Object) (stop : Option Stop)
    → Progress names into i s j count acts ds → length block ≡ 512 → Steps s block says t → Consumes j k block → Came t k came u l stop
    → IsTaken names into count says came a own stop next → goes_on stop ≡ true → Progress names into i u l next (acts ++ a) (ds ++ own)
taken_next names into (told.Entry member) block s t u i j k l count next came acts a ds own stop p long step taken c h goes =
    let entry = begun member false in
    let between = p.parts ++ entry ∷ [] in
    let after = p.parts ++ longer entry came ∷ [] in
    let first = takes_more start [] i p.parts s j between t k p.takes (takes_one s p.parts j block (told.Entry member) t k between long step taken refl) in
    let content = subst (λ (ps : List Part). Takes t between k ps u l) (content_last p.parts entry came) (came_goes t k came u l stop goes c between) in
    record {
      parts = after;
      takes = takes_more start [] i between t k after u l first content;
      count_is = omega (arith, h.1, p.count_is, one_longer p.parts (longer entry came));
      done = done_snoc names into 1 (count + 1) p.parts (longer entry came) acts a ds own stop (omega (arith, p.count_is)) p.done h.0 goes;
    }
taken_next names into (told.Cut member) block s t u i j k l count next came acts a ds own stop p long step taken c h goes =
    let entry = begun member true in
    let after = p.parts ++ entry ∷ [] in
    let first = takes_more start [] i p.parts s j after t k p.takes (takes_one s p.parts j block (told.Cut member) t k after long step taken refl) in
    record {
      parts = after;
      takes = takes_more start [] i after t k after u l first (came_none t u k l came h.2 (came_goes t k came u l stop goes c) after);
      count_is = omega (arith, h.1, p.count_is, one_longer p.parts entry);
      done = done_snoc names into 1 (count + 1) p.parts entry acts a ds own stop (omega (arith, p.count_is)) p.done h.0 goes;
    }
taken_next names into (told.Content size) block s t u i j k l count next came acts a ds own stop p long step taken c h goes =
    passed names into (told.Content size) block s t u i j k l count next came acts a ds own stop p long step taken (came_goes t k came u l stop goes c)
    (done_content names into 1 p.parts (take size block) acts ds p.done) (no_content p.parts (take size block)) h
taken_next names into told.Nothing block s t u i j k l count next came acts a ds own stop p long step taken c h goes =
    passed names into told.Nothing block s t u i j k l count next came acts a ds own stop p long step taken (came_goes t k came u l stop goes c) p.done refl h
taken_next names into told.TooLong block s t u i j k l count next came acts a ds own stop p long step taken c h goes =
    passed names into told.TooLong block s t u i j k l count next came acts a ds own stop p long step taken (came_goes t k came u l stop goes c) p.done refl h
taken_next names into told.End block s t u i j k l count next came acts a ds own stop p long step taken c h goes =
    passed names into told.End block s t u i j k l count next came acts a ds own stop p long step taken (came_goes t k came u l stop goes c) p.done refl h

-- what is made in all, where an entry ends the reading
abbrev pub IsEnded : Names → List ℕ → Option (List ℕ) → List Act → List Object → Stop → Type 0
IsEnded names into input acts ds stop = (parts : List Part) × IsReadTo input parts (Some stop) × AreRead names into parts acts ds (Some stop)

none_ended : {X : Type 0} (stop : Stop) → Some stop ≡ None → X
none_ended stop is = absurd (let no : ⊥ = cc in no)

pub taken_last : (names : Names) (into : List ℕ) (says : Told) (block : List ℕ) (s t u : State) (i j k l : Option (List ℕ)) (count next : ℕ) (came : List ℕ) (acts a : List Act) (ds own : List Object) (stop : Stop)
    → Progress names into i s j count acts ds → length block ≡ 512 → Steps s block says t → Consumes j k block → Came t k came u l (Some stop)
    → IsTaken names into count says came a own (Some stop) next → ends_reading stop ≡ true → IsEnded names into i (acts ++ a) (ds ++ own) stop
taken_last names into (told.Entry member) block s t u i j k l count next came acts a ds own stop p long step taken c h ends =
    let entry = begun member false in
    let between = p.parts ++ entry ∷ [] in
    let after = p.parts ++ longer entry came ∷ [] in
    let first = takes_more start [] i p.parts s j between t k p.takes (takes_one s p.parts j block (told.Entry member) t k between long step taken refl) in
    let comes = came_ends t k came u l stop c in
    let content = subst (λ (ps : List Part). Takes t between k ps comes.0 comes.1) (content_last p.parts entry came) (comes.2 between) in (
      after,
      (comes.0, comes.1, takes_more start [] i between t k after comes.0 comes.1 first content, comes.3 after),
      within p.parts (longer entry came) acts a ds own stop refl p.done (subst (λ (n : ℕ). IsDone names into (n + 1) (longer entry came) a own (Some stop)) p.count_is h.0) ends,
    )
taken_last names into (told.Cut member) block s t u i j k l count next came acts a ds own stop p long step taken c h ends =
    let entry = begun member true in
    let after = p.parts ++ entry ∷ [] in
    let first = takes_more start [] i p.parts s j after t k p.takes (takes_one s p.parts j block (told.Cut member) t k after long step taken refl) in
    let comes = came_ends t k came u l stop c in (
      after,
      (comes.0, comes.1, takes_more start [] i after t k after comes.0 comes.1 first (came_none t comes.0 k comes.1 came h.2 comes.2 after), comes.3 after),
      within p.parts entry acts a ds own stop refl p.done (subst (λ (n : ℕ). IsDone names into (n + 1) entry a own (Some stop)) p.count_is h.0) ends,
    )
taken_last names into (told.Content size) block s t u i j k l count next came acts a ds own stop p long step taken c h ends = none_ended stop h.2
taken_last names into told.Nothing block s t u i j k l count next came acts a ds own stop p long step taken c h ends = none_ended stop h.2
taken_last names into told.TooLong block s t u i j k l count next came acts a ds own stop p long step taken c h ends = none_ended stop h.2
taken_last names into told.End block s t u i j k l count next came acts a ds own stop p long step taken c h ends = none_ended stop h.2

-- ---- the end

pub taken_count : (names : Names) (into : List ℕ) (count : ℕ) (says : Told) (came : List ℕ) (acts : List Act) (own : List Object) (stop : Option Stop) (next : ℕ)
    → IsTaken names into count says came acts own stop next → next ≤ count + 1
taken_count names into count (told.Entry member) came acts own stop next h = omega (arith, h.1)
taken_count names into count (told.Cut member) came acts own stop next h = omega (arith, h.1)
taken_count names into count (told.Content size) came acts own stop next h = omega (arith, h.3)
taken_count names into count told.Nothing came acts own stop next h = omega (arith, h.3)
taken_count names into count told.TooLong came acts own stop next h = omega (arith, h.3)
taken_count names into count told.End came acts own stop next h = omega (arith, h.3)

-- what is made in all, and what ended the reading
abbrev pub IsRead : Names → List ℕ → Option (List ℕ) → List Act → List Object → Option Stop → Type 0
IsRead names into input acts ds stop = (parts : List Part) × IsReadTo input parts stop × AreRead names into parts acts ds stop

-- after the two blocks of zeros, or without a block
pub read_whole : (names : Names) (into : List ℕ) (i j : Option (List ℕ)) (s : State) (count : ℕ) (acts : List Act) (ds more : List Object)
    (p : Progress names into i s j count acts ds) → EndsAt p.parts s j None → more ≡ ds → IsRead names into i acts more None
read_whole names into i j s count acts ds more p ends is =
    subst (λ (os : List Object). IsRead names into i acts os None) (sym is) (p.parts, (s, j, p.takes, ends), all acts ds p.done)

-- between two entries
pub read_end : {A : Type 0} (names : Names) (into : List ℕ) (i j : Option (List ℕ)) (s : State) (count : ℕ) (acts : List Act) (ds : List Object) (is_empty : Bool) (stop : Stop) (r : Result A Stop)
    (p : Progress names into i s j count acts ds) → is_ended s.phase ≡ false → is_outside stop ≡ true → Breaks s j stop → (is_empty ≡ true → (p.parts ≡ []) × (s ≡ start)) → OnOk r ((is_empty ≡ true) × (stop ≡ Ended)) → IfErr r (λ other. other ≡ stop)
    → IsRead names into i (acts ++ end_told count (stop_of r)) ds (stop_of r)
read_end names into i j s count acts ds is_empty stop (Ok a) p goes out breaks empty whole same =
    let none : (is_empty ≡ true) × (stop ≡ Ended) = whole in
    let fresh = empty none.0 in
    let spent : Breaks s j Ended = subst (λ (e : Stop). Breaks s j e) none.1 breaks in
    subst (λ (xs : List Act). IsRead names into i xs ds None) (sym (append-nil acts)) (read_whole names into i j s count acts ds ds p (inr (fresh.0, fresh.1, spent)) refl)
read_end names into i j s count acts ds is_empty stop (Err e) p goes out breaks empty whole same =
    let is : e ≡ stop = same in
    subst (λ (n : ℕ). IsRead names into i (acts ++ end_told n (Some e)) ds (Some e)) (sym p.count_is)
    (p.parts, (s, j, p.takes, breaks_off s j e goes (subst (λ (other : Stop). Breaks s j other) (sym is) breaks)), broken acts ds e (ap is_outside is ∙ out) p.done)

-- in an entry
pub read_within : {A : Type 0} (names : Names) (into : List ℕ) (i : Option (List ℕ)) (acts : List Act) (ds more : List Object) (e : Stop) (r : Result A Stop)
    → IsErrAnd r (λ other. other ≡ e) → IsEnded names into i acts ds e → more ≡ ds → IsRead names into i acts more (stop_of r)
read_within names into i acts ds more e (Ok a) is ended same = absurd is
read_within names into i acts ds more e (Err stop) is ended same =
    subst (λ (os : List Object). IsRead names into i acts os (Some stop)) (sym same)
    (subst (λ (other : Stop). IsRead names into i acts ds (Some other)) (sym is) ended)

-- ---- the whole

pub import_over : (names : Names) (into : List ℕ) (parts : List Part) (acts : List Act) (ds : List Object) (stop : Option Stop) → AreRead names into parts acts ds stop → is_over stop ≡ true
    → IsImport names into parts stop acts
import_over names into parts acts ds stop are over =
    let none : List Act = [] in
    record {
      reading = acts;
      after = [];
      directories = ds;
      acts_are = sym (append-nil acts);
      are_read = are;
      rights = subst (λ (b : Bool). MatchBool b (none ≡ []) (SetsRights ds none)) (sym over) refl;
    }

pub import_goes : (names : Names) (into : List ℕ) (parts : List Part) (acts more : List Act) (ds : List Object) (stop : Option Stop) → AreRead names into parts acts ds stop → is_over stop ≡ false
    → SetsRights ds more → IsImport names into parts stop (acts ++ more)
import_goes names into parts acts more ds stop are over sets = record {
  reading = acts;
  after = more;
  directories = ds;
  acts_are = refl;
  are_read = are;
  rights = subst (λ (b : Bool). MatchBool b (more ≡ []) (SetsRights ds more)) (sym over) sets;
}
