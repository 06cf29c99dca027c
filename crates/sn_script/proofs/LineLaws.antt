-- An event that is read from a line is the line's, and the event of a line is read from it.
use Rattle.std.proofs.Common.{◌≡◌, ℕ, ◌^◌, ◌<◌, inl, Bool, true, false, cond, eqb, leb, All, List, [], ◌∷◌, ◌++◌, length, map, Option, Some, None, refl, sym, ap, subst, ◌∙◌, append_assoc, lit≤, lit<, arith}
use Rattle.std.specs.Prelude.{◌==◌, not, Err, IfSome, decimal, codes}
use Rattle.std.specs.List.{AllByRecursion, join_with_byte, list_all}
use Rattle.std.specs.Char.{is_ascii_graphic}
use Rattle.std.specs.Str.{bytes_eq}
use Rattle.std.proofs.lemmas.Bool.{eq-eqb}
use Rattle.std.proofs.lemmas.Slice.Eq.{bytes_eq-Decides}
use Rattle.std.proofs.lemmas.List.Elements.{recursion_from_All}
use Rattle.std.proofs.lemmas.List.Splits.{join_with_byte-slice_split}
use Rattle.sn_model.specs.declared.call.Call.{Call}
use Rattle.sn_model.specs.declared.call.Call.TheVariants as call
use Rattle.sn_model.specs.declared.call.Event.{Event}
use Rattle.sn_model.specs.declared.call.Event.TheVariants as event
use Rattle.sn_model.specs.Chains.{◌>>=◌}
use Rattle.sn_model.proofs.ChainLemmas.{bind_some, some_same}
use Rattle.sn_model.specs.Texts.{access_text}
use Rattle.sn_words.specs.Fields.{parts, octal, id_word, numbers_word, is_word, kind_word, flags_word, mode_words, IsFileMode}
use Rattle.sn_script.specs.Lines.{name_of, arguments_of, words_of, line_of, IsCall, IsEvent}
use Rattle.sn_script.specs.Scripts.{BeginsBadly}
use Rattle.sn_words.specs.declared.fault.SpellingFault.{SpellingFault}
use Rattle.sn_words.specs.declared.fault.SpellingFault.TheVariants.{Bad, Memory}
use Rattle.sn_words.specs.Reading.{IsRead, number_below}
use Rattle.sn_script.specs.Reading.{call_of, event_of, line_event, lone_event_of}
use Rattle.sn_words.proofs.Options.{passed, both_true}
use Rattle.sn_words.proofs.Numbers.{number_again, number_takes}
use Rattle.sn_words.proofs.Bytes.{Within, Within-wider, Within-join, decimal_within, graphic_within, Lacks, lacks_outside, parts_join}
use Rattle.sn_words.proofs.FieldLaws.{want_graphic, kind_graphic}
use Rattle.sn_words.proofs.FlagLaws.{flags_graphic, content_graphic}
use Rattle.sn_script.proofs.CallLaws.{call_takes, call_again}

-- steps and restarts are alone on their lines
lone_takes : (name : List ℕ) (e : Event) → lone_event_of name ≡ Some e → (name ∷ [] ≡ words_of e) × IsEvent e
unfolding lone_event_of
lone_takes name e read = step (bytes_eq name (codes "step")) refl read
  where
    alone : (a b : List ℕ) → a ≡ b → a ∷ [] ≡ b ∷ []
    alone a b p = cc

    restart : (b : Bool) → bytes_eq name (codes "restart") ≡ b → cond b (Some event.Restart) None ≡ Some e → (name ∷ [] ≡ words_of e) × IsEvent e
    restart true same r =
        subst (λ (y : Event). (name ∷ [] ≡ words_of y) × IsEvent y) (some_same event.Restart e r)
        (alone name (codes "restart") ((bytes_eq-Decides name (codes "restart")).0 same), tt)
    restart false other r = absurd cc

    step : (b : Bool) → bytes_eq name (codes "step") ≡ b
        → cond b (Some event.Step) (cond (bytes_eq name (codes "restart")) (Some event.Restart) None) ≡ Some e → (name ∷ [] ≡ words_of e) × IsEvent e
    step true same r =
        subst (λ (y : Event). (name ∷ [] ≡ words_of y) × IsEvent y) (some_same event.Step e r)
        (alone name (codes "step") ((bytes_eq-Decides name (codes "step")).0 same), tt)
    step false other r = restart (bytes_eq name (codes "restart")) refl r

event_takes : (words : List (List ℕ)) (e : Event) → event_of words ≡ Some e → (words ≡ words_of e) × IsEvent e
unfolding event_of
event_takes [] x e = absurd cc
event_takes (name ∷ []) x e = lone_takes name x e
event_takes (session ∷ name ∷ arguments) x e =
    let s = bind_some (number_below (2 ^ 32) session) (λ s. call_of name arguments >>= (λ c. Some (event.Call s c))) x e in
    let c = bind_some (call_of name arguments) (λ c. Some (event.Call s.0 c)) x s.2 in
    let p = number_takes (2 ^ 32) s.0 session s.1 in
    let q = call_takes name arguments c.0 c.1 in
    subst (λ (y : Event). (session ∷ name ∷ arguments ≡ words_of y) × IsEvent y) (some_same (event.Call s.0 c.0) x c.2)
    (all_three session (decimal s.0) name (name_of c.0) arguments (arguments_of c.0) p.0 q.0 q.1, (p.1, q.2))
  where
    all_three : (a x b y : List ℕ) (cs zs : List (List ℕ)) → a ≡ x → b ≡ y → cs ≡ zs → a ∷ b ∷ cs ≡ x ∷ y ∷ zs
    all_three a x b y cs zs p q r = cc

step_again : lone_event_of (codes "step") ≡ Some event.Step
unfolding lone_event_of
step_again = refl

restart_again : lone_event_of (codes "restart") ≡ Some event.Restart
unfolding lone_event_of
restart_again = refl

event_again : (e : Event) → IsEvent e → event_of (words_of e) ≡ Some e
unfolding event_of
event_again (event.Call session c) h = rw (number_again (2 ^ 32) session (lit≤ tt) h.0, call_again c h.1) refl
event_again event.Step h = step_again
event_again event.Restart h = restart_again

-- ---- lines

abbrev pub text_of : Event → List ℕ
text_of e = join_with_byte 32 (words_of e)

abbrev IsGraphic : List ℕ → Type 0
IsGraphic bytes = Within 33 126 bytes

long_graphic : (n : ℕ) → n < 2 ^ 64 → IsGraphic (decimal n)
long_graphic n lt = Within-wider 48 57 33 126 (decimal n) (lit≤ tt) (lit≤ tt) (decimal_within n lt)

number_graphic : (n : ℕ) → n < 2 ^ 32 → IsGraphic (decimal n)
number_graphic n lt = long_graphic n (omega arith)

each_graphic : (ns : List ℕ) → AllByRecursion (λ n. n < 2 ^ 32) ns → AllByRecursion IsGraphic (map decimal ns)
each_graphic [] h = tt
each_graphic (n ∷ ns) h = (number_graphic n h.0, each_graphic ns h.1)

numbers_graphic : (ns : List ℕ) → AllByRecursion (λ n. n < 2 ^ 32) ns → IsGraphic (numbers_word ns)
numbers_graphic [] h = graphic_within (codes "-") refl
numbers_graphic (n ∷ ns) h = Within-join 33 126 44 (map decimal (n ∷ ns)) (lit≤ tt) (lit≤ tt) (each_graphic (n ∷ ns) h)

octal_graphic : (n : ℕ) → n < 4096 → IsGraphic (octal n)
octal_graphic n lt = ((omega arith, omega arith), ((omega arith, omega arith), ((omega arith, omega arith), ((omega arith, omega arith), tt))))

word_graphic : (w : List ℕ) → is_word w ≡ true → IsGraphic w
word_graphic w h = graphic_within w (both_true (not (length w == 0)) (list_all is_ascii_graphic w) h).1

id_graphic : (id : Option ℕ) → IfSome id (λ n. n < 2 ^ 32) → IsGraphic (id_word id)
id_graphic None h = graphic_within (codes "-") refl
id_graphic (Some n) h = number_graphic n h

modes_graphic : (creates : Bool) (mode : ℕ) → IsFileMode creates mode → AllByRecursion IsGraphic (mode_words creates mode)
modes_graphic true mode lt = (octal_graphic mode lt, tt)
modes_graphic false mode is = tt

call_graphic : (c : Call) → IsCall c → AllByRecursion IsGraphic (name_of c ∷ arguments_of c)
call_graphic (call.Login uid gid groups) h = (graphic_within (codes "login") refl, (number_graphic uid h.0, (number_graphic gid h.1, (numbers_graphic groups h.2, tt))))
call_graphic call.Logout h = (graphic_within (codes "logout") refl, tt)
call_graphic call.Sync h = (graphic_within (codes "sync") refl, tt)
call_graphic (call.SnapCreate name) h = (graphic_within (codes "snap-create") refl, (word_graphic name h, tt))
call_graphic (call.SnapDelete name) h = (graphic_within (codes "snap-delete") refl, (word_graphic name h, tt))
call_graphic (call.SnapRestore name) h = (graphic_within (codes "snap-restore") refl, (word_graphic name h, tt))
call_graphic call.SnapList h = (graphic_within (codes "snap-list") refl, tt)
call_graphic (call.Umask mask) h = (graphic_within (codes "umask") refl, (octal_graphic mask h, tt))
call_graphic (call.Mkdir path mode) h = (graphic_within (codes "mkdir") refl, (word_graphic path h.0, (octal_graphic mode h.1, tt)))
call_graphic (call.Chmod path mode) h = (graphic_within (codes "chmod") refl, (word_graphic path h.0, (octal_graphic mode h.1, tt)))
call_graphic (call.Chown path uid gid) h = (graphic_within (codes "chown") refl, (word_graphic path h.0, (id_graphic uid h.1, (id_graphic gid h.2, tt))))
call_graphic (call.Stat path) h = (graphic_within (codes "stat") refl, (word_graphic path h, tt))
call_graphic (call.Access path want) h = (graphic_within (codes "access") refl, (word_graphic path h, (graphic_within (access_text want) (want_graphic want), tt)))
call_graphic (call.GetAcl path kind) h = (graphic_within (codes "getacl") refl, (word_graphic path h, (graphic_within (kind_word kind) (kind_graphic kind), tt)))
call_graphic (call.SetAcl path kind acl) h = (graphic_within (codes "setacl") refl, (word_graphic path h.0, (graphic_within (kind_word kind) (kind_graphic kind), (word_graphic acl h.1, tt))))
call_graphic (call.Rmdir path) h = (graphic_within (codes "rmdir") refl, (word_graphic path h, tt))
call_graphic (call.Unlink path) h = (graphic_within (codes "unlink") refl, (word_graphic path h, tt))
call_graphic (call.Link old new) h = (graphic_within (codes "link") refl, (word_graphic old h.0, (word_graphic new h.1, tt)))
call_graphic (call.Rename old new) h = (graphic_within (codes "rename") refl, (word_graphic old h.0, (word_graphic new h.1, tt)))
call_graphic (call.Readdir path) h = (graphic_within (codes "readdir") refl, (word_graphic path h, tt))
call_graphic (call.Open path flags mode) h = (graphic_within (codes "open") refl, (word_graphic path h.0, (flags_graphic flags, modes_graphic flags.create mode h.2)))
call_graphic (call.Close fd) h = (graphic_within (codes "close") refl, (number_graphic fd h, tt))
call_graphic (call.Read fd count) h = (graphic_within (codes "read") refl, (number_graphic fd h.0, (long_graphic count h.1, tt)))
call_graphic (call.Write fd bytes) h = (graphic_within (codes "write") refl, (number_graphic fd h.0, (content_graphic bytes h.1, tt)))
call_graphic (call.Seek fd offset) h = (graphic_within (codes "seek") refl, (number_graphic fd h.0, (long_graphic offset h.1, tt)))
call_graphic (call.Ftruncate fd size) h = (graphic_within (codes "ftruncate") refl, (number_graphic fd h.0, (long_graphic size h.1, tt)))

words_graphic : (e : Event) → IsEvent e → AllByRecursion IsGraphic (words_of e)
words_graphic (event.Call session c) h = (number_graphic session h.0, call_graphic c h.1)
words_graphic event.Step h = (graphic_within (codes "step") refl, tt)
words_graphic event.Restart h = (graphic_within (codes "restart") refl, tt)

all_lack : (c : ℕ) (ws : List (List ℕ)) → c < 33 → AllByRecursion IsGraphic ws → AllByRecursion (Lacks c) ws
all_lack c [] lt h = tt
all_lack c (w ∷ ws) lt h = (lacks_outside 33 126 c w (inl lt) h.0, all_lack c ws lt h.1)

all_wider : (ws : List (List ℕ)) → AllByRecursion IsGraphic ws → AllByRecursion (Within 32 126) ws
all_wider [] h = tt
all_wider (w ∷ ws) h = (Within-wider 33 126 32 126 w (lit≤ tt) (lit≤ tt) h.0, all_wider ws h.1)

text_lacks : (e : Event) → IsEvent e → Lacks 10 (text_of e)
text_lacks e h = lacks_outside 32 126 10 (text_of e) (inl (lit< tt)) (Within-join 32 126 32 (words_of e) (lit≤ tt) (lit≤ tt) (all_wider (words_of e) (words_graphic e h)))

few_arguments : (c : Call) → leb (length (words_of (event.Call 0 c))) 5 ≡ true
few_arguments (call.Open path flags mode) = few flags.create
  where
    few : (creates : Bool) → leb (length (decimal 0 ∷ codes "open" ∷ path ∷ flags_word flags ∷ mode_words creates mode)) 5 ≡ true
    few true = refl
    few false = refl
few_arguments (call.Login uid gid groups) = refl
few_arguments call.Logout = refl
few_arguments call.Sync = refl
few_arguments (call.SnapCreate name) = refl
few_arguments (call.SnapDelete name) = refl
few_arguments (call.SnapRestore name) = refl
few_arguments call.SnapList = refl
few_arguments (call.Umask mask) = refl
few_arguments (call.Mkdir path mode) = refl
few_arguments (call.Chmod path mode) = refl
few_arguments (call.Chown path uid gid) = refl
few_arguments (call.Stat path) = refl
few_arguments (call.Access path want) = refl
few_arguments (call.GetAcl path kind) = refl
few_arguments (call.SetAcl path kind acl) = refl
few_arguments (call.Rmdir path) = refl
few_arguments (call.Unlink path) = refl
few_arguments (call.Link old new) = refl
few_arguments (call.Rename old new) = refl
few_arguments (call.Readdir path) = refl
few_arguments (call.Close fd) = refl
few_arguments (call.Read fd count) = refl
few_arguments (call.Write fd bytes) = refl
few_arguments (call.Seek fd offset) = refl
few_arguments (call.Ftruncate fd size) = refl

few_words : (e : Event) → leb (length (words_of e)) 5 ≡ true
few_words (event.Call session c) = few_arguments c
few_words event.Step = refl
few_words event.Restart = refl

text_cut : (e : Event) → IsEvent e → parts 32 (text_of e) ≡ words_of e
text_cut (event.Call session c) h = parts_join 32 (decimal session) (name_of c ∷ arguments_of c) (all_lack 32 (words_of (event.Call session c)) (lit< tt) (words_graphic (event.Call session c) h))
text_cut event.Step h = parts_join 32 (codes "step") [] (all_lack 32 (words_of event.Step) (lit< tt) (words_graphic event.Step h))
text_cut event.Restart h = parts_join 32 (codes "restart") [] (all_lack 32 (words_of event.Restart) (lit< tt) (words_graphic event.Restart h))

pub line_again : (e : Event) → IsEvent e → line_event (text_of e) ≡ Some e
unfolding line_event
line_again e h = rw (text_cut e h, few_words e) (event_again e h)

pub line_takes : (line : List ℕ) (e : Event) → line_event line ≡ Some e → IsEvent e × (line ≡ text_of e)
unfolding line_event
line_takes line e read =
    let t = passed (leb (length (parts 32 line)) 5) (event_of (parts 32 line)) e read in
    let p = event_takes (parts 32 line) e t.1 in
    (p.1, sym (join_with_byte-slice_split 32 line) ∙ ap (join_with_byte 32) p.0)

-- two texts that go up to the same first byte c
same_front : (c : ℕ) (a b x y : List ℕ) → Lacks c a → Lacks c b → a ++ c ∷ x ≡ b ++ c ∷ y → (a ≡ b) × (x ≡ y)
same_front c [] [] x y h k e = (refl, cc)
same_front c [] (d ∷ b) x y h k e =
    let head : c ≡ d = cc in
    let yes : eqb d c ≡ true = eq-eqb d c (sym head) in
    let no = sym yes ∙ k.0 in
    absurd cc
same_front c (d ∷ a) [] x y h k e =
    let head : d ≡ c = cc in
    let yes : eqb d c ≡ true = eq-eqb d c head in
    let no = sym yes ∙ h.0 in
    absurd cc
same_front c (d ∷ a) (f ∷ b) x y h k e =
    let head : d ≡ f = cc in
    let tail : a ++ c ∷ x ≡ b ++ c ∷ y = cc in
    let rest = same_front c a b x y h.1 k.1 tail in
    (joined d f a b head rest.0, rest.1)
  where
    joined : (d f : ℕ) (a b : List ℕ) → d ≡ f → a ≡ b → d ∷ a ≡ f ∷ b
    joined d f a b p q = cc

-- a line and what follows it
pub line_then : (e : Event) (more : List ℕ) → line_of e ++ more ≡ text_of e ++ 10 ∷ more
line_then e more = append_assoc (text_of e) (10 ∷ []) more

-- an event's line at the front of a text is its first line
pub line_front : (e : Event) (line others more : List ℕ) → IsEvent e → Lacks 10 line → line ++ 10 ∷ others ≡ line_of e ++ more → (line ≡ text_of e) × (others ≡ more)
line_front e line others more h lacks same = same_front 10 line (text_of e) others more lacks (text_lacks e h) (same ∙ line_then e more)

-- one event has a line
pub one_event : (e f : Event) (x y : List ℕ) → IsEvent e → IsEvent f → line_of e ++ x ≡ line_of f ++ y → (e ≡ f) × (x ≡ y)
one_event e f x y h k same =
    let p = line_front f (text_of e) x y k (text_lacks e h) (sym (line_then e x) ∙ same) in
    (some_same e f (sym (line_again e h) ∙ ap line_event p.0 ∙ line_again f k), p.1)

pub first_found : (script line others : List ℕ) (e : Event) → script ≡ line ++ 10 ∷ others → line_event line ≡ Some e → IsEvent e × (script ≡ line_of e ++ others)
first_found script line others e cut read =
    let p = line_takes line e read in
    (p.0, cut ∙ ap (λ (t : List ℕ). t ++ 10 ∷ others) p.1 ∙ sym (line_then e others))

pub first_bad : (script line others : List ℕ) → script ≡ line ++ 10 ∷ others → All (λ b. eqb b 10 ≡ false) line → line_event line ≡ None → BeginsBadly script
first_bad script line others cut lacks none e more h same =
    let p = line_front e line others more h (recursion_from_All (λ b. eqb b 10 ≡ false) line lacks) (sym cut ∙ same) in
    let read = sym (line_again e h) ∙ ap line_event (sym p.0) ∙ none in
    absurd cc

pub nothing_read : (fault : SpellingFault) (read : Option Event) → fault ≡ Bad → IsRead {X = Event} {Y = Event} (λ e. e) (Err fault) read → read ≡ None
nothing_read Bad read is gives = gives
nothing_read Memory read is gives = absurd cc
