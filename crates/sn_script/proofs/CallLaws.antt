-- A call that is read from its name and arguments is theirs, and the call of a name and arguments is read from them.
use Rattle.std.proofs.Common.{◌≡◌, ℕ, ◌^◌, ◌<◌, inl, inr, cond, List, [], ◌∷◌, Option, Some, None, refl, sym, subst, ◌∙◌, lit≤}
use Rattle.std.specs.Prelude.{true, decimal, codes}
use Rattle.std.specs.Str.{bytes_eq}
use Rattle.std.proofs.lemmas.Slice.Eq.{bytes_eq-Decides}
use Rattle.sn_model.specs.declared.call.Call.{Call}
use Rattle.sn_model.specs.declared.call.Call.TheVariants as call
use Rattle.sn_model.specs.Chains.{◌>>=◌}
use Rattle.sn_model.proofs.ChainLemmas.{bind_some, some_same}
use Rattle.sn_model.specs.Texts.{access_text}
use Rattle.sn_words.specs.Fields.{octal, id_word, numbers_word, is_word, kind_word, flags_word, content_word, mode_words}
use Rattle.sn_script.specs.Lines.{name_of, arguments_of, IsCall}
use Rattle.sn_words.specs.Reading.{number_below, octal_of, groups_of, id_of, word_of, want_of, kind_named, flags_of, file_mode_of, content_of}
use Rattle.sn_script.specs.Reading.{path_of, paths_of, path_mode_of, descriptor_of, descriptor_number_of, login_of, bare_of, umask_of, chown_of, access_of, getacl_of, setacl_of, open_of, write_of, file_call_of, access_call_of, path_call_of, name_call_of, point_call_of, call_of}
use Rattle.sn_words.proofs.Options.{chosen}
use Rattle.sn_words.proofs.Numbers.{number_again, number_takes}
use Rattle.sn_words.proofs.FieldLaws.{octal_takes, octal_again, word_takes, word_again, groups_take, groups_again, id_takes, id_again, want_takes, want_again, kind_takes, kind_again}
use Rattle.sn_words.proofs.FlagLaws.{flags_take, flags_again, file_mode_takes, file_mode_again, content_takes, content_again}

-- what was read as this call
abbrev pub Reads : List ℕ → List (List ℕ) → Call → Type 0
Reads name arguments c = (name ≡ name_of c) × (arguments ≡ arguments_of c) × IsCall c

one : (a x : List ℕ) → a ≡ x → a ∷ [] ≡ x ∷ []
one a x p = cc

two : (a b x y : List ℕ) → a ≡ x → b ≡ y → a ∷ b ∷ [] ≡ x ∷ y ∷ []
two a b x y p q = cc

three : (a b c x y z : List ℕ) → a ≡ x → b ≡ y → c ≡ z → a ∷ b ∷ c ∷ [] ≡ x ∷ y ∷ z ∷ []
three a b c x y z p q r = cc

-- ---- arguments that several calls have

path_takes : (arguments : List (List ℕ)) (p : List ℕ) → path_of arguments ≡ Some p → (arguments ≡ p ∷ []) × (is_word p ≡ true)
unfolding path_of
path_takes [] p e = absurd cc
path_takes (path ∷ more ∷ others) p e = absurd cc
path_takes (path ∷ []) p e =
    let t = word_takes path p e in
    (one path p t.0, t.1)

abbrev ArePaths : List (List ℕ) → List ℕ × List ℕ → Type 0
ArePaths arguments p = (arguments ≡ p.0 ∷ p.1 ∷ []) × (is_word p.0 ≡ true) × (is_word p.1 ≡ true)

paths_take : (arguments : List (List ℕ)) (p : List ℕ × List ℕ) → paths_of arguments ≡ Some p → (arguments ≡ p.0 ∷ p.1 ∷ []) × (is_word p.0 ≡ true) × (is_word p.1 ≡ true)
unfolding paths_of
paths_take [] p e = absurd cc
paths_take (old ∷ []) p e = absurd cc
paths_take (old ∷ new ∷ more ∷ others) p e = absurd cc
paths_take (old ∷ new ∷ []) p e =
    let o = bind_some (word_of old) (λ o. word_of new >>= (λ n. Some (o, n))) p e in
    let n = bind_some (word_of new) (λ n. Some (o.0, n)) p o.2 in
    let q = word_takes old o.0 o.1 in
    let r = word_takes new n.0 n.1 in
    subst (ArePaths (old ∷ new ∷ [])) (some_same (o.0, n.0) p n.2) (two old new o.0 n.0 q.0 r.0, q.1, r.1)

abbrev ArePathMode : List (List ℕ) → List ℕ × ℕ → Type 0
ArePathMode arguments p = (arguments ≡ p.0 ∷ octal p.1 ∷ []) × (is_word p.0 ≡ true) × (p.1 < 4096)

path_mode_takes : (arguments : List (List ℕ)) (p : List ℕ × ℕ) → path_mode_of arguments ≡ Some p → (arguments ≡ p.0 ∷ octal p.1 ∷ []) × (is_word p.0 ≡ true) × (p.1 < 4096)
unfolding path_mode_of
path_mode_takes [] p e = absurd cc
path_mode_takes (path ∷ []) p e = absurd cc
path_mode_takes (path ∷ mode ∷ more ∷ others) p e = absurd cc
path_mode_takes (path ∷ mode ∷ []) p e =
    let w = bind_some (word_of path) (λ w. octal_of mode >>= (λ m. Some (w, m))) p e in
    let m = bind_some (octal_of mode) (λ m. Some (w.0, m)) p w.2 in
    let q = word_takes path w.0 w.1 in
    let r = octal_takes mode m.0 m.1 in
    subst (ArePathMode (path ∷ mode ∷ [])) (some_same (w.0, m.0) p m.2) (two path mode w.0 (octal m.0) q.0 r.0, q.1, r.1)

descriptor_takes : (arguments : List (List ℕ)) (d : ℕ) → descriptor_of arguments ≡ Some d → (arguments ≡ decimal d ∷ []) × (d < 2 ^ 32)
unfolding descriptor_of
descriptor_takes [] d e = absurd cc
descriptor_takes (fd ∷ more ∷ others) d e = absurd cc
descriptor_takes (fd ∷ []) d e =
    let t = number_takes (2 ^ 32) d fd e in
    (one fd (decimal d) t.0, t.1)

abbrev AreDescriptorNumber : List (List ℕ) → ℕ × ℕ → Type 0
AreDescriptorNumber arguments d = (arguments ≡ decimal d.0 ∷ decimal d.1 ∷ []) × (d.0 < 2 ^ 32) × (d.1 < 2 ^ 64)

descriptor_number_takes : (arguments : List (List ℕ)) (d : ℕ × ℕ) → descriptor_number_of arguments ≡ Some d → (arguments ≡ decimal d.0 ∷ decimal d.1 ∷ []) × (d.0 < 2 ^ 32) × (d.1 < 2 ^ 64)
unfolding descriptor_number_of
descriptor_number_takes [] d e = absurd cc
descriptor_number_takes (fd ∷ []) d e = absurd cc
descriptor_number_takes (fd ∷ number ∷ more ∷ others) d e = absurd cc
descriptor_number_takes (fd ∷ number ∷ []) d e =
    let f = bind_some (number_below (2 ^ 32) fd) (λ f. number_below (2 ^ 64) number >>= (λ n. Some (f, n))) d e in
    let n = bind_some (number_below (2 ^ 64) number) (λ n. Some (f.0, n)) d f.2 in
    let q = number_takes (2 ^ 32) f.0 fd f.1 in
    let r = number_takes (2 ^ 64) n.0 number n.1 in
    subst (AreDescriptorNumber (fd ∷ number ∷ [])) (some_same (f.0, n.0) d n.2) (two fd number (decimal f.0) (decimal n.0) q.0 r.0, q.1, r.1)

-- ---- the other calls

login_takes : (arguments : List (List ℕ)) (c : Call) → login_of arguments ≡ Some c → Reads (codes "login") arguments c
unfolding login_of
login_takes [] c e = absurd cc
login_takes (uid ∷ []) c e = absurd cc
login_takes (uid ∷ gid ∷ []) c e = absurd cc
login_takes (uid ∷ gid ∷ groups ∷ more ∷ others) c e = absurd cc
login_takes (uid ∷ gid ∷ groups ∷ []) c e =
    let u = bind_some (number_below (2 ^ 32) uid) (λ u. number_below (2 ^ 32) gid >>= (λ g. groups_of groups >>= (λ others. Some (call.Login u g others)))) c e in
    let g = bind_some (number_below (2 ^ 32) gid) (λ g. groups_of groups >>= (λ others. Some (call.Login u.0 g others))) c u.2 in
    let others = bind_some (groups_of groups) (λ others. Some (call.Login u.0 g.0 others)) c g.2 in
    let p = number_takes (2 ^ 32) u.0 uid u.1 in
    let q = number_takes (2 ^ 32) g.0 gid g.1 in
    let r = groups_take groups others.0 others.1 in
    subst (Reads (codes "login") (uid ∷ gid ∷ groups ∷ [])) (some_same (call.Login u.0 g.0 others.0) c others.2)
    (refl, three uid gid groups (decimal u.0) (decimal g.0) (numbers_word others.0) p.0 q.0 r.0, (p.1, q.1, r.1, r.2))

bare_takes : (bare : Call) (arguments : List (List ℕ)) (c : Call) → arguments_of bare ≡ [] → IsCall bare → bare_of bare arguments ≡ Some c → Reads (name_of bare) arguments c
unfolding bare_of
bare_takes bare (more ∷ others) c none valid e = absurd cc
bare_takes bare [] c none valid e = subst (Reads (name_of bare) []) (some_same bare c e) (refl, sym none, valid)

umask_takes : (arguments : List (List ℕ)) (c : Call) → umask_of arguments ≡ Some c → Reads (codes "umask") arguments c
unfolding umask_of
umask_takes [] c e = absurd cc
umask_takes (mask ∷ more ∷ others) c e = absurd cc
umask_takes (mask ∷ []) c e =
    let m = bind_some (octal_of mask) (λ m. Some (call.Umask m)) c e in
    let q = octal_takes mask m.0 m.1 in
    subst (Reads (codes "umask") (mask ∷ [])) (some_same (call.Umask m.0) c m.2) (refl, one mask (octal m.0) q.0, q.1)

chown_takes : (arguments : List (List ℕ)) (c : Call) → chown_of arguments ≡ Some c → Reads (codes "chown") arguments c
unfolding chown_of
chown_takes [] c e = absurd cc
chown_takes (path ∷ []) c e = absurd cc
chown_takes (path ∷ uid ∷ []) c e = absurd cc
chown_takes (path ∷ uid ∷ gid ∷ more ∷ others) c e = absurd cc
chown_takes (path ∷ uid ∷ gid ∷ []) c e =
    let w = bind_some (word_of path) (λ p. id_of uid >>= (λ u. id_of gid >>= (λ g. Some (call.Chown p u g)))) c e in
    let u = bind_some (id_of uid) (λ u. id_of gid >>= (λ g. Some (call.Chown w.0 u g))) c w.2 in
    let g = bind_some (id_of gid) (λ g. Some (call.Chown w.0 u.0 g)) c u.2 in
    let p = word_takes path w.0 w.1 in
    let q = id_takes uid u.0 u.1 in
    let r = id_takes gid g.0 g.1 in
    subst (Reads (codes "chown") (path ∷ uid ∷ gid ∷ [])) (some_same (call.Chown w.0 u.0 g.0) c g.2)
    (refl, three path uid gid w.0 (id_word u.0) (id_word g.0) p.0 q.0 r.0, (p.1, q.1, r.1))

access_takes : (arguments : List (List ℕ)) (c : Call) → access_of arguments ≡ Some c → Reads (codes "access") arguments c
unfolding access_of
access_takes [] c e = absurd cc
access_takes (path ∷ []) c e = absurd cc
access_takes (path ∷ want ∷ more ∷ others) c e = absurd cc
access_takes (path ∷ want ∷ []) c e =
    let w = bind_some (word_of path) (λ p. want_of want >>= (λ a. Some (call.Access p a))) c e in
    let a = bind_some (want_of want) (λ a. Some (call.Access w.0 a)) c w.2 in
    let p = word_takes path w.0 w.1 in
    subst (Reads (codes "access") (path ∷ want ∷ [])) (some_same (call.Access w.0 a.0) c a.2)
    (refl, two path want w.0 (access_text a.0) p.0 (want_takes want a.0 a.1), p.1)

getacl_takes : (arguments : List (List ℕ)) (c : Call) → getacl_of arguments ≡ Some c → Reads (codes "getacl") arguments c
unfolding getacl_of
getacl_takes [] c e = absurd cc
getacl_takes (path ∷ []) c e = absurd cc
getacl_takes (path ∷ kind ∷ more ∷ others) c e = absurd cc
getacl_takes (path ∷ kind ∷ []) c e =
    let w = bind_some (word_of path) (λ p. kind_named kind >>= (λ k. Some (call.GetAcl p k))) c e in
    let k = bind_some (kind_named kind) (λ k. Some (call.GetAcl w.0 k)) c w.2 in
    let p = word_takes path w.0 w.1 in
    subst (Reads (codes "getacl") (path ∷ kind ∷ [])) (some_same (call.GetAcl w.0 k.0) c k.2)
    (refl, two path kind w.0 (kind_word k.0) p.0 (kind_takes kind k.0 k.1), p.1)

setacl_takes : (arguments : List (List ℕ)) (c : Call) → setacl_of arguments ≡ Some c → Reads (codes "setacl") arguments c
unfolding setacl_of
setacl_takes [] c e = absurd cc
setacl_takes (path ∷ []) c e = absurd cc
setacl_takes (path ∷ kind ∷ []) c e = absurd cc
setacl_takes (path ∷ kind ∷ acl ∷ more ∷ others) c e = absurd cc
setacl_takes (path ∷ kind ∷ acl ∷ []) c e =
    let w = bind_some (word_of path) (λ p. kind_named kind >>= (λ k. word_of acl >>= (λ a. Some (call.SetAcl p k a)))) c e in
    let k = bind_some (kind_named kind) (λ k. word_of acl >>= (λ a. Some (call.SetAcl w.0 k a))) c w.2 in
    let a = bind_some (word_of acl) (λ a. Some (call.SetAcl w.0 k.0 a)) c k.2 in
    let p = word_takes path w.0 w.1 in
    let q = word_takes acl a.0 a.1 in
    subst (Reads (codes "setacl") (path ∷ kind ∷ acl ∷ [])) (some_same (call.SetAcl w.0 k.0 a.0) c a.2)
    (refl, three path kind acl w.0 (kind_word k.0) a.0 p.0 (kind_takes kind k.0 k.1) q.0, (p.1, q.1))

open_takes : (arguments : List (List ℕ)) (c : Call) → open_of arguments ≡ Some c → Reads (codes "open") arguments c
unfolding open_of
open_takes [] c e = absurd cc
open_takes (path ∷ []) c e = absurd cc
open_takes (path ∷ flags ∷ modes) c e =
    let w = bind_some (word_of path) (λ p. flags_of flags >>= (λ f. file_mode_of f.create modes >>= (λ m. Some (call.Open p f m)))) c e in
    let f = bind_some (flags_of flags) (λ f. file_mode_of f.create modes >>= (λ m. Some (call.Open w.0 f m))) c w.2 in
    let m = bind_some (file_mode_of f.0.create modes) (λ m. Some (call.Open w.0 f.0 m)) c f.2 in
    let p = word_takes path w.0 w.1 in
    let q = flags_take flags f.0 f.1 in
    let r = file_mode_takes f.0.create modes m.0 m.1 in
    subst (Reads (codes "open") (path ∷ flags ∷ modes)) (some_same (call.Open w.0 f.0 m.0) c m.2)
    (refl, behind_two path flags w.0 (flags_word f.0) modes (mode_words f.0.create m.0) p.0 q.0 r.0, (p.1, q.1, r.1))
  where
    behind_two : (a b x y : List ℕ) (cs zs : List (List ℕ)) → a ≡ x → b ≡ y → cs ≡ zs → a ∷ b ∷ cs ≡ x ∷ y ∷ zs
    behind_two a b x y cs zs p q r = cc

write_takes : (arguments : List (List ℕ)) (c : Call) → write_of arguments ≡ Some c → Reads (codes "write") arguments c
unfolding write_of
write_takes [] c e = absurd cc
write_takes (fd ∷ []) c e = absurd cc
write_takes (fd ∷ bytes ∷ more ∷ others) c e = absurd cc
write_takes (fd ∷ bytes ∷ []) c e =
    let d = bind_some (number_below (2 ^ 32) fd) (λ d. content_of bytes >>= (λ bs. Some (call.Write d bs))) c e in
    let bs = bind_some (content_of bytes) (λ bs. Some (call.Write d.0 bs)) c d.2 in
    let p = number_takes (2 ^ 32) d.0 fd d.1 in
    let q = content_takes bytes bs.0 bs.1 in
    subst (Reads (codes "write") (fd ∷ bytes ∷ [])) (some_same (call.Write d.0 bs.0) c bs.2)
    (refl, two fd bytes (decimal d.0) (content_word bs.0) p.0 q.0, (p.1, q.1))

module _ (name : List ℕ) (arguments : List (List ℕ)) (c : Call) where
  named : (other : List ℕ) → bytes_eq name other ≡ true → Reads other arguments c → Reads name arguments c
  named other e r = ((bytes_eq-Decides name other).0 e ∙ r.0, r.1, r.2)

  -- the words of the call of this name, or of another's
  picked : (other : List ℕ) (read others : Option Call) → (read ≡ Some c → Reads other arguments c) → (others ≡ Some c → Reads name arguments c) → cond (bytes_eq name other) read others ≡ Some c → Reads name arguments c
  picked other read others takes more e =
      elim (chosen (bytes_eq name other) read others (Some c) e) [
        | inl h ↦ named other h.0 (takes h.1)
        | inr h ↦ more h.1
      ]

  -- a call that is made of what its arguments say
  made : {A : Type 0} (other : List ℕ) (read : Option A) (make : A → Call) → ((a : A) → read ≡ Some a → Reads other arguments (make a)) → (read >>= (λ a. Some (make a))) ≡ Some c → Reads other arguments c
  made other read make says e =
      let a = bind_some read (λ a. Some (make a)) c e in
      subst (Reads other arguments) (some_same (make a.0) c a.2) (says a.0 a.1)

  file_call_takes : file_call_of name arguments ≡ Some c → Reads name arguments c
  unfolding file_call_of
  file_call_takes =
      picked (codes "open") (open_of arguments) _ (open_takes arguments c)
      (picked (codes "close") _ _ (made (codes "close") (descriptor_of arguments) (λ d. call.Close d) (λ d e. let t = descriptor_takes arguments d e in (refl, t.0, t.1)))
      (picked (codes "read") _ _ (made (codes "read") (descriptor_number_of arguments) (λ d. call.Read d.0 d.1) (λ d e. let t = descriptor_number_takes arguments d e in (refl, t.0, (t.1, t.2))))
      (picked (codes "write") (write_of arguments) _ (write_takes arguments c)
      (picked (codes "seek") _ _ (made (codes "seek") (descriptor_number_of arguments) (λ d. call.Seek d.0 d.1) (λ d e. let t = descriptor_number_takes arguments d e in (refl, t.0, (t.1, t.2))))
      (picked (codes "ftruncate") _ None (made (codes "ftruncate") (descriptor_number_of arguments) (λ d. call.Ftruncate d.0 d.1) (λ d e. let t = descriptor_number_takes arguments d e in (refl, t.0, (t.1, t.2)))) (λ e. absurd cc))))))

  access_call_takes : access_call_of name arguments ≡ Some c → Reads name arguments c
  unfolding access_call_of
  access_call_takes =
      picked (codes "chmod") _ _ (made (codes "chmod") (path_mode_of arguments) (λ p. call.Chmod p.0 p.1) (λ p e. let t = path_mode_takes arguments p e in (refl, t.0, (t.1, t.2))))
      (picked (codes "chown") (chown_of arguments) _ (chown_takes arguments c)
      (picked (codes "access") (access_of arguments) _ (access_takes arguments c)
      (picked (codes "getacl") (getacl_of arguments) _ (getacl_takes arguments c)
      (picked (codes "setacl") (setacl_of arguments) (file_call_of name arguments) (setacl_takes arguments c) file_call_takes))))

  path_call_takes : path_call_of name arguments ≡ Some c → Reads name arguments c
  unfolding path_call_of
  path_call_takes =
      picked (codes "rmdir") _ _ (made (codes "rmdir") (path_of arguments) (λ p. call.Rmdir p) (λ p e. let t = path_takes arguments p e in (refl, t.0, t.1)))
      (picked (codes "unlink") _ _ (made (codes "unlink") (path_of arguments) (λ p. call.Unlink p) (λ p e. let t = path_takes arguments p e in (refl, t.0, t.1)))
      (picked (codes "readdir") _ _ (made (codes "readdir") (path_of arguments) (λ p. call.Readdir p) (λ p e. let t = path_takes arguments p e in (refl, t.0, t.1)))
      (picked (codes "stat") _ (access_call_of name arguments) (made (codes "stat") (path_of arguments) (λ p. call.Stat p) (λ p e. let t = path_takes arguments p e in (refl, t.0, t.1))) access_call_takes)))

  name_call_takes : name_call_of name arguments ≡ Some c → Reads name arguments c
  unfolding name_call_of
  name_call_takes =
      picked (codes "mkdir") _ _ (made (codes "mkdir") (path_mode_of arguments) (λ p. call.Mkdir p.0 p.1) (λ p e. let t = path_mode_takes arguments p e in (refl, t.0, (t.1, t.2))))
      (picked (codes "link") _ _ (made (codes "link") (paths_of arguments) (λ p. call.Link p.0 p.1) (λ p e. let t = paths_take arguments p e in (refl, t.0, (t.1, t.2))))
      (picked (codes "rename") _ (path_call_of name arguments) (made (codes "rename") (paths_of arguments) (λ p. call.Rename p.0 p.1) (λ p e. let t = paths_take arguments p e in (refl, t.0, (t.1, t.2)))) path_call_takes))

  point_call_takes : point_call_of name arguments ≡ Some c → Reads name arguments c
  unfolding point_call_of
  point_call_takes =
      picked (codes "sync") (bare_of call.Sync arguments) _ (bare_takes call.Sync arguments c refl tt)
      (picked (codes "snap-create") _ _ (made (codes "snap-create") (path_of arguments) (λ p. call.SnapCreate p) (λ p e. let t = path_takes arguments p e in (refl, t.0, t.1)))
      (picked (codes "snap-delete") _ _ (made (codes "snap-delete") (path_of arguments) (λ p. call.SnapDelete p) (λ p e. let t = path_takes arguments p e in (refl, t.0, t.1)))
      (picked (codes "snap-restore") _ _ (made (codes "snap-restore") (path_of arguments) (λ p. call.SnapRestore p) (λ p e. let t = path_takes arguments p e in (refl, t.0, t.1)))
      (picked (codes "snap-list") (bare_of call.SnapList arguments) (name_call_of name arguments) (bare_takes call.SnapList arguments c refl tt) name_call_takes))))

  pub call_takes : call_of name arguments ≡ Some c → Reads name arguments c
  unfolding call_of
  call_takes =
      picked (codes "login") (login_of arguments) _ (login_takes arguments c)
      (picked (codes "logout") (bare_of call.Logout arguments) _ (bare_takes call.Logout arguments c refl tt)
      (picked (codes "umask") (umask_of arguments) (point_call_of name arguments) (umask_takes arguments c) point_call_takes))

pub call_again : (c : Call) → IsCall c → call_of (name_of c) (arguments_of c) ≡ Some c
unfolding call_of point_call_of name_call_of path_call_of access_call_of file_call_of path_of paths_of path_mode_of descriptor_of descriptor_number_of login_of bare_of umask_of chown_of access_of getacl_of setacl_of open_of write_of
call_again (call.Login uid gid groups) h = rw (number_again (2 ^ 32) uid (lit≤ tt) h.0, number_again (2 ^ 32) gid (lit≤ tt) h.1, groups_again groups h.2 h.3) refl
call_again call.Logout h = refl
call_again call.Sync h = refl
call_again (call.SnapCreate name) h = rw (word_again name h) refl
call_again (call.SnapDelete name) h = rw (word_again name h) refl
call_again (call.SnapRestore name) h = rw (word_again name h) refl
call_again call.SnapList h = refl
call_again (call.Umask mask) h = rw (octal_again mask h) refl
call_again (call.Mkdir path mode) h = rw (word_again path h.0, octal_again mode h.1) refl
call_again (call.Chmod path mode) h = rw (word_again path h.0, octal_again mode h.1) refl
call_again (call.Chown path uid gid) h = rw (word_again path h.0, id_again uid h.1, id_again gid h.2) refl
call_again (call.Stat path) h = rw (word_again path h) refl
call_again (call.Access path want) h = rw (word_again path h, want_again want) refl
call_again (call.GetAcl path kind) h = rw (word_again path h, kind_again kind) refl
call_again (call.SetAcl path kind acl) h = rw (word_again path h.0, kind_again kind, word_again acl h.1) refl
call_again (call.Rmdir path) h = rw (word_again path h) refl
call_again (call.Unlink path) h = rw (word_again path h) refl
call_again (call.Link old new) h = rw (word_again old h.0, word_again new h.1) refl
call_again (call.Rename old new) h = rw (word_again old h.0, word_again new h.1) refl
call_again (call.Readdir path) h = rw (word_again path h) refl
call_again (call.Open path flags mode) h = rw (word_again path h.0, flags_again flags h.1, file_mode_again flags.create mode h.2) refl
call_again (call.Close fd) h = rw (number_again (2 ^ 32) fd (lit≤ tt) h) refl
call_again (call.Read fd count) h = rw (number_again (2 ^ 32) fd (lit≤ tt) h.0, number_again (2 ^ 64) count (lit≤ tt) h.1) refl
call_again (call.Write fd bytes) h = rw (number_again (2 ^ 32) fd (lit≤ tt) h.0, content_again bytes h.1) refl
call_again (call.Seek fd offset) h = rw (number_again (2 ^ 32) fd (lit≤ tt) h.0, number_again (2 ^ 64) offset (lit≤ tt) h.1) refl
call_again (call.Ftruncate fd size) h = rw (number_again (2 ^ 32) fd (lit≤ tt) h.0, number_again (2 ^ 64) size (lit≤ tt) h.1) refl
