-- Answers of one kind that are spelled alike are one.
use Rattle.std.proofs.Common.{◌≡◌, ℕ, ◌-◌, ◌^◌, ◌<◌, ◌==◌, List, [], ◌∷◌, ◌++◌, get_or, refl, sym, ap, subst, ◌∙◌, append_assoc, if◌then◌else◌, arith}
use Rattle.sn_bytes.specs.Records.{AreOfWidths, numbers_then}
use Rattle.sn_bytes.proofs.Records.{same_records, zero_number}
use Rattle.sn_fuse_replies.specs.declared.answer.Answer.{Answer}
use Rattle.sn_fuse_replies.specs.declared.answer.Answer.TheVariants.{Error, Nothing, Entry, Attributes, Opened, Created, Data, Written, Statistics, XattrSize, Listing, Initialized}
use Rattle.sn_fuse_replies.specs.declared.errno.Errno.{Errno}
use Rattle.sn_fuse_replies.specs.declared.errno.Errno.TheVariants.{EPERM, ENOENT, EIO, EBADF, EAGAIN, ENOMEM, EACCES, EBUSY, EEXIST, EXDEV, ENOTDIR, EISDIR, EINVAL, ENFILE, EMFILE, EFBIG, ENOSPC, EROFS, EMLINK, ERANGE, ENAMETOOLONG, ENOSYS, ENOTEMPTY, ENODATA, EOPNOTSUPP, ESTALE}
use Rattle.sn_fuse_replies.specs.Answer.{error_number, fixed_bytes, reply_bytes, reply_size, tail_of}
use Rattle.sn_fuse_replies.specs.Errno.{errno_number}
use Rattle.sn_fuse_replies.specs.Law.{AreAlike, RepliesDiffer, numbers_of, widths_of}

-- ---- errors

few : (errno : Errno) → (0 < errno_number errno) × (errno_number errno < 512)
few EPERM = (omega arith, omega arith)
few ENOENT = (omega arith, omega arith)
few EIO = (omega arith, omega arith)
few EBADF = (omega arith, omega arith)
few EAGAIN = (omega arith, omega arith)
few ENOMEM = (omega arith, omega arith)
few EACCES = (omega arith, omega arith)
few EBUSY = (omega arith, omega arith)
few EEXIST = (omega arith, omega arith)
few EXDEV = (omega arith, omega arith)
few ENOTDIR = (omega arith, omega arith)
few EISDIR = (omega arith, omega arith)
few EINVAL = (omega arith, omega arith)
few ENFILE = (omega arith, omega arith)
few EMFILE = (omega arith, omega arith)
few EFBIG = (omega arith, omega arith)
few ENOSPC = (omega arith, omega arith)
few EROFS = (omega arith, omega arith)
few EMLINK = (omega arith, omega arith)
few ERANGE = (omega arith, omega arith)
few ENAMETOOLONG = (omega arith, omega arith)
few ENOSYS = (omega arith, omega arith)
few ENOTEMPTY = (omega arith, omega arith)
few ENODATA = (omega arith, omega arith)
few EOPNOTSUPP = (omega arith, omega arith)
few ESTALE = (omega arith, omega arith)

errno_at : ℕ → Errno
errno_at number =
    if number == 1 then EPERM else
    if number == 2 then ENOENT else
    if number == 5 then EIO else
    if number == 9 then EBADF else
    if number == 11 then EAGAIN else
    if number == 12 then ENOMEM else
    if number == 13 then EACCES else
    if number == 16 then EBUSY else
    if number == 17 then EEXIST else
    if number == 18 then EXDEV else
    if number == 20 then ENOTDIR else
    if number == 21 then EISDIR else
    if number == 22 then EINVAL else
    if number == 23 then ENFILE else
    if number == 24 then EMFILE else
    if number == 27 then EFBIG else
    if number == 28 then ENOSPC else
    if number == 30 then EROFS else
    if number == 31 then EMLINK else
    if number == 34 then ERANGE else
    if number == 36 then ENAMETOOLONG else
    if number == 38 then ENOSYS else
    if number == 39 then ENOTEMPTY else
    if number == 61 then ENODATA else
    if number == 95 then EOPNOTSUPP else
    ESTALE

numbered : (errno : Errno) → errno_at (errno_number errno) ≡ errno
unfolding errno_at
numbered EPERM = refl
numbered ENOENT = refl
numbered EIO = refl
numbered EBADF = refl
numbered EAGAIN = refl
numbered ENOMEM = refl
numbered EACCES = refl
numbered EBUSY = refl
numbered EEXIST = refl
numbered EXDEV = refl
numbered ENOTDIR = refl
numbered EISDIR = refl
numbered EINVAL = refl
numbered ENFILE = refl
numbered EMFILE = refl
numbered EFBIG = refl
numbered ENOSPC = refl
numbered EROFS = refl
numbered EMLINK = refl
numbered ERANGE = refl
numbered ENAMETOOLONG = refl
numbered ENOSYS = refl
numbered ENOTEMPTY = refl
numbered ENODATA = refl
numbered EOPNOTSUPP = refl
numbered ESTALE = refl

same_errors : (one other : Errno) → 2 ^ 32 - errno_number one ≡ 2 ^ 32 - errno_number other → one ≡ other
same_errors one other e =
    let here = few one in
    let there = few other in
    let number : errno_number one ≡ errno_number other = omega arith in
    sym (numbered one) ∙ ap errno_at number ∙ numbered other

error_fits : (answer : Answer) → error_number answer < 256 ^ 4
error_fits (Error errno) = let here = few errno in omega arith
error_fits Nothing = omega arith
error_fits (Entry entry) = omega arith
error_fits (Attributes last attributes) = omega arith
error_fits (Opened opened) = omega arith
error_fits (Created entry opened) = omega arith
error_fits (Data bytes) = omega arith
error_fits (Written count) = omega arith
error_fits (Statistics statistics) = omega arith
error_fits (XattrSize size) = omega arith
error_fits (Listing listed) = omega arith
error_fits (Initialized initialized) = omega arith

-- ---- bodies

-- what is before data or a listing is a record of numbers
flat : (answer : Answer) (rest : List ℕ) → fixed_bytes answer ++ rest ≡ numbers_then (widths_of answer) (numbers_of answer) rest
flat (Error errno) rest = refl
flat Nothing rest = refl
flat (Entry entry) rest = simp (append_assoc, zero_number)
flat (Attributes last attributes) rest = simp (append_assoc, zero_number)
flat (Opened opened) rest = simp (append_assoc, zero_number)
flat (Created entry opened) rest = simp (append_assoc, zero_number)
flat (Data bytes) rest = refl
flat (Written count) rest = simp (append_assoc, zero_number)
flat (Statistics statistics) rest = simp (append_assoc, zero_number)
flat (XattrSize size) rest = simp (append_assoc, zero_number)
flat (Listing listed) rest = refl
flat (Initialized initialized) rest = simp (append_assoc, zero_number)

abbrev at : ℕ → List ℕ → ℕ
at place numbers = get_or numbers place 0

-- the answers of one kind that have the same numbers and the same after them
made_alike : (a b : Answer) → AreAlike a b → error_number a ≡ error_number b → numbers_of a ≡ numbers_of b → tail_of a ≡ tail_of b → a ≡ b
made_alike (Error one) (Error other) alike e n t = ap Error (same_errors one other e)
made_alike Nothing Nothing alike e n t = refl
made_alike (Entry one) (Entry other) alike e n t = ap (λ (ns : List ℕ). Entry (record { node = at 0 ns; generation = at 1 ns; name_lasts = record { seconds = at 2 ns; nanoseconds = at 4 ns }; attributes_last = record { seconds = at 3 ns; nanoseconds = at 5 ns }; attributes = record { number = at 6 ns; size = at 7 ns; blocks = at 8 ns; accessed = record { seconds = at 9 ns; nanoseconds = at 12 ns }; modified = record { seconds = at 10 ns; nanoseconds = at 13 ns }; changed = record { seconds = at 11 ns; nanoseconds = at 14 ns }; mode = at 15 ns; links = at 16 ns; user = at 17 ns; group = at 18 ns; device = at 19 ns; block_size = at 20 ns } })) n
made_alike (Attributes last_of_one one) (Attributes last_of_other other) alike e n t = ap (λ (ns : List ℕ). Attributes (record { seconds = at 0 ns; nanoseconds = at 1 ns }) (record { number = at 3 ns; size = at 4 ns; blocks = at 5 ns; accessed = record { seconds = at 6 ns; nanoseconds = at 9 ns }; modified = record { seconds = at 7 ns; nanoseconds = at 10 ns }; changed = record { seconds = at 8 ns; nanoseconds = at 11 ns }; mode = at 12 ns; links = at 13 ns; user = at 14 ns; group = at 15 ns; device = at 16 ns; block_size = at 17 ns })) n
made_alike (Opened one) (Opened other) alike e n t = ap (λ (ns : List ℕ). Opened (record { handle = at 0 ns; flags = at 1 ns })) n
made_alike (Created one opened_of_one) (Created other opened_of_other) alike e n t = ap (λ (ns : List ℕ). Created (record { node = at 0 ns; generation = at 1 ns; name_lasts = record { seconds = at 2 ns; nanoseconds = at 4 ns }; attributes_last = record { seconds = at 3 ns; nanoseconds = at 5 ns }; attributes = record { number = at 6 ns; size = at 7 ns; blocks = at 8 ns; accessed = record { seconds = at 9 ns; nanoseconds = at 12 ns }; modified = record { seconds = at 10 ns; nanoseconds = at 13 ns }; changed = record { seconds = at 11 ns; nanoseconds = at 14 ns }; mode = at 15 ns; links = at 16 ns; user = at 17 ns; group = at 18 ns; device = at 19 ns; block_size = at 20 ns } }) (record { handle = at 22 ns; flags = at 23 ns })) n
made_alike (Data one) (Data other) alike e n t = ap Data t
made_alike (Written one) (Written other) alike e n t = ap (λ (ns : List ℕ). Written (at 0 ns)) n
made_alike (Statistics one) (Statistics other) alike e n t = ap (λ (ns : List ℕ). Statistics (record { blocks = at 0 ns; free = at 1 ns; available = at 2 ns; files = at 3 ns; free_files = at 4 ns; block_size = at 5 ns; name_length = at 6 ns; fragment_size = at 7 ns })) n
made_alike (XattrSize one) (XattrSize other) alike e n t = ap (λ (ns : List ℕ). XattrSize (at 0 ns)) n
made_alike (Listing one) (Listing other) alike e n t = ap Listing t
made_alike (Initialized one) (Initialized other) alike e n t = ap (λ (ns : List ℕ). Initialized (record { major = at 0 ns; minor = at 1 ns; readahead = at 2 ns; flags = record { 0 = at 3 ns }; background = at 4 ns; congestion = at 5 ns; write = at 6 ns; time_granularity = at 7 ns; pages = at 8 ns })) n
made_alike a b alike e n t = absurd alike

-- answers of one kind have numbers of the same widths
same_widths : (a b : Answer) → AreAlike a b → widths_of a ≡ widths_of b
same_widths (Error one) (Error other) alike = refl
same_widths Nothing Nothing alike = refl
same_widths (Entry one) (Entry other) alike = refl
same_widths (Attributes last_of_one one) (Attributes last_of_other other) alike = refl
same_widths (Opened one) (Opened other) alike = refl
same_widths (Created one opened_of_one) (Created other opened_of_other) alike = refl
same_widths (Data one) (Data other) alike = refl
same_widths (Written one) (Written other) alike = refl
same_widths (Statistics one) (Statistics other) alike = refl
same_widths (XattrSize one) (XattrSize other) alike = refl
same_widths (Listing one) (Listing other) alike = refl
same_widths (Initialized one) (Initialized other) alike = refl
same_widths a b alike = absurd alike

pub replies : RepliesDiffer
replies u v a b fits-u fits-v is-a is-b e =
    let widths : List ℕ = 4 ∷ 4 ∷ 8 ∷ [] in
    let numbers-a : List ℕ = reply_size a ∷ error_number a ∷ u ∷ [] in
    let numbers-b : List ℕ = reply_size b ∷ error_number b ∷ v ∷ [] in
    let body-a = fixed_bytes a ++ tail_of a in
    let body-b = fixed_bytes b ++ tail_of b in
    let flat-a : reply_bytes u a ≡ numbers_then widths numbers-a body-a = simp append_assoc in
    let flat-b : reply_bytes v b ≡ numbers_then widths numbers-b body-b = simp append_assoc in
    let heads = same_records widths numbers-a numbers-b body-a body-b (is-a.0, (error_fits a, (fits-u, tt))) (is-b.0, (error_fits b, (fits-v, tt))) (sym flat-a ∙ e ∙ flat-b) in
    let error : error_number a ≡ error_number b = ap (at 1) heads.0 in
    let body = sym (flat a (tail_of a)) ∙ heads.1 ∙ flat b (tail_of b) in (
      ap (at 2) heads.0,
      λ alike.
          let width = same_widths a b alike in
          let fits-b = subst (λ (ws : List ℕ). AreOfWidths ws (numbers_of b)) (sym width) is-b.1 in
          let there = ap (λ (ws : List ℕ). numbers_then ws (numbers_of b) (tail_of b)) (sym width) in
          let bodies = same_records (widths_of a) (numbers_of a) (numbers_of b) (tail_of a) (tail_of b) is-a.1 fits-b (body ∙ there) in
          made_alike a b alike error bodies.0 bodies.1,
    )
