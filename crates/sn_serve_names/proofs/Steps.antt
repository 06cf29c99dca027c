-- What the messages share.
use Rattle.std.proofs.Common.{◌≡◌, Bool, ℕ, List, subst}
use Rattle.std.specs.Prelude.{Result, Ok, Err, MatchResult, OnOk, OnErr, true, false, is_ok}
use Rattle.arrayvec.specs.ArrayVec.{ArrayVec}
use Rattle.sn_fuse_replies.specs.declared.errno.Errno.{Errno}
use Rattle.sn_plan.specs.Acts.{Act}
use Rattle.sn_plan.specs.Follows.{Does, kept_of}
use Rattle.sn_plan.specs.Plans.{Plan, ◌>>=◌}
use Rattle.sn_plan.specs.declared.server.Server.{Server}
use Rattle.sn_plan.proofs.Following.{after_known}
use Rattle.sn_serve_names.specs.Names.{are_snapshots, is_snapshots}

-- what is known of a name
pub image_there : (known : Result (List ℕ) Errno) (r : Result (ArrayVec ℕ) Errno) {image : ArrayVec ℕ}
    → MatchResult r (λ a. known ≡ Ok a.items) (λ e. known ≡ Err e) → r ≡ Ok image → known ≡ Ok image.items
image_there known r m is = subst (λ (x : Result (ArrayVec ℕ) Errno). MatchResult x (λ a. known ≡ Ok a.items) (λ e. known ≡ Err e)) is m

pub image_missing : (known : Result (List ℕ) Errno) (r : Result (ArrayVec ℕ) Errno) {e : Errno}
    → MatchResult r (λ a. known ≡ Ok a.items) (λ e. known ≡ Err e) → r ≡ Err e → known ≡ Err e
image_missing known r m is = subst (λ (x : Result (ArrayVec ℕ) Errno). MatchResult x (λ a. known ≡ Ok a.items) (λ e. known ≡ Err e)) is m

-- whether a directory is that of the snapshots
pub after_snapshots : {F B : Type 0} {did : F → F → List Act → Type 0} {s t : Server F} (id : ℕ) (k : Bool → Plan B) {b : Bool} {r : Result B Errno}
    → b ≡ is_snapshots id (kept_of s) → Does did s t (k b) r → Does did s t (are_snapshots id >>= k) r
unfolding are_snapshots
after_snapshots id k is h = after_known (is_snapshots id) k is h

pub when_ok : {A E P : Type 0} (r : Result A E) → is_ok r ≡ true → OnOk r P → P
when_ok (Ok a) is h = h
when_ok (Err e) is h = cc

pub when_err : {A E P : Type 0} (r : Result A E) → is_ok r ≡ false → OnErr r P → P
when_err (Ok a) is h = cc
when_err (Err e) is h = h
