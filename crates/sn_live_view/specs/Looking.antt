-- What user 0 sees of the trees, who may search every directory.
use Rattle.std.specs.Prelude.{[], List, ℕ, Option}
use Rattle.std.specs.Option.{option_map}
use Rattle.std.specs.Result.{result_ok}
use Rattle.sn_acl.specs.Credential.{Credential}
use Rattle.sn_live_view.specs.declared.looking.Known.{Known}
use Rattle.sn_live_view.specs.declared.looking.Sought.{Sought}
use Rattle.sn_live_view.specs.declared.looking.Sought.TheVariants as sought
use Rattle.sn_model.specs.Tests.{full}
use Rattle.sn_walk.specs.declared.view.Attributes.{Attributes}
use Rattle.sn_walk.specs.declared.walking.Found.{Found}
use Rattle.sn_walk.specs.Views.{ViewedTrees, attributes_at}

-- user 0, who is in no other group
abbrev pub superuser : Credential
superuser = record { uid = 0; gid = 0; groups = [] }

-- what a path leads user 0 to
abbrev pub known_by : ViewedTrees → List (List ℕ) → Option Known
known_by trees names = option_map (λ (f : Found). record { object = f.object; attributes = f.attributes }) (result_ok (full trees superuser 1 names))

-- what is sought, where it is there
abbrev pub known_at : ViewedTrees → Sought → Option Known
known_at trees (sought.Path names) = known_by trees names
known_at trees (sought.Object object) = option_map (λ (a : Attributes). record { object = object; attributes = a }) (attributes_at trees object)
