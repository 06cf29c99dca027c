use Rattle.std.proofs.Common.{◌≡◌, IsSome, Option, Some, None, get_or, refl, set, sym, ap, ◌∙◌}
use Rattle.std.specs.Option.{option_map}
use Rattle.slab.proofs.SlabLemmas.{Updates-with_value}
use Rattle.slab.specs.Slab.{get, with_value}
use Rattle.sn_desc.specs.Files.{with_offset}
use Rattle.sn_desc.specs.Seats.{files_under}
use Rattle.sn_desc.specs.declared.open_file.OpenFile.{OpenFile}
use Rattle.sn_desc.proofs.KeyLemmas.{change_files, key_has}
use Rattle.sn_desc.proofs.seats.Seats.set_offset.Goals as goal

some_is : {X : Type 0} (o : Option X) (x : X) → o ≡ Some x → IsSome o
some_is o x e = rw e refl

pub returns-in-Some-get_mut-clause-files : goal.returns-in-Some-get_mut-clause-files
returns-in-Some-get_mut-clause-files c =
    let s = c.args.self.now in
    let key = c.in-Some.key in
    let own = sym c.in-Some.ensures in
    let is : get s.files key ≡ Some c.in-Some-get_mut.file.now = sym c.in-Some-get_mut.ensures.value in
    let file = with_offset c.args.offset c.in-Some-get_mut.file.now in
    let was : get_or (files_under s.files s.keys.items) c.args.seat None ≡ Some c.in-Some-get_mut.file.now = key_has s.files s.keys.items c.args.seat key own ∙ is in
    change_files s.files (with_value s.files key file) s.keys.items c.args.seat key (Some file) s.seated (Updates-with_value s.files key file (some_is _ _ is)) own
    ∙ sym (ap (λ (o : Option OpenFile). set (files_under s.files s.keys.items) c.args.seat (option_map (with_offset c.args.offset) o)) was)
