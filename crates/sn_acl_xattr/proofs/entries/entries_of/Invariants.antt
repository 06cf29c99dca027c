use Rattle.std.proofs.Common.{◌≡◌, length, take, drop, List, true}
use Rattle.std.specs.List.{list_all}
use Rattle.sn_acl.specs.declared.entries.Entry.{Entry}
use Rattle.sn_acl.specs.AccessList.{is_entry}
use Rattle.sn_acl_xattr.specs.Values.{AreRawOf}
use Rattle.sn_acl_xattr.proofs.Raws.{IsFront}
use Rattle.sn_acl_xattr.proofs.entries.entries_of.Given as goal

abbrev pub invariant-loop-raw : goal.invariant-loop-raw
invariant-loop-raw l = record {
  count : length l.entries.items ≡ l.raw-index;
  are : AreRawOf (take l.raw-index l.raws) l.entries.items;
  only : (others : List Entry) → list_all is_entry others ≡ true → AreRawOf l.raws others → IsFront l.entries.items others (drop l.raw-index l.raws);
}
