use Rattle.std.proofs.Common.{ap}
use Rattle.sn_layout.proofs.Fields.{some_none, some_some}
use Rattle.sn_layout_acl.specs.declared.acl_block.AclBlock.{AclBlock}
use Rattle.sn_layout_acl.specs.declared.acl_block.Lists.{Lists}
use Rattle.sn_layout_acl.specs.AclBlock.{default_entries}
use Rattle.sn_layout_acl.proofs.AclLists.{named_short, named_entries, default_short, default_each}
use Rattle.sn_layout_acl.proofs.acl_block.AclBlock.decode.Goals as goal

-- the lists of an ACL block
abbrev lists_of : AclBlock → Lists
lists_of acls = record { access = record { items = acls.access }; default = record { items = default_entries acls.default } }

pub returns-in_err-lists-clause-only : goal.returns-in_err-lists-clause-only
returns-in_err-lists-clause-only c = λ acls fits e.
    let lists = c.read_lists.ensures.only acls.access (default_entries acls.default) (named_short acls.access fits.access) (default_short acls.default fits.default) (named_entries acls.access fits.access) (default_each acls.default fits.default) e in
    some_none c.read_lists.result (lists_of acls) lists c.in_err-lists.was

pub returns-clause-only : goal.returns-clause-only
returns-clause-only c = λ acls fits e.
    let lists = c.read_lists.ensures.only acls.access (default_entries acls.default) (named_short acls.access fits.access) (default_short acls.default fits.default) (named_entries acls.access fits.access) (default_each acls.default fits.default) e in
    let same = some_some c.read_lists.result c.in_ok-lists.lists (lists_of acls) c.in_ok-lists.was lists in
    let access = ap (λ (l : Lists). l.access.items) same in
    let entries = ap (λ (l : Lists). l.default.items) same in
    c.acls_of.ensures.only acls (record { access = fits.access; default = fits.default }) access entries
