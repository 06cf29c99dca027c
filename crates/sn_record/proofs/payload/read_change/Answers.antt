use Rattle.std.proofs.Common.{[]}
use Rattle.sn_model.specs.declared.change.Change.TheVariants.{Make, AddLink, Remove, Rename, SetSize, SetAttributes}
use Rattle.sn_record.proofs.ByKind.{make_at, link_at, remove_at, rename_at, size_at, attributes_at, IsReadAs, nothing_behind, kind_read}
use Rattle.sn_record.proofs.payload.read_change.Goals as goal

pub returns-in-1-clause-only : goal.returns-in-1-clause-only
returns-in-1-clause-only c =
    let fields = c.try_u8.new.self in
    kind_read 1 c.in_ok-try_u8.field-0 c.try_u8.result c.args.reader.now fields c.read_make.new.reader c.read_make.result c.try_u8.ensures.only c.in_ok-try_u8.was c.in-1.is
    (make_at (IsReadAs fields c.read_make.result c.read_make.new.reader) (λ directory name number kind o fits e. c.read_make.ensures.only directory number kind o name [] fits (nothing_behind (Make directory name number kind o) fields e)))

pub returns-in-2-clause-only : goal.returns-in-2-clause-only
returns-in-2-clause-only c =
    let fields = c.try_u8.new.self in
    kind_read 2 c.in_ok-try_u8.field-0 c.try_u8.result c.args.reader.now fields c.read_link.new.reader c.read_link.result c.try_u8.ensures.only c.in_ok-try_u8.was c.in-2.is
    (link_at (IsReadAs fields c.read_link.result c.read_link.new.reader) (λ directory name number fits e. c.read_link.ensures.only directory number name [] fits (nothing_behind (AddLink directory name number) fields e)))

pub returns-in-3-clause-only : goal.returns-in-3-clause-only
returns-in-3-clause-only c =
    let fields = c.try_u8.new.self in
    kind_read 3 c.in_ok-try_u8.field-0 c.try_u8.result c.args.reader.now fields c.read_remove.new.reader c.read_remove.result c.try_u8.ensures.only c.in_ok-try_u8.was c.in-3.is
    (remove_at (IsReadAs fields c.read_remove.result c.read_remove.new.reader) (λ directory name fits e. c.read_remove.ensures.only directory name [] fits (nothing_behind (Remove directory name) fields e)))

pub returns-in-4-clause-only : goal.returns-in-4-clause-only
returns-in-4-clause-only c =
    let fields = c.try_u8.new.self in
    kind_read 4 c.in_ok-try_u8.field-0 c.try_u8.result c.args.reader.now fields c.read_rename.new.reader c.read_rename.result c.try_u8.ensures.only c.in_ok-try_u8.was c.in-4.is
    (rename_at (IsReadAs fields c.read_rename.result c.read_rename.new.reader) (λ old_directory old_name new_directory new_name fits e. c.read_rename.ensures.only old_directory new_directory old_name new_name [] fits (nothing_behind (Rename old_directory old_name new_directory new_name) fields e)))

pub returns-in-6-clause-only : goal.returns-in-6-clause-only
returns-in-6-clause-only c =
    let fields = c.try_u8.new.self in
    kind_read 6 c.in_ok-try_u8.field-0 c.try_u8.result c.args.reader.now fields c.read_size.new.reader c.read_size.result c.try_u8.ensures.only c.in_ok-try_u8.was c.in-6.is
    (size_at (IsReadAs fields c.read_size.result c.read_size.new.reader) (λ number size fits e. c.read_size.ensures.only number size [] fits (nothing_behind (SetSize number size) fields e)))

pub returns-in-7-clause-only : goal.returns-in-7-clause-only
returns-in-7-clause-only c =
    let fields = c.try_u8.new.self in
    kind_read 7 c.in_ok-try_u8.field-0 c.try_u8.result c.args.reader.now fields c.read_attributes.new.reader c.read_attributes.result c.try_u8.ensures.only c.in_ok-try_u8.was c.in-7.is
    (attributes_at (IsReadAs fields c.read_attributes.result c.read_attributes.new.reader) (λ number o fits e. c.read_attributes.ensures.only number o [] fits (nothing_behind (SetAttributes number o) fields e)))
