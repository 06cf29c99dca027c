use Rattle.std.proofs.Common.{◌≡◌, ◌∙◌, [], ◌++◌, length, List, ℕ, refl, sym, ap, subst, arith}
use Rattle.std.specs.Prelude.{IsTrue}
use Rattle.std.proofs.lemmas.List.{append-nil, nil_from_length}
use Rattle.sn_layout.proofs.Fields.{true_false, some_none, some_some}
use Rattle.sn_layout_node.specs.declared.head.Head.{Head}
use Rattle.sn_layout_node.specs.declared.inode.Inode.{Inode}
use Rattle.sn_layout_node.specs.Inode.{IsContent, are_links, head_of, head_bytes, content_bytes}
use Rattle.sn_layout_node.proofs.Heads.{head_read}
use Rattle.sn_layout_node.proofs.inode.Inode.decode.Goals as goal

pub returns-in_err-head-clause-only : goal.returns-in_err-head-clause-only
returns-in_err-head-clause-only c = λ inode fits e.
    let read = head_read c.args.limits.now inode c.args.bytes.now c.new-reader.result c.read.new.reader c.read.result c.read.ensures.only fits c.new-reader.ensures e in
    some_none c.read.result (head_of inode) read.0 c.in_err-head.was

pub returns-then-not-are_links-clause-only : goal.returns-then-not-are_links-clause-only
returns-then-not-are_links-clause-only c = λ inode fits e.
    let read = head_read c.args.limits.now inode c.args.bytes.now c.new-reader.result c.read.new.reader c.read.result c.read.ensures.only fits c.new-reader.ensures e in
    let head = some_some c.read.result c.in_ok-head.head (head_of inode) c.in_ok-head.was read.0 in
    let links = subst (λ (h : Head). IsTrue (are_links h.kind h.links)) (sym head) fits.links in
    true_false c.are_links.result (c.are_links.ensures ∙ links) c.if-not-are_links.true

pub returns-in_err-content-clause-only : goal.returns-in_err-content-clause-only
returns-in_err-content-clause-only c = λ inode fits e.
    let read = head_read c.args.limits.now inode c.args.bytes.now c.new-reader.result c.read.new.reader c.read.result c.read.ensures.only fits c.new-reader.ensures e in
    let head = some_some c.read.result c.in_ok-head.head (head_of inode) c.in_ok-head.was read.0 in
    let size = sym (ap (λ (h : Head). h.size) head) in
    let content = c.read-2.ensures.only inode.content [] size (subst (λ (h : Head). IsContent c.args.limits.now h.kind inode.content) (sym head) fits.content) read.1 in
    some_none c.read-2.result inode.content content.0 c.in_err-content.was

pub returns-clause-found : goal.returns-clause-found
returns-clause-found c =
    let head = c.in_ok-head.head in
    let content = c.in_ok-content.content in
    let size = c.in_ok-content.ensures.found.0 in
    let inode : Inode = record { kind = head.kind; set_gid = head.bits.set_gid; sticky = head.bits.sticky; objects = head.objects; links = head.links; owner = head.owner; group = head.group; acl_block = head.acl_block; content = content } in
    let same : head ≡ head_of inode = rw size refl in
    let none : c.read-2.new.reader ≡ [] = nil_from_length c.read-2.new.reader (omega (arith, ap length c.new-reader.ensures, c.in_ok-head.ensures.left, c.in_ok-content.ensures.left)) in
    let rest : c.read.new.reader ≡ content_bytes content = c.in_ok-content.ensures.read ∙ ap (λ (r : List ℕ). content_bytes content ++ r) none ∙ append-nil (content_bytes content) in
    let fits = c.in_ok-head.ensures.found.0 in (
      record {
        objects = fits.objects;
        links = sym c.are_links.ensures ∙ c.if-not-are_links.false;
        owner = fits.owner;
        group = fits.group;
        acl_block = fits.acl_block;
        content = c.in_ok-content.ensures.found.1;
      },
      sym c.new-reader.ensures ∙ c.in_ok-head.ensures.found.1 ∙ ap (λ (h : Head). head_bytes h ++ c.read.new.reader) same ∙ ap (λ (r : List ℕ). head_bytes (head_of inode) ++ r) rest,
    )

pub returns-clause-only : goal.returns-clause-only
returns-clause-only c = λ inode fits e.
    let read = head_read c.args.limits.now inode c.args.bytes.now c.new-reader.result c.read.new.reader c.read.result c.read.ensures.only fits c.new-reader.ensures e in
    let head = some_some c.read.result c.in_ok-head.head (head_of inode) c.in_ok-head.was read.0 in
    let size = sym (ap (λ (h : Head). h.size) head) in
    let content = c.read-2.ensures.only inode.content [] size (subst (λ (h : Head). IsContent c.args.limits.now h.kind inode.content) (sym head) fits.content) read.1 in
    let same = some_some c.read-2.result c.in_ok-content.content inode.content c.in_ok-content.was content.0 in
    rw (head, same) refl
