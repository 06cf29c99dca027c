-- The head of an inode's record.
use Rattle.std.proofs.Common.{◌≡◌, ℕ, ◌^◌, ◌<◌, Bool, true, false, List, [], ◌∷◌, ◌++◌, drop, get_or, Option, Some, sym, ap, ◌∙◌, append_assoc, arith}
use Rattle.std.specs.Prelude.{IsTrue}
use Rattle.std.proofs.lemmas.Bool.{eqb-true, leb-true}
use Rattle.std.proofs.lemmas.List.{append-nil}
use Rattle.sn_acl.specs.Modes.{mode_bits}
use Rattle.sn_limits.specs.declared.kind.Kind.{Kind}
use Rattle.sn_limits.specs.declared.kind.Kind.TheVariants.{File, Directory}
use Rattle.sn_limits.specs.declared.limits.Limits.{Limits}
use Rattle.sn_layout.specs.Bytes.{number_bytes, zeros}
use Rattle.sn_layout.specs.Records.{numbers_then, AreOfWidths}
use Rattle.sn_layout.proofs.Records.{same_records, byte_number, zero_number}
use Rattle.sn_layout_node.specs.declared.content.Content.{Content}
use Rattle.sn_layout_node.specs.declared.content.Content.TheVariants.{Inline, Tree}
use Rattle.sn_layout_node.specs.declared.head.Head.{Head}
use Rattle.sn_layout_node.specs.declared.head.HeadNumbers.{HeadNumbers}
use Rattle.sn_layout_node.specs.declared.inode.Inode.{Inode}
use Rattle.sn_layout_node.specs.Inode.{IsHead, IsInode, IsContent, are_links, size_of, head_of, head_bytes, head_widths, head_numbers, listed, content_bytes, inode_bytes, kind_number, flags_number}

-- ---- its numbers

kind_fits : (kind : Kind) → kind_number kind < 256
kind_fits File = omega arith
kind_fits Directory = omega arith

pub bits_fit : (set_gid sticky : Bool) → flags_number set_gid sticky < 256
bits_fit true true = omega arith
bits_fit true false = omega arith
bits_fit false true = omega arith
bits_fit false false = omega arith

-- the numbers, and after them zeros
pub head_flat : (h : Head) (rest : List ℕ) → head_bytes h ++ rest ≡ numbers_then head_widths (head_numbers h) (zeros 36 ++ rest)
head_flat h rest =
    let kind = kind_number h.kind in
    let bits = flags_number h.bits.set_gid h.bits.sticky in
    let others = numbers_then (drop 2 head_widths) (drop 2 (head_numbers h)) (zeros 36 ++ rest) in
    let flat : head_bytes h ++ rest ≡ kind ∷ bits ∷ others = rw (zero_number 2) (simp append_assoc) in
    flat
    ∙ sym (byte_number kind (bits ∷ others) (kind_fits h.kind))
    ∙ ap (λ (r : List ℕ). number_bytes 1 kind ++ r) (sym (byte_number bits others (bits_fit h.bits.set_gid h.bits.sticky)))

head_numbers_fit : (h : Head) → IsHead h → AreOfWidths head_widths (head_numbers h)
head_numbers_fit h fits =
    let mode : mode_bits h.objects < 65536 = omega (arith, fits.objects.owner, fits.objects.group, fits.objects.other) in
    (kind_fits h.kind, (bits_fit h.bits.set_gid h.bits.sticky, (mode, (fits.links, (omega arith, (fits.owner, (fits.group, (fits.size, (fits.acl_block, tt)))))))))

-- what was read of a head that is spelled
pub head_spelled : (h : Head) (n : HeadNumbers) (old left rest : List ℕ) → AreOfWidths head_widths (listed n) → old ≡ numbers_then head_widths (listed n) left → IsHead h → old ≡ head_bytes h ++ rest
    → (listed n ≡ head_numbers h) × (left ≡ zeros 36 ++ rest)
head_spelled h n old left rest fits read head e = same_records head_widths (listed n) (head_numbers h) left (zeros 36 ++ rest) fits (head_numbers_fit h head) (sym read ∙ e ∙ head_flat h rest)

-- ---- in front of its content

size_fits : (limits : Limits) (kind : Kind) (content : Content) → IsContent limits kind content → size_of content < 256 ^ 8
size_fits limits File (Inline bytes) fits = omega arith
size_fits limits Directory (Inline bytes) fits = absurd fits
size_fits limits File (Tree tree) fits = fits.0.size
size_fits limits Directory (Tree tree) fits = fits.0.size

links_fit : (kind : Kind) (links : ℕ) → IsTrue (are_links kind links) → links < 256 ^ 2
links_fit File links fits = omega (arith, leb-true links 32767 fits)
links_fit Directory links fits = omega (arith, eqb-true links 1 fits)

pub head_fits : (limits : Limits) (inode : Inode) → IsInode limits inode → IsHead (head_of inode)
head_fits limits inode fits = record {
  objects = fits.objects;
  links = links_fit inode.kind inode.links fits.links;
  owner = fits.owner;
  group = fits.group;
  size = size_fits limits inode.kind inode.content fits.content;
  acl_block = fits.acl_block;
}

-- a record that spells an inode is read as its head, and then comes its content
pub head_read : (limits : Limits) (inode : Inode) (bytes reader left : List ℕ) (read : Option Head)
    → ((head : Head) (rest : List ℕ) → IsHead head → reader ≡ head_bytes head ++ rest → (read ≡ Some head) × (left ≡ rest))
    → IsInode limits inode → reader ≡ bytes → bytes ≡ inode_bytes inode
    → (read ≡ Some (head_of inode)) × (left ≡ content_bytes inode.content ++ [])
head_read limits inode bytes reader left read only fits same e =
    let found = only (head_of inode) (content_bytes inode.content) (head_fits limits inode fits) (same ∙ e) in
    (found.0, found.1 ∙ sym (append-nil (content_bytes inode.content)))

zero_kind : {A : Type 0} (kind : Kind) → 0 ≡ kind_number kind → A
zero_kind File h = absurd (omega (arith, h))
zero_kind Directory h = absurd (omega (arith, h))

-- an inode's kind is not 0
pub not_blank : {A : Type 0} (inode : Inode) → zeros 128 ≡ inode_bytes inode → A
unfolding zeros
not_blank inode e = zero_kind inode.kind (ap (λ (bytes : List ℕ). get_or bytes 0 1) e)
