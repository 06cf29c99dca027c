-- What makes a root sound, and what is in one.
use Rattle.std.proofs.Common.{◌≡◌, ⊎_elim, ℕ, ◌+◌, ◌*◌, ◌/◌, ◌<◌, ◌≤◌, List, [], flat_map, Contains, slice_index, Option, None, Some, true, refl, sym, ap, subst, ◌∙◌, arith}
use Rattle.std.specs.Prelude.{IsSomeAnd, codes, Result, Ok, Err, OnOk}
use Rattle.std.specs.Int.{bit_at}
use Rattle.std.proofs.lemmas.Bool.{cases_lt, le-leb, lt-ltb}
use Rattle.sn_limits.specs.declared.kind.Kind.{Kind}
use Rattle.sn_limits.specs.declared.kind.Kind.TheVariants.{File, Directory}
use Rattle.sn_limits.specs.declared.limits.Limits.{Limits}
use Rattle.sn_layout.specs.Bytes.{zeros}
use Rattle.sn_layout.specs.declared.tree.BlockTree.{BlockTree}
use Rattle.sn_layout_node.specs.Directory.{number_of}
use Rattle.sn_layout_node.specs.declared.content.Content.{Content}
use Rattle.sn_layout_node.specs.declared.inode.Inode.{Inode}
use Rattle.sn_layout_node.specs.declared.inode.InodeRecord.TheVariants.{Unused}
use Rattle.sn_model.specs.declared.fault.Damage.{Damage}
use Rattle.sn_ondisk.specs.Trees.{Store, tree_reach}
use Rattle.sn_image.specs.Inodes.{is_number, inode_at, record_at}
use Rattle.sn_image.specs.Names.{names_at, names_under}
use Rattle.sn_image.specs.Contents.{content_reach}
use Rattle.sn_image.specs.Reach.{block_reach, numbers, reach, reach_at}
use Rattle.std.proofs.lemmas.List.Elements.{Contains-append_right}
use Rattle.sn_layout_node.specs.declared.content.Content.TheVariants.{Tree}
use Rattle.sn_dir.specs.Blocks.{CanRead}
use Rattle.sn_image.specs.Sound.{HasBlocks, HasContent, IsInodeFile, EndsAtSize, SpellsRecord}
use Rattle.sn_image.proofs.ListLemmas.{flat_map-has}
use Rattle.sn_image.proofs.PointLemmas.{number_in, in_numbers, used_number}
use Rattle.sn_dir.specs.Laws.{SoundDirectoriesAreRead}
use Rattle.sn_tree_read.proofs.PointerLemmas.{both_lie}
use Rattle.sn_marks.specs.Marks.{Marks, IsAstray, outside, twice}
use Rattle.sn_marks.specs.Trees.{StandsInTree}
use Rattle.sn_marks.specs.declared.fault.CheckFault.{CheckFault}
use Rattle.sn_marks.proofs.MarkLemmas.{marks_once}
use Rattle.sn_sound.specs.Faults.{IsMisspelt, record_block}
use Rattle.sn_sound.specs.Faults as fault
use Rattle.sn_check_root.specs.Rules.{AreNames, HasSoundRecords, IsRootInode, IsSoundButLinks, IsSoundNumber, IsWrong, astray, misspelt, StandsInRoot}
use Rattle.sn_check_root.proofs.InodeLemmas.{no_names, names_are, reach_of}
use Rattle.sn_check_root.proofs.WrongLemmas.{marks_append, wrong_front, wrong_back, wrong_tree}

module _ (limits : Limits) (s : Store) (inodes : BlockTree) where
  -- a record that is zeros spells an unused inode
  zeros_spelled : (number : ℕ) → record_at s inodes number ≡ zeros 128 → SpellsRecord limits (record_at s inodes number)
  zeros_spelled number is = (Unused, tt, is)

  numbered : (number : ℕ) → 2 ≤ number → number < inodes.size / 128 → is_number inodes number ≡ true
  numbered number least within = both_lie _ _ (le-leb 2 number least) (lt-ltb number (inodes.size / 128) within)

  no_inode : (directory : ℕ) → inode_at s inodes directory ≡ None → [] ≡ names_at s inodes directory
  unfolding names_at
  no_inode directory none = ap (names_under s) (sym none)

  module _ (each : (number : ℕ) → 2 ≤ number → number < inodes.size / 128 → IsSoundNumber limits s inodes number) where
    at_inode : (number : ℕ) (inode : Inode) → inode_at s inodes number ≡ Some inode → IsSoundNumber limits s inodes number
    at_inode number inode is =
        let place = in_numbers inodes number (number_in inodes number (used_number s inodes number inode is)) in
        each number place.0 place.1

    each_names : (directory : ℕ) → AreNames limits (names_at s inodes directory)
    each_names directory = told (inode_at s inodes directory) refl
      where
        told : (o : Option Inode) → inode_at s inodes directory ≡ o → AreNames limits (names_at s inodes directory)
        told None e = subst (AreNames limits) (no_inode directory e) (no_names limits)
        told (Some inode) e = subst (AreNames limits) (names_are limits s inodes directory inode e) ((at_inode directory inode e).used inode e).content.names

    pub records_sound : ((number : ℕ) → number < 2 → record_at s inodes number ≡ zeros 128) → IsSomeAnd (inode_at s inodes 2) (λ inode. inode.kind ≡ Directory)
        → number_of (codes ".snapshot") (names_at s inodes 2) ≡ None → HasSoundRecords limits s inodes
    records_sound reserved root hidden = record {
      records = record {
        spelled = λ number within. ⊎_elim
            (λ (low : number < 2). zeros_spelled number (reserved number low))
            (λ (least : 2 ≤ number). (each number least within).spelled (numbered number least within))
            (cases_lt number 2);
        reserved = reserved;
        root = root;
      };
      used = record {
        acls = λ number inode is. ((at_inode number inode is).used inode is).acls;
        contents = λ number inode is. ((at_inode number inode is).used inode is).content.has;
      };
      names = record {
        once = λ directory. (each_names directory).once;
        few = λ directory. (each_names directory).few;
        hidden = hidden;
      };
    }

  module _ (body : ℕ) where
    -- the root is no directory that it can be
    pub root_wrong : (inode : Inode) (top : ℕ) → inode_at s inodes 2 ≡ Some inode → HasContent s inode.kind inode.content → top ≡ record_block s inodes body 2
        → (IsRootInode s inode → ⊥) → IsMisspelt limits s inodes body top
    root_wrong inode top is has at wrong = subst (IsMisspelt limits s inodes body) (sym at) (told inode.kind refl)
      where
        told : (kind : Kind) → inode.kind ≡ kind → IsMisspelt limits s inodes body (record_block s inodes body 2)
        told File of = fault.root (λ some. never (subst (λ (o : Option Inode). IsSomeAnd o (λ i. i.kind ≡ Directory)) is some))
          where
            never : inode.kind ≡ Directory → ⊥
            never directory = let clash : File ≡ Directory = sym of ∙ directory in cc
        told Directory of = fault.hidden (λ none. wrong (record { has = has; kind = of; hidden = ap (number_of (codes ".snapshot")) (names_are limits s inodes 2 inode is) ∙ none }))

    pub root_gone : (top : ℕ) → inode_at s inodes 2 ≡ None → top ≡ record_block s inodes body 2 → IsMisspelt limits s inodes body top
    root_gone top none at = subst (IsMisspelt limits s inodes body) (sym at) (fault.root (λ some. subst (λ (o : Option Inode). IsSomeAnd o (λ i. i.kind ≡ Directory)) none some))

    pub reserved_wrong : (number : ℕ) → number < 2 → (record_at s inodes number ≡ zeros 128 → ⊥) → IsMisspelt limits s inodes body (record_block s inodes body number)
    reserved_wrong number low wrong = fault.reserved number low wrong

    module _ (n k : ℕ) (a : List ℕ) where
      stands_astray : ((block : ℕ) → bit_at (slice_index a block) k ≡ 0) → (damage : Damage) (block : ℕ) → IsAstray n k (reach s inodes) a damage block → StandsInRoot limits n s inodes body damage block
      stands_astray clear _ _ (outside block among wrong) = record { among = among; outside = wrong }
      stands_astray clear _ _ (twice block two) = omega (arith, two, clear block)

      -- what is reported of a root whose bit was clear is so
      pub stands : ((block : ℕ) → bit_at (slice_index a block) k ≡ 0) → (damage : Damage) (block : ℕ) → IsWrong n k (reach s inodes) a (IsMisspelt limits s inodes body) damage block → StandsInRoot limits n s inodes body damage block
      stands clear _ _ (astray damage block wrong) = stands_astray clear damage block wrong
      stands clear _ _ (misspelt block wrong) = wrong

  module _ (n k : ℕ) (a b c : List ℕ) where
    -- what the root directory reaches is in the data area
    pub root_data : (sectors : ℕ) → IsInodeFile limits inodes → 8 * n ≤ sectors → Marks n k (flat_map (reach_at s inodes) (numbers inodes)) a b
        → (block : ℕ) → Contains (reach_at s inodes 2) block → 8 * block + 8 ≤ sectors
    root_data sectors file room marks block among =
        let within = marks.within block (flat_map-has (reach_at s inodes) (numbers inodes) 2 block (number_in inodes 2 (numbered 2 (omega arith) (omega (arith, file.least)))) among) in
        omega (arith, within.below, room)

    pub reach_marked : Marks n k (tree_reach s inodes) a b → Marks n k (flat_map (reach_at s inodes) (numbers inodes)) b c → Marks n k (reach s inodes) a c
    unfolding reach
    reach_marked first second = marks_append n k (tree_reach s inodes) (flat_map (reach_at s inodes) (numbers inodes)) a b c first second

  module _ (n k : ℕ) (a b : List ℕ) where
    pub root_sound : IsInodeFile limits inodes → EndsAtSize s inodes → HasSoundRecords limits s inodes → Marks n k (reach s inodes) a b → IsSoundButLinks limits n s inodes
    root_sound file ends records marks = record {
      placed = record { within = marks.within; once = marks_once n k (reach s inodes) a b marks };
      file = file;
      ends = ends;
      records = records.records;
      used = records.used;
      names = records.names;
    }

  module _ (n k : ℕ) (a b : List ℕ) (body : ℕ) (damage : Damage) (block : ℕ) where
    pub tree_astray' : StandsInTree n k s inodes body a damage block → IsWrong n k (reach s inodes) a (IsMisspelt limits s inodes body) damage block
    unfolding reach
    tree_astray' wrong = wrong_front n k (tree_reach s inodes) (flat_map (reach_at s inodes) (numbers inodes)) a (IsMisspelt limits s inodes body) (IsMisspelt limits s inodes body) damage block (λ x found. found)
        (wrong_tree n k s inodes body a (IsMisspelt limits s inodes body) damage block (λ x found. fault.file x found) wrong)

    pub records_astray' : Marks n k (tree_reach s inodes) a b → IsWrong n k (flat_map (reach_at s inodes) (numbers inodes)) b (IsMisspelt limits s inodes body) damage block
        → IsWrong n k (reach s inodes) a (IsMisspelt limits s inodes body) damage block
    unfolding reach
    records_astray' marks wrong = wrong_back n k (tree_reach s inodes) (flat_map (reach_at s inodes) (numbers inodes)) a b (IsMisspelt limits s inodes body) (IsMisspelt limits s inodes body) damage block (λ x found. found) marks wrong

pub tree_astray : (limits : Limits) (s : Store) (inodes : BlockTree) (n k : ℕ) (a : List ℕ) (body : ℕ) (damage : Damage) (block : ℕ) → StandsInTree n k s inodes body a damage block → IsWrong n k (reach s inodes) a (IsMisspelt limits s inodes body) damage block
tree_astray limits s inodes n k a body damage block wrong = tree_astray' limits s inodes n k a a body damage block wrong

pub records_astray : (limits : Limits) (s : Store) (inodes : BlockTree) (n k : ℕ) (a b : List ℕ) (body : ℕ) (damage : Damage) (block : ℕ) → Marks n k (tree_reach s inodes) a b
    → IsWrong n k (flat_map (reach_at s inodes) (numbers inodes)) b (IsMisspelt limits s inodes body) damage block → IsWrong n k (reach s inodes) a (IsMisspelt limits s inodes body) damage block
records_astray limits s inodes n k a b body damage block marks wrong = records_astray' limits s inodes n k a b body damage block marks wrong

-- all of a root, whose records were read from the same blocks
pub root_checked : (limits : Limits) (s r : Store) (inodes : BlockTree) (n k : ℕ) (a b c : List ℕ) → r ≡ s → IsInodeFile limits inodes → EndsAtSize s inodes → Marks n k (tree_reach s inodes) a b
    → (result : Result (Unit {0}) CheckFault) → OnOk result (HasSoundRecords limits r inodes) → OnOk result (Marks n k (flat_map (reach_at r inodes) (numbers inodes)) b c) → OnOk result (IsSoundButLinks limits n s inodes)
root_checked limits s r inodes n k a b c same file ends first (Err fault) records marks = tt
root_checked limits s r inodes n k a b c same file ends first (Ok done) records marks =
    root_sound limits s inodes n k a c file ends (subst (λ (q : Store). HasSoundRecords limits q inodes) same records)
    (reach_marked limits s inodes n k a b c first (subst (λ (q : Store). Marks n k (flat_map (reach_at q inodes) (numbers inodes)) b c) same marks))

-- all records, of which the root directory was tested last
pub records_checked : (limits : Limits) (s r : Store) (inodes : BlockTree) → r ≡ s → ((number : ℕ) → number < 2 → record_at s inodes number ≡ zeros 128)
    → ((number : ℕ) → 2 ≤ number → number < inodes.size / 128 → IsSoundNumber limits s inodes number)
    → (result : Result (Unit {0}) CheckFault) → OnOk result (IsSomeAnd (inode_at r inodes 2) (λ inode. inode.kind ≡ Directory)) → OnOk result (number_of (codes ".snapshot") (names_at r inodes 2) ≡ None)
    → OnOk result (HasSoundRecords limits s inodes)
records_checked limits s r inodes same reserved each (Err fault) root hidden = tt
records_checked limits s r inodes same reserved each (Ok done) root hidden =
    records_sound limits s inodes each reserved (subst (λ (q : Store). IsSomeAnd (inode_at q inodes 2) (λ inode. inode.kind ≡ Directory)) same root)
    (subst (λ (q : Store). number_of (codes ".snapshot") (names_at q inodes 2) ≡ None) same hidden)

-- the blocks of a root directory can be read, where what it reaches is on the device
pub root_read : SoundDirectoriesAreRead → (limits : Limits) (sectors : ℕ) (s : Store) (inodes : BlockTree) (inode : Inode) → IsSoundNumber limits s inodes 2 → ((block : ℕ) → Contains (reach_at s inodes 2) block → 8 * block + 8 ≤ sectors)
    → inode_at s inodes 2 ≡ Some inode → inode.kind ≡ Directory → (tree : BlockTree) → inode.content ≡ Tree tree → (i : ℕ) → i < tree.size / 4096 → CanRead sectors s tree i
root_read law limits sectors s inodes inode sound reached is kind tree content = law sectors s tree blocks all
  where
    has : HasContent s Directory (Tree tree)
    has = subst (λ (it : Content). HasContent s Directory it) content (subst (λ (k : Kind). HasContent s k inode.content) kind (sound.used inode is).content.has)

    blocks : HasBlocks s tree
    blocks = has.1

    all : (block : ℕ) → Contains (tree_reach s tree) block → 8 * block + 8 ≤ sectors
    all block among = reached block (subst (λ (xs : List ℕ). Contains xs block) (reach_of limits s inodes 2 (Some inode) is)
        (Contains-append_right (block_reach inode.acl_block) (content_reach s inode.content) block (subst (λ (it : Content). Contains (content_reach s it) block) (sym content) among)))
