-- Answers of one kind that are spelled alike are one.
use Rattle.std.specs.Prelude.{◌≡◌, ℕ, ◌^◌, ◌<◌, List, [], ◌∷◌, ◌++◌}
use Rattle.sn_bytes.specs.Records.{AreOfWidths}
use Rattle.sn_fuse_replies.specs.declared.answer.Attributes.{Attributes as TheAttributes}
use Rattle.sn_fuse_replies.specs.declared.answer.Entry.{Entry as TheEntry}
use Rattle.sn_fuse_replies.specs.declared.answer.Opened.{Opened as TheOpened}
use Rattle.sn_fuse_replies.specs.declared.answer.Statistics.{Statistics as TheStatistics}
use Rattle.sn_fuse_replies.specs.declared.answer.Initialized.{Initialized as TheInitialized}
use Rattle.sn_fuse_replies.specs.declared.answer.Answer.{Answer}
use Rattle.sn_fuse_replies.specs.declared.answer.Answer.TheVariants.{Error, Nothing, Entry, Attributes, Opened, Created, Data, Written, Statistics, XattrSize, Listing, Initialized}
use Rattle.sn_fuse_replies.specs.Answer.{reply_bytes, reply_size}

-- the numbers of each part in their order, with a 0 for the zeros, and how many bytes each has

abbrev pub attribute_widths : List ℕ
attribute_widths = 8 ∷ 8 ∷ 8 ∷ 8 ∷ 8 ∷ 8 ∷ 4 ∷ 4 ∷ 4 ∷ 4 ∷ 4 ∷ 4 ∷ 4 ∷ 4 ∷ 4 ∷ 4 ∷ []

abbrev pub attribute_numbers : TheAttributes → List ℕ
attribute_numbers a = a.number ∷ a.size ∷ a.blocks ∷ a.accessed.seconds ∷ a.modified.seconds ∷ a.changed.seconds ∷ a.accessed.nanoseconds ∷ a.modified.nanoseconds ∷ a.changed.nanoseconds ∷ a.mode ∷ a.links ∷ a.user ∷ a.group ∷ a.device ∷ a.block_size ∷ 0 ∷ []

abbrev pub entry_widths : List ℕ
entry_widths = 8 ∷ 8 ∷ 8 ∷ 8 ∷ 4 ∷ 4 ∷ attribute_widths

abbrev pub entry_numbers : TheEntry → List ℕ
entry_numbers e = e.node ∷ e.generation ∷ e.name_lasts.seconds ∷ e.attributes_last.seconds ∷ e.name_lasts.nanoseconds ∷ e.attributes_last.nanoseconds
    ∷ attribute_numbers e.attributes

abbrev pub opened_widths : List ℕ
opened_widths = 8 ∷ 4 ∷ 4 ∷ []

abbrev pub opened_numbers : TheOpened → List ℕ
opened_numbers o = o.handle ∷ o.flags ∷ 0 ∷ []

abbrev pub statistics_numbers : TheStatistics → List ℕ
statistics_numbers s = s.blocks ∷ s.free ∷ s.available ∷ s.files ∷ s.free_files ∷ s.block_size ∷ s.name_length ∷ s.fragment_size ∷ 0 ∷ []

abbrev pub initialized_numbers : TheInitialized → List ℕ
initialized_numbers i = i.major ∷ i.minor ∷ i.readahead ∷ i.flags.0 ∷ i.background ∷ i.congestion ∷ i.write ∷ i.time_granularity ∷ i.pages ∷ 0 ∷ []

abbrev pub widths_of : Answer → List ℕ
widths_of (Error errno) = []
widths_of Nothing = []
widths_of (Entry entry) = entry_widths
widths_of (Attributes last attributes) = 8 ∷ 4 ∷ 4 ∷ attribute_widths
widths_of (Opened opened) = opened_widths
widths_of (Created entry opened) = entry_widths ++ opened_widths
widths_of (Data bytes) = []
widths_of (Written count) = 4 ∷ 4 ∷ []
widths_of (Statistics statistics) = 8 ∷ 8 ∷ 8 ∷ 8 ∷ 8 ∷ 4 ∷ 4 ∷ 4 ∷ 28 ∷ []
widths_of (XattrSize size) = 4 ∷ 4 ∷ []
widths_of (Listing listed) = []
widths_of (Initialized initialized) = 4 ∷ 4 ∷ 4 ∷ 4 ∷ 2 ∷ 2 ∷ 4 ∷ 4 ∷ 2 ∷ 34 ∷ []

abbrev pub numbers_of : Answer → List ℕ
numbers_of (Error errno) = []
numbers_of Nothing = []
numbers_of (Entry entry) = entry_numbers entry
numbers_of (Attributes last attributes) = last.seconds ∷ last.nanoseconds ∷ 0 ∷ attribute_numbers attributes
numbers_of (Opened opened) = opened_numbers opened
numbers_of (Created entry opened) = entry_numbers entry ++ opened_numbers opened
numbers_of (Data bytes) = []
numbers_of (Written count) = count ∷ 0 ∷ []
numbers_of (Statistics statistics) = statistics_numbers statistics
numbers_of (XattrSize size) = size ∷ 0 ∷ []
numbers_of (Listing listed) = []
numbers_of (Initialized initialized) = initialized_numbers initialized

-- numbers that fit their fields, and no more bytes than a length can say
abbrev pub IsSpelled : Answer → Type 0
IsSpelled answer = (reply_size answer < 256 ^ 4) × AreOfWidths (widths_of answer) (numbers_of answer)

-- answers of one kind: the message that is answered says which kinds it can be
abbrev pub AreAlike : Answer → Answer → Type 0
AreAlike (Error one) (Error other) = Unit {0}
AreAlike Nothing Nothing = Unit {0}
AreAlike (Entry one) (Entry other) = Unit {0}
AreAlike (Attributes last_of_one one) (Attributes last_of_other other) = Unit {0}
AreAlike (Opened one) (Opened other) = Unit {0}
AreAlike (Created one opened_of_one) (Created other opened_of_other) = Unit {0}
AreAlike (Data one) (Data other) = Unit {0}
AreAlike (Written one) (Written other) = Unit {0}
AreAlike (Statistics one) (Statistics other) = Unit {0}
AreAlike (XattrSize one) (XattrSize other) = Unit {0}
AreAlike (Listing one) (Listing other) = Unit {0}
AreAlike (Initialized one) (Initialized other) = Unit {0}
AreAlike one other = ⊥

-- Of answers that are spelled alike the message is one, and so is the answer, if they are of one kind. (Of two kinds, as data of 16
-- bytes and what an open gives, they may be spelled alike.)
abbrev pub RepliesDiffer : Type 0
RepliesDiffer = (u v : ℕ) (a b : Answer) → u < 256 ^ 8 → v < 256 ^ 8 → IsSpelled a → IsSpelled b → reply_bytes u a ≡ reply_bytes v b
    → (u ≡ v) × (AreAlike a b → a ≡ b)
