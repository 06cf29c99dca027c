use Rattle.std.proofs.Common.{◌≡◌, length, drop}
use Rattle.sn_words.specs.Reading.{numbers_of}
use Rattle.sn_words.proofs.Parts.{texts}
use Rattle.sn_words.proofs.Numbers.{with_front}
use Rattle.sn_words.proofs.field.numbers.Given as goal

abbrev pub invariant-loop-word : goal.invariant-loop-word
invariant-loop-word l = record {
  count : length l.numbers.items ≡ l.word-index;
  ahead : with_front l.numbers.items (numbers_of (texts (drop l.word-index l.words))) ≡ numbers_of (texts l.words);
}
