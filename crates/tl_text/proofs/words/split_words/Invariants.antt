-- The words so far, and those that are left, are those of the line.
use Rattle.std.proofs.Common.{◌≡◌, ◌-◌, ◌≤◌, ◌++◌, length, map}
use Rattle.tl_text.specs.Word.{words_of}
use Rattle.tl_text.specs.declared.words.TheConstants.{MAX_WORDS}
use Rattle.tl_text.proofs.words.split_words.Given as goal

abbrev pub invariant-loop-rest : goal.invariant-loop-rest
invariant-loop-rest l = record {
  words : map (λ word. word.now) l.words.items ++ words_of l.rest ≡ words_of l.line;
  few : length l.words.items ≤ MAX_WORDS;
}

abbrev pub decreases-loop-rest : goal.decreases-loop-rest
decreases-loop-rest l = MAX_WORDS - length l.words.items
