-- The bytes so far are the front of the line's first part.
use Rattle.std.proofs.Common.{◌≡◌, ◌-◌, ◌≤◌, drop, length, take}
use Rattle.std.specs.List.{slice_split}
use Rattle.tl_text.specs.Word.{is_blank}
use Rattle.tl_text.proofs.WordLemmas.{before_first}
use Rattle.tl_text.proofs.words.word_len.Given as goal

abbrev pub invariant-loop-len : goal.invariant-loop-len
invariant-loop-len l = record {
  inside : l.len ≤ length l.line;
  parts : slice_split is_blank l.line ≡ before_first (take l.len l.line) (slice_split is_blank (drop l.len l.line));
}

abbrev pub decreases-loop-len : goal.decreases-loop-len
decreases-loop-len l = length l.line - l.len
