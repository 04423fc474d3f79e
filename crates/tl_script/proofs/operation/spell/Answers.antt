-- Six words of a line tell its operation.
use Rattle.std.proofs.Common.{◌∙◌}
use Rattle.tl_script.specs.Operation.{operation_of}
use Rattle.tl_text.specs.Word.{words_of}
use Rattle.tl_script.proofs.SixWords.{operation_in-six}
use Rattle.tl_script.proofs.operation.spell.Goals as goal

pub returns-clause-value : goal.returns-clause-value
unfolding operation_of
returns-clause-value c =
    let sources = c.args.sources in
    c.spell_words.ensures.value ∙ rw (c.as_slice.ensures.value, c.split_words.ensures)
    (operation_in-six sources (words_of c.args.line.now))
