-- There are as many words as are looked at.
use Rattle.std.proofs.Common.{◌≡◌, ◌∙◌, List, ℕ, length, map, take, rules, sym, ap}
use Rattle.std.specs.Borrow.{Bor}
use Rattle.std.proofs.lemmas.List.{length-map, take_at}
use Rattle.tl_text.specs.Word.{words_of}
use Rattle.tl_text.specs.declared.words.TheConstants.{MAX_WORDS}
use Rattle.tl_text.proofs.words.split_words.Goals as goal

pub returns : goal.returns
returns c =
    let words : List (List ℕ) = map (λ (word : Bor (List ℕ)). word.now) c.loop-rest.words.items in
    let full : length c.loop-rest.words.items ≡ MAX_WORDS = search rules in
    sym (take_at words (words_of c.loop-rest.rest.now) MAX_WORDS
    (length-map c.loop-rest.words.items (λ (word : Bor (List ℕ)). word.now) ∙ full))
    ∙ ap (take MAX_WORDS) c.loop-rest.invariant.words
