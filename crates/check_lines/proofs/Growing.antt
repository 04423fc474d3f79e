-- A text that grows by one piece of a line after another.
use Rattle.std.proofs.Common.{◌≡◌, ◌∙◌, ℕ, List, ◌++◌, ap, append_assoc}
use Rattle.tl_text.specs.Text.{BeginsWith}

-- one piece more, or a label and a number
pub grown : (old so_far piece text new : List ℕ) → text ≡ old ++ so_far → new ≡ text ++ piece
    → new ≡ old ++ (so_far ++ piece)
grown old so_far piece text new is more = more ∙ ap (λ t. t ++ piece) is ∙ append_assoc old so_far piece

pub grown_by_two : (old so_far label number text new : List ℕ) → text ≡ old ++ so_far → new ≡ text ++ label ++ number
    → new ≡ old ++ (so_far ++ label ++ number)
grown_by_two old so_far label number text new is more =
    more ∙ ap (λ t. t ++ label ++ number) is ∙ ap (λ t. t ++ number) (append_assoc old so_far label)
    ∙ append_assoc old (so_far ++ label) number

-- what a call leaves that failed after so much was appended
pub begins_after : (old so_far text new : List ℕ) → text ≡ old ++ so_far → BeginsWith text new → BeginsWith old new
begins_after old so_far text new is after = record {
  more = so_far ++ after.more;
  is = after.is ∙ ap (λ t. t ++ after.more) is ∙ append_assoc old so_far after.more;
}
