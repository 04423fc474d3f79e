-- How long the bytes of a reply are as they are printed.
use Rattle.std.proofs.Common.{◌≡◌, ℕ, ◌+◌, ◌*◌, ◌<◌, List, [], ◌∷◌, length, Option, None, Some, refl, arith}
use Rattle.check_lines.specs.Reply.{cell_text, cells_part, cells_text}
use Rattle.tl_text.proofs.TextLemmas.{begins}

-- two characters a byte
pub characters_counted : (cells : List (Option ℕ)) → length (cells_text cells) ≡ 2 * length cells
characters_counted [] = refl
characters_counted (None ∷ cells) = omega (arith, characters_counted cells)
characters_counted (Some byte ∷ cells) = omega (arith, characters_counted cells)

-- a space more, if there are bytes
pub part_counted : (cells : List (Option ℕ)) → 0 < length cells → length (cells_part cells) ≡ 1 + 2 * length cells
part_counted [] some = absurd (omega arith)
part_counted (cell ∷ cells) some = omega (arith, characters_counted (cell ∷ cells))

pub ruleset counted = (begins, part_counted)
