-- Ranges of bits, as dumps and names spell them: `[7:0]` or `[3]`. IEEE 1364, "Value change dump files" (reference).
use Rattle.std.specs.Prelude.{ℕ, ◌+◌, ◌-◌, ◌==◌, ◌&&◌, Bool, nat_lt, List, [], ◌∷◌, take, drop, Option, None, Some, option_map, option_and_then, if◌then◌else◌}
use Rattle.std.specs.Borrow.{Bor}
use Rattle.std.specs.Char.{is_ascii_digit}
use Rattle.std.specs.Int.{abs_diff}
use Rattle.std.specs.List.{prefix_len}
use Rattle.tl_text.specs.Number.{number_of}
use Rattle.check_vcd.specs.declared.range.Span.{Span}
use Rattle.check_vcd.specs.declared.range.TheConstants.{INDEX_DIGITS}

-- whether a range has so many bits
abbrev pub has_bits : Span → ℕ → Bool
has_bits span count = nat_lt 0 count && (abs_diff span.left span.right == count - 1)

-- the index that a text begins with, of at most so many decimal digits, and what stands after it
abbrev pub index_of : List ℕ → Option (ℕ × List ℕ)
index_of text =
    let len = prefix_len is_ascii_digit text in
    option_map (λ index. (index, drop len text)) (number_of 10 INDEX_DIGITS (take len text))

-- what a closing bracket ends
abbrev pub closed : ℕ → ℕ → List ℕ → Option Span
closed left right (c ∷ []) = if c == 93 then Some (record { left = left; right = right }) else None
closed left right text = None

-- after the first index: a colon and a second one, or the closing bracket
abbrev pub behind_left : ℕ → List ℕ → Option Span
behind_left left (c ∷ more) =
    if c == 58 then option_and_then (λ parts. closed left parts.0 parts.1) (index_of more)
    else closed left left (c ∷ more)
behind_left left [] = None

-- the range that a text spells after its opening bracket
abbrev pub range_in : List ℕ → Option Span
range_in text = option_and_then (λ parts. behind_left parts.0 parts.1) (index_of text)

-- the place of the last opening bracket of a text that stands at a place, or else the one that was found before
abbrev pub last_from : ℕ → Option ℕ → List ℕ → Option ℕ
last_from at found [] = found
last_from at found (c ∷ text) = last_from (at + 1) (if c == 91 then Some at else found) text

-- the place of the last opening bracket of a text, counted from 0; none if it has none.
abbrev pub last_bracket : List ℕ → Option ℕ
last_bracket text = last_from 0 None text

-- a name without the range that begins with the bracket at this place, and that range; none if no range ends the name
-- there.
abbrev pub split_at : List ℕ → ℕ → Option (List ℕ × Span)
split_at name at = option_map (λ span. (take at name, span)) (range_in (drop (at + 1) name))

-- a name without the range at its end, and that range; none if no range ends it.
abbrev pub split_range : List ℕ → Option (List ℕ × Span)
split_range name = option_and_then (split_at name) (last_bracket name)

-- ---- what calls answer

-- what contracts see of an index and the text after it.
abbrev pub rest_view : ℕ × Bor (List ℕ) → ℕ × List ℕ
rest_view parts = (parts.0, parts.1.now)

-- what contracts see of a name without its range, and of the range.
abbrev pub cut_view : Bor (List ℕ) × Span → List ℕ × Span
cut_view parts = (parts.0.now, parts.1)

-- what contracts see of a name, and of its range if it has one.
abbrev pub named_view : Bor (List ℕ) × Option Span → List ℕ × Option Span
named_view parts = (parts.0.now, parts.1)
