-- What a word of a dump's body begins. IEEE 1364, "Value change dump files".
use Rattle.std.specs.Prelude.{ℕ, ◌==◌, ◌||◌, Bool, List, codes, if◌then◌else◌}
use Rattle.std.specs.List.{list_all}
use Rattle.std.specs.Str.{bytes_eq}
use Rattle.check_vcd.specs.declared.token.TokenKind.{TokenKind}
use Rattle.check_vcd.specs.declared.token.TokenKind.TheVariants.{Ignored, Off, On, Comment, Time, Scalar, Vector, Other, Unknown}

-- 0, 1, x or z
abbrev pub is_plain : ℕ → Bool
is_plain c = (c == 48) || (c == 49) || (c == 120) || (c == 88) || (c == 122) || (c == 90)

-- each of these digits is 0, 1, x or z.
abbrev pub are_plain : List ℕ → Bool
are_plain digits = list_all is_plain digits

-- a weak 0 of the nine values of VHDL (IEEE 1164), which its simulators write too: L.
abbrev pub is_weak_low : ℕ → Bool
is_weak_low c = (c == 76) || (c == 108)

-- a weak 1 of the nine values of VHDL: H.
abbrev pub is_weak_high : ℕ → Bool
is_weak_high c = (c == 72) || (c == 104)

-- one of the nine values of VHDL of which nothing is known: U, W or -.
abbrev pub is_unset : ℕ → Bool
is_unset c = (c == 85) || (c == 117) || (c == 87) || (c == 119) || (c == 45)

-- a digit of Verilog, or one of the nine values of VHDL.
abbrev pub is_bit : ℕ → Bool
is_bit c = is_plain c || is_weak_low c || is_weak_high c || is_unset c

-- each of these digits is one of a bit.
abbrev pub are_bits : List ℕ → Bool
are_bits digits = list_all is_bit digits

-- what a digit stands for: L and H for 0 and 1, and U, W and - for x; the others for themselves.
abbrev pub plain_digit : ℕ → ℕ
plain_digit c = if is_plain c then c else if is_weak_low c then 48 else if is_weak_high c then 49 else 120

-- b
abbrev pub starts_vector : ℕ → Bool
starts_vector c = (c == 98) || (c == 66)

-- r or s: a real number or a text, which are no values of bits
abbrev pub starts_other : ℕ → Bool
starts_other c = (c == 114) || (c == 82) || (c == 115) || (c == 83)

-- the word `$end`.
abbrev pub is_end : List ℕ → Bool
is_end word = bytes_eq word (codes "$end")

-- a word that changes nothing: `$end`, `$dumpvars` or `$dumpall`.
abbrev pub is_ignored : List ℕ → Bool
is_ignored word =
    is_end word || bytes_eq word (codes "$dumpvars") || bytes_eq word (codes "$dumpall")

-- what a word with this first byte begins
abbrev pub token_kind : ℕ → List ℕ → TokenKind
token_kind first word =
    if is_bit first then Scalar
    else if starts_vector first then Vector
    else if first == 35 then Time
    else if starts_other first then Other
    else if is_ignored word then Ignored
    else if bytes_eq word (codes "$comment") then Comment
    else if bytes_eq word (codes "$dumpoff") then Off
    else if bytes_eq word (codes "$dumpon") then On
    else Unknown
