-- Which bytes a partial put gives, as its masks say, and the shapes of that. This project's own.
use Rattle.std.specs.Prelude.{ℕ, suc, ◌+◌, ◌*◌, ◌%◌, ◌^◌, ◌&&◌, ◌==◌, Bool, true, false, not, nat_lt, min, if◌then◌else◌, List, [], ◌∷◌, length, map, take}
use Rattle.std.specs.Bool.{beq}
use Rattle.std.specs.Int.{bit_at}
use Rattle.std.specs.List.{range_with_len}
use Rattle.check_beats.specs.Bus.{low}
use Rattle.check_beats.specs.declared.beat.AskHead.{AskHead}
use Rattle.check_bins.specs.declared.bin.Shape.{Shape}
use Rattle.check_bins.specs.declared.bin.Shape.TheVariants.{Empty, Full, One, Hole, Low, High, Even, Odd, Other}
use Rattle.check_coverage.specs.declared.marks.Marks.{Marks}

-- whether the bit of each of so many lanes from one on is set
abbrev pub lanes_given : ℕ → ℕ → ℕ → List Bool
lanes_given mask first count = map (λ lane. bit_at mask (first + lane) == 1) (range_with_len 0 count)

-- whether a beat gives each byte that it has room for, by the mask of its active lanes
abbrev pub given_in : ℕ → AskHead → List Bool
given_in bus beat = lanes_given beat.mask (low beat.address beat.size % bus) (min bus (2 ^ beat.size))

-- how many bytes are given
abbrev pub count_given : List Bool → ℕ
count_given [] = 0
count_given (true ∷ rest) = count_given rest + 1
count_given (false ∷ rest) = count_given rest

-- a byte is given exactly if its place is one of these; the first place has this number
abbrev pub fits : (ℕ → Bool) → ℕ → List Bool → Bool
fits places place [] = true
fits places place (given ∷ rest) = beq given (places place) && fits places (suc place) rest

-- the places of the lower half of 2 ^ size bytes, and the even places
abbrev pub is_low : ℕ → ℕ → Bool
is_low size place = nat_lt (place * 2) (2 ^ size)

-- the place is even
abbrev pub is_even : ℕ → Bool
is_even place = place % 2 == 0

-- a request of this size has so many bytes
abbrev pub sized_bytes : ℕ → List Bool → List Bool
sized_bytes size bytes = take (2 ^ size) bytes

-- the first pattern that the bytes of a request of this size have
abbrev pub pattern_of : ℕ → List Bool → Shape
pattern_of size bytes =
    if fits (is_low size) 0 (sized_bytes size bytes) then Low
    else if fits (λ place. not (is_low size place)) 0 (sized_bytes size bytes) then High
    else if fits is_even 0 (sized_bytes size bytes) then Even
    else if fits (λ place. not (is_even place)) 0 (sized_bytes size bytes) then Odd
    else Other

-- the first shape that they have
abbrev pub shape_of : ℕ → List Bool → Shape
shape_of size bytes =
    if count_given (sized_bytes size bytes) == 0 then Empty
    else if count_given (sized_bytes size bytes) == 2 ^ size then Full
    else if count_given (sized_bytes size bytes) == 1 then One
    else if count_given (sized_bytes size bytes) + 1 == 2 ^ size then Hole
    else pattern_of size bytes

-- what is kept of bytes of a request of this size
abbrev pub marks_in : ℕ → List Bool → Marks
marks_in size bytes = record {
  places = length bytes;
  given = count_given bytes;
  low = fits (is_low size) 0 bytes;
  high = fits (λ place. not (is_low size place)) 0 bytes;
  even = fits is_even 0 bytes;
  odd = fits (λ place. not (is_even place)) 0 bytes;
}

-- what is kept of the bytes so far
abbrev pub marks_of : ℕ → List Bool → Marks
marks_of size bytes = marks_in size (sized_bytes size bytes)
