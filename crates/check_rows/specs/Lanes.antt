-- The lanes of a beat as a waveform shows a word of a bus: two hexadecimal digits for each lane, the last lane first.
-- How many bytes the bus has is handed in. This project's own.
use Rattle.std.specs.Prelude.{ℕ, ◌+◌, ◌*◌, ◌-◌, ◌^◌, Bool, ◌&&◌, ◌||◌, ◌==◌, List, [], ◌∷◌, length, get_or, map, take, replicate, Option, Some, None, Result, Ok, Err, if◌then◌else◌, option_and_then, option_map, ok_or}
use Rattle.std.specs.Char.{is_digit}
use Rattle.std.specs.List.{range_with_len}
use Rattle.tl_text.specs.Number.{pair_of}
use Rattle.check_rows.specs.declared.fault.RowFault.{RowFault}
use Rattle.check_rows.specs.declared.fault.RowFault.TheVariants.{Number}

-- a digit that a simulator shows where it does not know four bits: `x`, `X`, `z` or `Z`
abbrev pub is_unknown : ℕ → Bool
is_unknown c = (c == 120) || (c == 88) || (c == 122) || (c == 90)

-- a digit of four bits, known or not
abbrev pub is_shown : ℕ → Bool
is_shown c = is_digit c 16 || is_unknown c

-- what two digits say of a lane: its byte, or that it is unknown
unfoldable pub lane_of_digits : ℕ → ℕ → Option (Option ℕ)
lane_of_digits high low =
    if is_digit high 16 && is_digit low 16 then option_map Some (pair_of high low)
    else if is_shown high && is_shown low then Some None
    else None

-- what a word says of this lane
abbrev pub lane_at : ℕ → List ℕ → ℕ → Option (Option ℕ)
lane_at bus word lane =
    lane_of_digits (get_or word (2 * (bus - 1 - lane)) 0) (get_or word (2 * (bus - 1 - lane) + 1) 0)

-- all of them, if each is there
abbrev pub all_of : {A : Type 0} → List (Option A) → Option (List A)
all_of [] = Some []
all_of (first ∷ more) = option_and_then (λ x. option_map (λ xs. x ∷ xs) (all_of more)) first

-- what is seen of lanes: a number whose bit k says whether lane k is known, and the bytes, zero where a lane is unknown
pub record SeenLanes : Type 0 where
  pub known : ℕ
  pub bytes : List ℕ

-- the byte of a lane, 0 if it is unknown.
abbrev pub byte_or_zero : Option ℕ → ℕ
byte_or_zero None = 0
byte_or_zero (Some byte) = byte

-- 1 if a lane is known, 0 if not.
abbrev pub known_bit : Option ℕ → ℕ
known_bit None = 0
known_bit (Some byte) = 1

-- the number whose bit k is 1 if lane k is known; lane 0 stands first.
abbrev pub known_of : List (Option ℕ) → ℕ
known_of [] = 0
known_of (lane ∷ more) = known_bit lane + 2 * known_of more

-- what is seen of these lanes, of which lane 0 stands first.
abbrev pub seen_of : List (Option ℕ) → SeenLanes
seen_of lanes = record { known = known_of lanes; bytes = map byte_or_zero lanes }

-- the lanes that two digits for each show, lane 0 first, if all are such digits
unfoldable pub shown_by : ℕ → List ℕ → Option SeenLanes
shown_by bus word = option_map seen_of (all_of (map (lane_at bus word) (range_with_len 0 bus)))

-- known lanes of zero
abbrev pub zeros : ℕ → SeenLanes
zeros bus = record { known = 2 ^ bus - 1; bytes = replicate bus 0 }

-- the lanes that a word shows; nothing at all stands for known zeros
unfoldable pub lanes_of : ℕ → List ℕ → Result SeenLanes RowFault
lanes_of bus word =
    if length word == 0 then Ok (zeros bus)
    else if length word == 2 * bus then ok_or (shown_by bus word) Number
    else Err Number

-- ---- what is read

-- which lanes are known is the answer, and the lanes themselves stand in the first places of a buffer
abbrev pub lanes_in : ℕ → List ℕ → Result ℕ RowFault → Result SeenLanes RowFault
lanes_in bus buffer (Ok known) = Ok (record { known = known; bytes = take bus buffer })
lanes_in bus buffer (Err fault) = Err fault

-- the same of lanes that fill the buffer
abbrev pub shown_in : List ℕ → Option ℕ → Option SeenLanes
shown_in buffer None = None
shown_in buffer (Some known) = Some (record { known = known; bytes = buffer })
