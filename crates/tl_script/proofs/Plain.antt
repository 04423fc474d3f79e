-- How long the bytes of a reply are as they are printed.
use Rattle.std.proofs.Common.{◌≡◌, ℕ, ◌+◌, ◌*◌, ◌<◌, List, [], ◌∷◌, length, map, Some, refl, arith}
use Rattle.tl_script.specs.Data.{data_text}
use Rattle.tl_script.specs.Trace.{bytes_part}
use Rattle.tl_text.proofs.TextLemmas.{begins}

-- two digits a byte
pub digits_counted : (bytes : List ℕ) → length (data_text (map (λ byte. Some byte) bytes)) ≡ 2 * length bytes
digits_counted [] = refl
digits_counted (byte ∷ bytes) = omega (arith, digits_counted bytes)

-- a space more, if there are bytes
pub part_counted : (bytes : List ℕ) → 0 < length bytes
    → length (bytes_part (map (λ byte. Some byte) bytes)) ≡ 1 + 2 * length bytes
part_counted [] some = absurd (omega arith)
part_counted (byte ∷ bytes) some = omega (arith, digits_counted bytes)

pub ruleset plain = (begins, part_counted)
