-- Digits that are what they stand for.
use Rattle.std.proofs.Common.{◌≡◌, ◌∙◌, ℕ, true, List, [], ◌∷◌, ◌++◌, Result, Ok, Err, OnOk, map, ap, ap₂, refl, sym, if◌then◌else◌}
use Rattle.std.proofs.lemmas.Bool.{and_parts, cond-true}
use Rattle.std.specs.Result.{is_ok}
use Rattle.check_vcd.specs.Token.{are_bits, are_plain, is_plain, is_weak_high, is_weak_low, plain_digit}

plain-same : (digits : List ℕ) → are_plain digits ≡ true → map plain_digit digits ≡ digits
plain-same [] is = refl
plain-same (digit ∷ digits) is =
    let parts = and_parts (is_plain digit) (are_plain digits) is in
    ap₂ (λ (d : ℕ) (ds : List ℕ). d ∷ ds)
    (cond-true (is_plain digit) digit (if is_weak_low digit then 48 else if is_weak_high digit then 49 else 120) parts.0)
    (plain-same digits parts.1)

-- such a digit is one of all, and so are all
pub plain_are_bits : (digits : List ℕ) → are_plain digits ≡ true → are_bits digits ≡ true
plain_are_bits [] is = refl
plain_are_bits (digit ∷ digits) is =
    let parts = and_parts (is_plain digit) (are_plain digits) is in
    rw (parts.0, plain_are_bits digits parts.1) refl

-- they were appended as they are
pub plain-pushed : {E : Type 0} (result : Result Unit E) (new old digits : List ℕ)
    → new ≡ (if is_ok result then old ++ digits else old) → are_plain digits ≡ true
    → OnOk result (new ≡ old ++ map plain_digit digits)
plain-pushed (Err fault) new old digits is plain = tt
plain-pushed (Ok done) new old digits is plain =
    is ∙ ap (λ (ds : List ℕ). old ++ ds) (sym (plain-same digits plain))
