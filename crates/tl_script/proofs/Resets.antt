-- What the loop over the pairs of a reset leads to, and how a reset is filled up.
use Rattle.std.proofs.Common.{◌≡◌, ℕ, suc, ◌+◌, ◌*◌, ◌-◌, ◌≤◌, List, [], ◌∷◌, ◌++◌, length, drop, take, get_or, replicate, Option, Some, None, Ok, ok_or, option_map, option_and_then, nat_lt, false, refl, sym, ap, append_assoc, arith}
use Rattle.std.proofs.lemmas.List.{take_all}
use Rattle.std.proofs.lemmas.Grind.{common_steps}
use Rattle.tl_text.specs.Number.{pair_of}
use Rattle.tl_script.specs.Port.{pairs_of, filled}
use Rattle.tl_script.specs.declared.fault.ScriptKey.TheVariants.{Reset}
use Rattle.tl_script.specs.declared.fault.ScriptFault.{ScriptFault}
use Rattle.tl_script.specs.declared.fault.ScriptFault.TheVariants.{OutOfRange}

pairs_of-more : (front : List ℕ) (byte : ℕ) (more : Option (List ℕ))
    → option_map (λ bytes. (front ++ byte ∷ []) ++ bytes) more ≡ option_map (λ bytes. front ++ bytes)
    (option_map (λ bytes. byte ∷ bytes) more)
pairs_of-more front byte None = refl
pairs_of-more front byte (Some bytes) = ap Some (append_assoc front (byte ∷ []) bytes)

-- one more pair is read
pub pairs_of-turn : (front : List ℕ) (rest : List ℕ) (byte : ℕ) → 2 ≤ length rest
    → pair_of (get_or rest 0 0) (get_or rest 1 0) ≡ Some byte
    → option_map (λ bytes. (front ++ byte ∷ []) ++ bytes) (pairs_of (drop 2 rest)) ≡ option_map
    (λ bytes. front ++ bytes) (pairs_of rest)
pairs_of-turn front [] byte two read = absurd (omega arith)
pairs_of-turn front (high ∷ []) byte two read = absurd (omega arith)
pairs_of-turn front (high ∷ low ∷ rest) byte two read = rw read (pairs_of-more front byte (pairs_of rest))

one_more : (pair : Option ℕ) (more : Option (List ℕ)) (bytes : List ℕ)
    → option_and_then (λ byte. option_map (λ (rest : List ℕ). byte ∷ rest) more) pair ≡ Some bytes
    → (rest : List ℕ) × (more ≡ Some rest) × (length bytes ≡ length rest + 1)
one_more None more bytes is = absurd cc
one_more (Some byte) None bytes is = absurd cc
one_more (Some byte) (Some rest) bytes is =
    let whole : byte ∷ rest ≡ bytes = cc in
    let counted : length bytes ≡ suc (length rest) = ap length (sym whole) in
    (rest, refl, omega (arith, counted))

-- there are half as many bytes as digits
pub pairs_of-length : (text bytes : List ℕ) → pairs_of text ≡ Some bytes → length text ≡ 2 * length bytes
pairs_of-length [] [] is = refl
pairs_of-length [] (byte ∷ bytes) is = absurd cc
pairs_of-length (high ∷ []) bytes is = absurd cc
pairs_of-length (high ∷ low ∷ more) bytes is =
    let step = one_more (pair_of high low) (pairs_of more) bytes is in
    let rest : length more ≡ 2 * length step.0 = pairs_of-length more step.0 step.1 in
    let counted : length bytes ≡ length step.0 + 1 = step.2 in
    omega (arith, rest, counted)

ok_is : (read : Option (List ℕ)) (fault : ScriptFault) (bytes : List ℕ) → ok_or read fault ≡ Ok bytes
    → read ≡ Some bytes
ok_is None fault bytes is = absurd cc
ok_is (Some read) fault bytes is = cc

-- what is read of a reset that is not too long, with zero bytes after it
pub filled-resized : (count len : ℕ) (text bytes new : List ℕ) → len ≡ length bytes → length text ≤ 2 * count
    → ok_or (pairs_of text) (OutOfRange Reset) ≡ Ok bytes
    → new ≡ take count bytes ++ replicate (count - len) 0 → filled count text ≡ Ok new
unfolding filled
filled-resized count len text bytes new same short read is =
    let counted : length text ≡ 2 * length bytes =
    pairs_of-length text bytes (ok_is (pairs_of text) (OutOfRange Reset) bytes read) in
    let within : length bytes ≤ count = omega arith in
    let whole : take count bytes ≡ bytes = take_all count bytes within in
    let not_long : nat_lt (2 * count) (length text) ≡ false = grind (arith, common_steps) in
    rw (not_long, read, is, whole, same) refl
