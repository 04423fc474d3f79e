-- A byte order mark at the start of a text.
use Rattle.std.proofs.Common.{◌≡◌, ℕ, ◌<◌, ◌≤◌, ◌==◌, ◌&&◌, Bool, true, false, List, [], ◌∷◌, ◌++◌, length, Option, Some, None, refl, sym, ap, ◌∙◌, arith}
use Rattle.std.specs.Cmp.Lexicographic.{pointwise}
use Rattle.std.specs.Prelude.{option_map}
use Rattle.std.specs.Io.KnownBytes.{IsAtEnd, Keeps, prepend_known}
use Rattle.csv.specs.Reading.{is_bom, strip_bom}

abbrev pub mark : List ℕ
mark = 239 ∷ 187 ∷ 191 ∷ []

-- the mark is dropped
pub strip-yes : (a known : Option (List ℕ)) (hand : List ℕ) → hand ≡ mark → Keeps a (prepend_known hand known)
    → Keeps (option_map strip_bom a) known
unfolding strip_bom
strip-yes None known hand is kept = tt
strip-yes (Some xs) None hand is kept = absurd kept
strip-yes (Some xs) (Some rest) hand is kept =
    let whole : mark ++ rest ≡ xs = ap (λ (front : List ℕ). front ++ rest) (sym is) ∙ kept in ap strip_bom whole

others : (x y z : Bool) → (x && (y && (z && true))) ≡ false → ((x && y) && z) ≡ false
others true true true e = e
others true true false e = refl
others true false z e = refl
others false y z e = refl

-- another text stays as it is
strip-same : (hand rest : List ℕ) → length hand ≤ 3 → (length hand < 3 → rest ≡ []) → pointwise ◌==◌ hand mark ≡ false
    → strip_bom (hand ++ rest) ≡ hand ++ rest
unfolding strip_bom
strip-same [] rest few end other = rw (end (omega arith)) refl
strip-same (a ∷ []) rest few end other = rw (end (omega arith)) refl
strip-same (a ∷ b ∷ []) rest few end other = rw (end (omega arith)) refl
strip-same (a ∷ b ∷ c ∷ []) rest few end other =
    let not_bom : is_bom a b c ≡ false = others (a == 239) (b == 187) (c == 191) other in rw not_bom refl
strip-same (a ∷ b ∷ c ∷ d ∷ more) rest few end other = absurd (omega (arith, few))

pub strip-no : (a known : Option (List ℕ)) (hand : List ℕ) → length hand ≤ 3 → (length hand < 3 → IsAtEnd known)
    → pointwise ◌==◌ hand mark ≡ false
    → Keeps a (prepend_known hand known) → Keeps (option_map strip_bom a) (prepend_known hand known)
strip-no None known hand few end other kept = tt
strip-no (Some xs) None hand few end other kept = absurd kept
strip-no (Some xs) (Some rest) hand few end other kept = sym (strip-same hand rest few end other) ∙ ap strip_bom kept
