-- Relations between texts that are known.
use Rattle.std.proofs.Common.{◌≡◌, ℕ, ◌+◌, ◌-◌, ◌≤◌, slice_range, arith, drop-drop, List, [], ◌++◌, take, drop, Option, Some, None, refl, sym, ap, ◌∙◌}
use Rattle.std.proofs.lemmas.List.{drop-take}
use Rattle.std.specs.Io.KnownBytes.{Consumes, Keeps, prepend_known}
use Rattle.check_records.specs.Source.{Between, StaysKnown, TextLeft}
use Rattle.check_records.specs.Text.{TextPlace}

pub both-trans : (a b c : Option (List ℕ)) (P Q S : List ℕ → List ℕ → Type 0)
    → ((x y z : List ℕ) → P x y → Q y z → S x z)
    → StaysKnown a b P → StaysKnown b c Q → StaysKnown a c S
both-trans None b c P Q S join one two = tt
both-trans (Some x) None c P Q S join one two = absurd one
both-trans (Some x) (Some y) None P Q S join one two = absurd two
both-trans (Some x) (Some y) (Some z) P Q S join one two = join x y z one two

pub between-trans : (a b c : TextLeft) (P Q S : TextPlace → TextPlace → Type 0) → ((x y z : TextPlace) → P x y → Q y z → S x z)
    → Between a b P → Between b c Q → Between a c S
between-trans a b c P Q S join one two =
    both-trans a.text b.text c.text
    (λ from to. P (record { line = a.line; text = from }) (record { line = b.line; text = to }))
    (λ from to. Q (record { line = b.line; text = from }) (record { line = c.line; text = to }))
    (λ from to. S (record { line = a.line; text = from }) (record { line = c.line; text = to }))
    (λ x y z. join (record { line = a.line; text = x }) (record { line = b.line; text = y })
    (record { line = c.line; text = z }))
    one two

-- bytes at hand, and then those of a reader: a relation that holds whatever the reader has
pub both-hand : (old new : List ℕ) (known : Option (List ℕ)) (P : List ℕ → List ℕ → Type 0)
    → ((rest : List ℕ) → P (old ++ rest) (new ++ rest))
    → StaysKnown (prepend_known old known) (prepend_known new known) P
both-hand old new None P all = tt
both-hand old new (Some rest) P all = all rest

-- a known text that stays as it is
pub both-keeps : (a b : Option (List ℕ)) (P : List ℕ → List ℕ → Type 0) → ((x : List ℕ) → P x x) → Keeps a b
    → StaysKnown a b P
both-keeps None b P all kept = tt
both-keeps (Some x) None P all kept = absurd kept
both-keeps (Some x) (Some y) P all kept = rw kept (all x)

-- nothing at hand
pub prepend-none : (known : Option (List ℕ)) → prepend_known [] known ≡ known
prepend-none None = refl
prepend-none (Some xs) = refl

pub keeps-same : (a : Option (List ℕ)) → Keeps a a
keeps-same None = tt
keeps-same (Some xs) = refl

pub keeps-trans : (a b c : Option (List ℕ)) → Keeps a b → Keeps b c → Keeps a c
keeps-trans None b c one two = tt
keeps-trans (Some x) None c one two = absurd one
keeps-trans (Some x) (Some y) None one two = absurd two
keeps-trans (Some x) (Some y) (Some z) one two = two ∙ one

-- what was read is at hand
pub keeps-read : (a b : Option (List ℕ)) (bytes : List ℕ) → Consumes a b bytes → Keeps a (prepend_known bytes b)
keeps-read None b bytes taken = tt
keeps-read (Some x) None bytes taken = absurd taken
keeps-read (Some x) (Some y) bytes taken = sym taken

-- a read after one that took nothing
pub consumes-behind : (a b c : Option (List ℕ)) (bytes : List ℕ) → Keeps a b → Consumes b c bytes → Consumes a c bytes
consumes-behind None b c bytes kept taken = tt
consumes-behind (Some x) None c bytes kept taken = absurd kept
consumes-behind (Some x) (Some y) None bytes kept taken = absurd taken
consumes-behind (Some x) (Some y) (Some z) bytes kept taken = sym kept ∙ taken

-- a part of a list from further on
pub part-rest : (xs : List ℕ) (from to count : ℕ) → count ≤ to - from
    → slice_range xs (from + count) to ≡ drop count (slice_range xs from to)
part-rest xs from to count inside =
    let rest = to - (from + count) in
    let whole : count + rest ≡ to - from = omega (arith, inside) in
    let same = ap (λ (n : ℕ). drop count (take n (drop from xs))) (sym whole) ∙ drop-take count rest (drop from xs)
    ∙ ap (take rest) (drop-drop count from xs) in
    sym same
