-- A port that is wholly known at reset keeps a store.
use Rattle.std.proofs.Common.{◌≡◌, ◌∙◌, ℕ, ◌+◌, ◌-◌, ◌^◌, ◌≤◌, Bool, true, false, List, [], ◌∷◌, ◌++◌, length, map, take, drop, replicate, Option, Some, refl, ap, append_assoc, arith}
use Rattle.std.specs.List.{range_with_len}
use Rattle.std.proofs.Math.Seq.{take-append_seam, drop-append-add}
use Rattle.std.proofs.lemmas.List.{take-map, drop-map, map-append, length-append, length-drop, length-map, length-replicate, drop-append-le, replicate-append-replicate}
use Rattle.std.proofs.lemmas.List.FromFn.{length-range_with_len}
use Rattle.check_memory.specs.Known.{known, replaced}
use Rattle.check_memory.specs.Place.{tabulate}
use Rattle.tl_map.specs.declared.range.Range.{Range}
use Rattle.check_description.specs.Mirror.{mirrors_kept, ranges_kept}
use Rattle.check_description.specs.Laws.{KeepsItsStore, put_over}

-- ---- cells that are all known

zeros_of : (xs : List ℕ) → map (λ (_ : ℕ). Some 0) xs ≡ known (replicate (length xs) 0)
zeros_of [] = refl
zeros_of (x ∷ xs) = ap (λ (cells : List (Option ℕ)). Some 0 ∷ cells) (zeros_of xs)

-- an address space of zeros
pub blank_known : (n : ℕ) → tabulate (λ _. Some 0) n ≡ known (replicate n 0)
unfolding tabulate
blank_known n = rw (zeros_of (range_with_len 0 n), length-range_with_len 0 n) refl

-- known bytes put over known ones
pub known-replaced : (bytes new : List ℕ) (start : ℕ)
    → replaced (known bytes) start (known new) ≡ known (replaced bytes start new)
known-replaced bytes new start =
    let some = λ (byte : ℕ). Some byte in
    rw (
      length-map new some,
      take-map some start bytes,
      drop-map some (start + length new) bytes,
      map-append some (take start bytes ++ new) (drop (start + length new) bytes),
      map-append some (take start bytes) new,
    ) refl

-- ---- bytes between those before and beyond

pub length-put_over : (front bytes : List ℕ) → length front ≤ length bytes → length (put_over front bytes) ≡ length bytes
length-put_over front bytes fits =
    omega (arith, length-append front (drop (length front) bytes), length-drop (length front) bytes)

-- put over the first of the bytes in the middle
pub replaced-middle : (before bytes beyond new : List ℕ) → length new ≤ length bytes
    → replaced (before ++ (bytes ++ beyond)) (length before) new ≡ before ++ (put_over new bytes ++ beyond)
replaced-middle before bytes beyond new fits =
    rw (
      take-append_seam before (bytes ++ beyond),
      drop-append-add before (bytes ++ beyond) (length new),
      drop-append-le (length new) bytes beyond fits,
      append_assoc before new (drop (length new) bytes ++ beyond),
      append_assoc new (drop (length new) bytes) beyond,
    ) refl

-- the same of cells that are all known
put_known : (before bytes beyond new : List ℕ) (start : ℕ) → length before ≡ start → length new ≤ length bytes
    → replaced (known (before ++ (bytes ++ beyond))) start (known new)
    ≡ known (before ++ (put_over new bytes ++ beyond))
put_known before bytes beyond new start same fits =
    rw (← same) (known-replaced (before ++ (bytes ++ beyond)) new (length before)
    ∙ ap known (replaced-middle before bytes beyond new fits))

-- ---- an address space of zeros, with an image and a reset

in_three : (base count n : ℕ) → base + count ≤ n
    → replicate {A = ℕ} n 0 ≡ replicate base 0 ++ (replicate count 0 ++ replicate (n - (base + count)) 0)
in_three base count n fits =
    let whole : base + (count + (n - (base + count))) ≡ n = omega arith in
    rw (
      replicate-append-replicate {A = ℕ} count (n - (base + count)) 0,
      replicate-append-replicate {A = ℕ} base (count + (n - (base + count))) 0,
      whole,
    ) refl

cells_are : (base count n : ℕ) (reset image : List ℕ) → base + count ≤ n → length reset ≤ count
    → length image ≤ count
    → replaced (replaced (tabulate (λ _. Some 0) n) base (known image)) base (known reset)
    ≡ known (replicate base 0 ++ (put_over reset (put_over image (replicate count 0))
    ++ replicate (n - (base + count)) 0))
cells_are base count n reset image fits reset_fits image_fits =
    let before = replicate {A = ℕ} base 0 in
    let beyond = replicate {A = ℕ} (n - (base + count)) 0 in
    let zeros = replicate {A = ℕ} count 0 in
    let start : length before ≡ base = length-replicate base 0 in
    let counted : length zeros ≡ count = length-replicate count 0 in
    let filled : length (put_over image zeros) ≡ count =
    length-put_over image zeros (omega (arith, counted)) ∙ counted in
    rw (
      blank_known n,
      in_three base count n fits,
      put_known before zeros beyond image base start (omega (arith, counted)),
    )
    (put_known before (put_over image zeros) beyond reset base start (omega (arith, filled)))

-- a port of one range is seen there alone
one_kept : (mirror : Bool) (range : Range) → ranges_kept mirror (range ∷ []) ≡ range ∷ []
one_kept false range = refl
one_kept true range = refl

none_kept : (mirror : Bool) (range : Range) → mirrors_kept mirror (range ∷ []) ≡ []
none_kept false range = refl
none_kept true range = refl

-- a plain port keeps its store
pub keeps_its_store : KeepsItsStore
keeps_its_store kind range port image plain fits =
    let reset = port.contents.reset in
    let zeros = replicate {A = ℕ} range.length 0 in
    let counted : length zeros ≡ range.length = length-replicate range.length 0 in
    let filled : length (put_over image zeros) ≡ range.length =
    length-put_over image zeros (omega (arith, counted)) ∙ counted in
    let whole : length (put_over reset (put_over image zeros)) ≡ range.length =
    length-put_over reset (put_over image zeros) (omega (arith, filled)) ∙ filled in
    rw (
      plain.kind_is,
      plain.sizes_are,
      plain.ranges_are,
      one_kept port.mirror range,
      none_kept port.mirror range,
      plain.known,
      plain.still,
      cells_are range.base range.length (2 ^ 64) reset image fits.in_space fits.reset_fits fits.image_fits,
      whole,
    ) refl
