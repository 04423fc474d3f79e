-- Ends of lines at the front of a text change nothing but the line.
use Rattle.std.proofs.Common.{◌≡◌, ℕ, suc, ◌+◌, zero, ◌<◌, ◌==◌, Bool, true, false, cond, List, [], ◌∷◌, ◌++◌, take, drop, length, get_or, refl, sym, ap, ◌∙◌, arith, take-append-drop}
use Rattle.std.specs.List.{AllPass}
use Rattle.std.proofs.lemmas.List.{drop_more, take_more}
use Rattle.std.proofs.lemmas.Bool.{ne_eqb}
use Rattle.std.proofs.lemmas.List.Elements.{All-append}
use Rattle.std.proofs.lemmas.List.Sums.{sum_by-append, sum_by-cons, sum_by_more, take_while-cons}
use Rattle.csv.specs.Machine.{next_record}
use Rattle.csv.specs.Reading.{default_config}
use Rattle.csv.specs.declared.parser.State.TheVariants as st
use Rattle.check_records.specs.Source.{HasSameNext}
use Rattle.check_records.specs.Text.{TextPlace, bytes_from, ends_before, from_record, is_line_end, line_feeds, record_line}

-- ---- line feeds

pub feeds-append : (xs ys : List ℕ) → line_feeds (xs ++ ys) ≡ line_feeds xs + line_feeds ys
feeds-append xs ys = sum_by-append (λ (byte : ℕ). cond (byte == 10) 1 0) xs ys

pub feeds-cons : (byte : ℕ) (rest : List ℕ) → line_feeds (byte ∷ rest) ≡ cond (byte == 10) 1 0 + line_feeds rest
feeds-cons byte rest = sum_by-cons (λ (c : ℕ). cond (c == 10) 1 0) byte rest

pub feeds-split : (n : ℕ) (xs : List ℕ) → line_feeds (take n xs) + line_feeds (drop n xs) ≡ line_feeds xs
feeds-split n xs = sym (feeds-append (take n xs) (drop n xs)) ∙ ap line_feeds (take-append-drop n xs)

-- one byte more
pub feeds-more : (xs : List ℕ) (i : ℕ) → i < length xs
    → line_feeds (take (i + 1) xs) ≡ line_feeds (take i xs) + cond (get_or xs i 0 == 10) 1 0
feeds-more xs i inside = sum_by_more (λ (byte : ℕ). cond (byte == 10) 1 0) xs i 0 inside

pub feeds-yes : (xs : List ℕ) (i : ℕ) → i < length xs → get_or xs i 0 ≡ 10
    → line_feeds (take (i + 1) xs) ≡ line_feeds (take i xs) + 1
feeds-yes xs i inside is = feeds-more xs i inside ∙ ap (λ (byte : ℕ). line_feeds (take i xs) + cond (byte == 10) 1 0) is

pub feeds-no : (xs : List ℕ) (i : ℕ) → i < length xs → (get_or xs i 0 ≡ 10 → ⊥)
    → line_feeds (take (i + 1) xs) ≡ line_feeds (take i xs)
feeds-no xs i inside not =
    let more = feeds-more xs i inside ∙ ap (λ (b : Bool). line_feeds (take i xs) + cond b 1 0)
    (ne_eqb (get_or xs i 0) 10 not) in
    omega (arith, more)

-- ---- ends of lines

ends-yes : (byte : ℕ) (rest : List ℕ) → is_line_end byte ≡ true → ends_before (byte ∷ rest) ≡ byte ∷ ends_before rest
ends-yes byte rest h = take_while-cons is_line_end byte rest ∙ ap (λ (b : Bool). cond b (byte ∷ ends_before rest) []) h

ends-no : (byte : ℕ) (rest : List ℕ) → is_line_end byte ≡ false → ends_before (byte ∷ rest) ≡ []
ends-no byte rest h = take_while-cons is_line_end byte rest ∙ ap (λ (b : Bool). cond b (byte ∷ ends_before rest) []) h

-- a text that begins with a record
pub from-first : (byte : ℕ) (rest : List ℕ) → is_line_end byte ≡ false → from_record (byte ∷ rest) ≡ byte ∷ rest
from-first byte rest h = ap (λ (ends : List ℕ). drop (length ends) (byte ∷ rest)) (ends-no byte rest h)

pub line-first : (line byte : ℕ) (rest : List ℕ) → is_line_end byte ≡ false
    → record_line (record { line = line; text = byte ∷ rest }) ≡ line
line-first line byte rest h =
    let none : line_feeds (ends_before (byte ∷ rest)) ≡ 0 = ap line_feeds (ends-no byte rest h) in omega (arith, none)

head-of : (byte : ℕ) (front : List ℕ) → AllPass is_line_end (byte ∷ front) → is_line_end byte ≡ true
head-of byte front all = all 0 byte (omega arith)

tail-of : (byte : ℕ) (front : List ℕ) → AllPass is_line_end (byte ∷ front) → AllPass is_line_end front
tail-of byte front all k d inside = all (suc k) d (omega (arith, inside))

all-one : (byte : ℕ) → is_line_end byte ≡ true → AllPass is_line_end (byte ∷ [])
all-one byte here zero d inside = here
all-one byte here (suc k) d inside = absurd (omega (arith, inside))

-- one byte more
pub all-more : (xs : List ℕ) (i : ℕ) → i < length xs → AllPass is_line_end (take i xs)
    → is_line_end (get_or xs i 0) ≡ true
    → AllPass is_line_end (take (i + 1) xs)
all-more xs i inside all here =
    rw (take_more xs i 0 inside)
    (All-append (λ (byte : ℕ). is_line_end byte ≡ true) (take i xs) (get_or xs i 0 ∷ []) all
    (all-one (get_or xs i 0) here))

ends-skip : (front rest : List ℕ) → AllPass is_line_end front → ends_before (front ++ rest) ≡ front ++ ends_before rest
ends-skip [] rest all = refl
ends-skip (byte ∷ front) rest all =
    ends-yes byte (front ++ rest) (head-of byte front all)
    ∙ ap (λ (xs : List ℕ). byte ∷ xs) (ends-skip front rest (tail-of byte front all))

from-skip : (front rest : List ℕ) → AllPass is_line_end front → from_record (front ++ rest) ≡ from_record rest
from-skip [] rest all = refl
from-skip (byte ∷ front) rest all =
    ap (λ (ends : List ℕ). drop (length ends) (byte ∷ (front ++ rest)))
    (ends-yes byte (front ++ rest) (head-of byte front all))
    ∙ from-skip front rest (tail-of byte front all)

reads-skip : (front rest : List ℕ) → AllPass is_line_end front
    → next_record default_config st.StartRecord [] []
    (front ++ rest) ≡ next_record default_config st.StartRecord [] [] rest
unfolding next_record
reads-skip [] rest all = refl
reads-skip (byte ∷ front) rest all =
    let ends = head-of byte front all in rw ends (reads-skip front rest (tail-of byte front all))

-- ends of lines are skipped
pub same-skip : (line : ℕ) (front rest : List ℕ) → AllPass is_line_end front
    → HasSameNext (record { line = line; text = front ++ rest })
    (record { line = line + line_feeds front; text = rest })
same-skip line front rest all =
    let before : line_feeds (ends_before (front ++ rest)) ≡ line_feeds front + line_feeds (ends_before rest) =
    ap line_feeds (ends-skip front rest all) ∙ feeds-append front (ends_before rest) in
    let whole = feeds-append front rest in
    record {
      reads = reads-skip front rest all;
      bytes = ap (bytes_from st.StartRecord) (from-skip front rest all);
      begins = omega (arith, before);
      lines = omega (arith, whole);
    }

pub same-none : (place : TextPlace) → HasSameNext place place
same-none place = record { reads = refl; bytes = refl; begins = refl; lines = refl }

pub same-trans : (a b c : TextPlace) → HasSameNext a b → HasSameNext b c → HasSameNext a c
same-trans a b c one two = record {
  reads = one.reads ∙ two.reads;
  bytes = one.bytes ∙ two.bytes;
  begins = one.begins ∙ two.begins;
  lines = two.lines ∙ one.lines;
}

-- ---- parts of a text

-- the byte at a place, and what stands before and after it
pub split-at : (xs : List ℕ) (i : ℕ) → i < length xs → xs ≡ take i xs ++ (get_or xs i 0 ∷ drop (i + 1) xs)
split-at xs i h = sym (take-append-drop i xs) ∙ ap (λ (rest : List ℕ). take i xs ++ rest) (drop_more xs i 0 h)
