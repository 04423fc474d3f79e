-- What is left of a text as its bytes are taken and read.
use Rattle.std.proofs.Common.{◌≡◌, ℕ, ◌+◌, ◌<◌, ◌≤◌, Bool, true, false, List, [], ◌∷◌, ◌++◌, take, drop, length, Option, Some, None, Result, Ok, Err, refl, sym, ap, ap₂, ◌∙◌, subst, arith, append_assoc, take-append-drop}
use Rattle.std.proofs.lemmas.List.{drop_all, take_all}
use Rattle.std.specs.List.{AllPass}
use Rattle.std.specs.Result.{IfOk}
use Rattle.std.specs.Io.KnownBytes.{IsAtEnd, Keeps, prepend_known}
use Rattle.csv.specs.Machine.{ends_at_end}
use Rattle.check_records.specs.Draft.{EndsWith, DraftGoesOn, Partial, full_size}
use Rattle.check_records.specs.Reading.{AnswersRow, StopsLong}
use Rattle.check_records.specs.Source.{Between, HasFirst, HasSameNext, TextLeft, at_hand, left, text_left}
use Rattle.check_records.specs.Text.{Ends, GivesRecord, TextPlace, RecordRow, is_line_end, line_feeds}
use Rattle.check_records.specs.declared.draft.TheConstants.{MAX_ROW}
use Rattle.check_records.specs.declared.fault.RecordFault.{RecordFault}
use Rattle.check_records.specs.declared.source.Source.{Source}
use Rattle.check_records.proofs.KnownLemmas.{between-trans, both-hand, prepend-none}
use Rattle.check_records.proofs.TextLemmas.{same-skip}
use Rattle.check_records.proofs.WithinLemmas.{IsWithin, blank, ends-last, ends-none, ends-same, gives-same, long-same, gives-end, gives-last, long-within, within-begin, within-more}

-- ---- bytes at hand are taken

-- so many were taken
pub record IsAdvance {R : Type 0} (old : Source R) (count feeds : ℕ) (new : Source R) : Type 0 where
  pub feeds_are : feeds ≡ line_feeds (take count (at_hand old))
  pub text : at_hand new ≡ drop count (at_hand old)
  pub line_is : new.line ≡ old.line + feeds
  pub same : new.reader ≡ old.reader

-- the bytes at hand that were taken, and those that were not
parts : (count : ℕ) (hand rest : List ℕ) → hand ++ rest ≡ take count hand ++ (drop count hand ++ rest)
parts count hand rest =
    ap (λ (xs : List ℕ). xs ++ rest) (sym (take-append-drop count hand))
    ∙ append_assoc (take count hand) (drop count hand) rest

pub advanced : {R : Type 0} (remaining : R → Option (List ℕ)) (old new : Source R) (count feeds : ℕ)
    (P : TextPlace → TextPlace → Type 0)
    → IsAdvance old count feeds new
    → ((rest : List ℕ) → P (record { line = old.line; text = at_hand old ++ rest })
    (record { line = old.line + line_feeds (take count (at_hand old)); text = drop count (at_hand old) ++ rest }))
    → Between (left remaining old) (left remaining new) P
advanced remaining old new count feeds P is all =
    rw (is.line_is, is.feeds_are, is.text, is.same)
    (both-hand (at_hand old) (drop count (at_hand old)) (remaining old.reader)
    (λ from to. P (record { line = old.line; text = from })
    (record { line = old.line + line_feeds (take count (at_hand old)); text = to })) all)

-- ends of lines were taken
pub skipped : {R : Type 0} (remaining : R → Option (List ℕ)) (old new : Source R) (count feeds : ℕ)
    → IsAdvance old count feeds new
    → AllPass is_line_end (take count (at_hand old)) → Between (left remaining old) (left remaining new) HasSameNext
skipped remaining old new count feeds is all =
    advanced remaining old new count feeds HasSameNext is (λ rest.
    subst (λ (text : List ℕ). HasSameNext (record { line = old.line; text = text })
    (record { line = old.line + line_feeds (take count (at_hand old)); text = drop count (at_hand old) ++ rest }))
    (sym (parts count (at_hand old) rest))
    (same-skip old.line (take count (at_hand old)) (drop count (at_hand old) ++ rest) all))

-- ---- more is read

-- nothing was at hand, and what the reader had is left
pub record IsRefill {R : Type 0} (remaining : R → Option (List ℕ)) (old new : Source R) : Type 0 where
  pub none : at_hand old ≡ []
  pub text : Keeps (remaining old.reader) (text_left remaining new)
  pub line_is : new.line ≡ old.line

kept : (a b : Option (List ℕ)) (line : ℕ) → Keeps a b
    → Between (record { line = line; text = a }) (record { line = line; text = b }) (λ from to. to ≡ from)
kept None b line keeps = tt
kept (Some xs) None line keeps = absurd keeps
kept (Some xs) (Some ys) line keeps =
    let at : List ℕ → TextPlace = λ text. record { line = line; text = text } in ap at keeps

pub refilled : {R : Type 0} (remaining : R → Option (List ℕ)) (old new : Source R) → IsRefill remaining old new
    → Between (left remaining old) (left remaining new) (λ from to. to ≡ from)
refilled remaining old new is =
    rw (is.none, is.line_is) (rw (prepend-none (remaining old.reader))
    (kept (remaining old.reader) (text_left remaining new) old.line is.text))

-- a relation to a place goes on over a refill
pub between-refill : {R : Type 0} (remaining : R → Option (List ℕ)) (from : TextLeft) (old new : Source R)
    (P : TextPlace → TextPlace → Type 0)
    → Between from (left remaining old) P → IsRefill remaining old new → Between from (left remaining new) P
between-refill remaining from old new P so_far is =
    between-trans from (left remaining old) (left remaining new) P (λ a b. b ≡ a) P
    (λ x y z here same. subst (P x) (sym same) here) so_far
    (refilled remaining old new is)

-- ---- a record is read

-- its first byte is at hand
pub within-first : {R : Type 0} (remaining : R → Option (List ℕ)) (source : Source R) → HasFirst remaining source true
    → Between (left remaining source) (left remaining source) (λ from to. IsWithin from blank source.line to)
within-first remaining source first =
    both-hand (at_hand source) (at_hand source) (remaining source.reader)
    (λ from to. IsWithin (record { line = source.line; text = from }) blank source.line
    (record { line = source.line; text = to }))
    (λ rest. within-begin source.line (at_hand source) rest first.0 first.1)

-- what is so of each place at which it may have begun
abbrev pub Carries : Partial → ℕ → (TextPlace → TextPlace → Type 0) → TextPlace → TextPlace → Type 0
Carries p row P here to = (from : TextPlace) → IsWithin from p row here → P from to

-- all bytes at hand belong to it
pub within-advance : {R : Type 0} (remaining : R → Option (List ℕ)) (from : TextLeft) (old new : Source R) (p q : Partial)
    (row count feeds : ℕ)
    → Between from (left remaining old) (λ a b. IsWithin a p row b) → IsAdvance old count feeds new
    → count ≡ length (at_hand old)
    → DraftGoesOn p (at_hand old) q → Between from (left remaining new) (λ a b. IsWithin a q row b)
within-advance remaining from old new p q row count feeds so_far is all on =
    between-trans from (left remaining old) (left remaining new) (λ a b. IsWithin a p row b)
    (Carries p row (λ a b. IsWithin a q row b))
    (λ a b. IsWithin a q row b) (λ x y z within carry. carry x within) so_far
    (advanced remaining old new count feeds (Carries p row (λ a b. IsWithin a q row b)) is (λ rest x within.
    rw (
      all,
      take_all (length (at_hand old)) (at_hand old) (omega arith),
      drop_all (length (at_hand old)) (at_hand old) (omega arith),
    )
    (within-more x p q row old.line (at_hand old) rest within on)))

-- the bytes that were taken end it
pub gives-advance : {R : Type 0} (remaining : R → Option (List ℕ)) (from : TextLeft) (old new : Source R) (p : Partial)
    (row count feeds size : ℕ)
    (fields : List (List ℕ)) → Between from (left remaining old) (λ a b. IsWithin a p row b)
    → IsAdvance old count feeds new
    → EndsWith p (take count (at_hand old)) fields size → size ≤ MAX_ROW
    → Between from (left remaining new) (λ a b. GivesRecord a (record { line = row; fields = fields }) b)
gives-advance remaining from old new p row count feeds size fields so_far is ends short =
    between-trans from (left remaining old) (left remaining new) (λ a b. IsWithin a p row b)
    (Carries p row (λ a b. GivesRecord a (record { line = row; fields = fields }) b))
    (λ a b. GivesRecord a (record { line = row; fields = fields }) b)
    (λ x y z within carry. carry x within) so_far
    (advanced remaining old new count feeds (Carries p row
    (λ a b. GivesRecord a (record { line = row; fields = fields }) b)) is (λ rest x within.
    gives-end x p row old.line size count fields (at_hand old) rest within ends short))

-- it gets too long
long-known : (from : TextLeft) (line : ℕ) (hand : List ℕ) (known : Option (List ℕ)) (p : Partial) (row : ℕ)
    → Between from (record { line = line; text = prepend_known hand known }) (λ a b. IsWithin a p row b)
    → ((rest : List ℕ) → MAX_ROW < full_size p (hand ++ rest)) → StopsLong from row
long-known from line hand known p row so_far long = go from.text known so_far
  where
    go : (text known : Option (List ℕ))
        → Between (record { line = from.line; text = text }) (record { line = line; text = prepend_known hand known })
        (λ a b. IsWithin a p row b)
        → StopsLong (record { line = from.line; text = text }) row
    go None known within = tt
    go (Some xs) None within = absurd within
    go (Some xs) (Some rest) within =
        long-within (record { line = from.line; text = xs }) p row line (hand ++ rest) within (long rest)

pub long-hand : {R : Type 0} (remaining : R → Option (List ℕ)) (from : TextLeft) (source : Source R) (p : Partial) (row : ℕ)
    → Between from (left remaining source) (λ a b. IsWithin a p row b)
    → ((rest : List ℕ) → MAX_ROW < full_size p (at_hand source ++ rest))
    → StopsLong from row
long-hand remaining from source p row so_far long =
    long-known from source.line (at_hand source) (remaining source.reader) p row so_far long

-- ---- the end of the text

-- no byte is left
at-end : {R : Type 0} (remaining : R → Option (List ℕ)) (source : Source R) (P : TextPlace → TextPlace → Type 0)
    → at_hand source ≡ []
    → IsAtEnd (remaining source.reader)
    → P (record { line = source.line; text = [] }) (record { line = source.line; text = [] })
    → Between (left remaining source) (left remaining source) P
at-end remaining source P none end is = rw none (go (remaining source.reader) end)
  where
    go : (known : Option (List ℕ)) → IsAtEnd known
        → Between (record { line = source.line; text = prepend_known [] known })
        (record { line = source.line; text = prepend_known [] known }) P
    go None end = tt
    go (Some xs) end = rw end is

-- it ends there
pub gives-at-end : {R : Type 0} (remaining : R → Option (List ℕ)) (from : TextLeft) (source : Source R) (p : Partial)
    (row : ℕ)
    → Between from (left remaining source) (λ a b. IsWithin a p row b) → at_hand source ≡ []
    → IsAtEnd (remaining source.reader)
    → ends_at_end p.state ≡ true → p.size ≤ MAX_ROW
    → Between from (left remaining source) (λ a b. GivesRecord a
    (record { line = row; fields = p.fields ++ (p.field ∷ []) }) b)
gives-at-end remaining from source p row so_far none end ends short =
    between-trans from (left remaining source) (left remaining source) (λ a b. IsWithin a p row b)
    (Carries p row (λ a b. GivesRecord a (record { line = row; fields = p.fields ++ (p.field ∷ []) }) b))
    (λ a b. GivesRecord a (record { line = row; fields = p.fields ++ (p.field ∷ []) }) b)
    (λ x y z within carry. carry x within) so_far
    (at-end remaining source (Carries p row (λ a b. GivesRecord a
    (record { line = row; fields = p.fields ++ (p.field ∷ []) }) b)) none end
    (λ x within. gives-last x p row source.line within ends short))

-- or there was none
pub ends-at-end : {R : Type 0} (remaining : R → Option (List ℕ)) (from : TextLeft) (source : Source R) (p : Partial)
    (row : ℕ)
    → Between from (left remaining source) (λ a b. IsWithin a p row b) → at_hand source ≡ []
    → IsAtEnd (remaining source.reader)
    → ends_at_end p.state ≡ false → Between from (left remaining source) Ends
ends-at-end remaining from source p row so_far none end ends =
    between-trans from (left remaining source) (left remaining source) (λ a b. IsWithin a p row b)
    (Carries p row Ends) Ends
    (λ x y z within carry. carry x within) so_far
    (at-end remaining source (Carries p row Ends) none end (λ x within. ends-last x p row source.line within ends))

-- after ends of lines
pub ends-behind-lines : {R : Type 0} (remaining : R → Option (List ℕ)) (from : TextLeft) (source : Source R)
    → Between from (left remaining source) HasSameNext → HasFirst remaining source false
    → Between from (left remaining source) Ends
ends-behind-lines remaining from source same first =
    between-trans from (left remaining source) (left remaining source) HasSameNext Ends Ends
    (λ x y z. ends-same x y z) same
    (at-end remaining source Ends first.0 first.1 (ends-none source.line))

-- a record after them
pub gives-behind-lines : (from here to : TextLeft) (row : RecordRow) → Between from here HasSameNext
    → Between here to (λ a b. GivesRecord a row b)
    → Between from to (λ a b. GivesRecord a row b)
gives-behind-lines from here to row same gives =
    between-trans from here to HasSameNext (λ a b. GivesRecord a row b) (λ a b. GivesRecord a row b)
    (λ x y z. gives-same x y z row) same gives

pub ends-behind : (from here to : TextLeft) → Between from here HasSameNext → Between here to Ends → Between from to Ends
ends-behind from here to same ends = between-trans from here to HasSameNext Ends Ends ends-same same ends

pub stops-behind-lines : (from here : TextLeft) (line : ℕ) → Between from here HasSameNext → StopsLong here line
    → StopsLong from line
stops-behind-lines from here line same long = go from.text here.text same long
  where
    go : (a b : Option (List ℕ)) → Between (record { line = from.line; text = a })
        (record { line = here.line; text = b }) HasSameNext
        → StopsLong (record { line = here.line; text = b }) line
        → StopsLong (record { line = from.line; text = a }) line
    go None b same long = tt
    go (Some xs) None same long = absurd same
    go (Some xs) (Some ys) same long =
        long-same (record { line = from.line; text = xs }) (record { line = here.line; text = ys }) line same long

-- ---- what a read answers at the end of the text

pub answers-at-end : {R : Type 0} (remaining : R → Option (List ℕ)) (from : TextLeft) (source : Source R) (p : Partial)
    (line : ℕ) (row : RecordRow)
    (r : Result Bool RecordFault) → Between from (left remaining source) (λ a b. IsWithin a p line b)
    → at_hand source ≡ []
    → IsAtEnd (remaining source.reader) → p.size ≤ MAX_ROW → IfOk r (λ ends. ends ≡ ends_at_end p.state)
    → (r ≡ Ok true → row.fields ≡ p.fields ++ (p.field ∷ [])) → row.line ≡ line
    → IfOk r (AnswersRow from (left remaining source) row)
answers-at-end remaining from source p line row (Ok true) within none end short ends fields same =
    let make : ℕ → List (List ℕ) → RecordRow = λ at of. record { line = at; fields = of } in
    let is : row ≡ make line (p.fields ++ (p.field ∷ [])) = ap₂ make same (fields refl) in
    subst (λ (w : RecordRow). Between from (left remaining source) (λ a b. GivesRecord a w b)) (sym is)
    (gives-at-end remaining from source p line within none end (sym ends) short)
answers-at-end remaining from source p line row (Ok false) within none end short ends fields same =
    ends-at-end remaining from source p line within none end (sym ends)
answers-at-end remaining from source p line row (Err fault) within none end short ends fields same = tt
