-- The words that are left as bytes are taken and read.
use Rattle.std.proofs.Common.{◌≡◌, ℕ, true, false, List, [], ◌∷◌, ◌++◌, Option, Some, None, refl, sym, ap, ◌∙◌, subst}
use Rattle.std.specs.Option.{option_map}
use Rattle.std.specs.Io.KnownBytes.{IsAtEnd, Keeps, prepend_known}
use Rattle.check_vcd.specs.Words.{Both, Front, Word, nothing, words_from}
use Rattle.check_vcd.specs.Scanner.{TakesWord, at_hand, front, left, scanner_left, word_at_hand}
use Rattle.check_vcd.specs.declared.scanner.Scanner.{Scanner}

pub both-trans : {A : Type 0} (a b c : Option A) (P Q S : A → A → Type 0) → ((x y z : A) → P x y → Q y z → S x z)
    → Both a b P → Both b c Q → Both a c S
both-trans None b c P Q S join one two = tt
both-trans (Some x) None c P Q S join one two = absurd one
both-trans (Some x) (Some y) None P Q S join one two = absurd two
both-trans (Some x) (Some y) (Some z) P Q S join one two = join x y z one two

-- the same words are left
abbrev pub AreSame : Option (List Word) → Option (List Word) → Type 0
AreSame a b = Both a b (λ x y. x ≡ y)

pub same-self : (a : Option (List Word)) → AreSame a a
same-self None = tt
same-self (Some x) = refl

pub same-trans : (a b c : Option (List Word)) → AreSame a b → AreSame b c → AreSame a c
same-trans a b c one two =
    both-trans a b c (λ x y. x ≡ y) (λ x y. x ≡ y) (λ x y. x ≡ y) (λ x y z p q. p ∙ q) one two

pub same-then : (a b c : Option (List Word)) (P : List Word → List Word → Type 0) → AreSame a b → Both b c P
    → Both a c P
same-then a b c P one two =
    both-trans a b c (λ x y. x ≡ y) P P (λ x y z p q. subst (λ (w : List Word). P w z) (sym p) q) one two

-- a relation of what is left that holds whatever the reader has
hand : (old new : List ℕ) (from to : ℕ) (f g : Front) (known : Option (List ℕ)) (P : List Word → List Word → Type 0)
    → ((rest : List ℕ) → P (words_from from f (old ++ rest)) (words_from to g (new ++ rest)))
    → Both (option_map (words_from from f) (prepend_known old known))
    (option_map (words_from to g) (prepend_known new known)) P
hand old new from to f g None P all = tt
hand old new from to f g (Some rest) P all = all rest

pub goes-on : {R : Type 0} (remaining : R → Option (List ℕ)) (old new : Scanner R) → new.reader ≡ old.reader
    → TakesWord old new false
    → AreSame (left remaining old (front old)) (left remaining new (front new))
goes-on remaining old new same takes =
    rw same (hand (at_hand old) (at_hand new) old.next_line new.next_line (front old) (front new)
    (remaining old.reader) (λ x y. x ≡ y) takes.0)

pub ends-word : {R : Type 0} (remaining : R → Option (List ℕ)) (old new : Scanner R) → new.reader ≡ old.reader
    → TakesWord old new true
    → Both (left remaining old (front old)) (left remaining new nothing) (λ x y. x ≡ word_at_hand new ∷ y)
ends-word remaining old new same takes =
    rw same (hand (at_hand old) (at_hand new) old.next_line new.next_line (front old) nothing
    (remaining old.reader) (λ x y. x ≡ word_at_hand new ∷ y) takes)

-- nothing was at hand, and what the reader had is left
kept : (a b : Option (List ℕ)) (line : ℕ) (f : Front) → Keeps a b
    → AreSame (option_map (words_from line f) (prepend_known [] a)) (option_map (words_from line f) b)
kept None b line f keeps = tt
kept (Some xs) None line f keeps = absurd keeps
kept (Some xs) (Some ys) line f keeps = ap (words_from line f) (sym keeps)

pub refilled : {R : Type 0} (remaining : R → Option (List ℕ)) (old new : Scanner R) → at_hand old ≡ []
    → Keeps (remaining old.reader) (scanner_left remaining new)
    → new.next_line ≡ old.next_line → front new ≡ front old
    → AreSame (left remaining old (front old)) (left remaining new (front new))
refilled remaining old new none keeps lines fronts =
    rw (none, lines, fronts) (kept (remaining old.reader) (scanner_left remaining new) old.next_line (front old) keeps)

-- no byte is left
at-end : (known : Option (List ℕ)) (line : ℕ) (f : Front) → IsAtEnd known
    → Both (option_map (words_from line f) (prepend_known [] known))
    (option_map (words_from line nothing) (prepend_known [] known)) (λ x y. (x ≡ []) × (y ≡ []))
unfolding words_from
at-end None line f end = tt
at-end (Some xs) line f end = rw end (refl, refl)

pub ends-words : {R : Type 0} (remaining : R → Option (List ℕ)) (new : Scanner R) → at_hand new ≡ []
    → IsAtEnd (remaining new.reader)
    → Both (left remaining new (front new)) (left remaining new nothing) (λ x y. (x ≡ []) × (y ≡ []))
ends-words remaining new none end = rw none (at-end (remaining new.reader) new.next_line (front new) end)
