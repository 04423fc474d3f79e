-- What is written into a room twice, and the numbers of faults that are told.
use Rattle.std.proofs.Common.{◌≡◌, ◌≢◌, ◌<◌, ◌∙◌, ℕ, List, [], ◌∷◌, length, Option, None, Some, refl, sym, ap, subst, arith}
use Rattle.std.specs.Prelude.{IfNone}
use mathlib.Core.Logic.{dite}
use native.Mathlib.Decide.{ℕ_discrete}
use Rattle.check_start.specs.declared.start.Terms.{Terms}
use Rattle.check_description.specs.Description.{IsFirstFaultOf}
use Rattle.check_description.specs.Name.{IsFirstPartFault}
use Rattle.check_keys.specs.declared.fault.SystemFault.{SystemFault}
use Rattle.check_keys.specs.declared.fault.SystemFault.TheVariants.{TooLong, NotToml, Missing, WrongType, OutOfRange, UnknownKey, TwoCalled, ImageUnreadable, ImageTooLong, Map, Sources, PortSources, Memory}
use Rattle.tl_c.specs.Calls.{IsFaultOfDraft, IsFileAnswer, IsPartsAnswer}
use Rattle.tl_c.specs.Draft.{DraftView, IsDraftFault, IsFirstFileFault, LacksNone}
use Rattle.tl_c.specs.Judging.{ByTerms, links_of, order_of}
use Rattle.tl_c.specs.Numbers.{file_number}
use Rattle.tl_c.specs.Text.{IsWritten}
use Rattle.tl_c.specs.declared.fault.TheConstants.{MEMORY, OK}

-- ---- a room

still_none : (a b : List ℕ) → length b ≡ length a → a ≡ [] → b ≡ []
still_none a [] same none = refl
still_none a (x ∷ b) same none = let zero = ap (λ (l : List ℕ). length l) none in absurd (omega (arith, same, zero))

pub then_written : (a b d : List ℕ) (n m : ℕ) → IsWritten a b n → IsWritten b d m → IsWritten a d m
then_written a b d n m p q = record {
  same = q.same ∙ p.same;
  none = λ none. q.none (still_none a b p.same none);
  fits = λ some. subst (λ (k : ℕ). m < k) p.same (q.fits (λ none. some (still_none b a (sym p.same) none)));
  ends = λ some. q.ends (λ none. some (still_none b a (sym p.same) none));
}

-- ---- faults

pub if_none : {P : Type 0} (found : Option ℕ) → IfNone found P → found ≡ None → P
if_none None p is = p
if_none (Some x) p is = absurd cc

-- a fault whose number is above that of want of memory is another
is_other : (fault : SystemFault) (number : ℕ) → number ≡ file_number fault → 4 < number → fault ≢ Memory
is_other fault number is more = λ memory. let four : number ≡ 4 = is ∙ ap file_number memory in omega (arith, more, four)

pub of_parts : (file : List ℕ) (fault : SystemFault) (number : ℕ) → number ≡ file_number fault
    → (fault ≢ Memory → IsFirstPartFault file fault) → IsPartsAnswer file number
of_parts file fault number is first = λ more _. (fault, is, first (is_other fault number is more))

pub of_file : (file : List ℕ) (fault : SystemFault) (number : ℕ) → number ≡ file_number fault
    → (fault ≢ Memory → IsFirstFileFault file fault) → IsFileAnswer file number
of_file file fault number is first =
    λ more. (fault, is, first (is_other fault number is (omega (arith, more))))

-- neither a judge nor want of memory is a fault of a file
pub no_file : (file : List ℕ) (number : ℕ) → (number ≢ OK → number ≡ MEMORY) → IsFileAnswer file number
no_file file number only = λ more. dite (ℕ_discrete number 0) (λ none. absurd (omega (arith, more, none)))
    (λ some. let four = only some in absurd (omega (arith, more, four)))

pub by_terms : (links masters ports : ℕ) (terms : Terms) (Is : Terms → Type 0) → links_of links ≡ Some terms.links
    → order_of masters ≡ Some terms.orders.masters → order_of ports ≡ Some terms.orders.ports → terms.within ≡ None
    → Is terms
    → ByTerms links masters ports Is
by_terms links masters ports terms Is l m p none is =
    rw (l, m, p) (subst (λ w. Is (record { links = terms.links; orders = terms.orders; within = w })) none is)

-- a fault of the parts is one of the draft, if no image lacks
pub parts_fault : (draft : DraftView) (fault : SystemFault) → LacksNone draft → IsFirstFaultOf draft.parts fault
    → IsDraftFault draft fault
parts_fault draft TooLong none first = absurd first
parts_fault draft NotToml none first = absurd first
parts_fault draft (Missing key) none first = absurd first
parts_fault draft (WrongType key) none first = absurd first
parts_fault draft (OutOfRange key) none first = absurd first
parts_fault draft (UnknownKey unknown) none first = absurd first
parts_fault draft (TwoCalled name) none first = absurd first
parts_fault draft (ImageUnreadable port) none first = absurd first
parts_fault draft (ImageTooLong port) none first = absurd first
parts_fault draft (Map fault) none first = (none, first)
parts_fault draft (Sources fault) none first = (none, first)
parts_fault draft (PortSources port fault) none first = (none, first)
parts_fault draft Memory none first = absurd first

pub of_draft : (draft : DraftView) (fault : SystemFault) (number : ℕ) → number ≡ file_number fault → LacksNone draft
    → (fault ≢ Memory → IsFirstFaultOf draft.parts fault) → 4 < number → IsFaultOfDraft draft number
of_draft draft fault number is none first more = record {
  fault = fault;
  number_is = is;
  first = parts_fault draft fault none (first (is_other fault number is more));
}
