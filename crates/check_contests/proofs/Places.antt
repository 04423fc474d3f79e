-- Those kept by their places, and what is due as they are looked at one after the other.
use Rattle.std.proofs.Common.{◌≡◌, ◌∙◌, ℕ, zero, suc, ◌+◌, ◌<◌, ◌≤◌, Bool, true, false, ◌||◌, if◌then◌else◌, ◌==◌, List, [], ◌∷◌, length, take, get_or, slice_get, Option, Some, None, refl, sym, ap, arith}
use Rattle.std.specs.List.{remove}
use Rattle.std.proofs.lemmas.Bool.{eq-eqb, ne_eqb, eqb-false}
use Rattle.std.proofs.lemmas.List.{take_all}
use Rattle.std.proofs.lemmas.List.Folds.{list_any_more}
use Rattle.tl_types.specs.Request.{Request}
use Rattle.check_memory.specs.Partial.{Partial, permits, start_of}
use Rattle.check_memory.specs.Pattern.{Pattern}
use Rattle.check_memory.proofs.Unknown.{unknown-same, unknown-twice}
use Rattle.check_contests.specs.Writes.{may_write, unknown_where}
use Rattle.check_contests.specs.Contests.{Accepted, one_may_write, due_beside, kept_of, kept_answering}
use Rattle.check_contests.proofs.Expected.{beside_legal, beside_denied}
use Rattle.check_contests.proofs.Uncontested.{due_stays}

-- ---- the one of a wide source

none_tail : (first : Accepted) (rest : Option Accepted) (wide : ℕ)
    → (if first.wide == wide then Some first else rest) ≡ None → (first.wide ≡ wide → ⊥) × (rest ≡ None)
none_tail first rest wide is = by_cases (first.wide == wide) refl is
  where
    by_cases : (b : Bool) → (first.wide == wide) ≡ b → (if b then Some first else rest) ≡ None
        → (first.wide ≡ wide → ⊥) × (rest ≡ None)
    by_cases true here is' = cc
    by_cases false here is' = (λ same. eqb-false first.wide wide here same, is')

pub found : (kept : List Accepted) (wide place : ℕ) (entry : Accepted) → place < length kept
    → entry ≡ get_or kept place entry → entry.wide ≡ wide → kept_of (take place kept) wide ≡ None
    → (kept_of kept wide ≡ slice_get kept place) × (kept_answering kept wide ≡ remove kept place)
found [] wide place entry below is same none = absurd (omega (arith, below))
found (first ∷ kept) wide zero entry below is same none =
    let here : (first.wide == wide) ≡ true =
    eq-eqb first.wide wide (ap (λ (e : Accepted). e.wide) (sym is) ∙ same) in
    (rw here refl, rw here refl)
found (first ∷ kept) wide (suc place) entry below is same none =
    let apart = none_tail first (kept_of (take place kept) wide) wide none in
    let here : (first.wide == wide) ≡ false = ne_eqb first.wide wide apart.0 in
    let rest = found kept wide place entry (omega (arith, below)) is same apart.1 in (
      rw here rest.0,
      rw here (ap (λ (es : List Accepted). first ∷ es) rest.1),
    )

not_yet_suc : (kept : List Accepted) (wide place : ℕ) (entry : Accepted) → place < length kept
    → entry ≡ get_or kept place entry → (entry.wide ≡ wide → ⊥) → kept_of (take place kept) wide ≡ None
    → kept_of (take (suc place) kept) wide ≡ None
not_yet_suc [] wide place entry below is apart none = absurd (omega (arith, below))
not_yet_suc (first ∷ kept) wide zero entry below is apart none =
    rw (ne_eqb first.wide wide (λ same. apart (ap (λ (e : Accepted). e.wide) is ∙ same))) refl
not_yet_suc (first ∷ kept) wide (suc place) entry below is apart none =
    let parts = none_tail first (kept_of (take place kept) wide) wide none in
    rw (ne_eqb first.wide wide parts.0) (not_yet_suc kept wide place entry (omega (arith, below)) is apart parts.1)

pub not_yet : (kept : List Accepted) (wide place : ℕ) (entry : Accepted) → place < length kept
    → entry ≡ get_or kept place entry → (entry.wide ≡ wide → ⊥) → kept_of (take place kept) wide ≡ None
    → kept_of (take (place + 1) kept) wide ≡ None
not_yet kept wide place entry below is apart none =
    let next : place + 1 ≡ suc place = omega arith in
    ap (λ n. kept_of (take n kept) wide) next ∙ not_yet_suc kept wide place entry below is apart none

pub none_at_all : (kept : List Accepted) (wide place : ℕ) → length kept ≤ place → kept_of (take place kept) wide ≡ None
    → kept_of kept wide ≡ None
none_at_all kept wide place past none = ap (λ (es : List Accepted). kept_of es wide) (sym (take_all place kept past)) ∙ none

pub none_answered : (kept : List Accepted) (wide : ℕ) → kept_of kept wide ≡ None → kept_answering kept wide ≡ kept
none_answered [] wide none = refl
none_answered (first ∷ kept) wide none =
    let parts = none_tail first (kept_of kept wide) wide none in
    rw (ne_eqb first.wide wide parts.0) (ap (λ (es : List Accepted). first ∷ es) (none_answered kept wide parts.1))

-- ---- what is due, beside those kept

pub hide_none : (memory : Partial) (ask : Request) (due : Pattern)
    → due ≡ due_beside memory ask (one_may_write memory []) due
hide_none memory ask due = sym (due_stays memory ask (one_may_write memory []) due (λ k below. refl))

pub hide_more : (memory : Partial) (ask : Request) (kept : List Accepted) (place : ℕ) (entry : Accepted)
    (due : Pattern) → place < length kept → entry ≡ get_or kept place entry
    → due_beside memory ask (may_write memory entry.ask)
    (due_beside memory ask (one_may_write memory (take place kept)) due)
    ≡ due_beside memory ask (one_may_write memory (take (place + 1) kept)) due
hide_more memory ask kept place entry due below is = by_cases (permits memory ask) refl
  where
    before : ℕ → Bool
    before = one_may_write memory (take place kept)

    after : ℕ → Bool
    after = one_may_write memory (take (place + 1) kept)

    same : (a : ℕ) → (before a || may_write memory entry.ask a) ≡ after a
    same a =
        let may : Accepted → Bool = λ (e : Accepted). may_write memory e.ask a in
        ap (λ (e : Accepted). before a || may e) is ∙ sym (list_any_more may kept place entry below)

    by_cases : (p : Bool) → permits memory ask ≡ p
        → due_beside memory ask (may_write memory entry.ask) (due_beside memory ask before due)
        ≡ due_beside memory ask after due
    by_cases true legal =
        beside_legal memory ask (may_write memory entry.ask) (due_beside memory ask before due) legal
        ∙ ap (λ (p : Pattern). record p {
          bytes = unknown_where (λ k. may_write memory entry.ask (start_of memory ask + k)) p.bytes;
        }) (beside_legal memory ask before due legal)
        ∙ ap (λ (bytes : List (Option ℕ)). record due { bytes = bytes })
        (unknown-twice (λ k. before (start_of memory ask + k)) (λ k. may_write memory entry.ask (start_of memory ask + k)) due.bytes
        ∙ unknown-same (λ k. before (start_of memory ask + k) || may_write memory entry.ask (start_of memory ask + k))
        (λ k. after (start_of memory ask + k)) due.bytes (λ k. same (start_of memory ask + k)))
        ∙ sym (beside_legal memory ask after due legal)
    by_cases false denied =
        beside_denied memory ask (may_write memory entry.ask) (due_beside memory ask before due) denied
        ∙ beside_denied memory ask before due denied ∙ sym (beside_denied memory ask after due denied)
