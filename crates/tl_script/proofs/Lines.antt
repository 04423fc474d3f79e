-- The lines of a list that is read place by place.
use Rattle.std.proofs.Common.{◌≡◌, ◌∙◌, ℕ, zero, suc, ◌+◌, ◌<◌, ◌≤◌, arith, List, [], ◌∷◌, ◌++◌, append-nil, append_assoc, drop, flat_map, get_or, length, map, take, Some, slice_get, refl, ap, sym}
use Rattle.std.proofs.Math.Seq.{drop-cons}
use Rattle.std.proofs.lemmas.Grind.{flat_map-append}
use Rattle.std.proofs.lemmas.List.{drop_all, take_all}
use Rattle.tl_journal.specs.declared.trace.Trace.{Trace}
use Rattle.tl_types.specs.Request.{Request}
use Rattle.tl_types.specs.Response.{Response}
use Rattle.tl_types.specs.declared.trace.Entry.{Entry}
use Rattle.tl_script.specs.History.{history_from}
use Rattle.tl_script.specs.Trace.{lines_of, trace_line, traces_from}

dropped : {A : Type 0} (xs : List A) (k : ℕ) (x : A) → slice_get xs k ≡ Some x → drop k xs ≡ x ∷ drop (suc k) xs
dropped [] k x at = absurd (cc)
dropped (y ∷ ys) zero x at = let same : y ≡ x = cc in rw same refl
dropped (y ∷ ys) (suc k) x at = dropped ys k x at

pub drop_at : {A : Type 0} (xs : List A) (k : ℕ) (x : A) → slice_get xs k ≡ Some x → drop k xs ≡ x ∷ drop (k + 1) xs
drop_at xs k x at = let next : suc k ≡ k + 1 = omega arith in dropped xs k x at ∙ ap (λ n. x ∷ drop n xs) next

taken : {A : Type 0} (xs : List A) (k : ℕ) (x : A) → slice_get xs k ≡ Some x → take (suc k) xs ≡ take k xs ++ x ∷ []
taken [] k x at = absurd (cc)
taken (y ∷ ys) zero x at = let same : y ≡ x = cc in rw same refl
taken {A} (y ∷ ys) (suc k) x at = ap (λ (rest : List A). y ∷ rest) (taken ys k x at)

take_at : {A : Type 0} (xs : List A) (k : ℕ) (x : A) → slice_get xs k ≡ Some x → take (k + 1) xs ≡ take k xs ++ x ∷ []
take_at xs k x at = let next : k + 1 ≡ suc k = omega arith in ap (λ n. take n xs) next ∙ taken xs k x at

-- the text of one element more
pub text_more : {A : Type 0} (text_of : A → List ℕ) (xs : List A) (k : ℕ) (x : A) → slice_get xs k ≡ Some x
    → flat_map text_of (take (k + 1) xs) ≡ flat_map text_of (take k xs) ++ text_of x
text_more text_of xs k x at =
    ap (flat_map text_of) (take_at xs k x at)
    ∙ flat_map-append text_of (take k xs) (x ∷ [])
    ∙ ap (λ more. flat_map text_of (take k xs) ++ more) (append-nil (text_of x))

-- the line of one entry more
pub lines_more : (master : ℕ) (entries : List Entry) (k : ℕ) (entry : Entry) → slice_get entries k ≡ Some entry
    → lines_of master (take (k + 1) entries) ≡ lines_of master (take k entries) ++ trace_line master entry
lines_more master entries k entry at = text_more (trace_line master) entries k entry at

-- the lines of all entries
pub lines_done : (master : ℕ) (entries : List Entry) (k : ℕ) (old new : List ℕ) → length entries ≤ k
    → new ≡ old ++ lines_of master (take k entries) → new ≡ old ++ lines_of master entries
lines_done master entries k old new all is = is ∙ ap (λ these. old ++ lines_of master these) (take_all k entries all)

drop_here : {A : Type 0} (xs : List A) (k : ℕ) (x : A) → k < length xs → x ≡ get_or xs k x
    → drop k xs ≡ x ∷ drop (k + 1) xs
drop_here {A} xs k x within is =
    let next : suc k ≡ k + 1 = omega arith in
    drop-cons xs k x within ∙ ap (λ (y : A). y ∷ drop (suc k) xs) (sym is) ∙ ap (λ n. x ∷ drop n xs) next

-- the lines of the first trace that is left, and those of the others
pub traces_more : (master : ℕ) (traces : List Trace) (trace : Trace) (before total new : List ℕ)
    → master < length traces → trace ≡ get_or traces master trace
    → before ++ traces_from master (map (λ t. t.items) (drop master traces)) ≡ total
    → new ≡ before ++ lines_of master trace.items
    → new ++ traces_from (master + 1) (map (λ t. t.items) (drop (master + 1) traces)) ≡ total
traces_more master traces trace before total new within at front is =
    let rest = traces_from (master + 1) (map (λ (t : Trace). t.items) (drop (master + 1) traces)) in
    ap (λ text. text ++ rest) is
    ∙ append_assoc before (lines_of master trace.items) rest
    ∙ ap (λ (left : List Trace). before ++ traces_from master (map (λ (t : Trace). t.items) left))
    (sym (drop_here traces master trace within at))
    ∙ front

pub traces_done : (master : ℕ) (traces : List Trace) (new total : List ℕ) → length traces ≤ master
    → new ++ traces_from master (map (λ t. t.items) (drop master traces)) ≡ total → new ≡ total
traces_done master traces new total all is =
    sym (append-nil new)
    ∙ ap (λ (left : List Trace). new ++ traces_from master (map (λ (t : Trace). t.items) left))
    (sym (drop_all master traces all))
    ∙ is

pub history_done : (port index : ℕ) (history : List (Request × Response)) (new total : List ℕ)
    → length history ≤ index → new ++ history_from port index (drop index history) ≡ total → new ≡ total
history_done port index history new total all is =
    sym (append-nil new)
    ∙ ap (λ (left : List (Request × Response)). new ++ history_from port index left) (sym (drop_all index history all))
    ∙ is
