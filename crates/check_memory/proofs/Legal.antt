-- What a legal request is like.
use Rattle.std.proofs.Common.{◌≡◌, ◌∙◌, ℕ, zero, suc, ◌+◌, ◌-◌, ◌*◌, ◌/◌, ◌%◌, ◌^◌, ◌<◌, ◌≤◌, Bool, true, false, ◌&&◌, List, [], ◌∷◌, ◌++◌, length, take, drop, Option, None, Some, refl, sym, ap, subst, rules, arith}
use Rattle.std.specs.Prelude.{OnErr, Result, Ok, Err}
use Rattle.std.proofs.lemmas.Nat.{pow_pos}
use Rattle.std.proofs.lemmas.List.{append_assoc, take-append-drop, drop-drop}
use Rattle.tl_types.specs.Operation.{carries_bytes, byte_count}
use Rattle.tl_types.specs.Request.{Request}
use Rattle.tl_types.specs.declared.operation.AskOp.{AskOp}
use Rattle.tl_types.specs.declared.operation.AskOp.TheVariants.{PutFull, PutPartial, Arithmetic, Logical, Get, Intent}
use Rattle.tl_ops.specs.Cell.{FitsWords}
use Rattle.tl_ops.proofs.Kept.{FitsWords-from_aligned}
use Rattle.tl_ops.specs.declared.sizes.SizeSpan.{SizeSpan}
use Rattle.tl_ops.specs.declared.sizes.SizeTable.{SizeTable}
use Rattle.tl_ops.specs.Support.{spans, allows}
use Rattle.check_memory.specs.Sizes.{IsMessageSpan, IsLawfulTable}
use Rattle.check_memory.specs.Known.{replaced}
use Rattle.check_memory.specs.Partial.{Partial, permits, takes_bytes, after_partial, after_forgetting}

-- what holds is said of an error too
pub on_err : {T E P : Type 0} (r : Result T E) → P → OnErr r P
on_err (Ok x) holds = tt
on_err (Err e) holds = holds

pub allowed : (memory : Partial) (ask : Request) → permits memory ask ≡ true
    → allows memory.sizes ask.op ask.size ≡ true
allowed memory ask is = search rules

pub aligned : (memory : Partial) (ask : Request) → permits memory ask ≡ true → ask.address % 2 ^ ask.size ≡ 0
aligned memory ask is = search rules

pub fits_words : (address size : ℕ) → size ≤ 8 → address % 2 ^ size ≡ 0 → FitsWords (address % 256) (2 ^ size)
fits_words address size small is =
    let base = 256 * (address / 256) in
    let at : base % 8 + (address - base) ≡ address % 256 = omega arith in
    let below : base ≤ address = omega arith in
    let P : ℕ → Type 0 = λ n. FitsWords n (2 ^ size) in
    subst P at (FitsWords-from_aligned base address size small below is)

pub in_page : (address size : ℕ) → size ≤ 8 → address % 2 ^ size ≡ 0 → address % 256 + 2 ^ size ≤ 256
in_page address zero small is = omega arith
in_page address (suc zero) small is = omega (arith, is)
in_page address (suc (suc zero)) small is = omega (arith, is)
in_page address (suc (suc (suc zero))) small is = omega (arith, is)
in_page address (suc (suc (suc (suc zero)))) small is = omega (arith, is)
in_page address (suc (suc (suc (suc (suc zero))))) small is = omega (arith, is)
in_page address (suc (suc (suc (suc (suc (suc zero)))))) small is = omega (arith, is)
in_page address (suc (suc (suc (suc (suc (suc (suc zero))))))) small is = omega (arith, is)
in_page address (suc (suc (suc (suc (suc (suc (suc (suc zero)))))))) small is = omega (arith, is)
in_page address (suc (suc (suc (suc (suc (suc (suc (suc (suc size))))))))) small is = absurd (omega (arith, small))

-- ---- sizes of a table within the rules

in_span : (span : Option SizeSpan) (size : ℕ) → IsMessageSpan span → spans span size ≡ true → size ≤ 8
in_span None size lawful is = cc
in_span (Some span) size lawful is =
    let below : size ≤ span.greatest = search rules in
    let to : span.greatest ≤ 8 = lawful.to in
    omega (arith, below, to)

-- none is over that of the largest message
pub small_size : (table : SizeTable) (op : AskOp) (size : ℕ) → IsLawfulTable table → allows table op size ≡ true
    → size ≤ 8
small_size table PutFull size lawful is = in_span table.put_full size lawful.put_full is
small_size table PutPartial size lawful is = in_span table.put_partial size lawful.put_partial is
small_size table (Arithmetic op) size lawful is = in_span table.arithmetic size lawful.arithmetic is
small_size table (Logical op) size lawful is = in_span table.logical size lawful.logical is
small_size table Get size lawful is = in_span table.get size lawful.get is
small_size table (Intent _) size lawful is = in_span table.intent size lawful.intent is

-- ---- a request whose bytes are taken

pub takes_legal : (memory : Partial) (ask : Request) → takes_bytes memory ask ≡ true → permits memory ask ≡ true
takes_legal memory ask is = both (permits memory ask) (carries_bytes ask.op) is
  where
    both : (a b : Bool) → (a && b) ≡ true → a ≡ true
    both true b is = refl
    both false b is = is

pub takes_count : (memory : Partial) (ask : Request) → takes_bytes memory ask ≡ true
    → byte_count ask.op ask.size ≡ 2 ^ ask.size
takes_count memory ask is = rw (both (permits memory ask) (carries_bytes ask.op) is) refl
  where
    both : (a b : Bool) → (a && b) ≡ true → b ≡ true
    both true b is = is
    both false b is = cc

pub takes_carries : (memory : Partial) (ask : Request) → takes_bytes memory ask ≡ true → carries_bytes ask.op ≡ true
takes_carries memory ask is = both (permits memory ask) (carries_bytes ask.op) is
  where
    both : (a b : Bool) → (a && b) ≡ true → b ≡ true
    both true b is = is
    both false b is = cc

-- a legal request whose bytes are not taken carries none
pub not_taken : (memory : Partial) (ask : Request) → permits memory ask ≡ true → takes_bytes memory ask ≡ false
    → carries_bytes ask.op ≡ false
not_taken memory ask is none = rw is at none

-- ---- a request with no bytes changes nothing

window_back : {A : Type 0} (n : ℕ) (rest : List A) → take n rest ++ drop (length (take n rest)) rest ≡ rest
window_back zero rest = refl
window_back (suc n) [] = refl
window_back (suc n) (item ∷ rest) = ap (λ items. item ∷ items) (window_back n rest)

pub replaced-same : {A : Type 0} (items : List A) (start n : ℕ)
    → replaced items start (take n (drop start items)) ≡ items
replaced-same items start n =
    let window = take n (drop start items) in
    append_assoc (take start items) window (drop (start + length window) items)
    ∙ ap (λ back. take start items ++ (window ++ back)) (sym (drop-drop (length window) start items))
    ∙ ap (λ rest. take start items ++ rest) (window_back n (drop start items))
    ∙ take-append-drop start items

pub unchanged : (memory : Partial) (ask : Request) → permits memory ask ≡ true → byte_count ask.op ask.size ≡ 0
    → after_partial memory ask ≡ memory
unchanged memory ask is none = by_cases (takes_bytes memory ask) refl
  where
    by_cases : (takes : Bool) → takes_bytes memory ask ≡ takes → after_partial memory ask ≡ memory
    by_cases true taken =
        let some : 0 < 2 ^ ask.size = pow_pos ask.size in
        absurd (omega (arith, some, sym (takes_count memory ask taken) ∙ none))
    by_cases false untaken = rw (untaken, after_partial) refl

-- ---- a request that forgets, and one that does not

no_count : (op : AskOp) (size : ℕ) → carries_bytes op ≡ false → byte_count op size ≡ 0
no_count op size is = rw is refl

-- a legal request whose bytes are counted carries some
pub takes_some : (memory : Partial) (ask : Request) → permits memory ask ≡ true → (byte_count ask.op ask.size ≡ 0 → ⊥)
    → takes_bytes memory ask ≡ true
takes_some memory ask is some = rw is (carried (carries_bytes ask.op) refl)
  where
    carried : (carries : Bool) → carries_bytes ask.op ≡ carries → carries_bytes ask.op ≡ true
    carried true is = is
    carried false is = absurd (some (no_count ask.op ask.size is))

pub forgets_nothing : (memory : Partial) (ask : Request) (first : ℕ) (flags : List Bool)
    → takes_bytes memory ask ≡ false → memory ≡ after_forgetting memory ask first flags
forgets_nothing memory ask first flags none = rw (none, after_forgetting, after_partial) refl
