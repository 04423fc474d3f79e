-- A memory in one range, whose sizes are its kind's row, is the store of tl_ops.
use Rattle.std.proofs.Common.{◌≡◌, ◌∙◌, ℕ, ◌+◌, ◌-◌, ◌%◌, ◌^◌, ◌≤◌, Bool, true, false, ◌&&◌, ◌||◌, ◌==◌, List, ◌++◌, length, take, drop, Option, refl, sym, ap, arith}
use Rattle.std.proofs.lemmas.List.{append_assoc, length-append, length-take-le, length-drop, take-append-drop, drop-drop}
use Rattle.tl_types.specs.Operation.{carries_bytes, byte_count, reply_op_of}
use Rattle.tl_types.specs.Request.{Request}
use Rattle.tl_types.specs.Response.{Response}
use Rattle.tl_types.specs.declared.operation.AskOp.{AskOp}
use Rattle.tl_types.specs.declared.operation.AskOp.TheVariants.{PutFull, PutPartial, Arithmetic, Logical, Get, Intent}
use Rattle.tl_ops.specs.declared.kind.Kind.{Kind}
use Rattle.tl_ops.specs.Support.{supports}
use Rattle.tl_ops.specs.Store.{Store, legal, contains_window, window, with_window, after, reply, shown}
use Rattle.tl_ops.specs.Window.{new_window}
use Rattle.tl_ops.proofs.Kept.{StandsIn-from_legal, length-new_window}
use Rattle.tl_ops.proofs.LaneLists.{middle, middle_replaced}
use Rattle.check_memory.specs.Partial.{Partial, start_of, permits}
use Rattle.check_memory.specs.Whole.{true_window, true_after, true_reply}
use Rattle.check_memory.specs.Laws.{IsLawfulAsk, IsStore, one_range}

or-false : (b : Bool) → (b || false) ≡ b
or-false true = refl
or-false false = refl

legal_same : (store : Store) (cells : List (Option ℕ)) (ask : Request)
    → permits (one_range store cells) ask ≡ legal store ask
legal_same store cells ask =
    ap (λ b. supports store.kind ask.op ask.size && (ask.address % 2 ^ ask.size == 0) && b)
    (or-false (contains_window store ask))

-- ---- a list in five parts

-- the bytes around a window of the middle
around : (before bytes beyond : List ℕ) (offset n : ℕ)
    → before ++ (bytes ++ beyond)
    ≡ (before ++ take offset bytes) ++ (take n (drop offset bytes) ++ (drop (offset + n) bytes ++ beyond))
around before bytes beyond offset n =
    let parts : bytes ≡ take offset bytes ++ (take n (drop offset bytes) ++ drop (offset + n) bytes) =
    sym (take-append-drop offset bytes)
    ∙ ap (λ rest. take offset bytes ++ rest) (sym (take-append-drop n (drop offset bytes))
    ∙ ap (λ rest. take n (drop offset bytes) ++ rest) (drop-drop n offset bytes)) in
    ap (λ bs. before ++ (bs ++ beyond)) parts ∙ simp append_assoc

front_long : (before bytes : List ℕ) (offset : ℕ) → offset ≤ length bytes
    → length (before ++ take offset bytes) ≡ length before + offset
front_long before bytes offset inside = length-append before (take offset bytes)
    ∙ ap (λ n. length before + n) (length-take-le offset bytes inside)

regrouped : (before front new rest beyond : List ℕ)
    → (before ++ front) ++ (new ++ (rest ++ beyond)) ≡ before ++ ((front ++ new ++ rest) ++ beyond)
regrouped before front new rest beyond = simp append_assoc

window_inside : (before bytes beyond : List ℕ) (offset n address : ℕ) → length before + offset ≡ address
    → offset + n ≤ length bytes → take n (drop address (before ++ (bytes ++ beyond))) ≡ take n (drop offset bytes)
window_inside before bytes beyond offset n address at inside =
    let old = take n (drop offset bytes) in
    let wide : length old ≡ n = length-take-le n (drop offset bytes) (omega (arith, length-drop offset bytes)) in
    ap (λ bs. take n (drop address bs)) (around before bytes beyond offset n)
    ∙ middle (before ++ take offset bytes) old (drop (offset + n) bytes ++ beyond) address n
    (front_long before bytes offset (omega arith) ∙ at) wide

replaced_inside : (before bytes beyond new : List ℕ) (offset address : ℕ) → length before + offset ≡ address
    → offset + length new ≤ length bytes
    → with_window (before ++ (bytes ++ beyond)) address new ≡ before ++ (with_window bytes offset new ++ beyond)
replaced_inside before bytes beyond new offset address at inside =
    let old = take (length new) (drop offset bytes) in
    let wide : length new ≡ length old =
    sym (length-take-le (length new) (drop offset bytes) (omega (arith, length-drop offset bytes))) in
    ap (λ bs. with_window bs address new) (around before bytes beyond offset (length new))
    ∙ middle_replaced (before ++ take offset bytes) old (drop (offset + length new) bytes ++ beyond) new address
    (front_long before bytes offset (omega arith) ∙ at) wide
    ∙ regrouped before (take offset bytes) new (drop (offset + length new) bytes) beyond

-- ---- the law

window_same : (store : Store) (before beyond : List ℕ) (ask : Request) → length before ≡ store.base
    → legal store ask ≡ true → true_window (before ++ (store.bytes ++ beyond)) ask ≡ window store ask
window_same store before beyond ask at is =
    let stands = StandsIn-from_legal store ask is in
    window_inside before store.bytes beyond (ask.address - store.base) (2 ^ ask.size) ask.address
    (omega (arith, at, stands.from)) stands.inside

counted_if : (op : AskOp) (size n : ℕ) → n ≡ byte_count op size → carries_bytes op ≡ true → n ≡ 2 ^ size
counted_if op size n is carries = rw carries at is

new_long : (kind : Kind) (op : AskOp) (old : List ℕ) (given : List (Option ℕ))
    → (carries_bytes op ≡ true → length given ≡ length old) → length (new_window kind op old given) ≡ length old
new_long kind PutFull old given long = length-new_window kind PutFull old given (long refl)
new_long kind PutPartial old given long = length-new_window kind PutPartial old given (long refl)
new_long kind (Arithmetic op) old given long = length-new_window kind (Arithmetic op) old given (long refl)
new_long kind (Logical op) old given long = length-new_window kind (Logical op) old given (long refl)
new_long kind Get old given long = refl
new_long kind (Intent _) old given long = refl

reply_same : (store : Store) (before beyond : List ℕ) (memory : Partial) (ask : Request) (p : Bool)
    → legal store ask ≡ p → permits memory ask ≡ legal store ask → start_of memory ask ≡ ask.address
    → length before ≡ store.base
    → true_reply memory (before ++ (store.bytes ++ beyond)) ask ≡ reply store ask
reply_same store before beyond memory ask true is same here at =
    let shows : List ℕ → Response =
    λ bytes. record {
      op = reply_op_of ask.op;
      size = ask.size;
      source = ask.source;
      denied = false;
      bytes =
          shown (reply_op_of ask.op) bytes;
    } in
    rw (same, is) (ap shows (ap (λ a. take (2 ^ ask.size) (drop a (before ++ (store.bytes ++ beyond)))) here
    ∙ window_same store before beyond ask at is))
reply_same store before beyond memory ask false is same here at = rw (same, is) refl

after_same : (store : Store) (before beyond : List ℕ) (memory : Partial) (ask : Request) (p : Bool)
    → legal store ask ≡ p → permits memory ask ≡ legal store ask → start_of memory ask ≡ ask.address
    → memory.kind ≡ store.kind → length before ≡ store.base → IsLawfulAsk ask
    → true_after memory (before ++ (store.bytes ++ beyond)) ask ≡ before ++ ((after store ask).bytes ++ beyond)
after_same store before beyond memory ask true is same here kind at lawful =
    let stands = StandsIn-from_legal store ask is in
    let offset = ask.address - store.base in
    let old = window store ask in
    let wide : length old ≡ 2 ^ ask.size =
    length-take-le (2 ^ ask.size) (drop offset store.bytes)
    (omega (arith, length-drop offset store.bytes, stands.inside)) in
    let new = new_window store.kind ask.op old ask.bytes in
    let long : length new ≡ length old =
    new_long store.kind ask.op old ask.bytes
    (λ carries. counted_if ask.op ask.size (length ask.bytes) lawful.counted carries ∙ sym wide) in
    let made = ap (λ k. new_window k ask.op (true_window (before ++ (store.bytes ++ beyond)) ask) ask.bytes) kind
    ∙ ap (λ bytes. new_window store.kind ask.op bytes ask.bytes) (window_same store before beyond ask at is) in
    let all = before ++ (store.bytes ++ beyond) in
    rw (same, is) (ap (λ a. with_window all a
    (new_window memory.kind ask.op (take (2 ^ ask.size) (drop a all)) ask.bytes)) here
    ∙ ap (with_window all ask.address) made
    ∙ replaced_inside before store.bytes beyond new offset ask.address (omega (arith, at, stands.from))
    (omega (arith, long, wide, stands.inside)))
after_same store before beyond memory ask false is same here kind at lawful = rw (same, is) refl

pub store_is_instance : (store : Store) (before beyond : List ℕ) (cells : List (Option ℕ)) (ask : Request)
    → length before ≡ store.base → IsLawfulAsk ask → IsStore store before beyond (one_range store cells) ask
store_is_instance store before beyond cells ask at lawful =
    let same = legal_same store cells ask in
    record {
      legal_is = same;
      reply_is = reply_same store before beyond (one_range store cells) ask (legal store ask) refl same refl at;
      after_is = after_same store before beyond (one_range store cells) ask (legal store ask) refl same refl refl at lawful;
    }
