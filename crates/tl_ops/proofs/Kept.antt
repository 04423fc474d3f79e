-- A bank's bytes among the lanes of its words: where a window stands there, and what a request leaves.
use Rattle.std.proofs.Common.{◌≡◌, ℕ, zero, suc, ◌+◌, ◌-◌, ◌%◌, ◌^◌, ◌≤◌, Bool, true, false, if◌then◌else◌, List, ◌++◌, length, take, drop, replicate, Option, ◌⊎◌, inl, inr, refl, sym, ap, ◌∙◌, lit≤, rules, arith}
use Rattle.std.proofs.Math.Nat.{pow-le-pow_right}
use Rattle.std.proofs.lemmas.List.{append_assoc, length-append, length-replicate, length-take-le, length-drop, length-map, take-append-drop, drop-drop}
use Rattle.tl_types.proofs.Zipped.{zipped_length}
use Rattle.tl_types.specs.declared.operation.AskOp.{AskOp}
use Rattle.tl_types.specs.declared.operation.AskOp.TheVariants.{PutFull, PutPartial, Arithmetic, Logical, Get, Intent}
use Rattle.tl_types.specs.declared.operation.Arith.{Arith}
use Rattle.tl_types.specs.declared.operation.Arith.TheVariants.{Min, Max, MinU, MaxU, Add}
use Rattle.tl_types.specs.declared.operation.Logic.{Logic}
use Rattle.tl_types.specs.Operation.{byte_count, reply_op_of}
use Rattle.tl_types.specs.Request.{Request}
use Rattle.tl_types.specs.Response.{Response}
use Rattle.tl_ops.specs.declared.kind.Kind.{Kind}
use Rattle.tl_ops.specs.declared.kind.Kind.TheVariants.{Ram, Rom, Regs, ClearRegs, NoDevice}
use Rattle.tl_ops.specs.Support.{supports}
use Rattle.tl_ops.specs.Bank.{IsKept, bytes_in, lanes_with}
use Rattle.tl_ops.specs.Cell.{FitsWords, spare_after}
use Rattle.tl_ops.specs.Store.{Store, legal, window, with_window, after, shown, reply}
use Rattle.tl_ops.specs.Window.{new_window, put_window, operand_of, combine_arith}
use Rattle.tl_ops.proofs.Bytes.{length-low_bytes}
use Rattle.tl_ops.proofs.LaneLists.{middle, middle_replaced, length-with_window}
use Rattle.tl_ops.proofs.Merges.{length-merged}
use Rattle.tl_ops.proofs.Windows.{with_window-same}

-- ---- what is legal stands in words

-- a legal request is aligned, and its window is inside
pub record StandsIn (store : Store) (ask : Request) : Type 0 where
  pub aligned : ask.address % 2 ^ ask.size ≡ 0
  pub from : store.base ≤ ask.address
  pub inside : (ask.address - store.base) + 2 ^ ask.size ≤ length store.bytes

pub StandsIn-from_legal : (store : Store) (ask : Request) → legal store ask ≡ true → StandsIn store ask
StandsIn-from_legal store ask is = record { aligned = search rules; from = search rules; inside = search rules }

-- what a kind supports is of a lawful size
ram_small : (op : AskOp) (size : ℕ) → supports Ram op size ≡ true → size ≤ 8
ram_small PutFull size is = search rules
ram_small PutPartial size is = search rules
ram_small (Arithmetic _) size is = search rules
ram_small (Logical _) size is = search rules
ram_small Get size is = search rules
ram_small (Intent _) size is = search rules

rom_small : (op : AskOp) (size : ℕ) → supports Rom op size ≡ true → size ≤ 8
rom_small PutFull size is = cc
rom_small PutPartial size is = cc
rom_small (Arithmetic _) size is = cc
rom_small (Logical _) size is = cc
rom_small Get size is = search rules
rom_small (Intent _) size is = search rules

regs_small : (op : AskOp) (size : ℕ) → supports Regs op size ≡ true → size ≤ 8
regs_small PutFull size is = search rules
regs_small PutPartial size is = cc
regs_small (Arithmetic _) size is = cc
regs_small (Logical _) size is = cc
regs_small Get size is = search rules
regs_small (Intent _) size is = cc

none_small : (op : AskOp) (size : ℕ) → supports NoDevice op size ≡ true → size ≤ 8
none_small PutFull size is = cc
none_small PutPartial size is = cc
none_small (Arithmetic _) size is = cc
none_small (Logical _) size is = cc
none_small Get size is = cc
none_small (Intent _) size is = cc

small_from_supports : (kind : Kind) (op : AskOp) (size : ℕ) → supports kind op size ≡ true → size ≤ 8
small_from_supports Ram op size is = ram_small op size is
small_from_supports Rom op size is = rom_small op size is
small_from_supports Regs op size is = regs_small op size is
small_from_supports ClearRegs op size is = regs_small op size is
small_from_supports NoDevice op size is = none_small op size is

pub small_from_legal : (store : Store) (ask : Request) → legal store ask ≡ true → ask.size ≤ 8
small_from_legal store ask is =
    let supported : supports store.kind ask.op ask.size ≡ true = search rules in
    small_from_supports store.kind ask.op ask.size supported

-- where writing a one clears, a legal window is of one word
regs_words : (op : AskOp) (size : ℕ) → supports Regs op size ≡ true → size ≤ 3
regs_words PutFull size is = search rules
regs_words PutPartial size is = cc
regs_words (Arithmetic _) size is = cc
regs_words (Logical _) size is = cc
regs_words Get size is = search rules
regs_words (Intent _) size is = cc

pub clears_one_word : (store : Store) (ask : Request) → legal store ask ≡ true → store.kind ≡ ClearRegs
    → 2 ^ ask.size ≤ 8
clears_one_word store ask is clears =
    let supported : supports store.kind ask.op ask.size ≡ true = search rules in
    let small : ask.size ≤ 3 = regs_words ask.op ask.size (rw clears at supported) in
    pow-le-pow_right (lit≤ tt) small

-- ---- what a request carries and what its reply shows

pub count_of_put : (op : AskOp) (size : ℕ) → (op ≡ PutFull) ⊎ (op ≡ PutPartial) → byte_count op size ≡ 2 ^ size
count_of_put op size (inl full) = rw full refl
count_of_put op size (inr part) = rw part refl

-- an atomic
abbrev pub IsAtomic : AskOp → Type 0
IsAtomic op = ((arith : Arith) × (op ≡ Arithmetic arith)) ⊎ ((logic : Logic) × (op ≡ Logical logic))

-- an atomic combines the same at each kind of slave
pub new_window-atomic : (kind : Kind) (op : AskOp) (old : List ℕ) (given : List (Option ℕ)) → IsAtomic op
    → new_window Ram op old given ≡ new_window kind op old given
new_window-atomic kind op old given (inl is) = rw is.1 refl
new_window-atomic kind op old given (inr is) = rw is.1 refl

pub count_of_atomic : (op : AskOp) (size : ℕ) → IsAtomic op → byte_count op size ≡ 2 ^ size
count_of_atomic op size (inl is) = rw is.1 refl
count_of_atomic op size (inr is) = rw is.1 refl

pub shown_of_atomic : (op : AskOp) (bytes : List ℕ) → IsAtomic op → shown (reply_op_of op) bytes ≡ bytes
shown_of_atomic op bytes (inl is) = rw is.1 refl
shown_of_atomic op bytes (inr is) = rw is.1 refl

-- the words begin at a multiple of a word, so a window is aligned among the lanes as it is among the addresses
pub FitsWords-from_aligned : (base address size : ℕ) → size ≤ 8 → base ≤ address → address % 2 ^ size ≡ 0
    → FitsWords (base % 8 + (address - base)) (2 ^ size)
FitsWords-from_aligned base address zero small from aligned =
    record {
      some = omega arith;
      cell = λ h. omega (arith, aligned, from);
      whole_start = λ h. absurd (omega (arith, h));
      whole_width = λ h. absurd (omega (arith, h));
    }
FitsWords-from_aligned base address (suc zero) small from aligned =
    record {
      some = omega arith;
      cell = λ h. omega (arith, aligned, from);
      whole_start = λ h. absurd (omega (arith, h));
      whole_width = λ h. absurd (omega (arith, h));
    }
FitsWords-from_aligned base address (suc (suc zero)) small from aligned =
    record {
      some = omega arith;
      cell = λ h. omega (arith, aligned, from);
      whole_start = λ h. absurd (omega (arith, h));
      whole_width = λ h. absurd (omega (arith, h));
    }
FitsWords-from_aligned base address (suc (suc (suc zero))) small from aligned =
    record {
      some = omega arith;
      cell = λ h. absurd (omega (arith, h));
      whole_start = λ h. omega (arith, aligned, from);
      whole_width = λ h. omega arith;
    }
FitsWords-from_aligned base address (suc (suc (suc (suc zero)))) small from aligned =
    record {
      some = omega arith;
      cell = λ h. absurd (omega (arith, h));
      whole_start = λ h. omega (arith, aligned, from);
      whole_width = λ h. omega arith;
    }
FitsWords-from_aligned base address (suc (suc (suc (suc (suc zero))))) small from aligned =
    record {
      some = omega arith;
      cell = λ h. absurd (omega (arith, h));
      whole_start = λ h. omega (arith, aligned, from);
      whole_width = λ h. omega arith;
    }
FitsWords-from_aligned base address (suc (suc (suc (suc (suc (suc zero)))))) small from aligned =
    record {
      some = omega arith;
      cell = λ h. absurd (omega (arith, h));
      whole_start = λ h. omega (arith, aligned, from);
      whole_width = λ h. omega arith;
    }
FitsWords-from_aligned base address (suc (suc (suc (suc (suc (suc (suc zero))))))) small from aligned =
    record {
      some = omega arith;
      cell = λ h. absurd (omega (arith, h));
      whole_start = λ h. omega (arith, aligned, from);
      whole_width = λ h. omega arith;
    }
FitsWords-from_aligned base address (suc (suc (suc (suc (suc (suc (suc (suc zero)))))))) small from aligned =
    record {
      some = omega arith;
      cell = λ h. absurd (omega (arith, h));
      whole_start = λ h. omega (arith, aligned, from);
      whole_width = λ h. omega arith;
    }
FitsWords-from_aligned base address (suc (suc (suc (suc (suc (suc (suc (suc (suc size))))))))) small from aligned =
    absurd (omega (arith, small))

-- ---- a bank's bytes among its lanes

pub bytes_in-lanes_with : (base : ℕ) (bytes : List ℕ) → bytes_in base (length bytes) (lanes_with base bytes) ≡ bytes
bytes_in-lanes_with base bytes =
    let lead = base % 8 in
    middle (replicate lead 0) bytes (replicate (spare_after (lead + length bytes)) 0) lead (length bytes)
    (length-replicate {A = ℕ} lead 0) refl

-- the lanes around a window
lanes_around_window : (base offset n : ℕ) (bytes : List ℕ)
    → lanes_with base bytes ≡ (replicate (base % 8) 0 ++ take offset bytes)
    ++ (take n (drop offset bytes) ++ (drop (offset + n) bytes
    ++ replicate (spare_after (base % 8 + length bytes)) 0))
lanes_around_window base offset n bytes =
    let spare = replicate {A = ℕ} (spare_after (base % 8 + length bytes)) 0 in
    let parts : bytes ≡ take offset bytes ++ (take n (drop offset bytes) ++ drop (offset + n) bytes) =
    sym (take-append-drop offset bytes) ∙ ap (λ rest. take offset bytes ++ rest)
    (sym (take-append-drop n (drop offset bytes))
    ∙ ap (λ rest. take n (drop offset bytes) ++ rest) (drop-drop n offset bytes)) in
    ap (λ bs. replicate (base % 8) 0 ++ (bs ++ spare)) parts ∙ simp append_assoc

front_long : (base offset : ℕ) (bytes : List ℕ) → offset ≤ length bytes
    → length (replicate {A = ℕ} (base % 8) 0 ++ take offset bytes) ≡ base % 8 + offset
front_long base offset bytes inside =
    length-append (replicate (base % 8) 0) (take offset bytes)
    ∙ omega (arith, length-replicate {A = ℕ} (base % 8) 0, length-take-le offset bytes inside)

-- a window among the lanes is the window of the bytes
pub window_in_lanes : (base offset n : ℕ) (bytes : List ℕ) → offset + n ≤ length bytes
    → take n (drop (base % 8 + offset) (lanes_with base bytes)) ≡ take n (drop offset bytes)
window_in_lanes base offset n bytes inside =
    let wide : length (take n (drop offset bytes)) ≡ n =
    length-take-le n (drop offset bytes) (omega (arith, length-drop offset bytes)) in
    ap (λ lanes. take n (drop (base % 8 + offset) lanes)) (lanes_around_window base offset n bytes)
    ∙ middle (replicate (base % 8) 0 ++ take offset bytes) (take n (drop offset bytes)) _ (base % 8 + offset) n
    (front_long base offset bytes (omega arith)) wide

regrouped : (zeros front new rest spare : List ℕ)
    → (zeros ++ front) ++ (new ++ (rest ++ spare)) ≡ zeros ++ ((front ++ new ++ rest) ++ spare)
regrouped zeros front new rest spare = simp append_assoc

-- a window replaced among the lanes is replaced in the bytes, and nowhere else
pub window_put_in_lanes : (base offset : ℕ) (bytes new : List ℕ) → offset + length new ≤ length bytes
    → with_window (lanes_with base bytes) (base % 8 + offset) new ≡ lanes_with base (with_window bytes offset new)
window_put_in_lanes base offset bytes new inside =
    let old = take (length new) (drop offset bytes) in
    let wide : length new ≡ length old =
    sym (length-take-le (length new) (drop offset bytes) (omega (arith, length-drop offset bytes))) in
    let spare = replicate {A = ℕ} (spare_after (base % 8 + length bytes)) 0 in
    let same : length bytes ≡ length (with_window bytes offset new) =
    sym (length-with_window bytes offset new inside) in
    ap (λ lanes. with_window lanes (base % 8 + offset) new) (lanes_around_window base offset (length new) bytes)
    ∙ middle_replaced (replicate (base % 8) 0 ++ take offset bytes) old _ new (base % 8 + offset)
    (front_long base offset bytes (omega arith)) wide
    ∙ regrouped (replicate (base % 8) 0) (take offset bytes) new (drop (offset + length new) bytes) spare
    ∙ ap (λ n. replicate {A = ℕ} (base % 8) 0
    ++ (with_window bytes offset new ++ replicate (spare_after (base % 8 + n)) 0)) same

-- ---- how long a window is after a request

length-chosen : (first : Bool) (x old : List ℕ) → length x ≡ length old → length (if first then x else old) ≡ length old
length-chosen true x old same = same
length-chosen false x old same = refl

length-combine_arith : (op : Arith) (old x : List ℕ) → length x ≡ length old
    → length (combine_arith op old x) ≡ length old
length-combine_arith Min old x same = length-chosen _ x old same
length-combine_arith Max old x same = length-chosen _ x old same
length-combine_arith MinU old x same = length-chosen _ x old same
length-combine_arith MaxU old x same = length-chosen _ x old same
length-combine_arith Add old x same = length-low_bytes (length old) _

length-put_window : (kind : Kind) (old : List ℕ) (given : List (Option ℕ)) → length given ≡ length old
    → length (put_window kind old given) ≡ length old
length-put_window Ram old given same = length-merged old given same
length-put_window Rom old given same = length-merged old given same
length-put_window Regs old given same = length-merged old given same
length-put_window ClearRegs old given same = zipped_length _ old (operand_of given) (length-map given _ ∙ same)
length-put_window NoDevice old given same = length-merged old given same

pub length-new_window : (kind : Kind) (op : AskOp) (old : List ℕ) (given : List (Option ℕ)) → length given ≡ length old
    → length (new_window kind op old given) ≡ length old
length-new_window kind PutFull old given same = length-put_window kind old given same
length-new_window kind PutPartial old given same = length-put_window kind old given same
length-new_window kind (Arithmetic op) old given same =
    length-combine_arith op old (operand_of given) (length-map given _ ∙ same)
length-new_window kind (Logical op) old given same = zipped_length _ old (operand_of given) (length-map given _ ∙ same)
length-new_window kind Get old given same = refl
length-new_window kind (Intent _) old given same = refl

-- ---- what a request leaves

-- the new lanes keep the bank's bytes after the request, and zeros beside them
pub record Serves (kind : Kind) (base count : ℕ) (lanes new_lanes : List ℕ) (ask : Request) : Type 0 where
  pub kept : IsKept base count new_lanes
  pub left : ◌≡◌ {A = Store} (record { kind = kind; base = base; bytes = bytes_in base count new_lanes })
      (after (record { kind = kind; base = base; bytes = bytes_in base count lanes }) ask)

-- lanes after a request keep the bank's bytes after it
pub served : (kind : Kind) (base count : ℕ) (lanes new_lanes : List ℕ) (ask : Request)
    → IsKept base count lanes
    → legal (record { kind = kind; base = base; bytes = bytes_in base count lanes }) ask ≡ true
    → length ask.bytes ≡ 2 ^ ask.size
    → new_lanes ≡ with_window lanes (base % 8 + (ask.address - base))
    (new_window kind ask.op (take (length ask.bytes) (drop (base % 8 + (ask.address - base)) lanes)) ask.bytes)
    → Serves kind base count lanes new_lanes ask
served kind base count lanes new_lanes ask kept is counted made =
    let bytes = bytes_in base count lanes in
    let store : Store = record { kind = kind; base = base; bytes = bytes } in
    let offset = ask.address - base in
    let width = 2 ^ ask.size in
    let stands = StandsIn-from_legal store ask is in
    let old = take width (drop offset bytes) in
    let old_long : length old ≡ width =
    length-take-le width (drop offset bytes) (omega (arith, length-drop offset bytes, stands.inside)) in
    let old_is : take (length ask.bytes) (drop (base % 8 + offset) lanes) ≡ old =
    ap (λ n. take n (drop (base % 8 + offset) lanes)) counted
    ∙ ap (λ ls. take width (drop (base % 8 + offset) ls)) kept.spare
    ∙ window_in_lanes base offset width bytes stands.inside in
    let new = new_window kind ask.op old ask.bytes in
    let new_long : length new ≡ width =
    length-new_window kind ask.op old ask.bytes (counted ∙ sym old_long) ∙ old_long in
    let inside : offset + length new ≤ length bytes = omega (arith, new_long, stands.inside) in
    let left = with_window bytes offset new in
    let lanes_are : new_lanes ≡ lanes_with base left =
    made ∙ ap (λ was. with_window lanes (base % 8 + offset) (new_window kind ask.op was ask.bytes)) old_is
    ∙ ap (λ ls. with_window ls (base % 8 + offset) new) kept.spare
    ∙ window_put_in_lanes base offset bytes new inside in
    let left_long : length left ≡ count = length-with_window bytes offset new inside ∙ kept.counted in
    let left_is : bytes_in base count new_lanes ≡ left =
    ap (λ ls. bytes_in base count ls) lanes_are ∙ ap (λ n. bytes_in base n (lanes_with base left)) (sym left_long)
    ∙ bytes_in-lanes_with base left in
    let long : length (bytes_in base count new_lanes) ≡ count = ap length left_is ∙ left_long in
    record {
      kept = record {
        lawful = record {
          in_limit = omega (arith, long, kept.counted, kept.lawful.in_limit);
          ends = omega (arith, long, kept.counted, kept.lawful.ends);
        };
        counted = long;
        spare = lanes_are ∙ ap (lanes_with base) (sym left_is);
      };
      left = rw is (ap (λ bs. record store { bytes = bs }) left_is);
    }

-- a request that makes no new bytes leaves the store as it was
pub unchanged : (store : Store) (ask : Request) → legal store ask ≡ true
    → new_window store.kind ask.op (window store ask) ask.bytes ≡ window store ask → after store ask ≡ store
unchanged store ask is same =
    let stands = StandsIn-from_legal store ask is in
    rw is (ap (λ bytes. record store { bytes = bytes })
    (ap (λ new. with_window store.bytes (ask.address - store.base) new) same
    ∙ with_window-same store.bytes (ask.address - store.base) (2 ^ ask.size) stands.inside))

-- the reply to a legal request
pub reply-legal : (store : Store) (ask : Request) → legal store ask ≡ true
    → reply store ask ≡ record {
      op = reply_op_of ask.op;
      size = ask.size;
      source = ask.source;
      denied = false;
      bytes = shown (reply_op_of ask.op) (window store ask);
    }
reply-legal store ask is = rw is refl

-- the window of a legal request, read among the lanes
pub window_read : (kind : Kind) (base count : ℕ) (lanes : List ℕ) (ask : Request)
    → IsKept base count lanes
    → legal (record { kind = kind; base = base; bytes = bytes_in base count lanes }) ask ≡ true
    → take (2 ^ ask.size) (drop (base % 8 + (ask.address - base)) lanes) ≡ window
    (record { kind = kind; base = base; bytes = bytes_in base count lanes }) ask
window_read kind base count lanes ask kept is =
    let stands = StandsIn-from_legal (record { kind = kind; base = base; bytes = bytes_in base count lanes }) ask is in
    ap (λ ls. take (2 ^ ask.size) (drop (base % 8 + (ask.address - base)) ls)) kept.spare
    ∙ window_in_lanes base (ask.address - base) (2 ^ ask.size) (bytes_in base count lanes) stands.inside

-- a reply that shows the window is the store's
pub answered : (store : Store) (ask : Request) (response : Response) (bytes : List ℕ) → legal store ask ≡ true
    → response ≡ record { op = reply_op_of ask.op; size = ask.size; source = ask.source; denied = false; bytes = bytes }
    → bytes ≡ shown (reply_op_of ask.op) (window store ask) → response ≡ reply store ask
answered store ask response bytes is made shows =
    made ∙ ap (λ (bs : List ℕ). record {
      op = reply_op_of ask.op;
      size = ask.size;
      source = ask.source;
      denied = false;
      bytes = bs;
    }) shows ∙ sym (reply-legal store ask is)
