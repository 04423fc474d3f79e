-- Whatever a corrupt request writes in place of the bytes that it may write, and whether it is denied or not, what is seen is
-- true, and the reply fits.
use Rattle.std.proofs.Common.{◌≡◌, ◌∙◌, ⊎_elim, ℕ, ◌^◌, Bool, true, false, List, length, replicate, None, Some, refl, sym, subst}
use Rattle.std.proofs.lemmas.List.{length-map, length-replicate}
use Rattle.tl_types.specs.Operation.{reply_op_of}
use Rattle.tl_types.specs.Request.{Request}
use Rattle.tl_types.specs.Response.{Response}
use Rattle.tl_types.specs.declared.operation.ReplyOp.{ReplyOp}
use Rattle.tl_types.specs.declared.operation.ReplyOp.TheVariants.{AccessAck, AccessAckData, HintAck}
use Rattle.tl_ops.specs.Store.{shown}
use Rattle.check_cells.specs.Pattern.{unsure}
use Rattle.check_cells.specs.Sent.{Sent, is_corrupt}
use Rattle.check_memory.specs.Known.{IsBelow, known}
use Rattle.check_memory.specs.Laws.{IsLawfulAsk, IsSound}
use Rattle.check_memory.specs.Partial.{Partial, placed, permits, is_volatile, visible, AreWithin}
use Rattle.check_memory.specs.Pattern.{FitsPattern, pattern, seen_as}
use Rattle.check_memory.specs.Whole.{true_window, true_reply}
use Rattle.check_memory.proofs.Soundness.{window_long, partial_is_sound}
use Rattle.check_memory.proofs.Unknown.{length-unknown_where}
use Rattle.check_contests.specs.Writes.{may_write}
use Rattle.check_contests.specs.Cut.{memory_cut}
use Rattle.check_contests.specs.Laws.{AreSameButWritten, denial, MayAnswerCorrupt, IsCorruptSound}
use Rattle.check_contests.proofs.Expected.{fits_unsure, unsure_if}
use Rattle.check_contests.proofs.Sending.{cells_cut, cut_known, memory_left}

-- ---- the reply

-- as many bytes are shown of as many
shown_long : (op : ReplyOp) (one other : List ℕ) → length one ≡ length other → length (shown op one) ≡ length (shown op other)
shown_long AccessAck one other same = refl
shown_long AccessAckData one other same = same
shown_long HintAck one other same = refl

-- an illegal request is denied as ever
denied_as_ever : (memory : Partial) (bytes : List ℕ) (ask : Request) → permits memory ask ≡ false
    → true_reply memory bytes ask ≡ denial ask
denied_as_ever memory bytes ask is = rw (is, true_reply) refl

-- a denial has as many bytes as any other reply
denial_long : (memory : Partial) (bytes : List ℕ) (ask : Request) → AreWithin memory.ranges (length bytes)
    → permits memory ask ≡ true → length (denial ask).bytes ≡ length (true_reply memory bytes ask).bytes
denial_long memory bytes ask within is =
    let window : List ℕ = true_window bytes (placed memory ask) in
    let long : length (replicate (2 ^ ask.size) 0) ≡ length window =
    length-replicate (2 ^ ask.size) 0 ∙ sym (window_long memory bytes ask within is) in
    rw (is, true_reply) (shown_long (reply_op_of ask.op) (replicate (2 ^ ask.size) 0) window long)

-- of a legal request nobody knows whether it is denied
unsure_legal : (memory : Partial) (ask : Request) → permits memory ask ≡ true → (unsure (pattern memory ask)).denied ≡ None
unsure_legal memory ask is = rw (is, pattern) refl

-- a denial fits
denial_fits : (memory : Partial) (bytes : List ℕ) (ask : Request) → AreWithin memory.ranges (length bytes)
    → FitsPattern (pattern memory ask) (seen_as (true_reply memory bytes ask))
    → FitsPattern (unsure (pattern memory ask)) (seen_as (denial ask))
denial_fits memory bytes ask within fits = by_cases (permits memory ask) refl
  where
    unknown : (flag : Bool) {A : Type 0} → None ≡ Some flag → A
    unknown flag e = cc

    by_cases : (p : Bool) → permits memory ask ≡ p → FitsPattern (unsure (pattern memory ask)) (seen_as (denial ask))
    by_cases true is =
        let none : (unsure (pattern memory ask)).denied ≡ None = unsure_legal memory ask is in
        record {
          op_is = refl;
          size_is = refl;
          source_is = refl;
          denied_is = λ flag known. unknown flag (sym none ∙ known);
          counted = length-map (denial ask).bytes (λ byte. Some byte) ∙ denial_long memory bytes ask within is
              ∙ sym (length-map (true_reply memory bytes ask).bytes (λ byte. Some byte)) ∙ fits.counted;
          bytes_fit = λ looked. unknown true (sym none ∙ looked refl);
        }
    by_cases false is =
        subst (λ (r : Response). FitsPattern (unsure (pattern memory ask)) (seen_as r)) (denied_as_ever memory bytes ask is)
        (fits_unsure (pattern memory ask) (seen_as (true_reply memory bytes ask)) fits)

-- and so does any other reply
reply_fits : (memory : Partial) (bytes : List ℕ) (ask : Request) (reply : Response) → AreWithin memory.ranges (length bytes)
    → IsSound memory bytes ask → MayAnswerCorrupt memory bytes ask reply
    → FitsPattern (unsure (pattern memory ask)) (seen_as reply)
reply_fits memory bytes ask reply within sound may =
    let P : Response → Type 0 = λ r. FitsPattern (unsure (pattern memory ask)) (seen_as r) in
    ⊎_elim
    (λ true_one. subst P (sym true_one)
    (fits_unsure (pattern memory ask) (seen_as (true_reply memory bytes ask)) sound.reply_fits))
    (λ denied. subst P (sym denied) (denial_fits memory bytes ask within sound.reply_fits))
    may

-- ---- the bytes then

-- what is seen of a memory without the bytes that a request may write is true, whatever stands in their place
cut_below : (memory : Partial) (ask : Request) (bytes later : List ℕ) → IsBelow (visible memory) (known bytes)
    → AreSameButWritten memory ask bytes later → IsBelow (visible (memory_cut memory ask)) (known later)
cut_below memory ask bytes later below same = record {
  counted = length-map later (λ byte. Some byte) ∙ same.counted ∙ sym (length-map bytes (λ byte. Some byte))
      ∙ below.counted ∙ length-unknown_where (is_volatile memory) memory.cells ∙ sym long;
  kept = λ place byte is.
      let before = cut_known memory ask memory.cells place byte is in
      same.same place before.0 ∙ below.kept place byte before.1;
}
  where
    long : length (visible (memory_cut memory ask)) ≡ length memory.cells
    long = length-unknown_where (is_volatile memory) (cells_cut memory ask memory.cells)
        ∙ length-unknown_where (may_write memory ask) memory.cells

-- ---- the law

-- so a corrupt request is sound
pub corrupt_is_sound : (memory : Partial) (bytes later : List ℕ) (sent : Sent) (reply : Response) → is_corrupt sent ≡ true
    → AreWithin memory.ranges (length bytes) → IsLawfulAsk sent.ask → IsBelow (visible memory) (known bytes)
    → AreSameButWritten memory sent.ask bytes later → MayAnswerCorrupt memory bytes sent.ask reply
    → IsCorruptSound memory sent later reply
corrupt_is_sound memory bytes later sent reply corrupt within lawful below same may = record {
  reply_fits = subst (λ (c : Bool). FitsPattern (unsure_if c (pattern memory sent.ask)) (seen_as reply)) (sym corrupt)
      (reply_fits memory bytes sent.ask reply within (partial_is_sound memory bytes sent.ask within lawful below) may);
  stays_below = subst (λ (c : Bool). IsBelow (visible (memory_left c memory sent.ask)) (known later)) (sym corrupt)
      (cut_below memory sent.ask bytes later below same);
}
