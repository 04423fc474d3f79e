-- What is expected of memories that know less and more, and what is due beside other requests.
use Rattle.std.proofs.Common.{◌≡◌, ◌∙◌, ℕ, ◌+◌, ◌^◌, ◌<◌, Bool, true, false, if◌then◌else◌, List, [], length, get_or, Option, Some, None, refl, sym, ap, subst, arith}
use Rattle.tl_types.specs.Operation.{reply_op_of}
use Rattle.tl_types.specs.Request.{Request}
use Rattle.tl_types.specs.declared.operation.ReplyOp.{ReplyOp}
use Rattle.tl_types.specs.declared.operation.ReplyOp.TheVariants.{AccessAck, AccessAckData, HintAck}
use Rattle.check_cells.specs.Pattern.{unsure_flag, unsure}
use Rattle.check_memory.specs.Known.{known}
use Rattle.check_memory.specs.Partial.{Partial, permits, start_of, placed}
use Rattle.check_memory.specs.Pattern.{Pattern, FitsPattern, FitsCaptured, pattern, shown_cells}
use Rattle.check_memory.proofs.Unknown.{known_where, length-unknown_where}
use Rattle.check_contests.specs.Writes.{unknown_where}
use Rattle.check_contests.specs.Contests.{due_beside}
use Rattle.check_contests.proofs.Effect.{with_cells, visible_in, window, get_or-window, there_if_known, Stands}

-- ---- fitting

pub fits_itself : (due : Pattern) → FitsPattern due due
fits_itself due = record {
  op_is = refl;
  size_is = refl;
  source_is = refl;
  denied_is = λ flag is. is;
  counted = refl;
  bytes_fit = λ looked. record { counted = refl; kept = λ place byte is. is };
}

pub fits_through : (due reply captured : Pattern) → FitsPattern due reply → FitsPattern reply captured → FitsPattern due captured
fits_through due reply captured fits more = record {
  op_is = more.op_is ∙ fits.op_is;
  size_is = more.size_is ∙ fits.size_is;
  source_is = more.source_is ∙ fits.source_is;
  denied_is = λ flag is. more.denied_is flag (fits.denied_is flag is);
  counted = more.counted ∙ fits.counted;
  bytes_fit = λ looked.
      let first = fits.bytes_fit (λ denied. looked (more.denied_is true denied)) in
      let second = more.bytes_fit (λ denied. fits.denied_is true (looked denied)) in
      record {
        counted = second.counted ∙ first.counted;
        kept = λ place byte is. second.kept place byte (first.kept place byte is);
      };
}

-- the same of what was captured
pub captured_through : (due reply captured : Pattern) → FitsPattern due reply → FitsCaptured reply captured
    → FitsCaptured due captured
captured_through due reply captured fits more = record {
  op_is = more.op_is ∙ fits.op_is;
  size_is = more.size_is ∙ fits.size_is;
  source_is = more.source_is ∙ fits.source_is;
  denied_is = λ flag is. more.denied_is flag (fits.denied_is flag is);
  counted = more.counted ∙ fits.counted;
  bytes_fit = λ looked.
      let first = fits.bytes_fit (λ denied. looked (more.denied_is true denied)) in
      let second = more.bytes_fit (λ denied. fits.denied_is true (looked denied)) in
      record {
        counted = second.counted ∙ first.counted;
        kept = λ place byte clean is. second.kept place byte clean (first.kept place byte is);
      };
}

-- ---- answers that may be denied too

-- a flag that is known where it may be either is true, and was known before
sure : (flag : Option Bool) (is : Bool) → unsure_flag flag ≡ Some is → flag ≡ Some is
sure None is known = known
sure (Some true) is known = known
sure (Some false) is known = cc

-- what fits an answer fits it where it may be denied too
pub fits_unsure : (due reply : Pattern) → FitsPattern due reply → FitsPattern (unsure due) reply
fits_unsure due reply fits = record {
  op_is = fits.op_is;
  size_is = fits.size_is;
  source_is = fits.source_is;
  denied_is = λ flag is. fits.denied_is flag (sure due.denied flag is);
  counted = fits.counted;
  bytes_fit = λ looked. fits.bytes_fit (λ denied. sure due.denied true (looked denied));
}

-- an answer that may be denied too, or that is as it was
abbrev pub unsure_if : Bool → Pattern → Pattern
unsure_if corrupt due = if corrupt then unsure due else due

-- its bytes are the same
pub unsure_bytes : (corrupt : Bool) (due : Pattern) → (unsure_if corrupt due).bytes ≡ due.bytes
unsure_bytes true due = refl
unsure_bytes false due = refl

-- one that fits with other bytes, as many, that are as known where it matters
pub fits_known : (corrupt : Bool) (due reply : Pattern) (bytes : List (Option ℕ)) → length bytes ≡ length reply.bytes
    → ((place byte : ℕ) → get_or due.bytes place None ≡ Some byte → get_or reply.bytes place None ≡ Some byte
    → get_or bytes place None ≡ Some byte)
    → FitsPattern due (unsure_if corrupt reply) → FitsPattern due (unsure_if corrupt (record reply { bytes = bytes }))
fits_known true due reply bytes long kept fits = record {
  op_is = fits.op_is;
  size_is = fits.size_is;
  source_is = fits.source_is;
  denied_is = fits.denied_is;
  counted = long ∙ fits.counted;
  bytes_fit = λ looked.
      let before = fits.bytes_fit looked in
      record {
        counted = long ∙ before.counted;
        kept = λ place byte known. kept place byte known (before.kept place byte known);
      };
}
fits_known false due reply bytes long kept fits = record {
  op_is = fits.op_is;
  size_is = fits.size_is;
  source_is = fits.source_is;
  denied_is = fits.denied_is;
  counted = long ∙ fits.counted;
  bytes_fit = λ looked.
      let before = fits.bytes_fit looked in
      record {
        counted = long ∙ before.counted;
        kept = λ place byte known. kept place byte known (before.kept place byte known);
      };
}

-- ---- what is due beside others

pub beside_legal : (memory : Partial) (ask : Request) (test : ℕ → Bool) (due : Pattern) → permits memory ask ≡ true
    → due_beside memory ask test due ≡ record due { bytes = unknown_where (λ place. test (start_of memory ask + place)) due.bytes }
beside_legal memory ask test due is = rw (is, due_beside) refl

pub beside_denied : (memory : Partial) (ask : Request) (test : ℕ → Bool) (due : Pattern) → permits memory ask ≡ false
    → due_beside memory ask test due ≡ due
beside_denied memory ask test due is = rw (is, due_beside) refl

pub beside_below : (memory : Partial) (ask : Request) (test : ℕ → Bool) (due : Pattern)
    → FitsPattern (due_beside memory ask test due) due
beside_below memory ask test due = by_cases (permits memory ask) refl
  where
    rule : ℕ → Bool
    rule place = test (start_of memory ask + place)

    by_cases : (p : Bool) → permits memory ask ≡ p → FitsPattern (due_beside memory ask test due) due
    by_cases true is = let P : Pattern → Type 0 = λ less. FitsPattern less due in
        subst P (sym (beside_legal memory ask test due is)) (record {
          op_is = refl;
          size_is = refl;
          source_is = refl;
          denied_is = λ flag is'. is';
          counted = sym (length-unknown_where (λ place. test (start_of memory ask + place)) due.bytes);
          bytes_fit = λ looked. record {
            counted = sym (length-unknown_where (λ place. test (start_of memory ask + place)) due.bytes);
            kept = λ place byte is'. (known_where (λ place. test (start_of memory ask + place)) due.bytes place byte is').1;
          };
        })
    by_cases false is = let P : Pattern → Type 0 = λ less. FitsPattern less due in
        subst P (sym (beside_denied memory ask test due is)) (fits_itself due)

-- what is known of it no other may write
pub beside_known : (memory : Partial) (ask : Request) (test : ℕ → Bool) (due : Pattern) (place byte : ℕ)
    → permits memory ask ≡ true → get_or (due_beside memory ask test due).bytes place None ≡ Some byte
    → (test (start_of memory ask + place) ≡ false) × (get_or due.bytes place None ≡ Some byte)
beside_known memory ask test due place byte is known =
    known_where (λ place. test (start_of memory ask + place)) due.bytes place byte
    (ap (λ (p : Pattern). get_or p.bytes place None) (sym (beside_legal memory ask test due is)) ∙ known)

-- ---- what is expected of a memory

abbrev shown : Partial → Request → List (Option ℕ) → List (Option ℕ)
shown memory ask cells = shown_cells (reply_op_of ask.op) (window (placed memory ask) (visible_in memory cells))

pub pattern_denied : (memory : Partial) (ask : Request) (less more : List (Option ℕ)) → permits memory ask ≡ false
    → pattern (with_cells memory less) ask ≡ pattern (with_cells memory more) ask
pattern_denied memory ask less more is = rw (is, pattern) refl

pattern_legal : (memory : Partial) (ask : Request) (cells : List (Option ℕ)) → permits memory ask ≡ true
    → pattern (with_cells memory cells) ask
    ≡ record {
      op = reply_op_of ask.op;
      size = ask.size;
      source = ask.source;
      denied = Some false;
      bytes = shown memory ask cells;
      spoiled = [];
    }
pattern_legal memory ask cells is = rw (is, pattern) refl

shown_long : (op : ReplyOp) (less more : List (Option ℕ)) → length less ≡ length more
    → length (shown_cells op less) ≡ length (shown_cells op more)
shown_long AccessAck less more same = refl
shown_long AccessAckData less more same = same
shown_long HintAck less more same = refl

shown_more : (op : ReplyOp) (less more : List (Option ℕ)) (place byte : ℕ)
    → (get_or less place None ≡ Some byte → get_or more place None ≡ Some byte)
    → get_or (shown_cells op less) place None ≡ Some byte → get_or (shown_cells op more) place None ≡ Some byte
shown_more AccessAck less more place byte kept is = cc
shown_more AccessAckData less more place byte kept is = kept is
shown_more HintAck less more place byte kept is = cc

-- a byte that is expected where less is known, and is seen as the same in what is known more
pub pattern_more : (memory : Partial) (ask : Request) (less more : List (Option ℕ)) (place byte : ℕ)
    → permits memory ask ≡ true → Stands memory ask less
    → (get_or (visible_in memory less) (start_of memory ask + place) None ≡ Some byte
    → get_or (visible_in memory more) (start_of memory ask + place) None ≡ Some byte)
    → get_or (pattern (with_cells memory less) ask).bytes place None ≡ Some byte
    → get_or (pattern (with_cells memory more) ask).bytes place None ≡ Some byte
pattern_more memory ask less more place byte is s kept known =
    let old = visible_in memory less in
    let old' = visible_in memory more in
    ap (λ (p : Pattern). get_or p.bytes place None) (pattern_legal memory ask more is)
    ∙ shown_more (reply_op_of ask.op) (window (placed memory ask) old) (window (placed memory ask) old') place byte
    (λ here.
    let below : place < 2 ^ ask.size = omega (arith, there_if_known (window (placed memory ask) old) place byte here, s.wide) in
    get_or-window (placed memory ask) old' place below ∙ kept (sym (get_or-window (placed memory ask) old place below) ∙ here))
    (ap (λ (p : Pattern). get_or p.bytes place None) (sym (pattern_legal memory ask less is)) ∙ known)

pub pattern_long : (memory : Partial) (ask : Request) (less more : List (Option ℕ)) → permits memory ask ≡ true
    → Stands memory ask less → Stands memory ask more
    → length (pattern (with_cells memory less) ask).bytes ≡ length (pattern (with_cells memory more) ask).bytes
pattern_long memory ask less more is s s' =
    ap (λ (p : Pattern). length p.bytes) (pattern_legal memory ask less is)
    ∙ shown_long (reply_op_of ask.op) (window (placed memory ask) (visible_in memory less)) (window (placed memory ask) (visible_in memory more))
    (s.wide ∙ sym s'.wide)
    ∙ sym (ap (λ (p : Pattern). length p.bytes) (pattern_legal memory ask more is))
