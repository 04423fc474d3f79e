-- The beats of a message that is under way have the fields of its first beat.
use Rattle.std.proofs.Common.{arith, length, ◌≡◌, ◌∙◌, ℕ, ◌+◌, Bool, true, false, if◌then◌else◌, List, [], ◌∷◌, ◌++◌, replicate, Option, Some, None, slice_get, unwrap_or, refl, ap, sym, subst}
use Rattle.check_beats.specs.Bus.{bus_bytes, bus_log}
use Rattle.check_beats.specs.Form.{SameFields, SameReplyFields}
use Rattle.check_beats.specs.Laws.{AreFitting, asking, begun, AreFittingReplies, replying, begun_reply}
use Rattle.check_beats.specs.Message.{ask_part, spoiled_ask_part, seen_cells as seen_bytes, is_spoiled}
use Rattle.check_beats.specs.Spelling.{AskBeat, ReplyBeat}
use Rattle.check_beats.specs.State.{AskBegun, ReplyBegun, first_ask, first_reply, ends_ask, ends_reply, ask_after, reply_after, asked_beats, asked_bytes, asked_spoiled, replied_beats, replied_bytes, replied_spoiled}
use Rattle.check_beats.specs.declared.beat.AskHead.{AskHead}
use Rattle.check_beats.specs.declared.beat.ReplyHead.{ReplyHead}
use Rattle.check_beats.specs.declared.bus.Bus.{Bus}
use Rattle.check_beats.proofs.Spelled.{gathered_past}
use Rattle.check_beats.proofs.ReplySpelled.{gathered_past as replies_gathered}

-- ---- requests

pub record AskHeads (kept : Option AskBegun) (beats : List AskBeat) : Type 0 where
  pub empty : kept ≡ None → beats ≡ []
  pub some : (b : AskBegun) → kept ≡ Some b → beats ≡ [] → ⊥
  pub each : (k : ℕ) (x : AskBeat) → slice_get beats k ≡ Some x → (h : AskHead) → first_ask kept ≡ Some h
      → SameFields h x.head

pub ask_heads : (n : ℕ) (bus : Bus) → bus_bytes bus ≡ n → (past : List AskBeat) → AreFitting n past
    → AskHeads (asking n past) (begun n past)
ask_heads n bus is past = subst (λ m. AreFitting m past → AskHeads (asking m past) (begun m past)) is
    (λ fits. let all = gathered_past (bus_log bus) past fits in
    record { empty = all.empty; some = λ b so none. absurd (omega (arith, (all.kept.of b so).some, sym all.counted ∙ ap (λ (l : List AskBeat). length l) none, ap asked_beats so)); each = λ k x at. (all.each k x at).1 })

-- what is kept of beats of which there is a first
pub ask_first : (kept : Option AskBegun) (beats : List AskBeat) (first : AskBeat) (more : List AskBeat)
    → AskHeads kept beats → beats ≡ first ∷ more
    → (b : AskBegun) × (kept ≡ Some b) × SameFields b.first first.head
ask_first None beats first more heads is =
    let none : first ∷ more ≡ [] = sym is ∙ heads.empty refl in absurd (cc)
ask_first (Some b) beats first more heads is =
    (b, refl, heads.each 0 first (ap (λ l. slice_get l 0) is) b.first refl)

abbrev first_in : AskHead → Option AskBegun → AskHead
first_in other None = other
first_in other (Some b) = b.first

-- what is kept after a beat that ends nothing has the first beat of before
pub first_after : (n : ℕ) (kept : Option AskBegun) (beat : AskHead) (lanes : List ℕ) (b : AskBegun)
    → ask_after n kept beat lanes ≡ Some b → unwrap_or (first_ask kept) beat ≡ b.first
first_after n kept beat lanes b = go (ends_ask n kept beat)
  where
    go : (ends : Bool) → (if ends then None else Some (record {
      first = unwrap_or (first_ask kept) beat;
      beats = asked_beats kept + 1;
      bytes = asked_bytes kept ++ ask_part n beat lanes;
      spoiled = asked_spoiled kept ++ spoiled_ask_part n beat;
    })) ≡ Some b → unwrap_or (first_ask kept) beat ≡ b.first
    go true is = absurd (cc)
    go false is = ap (first_in beat) is

-- ---- replies

pub record ReplyHeads (kept : Option ReplyBegun) (beats : List ReplyBeat) : Type 0 where
  pub empty : kept ≡ None → beats ≡ []
  pub some : (b : ReplyBegun) → kept ≡ Some b → beats ≡ [] → ⊥
  pub each : (k : ℕ) (x : ReplyBeat) → slice_get beats k ≡ Some x → (h : ReplyHead) → first_reply kept ≡ Some h
      → SameReplyFields h x.head

pub reply_heads : (n : ℕ) (bus : Bus) → bus_bytes bus ≡ n → (past : List ReplyBeat) → AreFittingReplies n past
    → ReplyHeads (replying n past) (begun_reply n past)
reply_heads n bus is past =
    subst (λ m. AreFittingReplies m past → ReplyHeads (replying m past) (begun_reply m past)) is
    (λ fits. let all = replies_gathered (bus_log bus) past fits in
    record { empty = all.empty; some = λ b so none. absurd (omega (arith, (all.kept.of b so).some, sym all.counted ∙ ap (λ (l : List ReplyBeat). length l) none, ap replied_beats so)); each = λ k x at. (all.each k x at).1 })

pub reply_first : (kept : Option ReplyBegun) (beats : List ReplyBeat) (first : ReplyBeat) (more : List ReplyBeat)
    → ReplyHeads kept beats → beats ≡ first ∷ more
    → (b : ReplyBegun) × (kept ≡ Some b) × SameReplyFields b.first first.head
reply_first None beats first more heads is =
    let none : first ∷ more ≡ [] = sym is ∙ heads.empty refl in absurd (cc)
reply_first (Some b) beats first more heads is =
    (b, refl, heads.each 0 first (ap (λ l. slice_get l 0) is) b.first refl)

abbrev first_reply_in : ReplyHead → Option ReplyBegun → ReplyHead
first_reply_in other None = other
first_reply_in other (Some b) = b.first

pub first_reply_after : (n : ℕ) (kept : Option ReplyBegun) (beat : ReplyHead) (known : ℕ) (lanes : List ℕ)
    (b : ReplyBegun) → reply_after n kept beat known lanes ≡ Some b
    → (unwrap_or (first_reply kept) beat ≡ b.first) × (ends_reply n kept beat ≡ false)
first_reply_after n kept beat known lanes b = go (ends_reply n kept beat)
  where
    go : (ends : Bool) → (if ends then None else Some (record {
      first = unwrap_or (first_reply kept) beat;
      beats = replied_beats kept + 1;
      bytes = replied_bytes kept ++ seen_bytes beat known lanes 0 n;
      spoiled = replied_spoiled kept ++ replicate n (is_spoiled beat);
    })) ≡ Some b → (unwrap_or (first_reply kept) beat ≡ b.first) × (ends ≡ false)
    go true is = absurd (cc)
    go false is = (ap (first_reply_in beat) is, refl)
