-- What is under way can end: by beats of the first one's fields and mask, with zeros on their lanes.
use Rattle.std.proofs.Common.{◌≡◌, ◌∙◌, ℕ, suc, zero, ◌+◌, ◌-◌, ◌^◌, Bool, true, false, if◌then◌else◌, List, [], ◌∷◌, ◌++◌, replicate, Option, Some, None, ap, sym, subst, refl, arith, eq-eqb, append_assoc, append-nil}
use Rattle.std.specs.Prelude.{◌≢◌}
use Rattle.std.specs.List.{flat_map}
use Rattle.std.proofs.lemmas.Bool.{ne_eqb}
use Rattle.std.proofs.lemmas.List.{length-replicate}
use Rattle.check_cells.specs.Pattern.{Pattern}
use Rattle.check_beats.specs.Bus.{bus_bytes, bus_log}
use Rattle.check_beats.specs.Form.{FitsAsk, FitsReply, SameFields, SameReplyFields}
use Rattle.check_beats.specs.Message.{ask_beats, reply_beats}
use Rattle.check_beats.specs.State.{AskBegun, ends_ask, ask_of, ReplyBegun, ends_reply, reply_of}
use Rattle.check_beats.specs.Begun.{IsAskBegun, IsReplyBegun}
use Rattle.check_beats.specs.Spelling.{AskBeat, ReplyBeat}
use Rattle.check_beats.specs.Laws.{asking, begun, CanEnd, AskCanEnd, replying, begun_reply, ended_replies, reply_channel, ReplyCanEndSo, ReplyCanEnd, ReplyChannelIsCutUp, IsSpelled, IsReplySpelled}
use Rattle.check_beats.proofs.Spelled as asks
use Rattle.check_beats.proofs.ReplySpelled as replies

-- what can end after one beat more can end
can_end_before : (bus : ℕ) (beats : List AskBeat) (x : AskBeat) → CanEnd bus (beats ++ x ∷ []) → CanEnd bus beats
can_end_before bus beats x can =
    (can.0, x ∷ can.1, subst (λ (l : List AskBeat). IsSpelled bus (can.0, l)) (append_assoc beats (x ∷ []) can.1) can.2)

completed : (w more : ℕ) (b : AskBegun) (beats : List AskBeat) → asks.Gathered w (Some b) beats
    → ask_beats (2 ^ w) b.first ≡ b.beats + suc more → CanEnd (2 ^ w) beats
completed w zero b beats g left =
    let x : AskBeat = record { head = b.first; lanes = replicate (2 ^ w) 0 } in
    let is : IsAskBegun (2 ^ w) b = g.kept.of b refl in
    let fits : FitsAsk (2 ^ w) (Some b.first) b.first = record {
      formed = is.formed;
      same = λ h at. let e : b.first ≡ h = cc in subst (λ h. SameFields h b.first) e (asks.itself b.first);
    } in
    let ends : ends_ask (2 ^ w) (Some b) b.first ≡ true = eq-eqb (b.beats + 1) (ask_beats (2 ^ w) b.first) (omega (arith, left)) in
    (ask_of (2 ^ w) (Some b) b.first x.lanes, x ∷ [], asks.spelled_end w (Some b) beats x g fits (length-replicate (2 ^ w) 0) ends)
completed w (suc more) b beats g left =
    let x : AskBeat = record { head = b.first; lanes = replicate (2 ^ w) 0 } in
    let is : IsAskBegun (2 ^ w) b = g.kept.of b refl in
    let fits : FitsAsk (2 ^ w) (Some b.first) b.first = record {
      formed = is.formed;
      same = λ h at. let e : b.first ≡ h = cc in subst (λ h. SameFields h b.first) e (asks.itself b.first);
    } in
    let goes_on : ends_ask (2 ^ w) (Some b) b.first ≡ false =
    ne_eqb (b.beats + 1) (ask_beats (2 ^ w) b.first) (λ e. omega (arith, left, e)) in
    let next = asks.next_gathered w b beats x g fits (length-replicate (2 ^ w) 0) goes_on in
    can_end_before (2 ^ w) beats x (completed w more _ (beats ++ x ∷ []) next (omega (arith, left)))

some_begun : (w : ℕ) (o : Option AskBegun) (beats : List AskBeat) → asks.Gathered w o beats → o ≢ None → CanEnd (2 ^ w) beats
some_begun w None beats g some = absurd (some refl)
some_begun w (Some b) beats g some =
    let is : IsAskBegun (2 ^ w) b = g.kept.of b refl in
    completed w (ask_beats (2 ^ w) b.first - (b.beats + 1)) b beats g (omega (arith, is.unfinished))

pub ask_can_end : AskCanEnd
ask_can_end bus past fitting some =
    some_begun (bus_log bus) (asking (bus_bytes bus) past) (begun (bus_bytes bus) past)
    (asks.gathered_past (bus_log bus) past fitting) some

-- ---- replies

-- what can end after one beat more can end.
reply_can_end_before : (bus : ℕ) (beats : List ReplyBeat) (x : ReplyBeat) → ReplyCanEndSo bus (beats ++ x ∷ [])
    → ReplyCanEndSo bus beats
reply_can_end_before bus beats x can =
    (can.0, x ∷ can.1, subst (λ (l : List ReplyBeat). IsReplySpelled bus (can.0, l)) (append_assoc beats (x ∷ []) can.1) can.2)

reply_completed : (w more : ℕ) (b : ReplyBegun) (beats : List ReplyBeat) → replies.GatheredReply w (Some b) beats
    → reply_beats (2 ^ w) b.first ≡ b.beats + suc more → ReplyCanEndSo (2 ^ w) beats
reply_completed w zero b beats g left =
    let x : ReplyBeat = record { head = b.first; known = 0; lanes = replicate (2 ^ w) 0 } in
    let is : IsReplyBegun (2 ^ w) b = g.kept.of b refl in
    let fits : FitsReply (Some b.first) b.first = record {
      formed = is.formed;
      same = λ h at. let e : b.first ≡ h = cc in
          subst (λ h. SameReplyFields h b.first) e (replies.itself b.first);
    } in
    let ends : ends_reply (2 ^ w) (Some b) b.first ≡ true = eq-eqb (b.beats + 1) (reply_beats (2 ^ w) b.first) (omega (arith, left)) in (
      (λ address. reply_of (2 ^ w) (Some b) address b.first x.known x.lanes),
      x ∷ [],
      replies.spelled_end w (Some b) beats x g fits (length-replicate (2 ^ w) 0) ends,
    )
reply_completed w (suc more) b beats g left =
    let x : ReplyBeat = record { head = b.first; known = 0; lanes = replicate (2 ^ w) 0 } in
    let is : IsReplyBegun (2 ^ w) b = g.kept.of b refl in
    let fits : FitsReply (Some b.first) b.first = record {
      formed = is.formed;
      same = λ h at. let e : b.first ≡ h = cc in
          subst (λ h. SameReplyFields h b.first) e (replies.itself b.first);
    } in
    let goes_on : ends_reply (2 ^ w) (Some b) b.first ≡ false =
    ne_eqb (b.beats + 1) (reply_beats (2 ^ w) b.first) (λ e. omega (arith, left, e)) in
    let next = replies.next_gathered w b beats x g fits (length-replicate (2 ^ w) 0) goes_on in
    reply_can_end_before (2 ^ w) beats x (reply_completed w more _ (beats ++ x ∷ []) next (omega (arith, left)))

some_reply : (w : ℕ) (o : Option ReplyBegun) (beats : List ReplyBeat) → replies.GatheredReply w o beats → o ≢ None
    → ReplyCanEndSo (2 ^ w) beats
some_reply w None beats g some = absurd (some refl)
some_reply w (Some b) beats g some =
    let is : IsReplyBegun (2 ^ w) b = g.kept.of b refl in
    reply_completed w (reply_beats (2 ^ w) b.first - (b.beats + 1)) b beats g (omega (arith, is.unfinished))

pub reply_can_end : ReplyCanEnd
reply_can_end bus past fitting some =
    some_reply (bus_log bus) (replying (bus_bytes bus) past) (begun_reply (bus_bytes bus) past)
    (replies.gathered_past (bus_log bus) past fitting) some

reply_cut_more : (bus : ℕ) (past : List ReplyBeat) (x : ReplyBeat) (ends : Bool)
    → reply_channel past ≡ flat_map (λ (entry : (ℕ → Pattern) × List ReplyBeat). entry.1) (ended_replies bus past) ++ begun_reply bus past
    → reply_channel past ++ x ∷ []
    ≡ flat_map (λ (entry : (ℕ → Pattern) × List ReplyBeat). entry.1)
    (if ends then ended_replies bus past ++ (
      (λ address. reply_of bus (replying bus past) address x.head x.known x.lanes),
      begun_reply bus past ++ x ∷ [],
    ) ∷ [] else ended_replies bus past)
    ++ (if ends then [] else begun_reply bus past ++ x ∷ [])
reply_cut_more bus past x true before =
    let f : (ℕ → Pattern) × List ReplyBeat → List ReplyBeat = λ (entry : (ℕ → Pattern) × List ReplyBeat). entry.1 in
    ap (λ (c : List ReplyBeat). c ++ x ∷ []) before ∙ append_assoc (flat_map f (ended_replies bus past)) (begun_reply bus past) (x ∷ [])
    ∙ sym (asks.flat_more f (ended_replies bus past)
    ((λ address. reply_of bus (replying bus past) address x.head x.known x.lanes), begun_reply bus past ++ x ∷ []))
    ∙ sym (append-nil _)
reply_cut_more bus past x false before =
    let f : (ℕ → Pattern) × List ReplyBeat → List ReplyBeat = λ (entry : (ℕ → Pattern) × List ReplyBeat). entry.1 in
    ap (λ (c : List ReplyBeat). c ++ x ∷ []) before ∙ append_assoc (flat_map f (ended_replies bus past)) (begun_reply bus past) (x ∷ [])

pub reply_cut_up : ReplyChannelIsCutUp
reply_cut_up bus [] = refl
reply_cut_up bus (x ∷ past) = reply_cut_more bus past x (ends_reply bus (replying bus past) x.head) (reply_cut_up bus past)
