-- Beats of whole messages fit one after the other: the way back from what lawful beats say of messages.
use Rattle.std.proofs.Common.{◌≡◌, ◌≢◌, ◌∙◌, ℕ, ◌≤◌, ◌%◌, ◌^◌, Bool, true, false, if◌then◌else◌, List, [], ◌∷◌, ◌++◌, length, Option, Some, None, slice_get, take, refl, ap, sym, subst, append-nil}
use Rattle.std.specs.List.{AllByRecursion}
use Rattle.check_cells.specs.Sent.{Sent}
use Rattle.tl_types.specs.declared.limits.TheConstants.{MAX_SIZE}
use Rattle.check_cells.specs.Pattern.{Pattern}
use Rattle.check_beats.specs.Form.{Continues, FitsAsk, FitsReply, IsLawfulMaskOnBus, SameFields, SameReplyFields}
use Rattle.check_beats.specs.Laws.{begun, ended_asks, IsSpelled, CanEnd, begun_reply, ended_replies, IsReplySpelled, ReplyCanEndSo}
use Rattle.check_beats.specs.Spelling.{AskBeat, ReplyBeat}
use Rattle.check_beats.specs.State.{AskBegun, ReplyBegun, first_ask, first_reply, ends_ask, ends_reply, ask_of, reply_of}
use Rattle.check_beats.specs.declared.beat.AskHead.{AskHead}
use Rattle.check_beats.specs.declared.beat.ReplyHead.{ReplyHead}
use Rattle.check_watch.specs.declared.beat.Link.{Link}
use Rattle.check_watch.specs.Plan.{Layout, Sighting, bus_of}
use Rattle.check_watch.proofs.InFlight.{ask_at, reply_at}
use Rattle.check_watch_laws.specs.Crossed.{ask_beat, reply_beat, asks_over, replies_over, more_asks, more_replies, asking_at, begun_at, ended_at, replying_at, begun_replies_at, ended_replies_at}
use Rattle.check_watch_laws.specs.Messages.{CarriesMessages}
use Rattle.check_watch_laws.proofs.Crossing.{last_of_all}
use Rattle.check_watch_laws.proofs.Heads.{AskHeads, ReplyHeads}
use Rattle.check_watch_laws.proofs.Turns.{own_is}

-- the beats of a link, with one more there
pub asks_here : (layout : Layout) (past : List Sighting) (x : Sighting)
    → asks_over layout x.link (x ∷ past)
    ≡ more_asks (bus_of layout x.link) x x.beat (asks_over layout x.link past)
asks_here layout past x =
    ap (λ b. if b then more_asks (bus_of layout x.link) x x.beat (asks_over layout x.link past)
    else asks_over layout x.link past) (own_is x.link)

pub replies_here : (layout : Layout) (past : List Sighting) (x : Sighting)
    → replies_over layout x.link (x ∷ past)
    ≡ more_replies (bus_of layout x.link) x x.beat (replies_over layout x.link past)
replies_here layout past x =
    ap (λ b. if b then more_replies (bus_of layout x.link) x x.beat (replies_over layout x.link past)
    else replies_over layout x.link past) (own_is x.link)

slice_at : {X : Type 0} (xs : List X) (y : X) (rest : List X) → slice_get ((xs ++ y ∷ []) ++ rest) (length xs) ≡ Some y
slice_at [] y rest = refl
slice_at (x ∷ xs) y rest = slice_at xs y rest

-- a beat of a request that is spelled has the fields of the first one
same_as_first : (n : ℕ) (ask : Sent) (kept : Option AskBegun) (beats : List AskBeat) (b : AskBeat)
    (rest : List AskBeat) → AskHeads kept beats → IsSpelled n (ask, (beats ++ b ∷ []) ++ rest)
    → Continues SameFields (first_ask kept) b.head
same_as_first n ask None beats b rest heads is = λ h at. absurd (cc)
same_as_first n ask (Some v) [] b rest heads is = λ h at. absurd (heads.some v refl refl)
same_as_first n ask (Some v) (f ∷ more) b rest heads is = λ h at.
    let first = heads.each 0 f refl h at in
    let front = (is.1.each 0 f refl).fields in
    let fields = (is.1.each (length (f ∷ more)) b (slice_at (f ∷ more) b rest)).fields in
    record {
      opcode = fields.opcode ∙ sym front.opcode ∙ first.opcode;
      param = fields.param ∙ sym front.param ∙ first.param;
      size = fields.size ∙ sym front.size ∙ first.size;
      source = fields.source ∙ sym front.source ∙ first.source;
      address = fields.address ∙ sym front.address ∙ first.address;
    }

-- it fits after those before it
spelled_fits : (n : ℕ) (ask : Sent) (kept : Option AskBegun) (beats : List AskBeat) (b : AskBeat)
    (rest : List AskBeat) → AskHeads kept beats → IsSpelled n (ask, (beats ++ b ∷ []) ++ rest)
    → FitsAsk n (first_ask kept) b.head
spelled_fits n ask kept beats b rest heads is =
    let here = is.1.each (length beats) b (slice_at beats b rest) in
    let fields = here.fields in
    record {
      formed = record {
        op = ask.ask.op;
        code = record { opcode_is = sym fields.opcode; param_is = sym fields.param };
        in_limit = subst (λ k. k ≤ MAX_SIZE) (sym fields.size) is.0.lawful.in_limit;
        mask = subst (λ k. IsLawfulMaskOnBus n ask.ask.op k b.head.address b.head.mask) (sym fields.size)
            (subst (λ a. IsLawfulMaskOnBus n ask.ask.op ask.ask.size a b.head.mask) (sym fields.address) here.mask);
        flag = here.flag;
      };
      same = same_as_first n ask kept beats b rest heads is;
    }

denied_same : (x y : Bool) → Some x ≡ Some y → x ≡ y
denied_same x y is = cc

same_reply_as_first : (n : ℕ) (reply : ℕ → Pattern) (kept : Option ReplyBegun) (beats : List ReplyBeat)
    (b : ReplyBeat) (rest : List ReplyBeat) → ReplyHeads kept beats → IsReplySpelled n (reply, (beats ++ b ∷ []) ++ rest)
    → Continues SameReplyFields (first_reply kept) b.head
same_reply_as_first n reply None beats b rest heads is = λ h at. absurd (cc)
same_reply_as_first n reply (Some v) [] b rest heads is = λ h at. absurd (heads.some v refl refl)
same_reply_as_first n reply (Some v) (f ∷ more) b rest heads is = λ h at.
    let first = heads.each 0 f refl h at in
    let front = ((is 0).1.each 0 f refl).fields in
    let fields = ((is 0).1.each (length (f ∷ more)) b (slice_at (f ∷ more) b rest)).fields in
    record {
      opcode = fields.opcode ∙ sym front.opcode ∙ first.opcode;
      param = fields.param ∙ sym front.param ∙ first.param;
      size = fields.size ∙ sym front.size ∙ first.size;
      source = fields.source ∙ sym front.source ∙ first.source;
      denied = denied_same b.head.denied f.head.denied (sym fields.denied ∙ front.denied) ∙ first.denied;
    }

reply_spelled_fits : (n : ℕ) (reply : ℕ → Pattern) (kept : Option ReplyBegun) (beats : List ReplyBeat)
    (b : ReplyBeat) (rest : List ReplyBeat) → ReplyHeads kept beats → IsReplySpelled n (reply, (beats ++ b ∷ []) ++ rest)
    → FitsReply (first_reply kept) b.head
reply_spelled_fits n reply kept beats b rest heads is =
    let here = (is 0).1.each (length beats) b (slice_at beats b rest) in
    let fields = here.fields in
    record {
      formed = record {
        op = (reply 0).op;
        code = sym fields.opcode;
        param = fields.param;
        in_limit = subst (λ k. k ≤ MAX_SIZE) (sym fields.size) (is 0).0.in_limit;
        flag = here.corrupt;
      };
      same = same_reply_as_first n reply kept beats b rest heads is;
    }

some_more : {X : Type 0} (xs : List X) (x : X) → xs ++ x ∷ [] ≢ []
some_more [] x is = absurd (cc)
some_more (y ∷ xs) x is = absurd (cc)

module _ (layout : Layout) (past : List Sighting) (link : Link) (known : ℕ) (lanes : List ℕ) where
  pub ask_fits : (beat : AskHead) → AskHeads (asking_at layout link past) (begun_at layout link past)
      → CarriesMessages layout (ask_at link known lanes beat ∷ past) link
      → FitsAsk (bus_of layout link) (first_ask (asking_at layout link past)) beat
  ask_fits beat heads carries =
      go (ends_ask (bus_of layout link) (asking_at layout link past) beat)
      (ask_of (bus_of layout link) (asking_at layout link past) beat (take (bus_of layout link) lanes))
      (subst (λ l. AllByRecursion (IsSpelled (bus_of layout link)) (ended_asks (bus_of layout link) l))
      (asks_here layout past (ask_at link known lanes beat)) carries.asks_spelled)
      (subst (λ l. begun (bus_of layout link) l ≢ [] → CanEnd (bus_of layout link) (begun (bus_of layout link) l))
      (asks_here layout past (ask_at link known lanes beat)) carries.ask_begun)
    where
      b : AskBeat
      b = ask_beat (bus_of layout link) beat lanes

      go : (ends : Bool) (ask : Sent) → AllByRecursion (IsSpelled (bus_of layout link))
          (if ends then ended_at layout link past
          ++ (ask, begun_at layout link past ++ ask_beat (bus_of layout link) beat lanes ∷ []) ∷ []
          else ended_at layout link past)
          → ((if ends then [] else begun_at layout link past ++ ask_beat (bus_of layout link) beat lanes ∷ []) ≢ []
          → CanEnd (bus_of layout link)
          (if ends then [] else begun_at layout link past ++ ask_beat (bus_of layout link) beat lanes ∷ []))
          → FitsAsk (bus_of layout link) (first_ask (asking_at layout link past)) beat
      go true ask all can =
          let message : List AskBeat = begun_at layout link past ++ b ∷ [] in
          spelled_fits (bus_of layout link) ask (asking_at layout link past) (begun_at layout link past) b [] heads
          (subst (λ (l : List AskBeat). IsSpelled (bus_of layout link) (ask, l)) (sym (append-nil message))
          (last_of_all (IsSpelled (bus_of layout link)) (ended_at layout link past) (ask, message) all))
      go false ask all can =
          let end = can (some_more (begun_at layout link past) b) in
          spelled_fits (bus_of layout link) end.0 (asking_at layout link past) (begun_at layout link past) b end.1 heads
          end.2

  pub reply_fits : (beat : ReplyHead) → ReplyHeads (replying_at layout link past) (begun_replies_at layout link past)
      → CarriesMessages layout (reply_at link known lanes beat ∷ past) link
      → FitsReply (first_reply (replying_at layout link past)) beat
  reply_fits beat heads carries =
      go (ends_reply (bus_of layout link) (replying_at layout link past) beat)
      (λ address. reply_of (bus_of layout link) (replying_at layout link past) address beat
      (known % 2 ^ bus_of layout link) (take (bus_of layout link) lanes))
      (subst (λ l. AllByRecursion (IsReplySpelled (bus_of layout link)) (ended_replies (bus_of layout link) l))
      (replies_here layout past (reply_at link known lanes beat)) carries.replies_spelled)
      (subst (λ l. begun_reply (bus_of layout link) l ≢ []
      → ReplyCanEndSo (bus_of layout link) (begun_reply (bus_of layout link) l))
      (replies_here layout past (reply_at link known lanes beat)) carries.reply_begun)
    where
      b : ReplyBeat
      b = reply_beat (bus_of layout link) beat known lanes

      go : (ends : Bool) (reply : ℕ → Pattern) → AllByRecursion (IsReplySpelled (bus_of layout link))
          (if ends then ended_replies_at layout link past
          ++ (reply, begun_replies_at layout link past ++ reply_beat (bus_of layout link) beat known lanes ∷ []) ∷ []
          else ended_replies_at layout link past)
          → ((if ends then []
          else begun_replies_at layout link past ++ reply_beat (bus_of layout link) beat known lanes ∷ []) ≢ []
          → ReplyCanEndSo (bus_of layout link) (if ends then []
          else begun_replies_at layout link past ++ reply_beat (bus_of layout link) beat known lanes ∷ []))
          → FitsReply (first_reply (replying_at layout link past)) beat
      go true reply all can =
          let message : List ReplyBeat = begun_replies_at layout link past ++ b ∷ [] in
          reply_spelled_fits (bus_of layout link) reply (replying_at layout link past)
          (begun_replies_at layout link past) b [] heads
          (subst (λ (l : List ReplyBeat). IsReplySpelled (bus_of layout link) (reply, l)) (sym (append-nil message))
          (last_of_all (IsReplySpelled (bus_of layout link)) (ended_replies_at layout link past) (reply, message) all))
      go false reply all can =
          let end = can (some_more (begun_replies_at layout link past) b) in
          reply_spelled_fits (bus_of layout link) end.0 (replying_at layout link past)
          (begun_replies_at layout link past) b end.1 heads end.2
