-- A master stays as it should be when a request is posted, and when a reply is collected.
use Rattle.std.proofs.Common.{◌≡◌, ◌≢◌, ℕ, ◌+◌, ◌-◌, ◌<◌, ◌≤◌, ⊎_elim, List, [], ◌∷◌, ◌++◌, length, map, slice_get, slice_set, Option, Some, None, option_map, true, ap, sym, subst, ◌∙◌, arith, length-append, length-set, get_or, count_by}
use Rattle.std.proofs.lemmas.Bool.{cases_lt}
use Rattle.std.proofs.lemmas.List.{length-map, map_push, get_or-set_same, get_or-set_other}
use Rattle.std.proofs.lemmas.Option.{slice_get-map, slice_get_within}
use mathlib.Core.Logic.{dite}
use native.Mathlib.Decide.{ℕ_discrete}
use Rattle.tl_types.specs.Request.{Request}
use Rattle.tl_types.specs.Response.{Response}
use Rattle.tl_types.specs.declared.trace.Entry.{Entry}
use Rattle.tl_types.proofs.Lists.{slice_get-push}
use Rattle.tl_rule.specs.declared.view.Held.{Held}
use Rattle.tl_rule.specs.declared.view.Held.TheVariants.{Nothing, Filled, Sent, Taken}
use Rattle.tl_rule.specs.Carried.{is_held}
use Rattle.tl_rule.specs.Views.{Above}
use Rattle.tl_rule.proofs.Facts.{in_hand_of}
use Rattle.tl_arena.specs.Views.{MasterView, TicketView, ServedView, hand_at, with_held, entry_of, owned_of}
use Rattle.tl_arena.specs.Promises.{IsCollected, IsIdleSource}
use Rattle.tl_master.specs.Master.{MasterState, count_of, ticket_at, ask_from, reply_to, entry_from, IsInOrder}
use Rattle.tl_master.specs.Steps.{with_out, with_entry}
use Rattle.tl_master.specs.Kept.{IsKeptMaster, IsOut, IsOfSource, widened}
use Rattle.tl_master.proofs.Hands.{posted_here, posted_else, posted_owned, released_owned, source_known, out_more, out_less}

-- ---- what a kept master knows

-- what was sent is one thing
same_ask : (a b : Request) (p q k l : ℕ) → Sent a p k ≡ Sent b q l → a ≡ b
same_ask a b p q k l e = cc

module _ (m : MasterState) (start count : ℕ) (kept : IsKeptMaster m start count) where
  -- two requests out from one slot are one
  pub one_source : (s z : ℕ) (t u : TicketView) → ticket_at m.out s ≡ Some t → ticket_at m.out z ≡ Some u
      → t.slot ≡ u.slot → s ≡ z
  one_source s z t u first second same =
      let a = kept.out_sent s t first in
      let b = kept.out_sent z u second in
      let there : hand_at m.seat t.slot ≡ Sent u.ask u.port u.known = ap (λ (i : ℕ). hand_at m.seat i) same ∙ b.sent in
      let ask = ap (λ (q : Request). q.source)
      (same_ask t.ask u.ask t.port u.port t.known u.known (sym a.sent ∙ there)) in
      let mine = a.ask_source in
      let other = b.ask_source in
      omega arith

  -- the seat's entry at a place is the trace's with its source widened
  pub got_at : (j : ℕ) (e : Entry) → slice_get m.trace j ≡ Some e → slice_get m.seat.got j ≡ Some (widened start e)
  got_at j e at = ap (λ (es : List Entry). slice_get es j) kept.got
      ∙ (slice_get-map (widened start) m.trace j ∙ ap (λ (o : Option Entry). option_map (widened start) o) at)

  -- the seat has as many entries as the trace
  pub got_long : length m.seat.got ≡ length m.trace
  got_long = ap (λ (es : List Entry). length es) kept.got ∙ length-map m.trace (widened start)

  -- what is above the seat's entries is above the trace's
  pub above_trace : (known p index : ℕ) → Above m.seat.got known p index → Above m.trace known p index
  above_trace known p index above j e early at port = above j (widened start e) early (got_at j e at) port

  -- a source with nothing out may be posted
  pub unsent : (s i : ℕ) → ticket_at m.out s ≡ None → hand_at m.seat i ≡ Nothing → i < length m.seat.hand
      → IsIdleSource (with_held m.seat i Filled) (start + s)
  unsent s i idle free lt j p known ask sent same = dite (ℕ_discrete j i)
      (λ e. let here : hand_at (with_held m.seat i Filled) j ≡ Filled =
      ap (λ (k : ℕ). hand_at (with_held m.seat i Filled) k) e ∙ get_or-set_same m.seat.hand i Filled Nothing lt in
      absurd (let clash : Filled ≡ Sent ask p known = sym here ∙ sent in cc))
      (λ ne.
      let was : hand_at m.seat j ≡ Sent ask p known = sym (get_or-set_other m.seat.hand i j Filled Nothing ne) ∙ sent in
      let of_it = kept.sent_out j p known ask was in
      let out = kept.out_sent of_it.source of_it.ticket of_it.out in
      let there : hand_at m.seat j ≡ Sent of_it.ticket.ask of_it.ticket.port of_it.ticket.known =
      ap (λ (k : ℕ). hand_at m.seat k) (sym of_it.here) ∙ out.sent in
      let one = ap (λ (q : Request). q.source)
      (same_ask ask of_it.ticket.ask p of_it.ticket.port known of_it.ticket.known (sym was ∙ there)) in
      let mine = out.ask_source in
      let source : s ≡ of_it.source = omega arith in
      absurd (let clash : None ≡ Some of_it.ticket = sym idle
      ∙ (ap (λ (k : ℕ). ticket_at m.out k) source ∙ of_it.out) in cc))

-- ---- a request more

pub sends_kept : (m : MasterState) (start count s : ℕ) (t : TicketView) → IsKeptMaster m start count → s < length m.out
    → ticket_at m.out s ≡ None → hand_at m.seat t.slot ≡ Nothing
    → t.slot < length m.seat.hand → t.ask.source ≡ start + s → t.known ≡ length m.trace
    → length m.trace + count ≢ m.limit → IsKeptMaster (with_out m s t) start (count + 1)
sends_kept m start count s t kept within idle free lt source known room =
    let n : MasterState = with_out m s t in
    let long : length n.out ≡ length m.out = length-set m.out s (Some t) in
    let counted = kept.count_is in
    let more = out_more m.out s t within idle in
    let owns = kept.owned in
    let owned = posted_owned m.seat t lt free in
    let old_room = kept.room in
    record {
      sources = long ∙ kept.sources;
      wide = λ z z_in. kept.wide z (omega arith);
      fits = let f = kept.fits in omega arith;
      own = λ j e at. let o = kept.own j e at in omega arith;
      got = kept.got;
      count_is = omega arith;
      owned = omega arith;
      room = omega arith;
      out_sent = still_sent;
      sent_out = still_out;
      order = kept.order;
    } where
      n : MasterState
      n = with_out m s t

      here : ticket_at n.out s ≡ Some t
      here = get_or-set_same m.out s (Some t) None within

      else : (z : ℕ) → z ≢ s → ticket_at n.out z ≡ ticket_at m.out z
      else z ne = get_or-set_other m.out s z (Some t) None ne

      late : (j : ℕ) (e : Entry) → t.known ≤ j → slice_get m.trace j ≡ Some e → e.ask.source ≢ s
      late j e after at = λ _. let inside = slice_get_within m.trace j e at in absurd (omega arith)

      still_sent : (z : ℕ) (u : TicketView) → ticket_at n.out z ≡ Some u → IsOut n start z u
      still_sent z u is = dite (ℕ_discrete z s)
          (λ e.
          let same : t ≡ u = (let both : Some t ≡ Some u = sym here
          ∙ (ap (λ (k : ℕ). ticket_at n.out k) (sym e) ∙ is) in cc) in
          subst (λ (w : TicketView). IsOut n start z w) same
          (record {
            sent = posted_here m.seat t lt;
            ask_source = source ∙ ap (λ (k : ℕ). start + k) (sym e);
            since = λ j d after at. subst (λ (k : ℕ). d.ask.source ≢ k) (sym e) (late j d after at);
          }))
          (λ ne.
          let was = kept.out_sent z u (sym (else z ne) ∙ is) in
          let other : u.slot ≢ t.slot =
          (λ same. let clash : Nothing ≡ Sent u.ask u.port u.known = sym free
          ∙ (ap (λ (i : ℕ). hand_at m.seat i) (sym same) ∙ was.sent) in absurd (cc)) in
          record {
            sent = posted_else m.seat t lt u.slot other ∙ was.sent;
            ask_source = was.ask_source;
            since = was.since;
          })

      still_out : (i p since : ℕ) (ask : Request) → hand_at n.seat i ≡ Sent ask p since → IsOfSource n i
      still_out i p since ask is = dite (ℕ_discrete i t.slot)
          (λ e. record { source = s; ticket = t; out = here; here = sym e })
          (λ ne.
          let was = kept.sent_out i p since ask (sym (posted_else m.seat t lt i ne) ∙ is) in
          let other : was.source ≢ s =
          (λ same. let clash : None ≡ Some was.ticket = sym idle
          ∙ (ap (λ (k : ℕ). ticket_at m.out k) (sym same) ∙ was.out) in absurd (cc)) in
          record { source = was.source; ticket = was.ticket; out = else was.source other ∙ was.out; here = was.here })

-- ---- a reply more

-- an entry with its own source, widened again
widened_back : (start s : ℕ) (e : Entry) → e.ask.source ≡ start + s → e.reply.source ≡ start + s
    → widened start (entry_from s e) ≡ e
widened_back start s e ask reply =
    ap (λ (k : ℕ). record {
      ask = ask_from k e.ask;
      reply = reply_to (start + s) e.reply;
      port = e.port;
      index = e.index;
    }) (sym ask)
    ∙ ap (λ (k : ℕ). record { ask = e.ask; reply = reply_to k e.reply; port = e.port; index = e.index }) (sym reply)

-- an entry more whose index is above all that were collected of its source and port
in_order_more : (es : List Entry) (e : Entry) → IsInOrder es
    → ((j : ℕ) (d : Entry) → slice_get es j ≡ Some d → d.ask.source ≡ e.ask.source → d.port ≡ e.port
    → d.index < e.index) → IsInOrder (es ++ e ∷ [])
in_order_more es e order above j k d f before first second source port = ⊎_elim
    (λ (old : slice_get es k ≡ Some f).
    let inside = slice_get_within es k f old in
    order j k d f before (⊎_elim (λ (was : slice_get es j ≡ Some d). was)
    (λ (last : (j ≡ length es) × (e ≡ d)). absurd (let at = last.0 in omega arith))
    (slice_get-push es e d j first)) old source port)
    (λ (last : (k ≡ length es) × (e ≡ f)).
    let at = last.0 in
    let earlier = ⊎_elim (λ (was : slice_get es j ≡ Some d). was)
    (λ (end : (j ≡ length es) × (e ≡ d)). absurd (let there = end.0 in omega arith))
    (slice_get-push es e d j first) in
    let same = ap (λ (x : Entry). x.index) last.1 in
    let less = above j d earlier (source ∙ sym (ap (λ (x : Entry). x.ask.source) last.1))
    (port ∙ sym (ap (λ (x : Entry). x.port) last.1)) in
    omega arith)
    (slice_get-push es e f k second)

pub collects_kept : (m : MasterState) (start count s : ℕ) (t : TicketView) (r : ServedView) (v : MasterView)
    → IsKeptMaster m start count → ticket_at m.out s ≡ Some t → IsCollected m.seat t r v
    → IsKeptMaster (with_entry m s (with_held v r.slot Nothing) (entry_from s (entry_of r))) start (count - 1)
collects_kept m start count s t r v kept is got =
    let long : length (slice_set m.out s None) ≡ length m.out = length-set m.out s None in
    let known = source_known m.out s t is in
    let counted = kept.count_is in
    let less = out_less m.out s t is in
    let owns = kept.owned in
    let old_room = kept.room in
    let push = length-append m.trace (entry_from s (entry_of r) ∷ []) in
    let about = ap (λ (w : MasterView). w.arena.about.owners) got.seat in
    let number = ap (λ (w : MasterView). w.number) got.seat in
    let fewer = released in
    record {
      sources = long ∙ (kept.sources ∙ sym (ap (λ (w : MasterView). count_of w.arena.about.owners w.number) got.seat));
      wide = λ z z_in. rw (about, number) (kept.wide z (omega arith));
      fits = let f = kept.fits in omega arith;
      own = λ j e at. ⊎_elim (λ (was : slice_get m.trace j ≡ Some e). let o = kept.own j e was in omega arith)
          (λ (last : (j ≡ length m.trace) × (mine ≡ e)). let o = ap (λ (x : Entry). x.ask.source) last.1 in omega arith)
          (slice_get-push m.trace mine e j at);
      got = ap (λ (w : MasterView). w.got) got.seat
          ∙ (ap (λ (es : List Entry). es ++ entry_of r ∷ []) kept.got
          ∙ (ap (λ (x : Entry). map (widened start) m.trace ++ x ∷ []) (sym back)
          ∙ sym (map_push (widened start) m.trace mine)));
      count_is = omega arith;
      owned = omega arith;
      room = omega arith;
      out_sent = still_sent;
      sent_out = still_out;
      order = in_order_more m.trace mine kept.order above;
    } where
      n : MasterState
      n = with_entry m s (with_held v r.slot Nothing) (entry_from s (entry_of r))

      mine : Entry
      mine = entry_from s (entry_of r)

      sent : IsOut m start s t
      sent = kept.out_sent s t is

      source : r.ask.source ≡ start + s
      source = ap (λ (q : Request). q.source) got.ask ∙ sent.ask_source

      -- a lawful reply has the source of its request
      reply : r.reply.source ≡ r.ask.source
      reply = ap (λ (x : Response). x.source) (got.lawful r.index r.ask r.reply got.seen.place)

      back : widened start mine ≡ entry_of r
      back = widened_back start s (entry_of r) source (reply ∙ source)

      slot_in : r.slot < length m.seat.hand
      slot_in = in_hand_of m.seat.hand r.slot (λ none. let there = sent.sent in let same = got.slot in
          absurd (let clash : Nothing ≡ Sent t.ask t.port t.known = sym none
          ∙ (ap (λ (i : ℕ). hand_at m.seat i) same ∙ there) in cc))

      hand : (with_held v r.slot Nothing).hand ≡ slice_set (slice_set m.seat.hand r.slot (Taken r.port)) r.slot Nothing
      hand = ap (λ (w : MasterView). slice_set w.hand r.slot Nothing) got.seat

      released : owned_of (with_held v r.slot Nothing) + 1 ≡ owned_of m.seat
      released =
          let held : is_held (get_or m.seat.hand r.slot Nothing) ≡ true =
          ap is_held (ap (λ (i : ℕ). hand_at m.seat i) got.slot ∙ sent.sent) in
          let count = released_owned m.seat.hand r.slot r.port slot_in held in
          let same = ap (λ (h : List Held). count_by is_held h) hand in
          omega arith

      hand_at_else : (i : ℕ) → i ≢ r.slot → hand_at n.seat i ≡ hand_at m.seat i
      hand_at_else i ne = ap (λ (h : List Held). get_or h i Nothing) hand
          ∙ (get_or-set_other (slice_set m.seat.hand r.slot (Taken r.port)) r.slot i Nothing Nothing ne
          ∙ get_or-set_other m.seat.hand r.slot i (Taken r.port) Nothing ne)

      hand_at_here : hand_at n.seat r.slot ≡ Nothing
      hand_at_here = ap (λ (h : List Held). get_or h r.slot Nothing) hand
          ∙ get_or-set_same (slice_set m.seat.hand r.slot (Taken r.port)) r.slot Nothing Nothing
          (let lt = slot_in in let same = length-set m.seat.hand r.slot (Taken r.port) in omega arith)

      none_here : ticket_at n.out s ≡ None
      none_here = get_or-set_same m.out s None None (source_known m.out s t is)

      else : (z : ℕ) → z ≢ s → ticket_at n.out z ≡ ticket_at m.out z
      else z ne = get_or-set_other m.out s z None None ne

      still_sent : (z : ℕ) (u : TicketView) → ticket_at n.out z ≡ Some u → IsOut n start z u
      still_sent z u at =
          let ne : z ≢ s = (λ e. let clash : None ≡ Some u = sym none_here
          ∙ (ap (λ (k : ℕ). ticket_at n.out k) (sym e) ∙ at) in absurd (cc)) in
          let was_at : ticket_at m.out z ≡ Some u = sym (else z ne) ∙ at in
          let was = kept.out_sent z u was_at in
          let other : u.slot ≢ r.slot =
          (λ same. ne (one_source m start count kept z s u t was_at is (same ∙ got.slot))) in
          record {
            sent = hand_at_else u.slot other ∙ was.sent;
            ask_source = was.ask_source;
            since = λ j e after there. ⊎_elim (λ (old : slice_get m.trace j ≡ Some e). was.since j e after old)
                (λ (last : (j ≡ length m.trace) × (mine ≡ e)). λ same. ne
                (sym (ap (λ (x : Entry). x.ask.source) last.1 ∙ same))) (slice_get-push m.trace mine e j there);
          }

      still_out : (i p since : ℕ) (ask : Request) → hand_at n.seat i ≡ Sent ask p since → IsOfSource n i
      still_out i p since ask at =
          let ne : i ≢ r.slot =
          (λ e. let clash : Nothing ≡ Sent ask p since = sym hand_at_here
          ∙ (ap (λ (k : ℕ). hand_at n.seat k) (sym e) ∙ at) in absurd (cc)) in
          let was = kept.sent_out i p since ask (sym (hand_at_else i ne) ∙ at) in
          let other : was.source ≢ s =
          (λ e. let same : t ≡ was.ticket = (let both : Some t ≡ Some was.ticket = sym is
          ∙ (ap (λ (k : ℕ). ticket_at m.out k) (sym e) ∙ was.out) in cc) in
          ne (sym was.here ∙ (ap (λ (x : TicketView). x.slot) (sym same) ∙ sym got.slot))) in
          record { source = was.source; ticket = was.ticket; out = else was.source other ∙ was.out; here = was.here }

      above : (j : ℕ) (d : Entry) → slice_get m.trace j ≡ Some d → d.ask.source ≡ s → d.port ≡ r.port
          → d.index < r.index
      above j d at of_s port = ⊎_elim
          (λ (early : j < t.known). above_trace m start count kept t.known r.port r.index got.above j d early at port)
          (λ (late : t.known ≤ j). absurd (sent.since j d late at of_s))
          (cases_lt j t.known)
