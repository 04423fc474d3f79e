-- What had been collected when an operation was done, from call to call.
use Rattle.std.proofs.Common.{◌≡◌, ◌≢◌, ℕ, ◌+◌, ◌<◌, ◌≤◌, ◌∙◌, List, [], ◌∷◌, ◌++◌, length, take, drop, slice_get, set, eqb, Option, Some, None, ⊎_elim, refl, sym, ap, subst, arith, length-append}
use Rattle.std.proofs.lemmas.Bool.{eq-eqb, ne_eqb}
use Rattle.std.proofs.lemmas.List.{append-nil, map-append, take_all, take-take, take-append-le, take-append-drop, take_more, get_or-set_same, get_or-set_other, length-take-le}
use Rattle.std.proofs.lemmas.List.Elements.{filter-append}
use Rattle.std.proofs.lemmas.Option.{slice_get_within, get_or_from_slice_get}
use mathlib.Core.Logic.{dite}
use native.Mathlib.Decide.{ℕ_discrete}
use Rattle.tl_types.specs.Request.{Request}
use Rattle.tl_types.specs.declared.trace.Entry.{Entry}
use Rattle.tl_types.proofs.Lists.{slice_get-push, slice_get-take, slice_get-drop}
use Rattle.tl_map.specs.declared.range.Range.{Range}
use Rattle.tl_script.specs.declared.operation.Job.{Job}
use Rattle.tl_script.specs.declared.operation.Job.TheVariants.{Wait, Send}
use Rattle.tl_script.specs.System.{sends}
use Rattle.tl_arena.specs.Views.{TicketView}
use Rattle.tl_master.specs.declared.master.Issued.{Issued}
use Rattle.tl_master.specs.Master.{MasterState, requests_of, of_source, asked, out_ask, ticket_at}
use Rattle.tl_master.specs.Steps.{IssuesOne, CollectsOne}
use Rattle.tl_master.proofs.Hands.{source_known}
use Rattle.tl_workers.specs.Trace.{StandFirst, many_of, AreServedBefore, IsDoneAfter, IsCut, HasBeenAsked, WasDone, IsLonger}
use Rattle.tl_workers.proofs.Rows.{one_some}

-- ---- how many entries of a source there are

many_append : (s : ℕ) (xs ys : List Request) → many_of s (xs ++ ys) ≡ many_of s xs + many_of s ys
many_append s xs ys = ap (λ (l : List Request). length l) (filter-append (λ (q : Request). eqb q.source s) xs ys)
    ∙ length-append (of_source s xs) (of_source s ys)

many_more : (s : ℕ) (es fs : List Entry)
    → many_of s (requests_of (es ++ fs)) ≡ many_of s (requests_of es) + many_of s (requests_of fs)
many_more s es fs = ap (many_of s) (map-append (λ (e : Entry). e.ask) es fs)
    ∙ many_append s (requests_of es) (requests_of fs)

-- an entry counts for its own source, and for no other
one_own : (s : ℕ) (e : Entry) → e.ask.source ≡ s → many_of s (requests_of (e ∷ [])) ≡ 1
one_own s e is = rw (eq-eqb e.ask.source s is) refl

none_other : (s : ℕ) (e : Entry) → e.ask.source ≢ s → many_of s (requests_of (e ∷ [])) ≡ 0
none_other s e other = rw (ne_eqb e.ask.source s other) refl

-- a part in front has no more than the whole
many_front : (s k : ℕ) (es : List Entry) → many_of s (requests_of (take k es)) ≤ many_of s (requests_of es)
many_front s k es =
    let whole = ap (λ (l : List Entry). many_of s (requests_of l)) (take-append-drop k es) in
    let parts = many_more s (take k es) (drop k es) in
    omega arith

-- before an entry there is one less of its source
many_before : (k : ℕ) (es : List Entry) (e : Entry) → slice_get es k ≡ Some e
    → many_of e.ask.source (requests_of (take k es)) + 1 ≤ many_of e.ask.source (requests_of es)
many_before k es e at =
    let s = e.ask.source in
    let within = slice_get_within es k e at in
    let more : take (k + 1) es ≡ take k es ++ e ∷ [] =
    take_more es k e within ∙ ap (λ (x : Entry). take k es ++ x ∷ []) (get_or_from_slice_get es k e e at) in
    let counted = ap (λ (l : List Entry). many_of s (requests_of l)) more in
    let parts = many_more s (take k es) (e ∷ []) in
    let own = one_own s e refl in
    let front = many_front s (k + 1) es in
    omega arith

-- ---- a cut is made

-- what was asked is what was collected and what is out
asked_many : (m : MasterState) (s : ℕ) → length (asked m s) ≡ many_of s (requests_of m.trace) + length
    (out_ask s (ticket_at m.out s))
asked_many m s = length-append (of_source s (requests_of m.trace)) (out_ask s (ticket_at m.out s))

-- whatever was asked so far, all that was collected so far is before what will be asked
pub cut_now : (asks : List Request) (m : MasterState) → HasBeenAsked asks m → IsCut asks (length m.trace) m
cut_now asks m all = record {
  within = omega arith;
  out = λ s t at few.
      let parts = asked_many m s in
      let one = ap (λ (o : Option TicketView). length (out_ask s o)) at in
      let many = ap (λ (l : List Request). length l) (all s) in
      absurd (omega arith);
  served = λ j k d e before first second after port.
      let s = e.ask.source in
      let parts = asked_many m s in
      let many = ap (λ (l : List Request). length l) (all s) in
      let less = many_before k m.trace e second in
      absurd (omega arith);
}

-- ---- and stays

-- what was out goes on being out, and something more is
pub issues_cut : (ranges : List (List Range)) (m : MasterState) (q : Request) (issued : Issued) (n : MasterState)
    → IssuesOne ranges m q issued n → (asks : List Request) (had : ℕ) → IsCut asks had m → IsCut asks had n
issues_cut ranges m q issued n s asks had c =
    subst (λ (x : MasterState). IsCut asks had x) (sym s.master)
    (record { within = c.within; out = out; served = c.served }) where
      out : (z : ℕ) (u : TicketView) → ticket_at (set m.out q.source (Some s.ticket)) z ≡ Some u
          → many_of z asks ≤ many_of z (requests_of m.trace) → had ≤ u.known
      out z u at few = dite (ℕ_discrete z q.source)
          (λ e.
          let here : ticket_at (set m.out q.source (Some s.ticket)) q.source ≡ Some s.ticket =
          get_or-set_same m.out q.source (Some s.ticket) None s.known in
          let same : s.ticket ≡ u =
          one_some (ticket_at (set m.out q.source (Some s.ticket)) q.source) s.ticket u here
          (ap (λ (k : ℕ). ticket_at (set m.out q.source (Some s.ticket)) k) (sym e) ∙ at) in
          let known = ap (λ (t : TicketView). t.known) same in
          let since = s.since in
          let within = c.within in
          omega arith)
          (λ ne. c.out z u (sym (get_or-set_other m.out q.source z (Some s.ticket) None ne) ∙ at) few)

-- what was out is an entry now, whose index is above what had been collected when it was issued
module _ (m : MasterState) (source place : ℕ) (n : MasterState) (c : CollectsOne m source place n) (asks : List Request)
    (had : ℕ) (cut : IsCut asks had m) where
  abbrev es : List Entry
  es = m.trace ++ c.entry ∷ []

  own : c.entry.ask.source ≡ source
  own = ap (λ (x : Entry). x.ask.source) c.reply.entry

  front : (j : ℕ) (d : Entry) → j < length m.trace → slice_get es j ≡ Some d → slice_get m.trace j ≡ Some d
  front j d before at = ⊎_elim (λ (old : slice_get m.trace j ≡ Some d). old)
      (λ (last : (j ≡ length m.trace) × (c.entry ≡ d)). absurd (let end = last.0 in omega arith))
      (slice_get-push m.trace c.entry d j at)

  abbrev tickets : List (Option TicketView)
  tickets = set m.out source None

  still_out : (z : ℕ) (u : TicketView) → ticket_at tickets z ≡ Some u → many_of z asks ≤ many_of z (requests_of es)
      → had ≤ u.known
  still_out z u at few = dite (ℕ_discrete z source)
      (λ e.
      let none : ticket_at tickets source ≡ None =
      get_or-set_same m.out source None None (source_known m.out source c.ticket c.was) in
      let clash : None ≡ Some u = sym none ∙ ap (λ (k : ℕ). ticket_at tickets k) (sym e) ∙ at in
      absurd cc)
      (λ ne.
      let parts = many_more z m.trace (c.entry ∷ []) in
      let other = none_other z c.entry (λ same. ne (sym same ∙ own)) in
      cut.out z u (sym (get_or-set_other m.out source z None None ne) ∙ at) (omega arith))

  -- the new entry, if it was sent after those requests
  last_served : (j : ℕ) (d : Entry) → j < had → slice_get m.trace j ≡ Some d
      → many_of c.entry.ask.source asks ≤ many_of c.entry.ask.source (requests_of m.trace) → d.port ≡ c.entry.port
      → d.index < c.entry.index
  last_served j d before at after port =
      let known = cut.out source c.ticket c.was
      (subst (λ (s : ℕ). many_of s asks ≤ many_of s (requests_of m.trace)) own after) in
      c.above j d (omega arith) at port

  still_served : AreServedBefore asks had es
  still_served j k d e before first second after port =
      let within = cut.within in
      let early = front j d (omega arith) first in
      ⊎_elim
      (λ (old : slice_get m.trace k ≡ Some e).
      let inside = slice_get_within m.trace k e old in
      let same : take k es ≡ take k m.trace = take-append-le k m.trace (c.entry ∷ []) (omega arith) in
      cut.served j k d e before early old (subst
      (λ (l : List Entry). many_of e.ask.source asks ≤ many_of e.ask.source (requests_of l)) same after) port)
      (λ (last : (k ≡ length m.trace) × (c.entry ≡ e)).
      let all : take k es ≡ m.trace =
      ap (λ (i : ℕ). take i es) last.0 ∙ take-append-le (length m.trace) m.trace (c.entry ∷ []) (omega arith)
      ∙ take_all (length m.trace) m.trace (omega arith) in
      let mine = subst (λ (l : List Entry). many_of e.ask.source asks ≤ many_of e.ask.source
      (requests_of l)) all after in
      let its = subst (λ (x : Entry). many_of x.ask.source asks ≤ many_of x.ask.source (requests_of m.trace))
      (sym last.1) mine in
      subst (λ (x : Entry). d.index < x.index) last.1
      (last_served j d before early its (port ∙ ap (λ (x : Entry). x.port) (sym last.1))))
      (slice_get-push m.trace c.entry e k second)

  pub collects_cut : IsCut asks had n
  collects_cut = subst (λ (x : MasterState). IsCut asks had x) (sym c.master) (record {
    within = let within = cut.within in let long = length-append m.trace (c.entry ∷ []) in omega arith;
    out = still_out;
    served = still_served;
  })

-- ---- an operation was done

-- a request was issued: nothing of its source was out
pub issues_turn : (ranges : List (List Range)) (m : MasterState) (q : Request) (issued : Issued) (n : MasterState)
    → IssuesOne ranges m q issued n → (asks : List Request) → HasBeenAsked asks m → WasDone asks (Send q) n
issues_turn ranges m q issued n s asks all = record {
  had = length m.trace;
  cut = issues_cut ranges m q issued n s asks (length m.trace) (cut_now asks m all);
  waited = λ source is. subst (λ (z : ℕ). of_source z
      (requests_of (take (length m.trace) n.trace)) ≡ of_source z asks) is (
      ap (λ (l : List Entry). of_source q.source (requests_of l))
      (ap (λ (x : MasterState). take (length m.trace) x.trace) s.master
      ∙ take_all (length m.trace) m.trace (omega arith))
      ∙ sym (append-nil (of_source q.source (requests_of m.trace)))
      ∙ ap (λ (o : Option TicketView). of_source q.source (requests_of m.trace) ++ out_ask q.source o) (sym s.idle)
      ∙ all q.source);
}

-- a wait: nothing is out
pub waits_turn : (n : MasterState) (asks : List Request) → HasBeenAsked asks n
    → ((s : ℕ) → of_source s (requests_of n.trace) ≡ of_source s asks) → WasDone asks Wait n
waits_turn n asks all collected = record {
  had = length n.trace;
  cut = cut_now asks n all;
  waited = λ s _. ap (λ (l : List Entry). of_source s (requests_of l)) (take_all (length n.trace) n.trace (omega arith))
      ∙ collected s;
}

-- it stays done
pub done_still : (asks : List Request) (job : Job) (m n : MasterState) → WasDone asks job m → IsLonger m.trace n.trace
    → ((had : ℕ) → IsCut asks had m → IsCut asks had n) → WasDone asks job n
done_still asks job m n was longer cuts = record {
  had = was.had;
  cut = cuts was.had was.cut;
  waited = λ s is. ap (λ (l : List Entry). of_source s (requests_of l))
      (ap (take was.had) longer.is ∙ take-append-le was.had m.trace longer.more was.cut.within) ∙ was.waited s is;
}

-- ---- in the end

pub done_after : (asks : List Request) (job : Job) (m : MasterState) (es : List Entry) → WasDone asks job m
    → es ≡ m.trace → IsDoneAfter asks job es
done_after asks job m es was is =
    subst (λ (l : List Entry). IsDoneAfter asks job l) (sym is)
    (record { had = was.had; within = was.cut.within; waited = was.waited; served = was.cut.served })

-- what had been collected at a wait stands first
pub first_of_wait : (jobs : List Job) (es : List Entry) → IsDoneAfter (sends jobs) Wait es → StandFirst jobs es
first_of_wait jobs es d = record {
  first = take d.had es;
  others = drop d.had es;
  is = sym (take-append-drop d.had es);
  each = λ s. d.waited s tt;
  served = λ j k a b first second port.
      let long = length-take-le d.had es d.within in
      let before : j < d.had = let inside = slice_get_within (take d.had es) j a first in omega arith in
      let s = b.ask.source in
      let front : take d.had (take (d.had + k) es) ≡ take d.had es = take-take d.had (d.had + k) es (omega arith) in
      let counted = ap (λ (l : List Entry). many_of s (requests_of l)) front in
      let fewer = many_front s d.had (take (d.had + k) es) in
      let sent = ap (λ (l : List Request). length l) (d.waited s tt) in
      d.served j (d.had + k) a b before (sym (slice_get-take d.had es j before) ∙ first)
      (sym (slice_get-drop d.had es k) ∙ second) (omega arith) port;
}
