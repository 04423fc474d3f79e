-- What a master was asked, from call to call.
use Rattle.std.proofs.Common.{◌≡◌, ℕ, zero, suc, replicate, ◌+◌, ◌<◌, ◌≤◌, ◌∙◌, List, [], ◌∷◌, ◌++◌, length, take, get_or, slice_get, set, cond, is_some, unwrap_or, count_by, eqb, Option, Some, None, ⊎_elim, refl, sym, ap, subst, arith}
use Rattle.std.proofs.lemmas.Bool.{cases_lt}
use Rattle.std.proofs.lemmas.List.{append-nil, append_assoc, take_more, take_all, get_or-set_same, get_or-set_other}
use Rattle.std.proofs.lemmas.List.Sums.{sum_by-set}
use Rattle.std.proofs.lemmas.Option.{slice_get_within, slice_get-get_or, get_or_from_slice_get, unwrap_or-slice_get}
use Rattle.std.proofs.lemmas.List.Elements.{filter-append, filter_map-append}
use mathlib.Core.Logic.{dite}
use native.Mathlib.Decide.{ℕ_discrete}
use Rattle.tl_types.specs.Request.{Request}
use Rattle.tl_types.specs.declared.trace.Entry.{Entry}
use Rattle.tl_journal.specs.Trace.{TraceView}
use Rattle.tl_types.proofs.Lists.{slice_get-push}
use Rattle.tl_map.specs.declared.range.Range.{Range}
use Rattle.tl_map.specs.Map.{Routes}
use Rattle.tl_script.specs.declared.operation.Job.{Job}
use Rattle.tl_script.specs.declared.operation.Job.TheVariants.{Wait, Send}
use Rattle.tl_script.specs.System.{sends, sent_by}
use Rattle.tl_rule.proofs.Carried.{none_yet}
use Rattle.tl_arena.specs.Views.{ArenaId, MasterView, TicketView, owned_of, new_master}
use Rattle.tl_arena.specs.Promises.{IsCollected, OwnsHistories}
use Rattle.tl_master.specs.declared.master.Issued.{Issued}
use Rattle.tl_master.specs.declared.master.Polled.{Polled}
use Rattle.tl_master.specs.declared.master.Polled.TheVariants.{Idle, NotYet, Done}
use Rattle.tl_master.specs.Master.{MasterState, IsInOrder, AreWidened, requests_of, of_source, asked, out_of, out_ask, ticket_at, new_state, count_of}
use Rattle.tl_master.specs.Steps.{IssuesOne, CollectsOne, AsksMore, AsksSame, Polls, ask_of}
use Rattle.tl_master.proofs.Hands.{source_known}
use Rattle.tl_workers.specs.Trace.{AreDoneInTurn, AreRouted, WereDone, IsCut, IsTrace, WasDone, IsRouted, IsLonger, IsSame, HasAsked, HasDone, IsDriven, IsIdle}
use Rattle.tl_workers.proofs.Rows.{one_some}
use Rattle.tl_workers.proofs.Cuts.{issues_cut, collects_cut, issues_turn, waits_turn, done_still, done_after, first_of_wait}
use Rattle.tl_workers.specs.Start.{Handle, IsPromised, IsTraceOf}

-- ---- what the trace has, and where requests go

longer_self : (es : List Entry) → IsLonger es es
longer_self es = record { more = []; is = sym (append-nil es) }

longer_then : (es fs gs : List Entry) → IsLonger es fs → IsLonger fs gs → IsLonger es gs
longer_then es fs gs p q =
    record {
      more = p.more ++ q.more;
      is = q.is ∙ ap (λ (l : List Entry). l ++ q.more) p.is ∙ append_assoc es p.more q.more;
    }

routed_more : (ranges : List (List Range)) (es : List Entry) (e : Entry) → AreRouted ranges es → Routes ranges e.ask e.port
    → AreRouted ranges (es ++ e ∷ [])
routed_more ranges es e all new k f at = ⊎_elim (λ (old : slice_get es k ≡ Some f). all k f old)
    (λ (last : (k ≡ length es) × (e ≡ f)). subst (λ (x : Entry). Routes ranges x.ask x.port) last.1 new)
    (slice_get-push es e f k at)

-- what is out after a request was put out for its source
sends_routed : (ranges : List (List Range)) (m : MasterState) (q : Request) (issued : Issued) (n : MasterState)
    → IssuesOne ranges m q issued n → IsRouted ranges m → IsRouted ranges n
sends_routed ranges m q issued n s r =
    subst (λ (x : MasterState). IsRouted ranges x) (sym s.master) (record { trace = r.trace; out = still }) where
      t : TicketView
      t = s.ticket

      new : Routes ranges t.ask t.port
      new = subst (λ (x : Request). Routes ranges x t.port) (sym s.posted.ask) s.posted.routed

      out : List (Option TicketView)
      out = set m.out q.source (Some t)

      still : (z : ℕ) (u : TicketView) → ticket_at out z ≡ Some u → Routes ranges u.ask u.port
      still z u at = dite (ℕ_discrete z q.source)
          (λ e.
          let here : ticket_at out q.source ≡ Some t = get_or-set_same m.out q.source (Some t) None s.known in
          let same : t ≡ u = one_some (ticket_at out q.source) t u here (ap (λ (k : ℕ). ticket_at out k) (sym e) ∙ at) in
          subst (λ (w : TicketView). Routes ranges w.ask w.port) same new)
          (λ ne. r.out z u (sym (get_or-set_other m.out q.source z (Some t) None ne) ∙ at))

-- the entry of what was out goes where that went
collects_routed : (ranges : List (List Range)) (m : MasterState) (source place : ℕ) (n : MasterState)
    → CollectsOne m source place n → IsRouted ranges m → IsRouted ranges n
collects_routed ranges m source place n c r =
    subst (λ (x : MasterState). IsRouted ranges x) (sym c.master)
    (record { trace = routed_more ranges m.trace c.entry r.trace entry; out = still }) where
      got : IsCollected m.seat c.ticket c.reply.served c.reply.taken
      got = c.reply.collected

      served : Routes ranges c.reply.served.ask c.reply.served.port
      served = subst (λ (p : ℕ). Routes ranges c.reply.served.ask p) (sym got.port)
          (subst (λ (x : Request). Routes ranges x c.ticket.port) (sym got.ask) (r.out source c.ticket c.was))

      entry : Routes ranges c.entry.ask c.entry.port
      entry = subst (λ (x : Entry). Routes ranges x.ask x.port) (sym c.reply.entry) served

      out : List (Option TicketView)
      out = set m.out source None

      still : (z : ℕ) (u : TicketView) → ticket_at out z ≡ Some u → Routes ranges u.ask u.port
      still z u at = dite (ℕ_discrete z source)
          (λ e.
          let none : ticket_at out source ≡ None =
          get_or-set_same m.out source None None (source_known m.out source c.ticket c.was) in
          let clash : None ≡ Some u = sym none ∙ ap (λ (k : ℕ). ticket_at out k) (sym e) ∙ at in
          absurd cc)
          (λ ne. r.out z u (sym (get_or-set_other m.out source z None None ne) ∙ at))

-- ---- from call to call

pub same_self : (m : MasterState) → IsSame m m
same_self m = record {
  arena = refl;
  number = refl;
  asked_is = λ s. refl;
  longer = longer_self m.trace;
  cuts = λ asks had c. c;
  routed = λ ranges r. r;
}

pub same_then : (m n o : MasterState) → IsSame m n → IsSame n o → IsSame m o
same_then m n o p q = record {
  arena = q.arena ∙ p.arena;
  number = q.number ∙ p.number;
  asked_is = λ s. q.asked_is s ∙ p.asked_is s;
  longer = longer_then m.trace n.trace o.trace p.longer q.longer;
  cuts = λ asks had c. q.cuts asks had (p.cuts asks had c);
  routed = λ ranges r. q.routed ranges (p.routed ranges r);
}

pub same_asked : (ranges : List (List Range)) (m n o : MasterState) (q : Request) → IsSame m n → HasAsked ranges n q o
    → HasAsked ranges m q o
same_asked ranges m n o q p r = record {
  arena = r.arena ∙ p.arena;
  number = r.number ∙ p.number;
  asked_is = λ s. r.asked_is s ∙ ap (λ (l : List Request). l ++ ask_of s q) (p.asked_is s);
  longer = longer_then m.trace n.trace o.trace p.longer r.longer;
  cuts = λ asks had c. r.cuts asks had (p.cuts asks had c);
  turn = λ asks all. r.turn asks (λ s. p.asked_is s ∙ all s);
  routed = λ was. r.routed (p.routed ranges was);
}

-- what an issue sends was asked
pub issue_asks : (ranges : List (List Range)) (m : MasterState) (q : Request) (issued : Issued) (n : MasterState)
    → IssuesOne ranges m q issued n → AsksMore m q n → HasAsked ranges m q n
issue_asks ranges m q issued n s more = record {
  arena = ap (λ (x : MasterState). x.seat.arena) s.master;
  number = ap (λ (x : MasterState). x.seat.number) s.master;
  asked_is = more;
  longer = subst (λ (x : MasterState). IsLonger m.trace x.trace) (sym s.master) (longer_self m.trace);
  cuts = issues_cut ranges m q issued n s;
  turn = issues_turn ranges m q issued n s;
  routed = sends_routed ranges m q issued n s;
}

-- a call that changed nothing
unchanged : (m n : MasterState) → n ≡ m → IsSame m n
unchanged m n is = subst (λ (x : MasterState). IsSame m x) (sym is) (same_self m)

-- what a poll collects was asked before
pub poll_same : (m : MasterState) (source : ℕ) (polled : Polled) (n : MasterState) → Polls m source polled n
    → AsksSame m n → IsSame m n
poll_same m source Idle n p same = unchanged m n p.0
poll_same m source NotYet n p same = unchanged m n p.0
poll_same m source (Done place) n p same = record {
  arena = ap (λ (v : MasterView). v.arena) p.reply.seat ∙ ap (λ (v : MasterView). v.arena) p.reply.collected.seat;
  number = ap (λ (v : MasterView). v.number) p.reply.seat ∙ ap (λ (v : MasterView). v.number) p.reply.collected.seat;
  asked_is = same;
  longer = record { more = p.entry ∷ []; is = ap (λ (x : MasterState). x.trace) p.master };
  cuts = collects_cut m source place n p;
  routed = λ ranges. collects_routed ranges m source place n p;
}

-- whether a ticket is there, as a number
abbrev bit : Option TicketView → ℕ
bit o = cond (is_some o) 1 0

pub none_out : (out : List (Option TicketView)) → out_of out ≡ 0 → (s : ℕ) → ticket_at out s ≡ None
none_out out none s = by (slice_get out s) refl where
  by : (found : Option (Option TicketView)) → slice_get out s ≡ found → ticket_at out s ≡ None
  by None is = sym (unwrap_or-slice_get out s None) ∙ ap (λ (o : Option (Option TicketView)). unwrap_or o None) is
  by (Some None) is = get_or_from_slice_get out s None None is
  by (Some (Some t)) is =
      let lt = slice_get_within out s (Some t) is in
      let sum : count_by is_some (set out s None) + bit (get_or out s None) ≡ count_by is_some out + bit None =
      sum_by-set bit out s None None lt in
      let one : bit (get_or out s None) ≡ 1 = ap bit (get_or_from_slice_get out s (Some t) None is) in
      absurd (omega arith)

pub all_asked : (m : MasterState) → out_of m.out ≡ 0 → (s : ℕ) → asked m s ≡ of_source s (requests_of m.trace)
all_asked m none s = ap (λ (o : Option TicketView). of_source s (requests_of m.trace) ++ out_ask s o)
    (none_out m.out none s) ∙ append-nil (of_source s (requests_of m.trace))

sends_snoc : (js : List Job) (j : Job) → sends (js ++ j ∷ []) ≡ sends js ++ sends (j ∷ [])
sends_snoc js j = filter_map-append sent_by js (j ∷ [])

pub next_sends : (js : List Job) (k : ℕ) (d j : Job) → k < length js → get_or js k d ≡ j
    → sends (take (k + 1) js) ≡ sends (take k js) ++ sends (j ∷ [])
next_sends js k d j lt is =
    ap sends (take_more js k d lt) ∙ sends_snoc (take k js) (get_or js k d)
    ∙ ap (λ (x : Job). sends (take k js) ++ sends (x ∷ [])) is

-- one operation more, done in its turn
turns_more : (js : List Job) (k : ℕ) (d j : Job) (m n : MasterState) → k < length js → get_or js k d ≡ j
    → WereDone js k m → IsLonger m.trace n.trace
    → ((asks : List Request) (had : ℕ) → IsCut asks had m → IsCut asks had n)
    → WasDone (sends (take k js)) j n → WereDone js (k + 1) n
turns_more js k d j m n within here was longer cuts last i job lt is =
    ⊎_elim (λ (old : i < k). done_still (sends (take i js)) job m n (was i job old is) longer
    (cuts (sends (take i js))))
    (λ (late : k ≤ i).
    let e : k ≡ i = omega arith in
    let same : j ≡ job = one_some (slice_get js k) j job
    (slice_get-get_or js k d within ∙ ap (λ (x : Job). Some x) here) (ap (λ (x : ℕ). slice_get js x) e ∙ is) in
    subst (λ (x : ℕ). WasDone (sends (take x js)) job n) e
    (subst (λ (x : Job). WasDone (sends (take k js)) x n) same last))
    (cases_lt i k)

module _ (a : ArenaId) (ranges : List (List Range)) (number : ℕ) (js : List Job) where
  -- nothing was done yet
  pub idle_driven : (m : MasterState) → IsIdle a number m → IsDriven a ranges number js 0 m
  idle_driven m idle = record {
    arena_is = idle.arena_is;
    number_is = idle.number_is;
    asked_is = idle.none;
    turns = λ k job lt is. absurd (omega arith);
    routed = idle.routed ranges;
  }

  driven_job : (k : ℕ) (d : Job) (m n : MasterState) (j : Job) → k < length js → get_or js k d ≡ j
      → IsDriven a ranges number js k m → HasDone ranges m j n → IsDriven a ranges number js (k + 1) n
  driven_job k d m n Wait lt is p q =
      let same = q.0 in
      record {
        arena_is = same.arena ∙ p.arena_is;
        number_is = same.number ∙ p.number_is;
        asked_is = λ s. same.asked_is s ∙ p.asked_is s
            ∙ ap (of_source s) (sym (next_sends js k d Wait lt is ∙ append-nil (sends (take k js))));
        turns = turns_more js k d Wait m n lt is p.turns same.longer same.cuts
            (waits_turn n (sends (take k js)) (λ s. same.asked_is s ∙ p.asked_is s)
            (λ s. sym (all_asked n q.1 s) ∙ same.asked_is s ∙ p.asked_is s));
        routed = same.routed ranges p.routed;
      }
  driven_job k d m n (Send q) lt is p r = record {
    arena_is = r.arena ∙ p.arena_is;
    number_is = r.number ∙ p.number_is;
    asked_is = λ s. r.asked_is s ∙ ap (λ (l : List Request). l ++ ask_of s q) (p.asked_is s)
        ∙ sym (filter-append (λ (x : Request). eqb x.source s) (sends (take k js)) (q ∷ []))
        ∙ ap (of_source s) (sym (next_sends js k d (Send q) lt is));
    turns = turns_more js k d (Send q) m n lt is p.turns r.longer r.cuts (r.turn (sends (take k js)) p.asked_is);
    routed = r.routed p.routed;
  }

  pub one_more : (k : ℕ) (d : Job) (m n : MasterState) → k < length js → IsDriven a ranges number js k m
      → HasDone ranges m (get_or js k d) n → IsDriven a ranges number js (k + 1) n
  one_more k d m n lt p q = driven_job k d m n (get_or js k d) lt refl p q

  -- where nothing is out any more, the trace is that of the operations
  pub traced : (k : ℕ) (m n : MasterState) (es : List Entry) → length js ≤ k → IsDriven a ranges number js k m
      → IsSame m n → out_of n.out ≡ 0 → es ≡ n.trace → IsInOrder es
      → AreWidened n.seat.arena.about.owners n.seat.number es n.seat.got → OwnsHistories n.seat
      → IsTrace a ranges number js es
  traced k m n es end d p none is order widened own = record {
    each = λ s. ap (λ (l : List Entry). of_source s (requests_of l)) is ∙ sym (all_asked n none s) ∙ p.asked_is s
        ∙ d.asked_is s ∙ ap (λ (l : List Job). of_source s (sends l)) (take_all k js end);
    waits = λ i wait. first_of_wait (take i js) es (turns i Wait wait);
    turns = turns;
    routed = subst (λ (l : List Entry). AreRouted ranges l) (sym is) (p.routed ranges d.routed).trace;
    order = order;
    seat = n.seat;
    arena_is = p.arena ∙ d.arena_is;
    number_is = p.number ∙ d.number_is;
    widened = subst (λ (i : ℕ). AreWidened a.about.owners i es n.seat.got) (p.number ∙ d.number_is)
        (subst (λ (b : ArenaId). AreWidened b.about.owners n.seat.number es n.seat.got) (p.arena ∙ d.arena_is) widened);
    own = own;
  }
    where
      turns : AreDoneInTurn js es
      turns i job at =
          let within = slice_get_within js i job at in
          done_after (sends (take i js)) job n es (done_still (sends (take i js)) job m n
          (d.turns i job (omega arith) at) p.longer (p.cuts (sends (take i js)))) is

-- what a promise that was kept says
pub kept_promise : (a : ArenaId) (ranges : List (List Range)) (jobs : List (List Job)) (k : ℕ) (h : Handle) (t : TraceView)
    → IsPromised a ranges jobs k h
    → IsTrace h.promise.arena.value h.promise.map.value h.promise.number h.promise.jobs.value t.items
    → IsTraceOf a ranges jobs k t
kept_promise a ranges jobs k h t is kept =
    let numbered = subst (λ
    (n : ℕ). IsTrace h.promise.arena.value h.promise.map.value n h.promise.jobs.value t.items) is.number_is kept in
    let mapped = subst (λ
    (rs : List (List Range)). IsTrace h.promise.arena.value rs k h.promise.jobs.value t.items) is.map_is numbered in
    record {
      its_jobs = h.promise.jobs.value;
      at = is.jobs_are;
      trace = subst (λ (b : ArenaId). IsTrace b ranges k h.promise.jobs.value t.items) is.arena_is mapped;
    }

-- nothing was asked of a new master
pub new_idle : (a : ArenaId) (number limit : ℕ) (v : MasterView) (m : MasterState) → v ≡ new_master a number
    → m ≡ new_state v limit → IsIdle a number m
new_idle a number limit v m is made = record {
  arena_is = ap (λ (x : MasterState). x.seat.arena) made ∙ ap (λ (w : MasterView). w.arena) is;
  number_is = ap (λ (x : MasterState). x.seat.number) made ∙ ap (λ (w : MasterView). w.number) is;
  none = λ s. ap (λ (x : MasterState). asked x s) made
      ∙ ap (out_ask s) (blank_out (count_of v.arena.about.owners v.number) s);
  routed = λ ranges. subst (λ (x : MasterState). IsRouted ranges x) (sym made)
      (record { trace = λ k e at. absurd cc; out = nothing ranges });
}
  where
    blank_out : (n s : ℕ) → ticket_at (replicate n None) s ≡ None
    blank_out zero s = refl
    blank_out (suc n) zero = refl
    blank_out (suc n) (suc s) = blank_out n s

    nothing : (ranges : List (List Range)) (s : ℕ) (t : TicketView) → ticket_at (new_state v limit).out s ≡ Some t
        → Routes ranges t.ask t.port
    nothing ranges s t at = let clash : None ≡ Some t =
        sym (blank_out (count_of v.arena.about.owners v.number) s) ∙ at in absurd cc

-- a new master owns nothing
pub new_owned : (a : ArenaId) (number : ℕ) (v : MasterView) → v ≡ new_master a number → owned_of v ≡ 0
new_owned a number v is = ap owned_of is ∙ none_yet a.about.slots
