-- The master after an issue and after a poll, as the code goes.
use Rattle.std.proofs.Common.{◌≡◌, ◌≢◌, ℕ, ◌+◌, ◌-◌, ◌<◌, List, [], ◌∷◌, ◌++◌, length, slice_set, Option, Some, None, refl, ap, sym, subst, ◌∙◌}
use Rattle.tl_types.specs.declared.trace.Entry.{Entry}
use Rattle.tl_rule.specs.declared.view.Held.TheVariants.{Nothing, Filled, Sent}
use Rattle.tl_arena.specs.Views.{MasterView, TicketView, hand_at, with_held, entry_of}
use Rattle.tl_master.specs.Master.{MasterState, ticket_at, entry_from}
use Rattle.tl_rule.specs.Views.{Above}
use Rattle.tl_master.specs.Steps.{with_posted, with_out, with_entry, IsReply, CollectsOne}
use Rattle.tl_master.specs.Kept.{IsKeptMaster}
use Rattle.tl_master.proofs.Hands.{put_back}
use Rattle.tl_master.proofs.Keeping.{above_trace, got_long, sends_kept, collects_kept}

pub same_state : (v w : MasterView) (o p : List (Option TicketView)) (es fs : List Entry) (k l : ℕ) → v ≡ w → o ≡ p
    → es ≡ fs → k ≡ l
    → ◌≡◌ {A = MasterState} (record { seat = v; out = o; trace = es; limit = k })
    (record { seat = w; out = p; trace = fs; limit = l })
same_state v w o p es fs k l seat out trace limit = cc

-- a poll that finds no reply leaves all as it was
pub stays : (m n : MasterState) (s : ℕ) (x : Option TicketView) (t back : TicketView) → ticket_at m.out s ≡ Some t
    → x ≡ None → back ≡ t → n.seat ≡ m.seat
    → n.out ≡ slice_set (slice_set m.out s x) s (Some back) → n.trace ≡ m.trace → n.limit ≡ m.limit → n ≡ m
stays m n s x t back was taken same seat out trace limit =
    let again : n.out ≡ m.out = out
    ∙ (ap (λ (y : Option TicketView). slice_set (slice_set m.out s y) s (Some back)) taken
    ∙ (ap (λ (u : TicketView). slice_set (slice_set m.out s None) s (Some u)) same ∙ put_back m.out s t was)) in
    same_state n.seat m.seat n.out m.out n.trace m.trace n.limit m.limit seat again trace limit

pub collects_on : (m n : MasterState) (start count s : ℕ) (t : TicketView) (e : Entry) → IsKeptMaster m start count
    → ticket_at m.out s ≡ Some t → IsReply m.seat t s e n.seat
    → n.out ≡ slice_set m.out s None → n.trace ≡ m.trace ++ e ∷ [] → n.limit ≡ m.limit
    → IsKeptMaster n start (count - 1)
collects_on m n start count s t e kept was reply out trace limit =
    let r = reply.served in
    let is : n ≡ with_entry m s (with_held reply.taken r.slot Nothing) (entry_from s (entry_of r)) =
    same_state n.seat _ n.out _ n.trace _ n.limit _ reply.seat out
    (trace ∙ ap (λ (x : Entry). m.trace ++ x ∷ []) reply.entry) limit in
    subst (λ (x : MasterState). IsKeptMaster x start (count - 1)) (sym is)
    (collects_kept m start count s t r reply.taken kept was reply.collected)

-- what a poll collects, and what was collected when it was issued
pub collects_one : (m n : MasterState) (start count s place : ℕ) (t : TicketView) (e : Entry)
    → IsKeptMaster m start count → ticket_at m.out s ≡ Some t → IsReply m.seat t s e n.seat
    → place ≡ length m.trace → n.out ≡ slice_set m.out s None → n.trace ≡ m.trace ++ e ∷ [] → n.limit ≡ m.limit
    → CollectsOne m s place n
collects_one m n start count s place t e kept was reply at out trace limit =
    let got = reply.collected in
    let above : Above m.trace t.known reply.served.port reply.served.index =
    above_trace m start count kept t.known reply.served.port reply.served.index got.above in
    record {
      ticket = t;
      was = was;
      entry = e;
      reply = reply;
      place_is = at;
      above = subst (λ (x : Entry). Above m.trace t.known x.port x.index) (sym reply.entry) above;
      master = same_state n.seat n.seat n.out _ n.trace _ n.limit _ refl out trace limit;
    }

pub sends_on : (m n : MasterState) (start count s i : ℕ) (t : TicketView) (v : MasterView) → IsKeptMaster m start count
    → s < length m.out → ticket_at m.out s ≡ None → length m.trace + count ≢ m.limit
    → i < length m.seat.hand → hand_at m.seat i ≡ Nothing → v ≡ with_held m.seat i Filled → t.slot ≡ i
    → t.ask.source ≡ start + s → t.known ≡ length v.got
    → n.seat ≡ with_held v i (Sent t.ask t.port t.known) → n.out ≡ slice_set m.out s (Some t) → n.trace ≡ m.trace
    → n.limit ≡ m.limit → IsKeptMaster n start (count + 1)
sends_on m n start count s i t v kept within idle room lt free claimed from source known seat out trace limit =
    let posted : n.seat ≡ with_posted m.seat t = seat
    ∙ (ap (λ (w : MasterView). with_held w i (Sent t.ask t.port t.known)) claimed
    ∙ ap (λ (k : ℕ). with_held (with_held m.seat k Filled) k (Sent t.ask t.port t.known)) (sym from)) in
    let is : n ≡ with_out m s t = same_state n.seat _ n.out _ n.trace _ n.limit _ posted out trace limit in
    let many : t.known ≡ length m.trace =
    known ∙ (ap (λ (w : MasterView). length w.got) claimed ∙ got_long m start count kept) in
    subst (λ (x : MasterState). IsKeptMaster x start (count + 1)) (sym is)
    (sends_kept m start count s t kept within idle (ap (λ (k : ℕ). hand_at m.seat k) from ∙ free)
    (subst (λ (k : ℕ). k < length m.seat.hand) (sym from) lt) source many room)
