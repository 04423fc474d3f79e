-- What the calls promise, from what the steps tell.
use Rattle.std.proofs.Common.{◌≡◌, ℕ, true, List, [], ◌∷◌, sym, refl, ap, subst, ◌∙◌, Some, None}
use Rattle.atomic_table.specs.Table.{Step, rest}
use Rattle.tl_beats.specs.Told.{told_reply}
use Rattle.tl_beats.specs.ToldAsk.{told_ask}
use Rattle.tl_beats.proofs.Told.{told_is}
use Rattle.tl_beats.proofs.ToldAsk.{told_ask_is}
use Rattle.atomic_table.specs.Seated.{TableId}
use Rattle.tl_types.specs.Request.{Request}
use Rattle.tl_types.specs.Response.{Response}
use Rattle.tl_rule.specs.declared.view.View.{View}
use Rattle.tl_rule.specs.declared.view.Held.TheVariants.{Sent}
use Rattle.tl_rule.specs.Record.{SlotRecord, Berth, Spells, SpellsAnswer}
use Rattle.tl_rule.specs.Serving.{ask_at}
use Rattle.tl_rule.specs.Moves.{Seat, as_master, Collects, Accepts}
use Rattle.tl_rule.specs.Views as views
use Rattle.tl_rule.proofs.Facts.{spells_one, answers_one}
use Rattle.tl_slots.specs.declared.event.Event.{Event}
use Rattle.tl_rule.specs.declared.view.Desk.{Desk}
use Rattle.tl_rule.specs.declared.view.View.TheVariants.{Port}
use Rattle.tl_rule.specs.Events.{IsEventOf}
use Rattle.tl_rule.specs.Moves.{is_port, as_port}
use Rattle.tl_rule.proofs.Facts.{port_seat_is}
use Rattle.tl_arena.specs.Views.{MasterView, PortView, TicketView, ServedView, hand_at, with_accepted, desk_of}
use Rattle.tl_arena.specs.Promises.{IsCollected, IsPortStep}
use Rattle.tl_arena.specs.Kept.{master_view, port_view}

-- ---- a record that is taken out, and brought back

-- the first of the slots that a seat has taken out
abbrev pub head_berth : List (ℕ × Berth) → Berth
head_berth [] = None
head_berth (x ∷ xs) = x.1

pub same_record : (a b : SlotRecord) → Some a ≡ Some b → a ≡ b
same_record a b e = cc

-- what was taken out of the first slot is this record
pub taken_record : (rs cs : List (ℕ × Berth)) (i : ℕ) (berth : Berth) (held letter : SlotRecord)
    → rs ≡ (i, berth) ∷ rest rs → rs ≡ (i, Some letter) ∷ cs → berth ≡ Some held → held ≡ letter
taken_record rs cs i berth held letter was is opened =
    same_record held letter (sym opened ∙ ap head_berth (sym was ∙ is))

-- what was taken last is the first of what was taken out
pub taken_first : (rs cs : List (ℕ × Berth)) (i : ℕ) (berth : Berth) → rs ≡ (i, berth) ∷ cs → rs ≡ (i, berth) ∷ rest rs
taken_first rs cs i berth is = is ∙ ap (λ (l : List (ℕ × Berth)). (i, berth) ∷ l) (sym (ap rest is))

-- a seat m₁ with the view of m₀ has its first slot's record brought back
pub brought_back : (m₀ m₁ m : Seat) (i : ℕ) (berth : Berth) (letter : SlotRecord) → berth ≡ Some letter → m₁.0 ≡ m₀.0
    → m ≡ (m₁.0, (i, berth) ∷ rest m₁.1) → m ≡ (m₀.0, (i, Some letter) ∷ rest m₁.1)
brought_back m₀ m₁ m i berth letter has same e = e ∙ (λ t. (same t, (i, has t) ∷ rest m₁.1))

-- a reply that beats spell is the one that they tell
pub told_spelled : (r : SlotRecord) (address : ℕ) (reply : Response) → SpellsAnswer r address reply
    → SpellsAnswer r address (told_reply r.replies address)
told_spelled r address reply s =
    subst (λ (x : Response). SpellsAnswer r address x) (sym (told_is reply address r.replies s.lawful s.beats)) s

-- and so is a request that beats spell
pub told_asked : (r : SlotRecord) (ask : Request) → Spells r ask → Spells r (told_ask r.beats)
told_asked r ask s = subst (λ (x : Request). Spells r x) (sym (told_ask_is ask r.beats s.lawful s.beats)) s

-- ---- the values of a turn

-- what the hand has of a ticket's slot
pub sent_in : (v w : MasterView) (t u : TicketView) → v ≡ w → t ≡ u → hand_at w u.slot ≡ Sent u.ask u.port u.known
    → hand_at v t.slot ≡ Sent t.ask t.port t.known
sent_in v w t u e f h =
    subst (λ (x : MasterView). hand_at x t.slot ≡ Sent t.ask t.port t.known) (sym e)
    (subst (λ (x : TicketView). hand_at w x.slot ≡ Sent x.ask x.port x.known) (sym f) h)

-- what is served at the slot of a request that was accepted
pub served_in : (v w : PortView) (f g : ℕ × Request) → v ≡ w → f ≡ g → ask_at w.serving g.0 ≡ Some g.1
    → ask_at v.serving f.0 ≡ Some f.1
served_in v w f g d e h =
    subst (λ (x : PortView). ask_at x.serving f.0 ≡ Some f.1) (sym d)
    (subst (λ (x : ℕ × Request). ask_at w.serving x.0 ≡ Some x.1) (sym e) h)

module _ (st : Step Berth) (m n : Seat) (C : Collects st m n) where
  collected_told : (table : TableId) → IsCollected (master_view table m.0)
      (record { slot = st.word; ask = C.ask; port = C.port; known = C.known })
      (record { slot = st.word; ask = C.ask; port = C.port; index = C.letter.index; reply = C.reply })
      (master_view table n.0)
  collected_told table = record {
    slot = refl;
    ask = refl;
    port = refl;
    seat = ap (λ (k : Seat). master_view table k.0) C.seat;
    above = C.above;
    fresh = C.fresh;
    history = C.history;
    lawful = C.lawful;
    masters = C.masters;
    seen = C.seen;
    own = C.own;
  }

  pub collected : (table now : TableId) (w : View) (t : TicketView) (index : ℕ) (reply : Response) (letter : SlotRecord)
      → now ≡ table → w ≡ n.0 → t.slot ≡ st.word → views.in_hand (as_master m.0) st.word ≡ Sent t.ask t.port t.known
      → letter ≡ C.letter → index ≡ letter.index → SpellsAnswer letter t.ask.address reply
      → IsCollected (master_view table m.0) t (record {
        slot = t.slot;
        ask = t.ask;
        port = t.port;
        index = index;
        reply = reply;
      }) (master_view now w)
  collected table now w t index reply letter same view at sent is place answers =
      let asks : C.ask ≡ t.ask = (let z = C.was in cc) in
      let ports : C.port ≡ t.port = (let z = C.was in cc) in
      let knows : C.known ≡ t.known = (let z = C.was in cc) in
      let mine = subst (λ (q : Request). SpellsAnswer C.letter q.address C.reply) asks C.answer in
      let replies : C.reply ≡ reply =
      answers_one C.letter t.ask.address C.reply reply mine
      (subst (λ (l : SlotRecord). SpellsAnswer l t.ask.address reply) is answers) in
      let indexes : C.letter.index ≡ index = sym (place ∙ ap (λ (l : SlotRecord). l.index) is) in
      let ticket : TicketView = record { slot = st.word; ask = C.ask; port = C.port; known = C.known } in
      let ticket_is : ticket ≡ t = λ i. record { slot = sym at i; ask = asks i; port = ports i; known = knows i } in
      let served : ServedView =
      record { slot = st.word; ask = C.ask; port = C.port; index = C.letter.index; reply = C.reply } in
      let other : ServedView = record { slot = t.slot; ask = t.ask; port = t.port; index = index; reply = reply } in
      let served_is : served ≡ other =
      λ i. record { slot = sym at i; ask = asks i; port = ports i; index = indexes i; reply = replies i } in
      let seat_is : master_view table n.0 ≡ master_view now w = λ i. master_view (sym same i) (sym view i) in
      subst (λ (x : MasterView). IsCollected (master_view table m.0) t other x) seat_is
      (subst (λ (x : ServedView). IsCollected (master_view table m.0) t x (master_view table n.0)) served_is
      (subst (λ (x : TicketView). IsCollected (master_view table m.0) x served (master_view table n.0)) ticket_is
      (collected_told table)))

module _ (st : Step Berth) (m n : Seat) (A : Accepts st m n) where
  pub accepted : (table now : TableId) (w : View) (v : PortView) (i : ℕ) (ask : Request) (letter : SlotRecord)
      → now ≡ table → w ≡ n.0 → port_view table m.0 ≡ v → i ≡ st.word → letter ≡ A.letter → Spells letter ask
      → (ask_at v.serving i ≡ None) × (port_view now w ≡ with_accepted v (i, ask))
  accepted table now w v i ask letter same view seen at is spells =
      let asks : A.ask ≡ ask =
      spells_one A.letter A.ask ask A.spells (subst (λ (l : SlotRecord). Spells l ask) is spells) in (
        subst (λ (x : PortView). ask_at x.serving i ≡ None) seen
            (subst (λ (k : ℕ). ask_at (port_view table m.0).serving k ≡ None) (sym at) A.free),
        (λ k. port_view (same k) (view k)) ∙ ap (λ (x : Seat). port_view table x.0) A.seat
            ∙ (λ k. with_accepted (seen k) (sym at k, asks k)),
      )

-- ---- one step is one event

pub port_stepped : (event : Event) (table now : TableId) (m : Seat) (w : View) (d : Desk) (u v : PortView)
    → is_port m.0 ≡ true → w ≡ Port d
    → port_view table m.0 ≡ u → port_view now w ≡ v → IsEventOf (as_port m.0).about event m.0 w → IsPortStep event u v
port_stepped event table now m w d u v is e seen shown one =
    let before : m.0 ≡ Port (desk_of (port_view table m.0)) = (λ t. (port_seat_is m is t).0) in
    let after : w ≡ Port (desk_of (port_view now w)) =
    subst (λ (y : View). y ≡ Port (desk_of (port_view now y))) (sym e) refl in
    subst (λ (y : PortView). IsPortStep event u y) shown
    (subst (λ (y : PortView). IsPortStep event y (port_view now w)) seen
    (subst (λ (y : View). IsEventOf (as_port m.0).about event (Port (desk_of (port_view table m.0))) y) after
    (subst (λ (y : View). IsEventOf (as_port m.0).about event y w) before one)))
