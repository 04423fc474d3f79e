-- The step that collects a reply.
use Rattle.std.proofs.Common.{◌≡◌, ◌≢◌, ℕ, ◌<◌, eqb, false, List, [], ◌∷◌, ◌++◌, length, get_or, sym, refl, ap, subst, ◌∙◌, arith, inl, inr, ⊎_elim, get_or-set_same, get_or-set_other, length-set, length-append, Some, slice_get, take}
use mathlib.Core.Option as maybe
use lib.ListN.{get_elem?}
use mathlib.Core.Option.{some, none}
use mathlib.Core.Logic.{dite}
use native.Mathlib.Decide.{ℕ_discrete}
use prog.Atomic.{either}
use Rattle.atomic_table.specs.Table.{step, takes, Allows, stepped}
use Rattle.tl_types.specs.Request.{Request}
use Rattle.tl_types.specs.Response.{Response}
use Rattle.tl_types.specs.declared.trace.Entry.{Entry}
use Rattle.tl_ops.specs.History.{IsLawfulHistory}
use Rattle.tl_slots.specs.declared.phase.Phase.TheVariants.{Serving, Answered, Taking}
use Rattle.tl_slots.specs.declared.event.Event.TheVariants.{Collect}
use Rattle.tl_slots.specs.Word.{word}
use Rattle.tl_slots.proofs.Steps.{move_is_allowed}
use Rattle.tl_rule.specs.declared.view.About.{About}
use Rattle.tl_rule.specs.declared.view.Held.TheVariants.{Nothing, Sent, Taken}
use Rattle.tl_rule.specs.declared.view.Hands.{Hands}
use Rattle.tl_rule.specs.declared.view.View.TheVariants.{Master}
use Rattle.tl_rule.specs.Record.{SlotRecord, Spells, SpellsAnswer, Berth}
use Rattle.tl_rule.specs.Views.{Owns, reset_of, hands, desk, held, Above, no_hands, with_hand}
use Rattle.tl_rule.specs.Rule.{Parts, Names, IsHome, HomeAsk, InPhase, IsAnswered, InSlot, InGot, Placed, Places, Lawful, Fits, phase, table_of}
use Rattle.tl_rule.specs.Events.{state_of, IsOneEvent}
use Rattle.tl_rule.specs.Seen.{IsOfMasters, SeenFit, JustOwn, at_port, sent_at}
use Rattle.tl_rule.specs.Moves.{Tried, Collects, entry}
use Rattle.tl_rule.proofs.Tables.{of_get}
use Rattle.tl_rule.proofs.Lists.{at_end, before_end, below_length, ended, first_of}
use Rattle.tl_rule.proofs.MasterFrame.{master_moves, MasterStep, moved, held_here, got_here, got_elim, phase_here, phase_else}
use Rattle.tl_rule.proofs.Facts.{Known, known, shown, in_hand_of, not_left, some_list, low_master, low_port, one_named, sent_port}
use Rattle.tl_rule.proofs.Own.{of_masters, just_own, seen_fit, answered_inside, got_back}
use Rattle.tl_rule.proofs.Allowing.{fits_after, event_told, found, there, present, master_step, tries}

-- the places, once the answer of the slot i is collected
module _ (a : About) (c : Parts) (i m p since : ℕ) (letter : SlotRecord) (ask : Request) (reply : Response)
    (L : Lawful a c)
    (S : MasterStep a c i (Taking m p) none m (Taken p)
    ((hands c.masters m).got ++ entry p letter.index ask reply ∷ []))
    (ph : phase c i ≡ Answered m p) (at_home : IsHome c.homes i letter) (sent : held c.masters m i ≡ Sent ask p since)
    (place : slice_get (desk c.ports p).list letter.index ≡ Some (ask, reply)) where
  abbrev old : List Entry
  old = (hands c.masters m).got

  abbrev e : Entry
  e = entry p letter.index ask reply

  abbrev d : Parts
  d = master_moves c i (Taking m p) none m (Taken p) (old ++ e ∷ [])

  abbrev P : Places a c
  P = L.places

  in_hand : i < length (hands c.masters m).hand
  in_hand = let e = (L.shape.master_views m S.near).2 in let l = S.inside in omega arith

  elim_got : (Q : ℕ → List Entry → Type 0) → Q m (old ++ e ∷ []) → ((n : ℕ) → n ≢ m → Q n (hands c.masters n).got)
      → (n : ℕ) → Q n (hands d.masters n).got
  elim_got = got_elim a c i (Taking m p) none m (Taken p) (old ++ e ∷ []) L S

  not_here : (n r : ℕ) → phase d i ≢ Answered n r
  not_here n r at = let z : Taking m p ≡ Answered n r =
      sym (phase_here a c i (Taking m p) none m (Taken p) (old ++ e ∷ []) L S) ∙ at in absurd (cc)

  grown : (n j : ℕ) (g : Entry) → slice_get (hands c.masters n).got j ≡ Some g
      → slice_get (hands d.masters n).got j ≡ Some g
  grown n j g = elim_got (λ n l. slice_get (hands c.masters n).got j ≡ Some g → slice_get l j ≡ Some g)
      (λ at. before_end old e j (below_length old j g at) ∙ at) (λ n _ at. at) n

  gotten : InGot a d m p letter.index
  gotten = record {
    place = length old;
    entry = e;
    at = subst (λ l. slice_get l (length old) ≡ Some e)
        (sym (got_here c.masters m i (Taken p) (old ++ e ∷ []) S.near in_hand)) (ended old e (length old) refl);
    port = refl;
    index = refl;
  }

  new_placed : (n k : ℕ) (y : Request × Response) → Placed a c n k y.0 → Placed a d n k y.0
  new_placed n k y t = record {
    master = t.master;
    owns = t.owns;
    place = ⊎_elim
        (λ (s : InSlot a c t.master n k). dite (ℕ_discrete s.slot i)
        (λ same. let f : Answered m p ≡ Answered t.master n = sym ph
        ∙ subst (λ (z : ℕ). phase c z ≡ Answered t.master n) same s.phased in
        let em : m ≡ t.master = cc in let en : p ≡ n = cc in
        let one : letter ≡ s.letter =
        (let z = subst (λ (z : ℕ). get_or c.homes z none ≡ some (Some s.letter)) same s.at in cc) in
        let ek : letter.index ≡ k = ap (λ (z : SlotRecord). z.index) one ∙ s.index in
        inr (subst (λ (z : ℕ). InGot a d z n k) em
        (subst (λ (z : ℕ). InGot a d m z k) en (subst (λ (z : ℕ). InGot a d m p z) ek gotten))))
        (λ ne. inl (record {
          slot = s.slot;
          letter = s.letter;
          phased = phase_else a c i (Taking m p) none m (Taken p) (old ++ e ∷ []) L S s.slot ne ∙ s.phased;
          at = get_or-set_other c.homes i s.slot none none ne ∙ s.at;
          index = s.index;
        })))
        (λ (g : InGot a c t.master n k). inr (record {
          place = g.place;
          entry = g.entry;
          at = grown t.master g.place g.entry g.at;
          port = g.port;
          index = g.index;
        })) t.place;
  }

  -- another answered slot has another index
  other_answer : (j : ℕ) (A : IsAnswered a c j m p) → j ≢ i → A.home.letter.index ≡ letter.index → ⊥
  other_answer j A ne index = let pair : Some (A.asked.ask, A.answer) ≡ Some (ask, reply) =
      sym (subst (λ (n : ℕ). slice_get (desk c.ports p).list n ≡ Some (A.asked.ask, A.answer)) index A.listed)
      ∙ place in
      let asks : A.asked.ask ≡ ask = first_of (A.asked.ask, A.answer) (ask, reply) pair in
      ne (L.sources m j i p p A.asked.known since A.asked.ask ask A.asked.sent sent
      (ap (λ (z : Request). z.source) asks))

  same_index : (A B : SlotRecord) → A ≡ B → A.index ≡ B.index
  same_index A B e = ap (λ (z : SlotRecord). z.index) e

  home_is : (j : ℕ) (y : SlotRecord) (ask : Request) (h : HomeAsk c.homes j ask) → IsHome c.homes j y
      → h.letter.index ≡ y.index
  home_is j y ask h home = let z = h.at in same_index h.letter y (cc)

  other_slot : (j : ℕ) (y : SlotRecord) → j ≢ i → phase c j ≡ Answered m p → IsHome c.homes j y → letter.index ≢ y.index
  other_slot j y ne phased home same = let A =
      subst (InPhase a c j) phased (L.slots j (answered_inside a c L j m p phased)) in
      other_answer j A ne (home_is j y A.asked.ask A.home home ∙ sym same)

  pub collect_places : Places a d
  collect_places = record {
    placed = λ n k y at. new_placed n k y (P.placed n k y at);
    got = λ n j g. elim_got (λ n l. slice_get l j ≡ Some g
        → (slice_get (desk c.ports g.port).list g.index ≡ Some (g.ask, g.reply)) × Owns a n g.ask.source)
        (λ at. ⊎_elim (λ (t : (j < length old) × (slice_get old j ≡ Some g)). P.got m j g t.1)
        (λ (t : (j ≡ length old) × (e ≡ g)). subst
        (λ (g : Entry). (slice_get (desk c.ports g.port).list g.index ≡ Some (g.ask, g.reply))
        × Owns a m g.ask.source) t.1 (place, L.block m i p since ask sent)) (at_end old e g j at))
        (λ n _ at. P.got n j g at) n;
    got_once = λ n j k g f. elim_got (λ n l. slice_get l j ≡ Some g → slice_get l k ≡ Some f → g.port ≡ f.port
        → g.index ≡ f.index → j ≡ k)
        (λ at there port index. ⊎_elim
        (λ (t : (j < length old) × (slice_get old j ≡ Some g)). ⊎_elim
        (λ (u : (k < length old) × (slice_get old k ≡ Some f)). P.got_once m j k g f t.1 u.1 port index)
        (λ (u : (k ≡ length old) × (e ≡ f)). absurd
        (P.apart m p i j letter g ph at_home t.1 (port ∙ ap (λ (z : Entry). z.port) (sym u.1))
        (index ∙ ap (λ (z : Entry). z.index) (sym u.1)))) (at_end old e f k there))
        (λ (t : (j ≡ length old) × (e ≡ g)). ⊎_elim
        (λ (u : (k < length old) × (slice_get old k ≡ Some f)). absurd
        (P.apart m p i k letter f ph at_home u.1 (sym port ∙ ap (λ (z : Entry). z.port) (sym t.1))
        (sym index ∙ ap (λ (z : Entry). z.index) (sym t.1))))
        (λ (u : (k ≡ length old) × (e ≡ f)). t.0 ∙ sym u.0) (at_end old e f k there)) (at_end old e g j at))
        (λ n _ at there. P.got_once n j k g f at there) n;
    apart = λ n r j k y g phased home at port. dite (ℕ_discrete j i)
        (λ same. absurd (not_here n r (subst (λ (z : ℕ). phase d z ≡ Answered n r) same phased)))
        (λ ne. let was = sym (phase_else a c i (Taking m p) none m (Taken p) (old ++ e ∷ []) L S j ne) ∙ phased in
        let home' = sym (get_or-set_other c.homes i j none none ne) ∙ home in
        elim_got (λ n l. phase c j ≡ Answered n r → slice_get l k ≡ Some g → g.index ≢ y.index)
        (λ was at. ⊎_elim (λ (t : (k < length old)
        × (slice_get old k ≡ Some g)). P.apart m r j k y g was home' t.1 port)
        (λ (t : (k ≡ length old) × (e ≡ g)). let to : r ≡ p = sym port ∙ ap (λ (z : Entry). z.port) (sym t.1) in
        λ clash. other_slot j y ne (subst (λ (z : ℕ). phase c j ≡ Answered m z) to was) home'
        (ap (λ (z : Entry). z.index) t.1 ∙ clash)) (at_end old e g k at))
        (λ n _ was at. P.apart n r j k y g was home' at port) n was at);
  }

module _ (a : About) (c : Parts) (L : Lawful a c) (id i : ℕ) (v : Hands) (K : Known a c L id v)
    (carried : List (ℕ × Berth)) (ask : Request) (p since : ℕ)
    (lt : i < a.slots) (sent_is : get_or v.hand i Nothing ≡ Sent ask p since) (ph : phase c i ≡ Answered v.number p)
    (A : IsAnswered a c i v.number p) where
  abbrev letter : SlotRecord
  letter = A.home.letter

  abbrev reply : Response
  reply = A.answer

  abbrev last : Entry
  last = entry p letter.index ask reply

  held_is : held c.masters v.number i ≡ Sent ask p since
  held_is = ap (λ (x : Hands). get_or x.hand i Nothing) K.is ∙ sent_is

  pub ask_is : A.asked.ask ≡ ask
  ask_is = let s = A.asked.sent in let h = held_is in cc

  known_is : A.asked.known ≡ since
  known_is = let s = A.asked.sent in let h = held_is in cc

  got_is : (hands c.masters v.number).got ≡ v.got
  got_is = ap (λ (x : Hands). x.got) K.is

  place : slice_get (desk c.ports p).list letter.index ≡ Some (ask, reply)
  place = A.listed ∙ (λ z. Some (ask_is z, reply))

  in_view : i < length (hands c.masters v.number).hand
  in_view = let e = ap (λ (x : Hands). length x.hand) K.is in let w = K.wide in omega arith

  in_range : p < a.ports
  in_range = (low_port a c L p (some_list c.ports p letter.index (ask, reply) place)).0

  staying : (hands c.masters v.number).left ≡ false
  staying = not_left a c L v.number i (let h = held_is in λ e. absurd (cc))

  abbrev held_before : List Entry
  held_before = (hands c.masters v.number).got

  abbrev moved_parts : Parts
  moved_parts = master_moves c i (Taking v.number p) none v.number (Taken p) (held_before ++ last ∷ [])

  collect_step : MasterStep a c i (Taking v.number p) none v.number (Taken p) (held_before ++ last ∷ [])
  collect_step = record {
    near = K.near;
    inside = lt;
    staying = staying;
    mine = λ n names. one_named (Answered v.number p) n v.number (subst (λ g. Names g n) ph names) refl;
    unserved = λ n r e. absurd (let z : Answered v.number p ≡ Serving n r = sym ph ∙ e in cc);
    names = λ _. refl;
    own = λ q p k e. absurd (cc);
    distinct = λ q p k e. absurd (cc);
    longer = omega (arith, length-append held_before (last ∷ []));
    gots = λ k l. before_end held_before last k l;
    here = record {
      taken = held_here c.masters v.number i (Taken p) (held_before ++ last ∷ []) K.near in_view;
      port = in_range;
    };
  }

  collect_lawful : Lawful a moved_parts
  collect_lawful = moved a c i (Taking v.number p) none v.number (Taken p) (held_before ++ last ∷ []) L collect_step
      (collect_places a c i v.number p since letter ask reply L collect_step ph A.home.at held_is place)

  pub collect_event : IsOneEvent a (Collect i v.number p) (table_of a c)
      (stepped (table_of a c) i (word (Taking v.number p)) id carried
      (Master (with_hand v i (Taken p) (v.got ++ last ∷ []))) (takes i (Some letter)))
  collect_event = subst (λ (l : List Entry). IsOneEvent a (Collect i v.number p) (table_of a c)
      (stepped (table_of a c) i (word (Taking v.number p)) id carried
      (Master (with_hand v i (Taken p) (l ++ last ∷ []))) (takes i (Some letter)))) got_is
      (master_step a c i id v (Taking v.number p) none (Taken p) (held_before ++ last ∷ []) carried
      (takes i (Some letter)) (Collect i v.number p) L K (let e = L.shape.phases in omega arith) refl collect_lawful
      (move_is_allowed (state_of a c) (Collect i v.number p) _ refl (found a c L i (Answered v.number p) lt ph)
      (there a c L v.number K.near) in_range (present a c L v.number K.near staying)) refl)

  -- what the seat is told
  pub collect_told : (slots from new : ℕ) (said : maybe.Option Berth)
      → get_elem? (table_of a c).views id ≡ some (Master v)
      → Collects (step slots i from new said) (Master v, carried)
      (Master (with_hand v i (Taken p) (v.got ++ last ∷ [])), (i, Some letter) ∷ carried)
  collect_told slots from new said at = let m = v.number in let d = moved_parts in
      let hands_is : hands d.masters m ≡ with_hand v i (Taken p) (v.got ++ last ∷ []) =
      get_or-set_same c.masters m (with_hand (hands c.masters m) i (Taken p)
      (held_before ++ last ∷ [])) no_hands K.near ∙ (λ t. with_hand (K.is t) i (Taken p) (got_is t ++ last ∷ [])) in
      let views = collect_lawful.shape.master_views m
      (let z = K.near in let y = length-set c.masters m
      (with_hand (hands c.masters m) i (Taken p) (held_before ++ last ∷ [])) in omega arith) in
      let own = just_own a d collect_lawful m p views.1 views.0 in record {
        letter = letter;
        ask = ask;
        port = p;
        known = since;
        reply = reply;
        was = sent_is;
        spells = subst (Spells letter) ask_is A.home.spells;
        answer = subst (λ (q : Request). SpellsAnswer letter q.address reply) ask_is A.spells;
        seat = refl;
        fresh = λ t. let b = got_back p v.got t.entry t.is in
            L.places.apart m p i b.0 letter t.entry ph A.home.at
            (subst (λ l. slice_get l b.0 ≡ Some t.entry) (sym got_is) b.1) b.2 t.at;
        above = subst (λ (k : ℕ). Above v.got k p letter.index) known_is
            (subst (λ (l : List Entry). Above l A.asked.known p letter.index) got_is A.above);
        history = (desk c.ports p).list;
        lawful = subst (λ (z : About). IsLawfulHistory (reset_of z p) (desk c.ports p).list) (sym K.about) (L.lawful p);
        masters = subst (λ (z : About). IsOfMasters z (desk c.ports p).list) (sym K.about) (of_masters a c L m p);
        seen = subst (λ (q : Request). SeenFit (desk c.ports p).list letter.index q reply
            (at_port p (take since v.got))) ask_is
            (subst (λ (k : ℕ). SeenFit (desk c.ports p).list letter.index A.asked.ask reply
            (at_port p (take k v.got))) known_is
            (subst (λ (w : Hands). SeenFit (desk c.ports p).list letter.index A.asked.ask reply
            (at_port p (take A.asked.known w.got))) K.is (seen_fit a c L m p i A)));
        own = subst (λ (w : Hands). JustOwn (desk c.ports p).list (Owns w.about w.number) (at_port p w.got)
            (sent_at p w.hand)) hands_is own;
        event = event_told a v.about (Collect i m p) _ _ id _ _ K.about at refl collect_event;
      }

pub collects : (a : About) (slots id : ℕ) (v : Hands) (carried : List (ℕ × Berth)) (i from new : ℕ)
    (said : maybe.Option Berth) (ask : Request) (p since : ℕ) → get_or v.hand i Nothing ≡ Sent ask p since
    → from ≡ word (Answered v.number p) → new ≡ word (Taking v.number p)
    → Allows (Fits a) slots id (Master v, carried) i (λ n. either (eqb n from) new n)
    (Tried Collects (step slots i from new said) (Master v, carried))
collects a slots id v carried i from new said ask p since sent_is from_is is = let m = v.number in
    tries a slots id (Master v, carried) i from new said Collects (λ c L wide at hit. let K = known a c L id v at in
    let lt : i < a.slots = (let z = in_hand_of v.hand i (λ e. absurd (cc)) in let w = K.wide in omega arith) in
    let ph = shown a c L i (Answered m p) lt
    (record {
      owner = (low_master a c L m K.near).1;
      port = sent_port a c L m i ask p since lt (ap (λ (x : Hands). get_or x.hand i Nothing) K.is ∙ sent_is);
    })
    (hit ∙ from_is) in
    let A = subst (InPhase a c i) ph (L.slots i lt) in
    let E = collect_event a c L id i v K carried ask p since lt sent_is ph A in
    let view = Master (with_hand v i (Taken p) (v.got ++ entry p A.home.letter.index ask A.answer ∷ [])) in (
      view,
      takes i (Some A.home.letter),
      of_get c.homes i (some (Some A.home.letter)) none (let e = L.shape.homes in omega arith) A.home.at,
      subst (λ (n : ℕ). Fits a (stepped (table_of a c) i n id carried view (takes i (Some A.home.letter)))) (sym is)
          (fits_after a (Collect i m p) _ _ E),
      collect_told a c L id i v K carried ask p since lt sent_is ph A slots from new said at,
    ))
