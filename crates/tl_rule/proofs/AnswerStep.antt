-- The step that answers a request: the pair goes to the end of the list, and the record goes home.
use Rattle.std.proofs.Common.{◌≡◌, ℕ, ◌/◌, ◌%◌, ◌<◌, ◌≤◌, List, [], ◌∷◌, ◌++◌, length, get_or, sym, refl, ap, subst, ◌∙◌, arith, inl, inr, ⊎_elim, get_or-set_same, get_or-set_other, Some, slice_get}
use mathlib.Core.Option.{some, none}
use mathlib.Core.Logic.{dite}
use native.Mathlib.Decide.{ℕ_discrete}
use Rattle.atomic_table.specs.Table.{step, gives, Allows, stepped}
use Rattle.tl_types.specs.Request.{Request}
use Rattle.tl_types.specs.Response.{Response}
use Rattle.tl_types.specs.declared.trace.Entry.{Entry}
use Rattle.tl_ops.specs.History.{IsLawfulHistory}
use Rattle.tl_slots.specs.declared.phase.Phase.TheVariants.{Serving, Answered}
use Rattle.tl_slots.specs.declared.event.Event.TheVariants.{Answer}
use Rattle.tl_slots.specs.declared.word.TheConstants.{MAX_AGENT}
use Rattle.tl_slots.specs.Word.{word}
use Rattle.tl_slots.proofs.Steps.{move_is_allowed}
use Rattle.tl_rule.specs.declared.view.About.{About}
use Rattle.tl_rule.specs.declared.view.Held.TheVariants.{Sent}
use Rattle.tl_rule.specs.declared.view.Desk.{Desk}
use Rattle.tl_rule.specs.declared.view.View.TheVariants.{Port}
use Rattle.tl_rule.specs.Record.{SlotRecord, Spells, SpellsAnswer, Berth}
use Rattle.tl_rule.specs.Serving.{ask_at, drop_slot, HasDistinctSlots}
use Rattle.tl_rule.specs.Views.{Owns, reset_of, hands, desk, held, with_serving}
use Rattle.tl_rule.specs.Rule.{Parts, Names, InPhase, InSlot, InGot, Placed, Places, Lawful, Fits, phase, table_of}
use Rattle.tl_rule.specs.Events.{state_of, IsOneEvent, IsEventOf}
use Rattle.tl_ops.specs.Store as store
use Rattle.tl_ops.specs.History.{replay, asks_of}
use Rattle.tl_ops.proofs.Histories.{IsLawfulHistory-push}
use Rattle.tl_rule.specs.Moves.{Answers, IsLawfulDesk}
use Rattle.tl_rule.proofs.Lists.{at_end, before_end, below_length, ended}
use Rattle.tl_rule.proofs.Serving.{drop_here, drop_else, drop_once}
use Rattle.tl_rule.proofs.PortFrame.{port_moves, PortStep, port_moved, list_here, port_phase_here, port_phase_else, desk_elim}
use Rattle.tl_rule.proofs.Facts.{KnownPort, known_port, one_owner, some_master, low_master, low_port}
use Rattle.tl_rule.proofs.PortSteps.{serving_inside, asked_there, law_after}
use Rattle.tl_rule.proofs.Allowing.{fits_after, event_told, found, there, port_step, stores}

-- the places, once the slot i has its answer at the end of the list
module _ (a : About) (c : Parts) (i p o : ℕ) (letter : SlotRecord) (ask : Request) (reply : Response)
    (now : List (ℕ × Request)) (L : Lawful a c)
    (S : PortStep a c i (Answered o p) (some (Some letter)) p now ((desk c.ports p).list ++ (ask, reply) ∷ []))
    (ph : phase c i ≡ Serving o p) (own : Owns a o ask.source)
    (last : letter.index ≡ length (desk c.ports p).list) where
  abbrev more : List (Request × Response)
  more = (desk c.ports p).list ++ (ask, reply) ∷ []

  abbrev e : Parts
  e = port_moves c i (Answered o p) (some (Some letter)) p now more

  in_homes : i < length c.homes
  in_homes = let h = L.shape.homes in let l = S.inside in omega arith

  home_here : get_or e.homes i none ≡ some (Some letter)
  home_here = get_or-set_same c.homes i (some (Some letter)) none in_homes

  lists_grow : (n k : ℕ) (y : Request × Response) → slice_get (desk c.ports n).list k ≡ Some y
      → slice_get (desk e.ports n).list k ≡ Some y
  lists_grow n = desk_elim c.ports p now more S.near
      (λ n u. (k : ℕ) (y : Request × Response) → slice_get (desk c.ports n).list k ≡ Some y
      → slice_get u.list k ≡ Some y) S.grows (λ n _ k y at. at) n

  old_place : (n k : ℕ) (r : Request) → Placed a c n k r → Placed a e n k r
  old_place n k r t = record {
    master = t.master;
    owns = t.owns;
    place = ⊎_elim
        (λ (s : InSlot a c t.master n k). inl (dite (ℕ_discrete s.slot i)
        (λ at. absurd (let z : Serving o p ≡ Answered t.master n = sym ph
        ∙ subst (λ (j : ℕ). phase c j ≡ Answered t.master n) at s.phased in cc))
        (λ ne. record {
          slot = s.slot;
          letter = s.letter;
          phased = port_phase_else a c i (Answered o p) (some (Some letter)) p now more L S s.slot ne ∙ s.phased;
          at = get_or-set_other c.homes i s.slot (some (Some letter)) none ne ∙ s.at;
          index = s.index;
        })))
        (λ (g : InGot a c t.master n k). inr (record {
          place = g.place;
          entry = g.entry;
          at = g.at;
          port = g.port;
          index = g.index;
        })) t.place;
  }

  new_place : (k : ℕ) (y : Request × Response) → k ≡ length (desk c.ports p).list → (ask, reply) ≡ y
      → Placed a e p k y.0
  new_place k y at is =
      subst (λ (z : Request × Response). Placed a e p k z.0) is
      (record {
        master = o;
        owns = own;
        place = inl (record {
          slot = i;
          letter = letter;
          phased = port_phase_here a c i (Answered o p) (some (Some letter)) p now more L S;
          at = home_here;
          index = last ∙ sym at;
        });
      })

  pub answer_places : Places a e
  answer_places = let P = L.places in record {
    placed = desk_elim c.ports p now more S.near
        (λ n u. (k : ℕ) (y : Request × Response) → slice_get u.list k ≡ Some y → Placed a e n k y.0)
        (λ k y at. ⊎_elim (λ (t : (k < length (desk c.ports p).list)
        × (slice_get (desk c.ports p).list k ≡ Some y)). old_place p k y.0 (P.placed p k y t.1))
        (λ (t : (k ≡ length (desk c.ports p).list) × ((ask, reply) ≡ y)). new_place k y t.0 t.1)
        (at_end (desk c.ports p).list (ask, reply) y k at))
        (λ n _ k y at. old_place n k y.0 (P.placed n k y at));
    got = λ m j g at. let t = P.got m j g at in (lists_grow g.port g.index (g.ask, g.reply) t.0, t.1);
    got_once = P.got_once;
    apart = λ m n j k r g phased home at port. dite (ℕ_discrete j i)
        (λ same. let f : Answered o p ≡ Answered m n =
        sym (port_phase_here a c i (Answered o p) (some (Some letter)) p now more L S)
        ∙ subst (λ (z : ℕ). phase e z ≡ Answered m n) same phased in
        let r_is : letter ≡ r =
        (let z = subst (λ (z : ℕ). get_or e.homes z none ≡ some (Some r)) same home in let w = home_here in cc) in
        let to : p ≡ n = cc in
        let stands = subst (λ (z : ℕ). slice_get (desk c.ports z).list g.index ≡ Some (g.ask, g.reply))
        (port ∙ sym to) (P.got m k g at).0 in
        let low = below_length (desk c.ports p).list g.index (g.ask, g.reply) stands in
        let index = ap (λ (z : SlotRecord). z.index) r_is in λ clash. omega arith)
        (λ ne. P.apart m n j k r g (sym (port_phase_else a c i (Answered o p) (some (Some letter)) p now more L S j ne)
        ∙ phased) (sym (get_or-set_other c.homes i j (some (Some letter)) none ne) ∙ home) at port);
  }

module _ (a : About) (c : Parts) (L : Lawful a c) (id i o : ℕ) (u : Desk) (K : KnownPort a c L id u)
    (carried : List (ℕ × Berth))
    (letter : SlotRecord) (ask : Request) (reply : Response) (serves : ask_at u.serving i ≡ Some ask)
    (own : Owns u.about o ask.source) (spells : Spells letter ask)
    (answer : SpellsAnswer letter ask.address reply) (last : letter.index ≡ length u.list)
    (right : reply ≡ store.reply (replay (reset_of u.about u.number) (asks_of u.list)) ask) where
  abbrev now : List (ℕ × Request)
  now = drop_slot i u.serving

  -- who asked, by the source
  asked_by : (known : ℕ) × (phase c i ≡ Serving o u.number) × (held c.masters o i ≡ Sent ask u.number known)
  asked_by = let p = u.number in
      let t = asked_there a c L p i ask (ap (λ (w : Desk). ask_at w.serving i) K.is ∙ serves) in
      let one = one_owner a L.shape.owners t.0 o ask.source ask.source (L.block t.0 i p t.1 ask t.3)
      (subst (λ (z : About). Owns z o ask.source) K.about own) refl in (
        t.1,
        subst (λ (n : ℕ). phase c i ≡ Serving n p) one t.2,
        subst (λ (n : ℕ). held c.masters n i ≡ Sent ask p t.1) one t.3,
      )

  -- so the owner fits in a word
  pub answer_owner : o ≤ MAX_AGENT
  answer_owner = let s = asked_by.2 in (low_master a c L o (some_master c.masters o i (λ e. absurd (cc)))).1

  pub answer_event : IsOneEvent a (Answer i o u.number) (table_of a c)
      (stepped (table_of a c) i (word (Answered o u.number)) id ((i, Some letter) ∷ carried)
      (Port (with_serving u now (u.list ++ (ask, reply) ∷ []))) gives)
      × IsLawfulDesk (with_serving u now (u.list ++ (ask, reply) ∷ []))
  answer_event = let p = u.number in let by = asked_by in let ph = by.1 in
      let lt = serving_inside a c L i o p ph in let h = subst (InPhase a c i) ph (L.slots i lt) in
      let ask_is : h.asked.ask ≡ ask = (let z = h.asked.sent in let y = by.2 in cc) in
      let list = (desk c.ports p).list in let list_is : list ≡ u.list = ap (λ (w : Desk). w.list) K.is in
      let last' : letter.index ≡ length list = last ∙ ap (λ (l : List (Request × Response)). length l) (sym list_is) in
      let low = λ (j : ℕ) (g : Entry) (at : slice_get (hands c.masters o).got j ≡ Some g)
      (to : g.port ≡ p). below_length list g.index (g.ask, g.reply)
      (subst (λ (z : ℕ). slice_get (desk c.ports z).list g.index ≡ Some (g.ask, g.reply)) to
      (L.places.got o j g at).0) in
      let more = list ++ (ask, reply) ∷ [] in
      let none_left = drop_here u.serving i (subst (λ (w : Desk). HasDistinctSlots w.serving) K.is
      (L.serves_once p)) in
      let near : o < length c.masters = (let s = by.2 in some_master c.masters o i (λ e. absurd (cc))) in
      let true_reply : reply ≡ store.reply (replay (reset_of a p) (asks_of list)) ask =
      right ∙ (λ z. store.reply (replay (reset_of (K.about z) p) (asks_of (sym list_is z))) ask) in
      let grown : IsLawfulHistory (reset_of a p) more =
      subst (λ (r : Response). IsLawfulHistory (reset_of a p) (list ++ (ask, r) ∷ [])) (sym true_reply)
      (IsLawfulHistory-push (reset_of a p) (replay (reset_of a p) (asks_of list)) list ask (L.lawful p) refl) in
      let S : PortStep a c i (Answered o p) (some (Some letter)) p now more = record {
        near = K.near;
        inside = lt;
        same_master = λ n names. subst (λ g. Names g n) ph names;
        mine = λ n r e. let z : Serving o p ≡ Serving n r = sym ph ∙ e in cc;
        others = λ j ne. drop_else u.serving i j ne ∙ ap (λ (w : Desk). ask_at w.serving j) (sym K.is);
        names = λ r e. absurd (cc);
        once = drop_once u.serving i (subst (λ (w : Desk). HasDistinctSlots w.serving) K.is (L.serves_once p));
        grows = λ j y at. before_end list (ask, reply) j (below_length list j y at) ∙ at;
        lawful = grown;
        here = record {
          asked = h.asked;
          home = record {
            letter = letter;
            at = get_or-set_same c.homes i (some (Some letter)) none (let e = L.shape.homes in omega arith);
            spells = subst (Spells letter) (sym ask_is) spells;
          };
          answer = reply;
          spells = subst (λ (q : Request). SpellsAnswer letter q.address reply) (sym ask_is) answer;
          listed = subst (λ (l : List (Request × Response)). slice_get l letter.index ≡ Some (h.asked.ask, reply))
              (sym (list_here c.ports p now more K.near))
              (ended list (ask, reply) letter.index last' ∙ (λ z. Some (sym ask_is z, reply)));
          above = λ j g _ at to. let l = low j g at to in omega arith;
        };
      } in
      let M = port_moved a c i (Answered o p) (some (Some letter)) p now more L S
      (answer_places a c i p o letter ask reply now L S ph
      (subst (λ (z : About). Owns z o ask.source) K.about own) last') in (
        subst (λ (l : List (Request × Response)). IsOneEvent a (Answer i o p) (table_of a c)
            (stepped (table_of a c) i (word (Answered o p)) id ((i, Some letter) ∷ carried)
            (Port (with_serving u now (l ++ (ask, reply) ∷ []))) gives)) list_is
            (port_step a c i id u (Answered o p) (some (Some letter)) now more ((i, Some letter) ∷ carried) gives
            (Answer i o p) L K (let e = L.shape.phases in omega arith) refl M
            (move_is_allowed (state_of a c) (Answer i o p) _ refl (found a c L i (Serving o p) lt ph)
            (there a c L o near) (low_port a c L p K.near).0 tt) refl),
        subst (λ (l : List (Request × Response)). IsLawfulDesk (with_serving u now (l ++ (ask, reply) ∷ []))) list_is
            (law_after a c L id i u K carried (Answered o p) (some (Some letter)) now more M),
      )

pub answers : (a : About) (slots id : ℕ) (u : Desk) (carried : List (ℕ × Berth)) (i new o : ℕ) (letter : SlotRecord)
    (ask : Request) (reply : Response) → ask_at u.serving i ≡ Some ask → new ≡ word (Answered o u.number)
    → Owns u.about o ask.source
    → Spells letter ask → SpellsAnswer letter ask.address reply → letter.index ≡ length u.list
    → reply ≡ store.reply (replay (reset_of u.about u.number) (asks_of u.list)) ask
    → Allows (Fits a) slots id (Port u, (i, Some letter) ∷ carried) i (λ _. new)
    (λ _. Answers (step slots i new 0 none) (Port u, (i, Some letter) ∷ carried) new)
answers a slots id u carried i new o letter ask reply serves is own spells answer last right = let v =
    with_serving u (drop_slot i u.serving) (u.list ++ (ask, reply) ∷ []) in
    stores a slots id (Port u, (i, Some letter) ∷ carried) i new
    (Answers (step slots i new 0 none) (Port u, (i, Some letter) ∷ carried) new)
    (λ c L wide at. let K = known_port a c L id u at in
    let E = answer_event a c L id i o u K carried letter ask reply serves own spells answer last right in
    let small = answer_owner a c L id i o u K carried letter ask reply serves own spells answer last right in
    let low = (low_port a c L u.number K.near).1 in
    let owner : o ≡ new / 8 % 256 = omega arith in (
      Port v,
      gives,
      tt,
      subst (λ (n : ℕ). Fits a (stepped (table_of a c) i n id ((i, Some letter) ∷ carried) (Port v) gives)) (sym is)
          (fits_after a (Answer i o u.number) _ _ E.0),
      record {
        ask = ask;
        serves = serves;
        reply = reply;
        spells = answer;
        seat = refl;
        owner = subst (λ (n : ℕ). Owns u.about n ask.source) owner own;
        law = E.1;
        event = subst (λ (n : ℕ). IsEventOf u.about (Answer i n u.number) (Port u) (Port v)) owner
            (event_told a u.about (Answer i o u.number) _ _ id _ _ K.about at refl E.0);
      },
    ))
