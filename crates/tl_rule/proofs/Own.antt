-- Where the rule holds, a master's view and a port's list fit together.
use Rattle.std.proofs.Common.{◌≡◌, ◌≢◌, ℕ, zero, suc, ◌<◌, List, [], ◌∷◌, get_or, sym, refl, ap, subst, ◌∙◌, arith, inl, inr, ⊎_elim, ◌⊎◌, Some, slice_get}
use mathlib.Core.Logic.{dite}
use native.Mathlib.Decide.{ℕ_discrete}
use Rattle.tl_types.specs.Request.{Request}
use Rattle.tl_types.specs.Response.{Response}
use Rattle.tl_types.specs.declared.trace.Entry.{Entry}
use Rattle.tl_ops.specs.History.{IsLawfulHistory}
use Rattle.tl_slots.specs.declared.phase.Phase.TheVariants.{Free, Answered}
use Rattle.tl_rule.specs.declared.view.About.{About}
use Rattle.tl_rule.specs.declared.view.Held.{Held}
use Rattle.tl_rule.specs.declared.view.Held.TheVariants.{Nothing, Sent}
use Rattle.tl_rule.specs.declared.view.Hands.{Hands}
use Rattle.tl_rule.specs.Record.{SlotRecord}
use Rattle.tl_rule.specs.Views.{Owns, reset_of, hands, desk, held}
use Rattle.tl_rule.specs.Rule.{Parts, IsHome, InPhase, IsAnswered, InSlot, InGot, Lawful, phase}
use Rattle.std.proofs.Common.{cond, eq-eqb, ne_eqb, Contains, take}
use Rattle.std.proofs.lemmas.List.Elements.{Contains-append_left, Contains-append_right}
use Rattle.tl_rule.specs.Seen.{IsOfMasters, SeenFit, JustOwn, IsPlaceOf, at_port, sent_to, sent_at}
use Rattle.tl_rule.specs.Moves.{OwnsAll}
use Rattle.tl_rule.proofs.Facts.{one_owner, phase_inside}

-- ---- what a list contains, by places

contains_first : {A : Type 0} (x : A) (xs : List A) → Contains (x ∷ xs) x
contains_first x xs = (0, omega arith, refl)

contains_later : {A : Type 0} (x y : A) (xs : List A) → Contains xs y → Contains (x ∷ xs) y
contains_later x y xs h = let l = h.1 in (suc h.0, omega arith, h.2)

contains_cases : {A : Type 0} (x y : A) (xs : List A) → Contains (x ∷ xs) y → (x ≡ y) ⊎ Contains xs y
contains_cases x y xs (zero, lt, e) = inl e
contains_cases x y xs (suc k, lt, e) = inr (k, omega arith, e)

kept : (p : ℕ) (e : Entry) (es : List Entry) → e.port ≡ p → at_port p (e ∷ es) ≡ e ∷ at_port p es
kept p e es is = ap (λ b. cond b (e ∷ at_port p es) (at_port p es)) (eq-eqb e.port p is)

dropped : (p : ℕ) (e : Entry) (es : List Entry) → e.port ≢ p → at_port p (e ∷ es) ≡ at_port p es
dropped p e es not = ap (λ b. cond b (e ∷ at_port p es) (at_port p es)) (ne_eqb e.port p not)

-- an entry that was collected at the port stands at a place
pub got_forth : (p : ℕ) (es : List Entry) (k : ℕ) (e : Entry) → slice_get es k ≡ Some e → e.port ≡ p
    → Contains (at_port p es) e
got_forth p [] k e at is = absurd (cc)
got_forth p (x ∷ xs) zero e at is = let same : x ≡ e = cc in
    subst (λ (y : Entry). Contains (at_port p (y ∷ xs)) e) (sym same)
    (subst (λ (l : List Entry). Contains l e) (sym (kept p e xs is)) (contains_first e (at_port p xs)))
got_forth p (x ∷ xs) (suc k) e at is = dite (ℕ_discrete x.port p)
    (λ same. subst (λ (l : List Entry). Contains l e) (sym (kept p x xs same))
    (contains_later x e (at_port p xs) (got_forth p xs k e at is)))
    (λ ne. subst (λ (l : List Entry). Contains l e) (sym (dropped p x xs ne)) (got_forth p xs k e at is))

pub got_back : (p : ℕ) (es : List Entry) (e : Entry) → Contains (at_port p es) e → (k : ℕ) × (slice_get es k ≡ Some e)
    × (e.port ≡ p)
got_back p [] e h = let l = h.1 in absurd (omega arith)
got_back p (x ∷ xs) e h = dite (ℕ_discrete x.port p)
    (λ same. ⊎_elim (λ (is : x ≡ e). (zero, ap Some is, ap (λ (y : Entry). y.port) (sym is) ∙ same))
    (λ (later : Contains (at_port p xs) e). let t = got_back p xs e later in (suc t.0, t.1, t.2))
    (contains_cases x e (at_port p xs) (subst (λ (l : List Entry). Contains l e) (kept p x xs same) h)))
    (λ ne. let t = got_back p xs e (subst (λ (l : List Entry). Contains l e) (dropped p x xs ne) h) in
    (suc t.0, t.1, t.2))

-- what was sent to the port from a slot
pub sent_forth : (p : ℕ) (hs : List Held) (i known : ℕ) (ask : Request) → get_or hs i Nothing ≡ Sent ask p known
    → Contains (sent_at p hs) ask
sent_forth p [] i known ask e = absurd (cc)
sent_forth p (h ∷ hs) zero known ask e = let one : sent_to p (Sent ask p known) ≡ ask ∷ [] =
    ap (λ b. cond b (ask ∷ []) []) (eq-eqb p p refl) in
    Contains-append_left (sent_to p h) (sent_at p hs) ask
    (subst (λ (x : Held). Contains (sent_to p x) ask) (sym e)
    (subst (λ (l : List Request). Contains l ask) (sym one) (contains_first ask [])))
sent_forth p (h ∷ hs) (suc i) known ask e =
    Contains-append_right (sent_to p h) (sent_at p hs) ask (sent_forth p hs i known ask e)

-- the first few entries
pub taken_get : (n : ℕ) (es : List Entry) (k : ℕ) (e : Entry) → slice_get (take n es) k ≡ Some e → (k < n)
    × (slice_get es k ≡ Some e)
taken_get zero es k e at = absurd (cc)
taken_get (suc n) [] k e at = absurd (cc)
taken_get (suc n) (x ∷ xs) zero e at = (omega arith, at)
taken_get (suc n) (x ∷ xs) (suc k) e at = let t = taken_get n xs k e at in let l = t.0 in (omega arith, t.1)

-- ---- what the rule says

-- a slot in this phase is there
pub answered_inside : (a : About) (c : Parts) (L : Lawful a c) (i m p : ℕ) → phase c i ≡ Answered m p → i < a.slots
answered_inside a c L i m p ph = let n = L.shape.phases in
    let z = phase_inside c.phases i (λ e. absurd (let clash : Free ≡ Answered m p = sym e ∙ ph in cc)) in omega arith

module _ (a : About) (c : Parts) (L : Lawful a c) (m p : ℕ) where
  abbrev v : Hands
  v = hands c.masters m

  abbrev h : List (Request × Response)
  h = (desk c.ports p).list

  abbrev mine : List Entry
  mine = at_port p v.got

  abbrev out : List Request
  out = sent_at p v.hand

  -- a slot that is answered, with its request at its index of the list
  record At (k : ℕ) (x : Request × Response) : Type 0 where
    slot : ℕ
    known : ℕ
    letter : SlotRecord
    sent : held c.masters m slot ≡ Sent x.0 p known
    at : IsHome c.homes slot letter
    index : letter.index ≡ k

  found : (k : ℕ) (x : Request × Response) → slice_get h k ≡ Some x → Owns a m x.0.source → At k x ⊎ IsPlaceOf mine k
  found k x at own = let t = L.places.placed p k x at in
      let one = one_owner a L.shape.owners t.master m x.0.source x.0.source t.owns own refl in ⊎_elim
      (λ (s : InSlot a c t.master p k). inl (let ph : phase c s.slot ≡ Answered m p =
      subst (λ (n : ℕ). phase c s.slot ≡ Answered n p) one s.phased in
      let g = subst (InPhase a c s.slot) ph (L.slots s.slot (answered_inside a c L s.slot m p ph)) in
      let same : g.home.letter ≡ s.letter = (let y = g.home.at in let z = s.at in cc) in
      let index : g.home.letter.index ≡ k = ap (λ (z : SlotRecord). z.index) same ∙ s.index in
      let pair : Some (g.asked.ask, g.answer) ≡ Some x =
      sym (subst (λ (n : ℕ). slice_get h n ≡ Some (g.asked.ask, g.answer)) index g.listed) ∙ at in
      let ask : g.asked.ask ≡ x.0 = cc in
      record {
        slot = s.slot;
        known = g.asked.known;
        letter = s.letter;
        sent = g.asked.sent ∙ (λ z. Sent (ask z) p g.asked.known);
        at = s.at;
        index = s.index;
      }))
      (λ (g : InGot a c t.master p k). inr (record {
        entry = g.entry;
        is = got_forth p v.got g.place g.entry (subst
            (λ (n : ℕ). slice_get (hands c.masters n).got g.place ≡ Some g.entry) one g.at) g.port;
        at = g.index;
      })) t.place

  stands_at : (k : ℕ) (e : Entry) → slice_get v.got k ≡ Some e → e.port ≡ p
      → slice_get h e.index ≡ Some (e.ask, e.reply)
  stands_at k e at port =
      subst (λ (n : ℕ). slice_get (desk c.ports n).list e.index ≡ Some (e.ask, e.reply)) port (L.places.got m k e at).0

  stands : (e : Entry) → Contains mine e → slice_get h e.index ≡ Some (e.ask, e.reply)
  stands e g = let t = got_back p v.got e g in stands_at t.0 e t.1 t.2

  -- two answered slots of one source are one
  one_place : (k l : ℕ) (x y : Request × Response) → x.0.source ≡ y.0.source → At k x → At l y → k ≡ l
  one_place k l x y same t u = let one = L.sources m t.slot u.slot p p t.known u.known x.0 y.0 t.sent u.sent same in
      let letters : t.letter ≡ u.letter =
      (let z = subst (λ (n : ℕ). IsHome c.homes n t.letter) one t.at in let w = u.at in cc) in
      sym t.index ∙ ap (λ (z : SlotRecord). z.index) letters ∙ u.index

  -- each place is that of some master's slot or reply, whose source it is
  pub of_masters : IsOfMasters a h
  of_masters k x at = let t = L.places.placed p k x at in (t.master, t.owns)

  pub just_own_at : JustOwn h (Owns a m) mine out
  just_own_at = record {
    stand = stands;
    others = λ k x at own. ⊎_elim (λ (t : At k x). inr (sent_forth p v.hand t.slot t.known x.0 t.sent)) inl
        (found k x at own);
    once = λ k l x y at there own same ne.
        ⊎_elim (λ (t : At k x). ⊎_elim (λ (u : At l y). absurd (ne (one_place k l x y same t u))) inr
        (found l y there (subst (λ (z : ℕ). Owns a m z) same own))) inl (found k x at own);
  }

  -- the same, by what the view says of itself
  pub just_own : v.about ≡ a → v.number ≡ m → JustOwn h (Owns v.about v.number) mine out
  just_own about number =
      subst (λ (z : About). JustOwn h (Owns z v.number) mine out) (sym about)
      (subst (λ (n : ℕ). JustOwn h (Owns a n) mine out) (sym number) just_own_at)

  -- where nothing is out there, the list has no other request of the master
  pub all_own : v.about ≡ a → v.number ≡ m → ((i : ℕ) → held c.masters m i ≡ Nothing) → OwnsAll v p
  all_own about number empty = let own_at =
      λ (s : ℕ) (o : Owns v.about v.number s). subst (λ (z : About). Owns z m s) about
      (subst (λ (n : ℕ). Owns v.about n s) number o) in let own = just_own about number in record {
        history = h;
        lawful = subst (λ (z : About). IsLawfulHistory (reset_of z p) h) (sym about) (L.lawful p);
        masters = subst (λ (z : About). IsOfMasters z h) (sym about) of_masters;
        own = record {
          stand = own.stand;
          others = λ k x at o. ⊎_elim (λ (t : At k x). let e : Nothing ≡ Sent x.0 p t.known = sym (empty t.slot) ∙ t.sent in
              absurd (cc)) inl (found k x at (own_at x.0.source o));
          once = own.once;
        };
      }

  -- an answered slot: its request and reply stand at the index of its record, after all that its owner had seen there
  pub seen_fit : (i : ℕ) (A : IsAnswered a c i m p)
      → SeenFit h A.home.letter.index A.asked.ask A.answer (at_port p (take A.asked.known v.got))
  seen_fit i A = record {
    place = A.listed;
    before = λ e s. let t = got_back p (take A.asked.known v.got) e s in
        let k = taken_get A.asked.known v.got t.0 e t.1 in (A.above t.0 e k.0 k.1 t.2, stands_at t.0 e k.1 t.2);
  }
