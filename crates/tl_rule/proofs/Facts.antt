-- What a table that fits tells of a word, of a view and of a slot.
use Rattle.std.proofs.Common.{◌≡◌, ◌≢◌, ℕ, suc, ◌<◌, ◌≤◌, true, false, List, length, get_or, set, sym, refl, ap, subst, ◌∙◌, arith, inl, inr, ◌⊎◌, Option, Some, None, slice_get}
use mathlib.Core.Option.{some}
use mathlib.Core.Logic.{dite}
use native.Mathlib.Decide.{dec_lt}
use lib.ListN.{get_elem?}
use Rattle.tl_types.specs.Request.{Request}
use Rattle.tl_types.specs.Response.{Response}
use Rattle.tl_slots.specs.declared.phase.Phase.{Phase}
use Rattle.tl_slots.specs.declared.phase.Phase.TheVariants.{Free, Filling, Posted, Serving, Answered, Taking}
use Rattle.tl_slots.specs.declared.word.TheConstants.{MAX_AGENT}
use Rattle.tl_slots.specs.Word.{FitsWord, word}
use Rattle.tl_slots.proofs.Words.{word-injective}
use Rattle.tl_map.specs.Owner.{IsOf}
use Rattle.tl_map.specs.Owners.{AreLawfulOwners}
use Rattle.tl_beats.proofs.Only.{same_ask}
use Rattle.tl_beats.proofs.ReplyOnly.{same_reply}
use Rattle.tl_rule.specs.declared.view.About.{About}
use Rattle.tl_rule.specs.declared.view.Held.{Held}
use Rattle.tl_rule.specs.declared.view.Held.TheVariants.{Nothing, Filled, Sent, Taken}
use Rattle.tl_rule.specs.declared.view.Hands.{Hands}
use Rattle.tl_rule.specs.declared.view.Desk.{Desk}
use Rattle.tl_rule.specs.declared.view.View.{View}
use Rattle.tl_rule.specs.declared.view.View.TheVariants.{Dealer, Master, Port}
use Rattle.tl_rule.specs.Record.{SlotRecord, Spells, SpellsAnswer}
use Rattle.tl_rule.specs.Serving.{ask_at}
use Rattle.tl_rule.specs.Views.{Owns, hands, desk, held, served, no_hands, no_desk}
use Rattle.tl_rule.specs.Rule.{Parts, Names, InPhase, Lawful, phase, views_of, table_of}
use Rattle.tl_rule.specs.Moves.{Seat, is_master, as_master, is_port, as_port}
use Rattle.tl_rule.proofs.Tables.{at_get, past, master_view, port_view, word_at}

-- ---- what is not blank is there

pub some_master : (ms : List Hands) (m i : ℕ) → held ms m i ≢ Nothing → m < length ms
some_master ms m i h =
    dite (dec_lt m (length ms)) (λ lt. lt) (λ ge. absurd
    (h (ap (λ (v : Hands). get_or v.hand i Nothing) (past ms m no_hands (omega arith)))))

pub some_port : (ps : List Desk) (p i : ℕ) (ask : Request) → served ps p i ≡ Some ask → p < length ps
some_port ps p i ask e =
    dite (dec_lt p (length ps)) (λ lt. lt) (λ ge. let n =
    ap (λ (u : Desk). ask_at u.serving i) (past ps p no_desk (omega arith)) in absurd (cc))

pub some_list : (ps : List Desk) (p i : ℕ) (x : Request × Response) → slice_get (desk ps p).list i ≡ Some x
    → p < length ps
some_list ps p i x e =
    dite (dec_lt p (length ps)) (λ lt. lt) (λ ge. let n =
    ap (λ (u : Desk). slice_get u.list i) (past ps p no_desk (omega arith)) in absurd (cc))

pub in_hand_of : (xs : List Held) (i : ℕ) → get_or xs i Nothing ≢ Nothing → i < length xs
in_hand_of xs i h = dite (dec_lt i (length xs)) (λ lt. lt) (λ ge. absurd (h (past xs i Nothing (omega arith))))

-- a slot that is not free is there
pub phase_inside : (fs : List Phase) (i : ℕ) → get_or fs i Free ≢ Free → i < length fs
phase_inside fs i ne = dite (dec_lt i (length fs)) (λ lt. lt) (λ ge. absurd (ne (past fs i Free (omega arith))))

-- ---- small things

pub nothing_or : (h : Held) → (h ≡ Nothing) ⊎ (h ≢ Nothing)
nothing_or Nothing = inl refl
nothing_or Filled = inr (λ e. absurd (cc))
nothing_or (Sent q p k) = inr (λ e. absurd (cc))
nothing_or (Taken p) = inr (λ e. absurd (cc))

pub none_or : (y : Option Request) → (y ≡ None) ⊎ ((ask : Request) × (y ≡ Some ask))
none_or None = inl refl
none_or (Some q) = inr (q, refl)

-- a source is of one master
pub one_owner : (a : About) → AreLawfulOwners a.owners → (m n s t : ℕ) → Owns a m s → Owns a n t → s ≡ t → m ≡ n
one_owner a lawful m n s t x y e =
    lawful.apart m n t (record { of_one = subst (λ (z : ℕ). IsOf a.owners m z) e x; of_other = y })

-- a record spells one request, and one reply to it
pub spells_one : (r : SlotRecord) (ask other : Request) → Spells r ask → Spells r other → ask ≡ other
spells_one r ask other x y = same_ask ask other r.beats x.lawful y.lawful x.beats y.beats

pub answers_one : (r : SlotRecord) (address : ℕ) (reply other : Response) → SpellsAnswer r address reply
    → SpellsAnswer r address other → reply ≡ other
answers_one r address reply other x y = same_reply reply other address r.replies x.lawful y.lawful x.beats y.beats

-- ---- words and views

module _ (a : About) (c : Parts) (L : Lawful a c) where
  pub low_master : (m : ℕ) → m < length c.masters → (m < a.masters) × (m ≤ MAX_AGENT)
  low_master m lt = let l = L.shape.masters in let k = L.shape.limits.masters_in_limit in (omega arith, omega arith)

  pub low_port : (p : ℕ) → p < length c.ports → (p < a.ports) × (p ≤ MAX_AGENT)
  low_port p lt = let l = L.shape.ports in let k = L.shape.limits.ports_in_limit in (omega arith, omega arith)

  pub in_ports : (p : ℕ) → p < a.ports → p ≤ MAX_AGENT
  in_ports p lt = let k = L.shape.limits.ports_in_limit in omega arith

  pub fits_word : (i : ℕ) (f : Phase) → InPhase a c i f → FitsWord f
  fits_word i Free h = record { owner = tt; port = tt }
  fits_word i (Filling m) h =
      record { owner = (low_master m (some_master c.masters m i (λ e. absurd (cc)))).1; port = tt }
  fits_word i (Posted m p) h = let s = h.asked.sent in
      record { owner = (low_master m (some_master c.masters m i (λ e. absurd (cc)))).1; port = in_ports p h.port }
  fits_word i (Serving m p) h = let s = h.asked.sent in
      record {
        owner = (low_master m (some_master c.masters m i (λ e. absurd (cc)))).1;
        port = (low_port p (some_port c.ports p i h.asked.ask h.serves)).1;
      }
  fits_word i (Answered m p) h = let s = h.asked.sent in
      record {
        owner = (low_master m (some_master c.masters m i (λ e. absurd (cc)))).1;
        port = (low_port p (some_list c.ports p _ _ h.listed)).1;
      }
  fits_word i (Taking m p) h = let s = h.taken in
      record { owner = (low_master m (some_master c.masters m i (λ e. absurd (cc)))).1; port = in_ports p h.port }

  -- a word shows its phase
  pub shown : (i : ℕ) (f : Phase) → i < a.slots → FitsWord f → get_or (table_of a c).words i 0 ≡ word f → phase c i ≡ f
  shown i f lt fits e = let n = L.shape.phases in
      word-injective (phase c i) f (fits_word i (phase c i) (L.slots i lt)) fits
      (sym (word_at c.phases _ i (omega arith)) ∙ e)

  -- the view of a master, by its number
  pub record Known (id : ℕ) (v : Hands) : Type 0 where
    pub near : v.number < length c.masters
    pub is : hands c.masters v.number ≡ v
    pub about : v.about ≡ a
    pub wide : length v.hand ≡ a.slots
    pub place : id ≡ suc v.number
    pub sets : (w : Hands) → set (views_of a c.masters c.ports) id (Master w) ≡ views_of a
        (set c.masters v.number w) c.ports

  pub known : (id : ℕ) (v : Hands) → get_elem? (views_of a c.masters c.ports) id ≡ some (Master v) → Known id v
  known id v e = let t = master_view a c.masters c.ports id v e in let j = t.0 in
      let at = at_get c.masters j v no_hands t.1 in let m = L.shape.master_views j at.0 in
      let number : v.number ≡ j = ap (λ (x : Hands). x.number) (sym at.1) ∙ m.0 in record {
        near = subst (λ (n : ℕ). n < length c.masters) (sym number) at.0;
        is = ap (λ (n : ℕ). hands c.masters n) number ∙ at.1;
        about = ap (λ (x : Hands). x.about) (sym at.1) ∙ m.1;
        wide = ap (λ (x : Hands). length x.hand) (sym at.1) ∙ m.2;
        place = t.3 ∙ ap suc (sym number);
        sets = λ w. t.2 w ∙ ap (λ (n : ℕ). views_of a (set c.masters n w) c.ports) (sym number);
      }

  -- and that of a port
  pub record KnownPort (id : ℕ) (u : Desk) : Type 0 where
    pub near : u.number < length c.ports
    pub is : desk c.ports u.number ≡ u
    pub about : u.about ≡ a
    pub sets : (w : Desk) → set (views_of a c.masters c.ports) id (Port w) ≡ views_of a c.masters
        (set c.ports u.number w)

  pub known_port : (id : ℕ) (u : Desk) → get_elem? (views_of a c.masters c.ports) id ≡ some (Port u) → KnownPort id u
  known_port id u e = let t = port_view a c.masters c.ports id u e in let j = t.0 in
      let at = at_get c.ports j u no_desk t.1 in let m = L.shape.port_views j at.0 in
      let number : u.number ≡ j = ap (λ (x : Desk). x.number) (sym at.1) ∙ m.0 in record {
        near = subst (λ (n : ℕ). n < length c.ports) (sym number) at.0;
        is = ap (λ (n : ℕ). desk c.ports n) number ∙ at.1;
        about = ap (λ (x : Desk). x.about) (sym at.1) ∙ m.1;
        sets = λ w. t.2 w ∙ ap (λ (n : ℕ). views_of a c.masters (set c.ports n w)) (sym number);
      }

-- ---- what the phase is, by what the hand has

-- a phase that names a master and another names one
pub one_named : (f : Phase) (m n : ℕ) → Names f m → Names f n → m ≡ n
one_named f m n x y = let z : Some m ≡ Some n = sym x ∙ y in cc

pub free_names_none : (m : ℕ) → Names Free m → ⊥
free_names_none m n = cc

module _ (a : About) (c : Parts) (L : Lawful a c) (m i : ℕ) where
  filled_is : (f : Phase) → Names f m → InPhase a c i f → held c.masters m i ≡ Filled → f ≡ Filling m
  filled_is Free n h e = absurd (cc)
  filled_is (Filling o) n h e = ap Filling (one_named (Filling o) o m refl n)
  filled_is (Posted o p) n h e = let s =
      subst (λ (z : ℕ). held c.masters z i ≡ Sent h.asked.ask p h.asked.known)
      (one_named (Posted o p) o m refl n) h.asked.sent in absurd (cc)
  filled_is (Serving o p) n h e = let s =
      subst (λ (z : ℕ). held c.masters z i ≡ Sent h.asked.ask p h.asked.known)
      (one_named (Serving o p) o m refl n) h.asked.sent in absurd (cc)
  filled_is (Answered o p) n h e = let s =
      subst (λ (z : ℕ). held c.masters z i ≡ Sent h.asked.ask p h.asked.known)
      (one_named (Answered o p) o m refl n) h.asked.sent in absurd (cc)
  filled_is (Taking o p) n h e = let s =
      subst (λ (z : ℕ). held c.masters z i ≡ Taken p) (one_named (Taking o p) o m refl n) h.taken in absurd (cc)

  taken_is : (f : Phase) (r : ℕ) → Names f m → InPhase a c i f → held c.masters m i ≡ Taken r → f ≡ Taking m r
  taken_is Free r n h e = absurd (cc)
  taken_is (Filling o) r n h e = let s =
      subst (λ (z : ℕ). held c.masters z i ≡ Filled) (one_named (Filling o) o m refl n) h in absurd (cc)
  taken_is (Posted o p) r n h e = let s =
      subst (λ (z : ℕ). held c.masters z i ≡ Sent h.asked.ask p h.asked.known)
      (one_named (Posted o p) o m refl n) h.asked.sent in absurd (cc)
  taken_is (Serving o p) r n h e = let s =
      subst (λ (z : ℕ). held c.masters z i ≡ Sent h.asked.ask p h.asked.known)
      (one_named (Serving o p) o m refl n) h.asked.sent in absurd (cc)
  taken_is (Answered o p) r n h e = let s =
      subst (λ (z : ℕ). held c.masters z i ≡ Sent h.asked.ask p h.asked.known)
      (one_named (Answered o p) o m refl n) h.asked.sent in absurd (cc)
  taken_is (Taking o p) r n h e = let o_is = one_named (Taking o p) o m refl n in
      let s = subst (λ (z : ℕ). held c.masters z i ≡ Taken p) o_is h.taken in let q : p ≡ r = cc in
      λ t. Taking (o_is t) (q t)

  -- a slot whose phase names the master is in its hand
  in_hand : (f : Phase) → Names f m → InPhase a c i f → held c.masters m i ≢ Nothing
  in_hand Free n h e = absurd (cc)
  in_hand (Filling o) n h e = let s =
      subst (λ (z : ℕ). held c.masters z i ≡ Filled) (one_named (Filling o) o m refl n) h in absurd (cc)
  in_hand (Posted o p) n h e = let s =
      subst (λ (z : ℕ). held c.masters z i ≡ Sent h.asked.ask p h.asked.known)
      (one_named (Posted o p) o m refl n) h.asked.sent in absurd (cc)
  in_hand (Serving o p) n h e = let s =
      subst (λ (z : ℕ). held c.masters z i ≡ Sent h.asked.ask p h.asked.known)
      (one_named (Serving o p) o m refl n) h.asked.sent in absurd (cc)
  in_hand (Answered o p) n h e = let s =
      subst (λ (z : ℕ). held c.masters z i ≡ Sent h.asked.ask p h.asked.known)
      (one_named (Answered o p) o m refl n) h.asked.sent in absurd (cc)
  in_hand (Taking o p) n h e = let s =
      subst (λ (z : ℕ). held c.masters z i ≡ Taken p) (one_named (Taking o p) o m refl n) h.taken in absurd (cc)

  -- what was sent was sent to a port that fits in a word
  sent_fits : (f : Phase) (ask : Request) (p since : ℕ) → Names f m → InPhase a c i f
      → held c.masters m i ≡ Sent ask p since → p ≤ MAX_AGENT
  sent_fits Free ask p since n h e = absurd (cc)
  sent_fits (Filling o) ask p since n h e = let s =
      subst (λ (z : ℕ). held c.masters z i ≡ Filled) (one_named (Filling o) o m refl n) h in absurd (cc)
  sent_fits (Posted o q) ask p since n h e = let s =
      subst (λ (z : ℕ). held c.masters z i ≡ Sent h.asked.ask q h.asked.known)
      (one_named (Posted o q) o m refl n) h.asked.sent in let same : q ≡ p = cc in
      let k = (fits_word a c L i (Posted o q) h).port in subst (λ (z : ℕ). z ≤ MAX_AGENT) same k
  sent_fits (Serving o q) ask p since n h e = let s =
      subst (λ (z : ℕ). held c.masters z i ≡ Sent h.asked.ask q h.asked.known)
      (one_named (Serving o q) o m refl n) h.asked.sent in let same : q ≡ p = cc in
      let k = (fits_word a c L i (Serving o q) h).port in subst (λ (z : ℕ). z ≤ MAX_AGENT) same k
  sent_fits (Answered o q) ask p since n h e = let s =
      subst (λ (z : ℕ). held c.masters z i ≡ Sent h.asked.ask q h.asked.known)
      (one_named (Answered o q) o m refl n) h.asked.sent in let same : q ≡ p = cc in
      let k = (fits_word a c L i (Answered o q) h).port in subst (λ (z : ℕ). z ≤ MAX_AGENT) same k
  sent_fits (Taking o q) ask p since n h e = let s =
      subst (λ (z : ℕ). held c.masters z i ≡ Taken q) (one_named (Taking o q) o m refl n) h.taken in absurd (cc)

  pub sent_port : (ask : Request) (p since : ℕ) → i < a.slots → held c.masters m i ≡ Sent ask p since → p ≤ MAX_AGENT
  sent_port ask p since lt e = sent_fits (phase c i) ask p since (L.hand m i (λ z. absurd (cc))) (L.slots i lt) e

  pub filled_phase : i < a.slots → held c.masters m i ≡ Filled → phase c i ≡ Filling m
  filled_phase lt e = filled_is (phase c i) (L.hand m i (λ z. absurd (cc))) (L.slots i lt) e

  pub taken_phase : (r : ℕ) → i < a.slots → held c.masters m i ≡ Taken r → phase c i ≡ Taking m r
  taken_phase r lt e = taken_is (phase c i) r (L.hand m i (λ z. absurd (cc))) (L.slots i lt) e

  pub owner_holds : i < a.slots → Names (phase c i) m → held c.masters m i ≢ Nothing
  owner_holds lt n = in_hand (phase c i) n (L.slots i lt)

  -- who holds a slot has not left
  pub not_left : held c.masters m i ≢ Nothing → (hands c.masters m).left ≡ false
  not_left h = elim (hands c.masters m).left as
      (λ b. (b ≡ true → held c.masters m i ≡ Nothing)
      → b ≡ false) [ true ↦ λ z. absurd (h (z refl)) | false ↦ λ _. refl ] (L.gone m i)

-- ---- seats

is_master_at : (w : View) → is_master w ≡ true → w ≡ Master (as_master w)
is_master_at (Dealer a m p) e = absurd (cc)
is_master_at (Master v) e = refl
is_master_at (Port u) e = absurd (cc)

pub seat_is : (m : Seat) → is_master m.0 ≡ true → m ≡ (Master (as_master m.0), m.1)
seat_is m e = λ t. (is_master_at m.0 e t, m.1)

is_port_at : (w : View) → is_port w ≡ true → w ≡ Port (as_port w)
is_port_at (Dealer a m p) e = absurd (cc)
is_port_at (Master v) e = absurd (cc)
is_port_at (Port u) e = refl

pub port_seat_is : (m : Seat) → is_port m.0 ≡ true → m ≡ (Port (as_port m.0), m.1)
port_seat_is m e = λ t. (is_port_at m.0 e t, m.1)
