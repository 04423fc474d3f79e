-- The steps that claim a slot, post a request and release a slot.
use Rattle.std.proofs.Common.{◌≡◌, ◌≢◌, ℕ, ◌/◌, ◌<◌, eqb, false, List, ◌∷◌, length, get_or, sym, refl, ap, subst, ◌∙◌, arith, ⊎_elim, get_or-set_same, slice_get, Some}
use mathlib.Core.Option as maybe
use mathlib.Core.Option.{some, none}
use prog.Atomic.{either}
use Rattle.atomic_table.specs.Table.{step, takes, gives, Allows, stepped}
use Rattle.tl_types.specs.Request.{Request}
use Rattle.tl_types.specs.declared.trace.Entry.{Entry}
use Rattle.tl_slots.specs.declared.phase.Phase.TheVariants.{Free, Filling, Posted, Serving, Answered, Taking}
use Rattle.tl_slots.specs.declared.event.Event.TheVariants.{Claim, Post, Release}
use Rattle.tl_slots.specs.Word.{word}
use Rattle.tl_slots.proofs.Steps.{move_is_allowed}
use Rattle.tl_rule.specs.declared.view.About.{About}
use Rattle.tl_rule.specs.declared.view.Held.TheVariants.{Nothing, Filled, Sent, Taken}
use Rattle.tl_rule.specs.declared.view.Hands.{Hands}
use Rattle.tl_rule.specs.declared.view.View.TheVariants.{Master}
use Rattle.tl_rule.specs.Record.{SlotRecord, Spells, Berth}
use Rattle.tl_rule.specs.Views.{Owns, hands, held, with_hand}
use Rattle.tl_rule.specs.Rule.{Parts, Names, InPhase, Lawful, Fits, phase, table_of}
use Rattle.tl_rule.specs.Events.{state_of, IsOneEvent, IsEventOf}
use Rattle.tl_rule.specs.Moves.{Tried, Claims, Sends, Releases}
use Rattle.tl_rule.proofs.Tables.{of_get}
use Rattle.tl_rule.proofs.MasterFrame.{MasterStep, moved, held_here, got_here, quiet_master}
use Rattle.tl_rule.proofs.Facts.{Known, known, shown, nothing_or, filled_phase, taken_phase, in_hand_of, not_left, low_master, one_named, free_names_none}
use Rattle.tl_rule.proofs.Allowing.{fits_after, event_told, found, there, present, master_step, tries, stores}

-- ---- claim

module _ (a : About) (c : Parts) (L : Lawful a c) (id i : ℕ) (v : Hands) (K : Known a c L id v)
    (carried : List (ℕ × Berth)) where
  in_phases : i < a.slots → i < length c.phases
  in_phases lt = let e = L.shape.phases in omega arith

  in_homes : i < a.slots → i < length c.homes
  in_homes lt = let e = L.shape.homes in omega arith

  in_view : i < a.slots → i < length (hands c.masters v.number).hand
  in_view lt = let e = ap (λ (x : Hands). length x.hand) K.is in let w = K.wide in omega arith

  pub claim_event : (letter : SlotRecord) → i < a.slots → v.left ≡ false → phase c i ≡ Free
      → IsOneEvent a (Claim i v.number) (table_of a c)
      (stepped (table_of a c) i (word (Filling v.number)) id carried (Master (with_hand v i Filled v.got))
      (takes i (Some letter)))
  claim_event letter lt staying ph = let m = v.number in let here_left = ap (λ (x : Hands). x.left) K.is ∙ staying in
      let S : MasterStep a c i (Filling m) none m Filled v.got = record {
        near = K.near;
        inside = lt;
        staying = here_left;
        mine = λ n names. absurd (free_names_none n (subst (λ g. Names g n) ph names));
        unserved = λ n p e. absurd (let z : Free ≡ Serving n p = sym ph ∙ e in cc);
        names = λ _. refl;
        own = λ q p k e. absurd (cc);
        distinct = λ q p k e. absurd (cc);
        longer = let e = ap (λ (x : Hands). length x.got) K.is in omega arith;
        gots = λ k _. ap (λ (x : Hands). slice_get x.got k) (sym K.is);
        here = held_here c.masters m i Filled v.got K.near (in_view lt);
      } in
      let M = moved a c i (Filling m) none m Filled v.got L S
      (quiet_master a c i (Filling m) none m Filled v.got L S (ap (λ (x : Hands). x.got) (sym K.is))
      (λ n p e. absurd (let z : Free ≡ Answered n p = sym ph ∙ e in cc)) (λ n p e. absurd (cc)) L.places) in
      master_step a c i id v (Filling m) none Filled v.got carried (takes i (Some letter)) (Claim i m) L K
      (in_phases lt) refl M
      (move_is_allowed (state_of a c) (Claim i m) _ refl (found a c L i Free lt ph) (there a c L m K.near) tt
      (present a c L m K.near here_left)) refl

  -- ---- post

  pub post_event : (letter : SlotRecord) (ask : Request) (p : ℕ) → i < a.slots → get_or v.hand i Nothing ≡ Filled
      → Spells letter ask → p < v.about.ports
      → Owns v.about v.number ask.source → ((j : ℕ) (other : Request) (r n : ℕ)
      → get_or v.hand j Nothing ≡ Sent other r n → ask.source ≢ other.source)
      → IsOneEvent a (Post i v.number p) (table_of a c)
      (stepped (table_of a c) i (word (Posted v.number p)) id ((i, Some letter) ∷ carried)
      (Master (with_hand v i (Sent ask p (length v.got)) v.got)) gives)
  post_event letter ask p lt filled spells to own distinct = let m = v.number in let y = Sent ask p (length v.got) in
      let here : held c.masters m i ≡ Filled = ap (λ (x : Hands). get_or x.hand i Nothing) K.is ∙ filled in
      let ph = filled_phase a c L m i lt here in
      let staying = not_left a c L m i (λ e. absurd (cc)) in
      let S : MasterStep a c i (Posted m p) (some (Some letter)) m y v.got = record {
        near = K.near;
        inside = lt;
        staying = staying;
        mine = λ n names. one_named (Filling m) n m (subst (λ g. Names g n) ph names) refl;
        unserved = λ n p e. absurd (let z : Filling m ≡ Serving n p = sym ph ∙ e in cc);
        names = λ _. refl;
        own = λ q' p' k' e. let s : ask ≡ q' = cc in
            subst (λ (z : Request). Owns a m z.source) s (subst (λ (z : About). Owns z m ask.source) K.about own);
        distinct = λ q' p' k' e j o r n ne at. let s : ask ≡ q' = cc in
            subst (λ (z : Request). z.source ≢ o.source) s
            (distinct j o r n (ap (λ (x : Hands). get_or x.hand j Nothing) (sym K.is) ∙ at));
        longer = let e = ap (λ (x : Hands). length x.got) K.is in omega arith;
        gots = λ k _. ap (λ (x : Hands). slice_get x.got k) (sym K.is);
        here = record {
          asked = record {
            ask = ask;
            known = length v.got;
            sent = held_here c.masters m i y v.got K.near (in_view lt);
            few = let e = ap (λ (l : List Entry). length l) (got_here c.masters m i y v.got K.near (in_view lt)) in
                omega arith;
          };
          home = record {
            letter = letter;
            at = get_or-set_same c.homes i (some (Some letter)) none (in_homes lt);
            spells = spells;
          };
          port = subst (λ (z : About). p < z.ports) K.about to;
        };
      } in
      let M = moved a c i (Posted m p) (some (Some letter)) m y v.got L S
      (quiet_master a c i (Posted m p) (some (Some letter)) m y v.got L S (ap (λ (x : Hands). x.got) (sym K.is))
      (λ n p e. absurd (let z : Filling m ≡ Answered n p = sym ph ∙ e in cc)) (λ n p e. absurd (cc)) L.places) in
      master_step a c i id v (Posted m p) (some (Some letter)) y v.got ((i, Some letter) ∷ carried) gives
      (Post i m p) L K (in_phases lt) refl M
      (move_is_allowed (state_of a c) (Post i m p) _ refl (found a c L i (Filling m) lt ph) (there a c L m K.near)
      (subst (λ (z : About). p < z.ports) K.about to) (present a c L m K.near staying)) refl

  -- ---- release

  pub release_event : (letter : SlotRecord) (p : ℕ) → i < a.slots → get_or v.hand i Nothing ≡ Taken p
      → IsOneEvent a (Release i v.number p) (table_of a c)
      (stepped (table_of a c) i (word Free) id ((i, Some letter) ∷ carried)
      (Master (with_hand v i Nothing v.got)) gives)
  release_event letter p lt taken = let m = v.number in
      let here : held c.masters m i ≡ Taken p = ap (λ (x : Hands). get_or x.hand i Nothing) K.is ∙ taken in
      let ph = taken_phase a c L m i p lt here in
      let staying = not_left a c L m i (λ e. absurd (cc)) in
      let to : p < a.ports = (subst (InPhase a c i) ph (L.slots i lt)).port in
      let S : MasterStep a c i Free (some (Some letter)) m Nothing v.got = record {
        near = K.near;
        inside = lt;
        staying = staying;
        mine = λ n names. one_named (Taking m p) n m (subst (λ g. Names g n) ph names) refl;
        unserved = λ n r e. absurd (let z : Taking m p ≡ Serving n r = sym ph ∙ e in cc);
        names = λ some_held. absurd (some_held refl);
        own = λ q p k e. absurd (cc);
        distinct = λ q p k e. absurd (cc);
        longer = let e = ap (λ (x : Hands). length x.got) K.is in omega arith;
        gots = λ k _. ap (λ (x : Hands). slice_get x.got k) (sym K.is);
        here = (letter, get_or-set_same c.homes i (some (Some letter)) none (in_homes lt));
      } in
      let M = moved a c i Free (some (Some letter)) m Nothing v.got L S
      (quiet_master a c i Free (some (Some letter)) m Nothing v.got L S (ap (λ (x : Hands). x.got) (sym K.is))
      (λ n r e. absurd (let z : Taking m p ≡ Answered n r = sym ph ∙ e in cc)) (λ n p e. absurd (cc)) L.places) in
      master_step a c i id v Free (some (Some letter)) Nothing v.got ((i, Some letter) ∷ carried) gives
      (Release i m p) L K (in_phases lt) refl M
      (move_is_allowed (state_of a c) (Release i m p) _ refl (found a c L i (Taking m p) lt ph)
      (there a c L m K.near) to (present a c L m K.near staying)) refl

-- ---- what each step owes

pub claims : (a : About) (slots id : ℕ) (v : Hands) (carried : List (ℕ × Berth)) (i new : ℕ) (said : maybe.Option Berth)
    → v.left ≡ false → i < slots → new ≡ word (Filling v.number)
    → Allows (Fits a) slots id (Master v, carried) i (λ n. either (eqb n 0) new n)
    (Tried Claims (step slots i 0 new said) (Master v, carried))
claims a slots id v carried i new said staying inside is =
    tries a slots id (Master v, carried) i 0 new said Claims
    (λ c L wide at hit. let K = known a c L id v at in let lt : i < a.slots = omega arith in
    let ph = shown a c L i Free lt (record { owner = tt; port = tt }) hit in
    let home = subst (InPhase a c i) ph (L.slots i lt) in
    let E = claim_event a c L id i v K carried home.0 lt staying ph in
    let none_held = λ (ne : get_or v.hand i Nothing ≢ Nothing). free_names_none v.number
    (subst (λ g. Names g v.number) ph (L.hand v.number i
    (subst (λ (x : Hands). get_or x.hand i Nothing ≢ Nothing) (sym K.is) ne))) in (
      Master (with_hand v i Filled v.got),
      takes i (Some home.0),
      of_get c.homes i (some (Some home.0)) none (in_homes a c L id i v K carried lt) home.1,
      subst (λ (n : ℕ). Fits a (stepped (table_of a c) i n id carried (Master (with_hand v i Filled v.got))
          (takes i (Some home.0)))) (sym is) (fits_after a (Claim i v.number) _ _ E),
      record {
        letter = home.0;
        seat = refl;
        free = ⊎_elim (λ e. e) (λ ne. absurd (none_held ne)) (nothing_or (get_or v.hand i Nothing));
        inside = let w = K.wide in omega arith;
        event = event_told a v.about (Claim i v.number) _ _ id _ _ K.about at refl E;
      },
    ))

pub posts : (a : About) (slots id : ℕ) (v : Hands) (carried : List (ℕ × Berth)) (i new : ℕ) (letter : SlotRecord)
    (ask : Request) (p : ℕ) → get_or v.hand i Nothing ≡ Filled → new ≡ word (Posted v.number p) → Spells letter ask
    → p < v.about.ports
    → Owns v.about v.number ask.source → ((j : ℕ) (other : Request) (r n : ℕ) → get_or v.hand j Nothing ≡ Sent other r n
    → ask.source ≢ other.source)
    → Allows (Fits a) slots id (Master v, (i, Some letter) ∷ carried) i (λ _. new)
    (λ _. Sends (step slots i new 0 none) (Master v, (i, Some letter) ∷ carried) new)
posts a slots id v carried i new letter ask p filled is spells to own distinct = let y = Sent ask p (length v.got) in
    stores a slots id (Master v, (i, Some letter) ∷ carried) i new
    (Sends (step slots i new 0 none) (Master v, (i, Some letter) ∷ carried) new)
    (λ c L wide at. let K = known a c L id v at in
    let lt : i < a.slots = (let z = in_hand_of v.hand i (λ e. absurd (cc)) in let w = K.wide in omega arith) in
    let E = post_event a c L id i v K carried letter ask p lt filled spells to own distinct in
    let small = (low_master a c L v.number K.near).1 in let port : new / 2048 ≡ p = omega arith in (
      Master (with_hand v i y v.got),
      gives,
      tt,
      subst (λ (n : ℕ). Fits a (stepped (table_of a c) i n id ((i, Some letter) ∷ carried)
          (Master (with_hand v i y v.got)) gives)) (sym is) (fits_after a (Post i v.number p) _ _ E),
      record {
        ask = ask;
        spells = spells;
        seat = λ t. (Master (with_hand v i (Sent ask (sym port t) (length v.got)) v.got), carried);
        event = subst (λ (q : ℕ). IsEventOf v.about (Post i v.number q) (Master v) (Master (with_hand v i y v.got)))
            (sym port) (event_told a v.about (Post i v.number p) _ _ id _ _ K.about at refl E);
      },
    ))

pub releases : (a : About) (slots id : ℕ) (v : Hands) (carried : List (ℕ × Berth)) (i : ℕ) (letter : SlotRecord) (p : ℕ)
    → get_or v.hand i Nothing ≡ Taken p
    → Allows (Fits a) slots id (Master v, (i, Some letter) ∷ carried) i (λ _. 0)
    (λ _. Releases (step slots i 0 0 none) (Master v, (i, Some letter) ∷ carried) 0)
releases a slots id v carried i letter p taken =
    stores a slots id (Master v, (i, Some letter) ∷ carried) i 0
    (Releases (step slots i 0 0 none) (Master v, (i, Some letter) ∷ carried) 0)
    (λ c L wide at. let K = known a c L id v at in
    let lt : i < a.slots = (let z = in_hand_of v.hand i (λ e. absurd (cc)) in let w = K.wide in omega arith) in
    let E = release_event a c L id i v K carried letter p lt taken in (
      Master (with_hand v i Nothing v.got),
      gives,
      tt,
      fits_after a (Release i v.number p) _ _ E,
      record {
        port = p;
        was = taken;
        seat = refl;
        event = event_told a v.about (Release i v.number p) _ _ id _ _ K.about at refl E;
      },
    ))
