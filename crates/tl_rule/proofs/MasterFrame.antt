-- A step of a master, which changes one slot and that slot in its hand, keeps what the rule says of all else.
use Rattle.std.proofs.Common.{◌≡◌, ◌≢◌, ℕ, ◌<◌, ◌≤◌, true, false, List, length, get_or, set, sym, refl, ap, subst, ◌∙◌, arith, inl, inr, ⊎_elim, ◌⊎◌, get_or-set_same, get_or-set_other, length-set, Some, slice_get}
use mathlib.Core.Option as maybe
use mathlib.Core.Option.{some, none}
use mathlib.Core.Logic.{dite}
use native.Mathlib.Decide.{ℕ_discrete}
use Rattle.tl_types.specs.Request.{Request}
use Rattle.tl_types.specs.declared.trace.Entry.{Entry}
use Rattle.tl_slots.specs.declared.phase.Phase.{Phase}
use Rattle.tl_slots.specs.declared.phase.Phase.TheVariants.{Free, Serving, Answered}
use Rattle.tl_rule.specs.declared.view.About.{About}
use Rattle.tl_rule.specs.declared.view.Held.{Held}
use Rattle.tl_rule.specs.declared.view.Held.TheVariants.{Nothing, Sent}
use Rattle.tl_rule.specs.declared.view.Hands.{Hands}
use Rattle.tl_rule.specs.Record.{Berth}
use Rattle.tl_rule.specs.Views.{Owns, hands, held, served, no_hands, with_hand}
use Rattle.tl_rule.specs.Rule.{Parts, Names, InPhase, Places, HasShape, Lawful, phase}
use Rattle.tl_rule.proofs.Lists.{set_elim}
use Rattle.tl_rule.proofs.Frames.{Same, stays, quiet}

abbrev pub master_moves : Parts → ℕ → Phase → maybe.Option Berth → ℕ → Held → List Entry → Parts
master_moves c i f h m x got =
    record {
      phases = set c.phases i f;
      left = c.left;
      homes = set c.homes i h;
      masters = set c.masters m (with_hand (hands c.masters m) i x got);
      ports = c.ports;
    }

module _ (ms : List Hands) (m i : ℕ) (x : Held) (got : List Entry) (near : m < length ms)
    (inside : i < length (hands ms m).hand) where
  abbrev after : List Hands
  after = set ms m (with_hand (hands ms m) i x got)

  pub hands_elim : (P : ℕ → Hands → Type 0) → P m (with_hand (hands ms m) i x got)
      → ((n : ℕ) → n ≢ m → P n (hands ms n)) → (n : ℕ) → P n (hands after n)
  hands_elim = set_elim ms m (with_hand (hands ms m) i x got) no_hands near

  pub held_elim : (P : ℕ → ℕ → Held → Type 0) → P m i x → ((n j : ℕ) → (n ≡ m → j ≢ i) → P n j (held ms n j))
      → (n j : ℕ) → P n j (held after n j)
  held_elim P here else n j = hands_elim (λ n v. P n j (get_or v.hand j Nothing))
      (set_elim (hands ms m).hand i x Nothing inside (P m) here (λ k ne. else m k (λ _. ne)) j)
      (λ n ne. else n j (λ e. absurd (ne e))) n

  pub held_case : (n j : ℕ) (h : Held) → held after n j ≡ h → ((n ≡ m) × (j ≡ i) × (x ≡ h))
      ⊎ ((n ≡ m → j ≢ i) × (held ms n j ≡ h))
  held_case n j h = held_elim (λ n j y. y ≡ h → ((n ≡ m) × (j ≡ i) × (x ≡ h)) ⊎ ((n ≡ m → j ≢ i) × (held ms n j ≡ h)))
      (λ e. inl (refl, refl, e)) (λ n j far e. inr (far, e)) n j

  pub held_else : (n j : ℕ) → (n ≡ m → j ≢ i) → held after n j ≡ held ms n j
  held_else n j far = held_elim (λ n j y. (n ≡ m → j ≢ i) → y ≡ held ms n j) (λ far. absurd (far refl refl))
      (λ n j _ _. refl) n j far

  pub held_here : held after m i ≡ x
  held_here = ap (λ (v : Hands). get_or v.hand i Nothing)
      (get_or-set_same ms m (with_hand (hands ms m) i x got) no_hands near)
      ∙ get_or-set_same (hands ms m).hand i x Nothing inside

  pub got_here : (hands after m).got ≡ got
  got_here = ap (λ (v : Hands). v.got) (get_or-set_same ms m (with_hand (hands ms m) i x got) no_hands near)

-- what a master's step has to show: the slot's new phase, and what its hand has of it
pub record MasterStep (a : About) (c : Parts) (i : ℕ) (f : Phase) (h : maybe.Option Berth) (m : ℕ) (x : Held)
    (got : List Entry) : Type 0 where
  pub near : m < length c.masters
  pub inside : i < a.slots
  pub staying : (hands c.masters m).left ≡ false
  pub mine : (n : ℕ) → Names (phase c i) n → n ≡ m
  pub unserved : (n p : ℕ) → phase c i ≢ Serving n p
  pub names : x ≢ Nothing → Names f m
  pub own : (q : Request) (p k : ℕ) → x ≡ Sent q p k → Owns a m q.source
  pub distinct : (q : Request) (p k : ℕ) → x ≡ Sent q p k → (j : ℕ) (q' : Request) (p' k' : ℕ) → j ≢ i
      → held c.masters m j ≡ Sent q' p' k' → q.source ≢ q'.source
  pub longer : length (hands c.masters m).got ≤ length got
  pub gots : (k : ℕ) → k < length (hands c.masters m).got → slice_get got k ≡ slice_get (hands c.masters m).got k
  pub here : InPhase a (master_moves c i f h m x got) i f

module _ (a : About) (c : Parts) (i : ℕ) (f : Phase) (h : maybe.Option Berth) (m : ℕ) (x : Held) (got : List Entry)
    (L : Lawful a c) (S : MasterStep a c i f h m x got) where
  abbrev d : Parts
  d = master_moves c i f h m x got

  in_phases : i < length c.phases
  in_phases = let e = L.shape.phases in let l = S.inside in omega arith

  in_hand : i < length (hands c.masters m).hand
  in_hand = let e = (L.shape.master_views m S.near).2 in let l = S.inside in omega arith

  pub phase_here : phase d i ≡ f
  phase_here = get_or-set_same c.phases i f Free in_phases

  pub phase_else : (j : ℕ) → j ≢ i → phase d j ≡ phase c j
  phase_else j ne = get_or-set_other c.phases i j f Free ne

  -- how each master's list of collected replies grew
  pub got_elim : (P : ℕ → List Entry → Type 0) → P m got → ((n : ℕ) → n ≢ m → P n (hands c.masters n).got) → (n : ℕ)
      → P n (hands d.masters n).got
  got_elim P here else = hands_elim c.masters m i x got S.near in_hand (λ n v. P n v.got) here else

  pub same : (j : ℕ) → j ≢ i → Same c d j
  same j ne = record {
    held_same = λ n. held_else c.masters m i x got S.near in_hand n j (λ _. ne);
    home_same = get_or-set_other c.homes i j h none ne;
    served_same = λ p. refl;
    lists = λ p k y at. at;
    longer = got_elim (λ n g. length (hands c.masters n).got ≤ length g) S.longer (λ n _. omega arith);
    gots = λ n k. got_elim (λ n g. k < length (hands c.masters n).got
        → slice_get g k ≡ slice_get (hands c.masters n).got k) (S.gots k) (λ n _ _. refl) n;
  }

  slots_kept : (j : ℕ) → j < a.slots → InPhase a d j (phase d j)
  slots_kept j lt = dite (ℕ_discrete j i)
      (λ e. subst (λ (k : ℕ). InPhase a d k (phase d k)) (sym e) (subst (InPhase a d i) (sym phase_here) S.here))
      (λ ne. subst (InPhase a d j) (sym (phase_else j ne)) (stays a c d j (same j ne) (phase c j) (L.slots j lt)))

  hand_kept : (n j : ℕ) → held d.masters n j ≢ Nothing → Names (phase d j) n
  hand_kept = held_elim c.masters m i x got S.near in_hand (λ n j y. y ≢ Nothing → Names (phase d j) n)
      (λ some-held. subst (λ g. Names g m) (sym phase_here) (S.names some-held))
      (λ n j far some-held. dite (ℕ_discrete j i)
      (λ e. let other : Names (phase c i) n = subst (λ (k : ℕ). Names (phase c k) n) e (L.hand n j some-held) in
      absurd (far (S.mine n other) e))
      (λ ne. subst (λ g. Names g n) (sym (phase_else j ne)) (L.hand n j some-held)))

  service_kept : (p j : ℕ) (q : Request) → served c.ports p j ≡ Some q → (n : ℕ) × (phase d j ≡ Serving n p)
  service_kept p j q e = let t = L.service p j q e in dite (ℕ_discrete j i)
      (λ same. absurd (S.unserved t.0 p (subst (λ (k : ℕ). phase c k ≡ Serving t.0 p) same t.1)))
      (λ ne. (t.0, phase_else j ne ∙ t.1))

  sources_kept : (n j k p p' l l' : ℕ) (q q' : Request) → held d.masters n j ≡ Sent q p l
      → held d.masters n k ≡ Sent q' p' l' → q.source ≡ q'.source → j ≡ k
  sources_kept n j k p p' l l' q q' u v e = let case = held_case c.masters m i x got S.near in_hand in
      ⊎_elim (λ (s : (n ≡ m) × (j ≡ i) × (x ≡ Sent q p l)). ⊎_elim
      (λ (t : (n ≡ m) × (k ≡ i) × (x ≡ Sent q' p' l')). s.1 ∙ sym t.1)
      (λ (t : (n ≡ m → k ≢ i) × (held c.masters n k ≡ Sent q' p' l')). absurd
      (S.distinct q p l s.2 k q' p' l' (t.0 s.0) (subst (λ (z : ℕ). held c.masters z k ≡ Sent q' p' l') s.0 t.1) e))
      (case n k (Sent q' p' l') v))
      (λ (s : (n ≡ m → j ≢ i) × (held c.masters n j ≡ Sent q p l)). ⊎_elim
      (λ (t : (n ≡ m) × (k ≡ i) × (x ≡ Sent q' p' l')). absurd
      (S.distinct q' p' l' t.2 j q p l (s.0 t.0) (subst (λ (z : ℕ). held c.masters z j ≡ Sent q p l) t.0 s.1)
      (sym e)))
      (λ (t : (n ≡ m → k ≢ i) × (held c.masters n k ≡ Sent q' p' l')). L.sources n j k p p' l l' q q' s.1 t.1 e)
      (case n k (Sent q' p' l') v)) (case n j (Sent q p l) u)

  shape_kept : HasShape a d
  shape_kept = let e = length-set c.masters m (with_hand (hands c.masters m) i x got) in let t = L.shape in record {
    limits = t.limits;
    owners = t.owners;
    phases = length-set c.phases i f ∙ t.phases;
    homes = length-set c.homes i h ∙ t.homes;
    left = t.left;
    masters = let k = t.masters in omega arith;
    ports = t.ports;
    dealt = λ lt. t.dealt (omega arith);
    master_views = λ n lt.
        hands_elim c.masters m i x got S.near in_hand
        (λ n v. n < length c.masters → (v.number ≡ n) × (v.about ≡ a) × (length v.hand ≡ a.slots))
        (λ lt. let u = t.master_views m lt in (u.0, u.1, length-set (hands c.masters m).hand i x ∙ u.2))
        (λ n _. t.master_views n) n (omega arith);
    port_views = t.port_views;
  }

  -- all but the places is kept
  pub moved : Places a d → Lawful a d
  moved places = record {
    shape = shape_kept;
    leaving = hands_elim c.masters m i x got S.near in_hand (λ n v. get_or c.left n false ≡ v.left) (L.leaving m)
        (λ n _. L.leaving n);
    gone = λ n j. hands_elim c.masters m i x got S.near in_hand
        (λ n v. v.left ≡ true → get_or v.hand j Nothing ≡ Nothing)
        (λ left. absurd (let s = S.staying in cc)) (λ n _. L.gone n j) n;
    slots = slots_kept;
    hand = hand_kept;
    service = service_kept;
    serves_once = L.serves_once;
    sources = sources_kept;
    block = λ n j p k q e. ⊎_elim (λ (s : (n ≡ m) × (j ≡ i) × (x ≡ Sent q p k)). subst (λ (z : ℕ). Owns a z q.source)
        (sym s.0) (S.own q p k s.2))
        (λ (s : (n ≡ m → j ≢ i) × (held c.masters n j ≡ Sent q p k)). L.block n j p k q s.1)
        (held_case c.masters m i x got S.near in_hand n j (Sent q p k) e);
    places = places;
    lawful = L.lawful;
  }

  pub quiet_master : got ≡ (hands c.masters m).got → ((n p : ℕ) → phase c i ≢ Answered n p)
      → ((n p : ℕ) → f ≢ Answered n p) → Places a c → Places a d
  quiet_master same_got was is = quiet a c d (record {
    same_lists = λ p. refl;
    same_gots = got_elim (λ n g. g ≡ (hands c.masters n).got) same_got (λ n _. refl);
    forth = λ j n p e. dite (ℕ_discrete j i) (λ at. absurd (was n p (subst (λ (k : ℕ). phase c k ≡ Answered n p) at e)))
        (λ ne. (phase_else j ne ∙ e, get_or-set_other c.homes i j h none ne));
    back = λ j n p e. dite (ℕ_discrete j i) (λ at. absurd
        (is n p (sym phase_here ∙ subst (λ (k : ℕ). phase d k ≡ Answered n p) at e)))
        (λ ne. (sym (phase_else j ne) ∙ e, get_or-set_other c.homes i j h none ne));
  })
