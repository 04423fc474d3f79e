-- What a table that fits says of its seats and words.
use Rattle.std.proofs.Common.{◌≡◌, ◌≢◌, ℕ, suc, ◌+◌, ◌<◌, Bool, true, false, List, ◌++◌, map, length, get_or, sym, refl, ap, subst, ◌∙◌, arith, inl, inr, ⊎_elim, ◌⊎◌, take}
use mathlib.Core.Option as maybe
use mathlib.Core.Option.{some, none}
use Rattle.tl_ops.specs.History.{IsLawfulHistory}
use Rattle.tl_slots.specs.declared.phase.Phase.{Phase}
use Rattle.tl_slots.specs.declared.phase.Phase.TheVariants.{Free, Filling, Posted, Serving, Answered, Taking}
use Rattle.tl_slots.specs.Word.{word}
use Rattle.tl_rule.specs.declared.view.About.{About}
use Rattle.tl_rule.specs.declared.view.Held.TheVariants.{Nothing}
use Rattle.tl_rule.specs.declared.view.Hands.{Hands}
use Rattle.tl_rule.specs.declared.view.Desk.{Desk}
use Rattle.tl_rule.specs.declared.view.View.TheVariants.{Master, Port}
use Rattle.tl_rule.specs.Record.{SlotRecord, Spells, SpellsAnswer, Berth}
use Rattle.tl_rule.specs.Views.{Owns, reset_of, desk}
use Rattle.tl_rule.specs.Rule.{Parts, Names, IsHome, InPhase, Lawful, phase, table_of}
use Rattle.tl_slots.specs.Word.{IsWordOf}
use Rattle.tl_slots.proofs.Words.{one_phase}
use Rattle.tl_rule.specs.Rule.{leave_word}
use Rattle.tl_rule.specs.Seen.{IsOfMasters, SeenFit, JustOwn, at_port, sent_at}
use Rattle.tl_rule.specs.Moves.{IsLawfulDesk}
use Rattle.tl_rule.specs.Laws.{HasView, IsTrueListFor, IsSeenAnswer, AreArenaWords, ListsAreJustOwn, AnswersAreSeenFit, NoOwnedSlotIsClaimed, HandsAreApart, DesksAreLawful, WordsFit, AllFreeAfterAllLeft}
use Rattle.tl_rule.proofs.Tables.{word_at, leaf_at, leave_at, many_words}
use Rattle.tl_rule.proofs.Facts.{Known, known, known_port, shown, some_master, low_master, low_port, one_named, owner_holds, not_left, in_hand_of, fits_word, free_names_none}
use Rattle.tl_rule.proofs.Own.{of_masters, just_own, seen_fit}
use Rattle.tl_rule.proofs.PortSteps.{desk_law}
use Rattle.tl_rule.proofs.Allowing.{by_parts}

pub lists_law : ListsAreJustOwn
lists_law a s id at v u seats =
    by_parts a (λ s. HasView s id (Master v) → HasView s at (Port u) → IsTrueListFor v u)
    (λ c L seat there. let K = known a c L id v seat in let D = known_port a c L at u there in
    let w = L.shape.master_views v.number K.near in record {
      lawful = subst (λ (z : About). IsLawfulHistory (reset_of z u.number) u.list) (sym K.about)
          (subst (λ (d : Desk). IsLawfulHistory (reset_of a u.number) d.list) D.is (L.lawful u.number));
      masters = subst (λ (z : About). IsOfMasters z u.list) (sym K.about)
          (subst (λ (d : Desk). IsOfMasters a d.list) D.is (of_masters a c L v.number u.number));
      own = subst (λ (d : Desk). JustOwn d.list (Owns v.about v.number) (at_port u.number v.got)
          (sent_at u.number v.hand)) D.is
          (subst (λ (x : Hands). JustOwn (desk c.ports u.number).list (Owns x.about x.number) (at_port u.number x.got)
          (sent_at u.number x.hand)) K.is (just_own a c L v.number u.number w.1 w.0));
    }) s seats.fits seats.master seats.port

pub answers_law : AnswersAreSeenFit
answers_law a s id at i v u letter seats answered =
    by_parts a (λ s. HasView s id (Master v) → HasView s at (Port u)
    → get_or s.words i 0 ≡ word (Answered v.number u.number) → IsHome s.homes i letter → IsSeenAnswer v u i letter)
    (λ c L seat there is home. let K = known a c L id v seat in let D = known_port a c L at u there in
    let m = v.number in let p = u.number in
    let ph = shown a c L i (Answered m p) answered.slot
    (record { owner = (low_master a c L m K.near).1; port = (low_port a c L p D.near).1 }) is in
    let A = subst (InPhase a c i) ph (L.slots i answered.slot) in
    let same = one_letter c.homes i A.home.letter letter A.home.at home in
    let fit : SeenFit u.list A.home.letter.index A.asked.ask A.answer (at_port p (take A.asked.known v.got)) =
    subst (λ (d : Desk). SeenFit d.list A.home.letter.index A.asked.ask A.answer
    (at_port p (take A.asked.known v.got))) D.is
    (subst (λ (x : Hands). SeenFit (desk c.ports p).list A.home.letter.index A.asked.ask A.answer
    (at_port p (take A.asked.known x.got))) K.is (seen_fit a c L m p i A)) in record {
      ask = A.asked.ask;
      known = A.asked.known;
      reply = A.answer;
      sent = ap (λ (x : Hands). get_or x.hand i Nothing) (sym K.is) ∙ A.asked.sent;
      asks = subst (λ (r : SlotRecord). Spells r A.asked.ask) same A.home.spells;
      answers = subst (λ (r : SlotRecord). SpellsAnswer r A.asked.ask.address A.answer) same A.spells;
      seen = subst (λ (r : SlotRecord). SeenFit u.list r.index A.asked.ask A.answer
          (at_port p (take A.asked.known v.got))) same fit;
    }) s seats.fits seats.master seats.port answered.answered answered.home
  where
    one_letter : (homes : List (maybe.Option Berth)) (i : ℕ) (x y : SlotRecord) → IsHome homes i x → IsHome homes i y
        → x ≡ y
    one_letter homes i x y a b = cc

-- a slot in a hand is named by its word's phase
named : (a : About) (c : Parts) (L : Lawful a c) (id i : ℕ) (v : Hands) → Known a c L id v
    → get_or v.hand i Nothing ≢ Nothing → Names (phase c i) v.number
named a c L id i v K h = L.hand v.number i (subst (λ (x : Hands). get_or x.hand i Nothing ≢ Nothing) (sym K.is) h)

pub unclaimed_law : NoOwnedSlotIsClaimed
unclaimed_law a s id i v seated h =
    by_parts a (λ s. HasView s id (Master v) → get_or s.words i 0 ≢ word Free)
    (λ c L seat is. let K = known a c L id v seat in
    let lt : i < a.slots = (let z = in_hand_of v.hand i h in let w = K.wide in omega arith) in
    let ph = shown a c L i Free lt (record { owner = tt; port = tt }) is in
    free_names_none v.number (subst (λ f. Names f v.number) ph (named a c L id i v K h))) s seated.fits seated.view

pub apart_law : HandsAreApart
apart_law a s id other i v w seated there h g =
    by_parts a (λ s. HasView s id (Master v) → HasView s other (Master w) → id ≡ other)
    (λ c L seat there. let K = known a c L id v seat in let J = known a c L other w there in
    K.place ∙ ap suc (one_named (phase c i) v.number w.number (named a c L id i v K h) (named a c L other i w J g))
    ∙ sym J.place) s seated.fits seated.view there

pub desks_law : DesksAreLawful
desks_law a s at u seated =
    by_parts a (λ s. HasView s at (Port u) → IsLawfulDesk u)
    (λ c L seat. let D = known_port a c L at u seat in
    subst IsLawfulDesk D.is (desk_law a c L u.number D.near)) s seated.fits seated.view

-- ---- words

bit_or : (b : Bool) → (leave_word b ≡ 0) ⊎ (leave_word b ≡ 1)
bit_or true = inr refl
bit_or false = inl refl

pub words_law : WordsFit
words_law a s F = by_parts a (λ s. AreArenaWords a s.words) (λ c L. let n = L.shape.phases in let k = L.shape.left in
    let leave_is = λ (m : ℕ). (let e : a.slots + m ≡ length c.phases + m = omega arith in
    ap (λ (j : ℕ). get_or (map word c.phases ++ map leave_word c.left) j 0) e
    ∙ leaf_at c.phases (map leave_word c.left) m ∙ leave_at c.left m) in record {
      many = many_words c.phases c.left ∙ (λ t. n t + k t);
      phases = λ i lt. (
        phase c i,
        record {
          fits = fits_word a c L i (phase c i) (L.slots i lt);
          is = word_at c.phases _ i (omega arith);
        },
      );
      leaves = λ m lt. subst (λ (w : ℕ). (w ≡ 0) ⊎ (w ≡ 1)) (sym (leave_is m)) (bit_or (get_or c.left m false));
      owners_stay = λ i m f lt of_f names.
          let here : IsWordOf (phase c i) (get_or (table_of a c).words i 0) =
          record { fits = fits_word a c L i (phase c i) (L.slots i lt); is = word_at c.phases _ i (omega arith) } in
          let f_is : f ≡ phase c i = one_phase f (phase c i) (get_or (table_of a c).words i 0) of_f here in
          let holds = owner_holds a c L m i lt (subst (λ g. Names g m) f_is names) in (
            (low_master a c L m (some_master c.masters m i holds)).0,
            leave_is m
                ∙ ap leave_word (L.leaving m ∙ not_left a c L m i holds),
          );
    }) s F

-- a phase is Free, or names a master
pub free_or : (f : Phase) → (f ≡ Free) ⊎ ((m : ℕ) × Names f m)
free_or Free = inl refl
free_or (Filling m) = inr (m, refl)
free_or (Posted m p) = inr (m, refl)
free_or (Serving m p) = inr (m, refl)
free_or (Answered m p) = inr (m, refl)
free_or (Taking m p) = inr (m, refl)

pub all_free_law : AllFreeAfterAllLeft
all_free_law a words W left i lt = let t = W.phases i lt in ⊎_elim (λ (e : t.0 ≡ Free). t.1.is ∙ ap word e)
    (λ (n : (m : ℕ) × Names t.0 m). let o = W.owners_stay i n.0 t.0 lt t.1 n.1 in let one = left n.0 o.0 in
    let zero_one = o.1 in absurd (omega arith)) (free_or t.0)
