-- The steps of a seat, as a call of the arena meets them: what it owes before a step, and what it is told after it.
use Rattle.std.proofs.Common.{◌≡◌, ℕ, ◌+◌, ◌/◌, ◌<◌, ◌≤◌, eqb, true, false, List, [], ◌∷◌, ◌++◌, length, sym, subst, ◌∙◌, Some}
use mathlib.Core.Option as maybe
use mathlib.Core.Option.{some, none}
use prog.Atomic.{either}
use Rattle.atomic_table.specs.Table.{step, Allows, rest}
use Rattle.tl_types.specs.Request.{Request}
use Rattle.tl_types.specs.Response.{Response}
use Rattle.tl_slots.specs.declared.phase.Phase.TheVariants.{Filling, Posted, Serving, Answered, Taking}
use Rattle.tl_slots.specs.Word.{word}
use Rattle.tl_rule.specs.declared.view.About.{About}
use Rattle.tl_rule.specs.declared.view.Held.TheVariants.{Nothing, Filled, Sent, Taken}
use Rattle.tl_rule.specs.declared.view.View.{View}
use Rattle.tl_rule.specs.declared.view.View.TheVariants.{Dealer, Master, Port}
use Rattle.tl_rule.specs.Record.{SlotRecord, Spells, SpellsAnswer, Berth}
use Rattle.tl_rule.specs.Serving.{drop_slot}
use Rattle.tl_rule.specs.Views.{Owns, reset_of, in_hand, with_serving}
use Rattle.tl_rule.specs.Rule.{Fits}
use Rattle.atomic_table.specs.Table.{Splits}
use Rattle.tl_ops.specs.Store as store
use Rattle.tl_ops.specs.History.{replay, asks_of}
use Rattle.tl_slots.specs.declared.word.TheConstants.{MAX_AGENT}
use Rattle.tl_rule.specs.Moves.{Seat, Tried, Claims, Sends, Accepts, Answers, Collects, Releases, Leaves, IsLawfulDesk, is_master, is_port, as_master, as_port, handed, service_of, IsUnsent}
use Rattle.tl_rule.specs.Dealing.{after_master, next_master, after_port, next_port}
use Rattle.tl_rule.proofs.Facts.{seat_is, port_seat_is, spells_one, answers_one}
use Rattle.tl_rule.proofs.MasterSteps.{claims, posts, releases}
use Rattle.tl_rule.proofs.PortSteps.{accepts}
use Rattle.tl_rule.proofs.AnswerStep.{answers}
use Rattle.tl_rule.proofs.CollectStep.{collects}
use Rattle.tl_rule.proofs.LeaveStep.{leaves}
use Rattle.tl_rule.proofs.Dealing.{deals_master, deals_port}

-- a seat m₁ with the view of m₀ has its first slot's record exchanged
pub written : (m₀ m₁ m : Seat) (i : ℕ) (letter : SlotRecord) → m₁.0 ≡ m₀.0 → m ≡ (m₁.0, (i, Some letter) ∷ rest m₁.1)
    → m ≡ (m₀.0, (i, Some letter) ∷ rest m₁.1)
written m₀ m₁ m i letter same e = e ∙ (λ t. (same t, (i, Some letter) ∷ rest m₁.1))

master_first : (m₀ m : Seat) (i : ℕ) (letter : SlotRecord) (rs : List (ℕ × Berth)) → m ≡ (m₀.0, (i, Some letter) ∷ rs)
    → is_master m₀.0 ≡ true → m ≡ (Master (as_master m₀.0), (i, Some letter) ∷ rs)
master_first m₀ m i letter rs e is = e ∙ (λ t. ((seat_is m₀ is t).0, (i, Some letter) ∷ rs))

port_first : (m₀ m : Seat) (i : ℕ) (letter : SlotRecord) (rs : List (ℕ × Berth)) → m ≡ (m₀.0, (i, Some letter) ∷ rs)
    → is_port m₀.0 ≡ true → m ≡ (Port (as_port m₀.0), (i, Some letter) ∷ rs)
port_first m₀ m i letter rs e is = e ∙ (λ t. ((port_seat_is m₀ is t).0, (i, Some letter) ∷ rs))

-- ---- dealing

pub deals_master_at : (a : About) (id m p : ℕ) (v : View) → v ≡ Dealer a m p → m < a.masters
    → Splits (Fits a) id v (after_master v) (next_master v)
deals_master_at a id m p v e more =
    subst (λ (y : View). Splits (Fits a) id y (after_master y) (next_master y)) (sym e) (deals_master a id m p more)

pub deals_port_at : (a : About) (id m p : ℕ) (v : View) → v ≡ Dealer a m p → m ≡ a.masters → p < a.ports
    → Splits (Fits a) id v (after_port v) (next_port v)
deals_port_at a id m p v e all more =
    subst (λ (y : View). Splits (Fits a) id y (after_port y) (next_port y)) (sym e) (deals_port a id m p all more)

-- ---- compare-exchanges

pub claims_at : (a : About) (slots id : ℕ) (m : Seat) (i new : ℕ) (said : maybe.Option Berth) → is_master m.0 ≡ true
    → (as_master m.0).left ≡ false → i < slots → new ≡ word (Filling (as_master m.0).number)
    → Allows (Fits a) slots id m i (λ n. either (eqb n 0) new n) (Tried Claims (step slots i 0 new said) m)
claims_at a slots id m i new said is staying inside new_is =
    subst (λ (x : Seat). Allows (Fits a) slots id x i (λ n. either (eqb n 0) new n)
    (Tried Claims (step slots i 0 new said) x)) (sym (seat_is m is))
    (claims a slots id (as_master m.0) m.1 i new said staying inside new_is)

pub accepts_at : (a : About) (slots id : ℕ) (m : Seat) (i old new owner : ℕ) (said : maybe.Option Berth)
    → is_port m.0 ≡ true → i < slots → owner ≤ MAX_AGENT → old ≡ word (Posted owner (as_port m.0).number)
    → new ≡ word (Serving owner (as_port m.0).number)
    → Allows (Fits a) slots id m i (λ n. either (eqb n old) new n) (Tried Accepts (step slots i old new said) m)
accepts_at a slots id m i old new owner said is inside small old_is new_is =
    subst (λ (y : Seat). Allows (Fits a) slots id y i (λ n. either (eqb n old) new n)
    (Tried Accepts (step slots i old new said) y)) (sym (port_seat_is m is))
    (accepts a slots id (as_port m.0) m.1 i old new owner said inside small old_is new_is)

pub collects_at : (a : About) (slots id : ℕ) (m : Seat) (i from new : ℕ) (said : maybe.Option Berth) (ask : Request)
    (p since : ℕ) → is_master m.0 ≡ true → in_hand (as_master m.0) i ≡ Sent ask p since
    → from ≡ word (Answered (as_master m.0).number p) → new ≡ word (Taking (as_master m.0).number p)
    → Allows (Fits a) slots id m i (λ n. either (eqb n from) new n) (Tried Collects (step slots i from new said) m)
collects_at a slots id m i from new said ask p since is sent from_is new_is =
    subst (λ (y : Seat). Allows (Fits a) slots id y i (λ n. either (eqb n from) new n)
    (Tried Collects (step slots i from new said) y)) (sym (seat_is m is))
    (collects a slots id (as_master m.0) m.1 i from new said ask p since sent from_is new_is)

-- ---- stores, once the record is written

pub posts_at : (a : About) (slots id : ℕ) (m₀ m : Seat) (i new : ℕ) (letter : SlotRecord) (rs : List (ℕ × Berth))
    (ask : Request) (p : ℕ) → m ≡ (m₀.0, (i, Some letter) ∷ rs) → is_master m₀.0 ≡ true
    → in_hand (as_master m₀.0) i ≡ Filled
    → new ≡ word (Posted (as_master m₀.0).number p) → Spells letter ask → p < (as_master m₀.0).about.ports
    → Owns (as_master m₀.0).about (as_master m₀.0).number ask.source → IsUnsent m₀ ask.source
    → Allows (Fits a) slots id m i (λ _. new) (λ _. Sends (step slots i new 0 none) m new)
posts_at a slots id m₀ m i new letter rs ask p e is filled new_is spells to own fresh =
    subst (λ (y : Seat). Allows (Fits a) slots id y i (λ _. new) (λ _. Sends (step slots i new 0 none) y new))
    (sym (master_first m₀ m i letter rs e is))
    (posts a slots id (as_master m₀.0) rs i new letter ask p filled new_is spells to own
    (λ j other q known at. fresh j q known other at))

pub told_sent : (slots : ℕ) (m₀ m n : Seat) (i new : ℕ) (letter : SlotRecord) (rs : List (ℕ × Berth)) (ask : Request)
    (p : ℕ) → m ≡ (m₀.0, (i, Some letter) ∷ rs) → Spells letter ask → new / 2048 ≡ p
    → Sends (step slots i new 0 none) m new n → n ≡ (handed m₀ i (Sent ask p (length (as_master m₀.0).got)), rs)
told_sent slots m₀ m n i new letter rs ask p e spells port told = let t =
    subst (λ (y : Seat). Sends (step slots i new 0 none) y new n) e told in
    let same = spells_one letter t.ask ask t.spells spells in
    t.seat ∙ (λ z. (handed m₀ i (Sent (same z) (port z) (length (as_master m₀.0).got)), rs))

pub answers_at : (a : About) (slots id : ℕ) (m₀ m : Seat) (i new owner : ℕ) (letter : SlotRecord)
    (rs : List (ℕ × Berth)) (ask : Request) (reply : Response) → m ≡ (m₀.0, (i, Some letter) ∷ rs) → is_port m₀.0 ≡ true
    → service_of m₀ i ≡ Some ask
    → new ≡ word (Answered owner (as_port m₀.0).number) → Owns (as_port m₀.0).about owner ask.source → Spells letter ask
    → SpellsAnswer letter ask.address reply → letter.index ≡ length (as_port m₀.0).list
    → reply ≡ store.reply (replay (reset_of (as_port m₀.0).about (as_port m₀.0).number)
    (asks_of (as_port m₀.0).list)) ask
    → Allows (Fits a) slots id m i (λ _. new) (λ _. Answers (step slots i new 0 none) m new)
answers_at a slots id m₀ m i new owner letter rs ask reply e is serves new_is own spells answer last right =
    subst (λ (y : Seat). Allows (Fits a) slots id y i (λ _. new) (λ _. Answers (step slots i new 0 none) y new))
    (sym (port_first m₀ m i letter rs e is))
    (answers a slots id (as_port m₀.0) rs i new owner letter ask reply serves new_is own spells answer last right)

pub told_answered : (slots : ℕ) (m₀ m n : Seat) (i new : ℕ) (letter : SlotRecord) (rs : List (ℕ × Berth))
    (ask : Request) (reply : Response) → m ≡ (m₀.0, (i, Some letter) ∷ rs) → service_of m₀ i ≡ Some ask
    → SpellsAnswer letter ask.address reply
    → Answers (step slots i new 0 none) m new n
    → (n ≡ (
      Port (with_serving (as_port m₀.0) (drop_slot i (as_port m₀.0).serving)
          ((as_port m₀.0).list ++ (ask, reply) ∷ [])),
      rs,
    )) × IsLawfulDesk (as_port n.0)
told_answered slots m₀ m n i new letter rs ask reply e serves answer told = let t =
    subst (λ (y : Seat). Answers (step slots i new 0 none) y new n) e told in
    let asks : t.ask ≡ ask = (let z = t.serves in cc) in
    let replies = answers_one letter ask.address t.reply reply
    (subst (λ (q : Request). SpellsAnswer letter q.address t.reply) asks t.spells) answer in (
      t.seat ∙ (λ z. (
        Port (with_serving (as_port m₀.0) (drop_slot i (as_port m₀.0).serving)
            ((as_port m₀.0).list ++ (asks z, replies z) ∷ [])),
        rs,
      )),
      t.law,
    )

pub releases_at : (a : About) (slots id : ℕ) (m₀ m : Seat) (i : ℕ) (letter : SlotRecord) (rs : List (ℕ × Berth)) (p : ℕ)
    → m ≡ (m₀.0, (i, Some letter) ∷ rs) → is_master m₀.0 ≡ true → in_hand (as_master m₀.0) i ≡ Taken p
    → Allows (Fits a) slots id m i (λ _. 0) (λ _. Releases (step slots i 0 0 none) m 0)
releases_at a slots id m₀ m i letter rs p e is taken =
    subst (λ (y : Seat). Allows (Fits a) slots id y i (λ _. 0) (λ _. Releases (step slots i 0 0 none) y 0))
    (sym (master_first m₀ m i letter rs e is)) (releases a slots id (as_master m₀.0) rs i letter p taken)

pub told_released : (slots : ℕ) (m₀ m n : Seat) (i : ℕ) (letter : SlotRecord) (rs : List (ℕ × Berth))
    → m ≡ (m₀.0, (i, Some letter) ∷ rs) → Releases (step slots i 0 0 none) m 0 n → n ≡ (handed m₀ i Nothing, rs)
told_released slots m₀ m n i letter rs e told =
    (subst (λ (y : Seat). Releases (step slots i 0 0 none) y 0 n) e told).seat

pub leaves_at : (a : About) (slots id : ℕ) (m : Seat) (i : ℕ) → is_master m.0 ≡ true → (as_master m.0).left ≡ false
    → ((j : ℕ) → in_hand (as_master m.0) j ≡ Nothing) → i ≡ slots + (as_master m.0).number
    → Allows (Fits a) slots id m i (λ _. 1) (λ _. Leaves (step slots i 1 0 none) m 1)
leaves_at a slots id m i is staying empty at =
    subst (λ (y : Seat). Allows (Fits a) slots id y i (λ _. 1) (λ _. Leaves (step slots i 1 0 none) y 1))
    (sym (seat_is m is)) (leaves a slots id (as_master m.0) m.1 i staying empty at)
