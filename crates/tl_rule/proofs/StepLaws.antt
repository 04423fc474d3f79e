-- The laws of the steps, over any table that fits.
use Rattle.std.proofs.Common.{◌≡◌, ◌≢◌, ℕ, ◌+◌, ◌<◌, List, [], ◌∷◌, ◌++◌, length, get_or, sym, refl, ap, subst, ◌∙◌, arith, Some}
use mathlib.Core.Option as maybe
use mathlib.Core.Option.{some, none}
use Rattle.atomic_table.specs.Table.{keeps, takes, gives, stepped}
use Rattle.tl_types.specs.Request.{Request}
use Rattle.tl_types.specs.Response.{Response}
use Rattle.tl_slots.specs.declared.phase.Phase.TheVariants.{Free, Filling, Posted, Serving, Answered, Taking}
use Rattle.tl_slots.specs.declared.event.Event.TheVariants.{Claim, Post, Accept, Answer, Collect, Release, Look, Leave}
use Rattle.tl_slots.specs.Word.{word}
use Rattle.tl_rule.specs.declared.view.About.{About}
use Rattle.tl_rule.specs.declared.view.Held.TheVariants.{Nothing, Filled, Sent, Taken}
use Rattle.tl_rule.specs.declared.view.Hands.{Hands}
use Rattle.tl_rule.specs.declared.view.View.TheVariants.{Master, Port}
use Rattle.tl_rule.specs.Record.{SlotRecord, Spells, SpellsAnswer, Berth}
use Rattle.tl_rule.specs.Serving.{drop_slot}
use Rattle.tl_rule.specs.Views.{held, with_hand, with_serving, gone_hands}
use Rattle.tl_rule.specs.Rule.{Parts, IsHome, InPhase, Lawful, table_of}
use Rattle.tl_rule.specs.Events.{state_of, IsOneEvent}
use Rattle.tl_slots.specs.Word.{FitsWord}
use Rattle.tl_slots.proofs.Steps.{look_is_allowed}
use Rattle.tl_rule.specs.Moves.{entry}
use Rattle.tl_rule.specs.Dealing.{Opens}
use Rattle.tl_rule.specs.Laws.{HasView, ClaimIsOneEvent, PostIsOneEvent, LookIsOneEvent, AcceptIsOneEvent, AnswerIsOneEvent, CollectIsOneEvent, ReleaseIsOneEvent, LeaveIsOneEvent}
use Rattle.tl_rule.proofs.Facts.{Known, known, known_port, shown, in_hand_of, low_master, low_port, spells_one, answers_one, sent_port}
use Rattle.tl_rule.proofs.Allowing.{by_parts, unmoved}
use Rattle.tl_rule.proofs.MasterSteps.{claim_event, post_event, release_event}
use Rattle.tl_rule.proofs.PortSteps.{accept_event}
use Rattle.tl_rule.proofs.AnswerStep.{answer_event}
use Rattle.tl_rule.proofs.CollectStep.{collect_event}
use Rattle.tl_rule.proofs.LeaveStep.{leave_event}
use Rattle.tl_rule.proofs.Dealing.{opens}

-- a slot that a master's hand has something of is there
held_inside : (a : About) (c : Parts) (L : Lawful a c) (id i : ℕ) (v : Hands) → Known a c L id v
    → get_or v.hand i Nothing ≢ Nothing → i < a.slots
held_inside a c L id i v K h = let z = in_hand_of v.hand i h in let w = K.wide in omega arith

pub claim_law : ClaimIsOneEvent
claim_law a s id i v carried letter can =
    by_parts a (λ s. HasView s id (Master v) → get_or s.words i 0 ≡ word Free
    → IsOneEvent a (Claim i v.number) s (stepped s i (word (Filling v.number)) id carried
    (Master (with_hand v i Filled v.got)) (takes i (Some letter))))
    (λ c L seat at. claim_event a c L id i v (known a c L id v seat) carried letter can.slot can.there
    (shown a c L i Free can.slot (record { owner = tt; port = tt }) at)) s can.seat.fits can.seat.view can.free

pub post_law : PostIsOneEvent
post_law a s id i v carried letter ask p can =
    by_parts a (λ s. HasView s id (Master v)
    → IsOneEvent a (Post i v.number p) s (stepped s i (word (Posted v.number p)) id ((i, Some letter) ∷ carried)
    (Master (with_hand v i (Sent ask p (length v.got)) v.got)) gives))
    (λ c L seat. let K = known a c L id v seat in let filled : get_or v.hand i Nothing ≡ Filled = can.filled in
    post_event a c L id i v K carried letter ask p
    (held_inside a c L id i v K (λ e. absurd (cc))) filled can.spells can.port can.own
    (λ j other q known at. can.unsent j q known other at)) s can.seat.fits can.seat.view

pub look_law : LookIsOneEvent
look_law a s id i w carried seated lt =
    by_parts a (λ s. HasView s id w → IsOneEvent a (Look i) s (stepped s i (get_or s.words i 0) id carried w keeps))
    (λ c L seat. record {
      before = c;
      after = c;
      was = refl;
      is = sym (unmoved (λ t. table_of a c ≡ t) (table_of a c) i id w carried refl seat);
      lawful_before = L;
      lawful_after = L;
      allowed = look_is_allowed (state_of a c) i (let n = L.shape.phases in omega arith);
      leaves = refl;
    }) s seated.fits seated.view

one_letter : (homes : List (maybe.Option Berth)) (i : ℕ) (x y : SlotRecord) → IsHome homes i x → IsHome homes i y
    → x ≡ y
one_letter homes i x y a b = cc

pub accept_law : AcceptIsOneEvent
accept_law a s id i u carried letter ask owner can =
    by_parts a (λ s. HasView s id (Port u) → get_or s.words i 0 ≡ word (Posted owner u.number) → IsHome s.homes i letter
    → IsOneEvent a (Accept i owner u.number) s
    (stepped s i (word (Serving owner u.number)) id carried
    (Port (with_serving u (u.serving ++ (i, ask) ∷ []) u.list)) (takes i (Some letter))))
    (λ c L seat at home. let K = known_port a c L id u seat in
    let ph = shown a c L i (Posted owner u.number) can.slot
    (record { owner = can.small; port = (low_port a c L u.number K.near).1 }) at in
    let h = subst (InPhase a c i) ph (L.slots i can.slot) in
    let same = one_letter c.homes i h.home.letter letter h.home.at home in
    let asks : h.asked.ask ≡ ask =
    spells_one letter h.asked.ask ask (subst
    (λ (r : SlotRecord). Spells r h.asked.ask) same h.home.spells) can.spells in
    subst (λ (q : Request). IsOneEvent a (Accept i owner u.number) (table_of a c)
    (stepped (table_of a c) i (word (Serving owner u.number)) id carried
    (Port (with_serving u (u.serving ++ (i, q) ∷ []) u.list)) (takes i (Some letter)))) asks
    (accept_event a c L id i u K carried letter owner can.slot ph h.asked).0) s can.seat.fits can.seat.view can.posted can.home

pub answer_law : AnswerIsOneEvent
answer_law a s id i u carried letter ask reply owner can =
    by_parts a (λ s. HasView s id (Port u) → IsOneEvent a (Answer i owner u.number) s
    (stepped s i (word (Answered owner u.number)) id ((i, Some letter) ∷ carried)
    (Port (with_serving u (drop_slot i u.serving) (u.list ++ (ask, reply) ∷ []))) gives))
    (λ c L seat. (answer_event a c L id i owner u
    (known_port a c L id u seat) carried letter ask reply can.serves can.owns can.spells can.answers can.last can.right).0) s can.seat.fits can.seat.view

pub collect_law : CollectIsOneEvent
collect_law a s id i v carried letter ask reply p since can =
    by_parts a (λ s. HasView s id (Master v) → get_or s.words i 0 ≡ word (Answered v.number p) → IsHome s.homes i letter
    → IsOneEvent a (Collect i v.number p) s (stepped s i (word (Taking v.number p)) id carried
    (Master (with_hand v i (Taken p) (v.got ++ entry p letter.index ask reply ∷ []))) (takes i (Some letter))))
    (λ c L seat at home. let K = known a c L id v seat in
    let sent : get_or v.hand i Nothing ≡ Sent ask p since = can.sent in
    let lt = held_inside a c L id i v K (λ e. absurd (cc)) in
    let fits : FitsWord (Answered v.number p) =
    record {
      owner = (low_master a c L v.number K.near).1;
      port = sent_port a c L v.number i ask p since lt (ap (λ (x : Hands). get_or x.hand i Nothing) K.is ∙ sent);
    } in
    let ph = shown a c L i (Answered v.number p) lt fits at in let A = subst (InPhase a c i) ph (L.slots i lt) in
    let E = collect_event a c L id i v K carried ask p since lt sent ph A in
    let same = one_letter c.homes i A.home.letter letter A.home.at home in
    let asks : A.asked.ask ≡ ask =
    one_ask c.masters v.number i p since A.asked.known A.asked.ask ask A.asked.sent
    (ap (λ (x : Hands). get_or x.hand i Nothing) K.is ∙ sent) in
    let replies : A.answer ≡ reply =
    answers_one letter ask.address A.answer reply
    (subst (λ (q : Request). SpellsAnswer letter q.address A.answer) asks
    (subst (λ (r : SlotRecord). SpellsAnswer r A.asked.ask.address A.answer) same A.spells)) can.answers in
    subst (λ (r : Response). IsOneEvent a (Collect i v.number p) (table_of a c)
    (stepped (table_of a c) i (word (Taking v.number p)) id carried
    (Master (with_hand v i (Taken p) (v.got ++ entry p letter.index ask r ∷ []))) (takes i (Some letter)))) replies
    (subst (λ (x : SlotRecord). IsOneEvent a (Collect i v.number p) (table_of a c)
    (stepped (table_of a c) i (word (Taking v.number p)) id carried
    (Master (with_hand v i (Taken p) (v.got ++ entry p x.index ask A.answer ∷ [])))
    (takes i (Some x)))) same E)) s can.seat.fits can.seat.view can.answered can.home
  where
    one_ask : (ms : List Hands) (m i p known since : ℕ) (ask other : Request) → held ms m i ≡ Sent ask p since
        → held ms m i ≡ Sent other p known → ask ≡ other
    one_ask ms m i p known since ask other x y = cc

pub release_law : ReleaseIsOneEvent
release_law a s id i v carried letter p seated taken =
    by_parts a (λ s. HasView s id (Master v)
    → IsOneEvent a (Release i v.number p) s (stepped s i (word Free) id ((i, Some letter) ∷ carried)
    (Master (with_hand v i Nothing v.got)) gives))
    (λ c L seat. let K = known a c L id v seat in
    release_event a c L id i v K carried letter p
    (held_inside a c L id i v K (λ e. absurd (cc))) taken) s seated.fits seated.view

pub leave_law : LeaveIsOneEvent
leave_law a s id v carried can =
    by_parts a (λ s. HasView s id (Master v)
    → IsOneEvent a (Leave v.number) s (stepped s (a.slots + v.number) 1 id carried (Master (gone_hands v)) keeps))
    (λ c L seat. leave_event a c L id v
    (known a c L id v seat) carried can.there can.empty) s can.seat.fits can.seat.view

pub opens_law : Opens
opens_law a letters words are = opens a words letters are.zeros are.many are.there are.limits are.owners
