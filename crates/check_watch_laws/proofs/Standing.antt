-- How far the messages of a wide source have come across.
use Rattle.std.proofs.Common.{◌≡◌, ◌∙◌, ℕ, ◌≤◌, max, Bool, true, false, if◌then◌else◌, List, [], ◌∷◌, ◌++◌, length, filter, zip, Option, Some, None, refl, ap, sym, subst, append-nil}
use Rattle.std.specs.Prelude.{IsSomeAnd}
use Rattle.std.proofs.lemmas.List.Elements.{filter-append}
use Rattle.check_cells.specs.Sent.{Sent}
use Rattle.check_cells.specs.Pattern.{Pattern, FitsCaptured}
use Rattle.check_flight.specs.declared.answer.Answer.{Answer}
use Rattle.check_flight.specs.Crossing.{Crossing, given as given_in, IsSameReply, IsSameSent}
use Rattle.check_flight.specs.Crossing.Crossing.{Waiting, Crossed, Given}
use Rattle.check_flight.specs.Flight.{Turn}
use Rattle.check_flight.specs.Flight.Turn.{Idle, Asking, Asked}
use Rattle.check_watch.specs.declared.beat.Link.{Link}
use Rattle.check_watch.specs.declared.beat.Link.TheVariants.{Master, Port}
use Rattle.check_watch.specs.Plan.{Plan, Layout, may_cross, route_of, bus_of, wider_bus}
use Rattle.check_watch.specs.Plan.LinkSide.{AtPorts}
use Rattle.check_watch.specs.Scene.{turn_by, given_by}
use Rattle.check_watch_laws.specs.Crossed.{AskSeen, ReplySeen}
use Rattle.check_watch_laws.specs.Crossings.{goes_out, sent_out, answered_from_outside, IsSeenAcross, AreSeenAcross, IsGiven, AreGiven}
use Rattle.check_watch_laws.proofs.Lists.{zip_past, zip_more}
use Rattle.check_watch_laws.proofs.Flights.{pending}

-- requests that masters sent and those that ports took, one by one
abbrev pub AllSeen : Layout → ℕ → List AskSeen → List AskSeen → Type 0
AllSeen layout wide [] [] = Unit {0}
AllSeen layout wide [] (seen ∷ taken) = ⊥
AllSeen layout wide (one ∷ sent) [] = ⊥
AllSeen layout wide (one ∷ sent) (seen ∷ taken) = IsSeenAcross layout wide one seen × AllSeen layout wide sent taken

seen_more : (layout : Layout) (wide : ℕ) (sent taken : List AskSeen) (one seen : AskSeen) → AllSeen layout wide sent taken
    → IsSeenAcross layout wide one seen → AllSeen layout wide (sent ++ one ∷ []) (taken ++ seen ∷ [])
seen_more layout wide [] [] one seen all is = (is, tt)
seen_more layout wide [] (t ∷ taken) one seen all is = absurd all
seen_more layout wide (x ∷ sent) [] one seen all is = absurd all
seen_more layout wide (x ∷ sent) (t ∷ taken) one seen all is =
    (all.0, seen_more layout wide sent taken one seen all.1 is)

pub seen_but_one : (layout : Layout) (wide : ℕ) (sent taken rest : List AskSeen) → AllSeen layout wide sent taken
    → length rest ≤ 1 → AreSeenAcross layout wide (sent ++ rest) taken
seen_but_one layout wide [] [] rest all few = few
seen_but_one layout wide [] (t ∷ taken) rest all few = absurd all
seen_but_one layout wide (x ∷ sent) [] rest all few = absurd all
seen_but_one layout wide (x ∷ sent) (t ∷ taken) rest all few =
    (all.0, seen_but_one layout wide sent taken rest all.1 few)

abbrev pub AllGiven : Layout → ℕ → List (AskSeen × ReplySeen) → List (AskSeen × ReplySeen) → Type 0
AllGiven layout wide [] [] = Unit {0}
AllGiven layout wide [] (one ∷ given) = ⊥
AllGiven layout wide (seen ∷ more) [] = ⊥
AllGiven layout wide (seen ∷ more) (one ∷ given) = IsGiven layout wide seen one × AllGiven layout wide more given

given_more : (layout : Layout) (wide : ℕ) (seen given : List (AskSeen × ReplySeen)) (last one : AskSeen × ReplySeen)
    → AllGiven layout wide seen given → IsGiven layout wide last one
    → AllGiven layout wide (seen ++ last ∷ []) (given ++ one ∷ [])
given_more layout wide [] [] last one all is = (is, tt)
given_more layout wide [] (g ∷ given) last one all is = absurd all
given_more layout wide (x ∷ seen) [] last one all is = absurd all
given_more layout wide (x ∷ seen) (g ∷ given) last one all is =
    (all.0, given_more layout wide seen given last one all.1 is)

pub given_but_one : (layout : Layout) (wide : ℕ) (seen given rest : List (AskSeen × ReplySeen))
    → AllGiven layout wide seen given → length rest ≤ 1 → AreGiven layout wide seen (given ++ rest)
given_but_one layout wide [] [] rest all few = few
given_but_one layout wide [] (g ∷ given) rest all few = absurd all
given_but_one layout wide (x ∷ seen) [] rest all few = absurd all
given_but_one layout wide (x ∷ seen) (g ∷ given) rest all few =
    (all.0, given_but_one layout wide seen given rest all.1 few)

-- what has been seen of a wide source: at masters' links and at ports'
pub record Story : Type 0 where
  pub sent : List AskSeen
  pub collected : List ReplySeen
  pub taken : List AskSeen
  pub gave : List ReplySeen

module _ (plan : Plan) (wide : ℕ) where
  abbrev pub outside : Story → List (AskSeen × ReplySeen)
  outside story = answered_from_outside plan (zip story.sent story.collected)

  -- nothing is out
  pub record IsAtRest (story : Story) (there : Turn) : Type 0 where
    pub same : AllSeen plan.layout wide (sent_out plan story.sent) story.taken
    pub free : pending AtPorts there ≡ []
    pub given : AllGiven plan.layout wide (outside story) (zip story.taken story.gave)

  -- this request of a master is, and no port has taken it
  pub record IsSentOut (story : Story) (n : ℕ) (ask : Sent) (there : Turn) : Type 0 where
    pub front : List AskSeen
    pub split : sent_out plan story.sent ≡ front ++ record { link = Master n; sent = ask } ∷ []
    pub same : AllSeen plan.layout wide front story.taken
    pub free : pending AtPorts there ≡ []
    pub given : AllGiven plan.layout wide (outside story) (zip story.taken story.gave)

  -- this port has it
  pub record IsTaken (story : Story) (n port : ℕ) (ask : Sent) (there : Turn) : Type 0 where
    pub same : AllSeen plan.layout wide (sent_out plan story.sent) story.taken
    pub seen : Sent
    pub is : there ≡ Asked port seen
    pub across : IsSeenAcross plan.layout wide (record { link = Master n; sent = ask }) (record { link = Port port; sent = seen })
    pub given : AllGiven plan.layout wide (outside story) (zip story.taken story.gave)

  -- this port has given this answer
  pub record IsBack (story : Story) (n port : ℕ) (ask : Sent) (answer : Answer) (there : Turn) : Type 0 where
    pub same : AllSeen plan.layout wide (sent_out plan story.sent) story.taken
    pub free : pending AtPorts there ≡ []
    pub front : List (AskSeen × ReplySeen)
    pub last : AskSeen × ReplySeen
    pub split : zip story.taken story.gave ≡ front ++ last ∷ []
    pub given : AllGiven plan.layout wide (outside story) front
    pub link_is : last.0.link ≡ Port port
    pub across : IsSeenAcross plan.layout wide (record { link = Master n; sent = ask }) last.0
    pub reply_is : answer.reply ≡ last.1.reply last.0.sent.ask.address

  abbrev pub IsOut : Story → Bool → ℕ → ℕ → Sent → Crossing → Turn → Type 0
  IsOut story false n port ask crossing there = IsAtRest story there
  IsOut story true n port ask Waiting there = IsSentOut story n ask there
  IsOut story true n port ask Crossed there = IsTaken story n port ask there
  IsOut story true n port ask (Given answer) there = IsBack story n port ask answer there

  -- the port that the request of this master goes to
  abbrev pub goes_to : ℕ → Sent → ℕ
  goes_to number ask = route_of plan number ask.ask.address ask.ask.size

  -- its link is judged with the masters'
  abbrev pub is_out : ℕ → Sent → Bool
  is_out number ask = may_cross plan.layout (goes_to number ask)

  -- by what is in flight at masters' links, how far it has come, and what is in flight at ports'
  abbrev pub Stands : Story → Turn → Crossing → Turn → Type 0
  Stands story Idle crossing there = IsAtRest story there
  Stands story (Asking n) crossing there = IsAtRest story there
  Stands story (Asked n ask) crossing there = IsOut story (is_out n ask) n (goes_to n ask) ask crossing there

  -- ---- at masters' links

  -- a request more, without its reply
  outside_asked : (story : Story) (more : List AskSeen) → length story.sent ≡ length story.collected
      → outside (record story { sent = story.sent ++ more; collected = story.collected ++ [] }) ≡ outside story
  outside_asked story more counted =
      ap (λ l. answered_from_outside plan (zip (story.sent ++ more) l)) (append-nil story.collected)
      ∙ ap (λ l. answered_from_outside plan l) (zip_past story.sent more story.collected counted)

  sent_more : (sent : List AskSeen) (one : AskSeen)
      → sent_out plan (sent ++ one ∷ []) ≡ sent_out plan sent ++ (if goes_out plan one then one ∷ [] else [])
  sent_more sent one = filter-append (goes_out plan) sent (one ∷ [])

  -- the requests that were sent out are those of before
  sent_same : (story : Story) → AllSeen plan.layout wide (sent_out plan story.sent) story.taken
      → AllSeen plan.layout wide (sent_out plan (story.sent ++ [])) story.taken
  sent_same story same =
      subst (λ l. AllSeen plan.layout wide (sent_out plan l) story.taken) (sym (append-nil story.sent)) same

  pub master_asks : (story : Story) (n : ℕ) (ask : Sent) (ends : Bool) (there : Turn)
      → IsAtRest story there → length story.sent ≡ length story.collected
      → Stands (record story {
        sent = story.sent ++ (if ends then record { link = Master n; sent = ask } ∷ [] else []);
        collected = story.collected ++ [];
      }) (turn_by n (if ends then Some ask else None)) Waiting there
  master_asks story n ask false there rest counted = record {
    same = sent_same story rest.same;
    free = rest.free;
    given = subst (λ l. AllGiven plan.layout wide l (zip story.taken story.gave)) (sym (outside_asked story [] counted)) rest.given;
  }
  master_asks story n ask true there rest counted = go (is_out n ask) refl
    where
      last : AskSeen
      last = record { link = Master n; sent = ask }

      by : (out : Bool) → is_out n ask ≡ out
          → sent_out plan (story.sent ++ last ∷ []) ≡ sent_out plan story.sent ++ (if out then last ∷ [] else [])
      by out is =
          sent_more story.sent last ∙ ap (λ b. sent_out plan story.sent ++ (if b then last ∷ [] else [])) is

      still : AllGiven plan.layout wide
          (outside (record story { sent = story.sent ++ last ∷ []; collected = story.collected ++ [] }))
          (zip story.taken story.gave)
      still = subst (λ l. AllGiven plan.layout wide l (zip story.taken story.gave))
          (sym (outside_asked story (last ∷ []) counted)) rest.given

      go : (out : Bool) → is_out n ask ≡ out → IsOut
          (record story {
            sent = story.sent ++ record { link = Master n; sent = ask } ∷ [];
            collected = story.collected ++ [];
          }) out n (goes_to n ask) ask Waiting there
      go true is = record {
        front = sent_out plan story.sent;
        split = by true is;
        same = rest.same;
        free = rest.free;
        given = still;
      }
      go false is = record {
        same = subst (λ l. AllSeen plan.layout wide l story.taken)
            (sym (by false is ∙ append-nil (sent_out plan story.sent))) rest.same;
        free = rest.free;
        given = still;
      }

  -- the reply that a master gets to a request that went out
  pub record IsGot (n : ℕ) (ask : Sent) (reply : ReplySeen) (crossing : Crossing) : Type 0 where
    pub must : IsSomeAnd (given_in crossing)
        (λ answer. IsSameReply (wider_bus plan.layout (Master n) (goes_to n ask)) answer.reply (reply.reply ask.ask.address))
    pub own : (reply.reply ask.ask.address).source ≡ ask.ask.source

  -- exchanges with one reply more
  pub outside_answered : (story : Story) (done : List AskSeen) (last : AskSeen) (reply : ReplySeen)
      → story.sent ≡ done ++ last ∷ [] → length story.collected ≡ length done
      → outside (record story { sent = story.sent ++ []; collected = story.collected ++ reply ∷ [] }) ≡ outside story
      ++ (if goes_out plan last then (last, reply) ∷ [] else [])
  outside_answered story done last reply is counted =
      let test : AskSeen × ReplySeen → Bool = λ seen. goes_out plan seen.0 in
      ap (λ l. answered_from_outside plan (zip l (story.collected ++ reply ∷ []))) (append-nil story.sent ∙ is)
      ∙ ap (λ l. answered_from_outside plan l) (zip_more done story.collected last reply (sym counted))
      ∙ filter-append test (zip done story.collected) ((last, reply) ∷ [])
      ∙ ap (λ l. filter test l ++ (if goes_out plan last then (last, reply) ∷ [] else []))
      (sym (zip_past done (last ∷ []) story.collected (sym counted)))
      ∙ ap (λ l. answered_from_outside plan (zip l story.collected)
      ++ (if goes_out plan last then (last, reply) ∷ [] else [])) (sym is)

  story_same : (story : Story) → story ≡ record story { sent = story.sent ++ []; collected = story.collected ++ [] }
  story_same story = ap (λ l. record story { sent = l }) (sym (append-nil story.sent))
      ∙ ap (λ l. record story { sent = story.sent ++ []; collected = l }) (sym (append-nil story.collected))

  pub master_gets : (story : Story) (n : ℕ) (ask : Sent) (done : List AskSeen) (reply : ReplySeen)
      (crossing : Crossing) (there : Turn) → story.sent ≡ done ++ record { link = Master n; sent = ask } ∷ []
      → length story.collected ≡ length done
      → Stands story (Asked n ask) crossing there → (ends : Bool)
      → (ends ≡ true → is_out n ask ≡ true → IsGot n ask reply crossing)
      → Stands (record story {
        sent = story.sent ++ [];
        collected = story.collected ++ (if ends then reply ∷ [] else []);
      })
      (if ends then Idle else Asked n ask) crossing there
  master_gets story n ask done reply crossing there is counted stands false got =
      subst (λ s. Stands s (Asked n ask) crossing there) (story_same story) stands
  master_gets story n ask done reply crossing there is counted stands true got =
      go (is_out n ask) refl crossing stands (got refl)
    where
      go : (out : Bool) → is_out n ask ≡ out → (crossing : Crossing) → IsOut story out n (goes_to n ask) ask crossing there
          → (is_out n ask ≡ true → IsGot n ask reply crossing)
          → IsAtRest (record story {
            sent = story.sent ++ [];
            collected = story.collected ++ reply ∷ [];
          }) there
      go false out crossing stands got = record {
        same = sent_same story stands.same;
        free = stands.free;
        given = subst (λ l. AllGiven plan.layout wide l (zip story.taken story.gave))
            (sym (outside_answered story done (record { link = Master n; sent = ask })
            (reply) is counted
            ∙ ap (λ b. outside story ++ (if b then (record { link = Master n; sent = ask }, reply) ∷ [] else [])) out ∙ append-nil (outside story))) stands.given;
      }
      go true out Waiting stands got = absurd (got out).must
      go true out Crossed stands got = absurd (got out).must
      go true out (Given answer) stands got =
          let last : AskSeen = record { link = Master n; sent = ask } in
          let this = got out in
          let wider : ℕ = wider_bus plan.layout (Master n) (goes_to n ask) in
          let one : IsGiven plan.layout wide (last, reply) stands.last = record {
            ask = stands.across;
            reply = subst (λ (l : Link). IsSameReply (max (bus_of plan.layout (Master n)) (bus_of plan.layout l))
                (stands.last.1.reply stands.last.0.sent.ask.address) (reply.reply ask.ask.address)) (sym stands.link_is)
                (subst (λ (r : Pattern). IsSameReply wider r (reply.reply ask.ask.address)) stands.reply_is this.must);
            source = this.own;
          } in
          let seen : outside story ++ (last, reply)
          ∷ [] ≡ outside (record story { sent = story.sent ++ []; collected = story.collected ++ reply ∷ [] }) =
          sym (outside_answered story done last reply is counted
          ∙ ap (λ b. outside story ++ (if b then (last, reply) ∷ [] else [])) out) in
          record {
            same = sent_same story stands.same;
            free = stands.free;
            given = subst (λ l. AllGiven plan.layout wide l (zip story.taken story.gave)) seen
                (subst (λ l. AllGiven plan.layout wide (outside story ++ (last, reply) ∷ []) l) (sym stands.split)
                (given_more plan.layout wide (outside story) stands.front (last, reply) stands.last stands.given one));
          }

  -- ---- at ports' links

  gave_same : (story : Story) (more : List AskSeen) → length story.taken ≡ length story.gave
      → zip story.taken story.gave ≡ zip (story.taken ++ more) (story.gave ++ [])
  gave_same story more counted =
      sym (zip_past story.taken more story.gave counted)
      ∙ ap (λ l. zip (story.taken ++ more) l) (sym (append-nil story.gave))

  taken_same : (story : Story) → story ≡ record story { taken = story.taken ++ []; gave = story.gave ++ [] }
  taken_same story = ap (λ l. record story { taken = l }) (sym (append-nil story.taken))
      ∙ ap (λ l. record story { taken = story.taken ++ []; gave = l }) (sym (append-nil story.gave))

  not_pending : (there : Turn) (p : ℕ) (ask : Sent) → there ≡ Asked p ask → pending AtPorts there ≡ [] → ⊥
  not_pending there p ask is none = let some : pending AtPorts (Asked p ask) ≡ [] =
      ap (λ t. pending AtPorts t) (sym is) ∙ none in absurd (cc)

  -- what stands, if nothing is in flight at ports' links before and after
  stands_free : (story : Story) (turn : Turn) (crossing : Crossing) (there later : Turn) → pending AtPorts there ≡ []
      → pending AtPorts later ≡ [] → Stands story turn crossing there → Stands story turn crossing later
  stands_free story Idle crossing there later none free stands =
      record { same = stands.same; free = free; given = stands.given }
  stands_free story (Asking n) crossing there later none free stands =
      record { same = stands.same; free = free; given = stands.given }
  stands_free story (Asked n ask) crossing there later none free stands = go (is_out n ask) crossing stands
    where
      go : (out : Bool) (crossing : Crossing) → IsOut story out n (goes_to n ask) ask crossing there
          → IsOut story out n (goes_to n ask) ask crossing later
      go false crossing stands = record { same = stands.same; free = free; given = stands.given }
      go true Waiting stands = record {
        front = stands.front;
        split = stands.split;
        same = stands.same;
        free = free;
        given = stands.given;
      }
      go true Crossed stands = absurd (not_pending there (goes_to n ask) stands.seen stands.is none)
      go true (Given answer) stands =
          record {
            same = stands.same;
            free = free;
            front = stands.front;
            last = stands.last;
            split = stands.split;
            given = stands.given;
            link_is = stands.link_is;
            across = stands.across;
            reply_is = stands.reply_is;
          }

  -- the request that a port takes is the one that is out, and goes to it
  pub record IsTheSent (turn : Turn) (crossing : Crossing) (p : ℕ) (ask : Sent) : Type 0 where
    pub number : ℕ
    pub sent : Sent
    pub in_flight : turn ≡ Asked number sent
    pub same : IsSameSent (wider_bus plan.layout (Master number) p) sent ask
    pub waits : crossing ≡ Waiting
    pub goes : goes_to number sent ≡ p
    pub out : is_out number sent ≡ true
    pub own : ask.ask.source ≡ wide

  pub port_asks : (story : Story) (p : ℕ) (ask : Sent) (turn : Turn) (crossing : Crossing)
      (there : Turn) → pending AtPorts there ≡ [] → length story.taken ≡ length story.gave
      → Stands story turn crossing there
      → (ends : Bool) → (ends ≡ true → IsTheSent turn crossing p ask)
      → Stands (record story {
        taken = story.taken ++ (if ends then record { link = Port p; sent = ask } ∷ [] else []);
        gave = story.gave ++ [];
      }) turn (if ends then Crossed else crossing)
      (turn_by p (if ends then Some ask else None))
  port_asks story p ask turn crossing there none counted stands false sent =
      subst (λ s. Stands s turn crossing (Asking p)) (taken_same story)
      (stands_free story turn crossing there (Asking p) none refl stands)
  port_asks story p ask turn crossing there none counted stands true sent =
      let this = sent refl in
      let one : AskSeen = record { link = Master this.number; sent = this.sent } in
      let last : AskSeen = record { link = Port p; sent = ask } in
      let after : Story = record story { taken = story.taken ++ last ∷ []; gave = story.gave ++ [] } in
      let across : IsSeenAcross plan.layout wide one last = record { same = this.same; source = this.own } in
      let out : IsSentOut story this.number this.sent there =
      subst (λ b. IsOut story b this.number (goes_to this.number this.sent) this.sent Waiting there) this.out
      (subst (λ c. IsOut story (is_out this.number this.sent) this.number (goes_to this.number this.sent) this.sent c there)
      this.waits (subst (λ t. Stands story t crossing there) this.in_flight stands)) in
      let taken : IsTaken after this.number (goes_to this.number this.sent) this.sent (Asked p ask) = record {
        same = subst (λ l. AllSeen plan.layout wide l (story.taken ++ last ∷ [])) (sym out.split)
            (seen_more plan.layout wide out.front story.taken one last out.same across);
        seen = ask;
        is = ap (λ q. Asked q ask) (sym this.goes);
        across = subst (λ q. IsSeenAcross plan.layout wide one (record { link = Port q; sent = ask })) (sym this.goes) across;
        given = subst (λ l. AllGiven plan.layout wide (outside story) l)
            (gave_same story (last ∷ []) counted) out.given;
      } in
      subst (λ t. Stands after t Crossed (Asked p ask)) (sym this.in_flight)
      (subst (λ b. IsOut after b this.number (goes_to this.number this.sent) this.sent Crossed (Asked p ask)) (sym this.out)
      taken)

  -- the reply that a port gives
  pub record IsItsGift (ask : Sent) (reply : ReplySeen) (got : Pattern) (due : Option Answer) : Type 0 where
    pub must : IsSomeAnd due (λ answer. FitsCaptured answer.reply got)
    pub is : got ≡ reply.reply ask.ask.address

  back : (story : Story) (p : ℕ) (ask : Sent) (done : List AskSeen) (reply : ReplySeen)
      (got : Pattern) (n port : ℕ) (sent : Sent) (there : Turn) (due : Option Answer) → there ≡ Asked p ask
      → story.taken ≡ done ++ record { link = Port p; sent = ask } ∷ [] → length story.gave ≡ length done
      → IsTaken story n port sent there → IsItsGift ask reply got due
      → IsOut (record story {
        taken = story.taken ++ [];
        gave = story.gave ++ reply ∷ [];
      }) true n port sent (given_by due got Crossed) Idle
  back story p ask done reply got n port sent there None is taken_is counted taken gift = absurd gift.must
  back story p ask done reply got n port sent there (Some answer) is taken_is counted taken gift =
      let last : AskSeen = record { link = Port p; sent = ask } in
      record {
        same = subst (λ l. AllSeen plan.layout wide (sent_out plan story.sent) l) (sym (append-nil story.taken)) taken.same;
        free = refl;
        front = zip story.taken story.gave;
        last = (last, reply);
        split = ap (λ l. zip l (story.gave ++ reply ∷ [])) (append-nil story.taken ∙ taken_is)
            ∙ zip_more done story.gave last reply (sym counted)
            ∙ ap (λ l. l ++ (last, reply) ∷ []) (sym (zip_past done (last ∷ []) story.gave (sym counted))
            ∙ ap (λ l. zip l story.gave) (sym taken_is));
        given = taken.given;
        link_is = ap (λ t. Port (port_in t)) (sym is ∙ taken.is);
        across = subst (λ (t : Turn). IsSeenAcross plan.layout wide (record { link = Master n; sent = sent })
            (record { link = Port (port_in t); sent = request_in t })) (sym (sym is ∙ taken.is)) taken.across;
        reply_is = gift.is;
      }
    where
      request_in : Turn → Sent
      request_in Idle = ask
      request_in (Asking n) = ask
      request_in (Asked n r) = r

      port_in : Turn → ℕ
      port_in Idle = p
      port_in (Asking n) = p
      port_in (Asked n r) = n

  pub port_gives : (story : Story) (p : ℕ) (ask : Sent) (done : List AskSeen) (reply : ReplySeen)
      (got : Pattern) (turn : Turn) (crossing : Crossing) (there : Turn) (due : Option Answer) → there ≡ Asked p ask
      → story.taken ≡ done ++ record { link = Port p; sent = ask } ∷ []
      → length story.gave ≡ length done → Stands story turn crossing there → (ends : Bool)
      → (ends ≡ true → IsItsGift ask reply got due)
      → Stands (record story {
        taken = story.taken ++ [];
        gave = story.gave ++ (if ends then reply ∷ [] else []);
      }) turn
      (if ends then given_by due got crossing else crossing) (if ends then Idle else there)
  port_gives story p ask done reply got turn crossing there due is taken_is counted stands false gift =
      subst (λ s. Stands s turn crossing there) (taken_same story) stands
  port_gives story p ask done reply got Idle crossing there due is taken_is counted stands true gift =
      absurd (not_pending there p ask is stands.free)
  port_gives story p ask done reply got (Asking n) crossing there due is taken_is counted stands true gift =
      absurd (not_pending there p ask is stands.free)
  port_gives story p ask done reply got (Asked n sent) crossing there due is taken_is counted stands true gift =
      go (is_out n sent) crossing stands
    where
      go : (out : Bool) (crossing : Crossing) → IsOut story out n (goes_to n sent) sent crossing there
          → IsOut (record story {
            taken = story.taken ++ [];
            gave = story.gave ++ reply ∷ [];
          }) out n (goes_to n sent) sent (given_by due got crossing) Idle
      go false crossing stands = absurd (not_pending there p ask is stands.free)
      go true Waiting stands = absurd (not_pending there p ask is stands.free)
      go true (Given answer) stands = absurd (not_pending there p ask is stands.free)
      go true Crossed stands =
          back story p ask done reply got n (goes_to n sent) sent there due is taken_is counted stands (gift refl)
