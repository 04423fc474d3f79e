-- What is open after some moments was accepted at one of them, and not answered since.
use Rattle.std.proofs.Common.{◌≡◌, ◌∙◌, ◌⊎◌, inl, inr, ⊎_elim, ℕ, List, [], ◌∷◌, Option, Some, None, ap, sym}
use Rattle.std.specs.Prelude.{◌≢◌}
use Rattle.std.proofs.lemmas.Bool.{cases_eq}
use Rattle.std.specs.List.{AllByRecursion}
use Rattle.check_cells.specs.Sent.{Sent}
use Rattle.check_watch_laws.specs.Moments.{Act, RequestMoment}
use Rattle.check_watch_laws.specs.Moments.Act.{Accepts, Answers}
use Rattle.check_order_laws.specs.Open.{IsOpen}
use Rattle.check_order_laws.proofs.InTurn.{open_by, open_then, open_after, none_open, open_here, open_there}

-- it was open before, or it was accepted among these moments; and none of its source came later
abbrev IsOpenSince : (ℕ → Option Sent) → List RequestMoment → ℕ → Sent → Type 0
IsOpenSince held moments wide ask =
    IsOpen moments wide ask
    ⊎ ((held wide ≡ Some ask) × AllByRecursion (λ (moment : RequestMoment). moment.wide ≢ wide) moments)

opened_by : (moment : RequestMoment) (ask : Sent) → open_by moment.act moment.sent ≡ Some ask
    → moment ≡ record { act = Accepts; wide = moment.wide; sent = ask }
opened_by moment ask is = go moment.act is
  where
    go : (act : Act) → open_by act moment.sent ≡ Some ask
        → record moment { act = act } ≡ record { act = Accepts; wide = moment.wide; sent = ask }
    go Accepts is = let same : moment.sent ≡ ask = cc in ap (λ r. record moment { act = Accepts; sent = r }) same
    go Answers is = cc

since : (held : ℕ → Option Sent) (moments : List RequestMoment) (wide : ℕ) (ask : Sent)
    → open_after held moments wide ≡ Some ask → IsOpenSince held moments wide ask
since held [] wide ask is = inr (is, tt)
since held (moment ∷ moments) wide ask is =
    ⊎_elim
    (λ (found : IsOpen moments wide ask). inl (record {
      before = moment ∷ found.before;
      later = found.later;
      accepted = ap (λ l. moment ∷ l) found.accepted;
      unanswered = found.unanswered;
    }))
    (λ (was : (open_then held moment wide ≡ Some ask)
    × AllByRecursion (λ (m : RequestMoment). m.wide ≢ wide) moments). ⊎_elim
    (λ (here : wide ≡ moment.wide).
    let made = opened_by moment ask (sym (open_here held moment wide here) ∙ was.0) in
    inl (record {
      before = [];
      later = moments;
      accepted = ap (λ m. m ∷ moments) made
          ∙ ap (λ w. record { act = Accepts; wide = w; sent = ask } ∷ moments) (sym here);
      unanswered = was.1;
    }))
    (λ (apart : wide ≢ moment.wide).
    inr (sym (open_there held moment wide apart) ∙ was.0, ((λ same. apart (sym same)), was.1)))
    (cases_eq wide moment.wide))
    (since (open_then held moment) moments wide ask is)

pub open_is : (moments : List RequestMoment) (wide : ℕ) (ask : Sent) → open_after none_open moments wide ≡ Some ask
    → IsOpen moments wide ask
open_is moments wide ask is =
    ⊎_elim (λ (found : IsOpen moments wide ask). found)
    (λ (was : (None ≡ Some ask) × AllByRecursion (λ (m : RequestMoment). m.wide ≢ wide) moments). absurd (no was.0))
    (since none_open moments wide ask is)
  where
    no : None ≡ Some ask → ⊥
    no e = cc
