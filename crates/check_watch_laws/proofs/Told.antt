-- What is due of a port's replies, moment by moment; and the entries of one source.
use Rattle.std.proofs.Common.{◌≡◌, ◌∙◌, ℕ, ◌≤◌, Bool, true, false, if◌then◌else◌, List, [], ◌∷◌, ◌++◌, length, Option, Some, None, refl, ap, sym, append-nil, append_assoc}
use Rattle.std.specs.Prelude.{◌==◌}
use Rattle.std.proofs.lemmas.List.Elements.{filter-append}
use Rattle.check_cells.specs.Sent.{Sent}
use Rattle.check_cells.specs.Pattern.{Pattern}
use Rattle.check_flight.specs.declared.answer.Answer.{Answer}
use Rattle.check_flight.specs.PortSlave.{PortSlave}
use Rattle.check_watch_laws.specs.Crossed.{AskSeen, ReplySeen}
use Rattle.check_watch_laws.specs.Memories.{IsEntry, AreEntries, entries_of}
use Rattle.check_watch_laws.specs.Moments.{Act, RequestMoment, due_acting, slave_then, slave_after_all, entry_due, dues_of}
use Rattle.check_watch_laws.proofs.Taking.{moment_if}

pub dues_none : (port : ℕ) (slave : PortSlave) → dues_of port slave [] ≡ []
unfolding dues_of
dues_none port slave = refl

pub dues_cons : (port : ℕ) (slave : PortSlave) (moment : RequestMoment) (moments : List RequestMoment)
    → dues_of port slave (moment ∷ moments)
    ≡ entry_due moment.wide moment.sent (due_acting moment.act port slave moment.wide (Some moment.sent))
    ++ dues_of port (slave_then slave moment) moments
unfolding dues_of
dues_cons port slave moment moments = refl

-- one moment more
dues_more : (port : ℕ) (slave : PortSlave) (moments : List RequestMoment) (moment : RequestMoment)
    → dues_of port slave (moments ++ moment ∷ []) ≡ dues_of port slave moments
    ++ entry_due moment.wide moment.sent
    (due_acting moment.act port (slave_after_all slave moments) moment.wide (Some moment.sent))
unfolding dues_of
dues_more port slave [] moment =
    append-nil (entry_due moment.wide moment.sent (due_acting moment.act port slave moment.wide (Some moment.sent)))
dues_more port slave (first ∷ moments) moment =
    let here = entry_due first.wide first.sent (due_acting first.act port slave first.wide (Some first.sent)) in
    let later = slave_then slave first in
    ap (λ l. here ++ l) (dues_more port later moments moment)
    ∙ sym (append_assoc here (dues_of port later moments)
    (entry_due moment.wide moment.sent
    (due_acting moment.act port (slave_after_all later moments) moment.wide (Some moment.sent))))

-- ---- the entries of one source

-- the entry that a request gains as it is accepted or answered, if its reply is due then
abbrev pub gains : Act → ℕ → PortSlave → ℕ → Option Sent → List (Sent × Pattern)
gains act port slave wide None = []
gains act port slave wide (Some ask) = entry_due wide ask (due_acting act port slave wide (Some ask))

-- an entry is of its own source
sorted : (wide other : ℕ) (ask : Sent) (due : Option Answer)
    → entries_of wide (entry_due other ask due) ≡ (if other == wide then entry_due other ask due else [])
sorted wide other ask None = both (other == wide)
  where
    both : (b : Bool) → ◌≡◌ {A = List (Sent × Pattern)} [] (if b then [] else [])
    both true = refl
    both false = refl
sorted wide other ask (Some answer) = refl

-- one moment more, or none
pub entries_more : (port : ℕ) (slave : PortSlave) (moments : List RequestMoment) (wide other : ℕ) (act : Act) (here : Bool)
    (did : Option Sent)
    → entries_of wide (dues_of port slave (moments ++ (if here then moment_if act other did else [])))
    ≡ entries_of wide (dues_of port slave moments) ++ (if here then
    (if other == wide then gains act port (slave_after_all slave moments) other did else []) else [])
entries_more port slave moments wide other act false did =
    ap (λ l. entries_of wide (dues_of port slave l)) (append-nil moments)
    ∙ sym (append-nil (entries_of wide (dues_of port slave moments)))
entries_more port slave moments wide other act true None =
    ap (λ l. entries_of wide (dues_of port slave l)) (append-nil moments)
    ∙ sym (append-nil (entries_of wide (dues_of port slave moments)))
    ∙ ap (λ l. entries_of wide (dues_of port slave moments) ++ l) (both (other == wide))
  where
    both : (b : Bool) → ◌≡◌ {A = List (Sent × Pattern)} [] (if b then [] else [])
    both true = refl
    both false = refl
entries_more port slave moments wide other act true (Some ask) =
    let due = due_acting act port (slave_after_all slave moments) other (Some ask) in
    ap (λ l. entries_of wide l) (dues_more port slave moments (record { act = act; wide = other; sent = ask }))
    ∙ filter-append (λ (entry : Sent × Pattern). entry.0.ask.source == wide) (dues_of port slave moments)
    (entry_due other ask due)
    ∙ ap (λ l. entries_of wide (dues_of port slave moments) ++ l) (sorted wide other ask due)

-- ---- captured entries, one by one

abbrev pub AreMatched : ℕ → List (AskSeen × ReplySeen) → List (Sent × Pattern) → Type 0
AreMatched wide [] [] = Unit {0}
AreMatched wide [] (entry ∷ entries) = ⊥
AreMatched wide (seen ∷ more) [] = ⊥
AreMatched wide (seen ∷ more) (entry ∷ entries) = IsEntry wide seen entry × AreMatched wide more entries

pub matched_more : (wide : ℕ) (seen : List (AskSeen × ReplySeen)) (entries : List (Sent × Pattern))
    (last : AskSeen × ReplySeen) (entry : Sent × Pattern)
    → AreMatched wide seen entries → IsEntry wide last entry
    → AreMatched wide (seen ++ last ∷ []) (entries ++ entry ∷ [])
matched_more wide [] [] last entry all is = (is, tt)
matched_more wide [] (e ∷ entries) last entry all is = absurd all
matched_more wide (x ∷ seen) [] last entry all is = absurd all
matched_more wide (x ∷ seen) (e ∷ entries) last entry all is =
    (all.0, matched_more wide seen entries last entry all.1 is)

pub matched_but_one : (wide : ℕ) (seen : List (AskSeen × ReplySeen)) (entries rest : List (Sent × Pattern))
    → AreMatched wide seen entries → length rest ≤ 1 → AreEntries wide seen (entries ++ rest)
matched_but_one wide [] [] rest all few = few
matched_but_one wide [] (e ∷ entries) rest all few = absurd all
matched_but_one wide (x ∷ seen) [] rest all few = absurd all
matched_but_one wide (x ∷ seen) (e ∷ entries) rest all few = (all.0, matched_but_one wide seen entries rest all.1 few)
