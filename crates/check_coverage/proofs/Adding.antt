-- What one beat adds, as it is counted from what is kept of the requests in flight.
use Rattle.std.proofs.Common.{◌≡◌, ◌∙◌, ℕ, Bool, ◌&&◌, List, [], ◌∷◌, length, Option, Some, None, refl, ap, sym}
use Rattle.std.specs.Prelude.{if◌then◌else◌, ◌==◌, not, map, filter, find, take_while, is_some, option_map, Result, OnOk}
use Rattle.std.specs.Bool.{beq}
use Rattle.std.specs.List.{list_any}
use Rattle.std.proofs.lemmas.Option.{none-some, same_Some}
use Rattle.check_beats.specs.declared.rules.LinkRules.{LinkRules}
use Rattle.check_bins.specs.declared.bin.Bin.{Bin}
use Rattle.check_bins.specs.declared.bin.Bin.TheVariants as bin
use Rattle.check_bins.specs.declared.counts.Counts.{Counts}
use Rattle.check_coverage.specs.declared.flight.CountedFlight.{CountedFlight}
use Rattle.check_coverage.specs.Bins.{again, begin_bins, contested_bins, contests, is_of_master, is_of_port, older, overtook_at, bin_pair, told_source, with_one}
use Rattle.check_sides.specs.Plan.{Plan}
use Rattle.check_coverage.specs.Flights.{InFlight, is_of, kept}
use Rattle.check_coverage.specs.Mirrors.{MirrorsView, mirrors_at}
use Rattle.check_bins.specs.Counting.{Adds}
use Rattle.check_bins.proofs.Counted.{adds_ok}
use Rattle.check_coverage.proofs.Places.{any_kept, filter_count, find_kept, found_any, take_while_kept}

-- two bins, and some more by a call that may fail
pub adds_two : {E : Type 0} (old a b new : Counts) (x y : Bin) (rest : List Bin) (r : Result (Unit {0}) E)
    → Adds old a (x ∷ []) → Adds a b (y ∷ []) → OnOk r (Adds b new rest) → OnOk r (Adds old new (x ∷ y ∷ rest))
adds_two old a b new x y rest r first second third =
    adds_ok old a new (x ∷ []) (y ∷ rest) r first (adds_ok a b new (y ∷ []) rest r second third)

module _ (before : List InFlight) (this : InFlight) (flights : List CountedFlight) (flight : CountedFlight)
    (is : flights ≡ map kept before) (is_this : flight ≡ kept this) where
  pub count_master : length (filter (λ (other : CountedFlight). other.master == flight.master) flights)
      ≡ length (filter (is_of_master this.master) before)
  count_master =
      (λ i. length (filter (λ (other : CountedFlight). other.master == (is_this i).master) (is i)))
      ∙ filter_count (λ (other : CountedFlight). other.master == this.master) before

  pub count_port : length (filter (λ (other : CountedFlight). other.port == flight.port) flights)
      ≡ length (filter (is_of_port this.port) before)
  count_port =
      (λ i. length (filter (λ (other : CountedFlight). other.port == (is_this i).port) (is i)))
      ∙ filter_count (λ (other : CountedFlight). other.port == this.port) before

  pub begin_is : (m p s : ℕ) (rules : LinkRules) (time : ℕ) (answered : Option ℕ)
      → m ≡ with_one (filter (is_of_master this.master) before) → p ≡ with_one (filter (is_of_port this.port) before)
      → s ≡ told_source flight.source
      → (bin.InFlight flight.master m ∷ bin.AtPort flight.port p ∷ bin.Source flight.master s
      ∷ again rules this time answered) ≡ begin_bins rules before this time answered
  begin_is m p s rules time answered is_m is_p is_s =
      λ i. bin.InFlight (is_this i).master (is_m i) ∷ bin.AtPort (is_this i).port (is_p i)
      ∷ bin.Source (is_this i).master ((is_s ∙ ap (λ (f : CountedFlight). told_source f.source) is_this) i)
      ∷ again rules this time answered

  pub contested_is : (plan : Plan) (mirrors : MirrorsView) (b : Bool) → mirrors ≡ mirrors_at plan this.port
      → b ≡ list_any (contests mirrors this) before
      → (if b then bin.Contested flight.port ∷ [] else []) ≡ contested_bins plan before this
  contested_is plan mirrors b seen tells =
      (λ i. if tells i then bin.Contested (is_this i).port ∷ [] else [])
      ∙ ap (λ m. if list_any (contests m this) before then bin.Contested this.port ∷ [] else []) seen

  -- an older one of the same master overtaken
  pub overtook_is : (elsewhere b : Bool)
      → b ≡ list_any (λ (other : CountedFlight). other.master == flight.master && beq (not (other.port == flight.port)) elsewhere)
      (take_while (λ (other : CountedFlight). not (other.wide == flight.wide)) flights)
      → (if b then bin.Overtook (bin_pair this) elsewhere ∷ [] else []) ≡ overtook_at elsewhere before this
  overtook_is elsewhere b tells =
      ap (λ t. if t then bin.Overtook (bin_pair this) elsewhere ∷ [] else [])
      (tells
      ∙ (λ i. list_any (λ (other : CountedFlight). other.master == (is_this i).master
      && beq (not (other.port == (is_this i).port)) elsewhere)
      (take_while (λ (other : CountedFlight). not (other.wide == (is_this i).wide)) (is i)))
      ∙ ap (list_any (λ (other : CountedFlight). other.master == this.master && beq (not (other.port == this.port)) elsewhere))
      (take_while_kept (λ (other : CountedFlight). not (other.wide == this.wide)) before)
      ∙ any_kept (λ (other : CountedFlight). other.master == this.master && beq (not (other.port == this.port)) elsewhere)
      (older this before))

-- ---- what was found

some_kept : (found : Option InFlight) → is_some (option_map kept found) ≡ is_some found
some_kept None = refl
some_kept (Some flight) = refl

pub record IsFound (found : Option InFlight) (flight : CountedFlight) : Type 0 where
  pub this : InFlight
  pub is : found ≡ Some this
  pub kept_is : flight ≡ kept this

pub found_some : (found : Option InFlight) (flight : CountedFlight) → Some flight ≡ option_map kept found → IsFound found flight
found_some None flight is = absurd (none-some flight (sym is))
found_some (Some this) flight is = record { this = this; is = refl; kept_is = same_Some flight (kept this) is }

pub found_none : (found : Option InFlight) → None ≡ option_map kept found → found ≡ None
found_none None is = refl
found_none (Some this) is = absurd (none-some (kept this) is)

module _ (wide : ℕ) (before : List InFlight) (flights : List CountedFlight) (is : flights ≡ map kept before) where
  pub found_is : find (λ (flight : CountedFlight). flight.wide == wide) flights ≡ option_map kept (find (is_of wide) before)
  found_is =
      (λ i. find (λ (flight : CountedFlight). flight.wide == wide) (is i))
      ∙ find_kept (λ (flight : CountedFlight). flight.wide == wide) before

  pub any_is : (found : Option CountedFlight) → found ≡ find (λ (flight : CountedFlight). flight.wide == wide) flights
      → list_any (is_of wide) before ≡ is_some found
  any_is found of =
      sym (found_any (is_of wide) before) ∙ sym (some_kept (find (is_of wide) before))
      ∙ ap is_some (sym (of ∙ found_is))
