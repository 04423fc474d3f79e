-- What the names of links find.
use Rattle.std.proofs.Common.{◌≡◌, ◌≢◌, ◌∙◌, ℕ, ◌+◌, ◌<◌, Bool, List, [], ◌∷◌, ◌++◌, length, Option, None, Some, Result, Ok, Err, IsErrAnd, ap, append-nil, append_assoc, arith, refl, subst, sym}
use Rattle.tl_text.specs.Reading.{◌>>=◌, each, with_front}
use Rattle.check_beats.specs.Bus.{bus_bytes}
use Rattle.check_beats.specs.declared.bus.Bus.{Bus}
use Rattle.check_vcd.specs.Header.{Var}
use Rattle.check_samples.specs.declared.signal.Signal.{Signal}
use Rattle.check_signals.specs.Found.{LinkSources, NamesOf, signals_named, link_at, link_sources, links_from, named_before, named_sources, names_at, numbered}
use Rattle.check_signals.specs.Names.{LinkNames, SignalName}
use Rattle.check_signals.specs.Source.{SearchFault, Finds, Source, fault_view}
use Rattle.check_signals.specs.declared.signal_fault.SignalOwner.{SignalOwner}
use Rattle.check_signals.specs.declared.signal_fault.SignalFault.{SignalFault}
use Rattle.check_signals.specs.declared.signal_fault.SignalFault.TheVariants.{Memory}

-- no names are left
pub names-end : (vars : List Var) (owner : SignalOwner) (bus : ℕ) (signals : List Signal) (rest : List SignalName)
    (front : List (List Source)) (all : Result (List (List Source)) SearchFault) → length rest < 1
    → with_front front (signals_named vars owner bus signals rest) ≡ all → all ≡ Ok front
names-end vars owner bus [] rest front all few is = sym is ∙ ap Ok (append-nil front)
names-end vars owner bus (signal ∷ signals) [] front all few is = sym is ∙ ap Ok (append-nil front)
names-end vars owner bus (signal ∷ signals) (name ∷ rest) front all few is = absurd (omega (arith, few))

-- ---- one link after the other

-- a fault that is handed on
pub finds-fault : {X Y : Type 0} (view : X → Y) (result : Result X SignalFault) (fault : SignalFault)
    (found : Result Y SearchFault) → IsErrAnd result (λ e. e ≡ fault) → (fault ≢ Memory → found ≡ Err (fault_view fault))
    → Finds view result found
finds-fault view (Ok x) fault found is first = absurd is
finds-fault view (Err e) fault found is first = subst (λ f. f ≢ Memory → found ≡ Err (fault_view f)) (sym is) first

module _ (vars : List Var) (is_port : Bool) (names : NamesOf) (n : ℕ) (bus : Bus) (here rest : List Bus)
    (is : here ≡ bus ∷ rest) (front : List LinkSources) (all : Result (List LinkSources) SearchFault) where
  others : Result (List LinkSources) SearchFault
  others = each (link_sources vars) (numbered is_port names (n + 1) rest)

  -- what all links find, by the names of the first of them
  by-names : (own : Option LinkNames) → names_at names n ≡ own
      → with_front front (links_from vars is_port names n here) ≡ all
      → with_front front (each (link_sources vars)
      (named_before is_port n bus own (numbered is_port names (n + 1) rest))) ≡ all
  unfolding links_from
  by-names own has so_far =
      sym (ap (λ (buses : List Bus). with_front front (each (link_sources vars) (numbered is_port names n buses))) is
      ∙ ap (λ (own : Option LinkNames). with_front front (each (link_sources vars)
      (named_before is_port n bus own (numbered is_port names (n + 1) rest)))) has) ∙ so_far

  -- and by what these find
  by-sources : (own : LinkNames) (found : Result LinkSources SearchFault) → names_at names n ≡ Some own
      → named_sources vars (link_at is_port n) (bus_bytes bus) own ≡ found
      → with_front front (links_from vars is_port names n here) ≡ all
      → with_front front (found >>= (λ one. others >>= (λ more. Ok (one ∷ more)))) ≡ all
  unfolding others
  by-sources own found has finds so_far =
      sym (ap (λ (found : Result LinkSources SearchFault). with_front front
      (found >>= (λ one. others >>= (λ more. Ok (one ∷ more))))) finds) ∙ by-names (Some own) has so_far

  pub link-fails : (own : LinkNames) (fault : SearchFault) → names_at names n ≡ Some own
      → named_sources vars (link_at is_port n) (bus_bytes bus) own ≡ Err fault
      → with_front front (links_from vars is_port names n here) ≡ all → all ≡ Err fault
  link-fails own fault has finds so_far = sym (by-sources own (Err fault) has finds so_far)

  pub link-without : names_at names n ≡ None → with_front front (links_from vars is_port names n here) ≡ all
      → with_front front (links_from vars is_port names (n + 1) rest) ≡ all
  unfolding links_from
  link-without has so_far = by-names None has so_far

  pub link-found : (own : LinkNames) (one : LinkSources) → names_at names n ≡ Some own
      → named_sources vars (link_at is_port n) (bus_bytes bus) own ≡ Ok one
      → with_front front (links_from vars is_port names n here) ≡ all
      → with_front (front ++ (one ∷ [])) (links_from vars is_port names (n + 1) rest) ≡ all
  unfolding links_from others
  link-found own one has finds so_far = sym (go others) ∙ by-sources own (Ok one) has finds so_far
    where
      go : (more : Result (List LinkSources) SearchFault)
          → with_front front (more >>= (λ more. Ok (one ∷ more))) ≡ with_front (front ++ (one ∷ [])) more
      go (Err fault) = refl
      go (Ok more) = ap Ok (sym (append_assoc front (one ∷ []) more))
