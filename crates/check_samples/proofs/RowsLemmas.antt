-- Rows, and then others.
use Rattle.std.proofs.Common.{◌≡◌, ℕ, List, ◌++◌, Option, None, Some, sym, ap, ◌∙◌, append_assoc}
use Rattle.check_samples.specs.Rows.{Rows, and_then}
use Rattle.check_samples.specs.declared.channel.UnknownBit.{UnknownBit}

-- all of the first are rows
pub rows-on : (start old new all : List ℕ) (one rest : Rows) (fault : Option UnknownBit)
    → new ≡ old ++ one.text → one.fault ≡ None → old ++ (and_then one rest).text ≡ start ++ all
    → (and_then one rest).fault ≡ fault → (new ++ rest.text ≡ start ++ all) × (rest.fault ≡ fault)
rows-on start old new all one rest fault written none text faults =
    let texts : old ++ (one.text ++ rest.text) ≡ start ++ all = rw none at text in
    let last : rest.fault ≡ fault = rw none at faults in
    (ap (λ (t : List ℕ). t ++ rest.text) written ∙ append_assoc old one.text rest.text ∙ texts, last)

-- one of the first is none
pub rows-end : (start old new all : List ℕ) (one rest : Rows) (fault : Option UnknownBit) (unknown : UnknownBit)
    → new ≡ old ++ one.text → one.fault ≡ Some unknown → old ++ (and_then one rest).text ≡ start ++ all
    → (and_then one rest).fault ≡ fault → (new ≡ start ++ all) × (fault ≡ Some unknown)
rows-end start old new all one rest fault unknown written some text faults =
    let texts : old ++ one.text ≡ start ++ all = rw some at text in
    let last : Some unknown ≡ fault = rw some at faults in
    (written ∙ texts, sym last)
