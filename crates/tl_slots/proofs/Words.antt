-- The words of phases: what each part of a word says, and that no two phases have one word.
use Rattle.std.proofs.Common.{◌≡◌, ℕ, ◌+◌, ◌*◌, ◌/◌, ◌%◌, ◌<◌, unwrap_or, refl, sym, ap, ◌∙◌, arith}
use Rattle.tl_slots.specs.declared.phase.Phase.{Phase}
use Rattle.tl_slots.specs.declared.phase.Phase.TheVariants.{Free, Filling, Posted, Serving, Answered, Taking}
use Rattle.tl_slots.specs.Phase.{phase_number, owner_of, port_named}
use Rattle.tl_slots.specs.Word.{FitsWord, word, IsWordOf}

-- the master and the port that a word has for a phase, 0 where the phase has none
abbrev pub master_in : Phase → ℕ
master_in phase = unwrap_or (owner_of phase) 0

abbrev pub port_in : Phase → ℕ
port_in phase = unwrap_or (port_named phase) 0

-- ---- numbers

low_part : (n m p : ℕ) → n < 8 → (n + 8 * m + 2048 * p) % 8 ≡ n
low_part n m p small = omega (arith, small)

middle_part : (n m p : ℕ) → n < 8 → m < 256 → (n + 8 * m + 2048 * p) / 8 % 256 ≡ m
middle_part n m p small fits = omega (arith, small, fits)

high_part : (n m p : ℕ) → n < 8 → m < 256 → (n + 8 * m + 2048 * p) / 2048 ≡ p
high_part n m p small fits = omega (arith, small, fits)

-- ---- phases

number_is_small : (phase : Phase) → phase_number phase < 8
number_is_small Free = omega arith
number_is_small (Filling m) = omega arith
number_is_small (Posted m p) = omega arith
number_is_small (Serving m p) = omega arith
number_is_small (Answered m p) = omega arith
number_is_small (Taking m p) = omega arith

master_is_small : (phase : Phase) → FitsWord phase → master_in phase < 256
master_is_small Free fits = omega arith
master_is_small (Filling m) fits = omega (arith, fits.owner)
master_is_small (Posted m p) fits = omega (arith, fits.owner)
master_is_small (Serving m p) fits = omega (arith, fits.owner)
master_is_small (Answered m p) fits = omega (arith, fits.owner)
master_is_small (Taking m p) fits = omega (arith, fits.owner)

port_is_small : (phase : Phase) → FitsWord phase → port_in phase < 256
port_is_small Free fits = omega arith
port_is_small (Filling m) fits = omega arith
port_is_small (Posted m p) fits = omega (arith, fits.port)
port_is_small (Serving m p) fits = omega (arith, fits.port)
port_is_small (Answered m p) fits = omega (arith, fits.port)
port_is_small (Taking m p) fits = omega (arith, fits.port)

-- the parts of a word
pub word-number : (phase : Phase) → FitsWord phase → word phase % 8 ≡ phase_number phase
word-number phase fits = low_part (phase_number phase) (master_in phase) (port_in phase) (number_is_small phase)

pub word-master : (phase : Phase) → FitsWord phase → word phase / 8 % 256 ≡ master_in phase
word-master phase fits =
    middle_part (phase_number phase) (master_in phase) (port_in phase) (number_is_small phase)
    (master_is_small phase fits)

pub word-port : (phase : Phase) → FitsWord phase → word phase / 2048 ≡ port_in phase
word-port phase fits =
    high_part (phase_number phase) (master_in phase) (port_in phase) (number_is_small phase)
    (master_is_small phase fits)

pub word_below : (phase : Phase) → FitsWord phase → word phase < 524288
word_below phase fits =
    let number = number_is_small phase in
    let master = master_is_small phase fits in
    let port = port_is_small phase fits in
    omega (arith, number, master, port)

-- phases with one number, one master and one port
same_parts : (a b : Phase) → phase_number a ≡ phase_number b → master_in a ≡ master_in b → port_in a ≡ port_in b → a ≡ b
same_parts Free Free number master port = refl
same_parts (Filling m) (Filling n) number master port = ap Filling master
same_parts (Posted m p) (Posted n q) number master port = cc
same_parts (Serving m p) (Serving n q) number master port = cc
same_parts (Answered m p) (Answered n q) number master port = cc
same_parts (Taking m p) (Taking n q) number master port = cc
same_parts a b number master port = absurd (omega (arith, number))

-- no two phases have one word
pub word-injective : (a b : Phase) → FitsWord a → FitsWord b → word a ≡ word b → a ≡ b
word-injective a b fits_a fits_b same =
    same_parts a b
    (sym (word-number a fits_a) ∙ ap (λ (w : ℕ). w % 8) same ∙ word-number b fits_b)
    (sym (word-master a fits_a) ∙ ap (λ (w : ℕ). w / 8 % 256) same ∙ word-master b fits_b)
    (sym (word-port a fits_a) ∙ ap (λ (w : ℕ). w / 2048) same ∙ word-port b fits_b)

-- a word is that of one phase at most
pub one_phase : (a b : Phase) (w : ℕ) → IsWordOf a w → IsWordOf b w → a ≡ b
one_phase a b w of_a of_b = word-injective a b of_a.fits of_b.fits (sym of_a.is ∙ of_b.is)
