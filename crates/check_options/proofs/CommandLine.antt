-- The command line, whose two lists of words may lie anywhere: what holds of it wherever they lie.
use Rattle.std.proofs.Common.{◌≡◌, true, ℕ, zero, suc, List, [], ◌∷◌, refl, sym, subst, ap, ap₂, map}
use Rattle.std.specs.Borrow.{Bor}
use Rattle.clap.specs.Words.{App, Text, fault_of, is_simple, is_simple_and_free}
use Rattle.clap.specs.declared.error.ErrorKind.{ErrorKind}
use Rattle.tl_cli.specs.Rules.{Refuses}
use Rattle.check_options.specs.Options.{AreRefusedAs, AskFor, AskedOptions, Asks, IsCommandLine, WordSlice, asked_in, links_words, order_words, texts_of, with_rules}

-- a word that lies at a place
abbrev pub at : ℕ × ℕ → Text → Bor Text
at place word = record { ref_ptr = place; now = word }

abbrev pub list_at : ℕ × ℕ → List (Bor Text) → WordSlice
list_at place words = record { ref_ptr = place; now = words }

-- words that lie at the places that a function gives them
abbrev pub words_at : (ℕ → ℕ × ℕ) → List Text → List (Bor Text)
words_at places [] = []
words_at places (word ∷ words) = at (places 0) word ∷ words_at (λ n. places (suc n)) words

-- the lists of the program, at any places
abbrev pub links_at : ℕ × ℕ → (ℕ → ℕ × ℕ) → WordSlice
links_at place places = list_at place (words_at places links_words)

abbrev pub orders_at : ℕ × ℕ → (ℕ → ℕ × ℕ) → WordSlice
orders_at place places = list_at place (words_at places order_words)

-- where each of some words lies
abbrev places_of : List (Bor Text) → ℕ → ℕ × ℕ
places_of [] n = (0, 0)
places_of (word ∷ words) zero = word.ref_ptr
places_of (word ∷ words) (suc n) = places_of words n

-- words are those that lie where they do
lie_there : (words : List (Bor Text)) (texts : List Text) → map (λ (word : Bor Text). word.now) words ≡ texts
    → words_at (places_of words) texts ≡ words
lie_there [] [] e = refl
lie_there [] (text ∷ texts) e = cc
lie_there (word ∷ words) [] e = cc
lie_there (word ∷ words) (text ∷ texts) e =
    let here : word.now ≡ text = cc in
    let first : at word.ref_ptr text ≡ word = ap (at word.ref_ptr) (sym here) in
    let rest : words_at (places_of words) texts ≡ words = lie_there words texts cc in
    ap₂ (λ (w : Bor Text) (ws : List (Bor Text)). w ∷ ws) first rest

list_lies : (names : WordSlice) (texts : List Text) → texts_of names ≡ texts
    → list_at names.ref_ptr (words_at (places_of names.now) texts) ≡ names
list_lies names texts listed = ap (list_at names.ref_ptr) (lie_there names.now texts listed)

-- what holds at all places holds of the command line
pub wherever : (P : App → Type 0)
    → ((l : ℕ × ℕ) (f : ℕ → ℕ × ℕ) (o : ℕ × ℕ) (g : ℕ → ℕ × ℕ) → P (with_rules (links_at l f) (orders_at o g)))
    → (app : App) → IsCommandLine app → P app
wherever P holds app line =
    subst P (sym line.is)
    (subst (λ (links : WordSlice). P (with_rules links line.orders))
    (list_lies line.links links_words line.links_listed)
    (subst (λ (orders : WordSlice). P (with_rules (links_at line.links.ref_ptr (places_of line.links.now)) orders))
    (list_lies line.orders order_words line.orders_listed)
    (holds line.links.ref_ptr (places_of line.links.now) line.orders.ref_ptr (places_of line.orders.now))))

-- what words ask for, and what they are refused as, if clap's rules say so at all places; both are computed
pub asks : (asked : AskedOptions) (words : List Text)
    → ((l : ℕ × ℕ) (f : ℕ → ℕ × ℕ) (o : ℕ × ℕ) (g : ℕ → ℕ × ℕ) → fault_of (with_rules (links_at l f) (orders_at o g)) words ≡ [])
    → ((l : ℕ × ℕ) (f : ℕ → ℕ × ℕ) (o : ℕ × ℕ) (g : ℕ → ℕ × ℕ) → asked_in (with_rules (links_at l f) (orders_at o g)) words ≡ asked)
    → AskFor asked words
asks asked words taken read =
    wherever (Asks asked words) (λ l f o g. (taken l f o g, read l f o g))

pub refuses : (kind : ErrorKind) (words : List Text)
    → ((l : ℕ × ℕ) (f : ℕ → ℕ × ℕ) (o : ℕ × ℕ) (g : ℕ → ℕ × ℕ) → fault_of (with_rules (links_at l f) (orders_at o g)) words ≡ kind ∷ [])
    → AreRefusedAs kind words
refuses kind words is = wherever (Refuses kind words) is

-- it is one whose matches and faults clap tells
pub is_simple_line : (app : App) → IsCommandLine app → is_simple app ≡ true
is_simple_line = wherever (λ (app : App). is_simple app ≡ true) (λ l f o g. refl)

pub is_free_line : (app : App) → IsCommandLine app → is_simple_and_free app ≡ true
is_free_line = wherever (λ (app : App). is_simple_and_free app ≡ true) (λ l f o g. refl)

-- there is one
pub some_line : IsCommandLine (with_rules (links_at (0, 0) (λ n. (0, 0))) (orders_at (0, 0) (λ n. (0, 0))))
some_line = record { links = _; orders = _; links_listed = refl; orders_listed = refl; is = refl }
