-- A word of a dump, and then the others.
use Rattle.std.proofs.Common.{◌≡◌, ℕ, List, [], ◌∷◌, Option, Some, None, Result, Err, inl, inr, ap, ap₂, ◌∙◌}
use Rattle.std.specs.Option.{IfSome, option_map}
use Rattle.check_vcd.specs.Body as body
use Rattle.check_vcd.specs.Body.{Body, Find, Happens, followed, happenings}
use Rattle.check_vcd.specs.Header.{Header, Opening, words_behind, blank, opening}
use Rattle.check_vcd.specs.Header as header
use Rattle.check_vcd.specs.Dump.{Dumping, Happened, IsNoDump, IsMistakeAt, IsWrongHeader}
use Rattle.check_vcd.specs.Codes.{find_in}
use Rattle.check_vcd.specs.Fault.{on_line}
use Rattle.check_vcd.specs.declared.body.Event.{Event}
use Rattle.check_vcd.specs.Words.{Both, HasWordsOf, Word}
use Rattle.check_vcd.specs.declared.body.Body as code_body
use Rattle.check_vcd.specs.declared.fault.DumpFault.{DumpFault}
use Rattle.check_vcd.specs.declared.fault.DumpFault.TheVariants as dump
use Rattle.check_vcd.specs.declared.fault.Mistake.{Mistake}
use Rattle.check_vcd.specs.declared.fault.Mistake.TheVariants.{CutInHeader}
use Rattle.check_vcd.specs.declared.fault.WordFault.{WordFault}
use Rattle.check_vcd.specs.declared.fault.WordFault.TheVariants as wrong
use Rattle.check_vcd.specs.declared.header.Header as code_header
use Rattle.check_vcd.proofs.LeftLemmas.{both-trans}

opening-word : (word : Word) (words : List Word) (h : Header) (does : header.Step)
    → header.step_of h word.bytes ≡ does
    → opening (word ∷ words) h ≡ words_behind does word words (opening words)
unfolding opening
opening-word word words h does is = ap (λ (step : header.Step). words_behind step word words (opening words)) is

-- the header, after one word more
pub opens-on : (start old new : Option (List Word)) (word : Word) (h : Header) (does : header.Step)
    → Both start old (λ from to. opening from blank ≡ opening to h) → Both old new (λ from to. from ≡ word ∷ to)
    → header.step_of h word.bytes ≡ does
    → Both start new (λ from to. opening from blank ≡ words_behind does word to (opening to))
opens-on start old new word h does so_far reads is =
    both-trans start old new (λ from to. opening from blank ≡ opening to h) (λ from to. from ≡ word ∷ to)
    (λ from to. opening from blank ≡ words_behind does word to (opening to))
    (λ x y z one two. one ∙ ap (λ (ws : List Word). opening ws h) two ∙ opening-word word z h does is)
    so_far reads

-- no word is left, and the header has not ended
pub opens-none : (start old new : Option (List Word)) (h : Header)
    → Both start old (λ from to. opening from blank ≡ opening to h) → Both old new (λ from to. (from ≡ []) × (to ≡ []))
    → Both start new (λ from to. opening from blank ≡ header.Cut)
unfolding opening
opens-none start old new h so_far none =
    both-trans start old new (λ from to. opening from blank ≡ opening to h) (λ from to. (from ≡ []) × (to ≡ []))
    (λ from to. opening from blank ≡ header.Cut)
    (λ x y z one two. one ∙ ap (λ (ws : List Word). opening ws h) two.0) so_far none

-- what is so of the words at the start alone
pub at-start : (start new : Option (List Word)) (P : List Word → Type 0) → Both start new (λ from to. P from)
    → IfSome start P
at-start None new P both = tt
at-start (Some x) None P both = absurd both
at-start (Some x) (Some y) P both = both

both-map : {A : Type 0} (a b : Option A) (P Q : A → A → Type 0) → ((x y : A) → P x y → Q x y) → Both a b P → Both a b Q
both-map None b P Q f both = tt
both-map (Some x) None P Q f both = absurd both
both-map (Some x) (Some y) P Q f both = f x y both

some-happen : (find : Find) (start : Option (List Word)) (b : Body) (h : List Happens)
    → IfSome start (λ words. happenings find words b ≡ h)
    → IfSome (option_map (λ words. happenings find words b) start) (λ happens. happens ≡ h)
some-happen find None b h some = tt
some-happen find (Some x) b h some = some

happenings-word : (find : Find) (word : Word) (words : List Word) (b : Body) (does : body.Step)
    → body.step_of find b word.line word.size word.bytes ≡ does
    → happenings find (word ∷ words) b ≡ followed does word.line (happenings find words)
unfolding happenings
happenings-word find word words b does is =
    ap (λ (step : body.Step). followed step word.line (happenings find words)) is

-- what happens, after one word more
pub happens-on : (find : Find) (start old new : Option (List Word)) (word : Word) (first b : Body) (does : body.Step)
    → Both start old (λ from to. happenings find from first ≡ happenings find to b)
    → Both old new (λ from to. from ≡ word ∷ to) → body.step_of find b word.line word.size word.bytes ≡ does
    → Both start new (λ from to. happenings find from first ≡ followed does word.line (happenings find to))
happens-on find start old new word first b does so_far reads is =
    both-trans start old new (λ from to. happenings find from first ≡ happenings find to b)
    (λ from to. from ≡ word ∷ to)
    (λ from to. happenings find from first ≡ followed does word.line (happenings find to))
    (λ x y z one two. one ∙ ap (λ (ws : List Word). happenings find ws b) two ∙ happenings-word find word z b does is)
    so_far reads

-- nothing is left to happen
pub happens-none : (find : Find) (start old new : Option (List Word)) (first b : Body)
    → Both start old (λ from to. happenings find from first ≡ happenings find to b)
    → Both old new (λ from to. (from ≡ []) × (to ≡ []))
    → Both start new (λ from to. (happenings find from first ≡ []) × (happenings find to b ≡ []))
unfolding happenings
happens-none find start old new first b so_far none =
    both-trans start old new (λ from to. happenings find from first ≡ happenings find to b)
    (λ from to. (from ≡ []) × (to ≡ []))
    (λ from to. (happenings find from first ≡ []) × (happenings find to b ≡ []))
    (λ x y z one two. (
      one ∙ ap (λ (ws : List Word). happenings find ws b) two.0,
      ap (λ (ws : List Word). happenings find ws b) two.1,
    )) so_far none

-- the same, of what is left to happen
pub both-happen : (f g : List Word → List Happens) (old new : Option (List Word))
    (P : List Happens → List Happens → Type 0)
    → Both old new (λ from to. P (f from) (g to))
    → Both (option_map f old) (option_map g new) P
both-happen f g None new P both = tt
both-happen f g (Some x) None P both = absurd both
both-happen f g (Some x) (Some y) P both = both

-- ---- a word that is wrong

pub refused-by : (start old new : Option (List Word)) (word : Word) (h : Header) (fault : WordFault)
    (next : code_header.Header) (line : ℕ) (mistake : Mistake)
    → Both start old (λ from to. opening from blank ≡ opening to h) → Both old new (λ from to. from ≡ word ∷ to)
    → header.Leads (Err fault) (header.step_of h word.bytes) next → on_line word.line fault ≡ dump.At line mistake
    → IsMistakeAt start line mistake
refused-by start old new word h (wrong.Wrong m) next line mistake so_far reads does is =
    let lines : word.line ≡ line = cc in
    let mistakes : m ≡ mistake = cc in
    at-start start new (λ words. IsWrongHeader words line mistake)
    (both-map start new
    (λ from to. opening from blank ≡ header.Refused word.line m)
    (λ from to. IsWrongHeader from line mistake)
    (λ x y one. inl (one ∙ ap₂ (λ (l : ℕ) (k : Mistake). header.Refused l k) lines mistakes))
    (opens-on start old new word h (header.Fails m) so_far reads does))
refused-by start old new word h wrong.Memory next line mistake so_far reads does is = absurd (cc)

pub cut-by : (start old new : Option (List Word)) (h : Header) (line : ℕ) (mistake : Mistake)
    → Both start old (λ from to. opening from blank ≡ opening to h) → Both old new (λ from to. (from ≡ []) × (to ≡ []))
    → mistake ≡ CutInHeader → IsMistakeAt start line mistake
cut-by start old new h line mistake so_far none is =
    at-start start new (λ words. IsWrongHeader words line mistake)
    (both-map start new (λ from to. opening from blank ≡ header.Cut) (λ from to. IsWrongHeader from line mistake)
    (λ x y one. inr (one, is)) (opens-none start old new h so_far none))

pub wrong-by : (find : Find) (start old new : Option (List Word)) (word : Word) (first b : Body) (fault : WordFault)
    (next : code_body.Body) (line : ℕ) (mistake : Mistake)
    → Both start old (λ from to. happenings find from first ≡ happenings find to b)
    → Both old new (λ from to. from ≡ word ∷ to)
    → body.Tells (Err fault) (body.step_of find b word.line word.size word.bytes) next
    → on_line word.line fault ≡ dump.At line mistake
    → IfSome (option_map (λ words. happenings find words first) start)
    (λ happens. happens ≡ body.Wrong line mistake ∷ [])
wrong-by find start old new word first b (wrong.Wrong m) next line mistake so_far reads does is =
    let lines : word.line ≡ line = cc in
    let mistakes : m ≡ mistake = cc in
    some-happen find start first (body.Wrong line mistake ∷ []) (at-start start new
    (λ words. happenings find words first ≡ body.Wrong line mistake ∷ [])
    (both-map start new (λ from to. happenings find from first ≡ body.Wrong word.line m ∷ [])
    (λ from to. happenings find from first ≡ body.Wrong line mistake ∷ [])
    (λ x y one. one ∙ ap₂ (λ (l : ℕ) (k : Mistake). let h : List Happens = body.Wrong l k ∷ [] in h) lines mistakes)
    (happens-on find start old new word first b (body.Fails m) so_far reads does)))
wrong-by find start old new word first b wrong.Memory next line mistake so_far reads does is = absurd (cc)

-- the faults of two results that are the same
pub same-faults : {T : Type 0} (r s : DumpFault) → ◌≡◌ {A = Result T DumpFault} (Err r) (Err s) → r ≡ s
same-faults r s is = cc

-- the words of a reader are those that are left
pub no-dump : (text : Option (List ℕ)) (left : Option (List Word)) (line : ℕ) (mistake : Mistake)
    → HasWordsOf text left → IsMistakeAt left line mistake → IsNoDump text line mistake
no-dump None left line mistake has is = tt
no-dump (Some text) left line mistake has is = rw has at is

-- ---- what a call answers

pub happened-none : (old new : Dumping) (mid : Option (List Word)) → new.codes ≡ old.codes
    → Both old.words mid
    (λ from to. happenings (find_in old.codes) from old.body ≡ happenings (find_in old.codes) to new.body)
    → Both mid new.words (λ from to. (from ≡ []) × (to ≡ [])) → Happened old new None
happened-none old new mid codes so_far none =
    rw codes (both-happen (λ words. happenings (find_in old.codes) words old.body)
    (λ words. happenings (find_in old.codes) words new.body) old.words new.words (λ x y. (x ≡ []) × (y ≡ []))
    (happens-none (find_in old.codes) old.words mid new.words old.body new.body so_far none))

pub happened-some : (old new : Dumping) (mid : Option (List Word)) (word : Word) (b : Body) (event : Event)
    → new.codes ≡ old.codes
    → Both old.words mid
    (λ from to. happenings (find_in old.codes) from old.body ≡ happenings (find_in old.codes) to b)
    → Both mid new.words (λ from to. from ≡ word ∷ to)
    → body.step_of (find_in old.codes) b word.line word.size word.bytes ≡ body.told (Some event) new.body
    → Happened old new (Some event)
happened-some old new mid word b event codes so_far reads does =
    rw codes (both-happen (λ words. happenings (find_in old.codes) words old.body)
    (λ words. happenings (find_in old.codes) words new.body) old.words new.words
    (λ x y. x ≡ body.happens_of event new.body.value ∷ y)
    (happens-on (find_in old.codes) old.words mid new.words word old.body b
    (body.told (Some event) new.body) so_far reads does))
