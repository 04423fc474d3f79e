-- Spoiled bytes: nothing is known of them.
use Rattle.std.proofs.Common.{◌≡◌, ◌∙◌, ⊎_elim, ℕ, ◌+◌, ◌-◌, ◌<◌, Bool, true, false, List, ◌++◌, length, get_or, slice_get, replicate, Option, Some, None, ap, sym, refl, arith}
use Rattle.std.specs.Prelude.{◌&&◌, not}
use Rattle.std.proofs.lemmas.Bool.{cases_lt}
use Rattle.std.proofs.lemmas.List.{length-append, length-replicate, get_or-replicate, get_or_append_left, get_or-append_right}
use Rattle.std.proofs.lemmas.Option.{slice_get_within, slice_get-get_or, get_or_from_slice_get}
use Rattle.check_beats.specs.Message.{given_at, is_spoiled, seen_by, seen_cells}
use Rattle.check_beats.specs.declared.beat.ReplyHead.{ReplyHead}
use Rattle.check_beats.proofs.Given.{length-given_at}

-- nothing is known of a byte that is marked
abbrev pub Nothing : List Bool → List (Option ℕ) → Type 0
Nothing spoiled bytes = (place : ℕ) → slice_get spoiled place ≡ Some true → slice_get bytes place ≡ Some None

-- where no byte is marked
none_spoiled : (n : ℕ) (bytes : List (Option ℕ)) → Nothing (replicate n false) bytes
none_spoiled n bytes place at =
    let within : place < n = omega (arith, slice_get_within (replicate n false) place true at, length-replicate n false) in
    absurd (differ (sym (get_or-replicate n place false true within) ∙ get_or_from_slice_get (replicate n false) place true true at))
  where
    differ : false ≡ true → ⊥
    differ is = cc

seen_nothing : (denied corrupt : Bool) (bytes : List (Option ℕ))
    → Nothing (replicate (length bytes) (corrupt && not denied)) (seen_by denied corrupt bytes)
seen_nothing true true bytes = none_spoiled (length bytes) (seen_by true true bytes)
seen_nothing true false bytes = none_spoiled (length bytes) (seen_by true false bytes)
seen_nothing false false bytes = none_spoiled (length bytes) bytes
seen_nothing false true bytes = λ place at.
    let n = length bytes in
    let within : place < n = omega (arith, slice_get_within (replicate n true) place true at, length-replicate n true) in
    slice_get-get_or (replicate n None) place None (omega (arith, within, length-replicate {A = Option ℕ} n None))
    ∙ ap (λ (b : Option ℕ). Some b) (get_or-replicate n place None None within)

-- what a beat carries
pub nothing_seen : (beat : ReplyHead) (known : ℕ) (lanes : List ℕ) (first count : ℕ)
    → Nothing (replicate count (is_spoiled beat)) (seen_cells beat known lanes first count)
nothing_seen beat known lanes first count =
    let given = given_at known lanes first count in
    rw (length-given_at known lanes first count) at (seen_nothing beat.denied beat.corrupt given)

-- bytes and their marks, and more of them
pub nothing_more : (spoiled marks : List Bool) (bytes more : List (Option ℕ)) → length spoiled ≡ length bytes
    → length marks ≡ length more → Nothing spoiled bytes → Nothing marks more → Nothing (spoiled ++ marks) (bytes ++ more)
nothing_more spoiled marks bytes more even even' before after place at =
    let n = length bytes in
    let whole : place < n + length more =
    omega (arith, slice_get_within (spoiled ++ marks) place true at, length-append spoiled marks, even, even') in
    let set : get_or (spoiled ++ marks) place false ≡ true = get_or_from_slice_get (spoiled ++ marks) place true false at in
    slice_get-get_or (bytes ++ more) place None (omega (arith, whole, length-append bytes more))
    ∙ ap (λ (b : Option ℕ). Some b) (⊎_elim
    (λ below.
    let mark : get_or spoiled place false ≡ true =
    sym (get_or_append_left spoiled marks false place (omega (arith, below, even))) ∙ set in
    get_or_append_left bytes more None place below
    ∙ get_or_from_slice_get bytes place None None (before place
    (slice_get-get_or spoiled place false (omega (arith, below, even)) ∙ ap (λ (b : Bool). Some b) mark)))
    (λ past.
    let mark : get_or marks (place - n) false ≡ true =
    sym (get_or-append_right spoiled marks n place false even past) ∙ set in
    let few : place - n < length more = omega (arith, past, whole) in
    get_or-append_right bytes more n place None refl past
    ∙ get_or_from_slice_get more (place - n) None None (after (place - n)
    (slice_get-get_or marks (place - n) false (omega (arith, few, even')) ∙ ap (λ (b : Bool). Some b) mark)))
    (cases_lt place n))
