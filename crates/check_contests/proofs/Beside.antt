-- What is due beside others depends on what a memory supports and where it answers, and not on its bytes.
use Rattle.std.proofs.Common.{◌≡◌, ◌∙◌, ℕ, Bool, true, ◌==◌, List, [], ◌∷◌, ◌++◌, length, map, refl, sym, ap, arith}
use Rattle.std.proofs.lemmas.Bool.{eqb-true}
use Rattle.tl_types.specs.Request.{Request}
use Rattle.check_cells.specs.Sent.{Sent, is_corrupt}
use Rattle.check_memory.specs.Partial.{Partial}
use Rattle.check_memory.specs.Pattern.{Pattern, pattern}
use Rattle.check_memory.specs.declared.slave.Slave.{Slave}
use Rattle.check_memory.specs.declared.slave.Slave.TheVariants.{Memory, Device}
use Rattle.check_contests.specs.Sent.{memory_after_sent, slave_after_sent, expected_of_sent}
use Rattle.check_contests.specs.Contests.{Accepted, one_may_write, contested_in, due_beside, due_of, memory_accepting, slave_accepting, entry_accepting, kept_accepting}
use Rattle.check_contests.proofs.AcceptedMemory.{after_same}
use Rattle.check_contests.proofs.Effect.{with_cells}
use Rattle.check_contests.proofs.Expected.{unsure_if}
use Rattle.check_contests.proofs.Places.{hide_none}
use Rattle.check_contests.proofs.Sending.{memory_left}
use Rattle.check_contests.proofs.Uncontested.{leaves_is, device_expects}

memory_same : (memory : Partial) (kept : List Accepted) (sent : Sent)
    → memory_accepting memory kept sent ≡ with_cells memory (memory_accepting memory kept sent).cells
memory_same memory kept sent = after_same memory memory.cells kept sent

-- what a request leaves beside those kept, of which it was looked at whether it is corrupt
pub left_beside : (memory now : Partial) (kept : List Accepted) (sent : Sent) (ask : Request) (corrupt : Bool)
    → is_corrupt sent ≡ corrupt → ask ≡ sent.ask → now ≡ contested_in memory kept ask (memory_left corrupt memory ask)
    → now ≡ memory_accepting memory kept sent
left_beside memory now kept sent ask corrupt looked same is =
    is ∙ ap (λ (x : Request). contested_in memory kept x (memory_left corrupt memory x)) same
    ∙ ap (λ (b : Bool). contested_in memory kept sent.ask (memory_left b memory sent.ask)) (sym looked)

-- and what is expected of it
pub expected_beside : (memory : Partial) (now : Pattern) (sent : Sent) (ask : Request) (corrupt : Bool)
    → is_corrupt sent ≡ corrupt → ask ≡ sent.ask → now ≡ unsure_if corrupt (pattern memory ask)
    → now ≡ expected_of_sent (Memory memory) sent
expected_beside memory now sent ask corrupt looked same is =
    is ∙ ap (λ (x : Request). unsure_if corrupt (pattern memory x)) same
    ∙ ap (λ (b : Bool). unsure_if b (pattern memory sent.ask)) (sym looked)

pub due_then : (memory after : Partial) (kept : List Accepted) (sent : Sent) (ask : Request) (due : Pattern)
    → after ≡ memory_accepting memory kept sent
    → due_beside after ask (one_may_write after kept) due ≡ due_beside memory ask (one_may_write memory kept) due
due_then memory after kept sent ask due is =
    ap (λ (m : Partial). due_beside m ask (one_may_write m kept) due) (is ∙ memory_same memory kept sent)

pub entries_then : (slave after : Slave) (kept : List Accepted) (sent : Sent) → after ≡ slave_accepting slave kept sent
    → map (entry_accepting after sent.ask) kept ≡ map (entry_accepting slave sent.ask) kept
entries_then (Memory memory) after kept sent is =
    ap (λ (s : Slave). map (entry_accepting s sent.ask) kept)
    (is ∙ ap (λ (m : Partial). Memory m) (memory_same memory kept sent))
entries_then Device after kept sent is = ap (λ (s : Slave). map (entry_accepting s sent.ask) kept) is

-- ---- where none is kept

empty_if : (kept : List Accepted) → (length kept == 0) ≡ true → kept ≡ []
empty_if [] is = refl
empty_if (entry ∷ kept) is = absurd (omega (arith, eqb-true (length (entry ∷ kept)) 0 is))

pub alone_leaves : (slave : Slave) (kept : List Accepted) (sent : Sent) → (length kept == 0) ≡ true
    → slave_after_sent slave sent ≡ slave_accepting slave kept sent
alone_leaves (Memory memory) kept sent is =
    ap (λ (m : Partial). Memory m) (sym (leaves_is memory [] sent.ask (memory_after_sent memory sent) (λ a. refl)))
    ∙ ap (λ (es : List Accepted). slave_accepting (Memory memory) es sent) (sym (empty_if kept is))
alone_leaves Device kept sent is = refl

pub alone_due : (slave : Slave) (kept : List Accepted) (sent : Sent) → (length kept == 0) ≡ true
    → expected_of_sent slave sent ≡ due_of slave kept sent
alone_due (Memory memory) kept sent is =
    hide_none memory sent.ask (expected_of_sent (Memory memory) sent)
    ∙ ap (λ (es : List Accepted). due_of (Memory memory) es sent) (sym (empty_if kept is))
alone_due Device kept sent is = sym (device_expects sent)

-- ---- those kept then

pub kept_then : (slave after : Slave) (kept items now : List Accepted) (wide index : ℕ) (sent : Sent) (ask : Request)
    (due : Pattern) → after ≡ slave_accepting slave kept sent → items ≡ map (entry_accepting after sent.ask) kept
    → due ≡ due_of slave kept sent → ask ≡ sent.ask
    → now ≡ items ++ record { wide = wide; ask = ask; due = due; index = index } ∷ []
    → now ≡ kept_accepting slave kept wide index sent
kept_then slave after kept items now wide index sent ask due is mapped same same' made =
    made
    ∙ ap (λ (es : List Accepted). es ++ record { wide = wide; ask = ask; due = due; index = index } ∷ [])
    (mapped ∙ entries_then slave after kept sent is)
    ∙ ap (λ (d : Pattern). map (entry_accepting slave sent.ask) kept
    ++ record { wide = wide; ask = ask; due = d; index = index } ∷ []) same
    ∙ ap (λ (x : Request). map (entry_accepting slave sent.ask) kept
    ++ record { wide = wide; ask = x; due = due_of slave kept sent; index = index } ∷ []) same'
