-- The account of an arena: which slots are free, which are held and by whom, and which masters have left. All of it is
-- this project's own.
use Rattle.std.specs.Prelude.{◌≡◌, ℕ, ◌<◌, ◌↔◌, ◌⊎◌, ◌++◌, List, [], length, slice_get, Contains, AllPairs, Some}
use Rattle.atomic_table.specs.Table.{State}
use Rattle.tl_slots.specs.declared.phase.Phase.{Phase}
use Rattle.tl_slots.specs.declared.phase.Phase.TheVariants.{Free}
use Rattle.tl_slots.specs.Word.{word, IsWordOf}
use Rattle.tl_rule.specs.Rule.{Fits, Names}
use Rattle.tl_rule.specs.declared.view.About.{About}
use Rattle.tl_rule.specs.declared.view.View.{View}
use Rattle.tl_rule.specs.Record.{Berth}
use Rattle.tl_arena.specs.declared.account.HeldSlot.{HeldSlot}

-- things stand in rising order of their numbers, so each number stands once
abbrev pub IsRisingBy : {X : Type 0} → (X → ℕ) → List X → Type 0
IsRisingBy number xs = AllPairs (λ x y. number x < number y) xs

-- the word is that of a phase which names the master
pub record IsHeldWord (found master : ℕ) : Type 0 where
  pub phase : Phase
  pub codes : IsWordOf phase found
  pub names : Names phase master

-- by these words of slots, the slot is free.
abbrev pub IsFree : List ℕ → ℕ → Type 0
IsFree slots i = slice_get slots i ≡ Some (word Free)

-- by these words of slots, the slot is held by this master: its word is that of a phase which names the master.
pub record IsHeld (slots : List ℕ) (held : HeldSlot) : Type 0 where
  pub found : ℕ
  pub at : slice_get slots held.slot ≡ Some found
  pub of : IsHeldWord found held.master

-- by these leave words, master m has left: its word is 1.
abbrev pub HasLeft : List ℕ → ℕ → Type 0
HasLeft leaves m = slice_get leaves m ≡ Some 1

-- the account of slots with these words and of masters with these leave words: the free slots, the held ones with their
-- masters, and the masters that have left, each once and in rising order
pub record IsAccountOf (slots leaves : List ℕ) (free : List ℕ) (held : List HeldSlot) (left : List ℕ) : Type 0 where
  pub free_just : (i : ℕ) → Contains free i ↔ IsFree slots i
  pub held_just : (h : HeldSlot) → Contains held h ↔ IsHeld slots h
  pub left_just : (m : ℕ) → Contains left m ↔ HasLeft leaves m
  pub free_rising : IsRisingBy (λ (i : ℕ). i) free
  pub held_rising : IsRisingBy (λ (h : HeldSlot). h.slot) held
  pub left_rising : IsRisingBy (λ (m : ℕ). m) left

-- the account of an arena at its end is that of the words of a table that fits
pub record IsClosing (about : About) (free : List ℕ) (held : List HeldSlot) (left : List ℕ) : Type 0 where
  pub table : State Berth View
  pub fits : Fits about table
  pub slots : List ℕ
  pub leaves : List ℕ
  pub words : table.words ≡ slots ++ leaves
  pub many_slots : length slots ≡ about.slots
  pub many_leaves : length leaves ≡ about.masters
  pub account : IsAccountOf slots leaves free held left
  -- each slot is free or held
  pub each : (i : ℕ) → i < about.slots → Contains free i ⊎ ((m : ℕ) × Contains held (record { slot = i; master = m }))
  -- and not both
  pub apart : (h : HeldSlot) → Contains held h → Contains free h.slot → ⊥
  -- no held slot's master has left
  pub present : (h : HeldSlot) → Contains held h → Contains left h.master → ⊥
  -- so if all have left nothing is held
  pub all_free : ((m : ℕ) → m < about.masters → Contains left m) → held ≡ []
