-- What is told, on its way to a writer that may tell its bytes. This project's own.
use Rattle.std.specs.Prelude.{◌≡◌, ◌⊎◌, ℕ, Bool, true, false, List, ◌++◌, Option, Result, Ok, Err}
use Rattle.std.specs.Io.KnownBytes.{Appends}
use Rattle.tl_streams.specs.Streams.{AppendsPart}
use Rattle.check_text.specs.declared.fault.CaptureFault.{CaptureFault}
use Rattle.check_text.specs.declared.fault.CaptureFault.TheVariants as fault
use Rattle.check_text.specs.declared.fault.Verdict.{Verdict}

-- a text of which this is said was written, and nothing else
pub record WritesAll (P : List ℕ → Type 0) (old new : Option (List ℕ)) : Type 0 where
  pub told : List ℕ
  pub holds : P told
  pub written : Appends old new told

-- a front of these bytes was written, and nothing else
pub record AppendsFront (old new : Option (List ℕ)) (bytes : List ℕ) : Type 0 where
  pub front : List ℕ
  pub rest : List ℕ
  pub is : bytes ≡ front ++ rest
  pub written : Appends old new front

-- a front of a text of which this is said was written, and nothing else
pub record WritesFront (P : List ℕ → Type 0) (old new : Option (List ℕ)) : Type 0 where
  pub told : List ℕ
  pub holds : P told
  pub written : AppendsFront old new told

-- a text of which this is said was to be written; a front of it was, but not all, and nothing else
pub record WritesPart (P : List ℕ → Type 0) (old new : Option (List ℕ)) : Type 0 where
  pub told : List ℕ
  pub holds : P told
  pub written : AppendsPart old new told

-- ---- for the proofs

-- a text of which this is said was written, but for what is left of it
pub record Wrote (P : List ℕ → Type 0) (old new : Option (List ℕ)) (left : List ℕ) : Type 0 where
  pub told : List ℕ
  pub front : List ℕ
  pub holds : P told
  pub is : told ≡ front ++ left
  pub written : Appends old new front

-- of a text a front was written, and this is left
pub record Moves (old new : Option (List ℕ)) (text left : List ℕ) : Type 0 where
  pub front : List ℕ
  pub is : text ≡ front ++ left
  pub written : Appends old new front

-- the answer was given in the midst of a line: memory was refused, or a write failed
abbrev pub is_cut : Result Verdict CaptureFault → Bool
is_cut (Ok verdict) = false
is_cut (Err (fault.Header line)) = false
is_cut (Err (fault.TooLong line)) = false
is_cut (Err (fault.Row line why)) = false
is_cut (Err fault.Read) = false
is_cut (Err fault.Memory) = true
is_cut (Err fault.Write) = true

-- what was left of a text was written, and the answer is the same; or the write failed; of one that was cut nothing is
-- written
abbrev pub Finishes : Option (List ℕ) → Option (List ℕ) → List ℕ → Result Verdict CaptureFault
    → Result Verdict CaptureFault → Type 0
Finishes old new text answer result =
    ((is_cut answer ≡ true) × (result ≡ answer) × (new ≡ old))
    ⊎ ((is_cut answer ≡ false)
    × (((result ≡ answer) × Appends old new text) ⊎ ((result ≡ Err fault.Write) × AppendsPart old new text)))
