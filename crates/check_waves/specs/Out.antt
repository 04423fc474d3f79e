-- Rows on their way to a writer that may tell its bytes. This project's own.
use Rattle.std.specs.Prelude.{◌≡◌, ◌⊎◌, ℕ, Bool, true, false, List, [], ◌∷◌, ◌++◌, codes, Option, Result, Ok, Err}
use Rattle.std.specs.Io.KnownBytes.{Appends}
use Rattle.tl_streams.specs.Streams.{AppendsPart}
use Rattle.check_rows.specs.Column.{header_line}
use Rattle.check_samples.specs.EdgeFault.{edge_fault_view}
use Rattle.check_samples.specs.Left.{BeforeBeat, BeforeLine, RowsLeft, Whole, WithoutEdges}
use Rattle.check_waves.specs.declared.fault.WaveFault.{WaveFault}
use Rattle.check_waves.specs.declared.fault.WaveFault.TheVariants as wave

-- a front of these bytes was written, and nothing else
pub record AppendsFront (old new : Option (List ℕ)) (bytes : List ℕ) : Type 0 where
  pub front : List ℕ
  pub rest : List ℕ
  pub is : bytes ≡ front ++ rest
  pub written : Appends old new front

-- a capture: the header, and the rows that are to come
abbrev pub capture_of : RowsLeft → RowsLeft
capture_of left = record { text = header_line ++ left.text; end = left.end }

-- what is written of rows that were to come, if this is answered: all of them, and they end so; or a front of them
abbrev pub IsOut : Result Unit WaveFault → RowsLeft → Option (List ℕ) → Option (List ℕ) → Type 0
IsOut (Ok done) left old new = Appends old new left.text × (left.end ≡ Whole)
IsOut (Err (wave.Unknown unknown)) left old new = Appends old new left.text × (left.end ≡ BeforeBeat unknown)
IsOut (Err (wave.Dump line mistake)) left old new = Appends old new left.text × (left.end ≡ BeforeLine line mistake)
IsOut (Err (wave.Edges why)) left old new = Appends old new left.text × (left.end ≡ WithoutEdges (edge_fault_view why))
IsOut (Err wave.Read) left old new = AppendsFront old new left.text
IsOut (Err wave.Write) left old new = AppendsFront old new left.text
IsOut (Err wave.Memory) left old new = AppendsFront old new left.text
IsOut (Err (wave.System fault)) left old new = ⊥
IsOut (Err (wave.Keys fault)) left old new = ⊥
IsOut (Err (wave.Signal fault)) left old new = ⊥

-- ---- where rows are missing

-- the line that ends a capture of which rows are missing
abbrev pub cut_line : List ℕ
cut_line = codes "fault" ++ (10 ∷ [])

-- it is written after each fault but that of a write
abbrev pub is_marked : Result Unit WaveFault → Bool
is_marked (Ok done) = false
is_marked (Err (wave.System fault)) = true
is_marked (Err (wave.Keys fault)) = true
is_marked (Err (wave.Signal fault)) = true
is_marked (Err (wave.Dump line mistake)) = true
is_marked (Err (wave.Unknown unknown)) = true
is_marked (Err (wave.Edges why)) = true
is_marked (Err wave.Read) = true
is_marked (Err wave.Write) = false
is_marked (Err wave.Memory) = true

-- a capture with this answer was ended: by that line if it is to be, and the answer is the same; or that write failed
abbrev pub EndsCapture : Option (List ℕ) → Option (List ℕ) → Result Unit WaveFault → Result Unit WaveFault → Type 0
EndsCapture old new answer result =
    ((is_marked answer ≡ false) × (result ≡ answer) × (new ≡ old))
    ⊎ ((is_marked answer ≡ true)
    × (((result ≡ answer) × Appends old new cut_line) ⊎ ((result ≡ Err wave.Write) × AppendsPart old new cut_line)))

-- ---- for the proofs

-- of a text a front was written, and this is left
pub record Moves (old new : Option (List ℕ)) (text left : List ℕ) : Type 0 where
  pub front : List ℕ
  pub is : text ≡ front ++ left
  pub written : Appends old new front

-- of a text a front was written, this is left, and more is to come
pub record MovesOn (old new : Option (List ℕ)) (text left : List ℕ) : Type 0 where
  pub more : List ℕ
  pub moves : Moves old new text (left ++ more)

-- the rows after a text were written, but for what is left of that, if this is answered
abbrev pub IsPushed : Result Unit WaveFault → RowsLeft → List ℕ → List ℕ → Option (List ℕ) → Option (List ℕ) → Type 0
IsPushed (Ok done) left text rest old new =
    Moves old new (text ++ left.text) rest × (left.end ≡ Whole)
IsPushed (Err (wave.Unknown unknown)) left text rest old new =
    Moves old new (text ++ left.text) rest × (left.end ≡ BeforeBeat unknown)
IsPushed (Err (wave.Dump line mistake)) left text rest old new =
    Moves old new (text ++ left.text) rest × (left.end ≡ BeforeLine line mistake)
IsPushed (Err (wave.Edges why)) left text rest old new =
    Moves old new (text ++ left.text) rest × (left.end ≡ WithoutEdges (edge_fault_view why))
IsPushed (Err wave.Read) left text rest old new = MovesOn old new (text ++ left.text) rest
IsPushed (Err wave.Write) left text rest old new = AppendsFront old new (text ++ left.text)
IsPushed (Err wave.Memory) left text rest old new = AppendsFront old new (text ++ left.text)
IsPushed (Err (wave.System fault)) left text rest old new = ⊥
IsPushed (Err (wave.Keys fault)) left text rest old new = ⊥
IsPushed (Err (wave.Signal fault)) left text rest old new = ⊥

-- the rows after a text, after some were taken: those are written but for this text, and these are left
pub record Pushing (text now : List ℕ) (old new : Option (List ℕ)) (from to : RowsLeft) : Type 0 where
  pub front : List ℕ
  pub is : text ++ from.text ≡ front ++ (now ++ to.text)
  pub end : to.end ≡ from.end
  pub written : Appends old new front

-- the answer was given in the midst of a row: memory was refused, or a write failed
abbrev pub is_cut : Result Unit WaveFault → Bool
is_cut (Ok done) = false
is_cut (Err (wave.System fault)) = false
is_cut (Err (wave.Keys fault)) = false
is_cut (Err (wave.Signal fault)) = false
is_cut (Err (wave.Dump line mistake)) = false
is_cut (Err (wave.Unknown unknown)) = false
is_cut (Err (wave.Edges why)) = false
is_cut (Err wave.Read) = false
is_cut (Err wave.Write) = true
is_cut (Err wave.Memory) = true

-- what was left of a text was written, and the answer is the same; or the write failed; of one that was cut nothing is
-- written
abbrev pub Finishes : Option (List ℕ) → Option (List ℕ) → List ℕ → Result Unit WaveFault → Result Unit WaveFault → Type 0
Finishes old new text answer result =
    ((is_cut answer ≡ true) × (result ≡ answer) × (new ≡ old))
    ⊎ ((is_cut answer ≡ false)
    × (((result ≡ answer) × Appends old new text) ⊎ ((result ≡ Err wave.Write) × AppendsPart old new text)))
