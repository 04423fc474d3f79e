-- Texts that are rows of captures. It is this project's own.
use Rattle.std.specs.Prelude.{◌≡◌, ℕ, Bool, true, List, [], ◌∷◌, ◌++◌, Ok}
use Rattle.check_beats.specs.declared.bus.Bus.{Bus}
use Rattle.check_rows.specs.Column.{column_parts}
use Rattle.check_rows.specs.Row.{SeenRow, row_of}
use Rattle.check_samples.specs.Due.{IsPlain}

-- the text is one line, and what stands between its commas is this row, by the definition of captures of a system whose
-- masters' and ports' links have these buses, whether it has rows of resets or not. The row of a reset needs that it has them
pub record IsRow (masters ports : List Bus) (row : SeenRow) (text : List ℕ) : Type 0 where
  pub line : List ℕ
  pub ends : text ≡ line ++ (10 ∷ [])
  pub plain : IsPlain line
  pub reads : (resets : Bool) → (row.is_reset ≡ true → resets ≡ true)
      → row_of resets masters ports row.line (column_parts line) ≡ Ok row
