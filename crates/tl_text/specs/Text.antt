-- Texts that are appended to. This project's own.
use Rattle.std.specs.Prelude.{◌≡◌, ℕ, List, ◌++◌}

-- the text has these bytes at its front, and more or nothing after them
pub record BeginsWith (front text : List ℕ) : Type 0 where
  pub more : List ℕ
  pub is : text ≡ front ++ more
