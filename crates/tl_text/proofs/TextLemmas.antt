-- A text that was appended to begins with what it was.
use Rattle.std.proofs.Common.{◌≡◌, ℕ, List, [], ◌++◌, sym, ◌∙◌, ap, append_assoc, append-nil}
use Rattle.tl_text.specs.Text.{BeginsWith}

-- nothing was appended
pub begins_with_itself : (old new : List ℕ) → new ≡ old → BeginsWith old new
begins_with_itself old new same = record { more = []; is = same ∙ sym (append-nil old) }

-- something was appended
pub begins_appended : (old more new : List ℕ) → new ≡ old ++ more → BeginsWith old new
begins_appended old more new is = record { more = more; is = is }

-- what begins with a text that was appended to begins with what that text was
pub begins_before : (old mid new : List ℕ) → BeginsWith mid new → BeginsWith old mid → BeginsWith old new
begins_before old mid new behind before = record {
  more = before.more ++ behind.more;
  is = behind.is ∙ ap (λ t. t ++ behind.more) before.is ∙ append_assoc old before.more behind.more;
}

pub ruleset begins = (begins_with_itself, begins_appended, begins_before)
