-- A reply that is wholly known is spelled as traces spell it.
use Rattle.std.proofs.Common.{◌≡◌, ℕ, List, [], ◌∷◌, ◌++◌, codes, map, Some, refl, ap}
use Rattle.tl_script.specs.Data.{byte_text, data_text}
use Rattle.tl_script.specs.Trace.{bytes_part, denied_text, reply_text}
use Rattle.tl_text.specs.Name.{reply_word_of}
use Rattle.tl_types.specs.Response.{Response}
use Rattle.check_cells.specs.Known.{known}
use Rattle.check_cells.specs.Pattern.{seen_as}
use Rattle.check_lines.specs.Reply.{cells_part, cells_text, pattern_text}

bytes_agree : (bytes : List ℕ) → cells_text (known bytes) ≡ data_text (map (λ byte. Some byte) bytes)
bytes_agree [] = refl
bytes_agree (byte ∷ bytes) = ap (λ text. byte_text (Some byte) ++ text) (bytes_agree bytes)

parts_agree : (bytes : List ℕ) → cells_part (known bytes) ≡ bytes_part (map (λ byte. Some byte) bytes)
parts_agree [] = refl
parts_agree (byte ∷ bytes) = ap (λ text. codes " " ++ text) (bytes_agree (byte ∷ bytes))

pub replies_agree : (reply : Response) → pattern_text (seen_as reply) ≡ reply_text reply
replies_agree reply = ap (λ text. reply_word_of reply.op ++ denied_text reply.denied ++ text) (parts_agree reply.bytes)
