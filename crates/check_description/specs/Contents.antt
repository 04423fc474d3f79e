-- What a port holds before any request. This project's own.
use Rattle.std.specs.Prelude.{ℕ, Bool, List, [], Option, unwrap_or, Result, Ok}
use Rattle.toml.specs.Data.{Members}
use Rattle.tl_text.specs.Reading.{◌>>=◌, if_any}
use Rattle.check_keys.specs.Value.{bytes_of, flag_at, text_if_any, up_to}
use Rattle.check_keys.specs.declared.fault.Key.TheVariants.{Reset, Image, Unknown}
use Rattle.check_keys.specs.declared.fault.SystemFault.{SystemFault}

-- its first bytes, the file whose bytes stand under them, if it names one, and whether all other bytes are unknown
pub record Contents : Type 0 where
  pub reset : List ℕ
  pub image : Option (List ℕ)
  pub unknown : Bool

-- the bytes that a text spells, at most so many
abbrev pub reset_of : ℕ → List ℕ → Result (List ℕ) SystemFault
reset_of most text = bytes_of Reset text >>= up_to Reset most

-- the first bytes, which may be none
unfoldable pub reset_at : ℕ → Members → Result (List ℕ) SystemFault
reset_at most members =
    text_if_any Reset members >>= if_any (reset_of most) >>= (λ bytes. Ok (unwrap_or bytes []))

-- the name of the file, if it has one
unfoldable pub image_name_at : Members → Result (Option (List ℕ)) SystemFault
image_name_at members = text_if_any Image members

-- what a port of a first range of so many bytes holds
unfoldable pub contents_at : ℕ → Members → Result Contents SystemFault
contents_at most members = do
  reset ← reset_at most members
  image ← image_name_at members
  unknown ← flag_at Unknown members
  Ok (record { reset = reset; image = image; unknown = unknown })
