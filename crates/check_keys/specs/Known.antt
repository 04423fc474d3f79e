-- The keys that the tables of a system file may have, and the first that one may not have. This project's own; the names of
-- signals are the TileLink specification's.
use Rattle.std.specs.Prelude.{List, [], ◌∷◌, codes, ℕ, Bool, Option, None, Some, if◌then◌else◌, unwrap_or}
use Rattle.std.specs.List.{list_any}
use Rattle.std.specs.Str.{bytes_eq}
use Rattle.toml.specs.Data.{Members, no_members, member}
use Rattle.check_keys.specs.Nearest.{nearest}
use Rattle.check_keys.specs.declared.known.TableKind.{TableKind}
use Rattle.check_keys.specs.declared.known.TableKind.TheVariants.{Top, Names, Port, Master, Sizes, Orders, Sources, Wires}

-- the name is one of these
abbrev pub is_among : List (List ℕ) → List ℕ → Bool
is_among names name = list_any (bytes_eq name) names

-- the keys of `wires` and of `names`: the signals of a link. `extra` may stand in each table, has any value and means nothing
abbrev pub wire_keys : List (List ℕ)
wire_keys =
    codes "a_valid" ∷ codes "a_ready" ∷ codes "a_opcode" ∷ codes "a_param" ∷ codes "a_size" ∷
    codes "a_source" ∷ codes "a_address" ∷ codes "a_mask" ∷ codes "a_data" ∷ codes "a_corrupt" ∷
    codes "d_valid" ∷ codes "d_ready" ∷ codes "d_opcode" ∷ codes "d_param" ∷ codes "d_size" ∷
    codes "d_source" ∷ codes "d_data" ∷ codes "d_denied" ∷ codes "d_corrupt" ∷ codes "extra" ∷ []

-- the keys that a table of this kind may have. `slots` and `ops` are a script's, and mean nothing to a judge
abbrev pub known_keys : TableKind → List (List ℕ)
known_keys Top =
    codes "bus" ∷ codes "unaligned" ∷ codes "corrupt" ∷ codes "decode" ∷ codes "resets" ∷ codes "period" ∷ codes "port" ∷ codes "master" ∷
    codes "clock" ∷ codes "reset" ∷ codes "reset_active" ∷ codes "edge" ∷ codes "bits" ∷ codes "names" ∷ codes "slots" ∷ codes "extra" ∷ []
known_keys Names = wire_keys
known_keys Port =
    codes "name" ∷ codes "kind" ∷ codes "base" ∷ codes "length" ∷ codes "ranges" ∷ codes "reset" ∷
    codes "image" ∷ codes "unknown" ∷ codes "sizes" ∷ codes "order" ∷ codes "bus" ∷ codes "mirror" ∷
    codes "volatile" ∷ codes "on_reset" ∷ codes "hosts" ∷ codes "sources" ∷ codes "crossing" ∷ codes "fifo" ∷ codes "signals" ∷
    codes "wires" ∷ codes "bits" ∷ codes "clock" ∷ codes "link_reset" ∷ codes "reset_active" ∷ codes "edge" ∷ codes "extra" ∷ []
known_keys Master =
    codes "name" ∷ codes "sources" ∷ codes "first" ∷ codes "stride" ∷ codes "bus" ∷ codes "reach" ∷ codes "fifo" ∷ codes "signals" ∷
    codes "wires" ∷ codes "bits" ∷ codes "clock" ∷ codes "link_reset" ∷ codes "reset_active" ∷ codes "edge" ∷
    codes "ops" ∷ codes "extra" ∷ []
known_keys Sizes =
    codes "get" ∷ codes "putfull" ∷ codes "putpart" ∷ codes "arithmetic" ∷ codes "logical" ∷ codes "intent" ∷
    codes "extra" ∷ []
known_keys Orders = codes "masters" ∷ codes "ports" ∷ codes "extra" ∷ []
known_keys Sources = codes "master" ∷ codes "first" ∷ codes "stride" ∷ codes "extra" ∷ []
known_keys Wires = wire_keys

-- the first key of a table that one of this kind may not have; keys stand in the order of bytes
abbrev pub first_unknown : TableKind → Members → Option (List ℕ)
first_unknown kind no_members = None
first_unknown kind (member key value rest) =
    if is_among (known_keys kind) key then first_unknown kind rest else Some key

-- the key that such a table may have and that is nearest to a key; of several the first
abbrev pub near_key : TableKind → List ℕ → List ℕ
near_key kind key = unwrap_or (nearest key (known_keys kind)) []
