-- The first key of a system file that no table may have. This project's own.
use Rattle.std.specs.Prelude.{◌≡◌, List, [], ◌∷◌, codes, ℕ, Option, None, Some, option_map, option_and_then, string_bytes}
use Rattle.toml.specs.Data.{Data, Members, as_array, as_table, get_member}
use Rattle.tl_script.specs.Value.{list_of}
use Rattle.check_keys.specs.Known.{first_unknown, near_key}
use Rattle.check_keys.specs.declared.known.TableKind.{TableKind}
use Rattle.check_keys.specs.declared.known.TableKind.TheVariants.{Top, Names, Port, Master, Sizes, Orders, Sources, Wires}
use Rattle.check_keys.specs.declared.fault.SystemFault.{SystemFault}
use Rattle.check_keys.specs.declared.fault.SystemFault.TheVariants.{UnknownKey}

-- a key that its table may not have, and the kind of that table
pub record Stray : Type 0 where
  pub kind : TableKind
  pub key : List ℕ

-- this key, which a table of this kind may not have.
abbrev pub stray_of : TableKind → List ℕ → Stray
stray_of kind key = record { kind = kind; key = key }

-- the first, or else the second
abbrev pub or_else : Option Stray → Option Stray → Option Stray
or_else None second = second
or_else (Some first) second = Some first

-- that of a table itself
abbrev pub stray_in : TableKind → Members → Option Stray
stray_in kind members = option_map (stray_of kind) (first_unknown kind members)

-- that of the table at a key; what is no table is passed over
abbrev pub stray_in_value : TableKind → Option Data → Option Stray
stray_in_value kind value = option_and_then (stray_in kind) (option_and_then as_table value)

-- the first unknown key of the table at the key of this name; none if no table is there.
abbrev pub stray_at : List ℕ → TableKind → Members → Option Stray
stray_at name kind members = stray_in_value kind (get_member name members)

-- that of the first table of a port's list that has one; what is no table is passed over
abbrev pub stray_in_tables : List Data → Option Stray
stray_in_tables [] = None
stray_in_tables (value ∷ values) = or_else (option_and_then (stray_in Sources) (as_table value)) (stray_in_tables values)

-- the same of the `sources` of a port's table; those of a master are a number, and what is no array is passed over
abbrev pub stray_in_sources : TableKind → Option Data → Option Stray
stray_in_sources Port value = option_and_then (λ items. stray_in_tables (list_of items)) (option_and_then as_array value)
stray_in_sources kind value = None

-- that of a port's or of a master's table: a key of its own, or else of its sizes, of its order, of its sources, or of its wires
unfoldable pub stray_in_link : TableKind → Members → Option Stray
stray_in_link kind members =
    or_else (stray_in kind members) (or_else (stray_at (codes "sizes") Sizes members)
    (or_else (stray_at (codes "order") Orders members)
    (or_else (stray_in_sources kind (get_member (codes "sources") members)) (stray_at (codes "wires") Wires members))))

-- that of the first table of an array that has one; what is no table is passed over
abbrev pub stray_in_links : TableKind → List Data → Option Stray
stray_in_links kind [] = None
stray_in_links kind (value ∷ values) =
    or_else (option_and_then (stray_in_link kind) (as_table value)) (stray_in_links kind values)

-- the same of what stands at a key; what is no array is passed over
abbrev pub stray_in_array : TableKind → Option Data → Option Stray
stray_in_array kind value = option_and_then (λ items. stray_in_links kind (list_of items)) (option_and_then as_array value)

-- that of a file: of its top, or else of its names of signals, or else of its ports, or else of its masters
unfoldable pub stray_in_file : Members → Option Stray
stray_in_file members =
    or_else (stray_in Top members) (or_else (stray_at (codes "names") Names members)
    (or_else (stray_in_array Port (get_member (codes "port") members))
    (stray_in_array Master (get_member (codes "master") members))))

-- the fault names this key, and the nearest one that its table may have
abbrev pub IsUnknownKey : Stray → SystemFault → Type 0
IsUnknownKey stray (UnknownKey unknown) =
    (string_bytes unknown.key ≡ stray.key) × (unknown.near.items ≡ near_key stray.kind stray.key)
IsUnknownKey stray fault = ⊥

-- the fault names the key, if there is one
abbrev pub IsUnknownFault : Option Stray → SystemFault → Type 0
IsUnknownFault None fault = ⊥
IsUnknownFault (Some stray) fault = IsUnknownKey stray fault
