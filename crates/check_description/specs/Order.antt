-- When the requests of a port take effect, as each side judges it. This project's own.
use Rattle.std.specs.Prelude.{ℕ, List, codes, Option, Some, None, option_map, Result, Ok, if◌then◌else◌, ok_or}
use Rattle.std.specs.Str.{bytes_eq}
use Rattle.toml.specs.Data.{Data, Members, as_str, get_member}
use Rattle.check_flight.specs.declared.order.Order.{Order}
use Rattle.check_flight.specs.declared.order.Order.TheVariants.{Accept, Reply, Any}
use Rattle.tl_text.specs.Reading.{◌>>=◌, if_any}
use Rattle.check_keys.specs.Key.{key_name}
use Rattle.check_keys.specs.Value.{table_of, text_of}
use Rattle.check_keys.specs.declared.fault.Key.TheVariants.{Order as OrderKey}
use Rattle.check_keys.specs.declared.fault.SystemFault.{SystemFault}
use Rattle.check_keys.specs.declared.fault.SystemFault.TheVariants.{OutOfRange}
use Rattle.check_description.specs.declared.order.OrderWords as code_words
use Rattle.check_description.specs.declared.port.PortOrders.{PortOrders}

-- the order that a word names
abbrev pub order_of : List ℕ → Option Order
order_of word =
    if bytes_eq word (codes "accept") then Some Accept
    else if bytes_eq word (codes "reply") then Some Reply
    else if bytes_eq word (codes "any") then Some Any
    else None

-- ---- words, which are looked at as texts before any of them is looked at as an order

-- the word of each side, if it is given
pub record OrderWords : Type 0 where
  pub masters : Option (List ℕ)
  pub ports : Option (List ℕ)

-- the same word on both sides.
abbrev pub on_both_sides : List ℕ → OrderWords
on_both_sides word = record { masters = Some word; ports = Some word }

-- the word of a side, if a table has it
unfoldable pub word_at : List ℕ → Members → Result (Option (List ℕ)) SystemFault
word_at side members = if_any (text_of OrderKey) (get_member side members)

-- the words that a table gives, one for each side or none.
unfoldable pub words_in_table : Members → Result OrderWords SystemFault
words_in_table members = do
  masters ← word_at (codes "masters") members
  ports ← word_at (codes "ports") members
  Ok (record { masters = masters; ports = ports })

-- those that a value gives: a text is that of both sides, and what is no text has to be a table
abbrev pub words_by : Option (List ℕ) → Data → Result OrderWords SystemFault
words_by (Some word) value = Ok (on_both_sides word)
words_by None value = table_of OrderKey value >>= words_in_table

-- the words that a value gives, which is a text or a table.
unfoldable pub words_in : Data → Result OrderWords SystemFault
words_in value = words_by (as_str value) value

-- what contracts see of words
abbrev pub words_view : code_words.OrderWords → OrderWords
words_view words = record {
  masters = option_map (λ word. word.now) words.masters;
  ports = option_map (λ word. word.now) words.ports;
}

-- ---- orders

-- a port has none on either side
abbrev pub no_orders : PortOrders
no_orders = record { masters = None; ports = None }

-- the order that a word names; none if there is no word.
abbrev pub order_by_word : Option (List ℕ) → Result (Option Order) SystemFault
order_by_word word = if_any (λ text. ok_or (order_of text) (OutOfRange OrderKey)) word

-- the orders that the words of both sides name, that of the masters' side first.
unfoldable pub orders_of : OrderWords → Result PortOrders SystemFault
orders_of words = do
  masters ← order_by_word words.masters
  ports ← order_by_word words.ports
  Ok (record { masters = masters; ports = ports })

-- the orders of a port, which may have none
abbrev pub orders_by : Option Data → Result PortOrders SystemFault
orders_by None = Ok no_orders
orders_by (Some value) = words_in value >>= orders_of

-- the orders of a port, by its table.
unfoldable pub orders_at : Members → Result PortOrders SystemFault
orders_at members = orders_by (get_member (key_name OrderKey) members)
