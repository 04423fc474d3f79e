-- Each link has a bus, and what is past its lanes means nothing.
use Rattle.std.proofs.Common.{◌≡◌, ℕ, ◌%◌, ◌^◌, List, Option, Some, None, take, slice_get, unwrap_or, refl, subst}
use Rattle.std.specs.Prelude.{option_map}
use Rattle.check_beats.specs.Bus.{bus_bytes}
use Rattle.check_beats.specs.State.{AskBegun, ReplyBegun, ask_of, ask_after, reply_of, reply_after}
use Rattle.check_beats.specs.declared.beat.AskHead.{AskHead}
use Rattle.check_beats.specs.declared.beat.ReplyHead.{ReplyHead}
use Rattle.check_beats.specs.declared.bus.Bus.{Bus}
use Rattle.check_beats.specs.declared.bus.Bus.TheVariants.{One}
use Rattle.check_beats.proofs.Past.{asks_are_on_bus, replies_are_on_bus}
use Rattle.check_watch.specs.declared.beat.Link.{Link}
use Rattle.check_watch.specs.Plan.{Layout, side_of, link_number, buses_of, bus_of}

pub bus_is : (layout : Layout) (link : Link) → (bus : Bus) × (bus_bytes bus ≡ bus_of layout link)
bus_is layout link = go (slice_get (buses_of layout (side_of link)) (link_number link))
  where
    go : (o : Option Bus) → (bus : Bus) × (bus_bytes bus ≡ unwrap_or (option_map bus_bytes o) 1)
    go None = (One, refl)
    go (Some bus) = (bus, refl)

module _ (layout : Layout) (link : Link) where
  pub ask_on_bus : (begun : Option AskBegun) (beat : AskHead) (lanes : List ℕ)
      → ask_of (bus_of layout link) begun beat (take (bus_of layout link) lanes)
      ≡ ask_of (bus_of layout link) begun beat lanes
  ask_on_bus begun beat lanes =
      let bus = bus_is layout link in
      subst (λ m. ask_of m begun beat (take m lanes) ≡ ask_of m begun beat lanes) bus.1
      (asks_are_on_bus bus.0 begun beat 0 lanes).ends

  pub ask_on_bus_after : (begun : Option AskBegun) (beat : AskHead) (lanes : List ℕ)
      → ask_after (bus_of layout link) begun beat (take (bus_of layout link) lanes)
      ≡ ask_after (bus_of layout link) begun beat lanes
  ask_on_bus_after begun beat lanes =
      let bus = bus_is layout link in
      subst (λ m. ask_after m begun beat (take m lanes) ≡ ask_after m begun beat lanes) bus.1
      (asks_are_on_bus bus.0 begun beat 0 lanes).goes_on

  pub reply_on_bus : (begun : Option ReplyBegun) (address : ℕ) (beat : ReplyHead) (known : ℕ) (lanes : List ℕ)
      → reply_of (bus_of layout link) begun address beat (known % 2 ^ bus_of layout link)
      (take (bus_of layout link) lanes)
      ≡ reply_of (bus_of layout link) begun address beat known lanes
  reply_on_bus begun address beat known lanes =
      let bus = bus_is layout link in
      subst (λ m. reply_of m begun address beat (known % 2 ^ m) (take m lanes)
      ≡ reply_of m begun address beat known lanes) bus.1 (replies_are_on_bus bus.0 begun address beat known lanes).ends

  pub reply_on_bus_after : (begun : Option ReplyBegun) (beat : ReplyHead) (known : ℕ) (lanes : List ℕ)
      → reply_after (bus_of layout link) begun beat (known % 2 ^ bus_of layout link) (take (bus_of layout link) lanes)
      ≡ reply_after (bus_of layout link) begun beat known lanes
  reply_on_bus_after begun beat known lanes =
      let bus = bus_is layout link in
      subst (λ m. reply_after m begun beat (known % 2 ^ m) (take m lanes) ≡ reply_after m begun beat known lanes) bus.1
      (replies_are_on_bus bus.0 begun 0 beat known lanes).goes_on
