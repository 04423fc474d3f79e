-- When an entry is the pair at its port and index, by its wide source and what is there.
use Rattle.std.proofs.Common.{◌≡◌, ℕ, ◌↔◌, List, Bool, Some, IsTrue, refl}
use Rattle.tl_types.specs.Request.{Request}
use Rattle.tl_types.specs.Response.{Response}
use Rattle.tl_types.specs.declared.trace.Entry.{Entry}
use Rattle.tl_map.specs.Owner.{IsWideSource}
use Rattle.tl_map.specs.declared.owners.Owner.{Owner}
use Rattle.tl_audit.specs.Agrees.{IsRecorded, pair_at}

pub recorded_just : (owners : List Owner) (histories : List (List (Request × Response))) (m : ℕ) (e : Entry) (wide : ℕ)
    (pair : Request × Response) (b : Bool)
    → ((w : ℕ) → (Some wide ≡ Some w) ↔ IsWideSource owners m e.ask.source w)
    → Some pair ≡ pair_at histories e.port e.index
    → (IsTrue b ↔ (pair ≡ (record e.ask { source = wide }, record e.reply { source = wide })))
    → IsTrue b ↔ IsRecorded owners histories m e
recorded_just owners histories m e wide pair b widens there decides = (
  λ yes. let same = decides.0 yes in record { wide = wide; is = (widens wide).0 refl; at = rw (← there, same) refl },
  λ recorded.
      let other = (widens recorded.wide).1 recorded.is in
      let same : wide ≡ recorded.wide = cc in
      let at = recorded.at in
      let pairs : pair ≡ (record e.ask { source = recorded.wide }, record e.reply { source = recorded.wide }) = cc in
      decides.1 (rw same pairs),
)
