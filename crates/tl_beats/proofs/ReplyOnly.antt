-- Beats spell at most one reply to a request at an address.
use Rattle.std.proofs.Common.{◌≡◌, ◌∙◌, ℕ, ◌/◌, ◌<◌, Bool, true, false, List, [], ◌∷◌, length, Some, slice_get, slice_index, get_or, ap, sym, refl, arith}
use Rattle.std.proofs.lemmas.List.{same_lists}
use Rattle.std.proofs.lemmas.Option.{slice_get-get_or}
use Rattle.tl_types.specs.Response.{Response, IsLawfulResponse}
use Rattle.tl_types.specs.Operation.{reply_carries_bytes, reply_byte_count}
use Rattle.tl_beats.specs.Beats.{lane_of}
use Rattle.tl_beats.specs.Replies.{SpellsReply}
use Rattle.tl_beats.specs.declared.beat.DBeat.{DBeat}
use Rattle.tl_beats.proofs.Codes.{same_reply_op}
use Rattle.tl_beats.proofs.Only.{some_beat, beat_of_byte}

pub same_reply : (reply other : Response) (address : ℕ) (beats : List DBeat)
    → IsLawfulResponse reply.op reply.size reply.denied reply.bytes
    → IsLawfulResponse other.op other.size other.denied other.bytes → SpellsReply reply address beats
    → SpellsReply other address beats → reply ≡ other
same_reply reply other address [] lawful lawful' spells spells' =
    absurd (omega (arith, spells.count, some_beat (reply_carries_bytes reply.op) reply.size))
same_reply reply other address (first ∷ rest) lawful lawful' spells spells' =
    let beats : List DBeat = first ∷ rest in
    let fields = (spells.each 0 first refl).fields in
    let fields' = (spells'.each 0 first refl).fields in
    let op : reply.op ≡ other.op =
    same_reply_op reply.op other.op first.opcode (sym fields.opcode) (sym fields'.opcode) in
    let size : reply.size ≡ other.size = sym fields.size ∙ fields'.size in
    let source : reply.source ≡ other.source = sym fields.source ∙ fields'.source in
    let denied : reply.denied ≡ other.denied = sym fields.denied ∙ fields'.denied in
    let count : reply_byte_count reply.op reply.size ≡ reply_byte_count other.op other.size = rw (op, size) refl in
    let long : length reply.bytes ≡ length other.bytes = lawful.counted ∙ count ∙ sym lawful'.counted in
    let bytes : reply.bytes ≡ other.bytes =
    same_lists reply.bytes other.bytes long (λ j d h.
    let h' : j < length other.bytes = rw (← long) h in
    let there : j / 8 < length beats =
    rw spells.count (beat_of_byte (reply_carries_bytes reply.op) reply.size j (rw lawful.counted at h)) in
    same_byte j d h h' denied size there reply.denied refl) in
    λ i. record { op = op i; size = size i; source = source i; denied = denied i; bytes = bytes i }
  where
    same_byte : (j d : ℕ) → j < length reply.bytes → j < length other.bytes → reply.denied ≡ other.denied
        → reply.size ≡ other.size → j / 8 < length (first ∷ rest) → (is_denied : Bool) → reply.denied ≡ is_denied
        → get_or reply.bytes j d ≡ get_or other.bytes j d
    same_byte j d h h' denied size there true is = lawful.clean is j d h ∙ sym (lawful'.clean (sym denied ∙ is) j d h')
    same_byte j d h h' denied size there false is =
        let beats : List DBeat = first ∷ rest in
        let beat = get_or beats (j / 8) first in
        let at : slice_get beats (j / 8) ≡ Some beat = slice_get-get_or beats (j / 8) first there in
        let ours = (spells.each (j / 8) beat at).bytes is j (get_or reply.bytes j d)
        (slice_get-get_or reply.bytes j d h) refl in
        let theirs = (spells'.each (j / 8) beat at).bytes (sym denied ∙ is) j (get_or other.bytes j d)
        (slice_get-get_or other.bytes j d h') refl in
        sym ours ∙ ap (λ s. slice_index beat.lanes (lane_of address s j)) size ∙ theirs
