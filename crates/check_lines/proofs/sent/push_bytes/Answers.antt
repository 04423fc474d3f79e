-- One more byte is spelled.
use Rattle.std.proofs.Common.{◌≡◌, ◌∙◌, ◌+◌, ◌<◌, ◌++◌, ℕ, zero, suc, false, List, [], ◌∷◌, Option, None, length, get_or, ap, sym, arith}
use Rattle.std.specs.Prelude.{slice_index_or}
use Rattle.std.specs.List.{flat_map, range_with_len}
use Rattle.std.proofs.lemmas.Grind.{common_steps, flat_map-append}
use Rattle.std.proofs.lemmas.Option.{get_or_from_slice_get}
use Rattle.std.proofs.lemmas.List.{append-nil}
use Rattle.tl_types.specs.Request.{Request}
use Rattle.check_cells.specs.Sent.{Sent}
use Rattle.check_lines.specs.Sent.{sent_byte_text}
use Rattle.check_lines.proofs.sent.push_bytes.Goals as goal

range_more : (n a : ℕ) → range_with_len a (suc n) ≡ range_with_len a n ++ (a + n) ∷ []
range_more zero a = let same : a ≡ a + 0 = omega arith in ap (λ x. x ∷ []) same
range_more (suc n) a =
    let same : a + 1 + n ≡ a + suc n = omega arith in
    ap (λ l. a ∷ l) (range_more n (a + 1) ∙ ap (λ x. range_with_len (a + 1) n ++ x ∷ []) same)

-- the text of one byte more
one_more : (sent : Sent) (n : ℕ) → flat_map (sent_byte_text sent) (range_with_len 0 (n + 1))
    ≡ flat_map (sent_byte_text sent) (range_with_len 0 n) ++ sent_byte_text sent n
one_more sent n =
    let next : n + 1 ≡ suc n = omega arith in
    let last : 0 + n ≡ n = omega arith in
    ap (λ k. flat_map (sent_byte_text sent) (range_with_len 0 k)) next
    ∙ ap (flat_map (sent_byte_text sent)) (range_more n 0 ∙ ap (λ k. range_with_len 0 n ++ k ∷ []) last)
    ∙ flat_map-append (sent_byte_text sent) (range_with_len 0 n) (n ∷ [])
    ∙ ap (λ l. flat_map (sent_byte_text sent) (range_with_len 0 n) ++ l) (append-nil (sent_byte_text sent n))

pub loop-place-preserved : goal.loop-place-preserved
loop-place-preserved c =
    let sent = c.args.sent.now in
    let place = c.loop-place.place in
    let bytes_are : c.bytes-bytes.result.now ≡ sent.ask.bytes =
    c.bytes-bytes.ensures.value ∙ ap (λ (ask : Request). ask.bytes) c.ask.ensures in
    let counted : length c.bytes-bytes.result.now ≡ length sent.ask.bytes = ap (λ (l : List (Option ℕ)). length l) bytes_are in
    let within : place < length sent.ask.bytes =
    omega (arith, c.loop-place-test.true, c.len-place-end.ensures.value, counted) in
    let byte : get_or sent.ask.bytes place None ≡ c.get-in-loop-place.result =
    ap (λ l. get_or l place None) (sym bytes_are)
    ∙ get_or_from_slice_get c.bytes-bytes.result.now place c.get-in-loop-place.result None c.get-in-loop-place.ensures in
    let mark : c.get.result ≡ slice_index_or sent.spoiled place false =
    c.get.ensures ∙ ap (λ l. slice_index_or l place false) c.marks.ensures in
    let more = one_more sent place in
    grind (arith, common_steps, byte, mark, within, more)
