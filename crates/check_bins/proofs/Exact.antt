-- The order of bins tells them apart.
use Rattle.std.proofs.Common.{◌≡◌, ℕ, Bool, true, false, refl, ap, sym, subst}
use Rattle.std.specs.Ordering.{bool_cmp, is_eq, nat_cmp, ordering_reverse, ordering_then}
use Rattle.std.specs.Cmp.{Equal-is}
use Rattle.check_bins.proofs.Counted.{bins_total}
use Rattle.std.specs.declared.cmp.Ordering.{Ordering}
use Rattle.std.specs.declared.cmp.Ordering.TheVariants.{Less, Equal, Greater}
use Rattle.std.proofs.lemmas.Bool.{true≢false}
use Rattle.std.proofs.lemmas.Map.Lookups.{exact_unsigned}
use Rattle.check_bins.specs.contracts.bin.AccessOrd.TheImpl as access_ord
use Rattle.check_bins.specs.contracts.bin.CauseOrd.TheImpl as cause_ord
use Rattle.check_bins.specs.contracts.bin.CountedChannelOrd.TheImpl as channel_ord
use Rattle.check_bins.specs.contracts.bin.OperationOrd.TheImpl as operation_ord
use Rattle.check_bins.specs.contracts.bin.PairOrd.TheImpl as pair_ord
use Rattle.check_bins.specs.contracts.bin.ShapeOrd.TheImpl as shape_ord
use Rattle.check_bins.specs.declared.bin.Bin.{Bin}
use Rattle.check_bins.specs.declared.bin.Access.{Access}
use Rattle.check_bins.specs.declared.bin.Access.TheVariants as access
use Rattle.check_bins.specs.declared.bin.Cause.{Cause}
use Rattle.check_bins.specs.declared.bin.Cause.TheVariants.{Nowhere, NoPath, Unaligned, Beyond, Unserved}
use Rattle.check_bins.specs.declared.bin.CountedChannel.{CountedChannel}
use Rattle.check_bins.specs.declared.bin.CountedChannel.TheVariants.{A, D}
use Rattle.check_bins.specs.declared.bin.Operation.{Operation}
use Rattle.check_bins.specs.declared.bin.Pair.{Pair}
use Rattle.check_bins.specs.declared.bin.Shape.{Shape}
use Rattle.check_bins.specs.declared.bin.Shape.TheVariants.{Empty, Full, One, Hole, Low, High, Even, Odd, Other}
use Rattle.check_bins.specs.declared.bin.Bin.TheVariants.{Asked, Answered, Beats, Mask, InFlight, AtPort, Overtook, Again, Contested, Source, Range, Edge, Latency, Gap, Refused, Lane, After, Corrupt}
use Rattle.check_bins.specs.Counting.{bin_cmp}

then_both : (a b : Ordering) → ordering_then a b ≡ Equal → (a ≡ Equal) × (b ≡ Equal)
then_both Less b is = absurd (cc)
then_both Equal b is = (refl, is)
then_both Greater b is = absurd (cc)

bool_exact : (a b : Bool) → bool_cmp a b ≡ Equal → a ≡ b
bool_exact true true is = refl
bool_exact true false is = absurd (cc)
bool_exact false true is = absurd (cc)
bool_exact false false is = refl

channel_exact : (a b : CountedChannel) → (channel_ord.ghosts).cmp a b ≡ Equal → a ≡ b
channel_exact A A is = refl
channel_exact D D is = refl
channel_exact a b is = absurd (true≢false (ap is_eq (sym is)))

shape_exact : (a b : Shape) → (shape_ord.ghosts).cmp a b ≡ Equal → a ≡ b
shape_exact Empty Empty is = refl
shape_exact Full Full is = refl
shape_exact One One is = refl
shape_exact Hole Hole is = refl
shape_exact Low Low is = refl
shape_exact High High is = refl
shape_exact Even Even is = refl
shape_exact Odd Odd is = refl
shape_exact Other Other is = refl
shape_exact a b is = absurd (true≢false (ap is_eq (sym is)))

access_exact : (a b : Access) → (access_ord.ghosts).cmp a b ≡ Equal → a ≡ b
access_exact access.Read access.Read is = refl
access_exact access.Write access.Write is = refl
access_exact access.Atomic access.Atomic is = refl
access_exact access.Hint access.Hint is = refl
access_exact a b is = absurd (true≢false (ap is_eq (sym is)))

cause_exact : (a b : Cause) → (cause_ord.ghosts).cmp a b ≡ Equal → a ≡ b
cause_exact Nowhere Nowhere is = refl
cause_exact NoPath NoPath is = refl
cause_exact Unaligned Unaligned is = refl
cause_exact Beyond Beyond is = refl
cause_exact Unserved Unserved is = refl
cause_exact a b is = absurd (true≢false (ap is_eq (sym is)))

pair_exact : (p q : Pair) → (pair_ord.ghosts).cmp p q ≡ Equal → p ≡ q
pair_exact p q is =
    let both = then_both (nat_cmp p.master q.master) (nat_cmp p.port q.port) is in
    λ i. record { master = exact_unsigned p.master q.master both.0 i; port = exact_unsigned p.port q.port both.1 i }

operation_exact : (o r : Operation) → (operation_ord.ghosts).cmp o r ≡ Equal → o ≡ r
operation_exact o r is =
    let first = then_both (nat_cmp o.opcode r.opcode) (ordering_then (nat_cmp o.param r.param) (nat_cmp o.size r.size)) is in
    let second = then_both (nat_cmp o.param r.param) (nat_cmp o.size r.size) first.1 in
    λ i. record {
      opcode = exact_unsigned o.opcode r.opcode first.0 i;
      param = exact_unsigned o.param r.param second.0 i;
      size = exact_unsigned o.size r.size second.1 i;
    }

exact : (one other : Bin) → bin_cmp one other ≡ Equal → one ≡ other
unfolding bin_cmp
exact (Asked p o u) (Asked q r v) is =
    let first = then_both ((pair_ord.ghosts).cmp p q) (ordering_then ((operation_ord.ghosts).cmp o r) (bool_cmp u v)) is in
    let second = then_both ((operation_ord.ghosts).cmp o r) (bool_cmp u v) first.1 in
    λ i. Asked (pair_exact p q first.0 i) (operation_exact o r second.0 i) (bool_exact u v second.1 i)
exact (Answered p o u) (Answered q r v) is =
    let first = then_both ((pair_ord.ghosts).cmp p q) (ordering_then ((operation_ord.ghosts).cmp o r) (bool_cmp u v)) is in
    let second = then_both ((operation_ord.ghosts).cmp o r) (bool_cmp u v) first.1 in
    λ i. Answered (pair_exact p q first.0 i) (operation_exact o r second.0 i) (bool_exact u v second.1 i)
exact (Beats p c n) (Beats q d m) is =
    let first = then_both ((pair_ord.ghosts).cmp p q) (ordering_then ((channel_ord.ghosts).cmp c d) (nat_cmp n m)) is in
    let second = then_both ((channel_ord.ghosts).cmp c d) (nat_cmp n m) first.1 in
    λ i. Beats (pair_exact p q first.0 i) (channel_exact c d second.0 i) (exact_unsigned n m second.1 i)
exact (Mask p n s) (Mask q m t) is =
    let first = then_both ((pair_ord.ghosts).cmp p q) (ordering_then (nat_cmp n m) ((shape_ord.ghosts).cmp s t)) is in
    let second = then_both (nat_cmp n m) ((shape_ord.ghosts).cmp s t) first.1 in
    λ i. Mask (pair_exact p q first.0 i) (exact_unsigned n m second.0 i) (shape_exact s t second.1 i)
exact (InFlight m n) (InFlight k l) is =
    let both = then_both (nat_cmp m k) (nat_cmp n l) is in
    λ i. InFlight (exact_unsigned m k both.0 i) (exact_unsigned n l both.1 i)
exact (AtPort m n) (AtPort k l) is =
    let both = then_both (nat_cmp m k) (nat_cmp n l) is in
    λ i. AtPort (exact_unsigned m k both.0 i) (exact_unsigned n l both.1 i)
exact (Overtook p u) (Overtook q v) is =
    let both = then_both ((pair_ord.ghosts).cmp p q) (bool_cmp u v) is in
    λ i. Overtook (pair_exact p q both.0 i) (bool_exact u v both.1 i)
exact (Again m n) (Again k l) is =
    let both = then_both (nat_cmp m k) (nat_cmp n l) is in
    λ i. Again (exact_unsigned m k both.0 i) (exact_unsigned n l both.1 i)
exact (Contested m) (Contested k) is = ap (λ (n : ℕ). Contested n) (exact_unsigned m k is)
exact (Source m n) (Source k l) is =
    let both = then_both (nat_cmp m k) (nat_cmp n l) is in
    λ i. Source (exact_unsigned m k both.0 i) (exact_unsigned n l both.1 i)
exact (Range m n) (Range k l) is =
    let both = then_both (nat_cmp m k) (nat_cmp n l) is in
    λ i. Range (exact_unsigned m k both.0 i) (exact_unsigned n l both.1 i)
exact (Edge m n u) (Edge k l v) is =
    let first = then_both (nat_cmp m k) (ordering_then (nat_cmp n l) (bool_cmp u v)) is in
    let second = then_both (nat_cmp n l) (bool_cmp u v) first.1 in
    λ i. Edge (exact_unsigned m k first.0 i) (exact_unsigned n l second.0 i) (bool_exact u v second.1 i)
exact (Latency m n) (Latency k l) is =
    let both = then_both (nat_cmp m k) (nat_cmp n l) is in
    λ i. Latency (exact_unsigned m k both.0 i) (exact_unsigned n l both.1 i)
exact (Gap p c n) (Gap q d m) is =
    let first = then_both ((pair_ord.ghosts).cmp p q) (ordering_then ((channel_ord.ghosts).cmp c d) (nat_cmp n m)) is in
    let second = then_both ((channel_ord.ghosts).cmp c d) (nat_cmp n m) first.1 in
    λ i. Gap (pair_exact p q first.0 i) (channel_exact c d second.0 i) (exact_unsigned n m second.1 i)
exact (Refused m a) (Refused k b) is =
    let both = then_both (nat_cmp m k) ((cause_ord.ghosts).cmp a b) is in
    λ i. Refused (exact_unsigned m k both.0 i) (cause_exact a b both.1 i)
exact (Lane m s n) (Lane k t l) is =
    let first = then_both (nat_cmp m k) (ordering_then (nat_cmp s t) (nat_cmp n l)) is in
    let second = then_both (nat_cmp s t) (nat_cmp n l) first.1 in
    λ i. Lane (exact_unsigned m k first.0 i) (exact_unsigned s t second.0 i) (exact_unsigned n l second.1 i)
exact (After m a b) (After k c d) is =
    let first = then_both (nat_cmp m k) (ordering_then ((access_ord.ghosts).cmp a c) ((access_ord.ghosts).cmp b d)) is in
    let second = then_both ((access_ord.ghosts).cmp a c) ((access_ord.ghosts).cmp b d) first.1 in
    λ i. After (exact_unsigned m k first.0 i) (access_exact a c second.0 i) (access_exact b d second.1 i)
exact (Corrupt p o u) (Corrupt q r v) is =
    let first = then_both ((pair_ord.ghosts).cmp p q) (ordering_then ((operation_ord.ghosts).cmp o r) (bool_cmp u v)) is in
    let second = then_both ((operation_ord.ghosts).cmp o r) (bool_cmp u v) first.1 in
    λ i. Corrupt (pair_exact p q first.0 i) (operation_exact o r second.0 i) (bool_exact u v second.1 i)
exact one other is = absurd (true≢false (ap is_eq (sym is)))

pub exact_eq : (one other : Bin) → is_eq (bin_cmp one other) ≡ true → one ≡ other
exact_eq one other is = exact one other ((Equal-is (bin_cmp one other)).0 is)

itself : (one : Bin) → bin_cmp one one ≡ Equal
itself one = tied (bin_cmp one one) (bins_total.antisymm one one)
  where
    tied : (r : Ordering) → r ≡ ordering_reverse r → r ≡ Equal
    tied Less is = absurd (cc)
    tied Equal is = refl
    tied Greater is = absurd (cc)

pub same : (one other : Bin) → one ≡ other → is_eq (bin_cmp one other) ≡ true
same one other is =
    (Equal-is (bin_cmp one other)).1 (subst (λ (b : Bin). bin_cmp one b ≡ Equal) is (itself one))
