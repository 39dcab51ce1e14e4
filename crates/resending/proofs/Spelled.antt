-- An acknowledgement and its bytes.
use Rattle.std.proofs.Common.{◌≡◌, ◌<◌, ◌^◌, ℕ, List, [], ◌∷◌, length, Some, arith}
use Rattle.std.specs.Prelude.{false, ◌==◌}
use Rattle.std.specs.List.{AllByRecursion}
use Rattle.std.proofs.lemmas.Bool.{ne_eqb}
use Rattle.std.proofs.lemmas.Nat.{from_be_bytes-to_be_bytes_2, from_be_bytes-to_be_bytes_8}
use Rattle.resending.specs.declared.acks.Ack.{Ack}
use Rattle.resending.specs.Acks.{AckFits, ack_bytes, reading}

abbrev Fit : List ℕ → Type 0
Fit is = AllByRecursion (λ i. i < 2 ^ 16) is

positive : (w : ℕ) → 0 < w → (w == 0) ≡ false
positive w pos = ne_eqb w 0 (λ e. omega (arith, e, pos))

-- with eight indexes
again : (w m : ℕ) (is : List ℕ) → 0 < w → m < 2 ^ 64 → length is ≡ 8 → Fit is
    → reading (ack_bytes (record { window = w; message = m; indexes = is })) ≡ Some (record { window = w; message = m; indexes = is })
unfolding reading ack_bytes
again w m (a ∷ b ∷ c ∷ d ∷ e ∷ f ∷ g ∷ h ∷ []) pos low count fit =
    let message = from_be_bytes-to_be_bytes_8 m low in
    let first = from_be_bytes-to_be_bytes_2 a fit.0 in
    let second = from_be_bytes-to_be_bytes_2 b fit.1.0 in
    let third = from_be_bytes-to_be_bytes_2 c fit.1.1.0 in
    let fourth = from_be_bytes-to_be_bytes_2 d fit.1.1.1.0 in
    let fifth = from_be_bytes-to_be_bytes_2 e fit.1.1.1.1.0 in
    let sixth = from_be_bytes-to_be_bytes_2 f fit.1.1.1.1.1.0 in
    let seventh = from_be_bytes-to_be_bytes_2 g fit.1.1.1.1.1.1.0 in
    let eighth = from_be_bytes-to_be_bytes_2 h fit.1.1.1.1.1.1.1.0 in
    rw (positive w pos)
    (λ k. Some
    (record {
      window = w;
      message = message k;
      indexes = first k ∷ second k ∷ third k ∷ fourth k ∷ fifth k ∷ sixth k ∷ seventh k ∷ eighth k ∷ [];
    }))
again w m [] pos low count fit = absurd (omega (arith, count))
again w m (a ∷ []) pos low count fit = absurd (omega (arith, count))
again w m (a ∷ b ∷ []) pos low count fit = absurd (omega (arith, count))
again w m (a ∷ b ∷ c ∷ []) pos low count fit = absurd (omega (arith, count))
again w m (a ∷ b ∷ c ∷ d ∷ []) pos low count fit = absurd (omega (arith, count))
again w m (a ∷ b ∷ c ∷ d ∷ e ∷ []) pos low count fit = absurd (omega (arith, count))
again w m (a ∷ b ∷ c ∷ d ∷ e ∷ f ∷ []) pos low count fit = absurd (omega (arith, count))
again w m (a ∷ b ∷ c ∷ d ∷ e ∷ f ∷ g ∷ []) pos low count fit = absurd (omega (arith, count))
again w m (a ∷ b ∷ c ∷ d ∷ e ∷ f ∷ g ∷ h ∷ i ∷ is) pos low count fit = absurd (omega (arith, count))

pub spelled_is_read : (ack : Ack) → AckFits ack → reading (ack_bytes ack) ≡ Some ack
spelled_is_read ack fits = again ack.window ack.message ack.indexes fits.window fits.message fits.count fits.indexes
