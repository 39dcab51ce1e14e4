-- One turn of a drain over whole logs.
use Rattle.std.proofs.Common.{◌≡◌, ℕ, suc, Bool, true, false, refl, ap, ◌∙◌}
use Rattle.nop_types.specs.Logs.{Whole}
use Rattle.nop_types.specs.Meaning.{Meaning}
use Rattle.nop_types.specs.declared.request.Request.{Request}
use Rattle.oum_receiver.specs.Front.{Front, Nothing, Message, Dropped}
use Rattle.oum_receiver.specs.Receiving.{front_of}
use Rattle.replica_state.specs.declared.state.ReplicaState.{ReplicaState}
use Rattle.replica_state.specs.Moves.{drain_by, drain_at, drain_drop, take_front, ask}
use Rattle.replica_state.specs.Sends.{still, then_do}
use Rattle.replica_state.specs.State.{drains, leads}

module _ {S : Type 0} (m : Meaning S) where
  stop_at : (n : ℕ) (s : ReplicaState) (b : Bool) → drain_at m Whole (drain_by m Whole n) s b Nothing ≡ still s
  stop_at n s true = refl
  stop_at n s false = refl

  pub stops : (n : ℕ) (s : ReplicaState) → front_of s.receiver ≡ Nothing → drain_by m Whole (suc n) s ≡ still s
  stops n s h = ap (λ (f : Front). drain_at m Whole (drain_by m Whole n) s (drains Whole s) f) h ∙ stop_at n s (drains Whole s)

  pub takes : (n : ℕ) (s : ReplicaState) (r : Request) → drains Whole s ≡ true → front_of s.receiver ≡ Message r
      → drain_by m Whole (suc n) s ≡ then_do (take_front m Whole s r) (drain_by m Whole n)
  takes n s r d h =
      ap (λ (f : Front). drain_at m Whole (drain_by m Whole n) s (drains Whole s) f) h
      ∙ ap (λ (b : Bool). drain_at m Whole (drain_by m Whole n) s b (Message r)) d

  pub asks : (n : ℕ) (s : ReplicaState) → drains Whole s ≡ true → leads s ≡ false → front_of s.receiver ≡ Dropped
      → drain_by m Whole (suc n) s ≡ ask Whole s
  asks n s d l h =
      ap (λ (f : Front). drain_at m Whole (drain_by m Whole n) s (drains Whole s) f) h
      ∙ ap (λ (b : Bool). drain_at m Whole (drain_by m Whole n) s b Dropped) d
      ∙ ap (λ (b : Bool). drain_drop Whole (drain_by m Whole n) b s) l
