-- Logs that are read are those that were written, and what was written is read again.
use Rattle.std.proofs.Common.{◌≡◌, ℕ, ◌+◌, ◌-◌, ◌≤◌, Bool, true, false, cond, List, ◌++◌, length, Option, Some, None, Result, Ok, refl}
use Rattle.std.proofs.Common.{sym, ap, subst, ◌∙◌, append_assoc, arith}
use Rattle.std.specs.Prelude.{nat_lt, is_some, IfSome}
use Rattle.std.specs.Int.{w32}
use Rattle.std.specs.List.{flat_map}
use Rattle.nop_types.specs.Checkpoints.{Checkpoint, CheckpointFits}
use Rattle.nop_types.specs.Logs.{Log, Trimmed}
use Rattle.nop_types.specs.Ranges.{CheckpointIsIn, LogFits}
use Rattle.nop_types.specs.declared.limits.TheConstants.{MAX_LENGTH, MAX_SLOTS}
use Rattle.nop_types.specs.declared.request.Entry.{Entry}
use Rattle.oum_codec.specs.Numbers.{IsBytes, be_bytes}
use Rattle.oum_codec.specs.Reading.{◌>>=◌}
use Rattle.oum_codec.proofs.Steps.{bind_ok, ok_is}
use Rattle.oum_codec.proofs.Numbers.{Takes, Takes-then}
use Rattle.peer_codec.specs.declared.bad_peer.BadPeer.{BadPeer}
use Rattle.peer_codec.specs.Spelling.{entry_bytes, entries_bytes, optional_bytes, log_bytes}
use Rattle.peer_codec.specs.Fields.{length_at, count_at}
use Rattle.peer_codec.specs.Logs.{entries_at, checkpoint_at, optional_at, log_at}
use Rattle.peer_codec.proofs.EachField.{length_takes, length_again, count_takes, count_again}
use Rattle.peer_codec.proofs.Entries.{entries_take, entries_again}
use Rattle.peer_codec.proofs.Accounts.{checkpoint_takes, checkpoint_again}

abbrev ReadOptional : Type 0
ReadOptional = Result (Option Checkpoint × List ℕ) BadPeer

abbrev optional : Option Checkpoint × List ℕ → ReadOptional
optional x = Ok x

-- what is read by a test of the sync point
abbrev optional_if : Bool → List ℕ → ReadOptional
optional_if test bytes = cond test (checkpoint_at bytes >>= λ c. Ok (Some c.0, c.1)) (Ok (None, bytes))

-- a checkpoint, or none, was taken from the front of the bytes
record TakesOptional (test : Bool) (bytes : List ℕ) (x : Option Checkpoint × List ℕ) : Type 0 where
  pub takes : Takes bytes (optional_bytes x.0) x.1
  pub is_there : is_some x.0 ≡ test
  pub fits : IfSome x.0 CheckpointFits

optional_takes : (test : Bool) (bytes : List ℕ) (x : Option Checkpoint × List ℕ) → IsBytes bytes → optional_if test bytes ≡ Ok x
    → TakesOptional test bytes x
optional_takes true bytes x fits e =
    let a = bind_ok (checkpoint_at bytes) (λ c. Ok (Some c.0, c.1)) x e in
    let t = checkpoint_takes bytes a.0 fits a.1 in
    let made : Option Checkpoint × List ℕ = (Some a.0.0, a.0.1) in
    subst (TakesOptional true bytes) (ok_is made x a.2) (record { takes = t.0; is_there = refl; fits = t.1 })
optional_takes false bytes x fits e =
    let made : Option Checkpoint × List ℕ = (None, bytes) in
    subst (TakesOptional false bytes) (ok_is made x e) (record { takes = record { parts = refl; rest_fits = fits }; is_there = refl; fits = tt })

optional_again : (test : Bool) (o : Option Checkpoint) (rest : List ℕ) → is_some o ≡ test → IfSome o CheckpointFits
    → optional_if test (optional_bytes o ++ rest) ≡ Ok (o, rest)
optional_again true (Some c) rest is fits = rw (checkpoint_again c rest fits) refl
optional_again true None rest is fits = absurd cc
optional_again false (Some c) rest is fits = absurd cc
optional_again false None rest is fits = refl

optional_at_again : (z : ℕ) (o : Option Checkpoint) (rest : List ℕ) → CheckpointIsIn Trimmed z o
    → optional_at z (optional_bytes o ++ rest) ≡ Ok (o, rest)
unfolding optional_at
optional_at_again z o rest fits = optional_again (nat_lt 0 z) o rest fits.0 fits.1

optional_at_takes : (z : ℕ) (bytes : List ℕ) (x : Option Checkpoint × List ℕ) → IsBytes bytes → optional_at z bytes ≡ Ok x
    → TakesOptional (nat_lt 0 z) bytes x
unfolding optional_at
optional_at_takes z bytes x fits e = optional_takes (nat_lt 0 z) bytes x fits e

pub log_takes : (bytes : List ℕ) (x : Log × List ℕ) → IsBytes bytes → log_at bytes ≡ Ok x
    → Takes bytes (log_bytes x.0) x.1 × LogFits x.0
unfolding log_at
log_takes bytes x fits e =
    let a = bind_ok (length_at bytes) _ x e in
    let b = bind_ok (optional_at a.0.0 a.0.1) _ x a.2 in
    let c = bind_ok (count_at a.0.0 b.0.1) _ x b.2 in
    let d = bind_ok (entries_at c.0.0 c.0.1) _ x c.2 in
    let t0 = length_takes bytes a.0 fits a.1 in
    let t1 = optional_at_takes a.0.0 a.0.1 b.0 t0.0.rest_fits b.1 in
    let t2 = count_takes a.0.0 b.0.1 c.0 t1.takes.rest_fits c.1 in
    let t3 = entries_take c.0.0 c.0.1 d.0 t2.0.rest_fits d.1 in
    let counted = Takes-then b.0.1 (be_bytes w32 c.0.0) c.0.1 (flat_map entry_bytes d.0.0) d.0.1 t2.0 t3.takes in
    let entries : Takes b.0.1 (entries_bytes d.0.0) d.0.1 =
    subst (λ (n : ℕ). Takes b.0.1 (be_bytes w32 n ++ flat_map entry_bytes d.0.0) d.0.1) (sym t3.count) counted in
    let prefix = Takes-then bytes _ _ _ _ t0.0 t1.takes in
    let both = Takes-then bytes _ _ _ _ prefix entries in
    let most : length d.0.0 ≤ MAX_SLOTS = rw t3.count t2.1.most in
    let limit : a.0.0 + length d.0.0 ≤ MAX_LENGTH = rw t3.count t2.1.limit in
    let room : a.0.0 + length d.0.0 - a.0.0 ≤ MAX_SLOTS = omega (arith, most) in
    let made : Log × List ℕ = (record { sync_point = a.0.0; checkpoint = b.0.0; entries = d.0.0 }, d.0.1) in
    subst (λ (y : Log × List ℕ). Takes bytes (log_bytes y.0) y.1 × LogFits y.0) (ok_is made x d.2) (
      both,
      record { entries = t3.each; room = room; limit = limit; point = omega arith; checkpoint = (t1.is_there, t1.fits) },
    )

pub log_again : (log : Log) (rest : List ℕ) → LogFits log → log_at (log_bytes log ++ rest) ≡ Ok (log, rest)
unfolding log_at
log_again log rest fits =
    let z : ℕ = log.sync_point in
    let entries : List Entry = log.entries in
    let after : List ℕ = flat_map entry_bytes entries ++ rest in
    let counted : List ℕ = be_bytes w32 (length entries) ++ after in
    let most : length entries ≤ MAX_SLOTS = omega (arith, fits.room) in
    let regrouped : log_bytes log ++ rest ≡ be_bytes w32 z ++ (optional_bytes log.checkpoint ++ counted) =
    append_assoc (be_bytes w32 z ++ optional_bytes log.checkpoint) (entries_bytes entries) rest
    ∙ append_assoc (be_bytes w32 z) (optional_bytes log.checkpoint) (entries_bytes entries ++ rest)
    ∙ ap (λ (t : List ℕ). be_bytes w32 z ++ (optional_bytes log.checkpoint ++ t))
    (append_assoc (be_bytes w32 (length entries)) (flat_map entry_bytes entries) rest) in
    rw (
      regrouped,
      length_again z (optional_bytes log.checkpoint ++ counted) (omega (arith, fits.limit)),
      optional_at_again z log.checkpoint counted fits.checkpoint,
      count_again z (length entries) after most fits.limit,
      entries_again entries rest fits.entries,
    ) refl
