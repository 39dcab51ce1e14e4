-- The move `queue`.
use Rattle.std.proofs.Common.{◌≡◌, ℕ, ◌+◌, ◌*◌, ◌<◌, refl, ◌∙◌}
use Rattle.nop_types.specs.declared.datagram.Stamped.{Stamped}
use Rattle.nop_types.specs.Lists.{Has}
use Rattle.nop_types.specs.Meaning.{Meaning}
use Rattle.oum_receiver.specs.declared.verdict.Verdict.{Verdict}
use Rattle.oum_receiver.specs.declared.verdict.Verdict.TheVariants.{Queued}
use Rattle.oum_receiver.specs.Receiving.{Receiving, verdict_of, judged}
use Rattle.oum_receiver.proofs.Stamps.{offered_stamped}
use Rattle.lemmas.proofs.Members.{Has-none}
use Rattle.protocol.specs.Conf.{Conf, after}
use Rattle.protocol.specs.Evolves.{Evolves}
use Rattle.protocol.specs.Invariant.{GoodLog, Own, Inv}
use Rattle.protocol.specs.LocalState.{LocalState}
use Rattle.protocol.specs.Moves.{queue}
use Rattle.protocol.proofs.Growing.{Kept}
use Rattle.protocol.proofs.Local.{turns_same, local_keeps}
use Rattle.protocol.proofs.Stays.{log_lasts, own_lasts}
use Rattle.protocol.proofs.Spoken.{none_spoken}

-- an offer changes neither session nor number
offered_same : (x : Receiving) (v : Verdict) (p : Stamped) → ((judged v x p).session ≡ x.session) × ((judged v x p).next ≡ x.next)
offered_same x Queued p = (refl, refl)
offered_same x _ p = (refl, refl)

module _ {S : Type 0} (m : Meaning S) (f : ℕ) (c : Conf) (r : ℕ) (inv : Inv m f c) (within : r < 2 * f + 1) where
  abbrev p : LocalState
  p = c.replicas r

  own : Own f c r p
  own = inv.own r within

  -- the log that stayed
  log_same : (d : Conf) → Evolves f c d → GoodLog f d r p.last_normal p.log
  log_same d ev = log_lasts m f c d ev r p.last_normal p.log (inv.logs r p.last_normal p.log (inv.current r within))

  pub queue_keeps : (x : Stamped) → Has c.stamps x → Kept m f c (after f c r (queue p x))
  queue_keeps x sent = local_keeps m f c r (queue p x) inv within refl refl (turns_same f c r) (λ d ev had.
      let o : Own f d r p = own_lasts m f c d ev r p own in
      let same = offered_same p.receiver (verdict_of p.receiver x) x in
      record {
        log = log_same d ev;
        spoken = none_spoken p.view;
        said = λ y i. absurd (Has-none y i);
        replies = λ y i. absurd (Has-none y i);
        own = record {
          number = o.number;
          replicas = o.replicas;
          place = o.place;
          queue = record {
            session = same.0 ∙ o.queue.session;
            front = λ n. same.1 ∙ o.queue.front n;
            queued = offered_stamped d.stamps p.receiver x o.queue.queued (ev.sent.stamps x sent);
          };
          gap = o.gap;
          changes = o.changes;
        };
      })
