-- The move `install` of a sequencer.
use Rattle.std.proofs.Common.{ℕ, refl, inl, inr, arith}
use Rattle.nop_types.specs.Meaning.{Meaning}
use Rattle.lemmas.proofs.Prefixes.{IsPrefixOf-refl}
use Rattle.sequencer.specs.declared.state.SequencerState.{SequencerState}
use Rattle.protocol.specs.Conf.{Conf}
use Rattle.protocol.specs.Evolves.{Onward}
use Rattle.protocol.specs.Invariant.{GoodSequencer, Inv}
use Rattle.protocol.specs.Moves.{install, MayInstall}
use Rattle.protocol.proofs.Growing.{Kept, lines_last}
use Rattle.protocol.proofs.Outside.{outside_keeps}
use Rattle.lemmas.proofs.Functions.{put-all}
use Rattle.protocol.proofs.Stays.{onward_refl, client_lasts}

module _ {S : Type 0} (m : Meaning S) (f : ℕ) (c : Conf) (inv : Inv m f c) where
  -- no stamp of the sequencer is of a later session than its own
  pub install_keeps : (j s : ℕ) → MayInstall c j s → Kept m f c (install c j s)
  install_keeps j s may =
      let d = install c j s in
      let now : SequencerState = record (c.sequencers j) { session = s; next = 1 } in
      outside_keeps m f c inv (record {
        sequencers = d.sequencers;
        clients = c.clients;
        controllers = c.controllers;
        requests = c.requests;
        stamps = c.stamps;
        installs = c.installs;
        lines = c.lines;
      })
      (record {
        requests = λ x i. i;
        stamps = λ p i. i;
        installs = λ x i. i;
        lines = IsPrefixOf-refl c.lines;
        sequencers = put-all (λ n t. Onward (c.sequencers n) t) c.sequencers j now (record {
          session = omega (arith, may.later);
          next = λ e. absurd (omega (arith, may.later, e));
        }) (λ n a. onward_refl (c.sequencers n));
        controllers = λ n. omega arith;
        last_ids = λ i. omega arith;
      })
      (λ ev. record {
        requests = λ x i. inl i;
        stamps = λ p i. inl i;
        stamped_once = inv.stamped_once;
        sequencers = put-all (λ n t. GoodSequencer c.installs n t) c.sequencers j now (record {
          number = (inv.sequencers j).number;
          owns = λ one. inr may.sent;
          low = omega arith;
        }) (λ n a. inv.sequencers n);
        installs = λ x i. let t = inv.installs x i in record { low = t.low; known = t.known; current = t.current };
        installed_once = inv.installed_once;
        controllers = inv.controllers;
        lines = lines_last m f c d ev refl refl inv.lines;
        clients = λ i. client_lasts m f c d ev i (c.clients i) (inv.clients i);
      })
