-- The move `installed` of a controller.
use Rattle.std.proofs.Common.{◌≡◌, ℕ, ◌≤◌, true, refl, sym, ◌∙◌, inl, arith}
use Rattle.nop_types.specs.Meaning.{Meaning}
use Rattle.nop_types.specs.Sessions.{home}
use Rattle.lemmas.proofs.Prefixes.{IsPrefixOf-refl}
use Rattle.protocol.specs.Conf.{Conf, Control}
use Rattle.protocol.specs.Invariant.{GoodControl, Inv}
use Rattle.protocol.specs.Moves.{installed}
use Rattle.protocol.proofs.Growing.{Kept, lines_last}
use Rattle.protocol.proofs.Outside.{outside_keeps}
use Rattle.lemmas.proofs.Functions.{put-all}
use Rattle.protocol.proofs.Stays.{onward_refl, client_lasts}

module _ {S : Type 0} (m : Meaning S) (f : ℕ) (c : Conf) (inv : Inv m f c) where
  -- the last session and to whom it went stay
  pub installed_keeps : (k : ℕ) → Kept m f c (installed c k)
  installed_keeps k =
      let d = installed c k in
      let now : Control = record (c.controllers k) { confirmed = true } in
      outside_keeps m f c inv (record {
        sequencers = c.sequencers;
        clients = c.clients;
        controllers = d.controllers;
        requests = c.requests;
        stamps = c.stamps;
        installs = c.installs;
        lines = c.lines;
      })
      (record {
        requests = λ x i. i;
        stamps = λ p i. i;
        installs = λ x i. i;
        lines = IsPrefixOf-refl c.lines;
        sequencers = λ i. onward_refl (c.sequencers i);
        controllers = put-all (λ n t. (c.controllers n).session ≤ t.session) c.controllers k now (omega arith) (λ n a. omega arith);
        last_ids = λ i. omega arith;
      })
      (λ ev. record {
        requests = λ x i. inl i;
        stamps = λ p i. inl i;
        stamped_once = inv.stamped_once;
        sequencers = inv.sequencers;
        installs = λ x i.
            let t = inv.installs x i in
            let same = put-all (λ n y. (y.session ≡ (c.controllers n).session) × (y.current ≡ (c.controllers n).current)) c.controllers k
            now (refl, refl) (λ n a. (refl, refl)) (home x.session) in
            record { low = t.low; known = omega (arith, t.known, same.0); current = λ e. t.current (e ∙ same.0) ∙ sym same.1 };
        installed_once = inv.installed_once;
        controllers = put-all (λ n t. GoodControl c.installs t) c.controllers k now (record {
          low = (inv.controllers k).low;
          given = λ e. absurd cc;
        }) (λ n a. inv.controllers n);
        lines = lines_last m f c d ev refl refl inv.lines;
        clients = λ i. client_lasts m f c d ev i (c.clients i) (inv.clients i);
      })
