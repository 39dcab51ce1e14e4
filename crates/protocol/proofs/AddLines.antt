-- The move that adds lines that neither submit nor accept.
use Rattle.std.proofs.Common.{ℕ, refl, inl, arith, List, ◌++◌}
use Rattle.nop_types.specs.Lines.{Line}
use Rattle.nop_types.specs.Meaning.{Meaning}
use Rattle.protocol.specs.Conf.{Conf}
use Rattle.protocol.specs.Moves.{add_lines, MayAddLines}
use Rattle.protocol.specs.Invariant.{Inv}
use Rattle.protocol.proofs.Clients.{lines_with_others}
use Rattle.protocol.proofs.Growing.{Kept}
use Rattle.protocol.proofs.Outside.{outside_keeps}
use Rattle.protocol.proofs.Stays.{onward_refl, client_lasts}

pub add_lines_keeps : {S : Type 0} (m : Meaning S) (f : ℕ) (c : Conf) → Inv m f c → (more : List Line) → MayAddLines more → Kept m f c (add_lines c more)
add_lines_keeps m f c inv more may =
    outside_keeps m f c inv (record {
      sequencers = c.sequencers;
      clients = c.clients;
      controllers = c.controllers;
      requests = c.requests;
      stamps = c.stamps;
      installs = c.installs;
      lines = c.lines ++ more;
    })
    (record {
      requests = λ x i. i;
      stamps = λ p i. i;
      installs = λ x i. i;
      lines = (more, refl);
      sequencers = λ j. onward_refl (c.sequencers j);
      controllers = λ i. omega arith;
      last_ids = λ k. omega arith;
    })
    (λ ev. record {
      requests = λ x i. inl i;
      stamps = λ p i. inl i;
      stamped_once = inv.stamped_once;
      sequencers = inv.sequencers;
      installs = λ x i. let t = inv.installs x i in record { low = t.low; known = t.known; current = t.current };
      installed_once = inv.installed_once;
      controllers = inv.controllers;
      lines = lines_with_others m f c (add_lines c more) more ev (λ k q e. e) may refl inv.lines;
      clients = λ k. client_lasts m f c (add_lines c more) ev k (c.clients k) (inv.clients k);
    })
