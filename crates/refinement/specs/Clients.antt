-- What each row of a client's step table is in the protocol.
use Rattle.std.specs.Prelude.{ℕ, List, [], ◌∷◌, ◌++◌}
use Rattle.lemmas.specs.Functions.{put}
use Rattle.nop_types.specs.Given.{Given}
use Rattle.nop_types.specs.Meaning.{Meaning}
use Rattle.nop_types.specs.declared.output.Out.{Out}
use Rattle.nop_types.specs.declared.output.Out.TheVariants.{Submitted}
use Rattle.nop_types.specs.declared.request.Request.{Request}
use Rattle.client_quorum.specs.declared.state.ClientState.{ClientState}
use Rattle.client_quorum.specs.ClientSteps.{next}
use Rattle.protocol.specs.Conf.{Conf}
use Rattle.protocol.specs.Invariant.{Inv}
use Rattle.refinement.specs.Datagrams.{MayCome}
use Rattle.refinement.specs.Lines.{lines_in}
use Rattle.refinement.specs.Steps.{LeadsTo}

-- the requests that are submitted
abbrev pub requests_in : List Out → List Request
requests_in [] = []
requests_in (Submitted r ∷ outs) = r ∷ requests_in outs
requests_in (_ ∷ outs) = requests_in outs

-- the client k has this state, and these outputs are out; all else is as it was
abbrev pub with_client : Conf → ℕ → ClientState × List Out → Conf
with_client c k e =
    record c {
      clients = put c.clients k e.0;
      requests = requests_in e.1 ++ c.requests;
      lines = c.lines ++ lines_in e.1;
    }

abbrev pub ClientReaches : {S : Type 0} → Meaning S → ℕ → Conf → ℕ → ClientState × List Out → Type 0
ClientReaches m f c k e = LeadsTo m f c (with_client c k e) e.1

-- whatever may come to a client
abbrev pub ClientsReach : {S : Type 0} → Meaning S → Type 0
ClientsReach m = (f : ℕ) (c : Conf) (k : ℕ) (i : Given) → Inv m f c → MayCome c i → ClientReaches m f c k (next (c.clients k) i)
