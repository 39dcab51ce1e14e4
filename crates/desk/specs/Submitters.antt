-- A client core with the tickets of its open requests, and what it tells in a step.
use Rattle.std.specs.Prelude.{ℕ, false, List, [], ◌∷◌, ◌++◌, map, filter, find, not, Option, Some, None, option_map, ◌==◌}
use Rattle.nop_types.specs.Configuration.{Configuration}
use Rattle.nop_types.specs.Given.{Given, Submit}
use Rattle.nop_types.specs.Machine.{Machine}
use Rattle.nop_types.specs.declared.output.Out.{Out}
use Rattle.nop_types.specs.declared.output.Out.TheVariants.{Accepted}
use Rattle.client_quorum.specs.Core as client
use Rattle.desk.specs.declared.submitter.Labelled.{Labelled}
use Rattle.desk.specs.declared.submitter.OpenTicket.{OpenTicket}
use Rattle.desk.specs.declared.submitter.Queued.{Queued}
use Rattle.desk.specs.declared.submitter.Submitter.{Submitter}

abbrev pub opening : Configuration → ℕ → Submitter
opening config number = record { client = record { failed = false; state = client.opening config number [] }; held = [] }

-- ---- tickets

-- that of the request with an id
abbrev pub ticket_of : List OpenTicket → ℕ → Option ℕ
ticket_of held id = option_map (λ h. h.ticket) (find (λ h. h.id == id) held)

abbrev pub without_id : List OpenTicket → ℕ → List OpenTicket
without_id held id = filter (λ h. not (h.id == id)) held

abbrev pub without_ticket : List OpenTicket → ℕ → List OpenTicket
without_ticket held ticket = filter (λ h. not (h.ticket == ticket)) held

-- an acceptance is for the ticket of its request
abbrev pub ticket_for : List OpenTicket → Out → Option ℕ
ticket_for held (Accepted client id result) = ticket_of held id
ticket_for held _ = None

-- and closes it
abbrev pub held_after : List OpenTicket → Out → List OpenTicket
held_after held (Accepted client id result) = without_id held id
held_after held _ = held

abbrev pub held_by : List OpenTicket → List Out → List OpenTicket
held_by held [] = held
held_by held (out ∷ outs) = held_by (held_after held out) outs

-- the outputs of a step, each with the ticket that it is for
abbrev pub labels : (core : ℕ) → List OpenTicket → List Out → List Labelled
labels core held [] = []
labels core held (out ∷ outs) =
    record { core = core; ticket = ticket_for held out; out = out } ∷ labels core (held_after held out) outs

-- all of one ticket
abbrev pub labelled : (core ticket : ℕ) → List Out → List Labelled
labelled core ticket outs = map (λ out. record { core = core; ticket = Some ticket; out = out }) outs

-- the user of a ticket left
abbrev pub core_left : (ticket : ℕ) → Submitter → Submitter
core_left ticket s = record s { held = without_ticket s.held ticket }

-- ---- steps

abbrev pub stepped : Submitter → Given → Machine client.Client
stepped s x = record { failed = s.client.failed; state = (client.next s.client.state x).0 }

abbrev pub outs_of : Submitter → Given → List Out
outs_of s x = (client.next s.client.state x).1

-- the core takes an input
abbrev pub takes : Submitter → Given → Submitter
takes s x = record { client = stepped s x; held = held_by s.held (outs_of s x) }

abbrev pub tells : (core : ℕ) → Submitter → Given → List Labelled
tells core s x = labels core s.held (outs_of s x)

-- the core submits an op for a ticket, under its next id
abbrev pub submits : Submitter → Queued → Submitter
submits s q = record {
  client = stepped s (Submit q.op);
  held = s.held ++ record { id = (stepped s (Submit q.op)).state.requests.last_id; ticket = q.ticket } ∷ [];
}

abbrev pub submit_tells : (core : ℕ) → Submitter → Queued → List Labelled
submit_tells core s q = labelled core q.ticket (outs_of s (Submit q.op))
