-- What clients submit is in its ranges.
use Rattle.std.proofs.Common.{◌≡◌, ℕ, ◌<◌, ◌≤◌, true, refl, sym, subst, arith, inl, inr, length}
use Rattle.std.proofs.Common.{List, [], ◌∷◌, map}
use Rattle.std.specs.Prelude.{◌^◌, ◌-◌, nat_lt}
use Rattle.std.proofs.lemmas.Bool.{and_parts, ltb-true}
use Rattle.nop_types.specs.declared.limits.TheConstants.{MAX_OP_BYTES}
use Rattle.nop_types.specs.Given.{Given}
use Rattle.nop_types.specs.Lists.{Has}
use Rattle.nop_types.specs.Ranges.{RequestFits}
use Rattle.nop_types.specs.declared.output.Out.{Out}
use Rattle.nop_types.specs.declared.output.Out.TheVariants.{Accepted, Busy}
use Rattle.nop_types.specs.declared.request.Request.{Request}
use Rattle.lemmas.proofs.Members.{Has-append_cases, Has-one, Has-none, Has-first, Has-rest}
use Rattle.client_quorum.specs.declared.state.ClientState.{ClientState}
use Rattle.client_quorum.specs.ClientSteps as client
use Rattle.client_quorum.specs.ClientSteps.{next}
use Rattle.client_quorum.specs.OpenRequests.{has_room, open_requests}
use Rattle.client_quorum.specs.Rows.{Row, Rests, SaysBusy, Opens, Repeats, Keeps, Accepts}
use Rattle.client_quorum.proofs.RowLemmas.{row_of}
use Rattle.refinement.specs.Clients.{requests_in}
use Rattle.refinement.specs.Ranges.{ClientFits, GivenFits, ClientsStayInRanges}

-- the new requests fit, and no new op waits
record ClientRow (s : ClientState) (e : ClientState × List Out) : Type 0 where
  number : e.0.number ≡ s.number
  waiting : (op : List ℕ) → Has e.0.waiting op → Has s.waiting op
  requests : (r : Request) → Has (requests_in e.1) r → RequestFits r

module _ (s : ClientState) (fits : ClientFits s) where
  quiet : (t : ClientState) (outs : List Out) → t.number ≡ s.number → t.waiting ≡ s.waiting → requests_in outs ≡ [] → ClientRow s (t, outs)
  quiet t outs number waiting none = record {
    number = number;
    waiting = λ op h. subst (λ (ops : List (List ℕ)). Has ops op) waiting h;
    requests = λ r h. absurd (Has-none r (subst (λ (rs : List Request). Has rs r) none h));
  }

  request_fits : (op : List ℕ) → length op ≤ MAX_OP_BYTES → client.can_submit s ≡ true → RequestFits (client.request_of s op)
  request_fits op short can =
      let last = ltb-true s.last_id (2 ^ 64 - 1) (and_parts (has_room s) (nat_lt s.last_id (2 ^ 64 - 1)) can).1 in
      record { client = fits.number; id_low = omega arith; id = omega (arith, last); op = short }

  begins : (op : List ℕ) (waiting : List (List ℕ)) → length op ≤ MAX_OP_BYTES → client.can_submit s ≡ true
      → ((x : List ℕ) → Has waiting x → Has s.waiting x)
      → ClientRow s (client.begin (record s { waiting = waiting }) (client.request_of s op))
  begins op waiting short can rest = record {
    number = refl;
    waiting = rest;
    requests = λ r h. subst RequestFits (sym (Has-one r (client.request_of s op) h)) (request_fits op short can);
  }

  sent_none : (qs : List Request) → requests_in (map client.sent qs) ≡ []
  sent_none [] = refl
  sent_none (q ∷ qs) = sent_none qs

  row_fits : (i : Given) → GivenFits i → (y : ClientState × List Out) → Row s i y → ClientRow s y
  row_fits i short y (Rests nothing) = quiet s [] refl refl refl
  row_fits i short y (SaysBusy op is busy) = quiet s (Busy s.number ∷ []) refl refl refl
  row_fits i short y (Opens op waiting can (inl (is, left))) =
      begins op waiting (fits.waiting op (rw left (Has-first op op waiting refl))) can (λ x h. rw left (Has-rest x op waiting h))
  row_fits i short y (Opens op waiting can (inr (is, same))) = begins op waiting (rw is at short) can (λ x h. rw same h)
  row_fits i short y (Repeats is) = quiet s (map client.sent (open_requests s)) refl refl (sent_none (open_requests s))
  row_fits i short y (Keeps p has e quorum) = quiet (client.kept s p) [] refl refl refl
  row_fits i short y (Accepts p leaders has e quorum) =
      quiet (client.accepts (client.kept s p) p.id leaders) (Accepted s.number p.id leaders.result ∷ []) refl refl refl

pub clients_stay_in_ranges : ClientsStayInRanges
clients_stay_in_ranges c k i all fits short =
    let row = row_fits (c.clients k) fits i short (next (c.clients k) i) (row_of (c.clients k) i) in (
      record {
        requests = λ r h. elim (Has-append_cases (requests_in (next (c.clients k) i).1) c.requests r h) [
          | inl new ↦ row.requests r new
          | inr old ↦ all.requests r old
        ];
        stamps = all.stamps;
        replies = all.replies;
        installs = all.installs;
      },
      record {
        number = subst (λ (n : ℕ). n < 2 ^ 32) (sym row.number) fits.number;
        waiting = λ op h. fits.waiting op (row.waiting op h);
      },
    )
