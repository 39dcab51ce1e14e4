-- Each row of a client's step table is a list of moves.
use Rattle.std.proofs.Common.{◌≡◌, ℕ, true, Some, refl, sym, ap, subst, ◌∙◌, inl, inr, List, [], ◌∷◌}
use Rattle.std.proofs.Common.{◌++◌, map}
use Rattle.std.specs.Prelude.{◌^◌, ◌-◌, Result, Ok, not, filter, ◌==◌, nat_lt}
use Rattle.std.proofs.lemmas.Bool.{and_parts}
use Rattle.nop_types.specs.Given.{Given, Packet}
use Rattle.nop_types.specs.Lines as lines
use Rattle.nop_types.specs.Lists.{Has}
use Rattle.nop_types.specs.Meaning.{Meaning}
use Rattle.nop_types.specs.declared.output.Dest.TheVariants.{Sequencers}
use Rattle.nop_types.specs.declared.output.Out.{Out}
use Rattle.nop_types.specs.declared.output.Out.TheVariants.{Send, Submitted, Accepted, Busy}
use Rattle.nop_types.specs.declared.request.Request.{Request}
use Rattle.nop_types.specs.declared.datagram.Reply.{Reply}
use Rattle.nop_types.specs.declared.datagram.Datagram.{Datagram}
use Rattle.nop_types.specs.declared.datagram.Datagram.TheVariants as datagrams
use Rattle.lemmas.specs.Functions.{put}
use Rattle.lemmas.proofs.Functions.{put-here}
use Rattle.lemmas.proofs.Members.{Has-append_right, Has-first, Has-rest, Has-cases, Has-none, Has-one}
use Rattle.oum_codec.specs.declared.bad.Bad.{Bad}
use Rattle.oum_codec.specs.Reading.{reading}
use Rattle.client_quorum.specs.declared.state.ClientState.{ClientState}
use Rattle.client_quorum.specs.ClientSteps.{sent, can_submit, request_of, begin, is_expected, kept, accepts, next}
use Rattle.client_quorum.specs.OpenRequests.{has_room, kept_for, open_requests}
use Rattle.client_quorum.specs.KeptReplies.{quorum_of}
use Rattle.client_quorum.specs.Rows.{Row, Rests, SaysBusy, Opens, Repeats, Keeps, Accepts, quorum_with}
use Rattle.client_quorum.specs.Runs.{reply_in, reply_of}
use Rattle.client_quorum.proofs.OpenRequests as client
use Rattle.client_quorum.proofs.OpenRequests.{expected_is_open}
use Rattle.client_quorum.proofs.RowLemmas.{row_of}
use Rattle.protocol.specs.Conf.{Conf}
use Rattle.protocol.specs.Invariant.{Inv}
use Rattle.protocol.specs.Runs as moves
use Rattle.protocol.specs.Runs.{happens}
use Rattle.refinement.specs.Clients.{requests_in, with_client, ClientReaches, ClientsReach}
use Rattle.refinement.specs.Datagrams.{Arrived, MayCome, AllCarry}
use Rattle.refinement.specs.Lines.{lines_in}
use Rattle.refinement.proofs.Outputs.{none_carry, one_carries, only_new, says_none, no_moves}
use Rattle.refinement.proofs.Puts.{put-same, put-twice}

module _ {S : Type 0} (m : Meaning S) (f : ℕ) (c : Conf) (k : ℕ) (inv : Inv m f c) where
  abbrev s : ClientState
  s = c.clients k

  -- no move is made, and these outputs neither submit nor accept
  rests : (outs : List Out) → requests_in outs ≡ [] → lines_in outs ≡ [] → AllCarry c outs → ClientReaches m f c k (s, outs)
  rests outs none quiet carry = no_moves m f c (with_client c k (s, outs)) outs same quiet carry
    where
      submits_none : requests_in outs ++ c.requests ≡ c.requests
      submits_none = ap (λ (t : List Request). t ++ c.requests) none

      same : with_client c k (s, outs) ≡ c
      same = λ i. record c {
        clients = put-same c.clients k i;
        requests = submits_none i;
        lines = sym (says_none c.lines outs quiet) i;
      }

  still : ClientReaches m f c k (s, [])
  still = rests [] refl refl (none_carry c)

  -- ---- an op is submitted

  submits : (op : List ℕ) (waiting : List (List ℕ)) → can_submit s ≡ true
      → ClientReaches m f c k (begin (record s { waiting = waiting }) (request_of s op))
  submits op waiting can =
      let r = request_of s op in
      let outs : List Out = Submitted r ∷ sent r ∷ [] in
      let d = with_client c k (begin (record s { waiting = waiting }) r) in
      record {
        moves = moves.Submit k op waiting ∷ [];
        may = ((and_parts (has_room s) (nat_lt s.last_id (2 ^ 64 - 1)) can).0, tt);
        ends = refl;
        sends = λ dest bytes h. elim (Has-cases (Send dest bytes) (Submitted r) (sent r ∷ []) h) [
          | inl e ↦ absurd cc
          | inr g ↦ one_carries d Sequencers (datagrams.Request r) tt (Has-first r r c.requests refl) dest bytes g
        ];
        only = only_new c d outs (λ q h. elim (Has-cases q r c.requests h) [
          | inl e ↦ inr (Sequencers, Has-rest _ (Submitted r) (sent r ∷ []) (Has-first _ _ [] (ap sent e)))
          | inr old ↦ inl old
        ]) (λ p h. inl h) refl (λ x h. inl h);
        lines = refl;
        first = refl;
      }

  -- ---- a reply comes

  kept_there : (p : Reply) → is_expected s p ≡ true → Has (kept_for (kept s p) p.id) p
  kept_there p e =
      subst (λ (l : List Reply). Has l p) (sym (client.keeps s p (expected_is_open s p e)).here)
      (Has-append_right (filter (λ x. not (x.replica == p.replica)) (kept_for s p.id)) (p ∷ []) p (0, refl))

  -- the reply is kept
  keeps : (p : Reply) → Has c.replies p → is_expected s p ≡ true → ClientReaches m f c k (kept s p, [])
  keeps p came expected = let d = with_client c k (kept s p, []) in record {
    moves = moves.Keep k p ∷ [];
    may = (record { sent = came; expected = expected }, tt);
    ends = λ i. record c { clients = put c.clients k (kept s p); lines = says_none c.lines [] refl i };
    sends = none_carry d;
    only = only_new c d [] (λ r h. inl h) (λ q h. inl h) refl (λ x h. inl h);
    lines = refl;
    first = tt;
  }

  -- and a leader's result is accepted
  accepts_result : (p leaders : Reply) → Has c.replies p → is_expected s p ≡ true
      → quorum_with s p ≡ Some leaders
      → ClientReaches m f c k (accepts (kept s p) p.id leaders, Accepted s.number p.id leaders.result ∷ [])
  accepts_result p leaders came expected enough =
      let b = happens m f c (moves.Keep k p) in
      let here : b.clients k ≡ kept s p = put-here c.clients k (kept s p) in
      let out : Out = Accepted s.number p.id leaders.result in
      let d = with_client c k (accepts (kept s p) p.id leaders, out ∷ []) in
      record {
        moves = moves.Keep k p ∷ moves.Accept k p leaders ∷ [];
        may = (
          record { sent = came; expected = expected },
          (
            record {
              kept = subst (λ (t : ClientState). Has (kept_for t p.id) p) (sym here) (kept_there p expected);
              enough = subst (λ (t : ClientState). quorum_of t.config.replicas (kept_for t p.id) p.view p.slot ≡ Some leaders)
                  (sym here) enough;
            },
            tt,
          ),
        );
        ends =
            ap (λ (t : ClientState). record b {
              clients = put b.clients k (accepts t p.id leaders);
              lines = c.lines ++ lines.Accept t.number p.id leaders.result ∷ [];
            }) here
            ∙ ap (λ (t : ℕ → ClientState). record d { clients = t })
            (put-twice c.clients k (kept s p) (accepts (kept s p) p.id leaders));
        sends = λ dest bytes h. absurd (let same = Has-one (Send dest bytes) out h in cc);
        only = only_new c d (out ∷ []) (λ r h. inl h) (λ q h. inl h) refl (λ x h. inl h);
        lines = refl;
        first = tt;
      }

  -- ---- the tick Retry

  sent_none : (qs : List Request) → (requests_in (map sent qs) ≡ []) × (lines_in (map sent qs) ≡ [])
  sent_none [] = (refl, refl)
  sent_none (q ∷ qs) = sent_none qs

  sent_carry : (qs : List Request) → ((q : Request) → Has qs q → Has c.requests q) → AllCarry c (map sent qs)
  sent_carry [] all dest bytes h = none_carry c dest bytes h
  sent_carry (q ∷ qs) all dest bytes h = elim (Has-cases (Send dest bytes) (sent q) (map sent qs) h) [
    | inl e ↦ one_carries c Sequencers (datagrams.Request q) tt (all q (Has-first q q qs refl)) dest bytes (0, ap Some (sym e))
    | inr rest ↦ sent_carry qs (λ r i. all r (Has-rest r q qs i)) dest bytes rest
  ]

  -- ---- all rows

  row_reaches : (i : Given) → ((p : Reply) → Has (reply_of i) p → Has c.replies p) → (y : ClientState × List Out) → Row s i y
      → ClientReaches m f c k y
  row_reaches i came y (Rests nothing) = still
  row_reaches i came y (SaysBusy op is busy) = rests (Busy s.number ∷ []) refl refl (λ dest bytes h.
      absurd (let same = Has-one (Send dest bytes) (Busy s.number) h in cc))
  row_reaches i came y (Opens op waiting can from) = submits op waiting can
  row_reaches i came y (Repeats is) =
      let none = sent_none (open_requests s) in
      rests (map sent (open_requests s)) none.0 none.1 (sent_carry (open_requests s) (λ q h. ((inv.clients k).opened q h).sent))
  row_reaches i came y (Keeps p has e quorum) = keeps p (came p has) e
  row_reaches i came y (Accepts p leaders has e quorum) = accepts_result p leaders (came p has) e quorum

  reply_came : (x : Result Datagram Bad) → ((d : Datagram) → x ≡ Ok d → Arrived c d) → (p : Reply) → Has (reply_in x) p → Has c.replies p
  reply_came (Ok (datagrams.Reply q)) came p h =
      subst (λ (r : Reply). Has c.replies r) (sym (Has-one p q h)) (came (datagrams.Reply q) refl).sent
  reply_came _ came p h = absurd (Has-none p h)

  came_in : (i : Given) → MayCome c i → (p : Reply) → Has (reply_of i) p → Has c.replies p
  came_in (Packet bytes) came p h = reply_came (reading bytes) came p h
  came_in _ came p h = absurd (Has-none p h)

pub clients_reach : {S : Type 0} (m : Meaning S) → ClientsReach m
clients_reach m f c k i inv came =
    row_reaches m f c k inv i (came_in m f c k inv i came) (next (c.clients k) i) (row_of (c.clients k) i)
