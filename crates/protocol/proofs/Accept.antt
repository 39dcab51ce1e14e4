-- The move of a client that accepts a result.
use Rattle.std.proofs.Common.{◌≡◌, ℕ, ◌+◌, ◌*◌, ◌<◌, ◌≤◌, true, false, Some, None, refl, sym, ap, subst, ◌∙◌, inl, inr, arith, List, []}
use Rattle.std.proofs.Common.{◌∷◌, length, map, take}
use Rattle.std.specs.Prelude.{◌⊎◌, ◌==◌, ◌&&◌, ◌/◌, not, nat_le, filter, find, count_by, if◌then◌else◌}
use Rattle.std.proofs.lemmas.Bool.Decides.{nat_tests}
use Rattle.std.proofs.lemmas.List.{length-map}
use Rattle.std.proofs.lemmas.List.Sums.{length-filter}
use Rattle.nop_types.specs.declared.view.View.{View}
use Rattle.nop_types.specs.declared.request.Request.{Request}
use Rattle.nop_types.specs.declared.request.Entry.TheVariants.{Req}
use Rattle.nop_types.specs.declared.datagram.Reply.{Reply}
use Rattle.nop_types.specs.declared.output.Accept.{Accept as Acceptance}
use Rattle.nop_types.specs.Lines.{Line, Submit, Accept}
use Rattle.nop_types.specs.Lists.{Has}
use Rattle.nop_types.specs.Meaning.{Meaning}
use Rattle.nop_types.specs.Views.{is_view, leader_of}
use Rattle.execution_laws.proofs.Lines.{submitted_so_far, submitted_once_stays, accepted_once_stays}
use Rattle.lemmas.proofs.Places.{slice_get-append_at, slice_get-push_cases}
use Rattle.lemmas.proofs.Members.{Has-append_cases, Has-push_cases, Has-one, Has-none, Has-from_filter, Has-from_find}
use Rattle.lemmas.proofs.Prefixes.{Has-prefix, IsPrefixOf-take}
use Rattle.started_views.specs.Past.{HadLog, LeaderHad}
use Rattle.started_views.specs.Quorums.{counts, Quorum}
use Rattle.std.proofs.lemmas.Bool.{cases_eq, eqb-true, and_parts}
use Rattle.lemmas.proofs.Views.{is_view-true}
use Rattle.client_quorum.specs.declared.state.ClientState.{ClientState}
use Rattle.client_quorum.specs.ClientSteps.{accepts}
use Rattle.client_quorum.specs.KeptReplies.{matches, is_leaders, quorum_of}
use Rattle.client_quorum.specs.OpenRequests.{open_requests, IsOpen, is_open, kept_for}
use Rattle.client_quorum.specs.Rows.{IsClosed}
use Rattle.client_quorum.proofs.OpenRequests.{closes, kept_is_open, open_has}
use Rattle.protocol.specs.Conf.{Conf}
use Rattle.protocol.specs.Evolves.{Evolves}
use Rattle.protocol.specs.Moves.{accept, MayAccept}
use Rattle.protocol.specs.Invariant.{IsUsed, Replied, Accepted, GoodLines, GoodAccept, GoodClient, Inv}
use Rattle.protocol.proofs.Facts.{counts_filter, counts_member}
use Rattle.protocol.proofs.Growing.{Kept}
use Rattle.protocol.proofs.Outside.{outside_keeps}
use Rattle.lemmas.proofs.Functions.{put-all}
use Rattle.protocol.proofs.Stays.{onward_refl, accepted_lasts, client_lasts, ground_lasts}

at_least : (a b : ℕ) → nat_le a b ≡ true → a ≤ b
at_least a b e = grind (arith, nat_tests, e)

-- why a leader's reply is taken
pub record Chosen (n : ℕ) (kept : List Reply) (v : View) (slot : ℕ) (p : Reply) : Type 0 where
  pub enough : n / 2 + 1 ≤ count_by (matches v slot) kept
  pub member : Has kept p
  pub at_view : p.view ≡ v
  pub at_slot : p.slot ≡ slot
  pub leads : p.replica ≡ leader_of p.view n
  pub tagged : p.tag ≡ 1

matched : (v : View) (slot : ℕ) (p : Reply) → matches v slot p ≡ true → (p.view ≡ v) × (p.slot ≡ slot)
matched v slot p e =
    let b = and_parts (is_view p.view v) (p.slot == slot) e in
    (is_view-true p.view v b.0, eqb-true p.slot slot b.1)

pub chosen_from : (n : ℕ) (kept : List Reply) (v : View) (slot : ℕ) (p : Reply) → quorum_of n kept v slot ≡ Some p → Chosen n kept v slot p
chosen_from n kept v slot p = at (nat_le (n / 2 + 1) (count_by (matches v slot) kept)) refl
  where
    at : (b : _) → nat_le (n / 2 + 1) (count_by (matches v slot) kept) ≡ b
        → (if b then find (λ k. matches v slot k && is_leaders n k) kept else None) ≡ Some p → Chosen n kept v slot p
    at false t e = absurd cc
    at true t e =
        let found = Has-from_find (λ k. matches v slot k && is_leaders n k) kept p e in
        let tests = and_parts (matches v slot p) (is_leaders n p) found.1 in
        let place = matched v slot p tests.0 in
        let leading = and_parts (p.replica == leader_of p.view n) (p.tag == 1) tests.1 in
        record {
          enough = at_least (n / 2 + 1) (count_by (matches v slot) kept) t;
          member = found.0;
          at_view = place.0;
          at_slot = place.1;
          leads = eqb-true p.replica (leader_of p.view n) leading.0;
          tagged = eqb-true p.tag 1 leading.1;
        }

module _ {S : Type 0} (m : Meaning S) (f : ℕ) (c : Conf) (inv : Inv m f c) (k : ℕ) (p leaders : Reply) (may : MayAccept c k p leaders) where
  abbrev s : ClientState
  s = c.clients k

  abbrev d : Conf
  d = accept c k p leaders

  abbrev the_line : Line
  the_line = Accept s.number p.id leaders.result

  good : GoodClient f c k s
  good = inv.clients k

  abbrev its : List Reply
  its = kept_for s p.id

  chosen : Chosen s.config.replicas its p.view p.slot leaders
  chosen = chosen_from s.config.replicas its p.view p.slot leaders may.enough

  abbrev matching : List Reply
  matching = filter (matches p.view p.slot) its

  -- a kept reply of this view and slot is one for the client and id
  replied : (y : Reply) (r : ℕ) → Has its y → y.view ≡ p.view → y.slot ≡ p.slot → y.replica ≡ r
      → Replied c.replies p.view p.slot s.number p.id r
  replied y r i at_view at_slot by =
      let t = good.kept p.id y i in
      record {
        reply = y;
        sent = t.sent;
        by = by;
        at_view = at_view;
        at_slot = at_slot;
        of_client = t.client;
        of_id = t.id;
      }

  quorum : Quorum f (Replied c.replies p.view p.slot s.number p.id)
  quorum = record {
    members = map (λ (y : Reply). y.replica) matching;
    enough = omega (
      arith,
      chosen.enough,
      good.replicas,
      length-filter (matches p.view p.slot) its,
      length-map matching
          (λ (y : Reply). y.replica),
    );
    once = λ r. let a = counts_filter (λ (y : Reply). y.replica) (matches p.view p.slot) its r in omega (arith, a, good.once p.id r);
    within = λ r h. let y = member r h in subst (λ (i : ℕ). i < 2 * f + 1) y.2 (good.kept p.id y.0 y.1.0).replica;
    holds = λ r h. let y = member r h in let e = matched p.view p.slot y.0 y.1.1 in replied y.0 r y.1.0 e.0 e.1 y.2;
  }
    where
      member : (r : ℕ) → 1 ≤ counts r (map (λ (y : Reply). y.replica) matching)
          → (y : Reply) × (Has its y × (matches p.view p.slot y ≡ true)) × (y.replica ≡ r)
      member r h =
          let g = counts_member (λ (y : Reply). y.replica) matching r h in
          (g.0, Has-from_filter (matches p.view p.slot) g.0 its g.1, g.2)

  leads : leaders.replica ≡ leader_of p.view (2 * f + 1)
  leads = chosen.leads ∙ ap (λ (v : View). leader_of v s.config.replicas) chosen.at_view ∙ ap (leader_of p.view) good.replicas

  -- the ground of the line, at the slot of the replies
  accepted_now : (a : Accepted f c (length c.lines) s.number p.id leaders.result) × (a.slot ≡ p.slot)
  unfolding replied
  accepted_now =
      let t = inv.replies leaders (good.kept p.id leaders chosen.member).sent in
      let led : LeaderHad f c.past p.view t.log = subst (λ (i : ℕ). HadLog c.past i p.view t.log) leads
      (subst (λ (v : View). HadLog c.past leaders.replica v t.log) chosen.at_view t.had) in
      let log = inv.logs (leader_of p.view (2 * f + 1)) p.view t.log led in
      let a : Accepted f c (length c.lines) s.number p.id leaders.result = record {
        view = p.view;
        slot = p.slot;
        log = t.log;
        leads = led;
        within = omega (arith, t.within, chosen.at_slot);
        quorum = quorum;
        leaders = replied leaders (leader_of p.view (2 * f + 1)) chosen.member chosen.at_view chosen.at_slot leads;
        tagged = chosen.tagged;
        gives = refl;
        known = λ q i. submitted_so_far c.lines q
            (log.submitted q (Has-prefix (take p.slot t.log) t.log (Req q) (IsPrefixOf-take p.slot t.log) i));
      } in
      (a, refl)

  accepted : Evolves f c d → (b : Accepted f d (length c.lines) s.number p.id leaders.result) × (b.slot ≡ accepted_now.0.slot)
  accepted ev = ground_lasts m f c d ev (length c.lines) s.number p.id leaders.result accepted_now.0

  -- what is kept of it
  abbrev the_accept : Acceptance
  the_accept = record { id = p.id; slot = leaders.slot; result = leaders.result }

  good_accept : Evolves f c d → GoodAccept f d s.number the_accept
  good_accept ev =
      let b = accepted ev in
      record {
        place = length c.lines;
        line = slice_get-append_at c.lines the_line [];
        ground = b.0;
        at_slot = b.1 ∙ accepted_now.1 ∙ sym chosen.at_slot;
      }

  old_submit : (q : Request) → Has d.lines (Submit q) → Has c.lines (Submit q)
  old_submit q i = elim (Has-append_cases c.lines (the_line ∷ []) (Submit q) i) [
    | inl old ↦ old
    | inr new ↦ absurd (let e = Has-one (Submit q) the_line new in cc)
  ]

  last_ids : (i : ℕ) → (c.clients i).last_id ≤ (d.clients i).last_id
  last_ids = put-all (λ i t. (c.clients i).last_id ≤ t.last_id) c.clients k (accepts s p.id leaders) (omega arith) (λ i a. omega arith)

  id_open : is_open s p.id ≡ true
  id_open = kept_is_open s p.id p may.kept

  -- the request that it is for
  asked : (q : Request) × IsOpen s q × (q.id ≡ p.id)
  asked = open_has s p.id id_open

  low_id : IsUsed (c.clients s.number) p.id
  low_id =
      let q = good.opened asked.0 asked.1 in
      let used = inv.lines.submitted_ids asked.0 q.submitted in
      let e : IsUsed s p.id = record { low = omega (arith, used.low, asked.2); high = omega (arith, asked.2, q.low) } in
      subst (λ (i : ℕ). IsUsed (c.clients i) p.id) (sym good.number) e

  -- it was not accepted before
  is_new : (client id : ℕ) (result : List ℕ) → the_line ≡ Accept client id result → (other : List ℕ)
      → Has c.lines (Accept client id other) → ⊥
  is_new client id result e other i =
      let same_client : s.number ≡ client = cc in
      let same_id : p.id ≡ id = cc in
      let at : Has c.lines (Accept k id other) = subst (λ (n : ℕ). Has c.lines (Accept n id other)) (sym same_client ∙ good.number) i in
      inv.lines.accepted_done k id other at asked.0 asked.1 (asked.2 ∙ same_id)

  line_from : (client id : ℕ) (result : List ℕ) → Has d.lines (Accept client id result)
      → Has c.lines (Accept client id result) ⊎ ((client ≡ k) × (id ≡ p.id))
  line_from client id result i = elim (Has-append_cases c.lines (the_line ∷ []) (Accept client id result) i) [
    | inl old ↦ inl old
    | inr new ↦
        let e = Has-one (Accept client id result) the_line new in
        let same_client : client ≡ s.number = cc in
        let same_id : id ≡ p.id = cc in
        inr (same_client ∙ good.number, same_id)
  ]

  after : IsClosed s (accepts s p.id leaders) p.id leaders
  after = closes s p.id leaders

  -- what is open still was open, and has another id
  open_from : (q : Request) → IsOpen (accepts s p.id leaders) q → IsOpen s q × (not (q.id == p.id) ≡ true)
  open_from q i = Has-from_filter (λ x. not (x.id == p.id)) q (open_requests s) (subst (λ (l : List Request). Has l q) after.requests i)

  abbrev Done : ℕ → ClientState → Type 0
  Done i t = (id : ℕ) (result : List ℕ) → Has d.lines (Accept i id result) → (q : Request) → IsOpen t q → q.id ≡ id → ⊥

  done : (i : ℕ) → Done i (d.clients i)
  done = put-all Done c.clients k (accepts s p.id leaders)
      (λ id result h q i same. elim (line_from k id result h) [
        | inl old ↦ inv.lines.accepted_done k id result old q (open_from q i).0 same
        | inr (t, u) ↦ let apart = (open_from q i).1 in grind (arith, nat_tests, apart, same, u)
      ])
      (λ i a id result h q e same. elim (line_from i id result h) [
        | inl old ↦ inv.lines.accepted_done i id result old q e same
        | inr (t, u) ↦ a t
      ])

  good_lines : Evolves f c d → GoodLines f d
  good_lines ev = record {
    submitted_once = submitted_once_stays c.lines the_line inv.lines.submitted_once (λ q e. absurd cc);
    submitted_ids = λ q i. let low = inv.lines.submitted_ids q (old_submit q i) in
        record { low = low.low; high = omega (arith, low.high, last_ids q.client) };
    accepted_once = accepted_once_stays c.lines the_line inv.lines.accepted_once is_new;
    accepted_ids = λ client id result i. elim (line_from client id result i) [
      | inl old ↦ (let low = inv.lines.accepted_ids client id result old in
          record { low = low.low; high = omega (arith, low.high, last_ids client) })
      | inr (t, u) ↦ (let here : (c.clients s.number).last_id ≡ (c.clients client).last_id = ap (λ (n : ℕ). (c.clients n).last_id)
          (good.number ∙ sym t) in record {
            low = omega (arith, low_id.low, u);
            high = omega (arith, low_id.high, u, here, last_ids client);
          })
    ];
    accepted_done = done;
    grounds = λ at client id result e. elim (slice_get-push_cases c.lines the_line at (Accept client id result) e) [
      | inl old ↦ accepted_lasts m f c d ev at client id result (inv.lines.grounds at client id result old.1)
      | inr (place, same) ↦
          let same_client : s.number ≡ client = cc in
          let same_id : p.id ≡ id = cc in
          let same_result : leaders.result ≡ result = cc in
          subst (λ (n : ℕ). Accepted f d n client id result) (sym place)
          (subst (λ (n : ℕ). Accepted f d (length c.lines) n id result) same_client
          (subst (λ (n : ℕ). Accepted f d (length c.lines) s.number n result) same_id
          (subst (λ (n : List ℕ). Accepted f d (length c.lines) s.number p.id n) same_result (accepted ev).0)))
    ];
  }

  kept_from : (id : ℕ) (y : Reply) → Has (kept_for (accepts s p.id leaders) id) y → Has (kept_for s id) y
  kept_from id y i = elim (cases_eq id p.id) [
    | inl e ↦
        let at : Has (kept_for (accepts s p.id leaders) p.id) y =
        subst (λ (n : ℕ). Has (kept_for (accepts s p.id leaders) n) y) e i in
        absurd (Has-none y (subst (λ (l : List Reply). Has l y) after.here at))
    | inr a ↦ subst (λ (l : List Reply). Has l y) (after.others id a) i
  ]

  once : (id r : ℕ) → counts r (map (λ (y : Reply). y.replica) (kept_for (accepts s p.id leaders) id)) ≤ 1
  once id r = elim (cases_eq id p.id) [
    | inl e ↦
        subst (λ (n : ℕ). counts r (map (λ (y : Reply). y.replica) (kept_for (accepts s p.id leaders) n)) ≤ 1) (sym e)
        (subst (λ (l : List Reply). counts r (map (λ (y : Reply). y.replica) l) ≤ 1) (sym after.here) (omega arith))
    | inr a ↦
        subst (λ (l : List Reply). counts r (map (λ (y : Reply). y.replica) l) ≤ 1) (sym (after.others id a)) (good.once id r)
  ]

  good_client : Evolves f c d → GoodClient f d k (accepts s p.id leaders)
  good_client ev =
      let g = client_lasts m f c d ev k s good in
      record {
        number = g.number;
        replicas = g.replicas;
        opened = λ q i. g.opened q (open_from q i).0;
        kept = λ id y i. g.kept id y (kept_from id y i);
        once = once;
        recent = λ a i. elim (Has-push_cases s.recent the_accept a (subst (λ (l : List Acceptance). Has l a) after.recent i)) [
          | inl old ↦ g.recent a old
          | inr new ↦ subst (GoodAccept f d s.number) new (good_accept ev)
        ];
      }

  pub accept_keeps : Kept m f c d
  accept_keeps = outside_keeps m f c inv (record {
    sequencers = c.sequencers;
    clients = d.clients;
    controllers = c.controllers;
    requests = c.requests;
    stamps = c.stamps;
    installs = c.installs;
    lines = d.lines;
  })
      (record {
        requests = λ x i. i;
        stamps = λ x i. i;
        installs = λ x i. i;
        lines = (the_line ∷ [], refl);
        sequencers = λ j. onward_refl (c.sequencers j);
        controllers = λ i. omega arith;
        last_ids = last_ids;
      })
      (λ ev. record {
        requests = λ x i. inl i;
        stamps = λ x i. inl i;
        stamped_once = inv.stamped_once;
        sequencers = inv.sequencers;
        installs = λ x i. let t = inv.installs x i in record { low = t.low; known = t.known; current = t.current };
        installed_once = inv.installed_once;
        controllers = inv.controllers;
        lines = good_lines ev;
        clients = put-all (GoodClient f d) c.clients k (accepts s p.id leaders) (good_client ev)
            (λ i a. client_lasts m f c d ev i (c.clients i) (inv.clients i));
      })
