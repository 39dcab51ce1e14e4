-- What a client knows of its last ids: each is open or was accepted, and an acceptance is kept as it was given.
use Rattle.std.proofs.Common.{◌≡◌, ℕ, zero, ◌+◌, ◌<◌, ◌≤◌, true, Some, None, refl, sym, ap, subst, ◌∙◌, inl, inr, arith, List, []}
use Rattle.std.proofs.Common.{◌∷◌, ◌++◌, append_assoc, map}
use Rattle.std.specs.Prelude.{◌⊎◌, ◌==◌, ◌^◌, ◌-◌, not, nat_lt, slice_get}
use Rattle.std.proofs.lemmas.Bool.{and_parts, cases_eq, eq-eqb, eqb-true, lt-ltb, ltb-true, ne_eqb}
use Rattle.std.proofs.lemmas.Option.{none-some}
use Rattle.nop_types.specs.Configuration.{Configuration}
use Rattle.nop_types.specs.declared.limits.TheConstants.{WINDOW}
use Rattle.nop_types.specs.Given.{Given}
use Rattle.nop_types.specs.Lists.{Has}
use Rattle.nop_types.specs.declared.output.Accept.{Accept}
use Rattle.nop_types.specs.declared.output.Out.{Out}
use Rattle.nop_types.specs.declared.output.Out.TheVariants.{Submitted, Accepted, Busy}
use Rattle.nop_types.specs.declared.request.Request.{Request}
use Rattle.nop_types.specs.declared.datagram.Reply.{Reply}
use Rattle.lemmas.proofs.Members.{Has-none, Has-one, Has-push, Has-push_cases, Has-append_left, Has-append_right, Has-append_cases, Has-filter}
use Rattle.lemmas.proofs.Members.{Has-from_filter, Has-from_find, find-some}
use Rattle.client_quorum.specs.declared.state.ClientState.{ClientState}
use Rattle.client_quorum.specs.ClientSteps.{accepts, is_expected, kept, next, opening, request_of, sent, submitted}
use Rattle.client_quorum.specs.OpenRequests.{has_room, is_open, open_requests, IsOpen}
use Rattle.client_quorum.specs.Opens.{accepted_in, recent_at}
use Rattle.client_quorum.specs.Rows.{Row, Rests, SaysBusy, Opens, Repeats, Keeps, Accepts, quorum_with}
use Rattle.client_quorum.specs.Runs.{after, gave, replies_of, reply_of, IsRecent}
use Rattle.client_quorum.proofs.OpenRequests.{closes, expected_is_open, has_open, keeps, open_has, opening_opens_none, opens, room_is_near}
use Rattle.client_quorum.proofs.Received.{accepted_now, opening_kept, still_kept, IsKept}
use Rattle.client_quorum.proofs.RowLemmas.{begun_none, row_of, sent_none}
use Rattle.client_quorum.proofs.Turns.{accepted_once}

-- ---- each of the last ids is open, or its acceptance is kept

abbrev IsKnown : ClientState → ℕ → Type 0
IsKnown s id = (is_open s id ≡ true) ⊎ ((a : Accept) × Has s.recent a × (a.id ≡ id))

abbrev KnowsAll : ClientState → Type 0
KnowsAll s = (id : ℕ) → 1 ≤ id → id ≤ s.last_id → s.last_id < id + WINDOW → IsKnown s id

-- it is among those of the last ids
near_stays : (s : ClientState) (r : Request) (waiting : List (List ℕ)) (a : Accept) → Has s.recent a → s.last_id + 1 < a.id + WINDOW
    → Has (submitted (record s { waiting = waiting }) r).recent a
near_stays s r waiting a has near =
    Has-filter (λ (b : Accept). nat_lt (s.last_id + 1) (b.id + WINDOW)) a s.recent has (lt-ltb (s.last_id + 1) (a.id + WINDOW) near)

opened_knows : (s : ClientState) (r : Request) (waiting : List (List ℕ)) → r.id ≡ s.last_id + 1 → KnowsAll s
    → KnowsAll (submitted (record s { waiting = waiting }) r)
opened_knows s r waiting is knows id low high near =
    let t = submitted (record s { waiting = waiting }) r in
    let now = opens s r waiting in
    elim (cases_eq id (s.last_id + 1)) [
      | inl new ↦
          let has : Has (open_requests t) r = subst (λ (qs : List Request). Has qs r) (sym now.requests) (Has-push (open_requests s) r) in
          inl (has_open t id (r, has, is ∙ sym new))
      | inr apart ↦ elim (knows id low (omega (arith, high, apart)) (omega (arith, near))) [
        | inl open_ ↦
            let q = open_has s id open_ in
            let has : Has (open_requests t) q.0 =
            subst (λ (qs : List Request). Has qs q.0) (sym now.requests) (Has-append_left (open_requests s) (r ∷ []) q.0 q.1) in
            inl (has_open t id (q.0, has, q.2))
        | inr a ↦ (let its = a.2 in inr (a.0, near_stays s r waiting a.0 a.1 (omega (arith, its, near)), a.2))
      ]
    ]

kept_knows : (s : ClientState) (p : Reply) → is_expected s p ≡ true → KnowsAll s → KnowsAll (kept s p)
kept_knows s p e knows id low high near =
    let now = keeps s p (expected_is_open s p e) in
    elim (knows id low high near) [
      | inl open_ ↦
          let q = open_has s id open_ in
          inl (has_open (kept s p) id (q.0, subst (λ (qs : List Request). Has qs q.0) (sym now.requests) q.1, q.2))
      | inr a ↦ inr a
    ]

closed_knows : (s : ClientState) (id : ℕ) (leaders : Reply) → KnowsAll s → KnowsAll (accepts s id leaders)
closed_knows s id leaders knows k low high near =
    let t = accepts s id leaders in
    let a : Accept = record { id = id; slot = leaders.slot; result = leaders.result } in
    let now = closes s id leaders in
    elim (cases_eq k id) [
      | inl same ↦ inr (a, Has-push s.recent a, sym same)
      | inr apart ↦ elim (knows k low high near) [
        | inl open_ ↦
            let q = open_has s k open_ in
            let other = ne_eqb q.0.id id (λ e. apart (sym q.2 ∙ e)) in
            let left : Has (open_requests t) q.0 =
            subst (λ (qs : List Request). Has qs q.0) (sym now.requests)
            (Has-filter (λ (r : Request). not (r.id == id)) q.0 (open_requests s) q.1 (ap not other)) in
            inl (has_open t k (q.0, left, q.2))
        | inr b ↦ inr (b.0, Has-append_left s.recent (a ∷ []) b.0 b.1, b.2)
      ]
    ]

row_knows : (s : ClientState) (x : Given) → KnowsAll s → (y : ClientState × List Out) → Row s x y → KnowsAll y.0
row_knows s x knows y (Rests nothing) = knows
row_knows s x knows y (SaysBusy op is busy) = knows
row_knows s x knows y (Opens op waiting may from) = opened_knows s (request_of s op) waiting refl knows
row_knows s x knows y (Repeats is) = knows
row_knows s x knows y (Keeps p has e quorum) = kept_knows s p e knows
row_knows s x knows y (Accepts p leaders has e quorum) = closed_knows (kept s p) p.id leaders (kept_knows s p e knows)

knows_after : (xs : List Given) (s : ClientState) → KnowsAll s → KnowsAll (after s xs)
knows_after [] s knows = knows
knows_after (x ∷ xs) s knows = knows_after xs (next s x).0 (row_knows s x knows (next s x) (row_of s x))

-- ---- what is kept is as it was given

-- the open requests are of the last ids
abbrev AreNear : ClientState → Type 0
AreNear s = (q : Request) → IsOpen s q → s.last_id < q.id + WINDOW

opened_near : (s : ClientState) (r : Request) (waiting : List (List ℕ)) → r.id ≡ s.last_id + 1 → has_room s ≡ true
    → AreNear (submitted (record s { waiting = waiting }) r)
opened_near s r waiting is room q h =
    elim (Has-push_cases (open_requests s) r q (subst (λ (qs : List Request). Has qs q) (opens s r waiting).requests h)) [
      | inl old ↦ room_is_near s room q old
      | inr same ↦ (let its = ap (λ (p : Request). p.id) same in omega (arith, its, is))
    ]

kept_near : (s : ClientState) (p : Reply) → is_expected s p ≡ true → AreNear s → AreNear (kept s p)
kept_near s p e near q h =
    near q (subst (λ (qs : List Request). Has qs q) (keeps s p (expected_is_open s p e)).requests h)

closed_near : (s : ClientState) (id : ℕ) (leaders : Reply) → AreNear s → AreNear (accepts s id leaders)
closed_near s id leaders near q h =
    let left = subst (λ (qs : List Request). Has qs q) (closes s id leaders).requests h in
    near q (Has-from_filter (λ (r : Request). not (r.id == id)) q (open_requests s) left).0

-- of these outputs, and of these replies
record IsSound (n number : ℕ) (outs : List Out) (came : List Reply) (s : ClientState) : Type 0 where
  kept : IsKept n number came s
  near : AreNear s
  recent : (a : Accept) → Has s.recent a → IsRecent n number s.last_id outs came a

module _ (n number : ℕ) (outs : List Out) (came : List Reply) (s : ClientState) (x : Given) (sound : IsSound n number outs came s)
    (brings : (p : Reply) → Has (reply_of x) p → Has came p) where
  -- the acceptance that is given now
  new_is_recent : (p leaders : Reply) → is_expected s p ≡ true → Has (reply_of x) p → quorum_with s p ≡ Some leaders
      → Has outs (Accepted s.number p.id leaders.result)
      → IsRecent n number s.last_id outs came (record { id = p.id; slot = leaders.slot; result = leaders.result })
  new_is_recent p leaders e has quorum given =
      let q = open_has s p.id (expected_is_open s p e) in
      let near = sound.near q.0 q.1 in
      let its = q.2 in
      let g = accepted_now n number came s x sound.kept brings p leaders e has quorum in
      record {
        given = subst (λ (i : ℕ). Has outs (Accepted i p.id leaders.result)) sound.kept.mine given;
        near = omega (arith, near, its);
        agreed = g.0;
        at_slot = g.1;
      }

  still_recent : (a : Accept) → Has (recent_at (s.last_id + 1) s.recent) a → IsRecent n number (s.last_id + 1) outs came a
  still_recent a has =
      let left = Has-from_filter (λ (b : Accept). nat_lt (s.last_id + 1) (b.id + WINDOW)) a s.recent has in
      let old = sound.recent a left.0 in
      record {
        given = old.given;
        near = ltb-true (s.last_id + 1) (a.id + WINDOW) left.1;
        agreed = old.agreed;
        at_slot = old.at_slot;
      }

  row_sound : (y : ClientState × List Out) → Row s x y → ((o : Out) → Has y.1 o → Has outs o) → IsSound n number outs came y.0
  row_sound y (Rests nothing) covers = sound
  row_sound y (SaysBusy op is busy) covers = sound
  row_sound y (Opens op waiting may from) covers = record {
    kept = still_kept n number came s x sound.kept brings y (Opens op waiting may from);
    near = opened_near s (request_of s op) waiting refl (and_parts (has_room s) (nat_lt s.last_id (2 ^ 64 - 1)) may).0;
    recent = still_recent;
  }
  row_sound y (Repeats is) covers = sound
  row_sound y (Keeps p has e quorum) covers = record {
    kept = still_kept n number came s x sound.kept brings y (Keeps p has e quorum);
    near = kept_near s p e sound.near;
    recent = sound.recent;
  }
  row_sound y (Accepts p leaders has e quorum) covers =
      let a : Accept = record { id = p.id; slot = leaders.slot; result = leaders.result } in
      record {
        kept = still_kept n number came s x sound.kept brings y (Accepts p leaders has e quorum);
        near = closed_near (kept s p) p.id leaders (kept_near s p e sound.near);
        recent = λ b here. elim (Has-push_cases s.recent a b here) [
          | inl old ↦ sound.recent b old
          | inr same ↦
              let given = covers (Accepted s.number p.id leaders.result) (zero, refl) in
              subst (IsRecent n number s.last_id outs came) same (new_is_recent p leaders e has quorum given)
        ];
      }

sound_after : (n number : ℕ) (outs : List Out) (came : List Reply) (xs : List Given) → ((p : Reply) → Has (replies_of xs) p → Has came p)
    → (s : ClientState) → ((o : Out) → Has (gave s xs) o → Has outs o) → IsSound n number outs came s → IsSound n number outs came (after s xs)
sound_after n number outs came [] brings s covers sound = sound
sound_after n number outs came (x ∷ xs) brings s covers sound =
    sound_after n number outs came xs (λ p h. brings p (Has-append_right (reply_of x) (replies_of xs) p h)) (next s x).0
    (λ o h. covers o (Has-append_right (next s x).1 (gave (next s x).0 xs) o h))
    (row_sound n number outs came s x sound (λ p h. brings p (Has-append_left (reply_of x) (replies_of xs) p h)) (next s x) (row_of s x)
    (λ o h. covers o (Has-append_left (next s x).1 (gave (next s x).0 xs) o h)))

-- ---- what was given for one of the last ids is kept

-- each acceptance of these outputs
abbrev KeepsAll : List Out → ClientState → Type 0
KeepsAll outs s = (client id : ℕ) (result : List ℕ) → Has outs (Accepted client id result) → s.last_id < id + WINDOW
    → (a : Accept) × Has s.recent a × (a.id ≡ id)

-- where an output accepts, it is an old one, unless a new one does
accepted_before : (outs more : List Out) → ((client id : ℕ) (result : List ℕ) → Has more (Accepted client id result) → ⊥)
    → (client id : ℕ) (result : List ℕ) → Has (outs ++ more) (Accepted client id result) → Has outs (Accepted client id result)
accepted_before outs more none client id result h = elim (Has-append_cases outs more (Accepted client id result) h) [
  | inl old ↦ old
  | inr new ↦ absurd (none client id result new)
]

row_keeps : (outs : List Out) (s : ClientState) (x : Given) → KeepsAll outs s → (y : ClientState × List Out) → Row s x y
    → KeepsAll (outs ++ y.1) y.0
row_keeps outs s x keeps_all y (Rests nothing) client id result h near =
    keeps_all client id result (accepted_before outs [] (λ c i r g. Has-none (Accepted c i r) g) client id result h) near
row_keeps outs s x keeps_all y (SaysBusy op is busy) client id result h near =
    keeps_all client id result (accepted_before outs (Busy s.number ∷ [])
    (λ c i r g. let e = Has-one (Accepted c i r) (Busy s.number) g in cc) client id result h) near
row_keeps outs s x keeps_all y (Opens op waiting may from) client id result h near =
    let r = request_of s op in
    let old = accepted_before outs (Submitted r ∷ sent r ∷ []) (begun_none r) client id result h in
    let a = keeps_all client id result old (omega (arith, near)) in
    let its = a.2 in
    (a.0, near_stays s r waiting a.0 a.1 (omega (arith, its, near)), a.2)
row_keeps outs s x keeps_all y (Repeats is) client id result h near =
    keeps_all client id result (accepted_before outs (map sent (open_requests s)) (sent_none (open_requests s)) client id result h) near
row_keeps outs s x keeps_all y (Keeps p has e quorum) client id result h near =
    keeps_all client id result (accepted_before outs [] (λ c i r g. Has-none (Accepted c i r) g) client id result h) near
row_keeps outs s x keeps_all y (Accepts p leaders has e quorum) client id result h near =
    let a : Accept = record { id = p.id; slot = leaders.slot; result = leaders.result } in
    elim (Has-append_cases outs (Accepted s.number p.id leaders.result ∷ []) (Accepted client id result) h) [
      | inl old ↦ (let b = keeps_all client id result old near in (b.0, Has-append_left s.recent (a ∷ []) b.0 b.1, b.2))
      | inr new ↦
          let same = Has-one (Accepted client id result) (Accepted s.number p.id leaders.result) new in
          let is : p.id ≡ id = cc in
          (a, Has-push s.recent a, is)
    ]

keeps_after : (outs : List Out) (xs : List Given) (s : ClientState) → KeepsAll outs s → KeepsAll (outs ++ gave s xs) (after s xs)
keeps_after outs [] s keeps_all = λ client id result h near.
    keeps_all client id result (accepted_before outs [] (λ c i r g. Has-none (Accepted c i r) g) client id result h) near
keeps_after outs (x ∷ xs) s keeps_all =
    let y = next s x in
    subst (λ (os : List Out). KeepsAll os (after y.0 xs)) (append_assoc outs y.1 (gave y.0 xs))
    (keeps_after (outs ++ y.1) xs y.0 (row_keeps outs s x keeps_all y (row_of s x)))

-- one result is given at a place
same_result : (outs : List Out) (i j client other id : ℕ) (a b : List ℕ) → slice_get outs i ≡ Some (Accepted client id a)
    → slice_get outs j ≡ Some (Accepted other id b) → i ≡ j → a ≡ b
same_result outs i j client other id a b e f same =
    let both : Some (Accepted client id a) ≡ Some (Accepted other id b) = sym e ∙ ap (λ (k : ℕ). slice_get outs k) same ∙ f in
    cc

-- ---- in a run

module _ (config : Configuration) (number : ℕ) (ops : List (List ℕ)) (inputs : List Given) where
  abbrev start : ClientState
  start = opening config number ops

  abbrev end : ClientState
  end = after start inputs

  abbrev outs : List Out
  outs = gave start inputs

  sound : IsSound config.replicas number outs (replies_of inputs) end
  sound = sound_after config.replicas number outs (replies_of inputs) inputs (λ p h. h) start (λ o h. h) (record {
    kept = opening_kept config number ops (replies_of inputs);
    near = λ q h. absurd (Has-none q (subst (λ (qs : List Request). Has qs q) (opening_opens_none config number ops) h));
    recent = λ a h. absurd (Has-none a h);
  })

  pub recent_kept : (id : ℕ) (a : Accept) → accepted_in end.recent id ≡ Some a
      → (a.id ≡ id) × IsRecent config.replicas number end.last_id outs (replies_of inputs) a
  recent_kept id a e =
      let found = Has-from_find (λ (b : Accept). b.id == id) end.recent a e in
      (eqb-true a.id id found.1, sound.recent a found.0)

  -- a kept one of the id is found
  finds : (id : ℕ) (a : Accept) → Has end.recent a → a.id ≡ id → (b : Accept) × (accepted_in end.recent id ≡ Some b)
  finds id a has is = find-some (λ (b : Accept). b.id == id) end.recent a has (eq-eqb a.id id is)

  pub given_found : (client id : ℕ) (result : List ℕ) → Has outs (Accepted client id result) → end.last_id < id + WINDOW
      → (a : Accept) × (accepted_in end.recent id ≡ Some a) × (a.result ≡ result)
  given_found client id result h near =
      let a = keeps_after [] inputs start (λ c i r g. absurd (Has-none (Accepted c i r) g)) client id result h near in
      let b = finds id a.0 a.1 a.2 in
      let its = recent_kept id b.0 b.1 in
      let g : Has outs (Accepted number id b.0.result) =
      subst (λ (i : ℕ). Has outs (Accepted number i b.0.result)) its.0 its.1.given in
      let one = accepted_once config number ops inputs g.0 h.0 number client id b.0.result result g.1 h.1 in
      (b.0, b.1, same_result outs g.0 h.0 number client id b.0.result result g.1 h.1 one)

  pub known : (id : ℕ) → 1 ≤ id → id ≤ end.last_id → end.last_id < id + WINDOW → accepted_in end.recent id ≡ None → is_open end id ≡ true
  known id low high near none =
      elim (knows_after inputs start (λ i l g n. absurd (let none : i ≤ 0 = g in omega (arith, l, none))) id low high near) [
        | inl open_ ↦ open_
        | inr a ↦ (let b = finds id a.0 a.1 a.2 in absurd (none-some b.0 (sym none ∙ b.1)))
      ]
