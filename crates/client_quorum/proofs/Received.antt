-- What is kept for a request came in replies to it, so f + 1 replicas replied where a client accepts.
use Rattle.std.proofs.Common.{◌≡◌, ℕ, zero, suc, ◌+◌, ◌<◌, ◌≤◌, true, Some, refl, sym, ap, subst, ◌∙◌, inl, inr, arith, List, []}
use Rattle.std.proofs.Common.{◌∷◌, ◌++◌}
use Rattle.std.specs.Prelude.{◌⊎◌, ◌==◌, ◌&&◌, ◌/◌, length, nat_lt, not, filter}
use Rattle.std.proofs.lemmas.Bool.{ltb-true, and_parts, cases_eq, eqb-true}
use Rattle.nop_types.specs.Configuration.{Configuration}
use Rattle.nop_types.specs.Given.{Given}
use Rattle.nop_types.specs.Lists.{Has}
use Rattle.nop_types.specs.Views.{leader_of}
use Rattle.nop_types.specs.declared.view.View.{View}
use Rattle.nop_types.specs.declared.datagram.Reply.{Reply}
use Rattle.nop_types.specs.declared.output.Out.{Out}
use Rattle.nop_types.specs.declared.output.Out.TheVariants.{Accepted, Busy}
use Rattle.lemmas.proofs.Members.{Has-none, Has-one, Has-rest, Has-append_left, Has-append_right, Has-from_filter, Has-filter, Has-push_cases}
use Rattle.client_quorum.specs.declared.state.ClientState.{ClientState}
use Rattle.client_quorum.specs.ClientSteps.{opening, next, begin, request_of, is_expected, kept, accepts}
use Rattle.client_quorum.specs.KeptReplies.{HasOneEach, keep_reply, matches}
use Rattle.client_quorum.specs.OpenRequests.{is_open, kept_for, open_requests}
use Rattle.client_quorum.specs.Rows.{Row, Rests, SaysBusy, Opens, Repeats, Keeps, Accepts, quorum_with}
use Rattle.client_quorum.specs.Runs.{after, replies_of, reply_of, HasQuorum, IsAgreed}
use Rattle.client_quorum.proofs.KeptReplies.{times_is, fewer, kept_one_each}
use Rattle.client_quorum.proofs.OpenRequests.{closes, expected_is_open, keeps, opening_keeps_none, opens}
use Rattle.client_quorum.proofs.Quorums.{matched, is_matched, has_quorum, leads_there}
use Rattle.client_quorum.proofs.RowLemmas.{begun_none, row_of, sent_none}

-- a reply that is kept for an id came, from a replica, for the client and the id
pub record KeptFits (all : List Reply) (s : ClientState) (id : ℕ) (k : Reply) : Type 0 where
  pub came : Has all k
  pub within : k.replica < s.config.replicas
  pub of_client : k.client ≡ s.number
  pub of_id : k.id ≡ id

pub record IsKept (n number : ℕ) (all : List Reply) (s : ClientState) : Type 0 where
  pub replicas : s.config.replicas ≡ n
  pub mine : s.number ≡ number
  pub one_each : (id : ℕ) → HasOneEach (kept_for s id)
  pub each : (id : ℕ) (k : Reply) → Has (kept_for s id) k → KeptFits all s id k

none_each : HasOneEach []
none_each r = omega arith

matching_one_each : (v : View) (slot : ℕ) (ks : List Reply) → HasOneEach ks → HasOneEach (filter (matches v slot) ks)
matching_one_each v slot ks one r =
    let a = times_is r ks in
    let b = times_is r (filter (matches v slot) ks) in
    let c = fewer r (matches v slot) ks in
    let d = one r in
    omega (arith, a, b, c, d)

-- for each id what was kept stays, or nothing
abbrev Stays : ClientState → ClientState → Type 0
Stays s t = (id : ℕ) → (kept_for t id ≡ kept_for s id) ⊎ (kept_for t id ≡ [])

kept_still : (n number : ℕ) (all : List Reply) (s t : ClientState) → t.config.replicas ≡ s.config.replicas → t.number ≡ s.number → Stays s t
    → IsKept n number all s → IsKept n number all t
kept_still n number all s t replicas same stays k = record {
  replicas = replicas ∙ k.replicas;
  mine = same ∙ k.mine;
  one_each = λ id. elim (stays id) [
    | inl e ↦ subst HasOneEach (sym e) (k.one_each id)
    | inr e ↦ subst HasOneEach (sym e) none_each
  ];
  each = λ id p h. elim (stays id) [
    | inl e ↦
        let f = k.each id p (subst (λ (l : List Reply). Has l p) e h) in
        record {
          came = f.came;
          within = subst (λ (m : ℕ). p.replica < m) (sym replicas) f.within;
          of_client = f.of_client ∙ sym same;
          of_id = f.of_id;
        }
    | inr e ↦ absurd (Has-none p (subst (λ (l : List Reply). Has l p) e h))
  ];
}

module _ (n number : ℕ) (all : List Reply) (s : ClientState) (x : Given) (kept_so : IsKept n number all s)
    (covers : (p : Reply) → Has (reply_of x) p → Has all p) where
  its_own : (p : Reply) → is_expected s p ≡ true → Has (reply_of x) p → KeptFits all s p.id p
  its_own p e has =
      let t = and_parts (p.client == s.number) (is_open s p.id && nat_lt p.replica s.config.replicas) e in
      let u = and_parts (is_open s p.id) (nat_lt p.replica s.config.replicas) t.1 in
      record {
        came = covers p has;
        within = ltb-true p.replica s.config.replicas u.1;
        of_client = eqb-true p.client s.number t.0;
        of_id = refl;
      }

  -- those of its id, with the reply that came
  each_kept : (p : Reply) → is_expected s p ≡ true → Has (reply_of x) p → (k : Reply) → Has (keep_reply (kept_for s p.id) p) k
      → KeptFits all s p.id k
  each_kept p e has k h = elim (Has-push_cases (filter (λ k. not (k.replica == p.replica)) (kept_for s p.id)) p k h) [
    | inl old ↦ kept_so.each p.id k (Has-from_filter (λ k. not (k.replica == p.replica)) k (kept_for s p.id) old).0
    | inr same ↦ subst (KeptFits all s p.id) same (its_own p e has)
  ]

  each_now : (p : Reply) → is_expected s p ≡ true → Has (reply_of x) p → (id : ℕ) (k : Reply) → Has (kept_for (kept s p) id) k
      → KeptFits all s id k
  each_now p e has id k h =
      let now = keeps s p (expected_is_open s p e) in
      elim (cases_eq id p.id) [
        | inl same ↦
            let at : Has (kept_for (kept s p) p.id) k = subst (λ (i : ℕ). Has (kept_for (kept s p) i) k) same h in
            subst (λ (i : ℕ). KeptFits all s i k) (sym same) (each_kept p e has k (subst (λ (l : List Reply). Has l k) now.here at))
        | inr apart ↦ kept_so.each id k (subst (λ (l : List Reply). Has l k) (now.others id apart) h)
      ]

  one_now : (p : Reply) → is_expected s p ≡ true → (id : ℕ) → HasOneEach (kept_for (kept s p) id)
  one_now p e id =
      let now = keeps s p (expected_is_open s p e) in
      elim (cases_eq id p.id) [
        | inl same ↦
            subst (λ (i : ℕ). HasOneEach (kept_for (kept s p) i)) (sym same)
            (subst HasOneEach (sym now.here) (kept_one_each p (kept_for s p.id) (kept_so.one_each p.id)))
        | inr apart ↦ subst HasOneEach (sym (now.others id apart)) (kept_so.one_each id)
      ]

  with_reply : (p : Reply) → is_expected s p ≡ true → Has (reply_of x) p → IsKept n number all (kept s p)
  with_reply p e has = record {
    replicas = kept_so.replicas;
    mine = kept_so.mine;
    one_each = one_now p e;
    each = λ id k h. let f = each_now p e has id k h in record { came = f.came; within = f.within; of_client = f.of_client; of_id = f.of_id };
  }

  closed_kept : (p leaders : Reply) → is_expected s p ≡ true → Has (reply_of x) p
      → IsKept n number all (accepts (kept s p) p.id leaders)
  closed_kept p leaders e has =
      let now = closes (kept s p) p.id leaders in
      kept_still n number all (kept s p) (accepts (kept s p) p.id leaders) refl refl
      (λ id. elim (cases_eq id p.id) [
        | inl same ↦ inr (ap (kept_for (accepts (kept s p) p.id leaders)) same ∙ now.here)
        | inr apart ↦ inl (now.others id apart)
      ])
      (with_reply p e has)

  pub still_kept : (y : ClientState × List Out) → Row s x y → IsKept n number all y.0
  still_kept y (Rests nothing) = kept_so
  still_kept y (SaysBusy op is busy) = kept_so
  still_kept y (Opens op waiting may from) =
      kept_still n number all s (begin (record s { waiting = waiting }) (request_of s op)).0 refl refl
      (λ id. inl ((opens s (request_of s op) waiting).kept id)) kept_so
  still_kept y (Repeats is) = kept_so
  still_kept y (Keeps p has e quorum) = with_reply p e has
  still_kept y (Accepts p leaders has e quorum) = closed_kept p leaders e has

  -- ---- an output that accepts

  abbrev its : Reply → List Reply
  its p = kept_for (kept s p) p.id

  agreed : (p : Reply) → is_expected s p ≡ true → Has (reply_of x) p → (result : List ℕ)
      → HasQuorum s.config.replicas (its p) p.view p.slot result → (g : IsAgreed n all number p.id result) × (g.slot ≡ p.slot)
  agreed p e has result q =
      let now = with_reply p e has in
      let g : IsAgreed n all number p.id result = record {
        view = p.view;
        slot = p.slot;
        replies = filter (matches p.view p.slot) (its p);
        enough = subst (λ (m : ℕ). m / 2 + 1 ≤ length (filter (matches p.view p.slot) (its p))) kept_so.replicas q.enough;
        one_each = matching_one_each p.view p.slot (its p) (now.one_each p.id);
        received = λ k h. (now.each p.id k (Has-from_filter (matches p.view p.slot) k (its p) h).0).came;
        fits = λ k h.
            let m = Has-from_filter (matches p.view p.slot) k (its p) h in
            let f = now.each p.id k m.0 in
            let place = matched p.view p.slot k m.1 in
            record {
              within = subst (λ (i : ℕ). k.replica < i) kept_so.replicas f.within;
              of_client = f.of_client ∙ kept_so.mine;
              of_id = f.of_id;
              at_view = place.0;
              at_slot = place.1;
            };
        leaders = q.leaders;
        member =
            Has-filter (matches p.view p.slot) q.leaders (its p) q.member (is_matched p.view p.slot q.leaders q.at_view q.at_slot);
        leads = subst (λ (m : ℕ). q.leaders.replica ≡ leader_of p.view m) kept_so.replicas q.leads;
        tagged = q.tagged;
        brings = q.brings;
      } in
      (g, refl)

  -- where a reply makes a quorum, the leader's is at the slot at which they agreed
  pub accepted_now : (p leaders : Reply) → is_expected s p ≡ true → Has (reply_of x) p → quorum_with s p ≡ Some leaders
      → (g : IsAgreed n all number p.id leaders.result) × (g.slot ≡ leaders.slot)
  accepted_now p leaders e has quorum =
      let g = agreed p e has leaders.result (has_quorum s.config.replicas (its p) p.view p.slot leaders quorum) in
      (g.0, g.1 ∙ sym (leads_there s.config.replicas (its p) p.view p.slot leaders quorum))

  row_agreed : (y : ClientState × List Out) → Row s x y → (client id : ℕ) (result : List ℕ) → Has y.1 (Accepted client id result)
      → IsAgreed n all number id result
  row_agreed y (Rests nothing) client id result h = absurd (Has-none (Accepted client id result) h)
  row_agreed y (SaysBusy op is busy) client id result h = absurd (let e = Has-one (Accepted client id result) (Busy s.number) h in cc)
  row_agreed y (Opens op waiting may from) client id result h = absurd (begun_none (request_of s op) client id result h)
  row_agreed y (Repeats is) client id result h = absurd (sent_none (open_requests s) client id result h)
  row_agreed y (Keeps p has e quorum) client id result h = absurd (Has-none (Accepted client id result) h)
  row_agreed y (Accepts p leaders has e quorum) client id result h =
      let same = Has-one (Accepted client id result) (Accepted s.number p.id leaders.result) h in
      let same_id : p.id ≡ id = cc in
      let brings : leaders.result ≡ result = cc in
      subst (λ (k : ℕ). IsAgreed n all number k result) same_id
      (subst (λ (r : List ℕ). IsAgreed n all number p.id r) brings (accepted_now p leaders e has quorum).0)

kept_after : (n number : ℕ) (all : List Reply) (xs : List Given) → ((p : Reply) → Has (replies_of xs) p → Has all p) → (s : ClientState)
    → IsKept n number all s → IsKept n number all (after s xs)
kept_after n number all [] covers s k = k
kept_after n number all (x ∷ xs) covers s k =
    kept_after n number all xs (λ p h. covers p (Has-append_right (reply_of x) (replies_of xs) p h)) (next s x).0
    (still_kept n number all s x k (λ p h. covers p (Has-append_left (reply_of x) (replies_of xs) p h)) (next s x) (row_of s x))

pub opening_kept : (config : Configuration) (number : ℕ) (ops : List (List ℕ)) (all : List Reply)
    → IsKept config.replicas number all (opening config number ops)
opening_kept config number ops all = record {
  replicas = refl;
  mine = refl;
  one_each = λ id. subst HasOneEach (sym (opening_keeps_none config number ops id)) none_each;
  each = λ id k h. absurd (Has-none k (subst (λ (l : List Reply). Has l k) (opening_keeps_none config number ops id) h));
}

-- what came is in all that came
early : (past : List Given) (x : Given) (p : Reply) → Has (replies_of past) p → Has (replies_of (past ++ x ∷ [])) p
early [] x p h = absurd (Has-none p h)
early (y ∷ past) x p h = early_at (reply_of y) (early past x p) h
  where
    early_at : (first : List Reply) → (Has (replies_of past) p → Has (replies_of (past ++ x ∷ [])) p) → Has (first ++ replies_of past) p
        → Has (first ++ replies_of (past ++ x ∷ [])) p
    early_at [] rest h = rest h
    early_at (k ∷ ks) rest (zero, e) = (zero, e)
    early_at (k ∷ ks) rest (suc i, e) = Has-rest p k (ks ++ replies_of (past ++ x ∷ [])) (early_at ks rest (i, e))

last_one : (past : List Given) (x : Given) (p : Reply) → Has (reply_of x) p → Has (replies_of (past ++ x ∷ [])) p
last_one [] x p h = Has-append_left (reply_of x) [] p h
last_one (y ∷ past) x p h = Has-append_right (reply_of y) (replies_of (past ++ x ∷ [])) p (last_one past x p h)

pub accepts_replied : (config : Configuration) (number : ℕ) (ops : List (List ℕ)) (past : List Given) (x : Given) (client id : ℕ)
    (result : List ℕ)
    → Has (next (after (opening config number ops) past) x).1 (Accepted client id result)
    → IsAgreed config.replicas (replies_of (past ++ x ∷ [])) number id result
accepts_replied config number ops past x =
    let s : ClientState = after (opening config number ops) past in
    let all = replies_of (past ++ x ∷ []) in
    row_agreed config.replicas number all s x
    (kept_after config.replicas number all past (early past x) (opening config number ops) (opening_kept config number ops all))
    (last_one past x) (next s x) (row_of s x)
