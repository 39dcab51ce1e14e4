-- When a client accepts.
use Rattle.std.proofs.Common.{◌≡◌, ℕ, zero, suc, ◌+◌, ◌≤◌, Bool, true, false, cond, Option, Some, None, refl, sym, ap, subst, ◌∙◌, arith}
use Rattle.std.proofs.Common.{List, [], ◌∷◌}
use Rattle.std.specs.Prelude.{◌==◌, ◌&&◌, ◌/◌, nat_le, find, count_by, slice_get, if◌then◌else◌}
use Rattle.std.proofs.lemmas.List.Sums.{length-filter}
use Rattle.std.proofs.lemmas.Bool.{eq-eqb, leb-true, le-leb, and_from, and_parts, eqb-true}
use Rattle.std.proofs.lemmas.Option.{none-some, same_Some}
use Rattle.nop_types.specs.Lists.{Has}
use Rattle.nop_types.specs.Views.{is_view, leader_of}
use Rattle.nop_types.specs.declared.view.View.{View}
use Rattle.nop_types.specs.declared.datagram.Reply.{Reply}
use Rattle.nop_types.specs.declared.output.Out.{Out}
use Rattle.nop_types.specs.declared.output.Out.TheVariants.{Accepted}
use Rattle.lemmas.proofs.Views.{is_view-true, is_view-same}
use Rattle.lemmas.proofs.Members.{Has-none, Has-from_find, find-some}
use Rattle.client_quorum.specs.declared.state.ClientState.{ClientState}
use Rattle.client_quorum.specs.ClientSteps.{is_expected, kept, accept_if, reply_if, reply}
use Rattle.client_quorum.specs.KeptReplies.{HasOneEach, keep_reply, matches, is_leaders, quorum_of}
use Rattle.client_quorum.specs.OpenRequests.{kept_for}
use Rattle.client_quorum.specs.Runs.{HasQuorum}
use Rattle.client_quorum.proofs.KeptReplies.{above, times, times_is, kept_one_each}
use Rattle.client_quorum.proofs.OpenRequests.{quorum_here}

pub matched : (v : View) (slot : ℕ) (p : Reply) → matches v slot p ≡ true → (p.view ≡ v) × (p.slot ≡ slot)
matched v slot p e =
    let t = and_parts (is_view p.view v) (p.slot == slot) e in
    (is_view-true p.view v t.0, eqb-true p.slot slot t.1)

pub is_matched : (v : View) (slot : ℕ) (p : Reply) → p.view ≡ v → p.slot ≡ slot → matches v slot p ≡ true
is_matched v slot p at_view at_slot = rw (is_view-same p.view v at_view) (eq-eqb p.slot slot at_slot)

-- ---- a replica has one kept reply

once_more : (b : Bool) (n : ℕ) → b ≡ true → cond b (1 + n) n ≡ 1 + n
once_more true n e = refl
once_more false n e = absurd cc

first_counts : (r : ℕ) (k a : Reply) (ks : List Reply) → Some k ≡ Some a → a.replica ≡ r → times r (k ∷ ks) ≡ 1 + times r ks
first_counts r k a ks e of =
    once_more (k.replica == r) (times r ks) (eq-eqb k.replica r (ap (λ (x : Reply). x.replica) (same_Some k a e) ∙ of))

counted : (r : ℕ) (ks : List Reply) (i : ℕ) (a : Reply) → slice_get ks i ≡ Some a → a.replica ≡ r → 1 ≤ times r ks
counted r [] i a e of = absurd (none-some a e)
counted r (k ∷ ks) zero a e of = let h = first_counts r k a ks e of in omega (arith, h)
counted r (k ∷ ks) (suc i) a e of =
    let h = counted r ks i a e of in
    let g = above (k.replica == r) (times r ks) in
    omega (arith, h, g)

one_at : (r : ℕ) (ks : List Reply) → times r ks ≤ 1 → (i j : ℕ) (a b : Reply) → slice_get ks i ≡ Some a → a.replica ≡ r
    → slice_get ks j ≡ Some b → b.replica ≡ r → a ≡ b
one_at r [] few i j a b e of f to = absurd (none-some a e)
one_at r (k ∷ ks) few zero zero a b e of f to = same_Some a b (sym e ∙ f)
one_at r (k ∷ ks) few zero (suc j) a b e of f to =
    let h = first_counts r k a ks e of in
    let g = counted r ks j b f to in
    absurd (omega (arith, few, h, g))
one_at r (k ∷ ks) few (suc i) zero a b e of f to =
    let h = first_counts r k b ks f to in
    let g = counted r ks i a e of in
    absurd (omega (arith, few, h, g))
one_at r (k ∷ ks) few (suc i) (suc j) a b e of f to =
    let g = above (k.replica == r) (times r ks) in
    one_at r ks (omega (arith, few, g)) i j a b e of f to

pub same_reply : (ks : List Reply) (a b : Reply) → HasOneEach ks → Has ks a → Has ks b → a.replica ≡ b.replica → a ≡ b
same_reply ks a b one has_a has_b same =
    let t = times_is b.replica ks in
    let o = one b.replica in
    one_at b.replica ks (omega (arith, t, o)) has_a.0 has_b.0 a b has_a.1 same has_b.1 refl

-- ---- a quorum

module _ (n : ℕ) (ks : List Reply) (v : View) (slot : ℕ) where
  abbrev Test : Reply → Bool
  Test k = matches v slot k && is_leaders n k

  quorum_at : (z : Reply) (b : Bool) → nat_le (n / 2 + 1) (count_by (matches v slot) ks) ≡ b
      → (if b then find (λ k. matches v slot k && is_leaders n k) ks else None) ≡ Some z
      → (q : HasQuorum n ks v slot z.result) × (q.leaders ≡ z)
  quorum_at z true t e =
      let found = Has-from_find (λ k. matches v slot k && is_leaders n k) ks z e in
      let tests = and_parts (matches v slot z) (is_leaders n z) found.1 in
      let place = matched v slot z tests.0 in
      let leading = and_parts (z.replica == leader_of z.view n) (z.tag == 1) tests.1 in
      let many = leb-true (n / 2 + 1) (count_by (matches v slot) ks) t in
      let counts = length-filter (matches v slot) ks in
      let q : HasQuorum n ks v slot z.result = record {
        enough = omega (arith, many, counts);
        leaders = z;
        member = found.0;
        at_view = place.0;
        at_slot = place.1;
        leads = eqb-true z.replica (leader_of z.view n) leading.0 ∙ ap (λ (w : View). leader_of w n) place.0;
        tagged = eqb-true z.tag 1 leading.1;
        brings = refl;
      } in
      (q, refl)
  quorum_at z false t e = absurd (none-some z e)

  pub has_quorum : (z : Reply) → quorum_of n ks v slot ≡ Some z → HasQuorum n ks v slot z.result
  has_quorum z e = (quorum_at z (nat_le (n / 2 + 1) (count_by (matches v slot) ks)) refl e).0

  -- the reply that is taken is at the slot
  pub leads_there : (z : Reply) → quorum_of n ks v slot ≡ Some z → z.slot ≡ slot
  leads_there z e =
      let q = quorum_at z (nat_le (n / 2 + 1) (count_by (matches v slot) ks)) refl e in
      sym (ap (λ (k : Reply). k.slot) q.1) ∙ q.0.at_slot

  leads_at : (z : Reply) → z.view ≡ v → z.replica ≡ leader_of v n → z.tag ≡ 1 → is_leaders n z ≡ true
  leads_at z at_view leads tagged =
      rw (eq-eqb z.replica (leader_of z.view n) (leads ∙ ap (λ (w : View). leader_of w n) (sym at_view))) (eq-eqb z.tag 1 tagged)

  pub gets_quorum : (result : List ℕ) → HasOneEach ks → HasQuorum n ks v slot result
      → (z : Reply) × (quorum_of n ks v slot ≡ Some z) × (z.result ≡ result)
  gets_quorum result one q =
      let counts = length-filter (matches v slot) ks in
      let many : n / 2 + 1 ≤ count_by (matches v slot) ks = omega (arith, q.enough, counts) in
      let test =
      and_from (matches v slot q.leaders) (is_leaders n q.leaders) (is_matched v slot q.leaders q.at_view q.at_slot)
      (leads_at q.leaders q.at_view q.leads q.tagged) in
      let z = find-some (λ k. matches v slot k && is_leaders n k) ks q.leaders q.member test in
      let taken : quorum_of n ks v slot ≡ Some z.0 = rw (le-leb (n / 2 + 1) (count_by (matches v slot) ks) many) z.1 in
      let its = has_quorum z.0 taken in
      let found = Has-from_find (λ k. matches v slot k && is_leaders n k) ks z.0 z.1 in
      let tests = and_parts (matches v slot z.0) (is_leaders n z.0) found.1 in
      let place = matched v slot z.0 tests.0 in
      let leading = and_parts (z.0.replica == leader_of z.0.view n) (z.0.tag == 1) tests.1 in
      let leads : z.0.replica ≡ leader_of v n =
      eqb-true z.0.replica (leader_of z.0.view n) leading.0 ∙ ap (λ (w : View). leader_of w n) place.0 in
      (z.0, taken, ap (λ (k : Reply). k.result) (same_reply ks z.0 q.leaders one found.0 q.member (leads ∙ sym q.leads)) ∙ q.brings)

-- ---- a reply accepts

module _ (s : ClientState) (p : Reply) (result : List ℕ) (e : is_expected s p ≡ true) where
  -- what is kept for its request, with it
  abbrev its : List Reply
  its = keep_reply (kept_for s p.id) p

  abbrev Quorate : Type 0
  Quorate = HasQuorum s.config.replicas its p.view p.slot result

  accepted_at : (o : Option Reply) → quorum_of s.config.replicas its p.view p.slot ≡ o
      → Has (accept_if (kept s p) p.id o).1 (Accepted s.number p.id result) → Quorate
  accepted_at None is has = absurd (Has-none (Accepted s.number p.id result) has)
  accepted_at (Some z) is (zero, h) =
      let same : z.result ≡ result = cc in
      subst (λ (r : List ℕ). HasQuorum s.config.replicas its p.view p.slot r) same
      (has_quorum s.config.replicas its p.view p.slot z is)
  accepted_at (Some z) is (suc i, h) = absurd (none-some (Accepted s.number p.id result) h)

  -- what the reply makes of the client
  does : reply s p ≡ accept_if (kept s p) p.id (quorum_of s.config.replicas its p.view p.slot)
  does =
      ap (λ (b : Bool). reply_if b s p) e
      ∙ ap (λ (o : Option Reply). accept_if (kept s p) p.id o) (quorum_here s p e)

  pub accepted_by : Has (reply s p).1 (Accepted s.number p.id result) → Quorate
  accepted_by has =
      accepted_at (quorum_of s.config.replicas its p.view p.slot) refl
      (subst (λ (y : ClientState × List Out). Has y.1 (Accepted s.number p.id result)) does has)

  pub accepts_by : HasOneEach (kept_for s p.id) → Quorate → Has (reply s p).1 (Accepted s.number p.id result)
  accepts_by one q =
      let z = gets_quorum s.config.replicas its p.view p.slot result (kept_one_each p (kept_for s p.id) one) q in
      subst (λ (y : ClientState × List Out). Has y.1 (Accepted s.number p.id result)) (sym does)
      (subst (λ (o : Option Reply). Has (accept_if (kept s p) p.id o).1 (Accepted s.number p.id result)) (sym z.1)
      (zero, ap (λ (r : List ℕ). Some (Accepted s.number p.id r)) z.2))
